-- The one statement over the table of worked networks: every entry is right. Both sides of each equation are computed and are the same; that a drain counts the sum
-- of (hops + 3) from any seed is its law, so of the moves only that sum is computed.
use Rattle.std.specs.Prelude.{Ok}
use mathlib.Core.Path.{◌≡◌, refl, ◌∙◌, ap, subst⁻¹}
use mathlib.Core.Bool.{Bool, true, false}
use mathlib.Core.List.Memᴰ
use mathlib.Core.List.{List, [], ◌∷◌, Memᴰ}
use mathlib.Core.Logic.{⊎_elim}
use Prim.Native.Nat.{ℕ}
use Rattle.finite.specs.Truth.{◌&◌, ◌or◌, non, same, below}
use Rattle.finite.specs.Sum.{sum_to}
use Rattle.finite.specs.Search.{any, all, least, least_value, lowest_at, least_by}
use Rattle.finite.specs.Sets.{has, set_of, without}
use Rattle.finite.specs.Lists.{up_from, tabulate, padded, joined_up}
use Rattle.graph.specs.Network.{among, degree}
use Rattle.graph.specs.Reach.{grow, spread, reach, covers, joined, connected, cut}
use Rattle.network.specs.Table.{joins, linked_by, linked}
use Rattle.lawful.specs.Turn.{rises, falls, prohibited, label_in}
use Rattle.lawful.specs.Entry.{leads, joining, layer, lowest_lead, first_layer, entry, free_after, follow, route_of}
use Rattle.rule.specs.Candidate.{room, candidate, choice}
use Rattle.rule.specs.Labels.{remains, give, stage, labelled, labels_of}
use Rattle.turns.specs.Turns.{turns_that, all_turns, prohibited_turns}
use Rattle.refusal.proofs.Verdicts.{then-fine}
use Rattle.cabling.specs.Cabling.{Cabling, links, Good}
use Rattle.cabling.specs.Faults.{is_counted, is_shaped, bad_ends, not_above, bad_pair, crowded, unreached, node_fault, link_fault, fault_of, is_above}
use Rattle.cabling.proofs.Meaning.{fault-fine}
use Rattle.hops.specs.Row.{row_known, table_in, row_in}
use Rattle.hops.specs.Hop.{class_after, onward_of, hop_known, hop_in, hop_within}
use Rattle.rows.specs.Tables.{rows_of}
use Rattle.fabric.specs.Fabric.{labels_for, rows_for, fabric_of}
use Rattle.format.specs.Contents.{links_kinds, full_kinds}
use Rattle.format.specs.Bytes.{entries_of, image_from}
use Rattle.image.specs.Image.{bodies_of, image_of, kinds_of}
use Rattle.image.proofs.Images.{read_cabling, image-accepted}
use Rattle.text.specs.Text.{places, decimal_of}
use Rattle.lines.specs.Lines.{fields_of}
use Rattle.sheets.specs.Sheet.{link_lines, sheet_of}
use Rattle.messages.specs.declared.Record.{Record}
use Rattle.messages.specs.Step.{is_delivered, unheld_in, by_hop, ahead_in, ahead_of, released, moved, arrived, step_of}
use Rattle.messages.specs.Fresh.{zeros, begun_of}
use Rattle.messages.specs.Runs.{messages_in, route_in, all_moves}
use Rattle.seeds.specs.Seed.{look_at}
use Rattle.start.specs.Start.{fits, strange, list_fault, start_fault, fresh_in, fresh_of}
use Rattle.picking.specs.Order.{pick_of}
use Rattle.draining.specs.Drained.{drain_of}
use Rattle.draining.proofs.Answers.{drain-record}
use Rattle.draining.proofs.Meaning.{end-moves}
use Rattle.by_hand.specs.Networks.{Load, Tries, Worked, link, triangle, path, ring, hub, all_four, blocks, worked}
use Rattle.by_hand.specs.Right.{Given, EveryHop, EveryLoad, answers_of, EveryTry, Right}

-- over either image of a good cabling a drain counts the sum of (hops + 3), whatever its seed
drained_moves : (c : Cabling) (list : List ℕ) → Good c → list_fault c.nodes list ≡ Ok tt → (full : Bool) (old : Record) (seed : ℕ)
    → (drain_of old (image_of (kinds_of full) c) list seed).«record».moves ≡ all_moves c.nodes (links c) (labels_for c) list
drained_moves c list g h full old seed =
    let b = image_of (kinds_of full) c in
    let e = read_cabling c g full in
    let fine : start_fault b list ≡ (Ok tt) = then-fine _ (image-accepted c g full) ∙ ap (λ (x : Cabling). list_fault x.nodes list) e ∙ h in
    ap (λ (r : Record). r.moves) (drain-record old b list seed refl fine) ∙ end-moves b list fine seed
    ∙ ap (λ (x : Cabling). all_moves x.nodes (links x) (labels_for x) list) e

-- what is to be computed of messages that drain, by labels that are computed before, and of moves that are tried
abbrev LoadBy : Cabling → List ℕ → Load → Type 0
LoadBy c labels l =
    (list_fault c.nodes l.messages ≡ Ok tt) × (all_moves c.nodes (links c) labels l.messages ≡ l.moves)
    × ((full : Bool) → (pick_of 0 (fresh_of (image_of (kinds_of full) c) l.messages)).look ≡ l.look)

abbrev EveryLoadBy : Cabling → List ℕ → List Load → Type 0
EveryLoadBy c labels [] = Unit {0}
EveryLoadBy c labels (l ∷ loads) = LoadBy c labels l × EveryLoadBy c labels loads

abbrev EveryTryBy : Cabling → List Tries → Type 0
EveryTryBy c [] = Unit {0}
EveryTryBy c (t ∷ l) = (answers_of (fresh_in (fabric_of c) t.messages) t.tried ≡ t.answers) × EveryTryBy c l

module _ (c : Cabling) (good : Good c) where
  every_load : {labels : List ℕ} → labels_for c ≡ labels → (loads : List Load) → EveryLoadBy c labels loads → EveryLoad c loads
  every_load are [] h = tt
  every_load are (l ∷ loads) ((listed, sum, look), h) = (
    record {
      moves = λ full old seed.
          drained_moves c l.messages good listed full old seed ∙ ap (λ (x : List ℕ). all_moves c.nodes (links c) x l.messages) are ∙ sum;
      look = look;
    },
    every_load are loads h,
  )

  every_try : (l : List Tries) → EveryTryBy c l → EveryTry c l
  unfolding fresh_of
  every_try [] h = tt
  every_try (t ∷ l) (answers, h) = (
    λ full. ap (λ (x : Cabling). answers_of (fresh_in (fabric_of x) t.messages) t.tried) (read_cabling c good full) ∙ answers,
    every_try l h,
  )

-- what is to be computed of an entry. The labels are computed once: W, the first node and the moves go by those that the entry lists
right : (e : Worked)
    → fault_of e.cabling ≡ Ok tt
    → labels_for e.cabling ≡ e.labels
    → all_turns e.cabling.nodes (links e.cabling) ≡ e.turns
    → prohibited_turns e.cabling.nodes (links e.cabling) (label_in e.labels) ≡ e.prohibited
    → label_in e.labels e.first ≡ 1
    → Given e.free (rows_for e.cabling true)
    → Given e.falling (rows_for e.cabling false)
    → EveryHop (labels_for e.cabling) (rows_for e.cabling true) (rows_for e.cabling false) e.cabling.nodes e.hops
    → Given e.links-image (image_of links_kinds e.cabling)
    → Given e.full-image (image_of full_kinds e.cabling)
    → Given e.sheet (sheet_of e.cabling)
    → EveryLoadBy e.cabling e.labels e.loads
    → EveryTryBy e.cabling e.tries
    → Right e
right e fine labels turns barred first free falling hops short long sheet loads tries =
    let c = e.cabling in
    let good = (fault-fine c).0 fine in
    record {
      good = good;
      labels = labels;
      turns = turns;
      prohibited = ap (λ (l : List ℕ). prohibited_turns c.nodes (links c) (label_in l)) labels ∙ barred;
      first = ap (λ (l : List ℕ). label_in l e.first) labels ∙ first;
      free = free;
      falling = falling;
      hops = hops;
      links-image = short;
      full-image = long;
      sheet = sheet;
      loads = every_load c good labels e.loads loads;
      tries = every_try c good e.tries tries;
    }

no-entry : (e : Worked) → Memᴰ e [] → Right e
no-entry e m = absurd (Memᴰ.not-nil m)

and_this : {x : Worked} {l : List Worked} → Right x → ((e : Worked) → Memᴰ e l → Right e) → (e : Worked) → Memᴰ e (x ∷ l) → Right e
and_this r rest e m = ⊎_elim (λ q. subst⁻¹ Right q r) (rest e) (Memᴰ.cases_cons m)

link-tries : EveryTryBy link.cabling link.tries
unfolding ◌&◌ ◌or◌ non same below sum_to any all least least_value lowest_at least_by has set_of without up_from tabulate padded
    among degree grow spread reach covers joined connected cut joins linked_by linked rises falls prohibited
    leads joining layer lowest_lead first_layer entry free_after room candidate choice remains give stage labelled labels_of
    rows_of table_in row_known row_in class_after onward_of hop_known hop_in hop_within fabric_of zeros begun_of is_delivered unheld_in by_hop ahead_in ahead_of released moved arrived step_of
link-tries = (refl, tt)

pub every_right : (e : Worked) → Memᴰ e worked → Right e
unfolding ◌&◌ ◌or◌ non same below sum_to any all least least_value lowest_at least_by has set_of without up_from tabulate
    among degree grow spread reach covers joined connected cut joins linked_by linked rises falls prohibited
    leads joining layer lowest_lead first_layer entry free_after follow route_of room candidate choice remains give stage labelled labels_of turns_that
    fault_of link_fault node_fault unreached crowded bad_pair not_above is_above bad_ends is_shaped is_counted
    rows_of table_in row_known row_in class_after onward_of hop_known hop_in entries_of joined_up image_from bodies_of image_of messages_in route_in all_moves fits strange list_fault begun_of fresh_of look_at pick_of
    places decimal_of fields_of link_lines sheet_of
every_right =
    and_this
    (right link refl refl refl refl refl refl refl tt refl refl refl ((refl, refl, λ full. refl), ((refl, refl, λ full. refl), tt)) link-tries)
    (and_this (right triangle refl refl refl refl refl refl refl tt tt tt tt tt tt)
    (and_this (right path refl refl refl refl refl refl refl tt tt tt tt tt tt)
    (and_this (right ring refl refl refl refl refl refl refl (refl, (refl, (refl, (refl, (refl, tt))))) tt tt refl ((refl, refl, λ full. refl), tt) tt)
    (and_this (right hub refl refl refl refl refl refl refl (refl, (refl, tt)) tt tt tt tt tt)
    (and_this (right all_four refl refl refl refl refl refl refl tt tt tt tt tt tt)
    (and_this (right blocks refl refl refl refl refl tt tt tt tt tt tt tt tt) no-entry))))))
