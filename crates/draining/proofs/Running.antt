-- The loop of a drain: from where it is, it ends as from its start.
use Rattle.std.specs.Prelude.{Ok}
use mathlib.Core.Path.{◌≡◌, refl, sym, ◌∙◌, ap}
use mathlib.Core.Bool.{true, false}
use mathlib.Core.List.{List}
use Prim.Native.Nat.{ℕ, suc, ◌+◌, ◌*◌, ◌-◌, ◌<◌, min}
use native.Mathlib.Omega.{arith}
use lib.ListN.{length}
use Rattle.finite.specs.Sum.{sum_to}
use Rattle.lawful.specs.Entry.{route_of}
use Rattle.cabling.specs.Cabling.{links}
use Rattle.fabric.specs.Fabric.{fabric_of}
use Rattle.format.specs.Contents.{nodes_in}
use Rattle.image.specs.Image.{cabling_in}
use Rattle.nodes.specs.Limits.{max_nodes}
use Rattle.messages.specs.Sizes.{max_messages, node_channels}
use Rattle.messages.specs.declared.Record.{Record}
use Rattle.messages.specs.Fresh.{source_in, target_in, begun_of}
use Rattle.messages.specs.Runs.{Listed, messages_in, route_in, all_moves}
use Rattle.messages.specs.Tells.{FreeFrom}
use Rattle.messages.specs.Ready.{all_delivered}
use Rattle.messages.proofs.Reached.{reached_state}
use Rattle.messages.proofs.Drain.{free-from}
use Rattle.start.specs.Start.{start_fault, fresh_of}
use Rattle.fabric.proofs.Arrays.{TabledFor, label_read}
use Rattle.start.proofs.Fabrics.{RunFor, fresh_reached, start-fabric, start-listed}
use Rattle.picking.specs.declared.Picked.{Picked}
use Rattle.picking.specs.Order.{pick_of}
use Rattle.picking.specs.InPlace.{pick_in}
use Rattle.picking.proofs.InPlace.{pick-in}
use Rattle.draining.specs.Drained.{PicksIn, after, sum_of, end_of}
use Rattle.draining.proofs.Picks.{after-done, after-pick, pick_run, pick_less}

-- the sum is the same over the labels that a record holds
pub sum_read : (b list : List ℕ) → all_moves (nodes_in b) (links (cabling_in b)) (fabric_of (cabling_in b)).labels list ≡ sum_of b list
unfolding all_moves route_in
sum_read b list =
    ap (λ (label : ℕ → ℕ). sum_to (messages_in list) (λ m. length (route_of (nodes_in b) (links (cabling_in b)) label (source_in list m) (target_in list m)) + 3))
    (label_read (cabling_in b))

pub fresh-moves : (b list : List ℕ) → (fresh_of b list).moves ≡ 0
unfolding fresh_of begun_of
fresh-moves b list = refl

pub record Running (b list : List ℕ) (seed next : ℕ) (last : Record) : Type 0 where
  pub run : RunFor (cabling_in b) list last
  pub ends : after (sum_of b list - last.moves) next last ≡ end_of b list seed

module _ (b list : List ℕ) (fine : start_fault b list ≡ Ok tt) where
  pub running_fresh : (seed : ℕ) → Running b list seed seed (fresh_of b list)
  unfolding end_of
  running_fresh seed =
      let m = fresh-moves b list in
      let z : sum_of b list - (fresh_of b list).moves ≡ sum_of b list = omega arith in
      record { run = fresh_reached b list; ends = ap (λ (k : ℕ). after k seed (fresh_of b list)) z }

  tabled : TabledFor (cabling_in b)
  tabled = start-fabric b list fine

  listed : Listed (nodes_in b) list
  listed = start-listed b list fine

  module _ {seed next : ℕ} {last : Record} (i : Running b list seed next last) where
    less : all_delivered last ≡ false → suc (sum_of b list - (pick_of next last).«record».moves) ≡ sum_of b list - last.moves
    less d = rw (sum_read b list) at (pick_less tabled listed i.run next d)

    -- from what a pick leaves it goes on, with a move less to make
    module _ {t : Picked} (e : t ≡ pick_of next last) (d : all_delivered last ≡ false) where
      pub running_more : Running b list seed t.seed t.«record»
      running_more = rw e (record {
        run = pick_run tabled listed i.run next;
        ends = sym (after-pick _ next last d) ∙ ap (λ (k : ℕ). after k next last) (less d) ∙ i.ends;
      })

      pub running_less : sum_of b list - t.«record».moves < sum_of b list - last.moves
      running_less = rw e (let l = less d in omega arith)

    pub running_all : all_delivered last ≡ true → last ≡ end_of b list seed
    running_all d = sym (after-done _ next last d) ∙ i.ends

    -- the record has a mark for each of 256 messages
    pub running_marks : length last.delivered ≡ max_messages
    running_marks = (reached_state tabled listed i.run).1.kept.delivered_size

    running_free : (span : ℕ) → span ≡ node_channels * min (fresh_of b list).nodes max_nodes → FreeFrom span last.holders
    unfolding fresh_of begun_of fabric_of
    running_free span e =
        let m = tabled.most in
        let s : span ≡ node_channels * nodes_in b = omega arith in
        rw s (free-from tabled listed i.run)

    -- no channel is held but those of the N nodes, so a pick may leave out those behind
    pub running_pick : (span : ℕ) → span ≡ node_channels * min (fresh_of b list).nodes max_nodes → pick_in span next last ≡ pick_of next last
    running_pick span e = pick-in span next last (reached_state tabled listed i.run).1.kept.holders_size (running_free span e)

    module _ {span seed-after : ℕ} {after-it : Record} (e : span ≡ node_channels * min (fresh_of b list).nodes max_nodes) (p : PicksIn span next last seed-after after-it) (d : all_delivered last ≡ false) where
      pub runs_on : Running b list seed seed-after after-it
      runs_on = let q = running_pick span e in rw (p.seeded, p.moved) (running_more q d)

      pub fewer_left : sum_of b list - after-it.moves < sum_of b list - last.moves
      fewer_left = let q = running_pick span e in rw p.moved (running_less q d)
