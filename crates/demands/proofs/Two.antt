-- Demand 2 (RULES 2.2): for every good cabling. Each premise `Writes ..`, `Reads ..`, `Cables ..` or `Sheets ..` is the promise of the call that the sentence
-- names, whatever buffer was lent.
use Rattle.std.specs.Prelude.{Ok}
use mathlib.Core.Path.{◌≡◌, sym, ◌∙◌, fun_ext}
use mathlib.Core.Bool.{Bool, true, false}
use mathlib.Core.List.{List}
use Prim.Native.Nat.{ℕ, ◌+◌, ◌*◌, ◌/◌, ◌≤◌, ◌<◌}
use native.Mathlib.Omega.{arith}
use lib.ListN.{length, take}
use lib.Seq.{ext_get_or}
use Rattle.lawful.specs.Turn.{label_in}
use Rattle.lawful.specs.Path.{LawfulTo, Shortest}
use Rattle.cabling.specs.Cabling.{Cabling, cabled, Good, links}
use Rattle.cabling.specs.Faults.{fault_of}
use Rattle.hops.specs.Hop.{HopAnswer, walk_by}
use Rattle.fabric.specs.Fabric.{labels_for, label_for, rows_for, route_for}
use Rattle.fabric.proofs.Labels.{labels_length, good-by_rule, good-labels_unique}
use Rattle.fabric.proofs.Rows.{good-free-rows, good-falling-rows, free-rows_unique, falling-rows_unique}
use Rattle.fabric.proofs.Routes.{good-route}
use Rattle.fabric.proofs.Hops.{good-walk}
use Rattle.format.specs.Contents.{links_kinds, full_kinds}
use Rattle.format.proofs.Order.{in_order_iff}
use Rattle.results.specs.Written.{placed, Writes, Written}
use Rattle.image.specs.Image.{bodies_of, image_of, kinds_of, cabling_in}
use Rattle.image.specs.Faults.{links_fault}
use Rattle.reading.specs.Reads.{Outcome, read_as, Reads}
use Rattle.image.proofs.Sizes.{full_size}
use Rattle.image.proofs.Images.{read_kind, full-bodies}
use Rattle.reading.proofs.Calls.{read_written, write_read}
use Rattle.writing.proofs.Calls.{never-refused, build_as_write}
use Rattle.sheets.specs.Sheet.{sheet_of, cabling_on}
use Rattle.sheets.specs.Promises.{Cables, Sheets}
use Rattle.sheets.proofs.Calls.{cable_never_refused, sheet-never-refused, cabled-sheet, sheet-again, image-again, one-sheet, cable_size, sheet-written-size}
use Rattle.demands.specs.Calls.{Hop}
use Rattle.demands.specs.Rules.{ByTheRule, Built}

module _ (c : Cabling) (g : Good c) where
  -- what the rules give is by the rule, and nothing else is
  pub rule_met : ByTheRule c (labels_for c) (rows_for c true) (rows_for c false)
  rule_met = record { size = labels_length c; by_rule = good-by_rule g; free-rows = good-free-rows g; falling-rows = good-falling-rows g }

  pub rule_unique : {labels free falling : List ℕ} → ByTheRule c labels free falling → (labels ≡ labels_for c) × (free ≡ rows_for c true) × (falling ≡ rows_for c false)
  rule_unique {labels} {free} {falling} r =
      let e : labels ≡ labels_for c =
      ext_get_or 0 labels (labels_for c) (r.size ∙ sym (labels_length c)) (λ v l. let s = r.size in good-labels_unique g (label_in labels) r.by_rule v (omega arith)) in
      (e, free-rows_unique g (rw e at r.free-rows), falling-rows_unique g (rw e at r.falling-rows))

  -- RULES 2.2: "Every pair of nodes has a lawful path, and a message that follows its entries walks a shortest one."
  pub demand_2_route : (s t : ℕ) → s < c.nodes → t < c.nodes
      → ((l : List ℕ) × LawfulTo (links c) (label_for c) s t l) × Shortest (LawfulTo (links c) (label_for c) s t) (route_for c s t)
  demand_2_route s t a z = let r = good-route g s t a z in ((route_for c s t, r.is), r)

  -- RULES 7.5: "Where they are an image's own, a message that asks hop at each node, free at first and then with the class that it was answered, walks its
  -- route (5.4).": of any labels and tables by the rule, and any answers that hop's promise allows on them, the nodes that they name are a shortest lawful path
  pub demand_2_hop : {labels free falling : List ℕ} → ByTheRule c labels free falling → (s t : ℕ) → s < c.nodes → t < c.nodes
      → (answers : ℕ → ℕ → HopAnswer) → ((v class : ℕ) → Hop (labels, (free, falling, c.nodes, v, class), t) tt (answers v class) tt)
      → Shortest (LawfulTo (links c) (label_in labels) s t) (walk_by answers t (c.nodes + c.nodes) 0 s)
  demand_2_hop r s t a z answers h =
      let (x, y, w) = rule_unique r in
      rw (fun_ext (λ v. fun_ext (h v)), x, y, w, good-walk g s t a z) (good-route g s t a z)

  module _ {before after : List ℕ} where
    -- RULES 2.2: "Connected cabling inside the limits, given room, is never refused.": build answers, with labels and entries by the rule
    pub demand_2 : {answer : Written} → let b = image_of links_kinds c in
        28 + length c.pairs + c.nodes + 2 * (c.nodes * c.nodes) ≤ length before
        → Writes (links_fault b) (image_of full_kinds (cabling_in b)) before answer after → Built c before answer after
    unfolding bodies_of
    demand_2 room w =
        let s = full_size c in
        let d = never-refused c g true (omega arith) ((build_as_write c g).0 w) in
        record {
          image = image_of full_kinds c;
          answers = d.0;
          leaves = d.1;
          ordered = (in_order_iff (image_of full_kinds c) full_kinds).0 (read_kind c g true);
          labels = labels_for c;
          free = rows_for c true;
          falling = rows_for c false;
          holds = full-bodies c g;
          by_the_rule = rule_met;
        }

    -- reading what was written gives back the cabling and the kind: N, M, which image, and the pairs at the buffer's front
    pub demand_2_read : (full : Bool) {answer : Outcome} → length c.pairs ≤ length before → Reads (image_of (kinds_of full) c) before answer after
        → (answer ≡ read_as c.nodes (length c.pairs / 2) full) × (after ≡ placed c.pairs before)
    demand_2_read = read_written c g

    -- and write too answers, with either image
    pub demand_2_write : (full : Bool) {answer : Written} → length (image_of (kinds_of full) c) ≤ length before
        → Writes (fault_of c) (image_of (kinds_of full) c) before answer after
        → (answer ≡ Ok (length (image_of (kinds_of full) c))) × (after ≡ placed (image_of (kinds_of full) c) before)
    demand_2_write = never-refused c g

    -- cable makes the links image of a cabling's sheet, and sheet the sheet of its links image
    pub demand_2_cable : {answer : Written} → length (image_of links_kinds c) ≤ length before → Cables (sheet_of c) before answer after
        → (answer ≡ Ok (length (image_of links_kinds c))) × (after ≡ placed (image_of links_kinds c) before)
    demand_2_cable = cable_never_refused g

    pub demand_2_sheet : {answer : Written} → length (sheet_of c) ≤ length before → Sheets (image_of links_kinds c) before answer after
        → (answer ≡ Ok (length (sheet_of c))) × (after ≡ placed (sheet_of c) before)
    demand_2_sheet = sheet-never-refused g

-- writing what was read gives back the same bytes: of any image that read accepts
pub demand_2_back : (b before after : List ℕ) (n m : ℕ) (full : Bool) → Reads b before (read_as n m full) after
    → {room left : List ℕ} {answer : Written} → length b ≤ length room
    → Writes (fault_of (cabled n (take (2 * m) after))) (image_of (kinds_of full) (cabled n (take (2 * m) after))) room answer left
    → (answer ≡ Ok (length b)) × (left ≡ placed b room)
demand_2_back = write_read

-- what cable accepts is the sheet of a good cabling, and what it writes is that cabling's links image
pub demand_2_only_sheets : (s before after : List ℕ) (m : ℕ) → Cables s before (Ok m) after
    → (c : Cabling) × Good c × (s ≡ sheet_of c) × (take m after ≡ image_of links_kinds c)
demand_2_only_sheets s before after m w = let (g, e, front) = cabled-sheet s before after m w in (cabling_on s, g, e, front)

-- RULES 6.5: "A sheet has at most 3,075 bytes.": what cable accepts, and what sheet writes
pub demand_2_sheet_size : (s before after : List ℕ) (m : ℕ) → (Cables s before (Ok m) after → length s ≤ 3075) × (Sheets s before (Ok m) after → m ≤ 3075)
demand_2_sheet_size s before after m = (cable_size s before after m, sheet-written-size s before after m)

-- RULES 2.2: "Every accepted cabling has exactly one sheet.": that of `demand_2_cable`, and no two sheets become the same image
pub demand_2_one_sheet : (s t before after room left : List ℕ) (m n : ℕ) → Cables s before (Ok m) after → Cables t room (Ok n) left → take m after ≡ take n left → s ≡ t
demand_2_one_sheet = one-sheet

-- RULES 2.2: "From a sheet to its links image and back, and from a links image to its sheet and back, the same bytes come out."
pub demand_2_sheet_again : (s before after : List ℕ) (m : ℕ) → Cables s before (Ok m) after
    → {room left : List ℕ} {answer : Written} → length s ≤ length room → Sheets (take m after) room answer left → (answer ≡ Ok (length s)) × (left ≡ placed s room)
demand_2_sheet_again = sheet-again

pub demand_2_image_again : (b before after : List ℕ) (m : ℕ) → Sheets b before (Ok m) after
    → {room left : List ℕ} {answer : Written} → length b ≤ length room → Cables (take m after) room answer left → (answer ≡ Ok (length b)) × (left ≡ placed b room)
demand_2_image_again = image-again
