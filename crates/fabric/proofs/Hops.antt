-- What the row call and the hop call answer on the labels and tables of a good cabling: N bytes, each the entry of its class, and with it the class after
-- the hop. Whoever asks hop at each node walks the route.
use mathlib.Core.Path.{◌≡◌, refl, sym, ◌∙◌, ap, fun_ext}
use mathlib.Core.Bool.{Bool, true, false}
use mathlib.Core.List.{List}
use Prim.Native.Nat.{ℕ, ◌+◌, ◌<◌}
use lib.ListN.{length, get_or}
use Rattle.lawful.specs.Turn.{label_in}
use Rattle.lawful.specs.Entry.{entry, free_after, route_of}
use Rattle.lawful.proofs.Run.{Run}
use Rattle.lawful.proofs.Paths.{WayTo, way-run}
use Rattle.cabling.specs.Cabling.{Cabling, Good, links}
use Rattle.hops.specs.Row.{row_in}
use Rattle.hops.specs.Hop.{HopAnswer, Next, NoWay, hop_in, hop_within, walk_by}
use Rattle.hops.specs.Tabled.{class_of}
use Rattle.hops.proofs.Leads.{row-long, row-entry, within_fronts, hop-entry, hop-none, hop_home, walk-route}
use Rattle.fabric.specs.Fabric.{labels_for, label_for, rows_for, route_for, fabric_of}
use Rattle.fabric.proofs.Labels.{good-climbing}
use Rattle.fabric.proofs.Arrays.{label_read, good-tabled}
use Rattle.fabric.proofs.Parts.{labels-part, free_part, falling-part}

module _ {c : Cabling} (g : Good c) where
  abbrev n : ℕ
  n = c.nodes

  abbrev label : ℕ → ℕ
  label = label_for c

  abbrev labels : List ℕ
  labels = labels_for c

  abbrev free : List ℕ
  free = rows_for c true

  abbrev falling : List ℕ
  falling = rows_for c false

  -- ---- one row

  module _ (class : Bool) (v : ℕ) (here : v < n) where
    pub good-row-size : length (row_in free falling n v (class_of class)) ≡ n
    unfolding fabric_of
    good-row-size = rw (free_part c refl, falling-part c refl) at (row-long (good-tabled g) class v here)

    pub good-row-entry : (t : ℕ) → t < n → get_or (row_in free falling n v (class_of class)) t 0 ≡ entry n (links c) label t class v
    unfolding fabric_of
    good-row-entry t there = rw (free_part c refl, falling-part c refl, label_read c) at (row-entry (good-tabled g) class v here t there)

  -- ---- one hop

  -- over the fabric's arrays it is the same
  pub within-fabric : (v class t : ℕ)
      → hop_within (fabric_of c).labels (fabric_of c).free (fabric_of c).falling n v class t ≡ hop_in labels free falling n v class t
  unfolding fabric_of
  within-fabric v class t = rw (labels-part c refl, free_part c refl, falling-part c refl) at (within_fronts (good-tabled g) v class t)

  module _ (class : Bool) (v t : ℕ) (here : v < n) (there : t < n) where
    abbrev Way : (ℕ → ℕ) → List ℕ → Type 0
    Way l = WayTo (links c) l class v t

    -- away from the destination, where a way of the class leads there: the entry, and the class after it
    pub good-hop : (v ≡ t → ⊥) → (l : List ℕ) → Way label l
        → let u = entry n (links c) label t class v in
        hop_in labels free falling n v (class_of class) t ≡ Next u (class_of (free_after (links c) label class v u))
    good-hop away l w =
        let run : Run (links c) (label_in (fabric_of c).labels) class v t (length l) =
        rw (label_read c) (way-run (links c) label (good-climbing g).distinct class v t l w) in
        sym (within-fabric v (class_of class) t) ∙ rw (label_read c) at (hop-entry (good-tabled g) here there away run)

    -- where none does: 255 is stored
    pub good-hop-none : ((l : List ℕ) → Way label l → ⊥) → hop_in labels free falling n v (class_of class) t ≡ NoWay
    good-hop-none without =
        let none-leads : (l : List ℕ) → Way (label_in (fabric_of c).labels) l → ⊥ = rw (label_read c) without in
        sym (within-fabric v (class_of class) t) ∙ hop-none (good-tabled g) class v t here there none-leads

  -- at the destination the node itself, RULES 7.5: "the class is the one that the message came with"
  pub good-hop_home : (class : Bool) (t : ℕ) → t < n → hop_in labels free falling n t (class_of class) t ≡ Next t (class_of class)
  good-hop_home class t there = sym (within-fabric t (class_of class) t) ∙ hop_home (good-tabled g) class t there

  -- ---- all hops

  module _ (s t : ℕ) (here : s < n) (there : t < n) where
    -- whoever asks at each node, over the arrays
    pub fabric-walk : walk_by (λ v class. hop_within (fabric_of c).labels (fabric_of c).free (fabric_of c).falling n v class t) t (n + n) 0 s ≡ route_for c s t
    fabric-walk = walk-route (good-tabled g) t there s here ∙ ap (λ (l : ℕ → ℕ). route_of n (links c) l s t) (label_read c)

    -- and over an image's own bytes, RULES 7.5: "walks its route (5.4)"
    pub good-walk : walk_by (λ v class. hop_in labels free falling n v class t) t (n + n) 0 s ≡ route_for c s t
    good-walk =
        ap (λ (ask : ℕ → ℕ → HopAnswer). walk_by ask t (n + n) 0 s) (fun_ext (λ v. fun_ext (λ class. sym (within-fabric v class t)))) ∙ fabric-walk
