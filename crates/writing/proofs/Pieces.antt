-- The pieces that the code lays one behind the other are the image: its contents entry by entry, then its bodies.
use Rattle.std.specs.Prelude.{Err, Ok}
use mathlib.Core.Path.{◌≡◌, sym, ◌∙◌, ap, ap₂}
use mathlib.Core.Bool.{true, false}
use mathlib.Core.List.{List, [], ◌∷◌, ◌++◌, append_assoc, append-nil}
use Prim.Native.Nat.{ℕ, suc, ◌+◌, ◌*◌, ◌≤◌, ◌<◌}
use native.Mathlib.Numerals.{add-one}
use native.Mathlib.Omega.{arith}
use lib.ListN.{length, get_or, take, length-append, length-map}
use lib.Seq.{take_all, length-take-le}
use Rattle.finite.specs.Lists.{joined_up}
use Rattle.finite.specs.Sum.{sum_to}
use Rattle.finite.proofs.Sum.{sum-none, sum_more}
use Rattle.image.proofs.Sizes.{rows-size, full_size}
use Rattle.cabling.specs.Cabling.{Cabling, Good}
use Rattle.fabric.specs.declared.Fabric.{Fabric}
use Rattle.fabric.specs.Fabric.{labels_for, rows_for, fabric_of}
use Rattle.fabric.proofs.Labels.{labels_length}
use Rattle.fabric.proofs.Parts.{labels-part, free_part, falling-part}
use Rattle.format.specs.Limits.{max_image}
use Rattle.format.specs.Contents.{links_kinds, full_kinds}
use Rattle.format.specs.Bytes.{entry_bytes, entries_of, lengths_of, image_from}
use Rattle.format.proofs.Written.{entries-length, entries-more}
use Rattle.laid.specs.Laid.{Page, page, behind}
use Rattle.laid.specs.Lays.{Lays}
use Rattle.laid.proofs.Pieces.{lays-none, lays_more, lays_as}
use Rattle.refusal.specs.declared.Refusal.TheVariants.{Short}
use Rattle.results.specs.Written.{Writes}
use Rattle.results.proofs.Placed.{no_room}
use Rattle.image.specs.Image.{bodies_of, image_of}
use Rattle.writing.specs.Laying.{head_of, front_of}

-- ---- the contents, entry by entry

pub head-length : (sizes : List ℕ) → length (head_of sizes) ≡ 2 + 6 * length sizes
unfolding head_of
head-length sizes = let e = entries-length 1 (2 + 6 * length sizes) sizes in omega arith

-- the first i entries of these sizes stand behind the two bytes on p, and `offset` is where body i begins
pub record Entries (sizes : List ℕ) (p q : Page) (offset i : ℕ) : Type 0 where
  pub inside : i ≤ length sizes
  pub begins : offset ≡ 2 + 6 * length sizes + sum_to i (λ j. get_or sizes j 0)
  pub low : offset ≤ 2 + 6 * length sizes + max_image * i
  pub laid : (b : List ℕ) → p ≡ behind (page b 0) (1 ∷ length sizes ∷ []) → length (head_of sizes) ≤ length b
      → Lays b q (1 ∷ length sizes ∷ entries_of 1 (2 + 6 * length sizes) (take i sizes))

pub entries-begin : (sizes : List ℕ) (p : Page) → Entries sizes p p (2 + 6 * length sizes) 0
unfolding entries_of
entries-begin sizes p = record {
  inside = omega arith;
  begins = let e = sum-none (λ j. get_or sizes j 0) in omega arith;
  low = omega arith;
  laid = λ b e h. let z = head-length sizes in lays_more _ (lays-none b) e (omega arith);
}

pub entries_next : {sizes : List ℕ} {p q r : Page} {offset i : ℕ} → Entries sizes p q offset i → i < length sizes → get_or sizes i 0 ≤ max_image
    → r ≡ behind q (entry_bytes (i + 1) offset (get_or sizes i 0)) → Entries sizes p r (offset + get_or sizes i 0) (i + 1)
entries_next {sizes} {p} {q} {r} {offset} {i} s l k e =
    let at = s.begins in
    let low = s.low in
    let m = sum_more i (λ j. get_or sizes j 0) in
    let start : ℕ = 2 + 6 * length sizes in
    let z = head-length sizes in
    let n = entries-length 1 start (take i sizes) in
    let t = length-take-le i sizes s.inside in
    record {
      inside = omega arith;
      begins = rw add-one (omega arith);
      low = omega arith;
      laid = λ b x h.
          lays_as (lays_more _ (s.laid b x h) e (omega arith))
          (rw add-one (ap (λ (r : List ℕ). 1 ∷ length sizes ∷ r)
          (ap₂ (λ (kind from : ℕ). entries_of 1 start (take i sizes) ++ entry_bytes kind from (get_or sizes i 0)) (omega arith) at ∙ sym (entries-more 1 start sizes i l))));
    }

pub entries-end : {sizes : List ℕ} {p q : Page} {offset i : ℕ} → Entries sizes p q offset i → length sizes ≤ i → (b : List ℕ)
    → p ≡ behind (page b 0) (1 ∷ length sizes ∷ [])
    → length (head_of sizes) ≤ length b → Lays b q (head_of sizes)
unfolding head_of
entries-end {sizes} {i = i} s l b x h =
    lays_as (s.laid b x h) (ap (λ (t : List ℕ). 1 ∷ length sizes ∷ entries_of 1 (2 + 6 * length sizes) t) (take_all i sizes l))

-- ---- contents and bodies

head-image : (bodies : List (List ℕ)) → head_of (lengths_of bodies) ++ joined_up bodies ≡ image_from bodies
unfolding head_of image_from
head-image bodies = rw (length-map bodies length)

pub front_length : (sizes : List ℕ) (n : ℕ) (pairs : List ℕ) → length (front_of sizes n pairs) ≡ 4 + 6 * length sizes + length pairs
front_length sizes n pairs = simp (length-append, head-length) (omega arith)

-- kind 1, laid behind the contents
pub front-lays : (sizes : List ℕ) (n : ℕ) (pairs : List ℕ) {b : List ℕ} {p q r : Page} → Lays b p (head_of sizes) → q ≡ behind p (n ∷ 0 ∷ []) → r ≡ behind q pairs
    → length (front_of sizes n pairs) ≤ length b → Lays b r (front_of sizes n pairs)
front-lays sizes n pairs l x y h =
    let a = length-append (head_of sizes) (n ∷ 0 ∷ []) in
    let k = length-append (head_of sizes ++ (n ∷ 0 ∷ [])) pairs in
    lays_more pairs (lays_more (n ∷ 0 ∷ []) l x (omega arith)) y (omega arith)

-- the sizes of the bodies, as the code has them
abbrev pub links_sizes : Cabling → List ℕ
links_sizes c = (2 + length c.pairs) ∷ []

abbrev pub full_sizes : Cabling → List ℕ
full_sizes c = (2 + length c.pairs) ∷ c.nodes ∷ (c.nodes * c.nodes) ∷ (c.nodes * c.nodes) ∷ []

alone : (h m p : List ℕ) → (h ++ m) ++ p ≡ h ++ ((m ++ p) ++ [])
alone h m p = simp (append_assoc, append-nil)

regroup : (h m p l f g : List ℕ) → ((((h ++ m) ++ p) ++ l) ++ f) ++ g ≡ h ++ ((m ++ p) ++ (l ++ (f ++ (g ++ []))))
regroup h m p l f g = simp (append_assoc, append-nil)

module _ (c : Cabling) where
  abbrev n : ℕ
  n = c.nodes

  first-size : 2 + length c.pairs ≡ suc (suc (length c.pairs))
  first-size = omega arith

  full-sizes : full_sizes c ≡ lengths_of (bodies_of c)
  unfolding bodies_of
  full-sizes = rw (first-size, labels_length c, rows-size c true, rows-size c false)

  pub links-image : front_of (links_sizes c) n c.pairs ≡ image_of links_kinds c
  unfolding image_of bodies_of joined_up
  links-image = rw first-size (alone (head_of (suc (suc (length c.pairs)) ∷ [])) (n ∷ 0 ∷ []) c.pairs ∙ head-image ((n ∷ 0 ∷ c.pairs) ∷ []))

  pub full-image : ((front_of (full_sizes c) n c.pairs ++ labels_for c) ++ rows_for c true) ++ rows_for c false ≡ image_of full_kinds c
  unfolding image_of bodies_of joined_up
  full-image =
      rw full-sizes
      (regroup (head_of (lengths_of (bodies_of c))) (n ∷ 0 ∷ []) c.pairs (labels_for c) (rows_for c true) (rows_for c false) ∙ head-image (bodies_of c))

  -- so much room is asked for first
  pub full-short : {before : List ℕ} → length before < 28 + length c.pairs + n + 2 * (n * n) → Writes (Ok tt) (image_of full_kinds c) before (Err Short) before
  full-short h = no_room _ _ (let e = full_size c in omega arith)

pub full-front-fits : {c : Cabling} {room : ℕ} → Good c → 28 + length c.pairs + c.nodes + 2 * (c.nodes * c.nodes) ≤ room
    → length (front_of (full_sizes c) c.nodes c.pairs) ≤ room
full-front-fits {c} g h = let e = front_length (full_sizes c) c.nodes c.pairs in omega arith

-- ---- the fabric of a cabling

module _ (c : Cabling) {f : Fabric} (e : f ≡ fabric_of c) where
  -- its arrays, laid behind the front
  pub full-lays : {b : List ℕ} {p q r s : Page} → Lays b p (front_of (full_sizes c) c.nodes c.pairs) → q ≡ behind p (take f.nodes f.labels)
      → r ≡ behind q (take (f.nodes * f.nodes) f.free) → s ≡ behind r (take (f.nodes * f.nodes) f.falling)
      → 28 + length c.pairs + c.nodes + 2 * (c.nodes * c.nodes) ≤ length b → Lays b s (image_of full_kinds c)
  full-lays {b} {p} {q} {r} {s} l x y z h =
      let front : List ℕ = front_of (full_sizes c) c.nodes c.pairs in
      let k = front_length (full_sizes c) c.nodes c.pairs in
      let u = labels_length c in
      let v = rows-size c true in
      let w = rows-size c false in
      let i = length-append front (labels_for c) in
      let j = length-append (front ++ labels_for c) (rows_for c true) in
      let one = lays_more (labels_for c) l (x ∙ ap (behind p) (labels-part c e)) (omega arith) in
      let two = lays_more (rows_for c true) one (y ∙ ap (behind q) (free_part c e)) (omega arith) in
      lays_as (lays_more (rows_for c false) two (z ∙ ap (behind r) (falling-part c e)) (omega arith)) (full-image c)
