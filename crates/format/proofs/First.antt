-- Kind 1: its body is N, the zero byte and the pairs, in an image that is read and in one that is written.
use mathlib.Core.Path.{◌≡◌, ◌∙◌, ap, ap₂}
use mathlib.Core.Bool.{true}
use mathlib.Core.List.{List, ◌∷◌}
use mathlib.Core.Logic.{◌↔◌}
use Prim.Native.Nat.{ℕ, suc, ◌+◌, ◌-◌, ◌%◌, ◌≤◌, ◌<◌}
use native.Mathlib.Omega.{arith}
use lib.ListN.{length, take, drop}
use Rattle.finite.proofs.Slices.{drop-next}
use Rattle.format.specs.Limits.{max_image}
use Rattle.format.specs.Contents.{offset_at, length_at, in_order, body_start, nodes_in, zero_in, pairs_in}
use Rattle.format.specs.Bytes.{AllBytes, image_from, body_at, bodies_from}
use Rattle.format.proofs.Contents.{in_order_parts}
use Rattle.format.proofs.Order.{parts-words, in_order_size, in_order_some, in_order_body}
use Rattle.format.proofs.Written.{from_in_order, from-bodies}
use Rattle.format.proofs.Bodies.{in_order_from}

-- ---- in an image that is read

module _ (b : List ℕ) (k : ℕ) (h : in_order b k ≡ true) where
  pub in_order_start : offset_at b 0 ≡ body_start b
  in_order_start = let w = parts-words b k (in_order_parts b k h) in let e = w.entries in let o = w.begins in omega arith

  pub in_order_pairs : body_at b 0 ≡ nodes_in b ∷ zero_in b ∷ pairs_in b
  in_order_pairs =
      let w = parts-words b k (in_order_parts b k h) in
      let e = w.entries in
      let l = in_order_size b k h in
      let s : ℕ = body_start b in
      let first = drop-next b s (s + 1) (omega arith) (omega arith) in
      let second = drop-next b (s + 1) (s + 2) (omega arith) (omega arith) in
      let long = w.long in
      let size : length_at b 0 ≡ suc (suc (length_at b 0 - 2)) = omega arith in
      ap₂ (λ (n o : ℕ). take n (drop o b)) size in_order_start ∙ ap (take (suc (suc (length_at b 0 - 2)))) (first ∙ ap (λ (r : List ℕ). nodes_in b ∷ r) second)

  pub in_order_pairs_length : 2 + length (pairs_in b) ≡ length_at b 0
  in_order_pairs_length = let e = ap length in_order_pairs in let l = in_order_body b k h 0 (in_order_some b k h) in omega arith

  -- so kind 1's length is odd where that of the pairs is, and above 1,026 where theirs is above 1,024
  pub in_order_pairs_odd : length (pairs_in b) % 2 ≡ length_at b 0 % 2
  in_order_pairs_odd = let e = in_order_pairs_length in omega arith

  pub in_order_pairs_over : (most : ℕ) → (most < length (pairs_in b)) ↔ (2 + most < length_at b 0)
  in_order_pairs_over most = let e = in_order_pairs_length in (λ h. omega arith, λ h. omega arith)

-- an image in order is written from N, the zero byte, the pairs and the other bodies
pub in_order_image : (b : List ℕ) (k : ℕ) → AllBytes b → in_order b (suc k) ≡ true
    → b ≡ image_from ((nodes_in b ∷ zero_in b ∷ pairs_in b) ∷ bodies_from b 1 k)
unfolding bodies_from
in_order_image b k byte h = in_order_from b (suc k) byte h ∙ ap (λ (body : List ℕ). image_from (body ∷ bodies_from b 1 k)) (in_order_pairs b (suc k) h)

-- ---- in an image that is written

module _ (n z : ℕ) (pairs : List ℕ) (rest : List (List ℕ)) (small : length (image_from ((n ∷ z ∷ pairs) ∷ rest)) ≤ max_image) where
  from_first : nodes_in (image_from ((n ∷ z ∷ pairs) ∷ rest)) ∷ zero_in (image_from ((n ∷ z ∷ pairs) ∷ rest)) ∷ pairs_in (image_from ((n ∷ z ∷ pairs) ∷ rest)) ≡ n ∷ z ∷ pairs
  unfolding bodies_from
  from_first =
      let body : List ℕ = n ∷ z ∷ pairs in
      let read = in_order_pairs (image_from (body ∷ rest)) (suc (length rest)) (from_in_order body rest small (omega arith)) in
      let back = from-bodies body rest small in
      cc

  pub from-nodes : nodes_in (image_from ((n ∷ z ∷ pairs) ∷ rest)) ≡ n
  from-nodes = let e = from_first in cc

  pub from_zero : zero_in (image_from ((n ∷ z ∷ pairs) ∷ rest)) ≡ z
  from_zero = let e = from_first in cc

  pub from-pairs : pairs_in (image_from ((n ∷ z ∷ pairs) ∷ rest)) ≡ pairs
  from-pairs = let e = from_first in cc
