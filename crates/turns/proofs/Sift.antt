-- The loop over the members of a word that finds those that pass a test: what is found, and what is left and passes, is all of the word that passes.
use mathlib.Core.Path.{◌≡◌, refl, sym, ◌∙◌, ap}
use mathlib.Core.Bool.{Bool, true, false}
use Prim.Native.Nat.{ℕ, ◌^◌, ◌<◌}
use lib.Dec.{lit<}
use Rattle.finite.specs.Truth.{◌&◌, ◌or◌, same}
use Rattle.finite.specs.Sets.{has, set_of}
use Rattle.finite.proofs.Truth.{bcase, and_false, or_false, same-eq, same-ne, false_or}
use Rattle.finite.proofs.Sets.{has_0, has-set_of, set_ext}
use Rattle.nodes.specs.Limits.{max_nodes}
use Rattle.nodes.proofs.Words.{word_lt}
use Rattle.nodes.proofs.Passing.{Pass}

pub record Sifting (p : ℕ → Bool) (w found left : ℕ) : Type 0 where
  pub found_word : found < 2 ^ max_nodes
  pub left_word : left < 2 ^ max_nodes
  pub parts : (a : ℕ) → a < max_nodes → has found a or has left a & p a ≡ has w a & p a

pub sift_none : (p : ℕ → Bool) (w : ℕ) → w < 2 ^ max_nodes → Sifting p w 0 w
sift_none p w l = record {
  found_word = lit< tt;
  left_word = l;
  parts = λ a k. ap (λ (b : Bool). b or has w a & p a) (has_0 a) ∙ or_false _;
}

-- one member more: it goes to what is found where it passes
more_found : (x : Bool) → (x or true) or false & true ≡ x or true & true
unfolding ◌&◌ ◌or◌
more_found true = refl
more_found false = refl

not_found : (x b : Bool) → x or false & b ≡ x or true & false
unfolding ◌&◌ ◌or◌
not_found true b = refl
not_found false b = refl

module _ (p : ℕ → Bool) {w found left u next : ℕ} (s : Sifting p w found left) (q : Pass left u next) where
  pub sift_takes : p u ≡ true → (found' : ℕ) → found' ≡ set_of max_nodes (λ a. has found a or same u a) → Sifting p w found' next
  sift_takes h found' f = record {
    found_word = word_lt max_nodes _ f;
    left_word = q.word;
    parts = λ a l.
        ap (λ (b : Bool). b or has next a & p a) (ap (λ (x : ℕ). has x a) f ∙ has-set_of max_nodes _ a l)
        ∙ bcase (same u a)
        (λ t. rw (t, ← same-eq u a t, q.gone, q.here, h) (more_found (has found u)))
        (λ t. rw (t, false_or, q.kept a (λ e. same-ne u a t (sym e))) refl) ∙ s.parts a l;
  }

  pub sift_passes : p u ≡ false → Sifting p w found next
  sift_passes h = record {
    found_word = s.found_word;
    left_word = q.word;
    parts = λ a l.
        bcase (same u a)
        (λ t. rw (← same-eq u a t, q.gone, q.here, h) (not_found (has found u) false))
        (λ t. rw (q.kept a (λ e. same-ne u a t (sym e))) refl) ∙ s.parts a l;
  }

pub sift_all : {p : ℕ → Bool} {w found left : ℕ} → Sifting p w found left → left ≡ 0 → found ≡ set_of max_nodes (λ a. has w a & p a)
sift_all {p} s z = set_ext max_nodes _ _ s.found_word (λ a l. simp (z, has_0, and_false, false_or) at (s.parts a l))
