-- What is laid stands where it was laid; pieces laid one behind the other are laid as one.
use mathlib.Core.Path.{◌≡◌, refl, sym, ◌∙◌, ap, ap₂, subst}
use mathlib.Core.List.{List, [], ◌++◌}
use Prim.Native.Nat.{ℕ, ◌+◌, ◌-◌, ◌≤◌, ◌<◌, zero-le}
use native.Mathlib.Nat.{zero-add, le_refl}
use native.Mathlib.Omega.{arith}
use lib.ListN.{length, take, drop, length-append}
use lib.Seq.{sets, sets-eq, length-sets, take_all, take_at}
use borrow.Rule.Slice.PartMut.{put_mid}
use Rattle.std.proofs.lemmas.Slice.{put_mid-paste}
use borrow.Author.Tests.{le-leb, lt-leb}
use Rattle.finite.proofs.Lists.{sets_append, sets_front}
use Rattle.laid.specs.Laid.{Page, page, behind}
use Rattle.laid.specs.Lays.{Lays}

-- room, and no room
module _ (b : List ℕ) (at : ℕ) (s : List ℕ) where
  pub behind-room : at + length s ≤ length b → page (sets b at s) (at + length s) ≡ behind (page b at) s
  unfolding behind
  behind-room h = rw (le-leb _ _ h, behind)

  pub behind-none : length b < at + length s → page b at ≡ behind (page b at) s
  unfolding behind
  behind-none h = rw (lt-leb _ _ h, behind)

  -- written over the part of the buffer from the place on
  pub behind-written : (t : List ℕ) → t ≡ s → at + length s ≤ length b → page (put_mid at (at + length s - at) b t) (at + length s) ≡ behind (page b at) s
  behind-written t e h =
      let k : length s ≡ at + length s - at = omega arith in
      let p = put_mid-paste at (at + length s - at) b t s (length s) e k refl in
      ap (λ (l : List ℕ). page l (at + length s)) (p ∙ rw (take_all (length s) s (le_refl _)) (sym (sets-eq s b at h))) ∙ behind-room h

-- nothing at first
pub lays-none : (b : List ℕ) → Lays b (page b 0) []
lays-none b = record { is = refl; fits = zero-le }

-- a piece behind what is laid
pub lays_more : {b s : List ℕ} {p q : Page} (x : List ℕ) → Lays b p s → q ≡ behind p x → length s + length x ≤ length b → Lays b q (s ++ x)
lays_more {b} {s} {p} {q} x l e h =
    let z = length-sets b 0 s in
    let a = length-append s x in
    let k = zero-add (length s) in
    record {
      is = e ∙ ap (λ (r : Page). behind r x) l.is ∙ sym (behind-room (sets b 0 s) (length s) x (omega arith))
          ∙ ap₂ page (ap (λ (i : ℕ). sets (sets b 0 s) i x) (sym k) ∙ sets_append b 0 s x) (sym a);
      fits = omega arith;
    }

-- what is laid may be said in another way
pub lays_as : {b s t : List ℕ} {p : Page} → Lays b p s → s ≡ t → Lays b p t
lays_as {b} {s} {t} {p} l e = subst (λ (x : List ℕ). Lays b p x) e l

-- and the buffer afterwards is what the page left in it
pub lays_left : {b s after : List ℕ} {p : Page} → Lays b p s → after ≡ p.bytes → Lays b (page after p.at) s
lays_left {b} {s} {after} {p} l e = subst (λ (x : List ℕ). Lays b (page x p.at) s) (sym e) l

module _ {b s : List ℕ} {p : Page} (l : Lays b p s) where
  -- the buffer is as long as it was
  pub lays-length : length p.bytes ≡ length b
  lays-length = ap (λ (q : Page). length q.bytes) l.is ∙ length-sets b 0 s

  -- what is laid stands at the front, and the bytes behind stay
  pub lays-placed : p.bytes ≡ s ++ drop (length s) b
  lays-placed = ap (λ (q : Page). q.bytes) l.is ∙ sets_front b s l.fits

  -- the place is behind it
  pub lays-at : p.at ≡ length s
  lays-at = ap (λ (q : Page). q.at) l.is

  -- what is laid is the buffer up to the place
  pub lays-front : (take p.at p.bytes ≡ s) × (p.at ≤ length p.bytes)
  lays-front =
      let long = lays-length in
      let fits = l.fits in
      (ap (take p.at) lays-placed ∙ take_at s _ p.at (sym lays-at), let at = lays-at in omega arith)

-- ---- with a bound on the length

-- the same, at most k bytes
pub record Within (b : List ℕ) (p : Page) (s : List ℕ) (k : ℕ) : Type 0 where
  pub lays : Lays b p s
  pub bound : length s ≤ k

pub within_none : (b : List ℕ) → Within b (page b 0) [] 0
within_none b = record { lays = lays-none b; bound = zero-le }

pub within_more : {b s : List ℕ} {p q : Page} {k : ℕ} (x : List ℕ) (j : ℕ) → Within b p s k → q ≡ behind p x → length x ≤ j → k + j ≤ length b → Within b q (s ++ x) (k + j)
within_more {b} {s} {p} {q} {k} x j w e h m =
    let n = w.bound in
    let a = length-append s x in
    record { lays = lays_more x w.lays e (omega arith); bound = omega arith }

pub within_as : {b s t : List ℕ} {p : Page} {k : ℕ} (j : ℕ) → Within b p s k → s ≡ t → k ≤ j → Within b p t j
within_as {b} {s} {t} {p} {k} j w e h =
    let n = w.bound in
    subst (λ (x : List ℕ). Within b p x j) e (record { lays = w.lays; bound = omega arith })
