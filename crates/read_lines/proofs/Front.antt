-- A text that begins with a line of k numbers has it as its first line; where none is found, its first line is no such line.
use mathlib.Core.Path.{◌≡◌, sym, ◌∙◌, ap, ap₂}
use mathlib.Core.Bool.{true, false}
use mathlib.Core.List.{List, [], ◌∷◌, ◌++◌}
use Rattle.std.proofs.Common.{Some, None}
use Prim.Native.Nat.{ℕ, ◌≤◌}
use native.Mathlib.Omega.{arith}
use lib.ListN.{length, take, drop, take-append-drop, length-take}
use lib.Seq.{take-append_seam}
use Rattle.finite.specs.Lists.{joined_up}
use Rattle.finite.proofs.Truth.{refute, no_tf}
use Rattle.text.specs.Text.{number_in}
use Rattle.read_lines.specs.declared.FirstLine.{FirstLine}
use Rattle.read_lines.specs.Lines.{lines_of}
use Rattle.read_lines.specs.Numbers.{are_bytes, numbers_line, numbers_in, is_line, begins, front_line, one_in, two_in}
use Rattle.read_lines.proofs.Lines.{lines-joined, line_first}
use Rattle.read_lines.proofs.Numbers.{numbers-length, numbers-back, line-numbers, line-fine, line-bytes, line_same}
use Rattle.read_lines.proofs.Sizes.{begins-where, begins-means, found-line, found-no_line}

pub record Front (k : ℕ) (s : List ℕ) : Type 0 where
  pub lines : lines_of s ≡ front_line k s ∷ lines_of (drop (length (front_line k s)) s)
  pub fine : is_line k (front_line k s) ≡ true
  pub again : numbers_in k (front_line k s) ≡ numbers_in k s
  pub byte : are_bytes (numbers_in k s) ≡ true
  pub fits : length (front_line k s) ≤ length s

pub front-begins : (k : ℕ) (s : List ℕ) → begins (numbers_in k s) (front_line k s) s ≡ true → Front k s
front-begins k s h =
    let ns = numbers_in k s in
    let l = numbers_line ns in
    let n = numbers-length k s in
    let (b, front) = begins-means ns l s h in
    let whole : s ≡ l ++ drop (length l) s = sym (take-append-drop (length l) s) ∙ ap (◌++ drop (length l) s) front in
    record {
      lines = ap lines_of whole ∙ line_first ns _;
      fine = ap (λ (j : ℕ). is_line j l) (sym n) ∙ line-fine ns b;
      again = ap (λ (j : ℕ). numbers_in j l) (sym n) ∙ line-numbers ns b;
      byte = b;
      fits = let e = length-take (length l) s in let m = ap length front in omega arith;
    }

pub front-none : (k : ℕ) (s : List ℕ) {l : List ℕ} {ls : List (List ℕ)} → begins (numbers_in k s) (front_line k s) s ≡ false → lines_of s ≡ l ∷ ls → is_line k l ≡ false
unfolding joined_up
front-none k s {l} {ls} h e =
    refute _ (λ t.
    let ns = numbers_in k l in
    let b = line-bytes k l t in
    let whole : s ≡ numbers_line ns ++ joined_up ls = sym (lines-joined s) ∙ ap joined_up e ∙ ap (◌++ joined_up ls) (line_same k l t) in
    let read : numbers_in k s ≡ ns = ap₂ numbers_in (sym (numbers-length k l)) whole ∙ numbers-back ns (joined_up ls) b in
    let front : take (length (numbers_line ns)) s ≡ numbers_line ns = rw whole (take-append_seam (numbers_line ns) (joined_up ls)) in
    no_tf (begins-where ns (numbers_line ns) s b front) (ap (λ (ms : List ℕ). begins ms (numbers_line ms) s) (sym read) ∙ h))

-- ---- what `one` and `two` find

pub one-found : (s : List ℕ) {f : FirstLine} → Some f ≡ one_in s → Front 1 s × (f.size ≡ length (front_line 1 s)) × (f.first ≡ number_in s)
unfolding one_in
one-found s e = let (begun, is) = found-line _ _ _ _ e in (front-begins 1 s begun, ap (λ (f : FirstLine). f.size) is, ap (λ (f : FirstLine). f.first) is)

pub one_missing : (s : List ℕ) {l : List ℕ} {ls : List (List ℕ)} → None ≡ one_in s → lines_of s ≡ l ∷ ls → is_line 1 l ≡ false
unfolding one_in
one_missing s e = front-none 1 s (found-no_line _ _ _ _ e)

pub two-found : (s : List ℕ) {f : FirstLine} → Some f ≡ two_in s → Front 2 s × (f.size ≡ length (front_line 2 s)) × (f.first ∷ f.second ∷ [] ≡ numbers_in 2 s)
unfolding two_in numbers_in
two-found s e = let (begun, is) = found-line _ _ _ _ e in (front-begins 2 s begun, ap (λ (f : FirstLine). f.size) is, ap (λ (f : FirstLine). f.first ∷ f.second ∷ []) is)

pub two-missing : (s : List ℕ) {l : List ℕ} {ls : List (List ℕ)} → None ≡ two_in s → lines_of s ≡ l ∷ ls → is_line 2 l ≡ false
unfolding two_in
two-missing s e = front-none 2 s (found-no_line _ _ _ _ e)
