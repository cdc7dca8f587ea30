-- What RULES 6.1 asks of the contents of an image with kinds 1, .., k, part by part.
use Rattle.std.specs.Prelude.{◌≡◌, List, ℕ, suc, ◌+◌, ◌*◌, ◌≤◌, ◌<◌, length, get_or}
use Rattle.format.specs.Limits.{max_image}
use Rattle.format.specs.Contents.{kind_at, second_at, offset_at, length_at}

-- not over 65,535 bytes; RULES 6.1: "Byte 0 is 1. Byte 1 is the number of contents entries. An entry has 6 bytes: kind, zero, offset [..], length"; "Bodies
-- follow in the order of their entries without a gap, the first directly behind the contents, the last up to the image's end"; kind 1 is not shorter than 2
pub record InOrder (b : List ℕ) (k : ℕ) : Type 0 where
  pub small : length b ≤ max_image
  pub first : get_or b 0 0 ≡ 1
  pub entries : get_or b 1 0 ≡ k
  pub some : 0 < k
  pub kinds : (i : ℕ) → i < k → kind_at b i ≡ suc i
  pub zeros : (i : ℕ) → i < k → second_at b i ≡ 0
  pub begins : offset_at b 0 ≡ 2 + 6 * k
  pub follows : (i : ℕ) → suc i < k → offset_at b (suc i) ≡ offset_at b i + length_at b i
  pub ends : (i : ℕ) → suc i ≡ k → offset_at b i + length_at b i ≡ length b
  pub long : 2 ≤ length_at b 0
