-- RULES 10.2: "Build takes a links image and writes the full image."
use Rattle.std.specs.Prelude.{List, ℕ}
use Rattle.format.specs.Contents.{full_kinds}
use Rattle.image.specs.Image.{image_of, cabling_in}
use Rattle.image.specs.Longest.{longest_image}
use Rattle.image.specs.Faults.{links_fault}
use Rattle.lines.specs.Lines.{or_refused}

-- no longer than this: the longest full image
abbrev pub longest_build : ℕ
longest_build = longest_image

unfoldable pub output_of : List ℕ → List ℕ
output_of b = or_refused (links_fault b) (image_of full_kinds (cabling_in b))
