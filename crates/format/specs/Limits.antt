-- How large an image and a stored number may be. Every other place cites these names.
use Rattle.std.specs.Prelude.{ℕ}

-- RULES 6.1: "No image is longer than 65,535 bytes."
abbrev pub max_image : ℕ
max_image = 65535

-- how many numbers there are of 16 bits
abbrev pub half_word : ℕ
half_word = 65536
