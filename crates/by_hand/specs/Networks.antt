-- RULES 11.1: the constant table of the networks worked by hand.
use Rattle.std.specs.Prelude.{List, [], ◌∷◌, ℕ, Ok}
use Rattle.hops.specs.Hop.{HopAnswer, Next, NoWay}
use Rattle.cabling.specs.Cabling.{Cabling, cabled}
use Rattle.messages.specs.Step.{MoveAnswer}
use Rattle.messages.specs.declared.Answer.TheVariants.{Moved, Blocked, Delivered}

-- what hop is asked, and its answer
pub record Asked : Type 0 where
  pub node : ℕ
  pub class : ℕ
  pub destination : ℕ
  pub answer : HopAnswer

abbrev pub asked : ℕ → ℕ → ℕ → HopAnswer → Asked
asked node class destination answer = record { node = node; class = class; destination = destination; answer = answer }

-- messages, how many successful moves drain them, and which of them seed 0 looks at first
pub record Load : Type 0 where
  pub messages : List ℕ
  pub moves : ℕ
  pub look : ℕ

abbrev pub load : List ℕ → ℕ → ℕ → Load
load messages moves look = record { messages = messages; moves = moves; look = look }

-- messages, the ones whose moves are tried one after another, and what these answer
pub record Tries : Type 0 where
  pub messages : List ℕ
  pub tried : List ℕ
  pub answers : List MoveAnswer

abbrev pub tries : List ℕ → List ℕ → List MoveAnswer → Tries
tries messages tried answers = record { messages = messages; tried = tried; answers = answers }

-- a cabling, with what the rules give for it: the labels, T, W, the node that is labelled first, both tables of rows, hops by them, both images and the sheet; then
-- messages that drain over it, and moves that are tried. What is left empty is not worked by hand
pub record Worked : Type 0 where
  pub cabling : Cabling
  pub labels : List ℕ
  pub turns : ℕ
  pub prohibited : ℕ
  pub first : ℕ
  pub free : List ℕ
  pub falling : List ℕ
  pub hops : List Asked
  pub links-image : List ℕ
  pub full-image : List ℕ
  pub sheet : List ℕ
  pub loads : List Load
  pub tries : List Tries

-- RULES 11.1: "Link 0-1: labels 1, 2. Its links image is 01 01 01 00 08 00 04 00 02 00 00 01. The bodies of its full image are 02 00 00 01, 01 02, 00 01 00 01,
-- 00 FF 00 01; it has 40 bytes."; "The sheet of the link is 32 0A 30 20 31 0A in hexadecimal; that of the ring is in 10.6."; "Link 0-1: a message 0→1 takes 4 moves;
-- one from 0 to itself takes 3. Messages 0→1 and 0→1, moves of 0, 1, 0, 0, 0, 1: moved, blocked by 0, moved, moved, delivered, moved."
abbrev pub link : Worked
link = record {
  cabling = cabled 2 (0 ∷ 1 ∷ []);
  labels = 1 ∷ 2 ∷ [];
  turns = 0;
  prohibited = 0;
  first = 0;
  free = 0 ∷ 1 ∷ 0 ∷ 1 ∷ [];
  falling = 0 ∷ 255 ∷ 0 ∷ 1 ∷ [];
  hops = [];
  links-image = 1 ∷ 1 ∷ 1 ∷ 0 ∷ 8 ∷ 0 ∷ 4 ∷ 0 ∷ 2 ∷ 0 ∷ 0 ∷ 1 ∷ [];
  full-image = 1 ∷ 4 ∷ 1 ∷ 0 ∷ 26 ∷ 0 ∷ 4 ∷ 0 ∷ 2 ∷ 0 ∷ 30 ∷ 0 ∷ 2 ∷ 0 ∷ 3 ∷ 0 ∷ 32 ∷ 0 ∷ 4 ∷ 0 ∷ 4 ∷ 0 ∷ 36 ∷ 0 ∷ 4 ∷ 0 ∷ 2 ∷ 0 ∷ 0 ∷ 1 ∷ 1 ∷ 2 ∷ 0 ∷ 1 ∷ 0 ∷ 1 ∷ 0 ∷ 255 ∷ 0 ∷ 1 ∷ [];
  sheet = 50 ∷ 10 ∷ 48 ∷ 32 ∷ 49 ∷ 10 ∷ [];
  loads = load (0 ∷ 1 ∷ []) 4 0 ∷ load (0 ∷ 0 ∷ []) 3 0 ∷ [];
  tries = tries (0 ∷ 1 ∷ 0 ∷ 1 ∷ []) (0 ∷ 1 ∷ 0 ∷ 0 ∷ 0 ∷ 1 ∷ []) (Ok Moved ∷ Ok (Blocked 0) ∷ Ok Moved ∷ Ok Moved ∷ Ok Delivered ∷ Ok Moved ∷ []) ∷ [];
}

-- RULES 11.1: "Triangle: labels 1, 2, 3; T = 3, W = 1."
abbrev pub triangle : Worked
triangle = record {
  cabling = cabled 3 (0 ∷ 1 ∷ 0 ∷ 2 ∷ 1 ∷ 2 ∷ []);
  labels = 1 ∷ 2 ∷ 3 ∷ [];
  turns = 3;
  prohibited = 1;
  first = 0;
  free = 0 ∷ 1 ∷ 2 ∷ 0 ∷ 1 ∷ 2 ∷ 0 ∷ 1 ∷ 2 ∷ [];
  falling = 0 ∷ 255 ∷ 255 ∷ 0 ∷ 1 ∷ 255 ∷ 0 ∷ 1 ∷ 2 ∷ [];
  hops = [];
  links-image = [];
  full-image = [];
  sheet = [];
  loads = [];
  tries = [];
}

-- RULES 11.1: "Path 0-1-2: labels 1, 2, 3; W = 0."
abbrev pub path : Worked
path = record {
  cabling = cabled 3 (0 ∷ 1 ∷ 1 ∷ 2 ∷ []);
  labels = 1 ∷ 2 ∷ 3 ∷ [];
  turns = 1;
  prohibited = 0;
  first = 0;
  free = 0 ∷ 1 ∷ 1 ∷ 0 ∷ 1 ∷ 2 ∷ 1 ∷ 1 ∷ 2 ∷ [];
  falling = 0 ∷ 255 ∷ 255 ∷ 0 ∷ 1 ∷ 255 ∷ 1 ∷ 1 ∷ 2 ∷ [];
  hops = [];
  links-image = [];
  full-image = [];
  sheet = [];
  loads = [];
  tries = [];
}

-- RULES 11.1: "Ring 0-1, 0-3, 1-2, 2-3: labels 1, 2, 3, 4; falling rows 0 - - -; 0 1 - -; 1 1 2 -; 0 2 2 3 (- is 255).", the free rows that Show prints, and
-- "The ring's messages 0→2, 1→3, 2→0, 3→1 take 20 successful moves. From seed 0 the drain looks at message 2 first."; RULES 11.1: "Hops of the ring, as node, class
-- and destination, and what hop answers: 0 free to 2, node 1 free; 2 free to 0, node 1 falling; 1 falling to 0, node 0 falling; 0 falling to 2, none; 3 falling
-- to 3, node 3 falling."
abbrev pub ring : Worked
ring = record {
  cabling = cabled 4 (0 ∷ 1 ∷ 0 ∷ 3 ∷ 1 ∷ 2 ∷ 2 ∷ 3 ∷ []);
  labels = 1 ∷ 2 ∷ 3 ∷ 4 ∷ [];
  turns = 4;
  prohibited = 1;
  first = 0;
  free = 0 ∷ 1 ∷ 1 ∷ 3 ∷ 0 ∷ 1 ∷ 2 ∷ 2 ∷ 1 ∷ 1 ∷ 2 ∷ 3 ∷ 0 ∷ 2 ∷ 2 ∷ 3 ∷ [];
  falling = 0 ∷ 255 ∷ 255 ∷ 255 ∷ 0 ∷ 1 ∷ 255 ∷ 255 ∷ 1 ∷ 1 ∷ 2 ∷ 255 ∷ 0 ∷ 2 ∷ 2 ∷ 3 ∷ [];
  hops = asked 0 0 2 (Next 1 0) ∷ asked 2 0 0 (Next 1 1) ∷ asked 1 1 0 (Next 0 1) ∷ asked 0 1 2 NoWay ∷ asked 3 1 3 (Next 3 1) ∷ [];
  links-image = [];
  full-image = [];
  sheet = 52 ∷ 10 ∷ 48 ∷ 32 ∷ 49 ∷ 10 ∷ 48 ∷ 32 ∷ 51 ∷ 10 ∷ 49 ∷ 32 ∷ 50 ∷ 10 ∷ 50 ∷ 32 ∷ 51 ∷ 10 ∷ [];
  loads = load (0 ∷ 2 ∷ 1 ∷ 3 ∷ 2 ∷ 0 ∷ 3 ∷ 1 ∷ []) 20 2 ∷ [];
  tries = [];
}

-- RULES 11.1: "Hub 0 with leaves 1, 2, 3: labels 3, 1, 2, 4. Hops: 1 free to 3, node 0 free; 0 free to 3, node 3 free."
abbrev pub hub : Worked
hub = record {
  cabling = cabled 4 (0 ∷ 1 ∷ 0 ∷ 2 ∷ 0 ∷ 3 ∷ []);
  labels = 3 ∷ 1 ∷ 2 ∷ 4 ∷ [];
  turns = 3;
  prohibited = 0;
  first = 1;
  free = 0 ∷ 1 ∷ 2 ∷ 3 ∷ 0 ∷ 1 ∷ 0 ∷ 0 ∷ 0 ∷ 0 ∷ 2 ∷ 0 ∷ 0 ∷ 0 ∷ 0 ∷ 3 ∷ [];
  falling = 0 ∷ 1 ∷ 2 ∷ 255 ∷ 255 ∷ 1 ∷ 255 ∷ 255 ∷ 255 ∷ 255 ∷ 2 ∷ 255 ∷ 0 ∷ 0 ∷ 0 ∷ 3 ∷ [];
  hops = asked 1 0 3 (Next 0 0) ∷ asked 0 0 3 (Next 3 0) ∷ [];
  links-image = [];
  full-image = [];
  sheet = [];
  loads = [];
  tries = [];
}

-- RULES 11.1: "Four nodes, all linked: T = 12, W = 4."
abbrev pub all_four : Worked
all_four = record {
  cabling = cabled 4 (0 ∷ 1 ∷ 0 ∷ 2 ∷ 0 ∷ 3 ∷ 1 ∷ 2 ∷ 1 ∷ 3 ∷ 2 ∷ 3 ∷ []);
  labels = 1 ∷ 2 ∷ 3 ∷ 4 ∷ [];
  turns = 12;
  prohibited = 4;
  first = 0;
  free = 0 ∷ 1 ∷ 2 ∷ 3 ∷ 0 ∷ 1 ∷ 2 ∷ 3 ∷ 0 ∷ 1 ∷ 2 ∷ 3 ∷ 0 ∷ 1 ∷ 2 ∷ 3 ∷ [];
  falling = 0 ∷ 255 ∷ 255 ∷ 255 ∷ 0 ∷ 1 ∷ 255 ∷ 255 ∷ 0 ∷ 1 ∷ 2 ∷ 255 ∷ 0 ∷ 1 ∷ 2 ∷ 3 ∷ [];
  hops = [];
  links-image = [];
  full-image = [];
  sheet = [];
  loads = [];
  tries = [];
}

-- RULES 11.1: "26 nodes: 0 and 1 each linked to 2, 3, 4, 5; 6 to 10, 11 to 15, 16 to 20 and 21 to 25 complete among themselves; 2-6, 3-11, 4-16, 5-21. Node 7
-- is labelled first: 0 and 1 have degree 4 too, but 12 > 8."
abbrev pub blocks : Worked
blocks = record {
  cabling = cabled 26 (0 ∷ 2 ∷ 0 ∷ 3 ∷ 0 ∷ 4 ∷ 0 ∷ 5 ∷ 1 ∷ 2 ∷ 1 ∷ 3 ∷ 1 ∷ 4 ∷ 1 ∷ 5 ∷ 2 ∷ 6 ∷ 3 ∷ 11 ∷ 4 ∷ 16 ∷ 5 ∷ 21 ∷ 6 ∷ 7 ∷ 6 ∷ 8 ∷ 6 ∷ 9 ∷ 6 ∷ 10 ∷ 7 ∷ 8 ∷ 7 ∷ 9 ∷ 7 ∷ 10 ∷ 8 ∷ 9 ∷ 8 ∷ 10 ∷ 9 ∷ 10 ∷ 11 ∷ 12 ∷ 11 ∷ 13 ∷ 11 ∷ 14 ∷ 11 ∷ 15 ∷ 12 ∷ 13 ∷ 12 ∷ 14 ∷ 12 ∷ 15 ∷ 13 ∷ 14 ∷ 13 ∷ 15 ∷ 14 ∷ 15 ∷ 16 ∷ 17 ∷ 16 ∷ 18 ∷ 16 ∷ 19 ∷ 16 ∷ 20 ∷ 17 ∷ 18 ∷ 17 ∷ 19 ∷ 17 ∷ 20 ∷ 18 ∷ 19 ∷ 18 ∷ 20 ∷ 19 ∷ 20 ∷ 21 ∷ 22 ∷ 21 ∷ 23 ∷ 21 ∷ 24 ∷ 21 ∷ 25 ∷ 22 ∷ 23 ∷ 22 ∷ 24 ∷ 22 ∷ 25 ∷ 23 ∷ 24 ∷ 23 ∷ 25 ∷ 24 ∷ 25 ∷ []);
  labels = 7 ∷ 20 ∷ 6 ∷ 13 ∷ 19 ∷ 21 ∷ 5 ∷ 1 ∷ 2 ∷ 3 ∷ 4 ∷ 12 ∷ 8 ∷ 9 ∷ 10 ∷ 11 ∷ 18 ∷ 14 ∷ 15 ∷ 16 ∷ 17 ∷ 22 ∷ 23 ∷ 24 ∷ 25 ∷ 26 ∷ [];
  turns = 160;
  prohibited = 44;
  first = 7;
  free = [];
  falling = [];
  hops = [];
  links-image = [];
  full-image = [];
  sheet = [];
  loads = [];
  tries = [];
}

abbrev pub worked : List Worked
worked = link ∷ triangle ∷ path ∷ ring ∷ hub ∷ all_four ∷ blocks ∷ []
