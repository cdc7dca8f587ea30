-- What the program's table holds of each network worked by hand: the nodes and the pairs; the labels, T, W and the first node; the tables of rows and what hop is
-- asked; the images and the sheet; the lists of messages that drain.
use Rattle.std.specs.Prelude.{List, ℕ, map}
use Rattle.std.specs.Borrow.{Bor}
use Rattle.by_hand.specs.Networks as by_hand
use Rattle.by_hand.specs.Networks.{Worked, Load}
use Rattle.findings.specs.declared.networks.Asked.{Asked}
use Rattle.findings.specs.declared.networks.Network.{Network}

pub record Row : Type 0 where
  pub nodes : ℕ
  pub pairs : List ℕ
  pub labels : List ℕ
  pub turns : ℕ
  pub prohibited : ℕ
  pub first : ℕ
  pub free : List ℕ
  pub falling : List ℕ
  pub hops : List Asked
  pub links : List ℕ
  pub full : List ℕ
  pub sheet : List ℕ
  pub loads : List (List ℕ)

-- of an entry of the program's table
abbrev pub row_of : Network → Row
row_of n = record {
  nodes = n.cabling.nodes;
  pairs = n.cabling.pairs.now;
  labels = n.labels.now;
  turns = n.turns;
  prohibited = n.prohibited;
  first = n.first;
  free = n.free.now;
  falling = n.falling.now;
  hops = n.hops.now;
  links = n.links.now;
  full = n.full.now;
  sheet = n.sheet.now;
  loads = map (λ (l : Bor (List ℕ)). l.now) n.loads.now;
}

-- of a network worked by hand: node, class and destination of what hop is asked, and the messages of what drains
abbrev pub row_in : Worked → Row
row_in e = record {
  nodes = e.cabling.nodes;
  pairs = e.cabling.pairs;
  labels = e.labels;
  turns = e.turns;
  prohibited = e.prohibited;
  first = e.first;
  free = e.free;
  falling = e.falling;
  hops = map (λ (a : by_hand.Asked). record { node = a.node; class = a.class; destination = a.destination }) e.hops;
  links = e.links-image;
  full = e.full-image;
  sheet = e.sheet;
  loads = map (λ (l : Load). l.messages) e.loads;
}
