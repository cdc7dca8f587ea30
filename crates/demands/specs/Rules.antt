-- Demand 2 in words (RULES 2.2): what the bodies behind kind 1 of a full image hold, and what build, read and write make of a good cabling.
use Rattle.std.specs.Prelude.{◌≡◌, List, [], ◌∷◌, ℕ, length, Ok}
use Rattle.lawful.specs.Path.{LawfulTo, FallsTo}
use Rattle.lawful.specs.Turn.{label_in}
use Rattle.rule.specs.Labels.{ByRule}
use Rattle.cabling.specs.Cabling.{Cabling, links}
use Rattle.fabric.specs.Rows.{RowsBy}
use Rattle.format.specs.Contents.{full_kinds}
use Rattle.format.specs.Bytes.{bodies_from}
use Rattle.format.specs.Order.{InOrder}
use Rattle.results.specs.Written.{placed, Written}

-- labels by the rule of RULES 4, free entries that begin a shortest lawful path and falling entries a shortest path of falls, RULES 5.2: "the lowest number
-- where several begin one", RULES 5.3: "255 exactly when there is none"
pub record ByTheRule (c : Cabling) (labels free falling : List ℕ) : Type 0 where
  pub size : length labels ≡ c.nodes
  pub by_rule : ByRule c.nodes (links c) c.nodes (label_in labels)
  pub free-rows : RowsBy c.nodes (LawfulTo (links c) (label_in labels)) free
  pub falling-rows : RowsBy c.nodes (FallsTo (links c) (label_in labels)) falling

-- build's answer and the buffer after it: an image stands at the front whose contents are in order, whose kind 1 is the cabling and whose kinds 2 to 4 are
-- by the rule
pub record Built (c : Cabling) (before : List ℕ) (answer : Written) (after : List ℕ) : Type 0 where
  pub image : List ℕ
  pub answers : answer ≡ Ok (length image)
  pub leaves : after ≡ placed image before
  pub ordered : InOrder image full_kinds
  pub labels : List ℕ
  pub free : List ℕ
  pub falling : List ℕ
  pub holds : bodies_from image 0 full_kinds ≡ (c.nodes ∷ 0 ∷ c.pairs) ∷ labels ∷ free ∷ falling ∷ []
  pub by_the_rule : ByTheRule c labels free falling
