-- `image::agrees` meets its contract: three bodies are compared with the fronts of three arrays.
use mathlib.Core.Path.{◌≡◌, sym, ◌∙◌, ap, ap₂}
use mathlib.Core.Bool.{true}
use Prim.Native.Nat.{ℕ, ◌*◌}
use native.Mathlib.Omega.{arith}
use Rattle.finite.specs.Lists.{alike}
use Rattle.rows.proofs.Grid.{square_le}
use Rattle.fabric.specs.Fabric.{labels_for, rows_for}
use Rattle.fabric.proofs.Parts.{fabric-nodes, labels-part, free_part, falling-part}
use Rattle.format.specs.Bytes.{body_at}
use Rattle.image.specs.Image.{cabling_in}
use Rattle.image.proofs.Agreeing.{labels-differ, free-differ, falling_decides}
use Rattle.image.proofs.agrees.Goals.{After-same_bytes, After-same_bytes-2}
use Rattle.image.proofs.agrees.Goals as goal

-- what was compared
labels-compared : (c : After-same_bytes) → let b = c.args.image.now in
    c.same_bytes.result ≡ alike (body_at b 1) (labels_for (cabling_in b))
labels-compared c =
    c.same_bytes.ensures ∙ ap₂ alike c.body_at.ensures (c.front.ensures ∙ labels-part _ c.requires.made)

free-compared : (c : After-same_bytes-2) → let b = c.args.image.now in
    c.same_bytes-2.result ≡ alike (body_at b 2) (rows_for (cabling_in b) true)
free-compared c =
    c.same_bytes-2.ensures ∙ ap₂ alike c.body_at-2.ensures (c.front-2.ensures ∙ free_part _ c.requires.made)

pub overflow_mul-size : goal.overflow_mul-size
overflow_mul-size c =
    let q = square_le _ c.requires.good.few in
    let z = ap (λ (n : ℕ). n * n) (fabric-nodes _ c.requires.made) in
    omega arith

pub returns-then-not-same_bytes : goal.returns-then-not-same_bytes
returns-then-not-same_bytes c = labels-differ _ _ (sym (labels-compared (goal.at.returns-then-not-same_bytes c).After-same_bytes) ∙ c.if-not-same_bytes.true)

pub returns-then-not-same_bytes-2 : goal.returns-then-not-same_bytes-2
returns-then-not-same_bytes-2 c = free-differ _ _ (sym (free-compared (goal.at.returns-then-not-same_bytes-2 c).After-same_bytes-2) ∙ c.if-not-same_bytes-2.true)

pub returns : goal.returns
returns c =
    c.same_bytes-3.ensures ∙ ap₂ alike c.body_at-3.ensures (c.front-3.ensures ∙ falling-part _ c.requires.made)
    ∙ falling_decides _ _ (sym (labels-compared (goal.at.returns c).After-same_bytes) ∙ c.if-not-same_bytes.false) (sym (free-compared (goal.at.returns c).After-same_bytes-2) ∙ c.if-not-same_bytes-2.false)
