-- Demand 3 (RULES 2.3): from a start that answers fine, whatever the image and the list, and whichever moves are tried from there.
use Rattle.std.specs.Prelude.{Ok}
use mathlib.Core.Path.{◌≡◌, refl, ap}
use mathlib.Core.Bool.{Bool}
use mathlib.Core.List.{List, [], ◌∷◌}
use Prim.Native.Nat.{ℕ, ◌+◌}
use native.Mathlib.Omega.{arith}
use Rattle.finite.proofs.Truth.{bcase}
use Rattle.finite.proofs.Sum.{when_true, when_false}
use Rattle.cabling.specs.Cabling.{Cabling, links}
use Rattle.fabric.specs.Fabric.{fabric_of}
use Rattle.image.specs.Image.{cabling_in}
use Rattle.hops.specs.Tabled.{Tabled}
use Rattle.messages.specs.declared.Record.{Record}
use Rattle.messages.specs.Step.{step_of}
use Rattle.messages.specs.Fresh.{begun_of}
use Rattle.messages.specs.Runs.{Listed, all_moves, Reached, move, successful}
use Rattle.messages.proofs.Answers.{unchanged, each_answer}
use Rattle.messages.proofs.Total.{sum_of_shortest}
use Rattle.messages.proofs.InOut.{one_in, one_out}
use Rattle.messages.proofs.Drain.{holding, progress, never-more, all-delivered, every_channel_free, counts-one}
use Rattle.start.specs.Start.{start_fault, fresh_of, record_after, start_of}
use Rattle.fabric.proofs.Arrays.{label_read}
use Rattle.start.proofs.Fabrics.{start_reached, start-fabric, start-listed}
use Rattle.demands.specs.Tries.{tried, succeeded, ShortestPaths, sum_over, Drains}

-- tries go on with a run, and its count of moves grows by those that succeed
module _ {n : ℕ} {edge : ℕ → ℕ → Bool} {labels free falling list : List ℕ} (tabled : Tabled n edge labels free falling) (listed : Listed n list) where
  tried-run : {r : Record} → Reached n labels free falling list r → (tries : List ℕ) → Reached n labels free falling list (tried r tries)
  tried-run run [] = run
  tried-run {r = r} run (m ∷ tries) = tried-run {r = (step_of r m).«record»} (move m run) tries

  tried-count : {r : Record} → Reached n labels free falling list r → (tries : List ℕ) → (tried r tries).moves ≡ r.moves + succeeded r tries
  tried-count {r} run [] = omega arith
  tried-count {r} run (m ∷ tries) =
      let i = tried-count {r = (step_of r m).«record»} (move m run) tries in
      bcase (successful (step_of r m).answer)
      (λ t. let w = when_true 1 t in let e = counts-one tabled listed run m t in omega arith)
      (λ t. let w = when_false 1 t in let e = ap (λ (x : Record). x.moves) (unchanged r m t) in omega arith)

-- the sum over a start's messages is that of its machine
module _ (b list : List ℕ) (fine : start_fault b list ≡ Ok tt) where
  abbrev c : Cabling
  c = cabling_in b

  sum_is : (paths : ℕ → List ℕ) → ShortestPaths c list paths → all_moves c.nodes (links c) (fabric_of c).labels list ≡ sum_over list paths
  sum_is paths h =
      sum_of_shortest (start-fabric b list fine) (start-listed b list fine) paths
      (λ m l. rw (label_read c) (h m l))

  start-moves : (old : Record) → (start_of old b list).«record».moves ≡ 0
  unfolding start_of record_after fresh_of begun_of
  start-moves old = rw fine refl

  pub demand_3 : (old : Record) (tries : List ℕ) (paths : ℕ → List ℕ) → ShortestPaths c list paths → Drains c list (start_of old b list).«record» tries (sum_over list paths)
  demand_3 old tries paths h =
      let tabled = start-fabric b list fine in
      let listed = start-listed b list fine in
      let begun = start_reached b list fine old in
      let run = tried-run tabled listed begun tries in
      let zero = start-moves old in
      let count = tried-count tabled listed begun tries in
      let s = sum_is paths h in
      let most = never-more tabled listed run in
      let all = all-delivered tabled listed run in
      record {
        goes_on = progress tabled listed run;
        never-refused = λ m l f e. let high = (rw e at (each_answer tabled listed run m)).0 in omega arith;
        never-more = omega arith;
        whole = (λ e. all.0 (omega arith), λ d. let e = all.1 d in omega arith);
        free = every_channel_free tabled listed run;
        holding = holding tabled listed run;
        one_in = one_in tabled listed run;
        one_out = one_out tabled listed run;
        tells = each_answer tabled listed run;
      }
