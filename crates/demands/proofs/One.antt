-- Demand 1 (RULES 2.1): each call keeps it. Two outcomes that its promise allows are equal, a refusal is given exactly when its row says, and a refused call
-- leaves what was lent.
use Rattle.std.specs.Prelude.{Err, Ok}
use Rattle.refusal.specs.Verdicts.{Verdict}
use mathlib.Core.Path.{◌≡◌, refl, sym, ◌∙◌, ap}
use Rattle.std.specs.Prelude.{Err}
use mathlib.Core.List.{List}
use mathlib.Core.Logic.{◌↔◌, inl, inr}
use Prim.Native.Nat.{ℕ}
use lib.Dec.{leb}
use lib.ListN.{length}
use borrow.Author.Tests.{leb-true, leb-false}
use Rattle.finite.specs.Truth.{below}
use Rattle.finite.proofs.Truth.{bcase, below-lt, below-le}
use Rattle.refusal.specs.declared.Refusal.{Refusal}
use Rattle.refusal.specs.declared.Refusal.TheVariants.{Short, Unknown}
use Rattle.refusal.proofs.Determined.{refusal_unique}
use Rattle.refusal.proofs.Verdicts.{fine-fault, then-fault}
use Rattle.cabling.specs.Faults.{fault_of}
use Rattle.cabling.specs.Verdicts.{Means}
use Rattle.cabling.proofs.Meaning.{fault_means}
use Rattle.format.specs.Contents.{links_kinds, full_kinds, nodes_in, pairs_in}
use Rattle.contents.proofs.Determined.{step_determined}
use Rattle.results.specs.Written.{Written, written_of, Writes}
use Rattle.results.proofs.Meaning.{written-fault, written-short, refused_in_room, refused-untouched}
use Rattle.results.proofs.Determined.{writes_determined}
use Rattle.image.specs.Image.{image_of, kinds_of, cabling_in}
use Rattle.image.specs.Faults.{links_fault, image_fault}
use Rattle.reading.specs.Reads.{outcome_of, Reads}
use Rattle.image.specs.Verdicts.{OfLinks}
use Rattle.image.proofs.Meaning.{links_means, either_means}
use Rattle.reading.proofs.Reading.{reads_determined, read_refused, read_untouched}
use Rattle.route.specs.Route.{route_fault, route_bytes}
use Rattle.route.proofs.Cases.{ends-refused, not-refused}
use Rattle.sheets.specs.Sheet.{sheet_of, cabling_on}
use Rattle.sheets.specs.Faults.{sheet_fault}
use Rattle.sheets.specs.Verdicts.{OfSheet}
use Rattle.sheets.specs.Promises.{Cables, Sheets}
use Rattle.sheets.proofs.Meaning.{sheet_means}
use Rattle.messages.specs.declared.Record.{Record}
use Rattle.messages.specs.declared.Stepped.{Stepped}
use Rattle.messages.specs.Step.{MoveAnswer, with}
use Rattle.messages.specs.Runs.{successful}
use Rattle.messages.proofs.Answers.{unchanged, move-refused-iff}
use Rattle.hops.proofs.Meaning.{row-refused-iff, hop-refused-iff, hop_refusal}
use Rattle.start.specs.declared.Started.{Started}
use Rattle.start.specs.Start.{start_fault, record_after, start_of}
use Rattle.start.proofs.Meaning.{start_means}
use Rattle.demands.specs.Calls.{ReaderStep, Never, NoRows, NotStarts, Start, StartRows, NotMoves, Move, MoveRows, NoRow, Row, RowRows, NotHops, Hop, HopRows, Numbered, KeepsPromise, RefusalRows, fault, short, NotWrites, Write, WriteRows, Build, BuildRows, CableRows, SheetRows, NotReads, ReadRows, OfRoute, of_image, no_node, of_nodes, Route, RouteRows}

-- the same refusals, so the same numbers and places
numbered : {P Q : Refusal → Type 0} → ((r : Refusal) → P r ↔ Q r) → (number place : ℕ) → Numbered P number place ↔ Numbered Q number place
numbered h number place = (λ x. let (r, p, n, q) = x in (r, (h r).0 p, n, q), λ x. let (r, p, n, q) = x in (r, (h r).1 p, n, q))

-- ---- calls that write

module _ {Of : Verdict → Type 0} (bytes : List ℕ) (room : ℕ) where
  -- with what the verdict means, the refusals of the answer mean what the rows say
  rows_mean : (v : Verdict) → ((w : Verdict) → (v ≡ w) ↔ Of w) → (r : Refusal) → (written_of v bytes room ≡ Err r) ↔ RefusalRows Of (length bytes) room r
  rows_mean v m r = (from v m, back r)
    where
      from : (v : Verdict) → ((w : Verdict) → (v ≡ w) ↔ Of w) → written_of v bytes room ≡ Err r → RefusalRows Of (length bytes) room r
      from (Err q) m e = fault ((m (Err r)).0 (let f = written-fault bytes room q in cc))
      from (Ok _) m e =
          bcase (leb (length bytes) room) (λ t. fine-fault refl (refused_in_room bytes room (Ok tt) r (λ f. leb-true _ _ t) e))
          (λ t.
          let l = leb-false _ _ t in
          let q : Short ≡ r = let f : ◌≡◌ {A = Written} (Err r) (Err Short) = sym e ∙ (written-short bytes room).1 l in cc in
          rw (← q) (short ((m (Ok tt)).0 refl) l))

      back : (r : Refusal) → RefusalRows Of (length bytes) room r → written_of v bytes room ≡ Err r
      back r (fault o) = ap (λ (w : Verdict). written_of w bytes room) ((m _).1 o) ∙ written-fault bytes room _
      back r (short o l) = ap (λ (w : Verdict). written_of w bytes room) ((m _).1 o) ∙ (written-short bytes room).1 l

-- so a call that writes keeps demand 1
module _ {I : Type 0} (v : I → Verdict) (bytes : I → List ℕ) (Of : I → Verdict → Type 0) (means : (i : I) (w : Verdict) → (v i ≡ w) ↔ Of i w) where
  writes_keep : KeepsPromise {S = List ℕ} (λ i before a after. Writes (v i) (bytes i) before a after) NotWrites (λ i before. RefusalRows (Of i) (length (bytes i)) (length before))
  writes_keep = record {
    one = λ i s t u a b x y. writes_determined x y;
    given = λ i s t a x.
        numbered (λ r. let m = rows_mean (bytes i) (length s) (v i) (means i) r in (λ e. m.0 (sym x.answers ∙ e), λ o. x.answers ∙ m.1 o));
    untouched = λ i s t a r x e. refused-untouched (bytes i) s t (v i) r (rw e at x);
  }

pub write_keeps : KeepsPromise Write NotWrites WriteRows
write_keeps = writes_keep (λ i. fault_of i.0) (λ i. image_of (kinds_of i.1) i.0) (λ i. Means i.0) (λ i. fault_means i.0)

pub build_keeps : KeepsPromise Build NotWrites BuildRows
build_keeps = writes_keep links_fault (λ b. image_of full_kinds (cabling_in b)) OfLinks links_means

pub cable_keeps : KeepsPromise Cables NotWrites CableRows
cable_keeps = writes_keep sheet_fault (λ s. image_of links_kinds (cabling_on s)) OfSheet sheet_means

pub sheet-keeps : KeepsPromise Sheets NotWrites SheetRows
sheet-keeps =
    let k = writes_keep links_fault (λ b. sheet_of (cabling_in b)) OfLinks links_means in
    record {
      one = λ b s t u x y p q. k.one b s t u x y p.writes q.writes;
      given = λ b s t a p. k.given b s t a p.writes;
      untouched = λ b s t a r p. k.untouched b s t a r p.writes;
    }

route_means : (b : List ℕ) (s t : ℕ) (v : Verdict) → (route_fault b s t ≡ v) ↔ OfRoute b s t v
route_means b s t v = (λ e. rw (← e) row, given)
  where
    row : OfRoute b s t (route_fault b s t)
    row = go (image_fault b) refl
      where
        go : (w : Verdict) → image_fault b ≡ w → OfRoute b s t (route_fault b s t)
        go (Err r) e = rw (then-fault _ e) (of_image ((either_means b (Err r)).0 e))
        go (Ok _) e =
            let fine = (either_means b (Ok tt)).0 e in
            bcase (below s (nodes_in b))
            (λ k.
            bcase (below t (nodes_in b)) (λ l. rw (not-refused b s t e (below-lt _ _ k) (below-lt _ _ l)) (of_nodes fine (below-lt _ _ k) (below-lt _ _ l)))
            (λ l. rw (ends-refused b s t e (inr (below-le _ _ l))) (no_node fine (inr (below-le _ _ l)))))
            (λ k. rw (ends-refused b s t e (inl (below-le _ _ k))) (no_node fine (inl (below-le _ _ k))))

    given : {v : Verdict} → OfRoute b s t v → route_fault b s t ≡ v
    given (of_image o) = then-fault _ ((either_means b _).1 o)
    given (no_node o h) = ends-refused b s t ((either_means b (Ok tt)).1 o) h
    given (of_nodes o k l) = not-refused b s t ((either_means b (Ok tt)).1 o) k l

pub route-keeps : KeepsPromise Route NotWrites RouteRows
route-keeps = writes_keep (λ i. route_fault i.0 i.1 i.2) (λ i. route_bytes i.0 i.1 i.2) (λ i. OfRoute i.0 i.1 i.2) (λ i. route_means i.0 i.1 i.2)

pub read_keeps : KeepsPromise Reads NotReads ReadRows
read_keeps = record {
  one = λ b s t u x y. reads_determined b;
  given = λ b s t a x.
      numbered (λ r.
      let m = rows_mean (pairs_in b) (length s) (image_fault b) (either_means b) r in
      (λ e. m.0 (read_refused b s t r (rw e at x)), λ o. x.answers ∙ ap (outcome_of b) (m.1 o)));
  untouched = λ b s t a r x e. read_untouched b s t r (rw e at x);
}

-- ---- calls over a record

pub start-keeps : KeepsPromise Start NotStarts StartRows
unfolding start_of record_after
start-keeps = record {
  one = λ i s t u a b x y. let e = x ∙ sym y in (ap (λ (z : Started). z.verdict) e, ap (λ (z : Started). z.«record») e);
  given = λ i s t v x.
      let e : v ≡ start_fault i.0 i.1 = ap (λ (z : Started). z.verdict) x in
      numbered (λ r. let m = start_means i.0 i.1 (Err r) in (λ h. m.0 (sym e ∙ h), λ o. e ∙ m.1 o));
  untouched = λ i s t v r x h.
      let e : start_fault i.0 i.1 ≡ Err r = sym (ap (λ (z : Started). z.verdict) x) ∙ h in
      ap (λ (z : Started). z.«record») x ∙ rw (e, record_after);
}

pub move-keeps : KeepsPromise Move NotMoves MoveRows
move-keeps = record {
  one = λ m s t u a b x y. let e = x ∙ sym y in (ap (λ (z : Stepped). z.answer) e, ap (λ (z : Stepped). z.«record») e);
  given = λ m s t a x. numbered (λ r. let i = move-refused-iff s m r in (λ e. i.0 (sym (answer_of x) ∙ e), λ o. answer_of x ∙ i.1 o));
  untouched = λ m s t a r x e. ap (λ (z : Stepped). z.«record») x ∙ unchanged s m (ap successful (sym (answer_of x) ∙ e));
}
  where
    answer_of : {a : MoveAnswer} {t : Record} {y : Stepped} → with t a ≡ y → a ≡ y.answer
    answer_of x = ap (λ (z : Stepped). z.answer) x

-- ---- calls over tables

pub row_keeps : KeepsPromise Row NoRow RowRows
row_keeps = record {
  one = λ i s t u a b x y. (x ∙ sym y, refl);
  given = λ i s t a x. numbered (λ r. let m = row-refused-iff i.0 i.1 i.2 i.3 i.4 in (λ e. (m.0 (sym x ∙ e.0), e.1), λ o. (x ∙ m.1 o.0, o.1)));
  untouched = λ i s t a r x e. refl;
}

pub hop-keeps : KeepsPromise Hop NotHops HopRows
hop-keeps = record {
  one = λ i s t u a b x y. (x ∙ sym y, refl);
  given = λ i s t a x.
      numbered (λ r.
      let (labels, (free, falling, n, node, class), destination) = i in
      let m = hop-refused-iff free falling n node class labels destination in (
        λ e.
            let (number, p) = hop_refusal free falling n node class labels destination r (sym x ∙ e) in
            let q : r ≡ Unknown 0 = refusal_unique r (Unknown 0) number p in
            (m.0 (sym x ∙ e ∙ ap Err q), q),
        λ o. x ∙ m.1 o.0 ∙ ap Err (sym o.1),
      ));
  untouched = λ i s t a r x e. refl;
}

-- ---- the reader of the contents

pub reader_keeps : KeepsPromise ReaderStep Never NoRows
reader_keeps = record {
  one = λ i s t u a b x y. step_determined s a b t u x y;
  given = λ i s t a x. numbered (λ r. (λ e. e, λ e. e));
  untouched = λ i s t a r x e. absurd e;
}
