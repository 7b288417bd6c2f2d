use Rattle.std.proofs.Common.{◌≡◌, ℕ, suc, ◌+◌, ◌-◌, ◌<◌, ◌≤◌, List, [], ◌∷◌, ◌++◌, Result, Ok, Err, refl, sym, ap, ◌∙◌, arith, append_assoc}
use Rattle.std.proofs.lemmas.List.{append-nil}
use Rattle.std.proofs.lemmas.Result.{err_from_is_err_and}
use Rattle.ring_names.specs.declared.ids.NodeId.{NodeId}
use Rattle.ring_names.specs.declared.refusal.Refusal.{Refusal}
use Rattle.texts.specs.Left.{Left, ◌>>=◌, next_number, next_line}
use Rattle.texts.specs.Late.{ReadsTo}
use Rattle.texts.proofs.Lates.{late-here, next-line, next-monotone}
use Rattle.ring_table.specs.declared.node.Node.{Node}
use Rattle.ring_table.specs.Reading.{row_at, rows_at}
use Rattle.ring_table.proofs.RowLaws.{behind}
use Rattle.ring_table.proofs.RingLates.{rows-on}
use Rattle.ring_table.proofs.row.read_rows.Goals as goal

module _ (nodes : List Node) (n : ℕ) (front : List (List NodeId)) (p q : ℕ) (s : Left) (total : Result (List (List NodeId) × Left) Refusal) where
  one-row : (row : List NodeId) (r : Result (List (List NodeId) × Left) Refusal)
      → behind front (◌>>=◌ {B = (List NodeId × List (List NodeId)) × Left} r (λ y. Ok ((row, y.0), y.1)) >>= λ x. Ok (x.0.0 ∷ x.0.1, x.1))
      ≡ behind (front ++ row ∷ []) r
  one-row row (Ok x) = ap (λ (rows : List (List NodeId)). Ok (rows, x.1)) (sym (append_assoc front (row ∷ []) x.0))
  one-row row (Err e) = refl

  rows-goes_on : (t : Left) (l : List (List ℕ)) (row : List NodeId) → p < q → next_line s ≡ Ok (l, t) → row_at nodes n p s.line l ≡ Ok row
      → behind front (rows_at nodes n p (q - p) s) ≡ total → behind (front ++ row ∷ []) (rows_at nodes n (p + 1) (q - (p + 1)) t) ≡ total
  unfolding rows_at
  rows-goes_on t l row lt e f so_far = (let k : q - p ≡ suc (q - (p + 1)) = omega arith in sym (one-row row (rows_at nodes n (p + 1) (q - (p + 1)) t))
      ∙ (rw (k, e, f) at so_far))

-- memory that is asked for after a row that was taken
rows-late : (nodes : List Node) (n : ℕ) (front : List (List NodeId)) (p q : ℕ) (start s t : Left) (l : List (List ℕ)) (row : List NodeId)
    (total : Result (List (List NodeId) × Left) Refusal)
    → p < q → next_line s ≡ Ok (l, t) → row_at nodes n p s.line l ≡ Ok row → start.line ≤ s.line → behind front (rows_at nodes n p (q - p) s) ≡ total
    → (next_number start.line ≤ t.line) × ReadsTo t.line total
rows-late nodes n front p q start s t l row total lt e f le so_far =
    let is = rows-goes_on nodes n front p q s total t l row lt e f so_far in
    let on = elim (rows_at nodes n (p + 1) (q - (p + 1)) t) as (λ r. ReadsTo t.line r → ReadsTo t.line (behind (front ++ row ∷ []) r))
    [ Ok x ↦ λ h. h | Err d ↦ λ h. h ] ((rows-on nodes n (p + 1) (q - (p + 1))).on t) in
    let line = next-line s t l e in
    let more = next-monotone start.line s.line le in
    (omega (arith, line, more), rw (← is) on)

pub returns-in_err-fields-clause-read : goal.returns-in_err-fields-clause-read
unfolding rows_at
returns-in_err-fields-clause-read c =
    let p = err_from_is_err_and c.from_residual.result c.from_residual.ensures.1 in
    let left : c.args.partitions - c.loop-partition.partition ≡ suc (c.args.partitions - (c.loop-partition.partition + 1)) = omega (arith, c.loop-partition-test.true) in
    rw (p.1, p.2) (λ _. sym (rw (left, c.in_err-fields.ensures.missing) at c.loop-partition.invariant.rest))

pub returns-in_err-row-clause-read : goal.returns-in_err-row-clause-read
unfolding rows_at
returns-in_err-row-clause-read c =
    let p = err_from_is_err_and c.from_residual-in_err-row.result c.from_residual-in_err-row.ensures.1 in
    let is = rw c.in_ok-fields.ensures.found.0 at (sym c.row_line.ensures.value ∙ c.in_err-row.was) in
    let left : c.args.partitions - c.loop-partition.partition ≡ suc (c.args.partitions - (c.loop-partition.partition + 1)) = omega (arith, c.loop-partition-test.true) in
    rw (p.1, p.2) (λ _. sym (rw (left, c.in_ok-fields.ensures.found.1, is) at c.loop-partition.invariant.rest))

pub returns-in_err-row-2-clause-late : goal.returns-in_err-row-2-clause-late
returns-in_err-row-2-clause-late c =
    let row = sym c.row_line.ensures.value ∙ c.in_ok-row.was in
    late-here 1 c.from_residual-in_err-row-2.result c.args.lines.now c.next.new.self (rows_at c.args.declared.now c.args.slots 0 c.args.partitions c.args.lines.now)
    (rows-late c.args.declared.now c.args.slots c.loop-partition.rows.items c.loop-partition.partition c.args.partitions c.args.lines.now c.loop-partition.lines c.next.new.self c.in_ok-fields.fields.fields c.in_ok-row.row _ c.loop-partition-test.true c.in_ok-fields.ensures.found.1 (rw c.in_ok-fields.ensures.found.0 at row) c.loop-partition.invariant.forward c.loop-partition.invariant.rest)

pub returns-in_err-push-clause-late : goal.returns-in_err-push-clause-late
returns-in_err-push-clause-late c =
    let row = sym c.row_line.ensures.value ∙ c.in_ok-row.was in
    late-here 1 c.from_residual-in_err-push.result c.args.lines.now c.next.new.self (rows_at c.args.declared.now c.args.slots 0 c.args.partitions c.args.lines.now)
    (rows-late c.args.declared.now c.args.slots c.loop-partition.rows.items c.loop-partition.partition c.args.partitions c.args.lines.now c.loop-partition.lines c.next.new.self c.in_ok-fields.fields.fields c.in_ok-row.row _ c.loop-partition-test.true c.in_ok-fields.ensures.found.1 (rw c.in_ok-fields.ensures.found.0 at row) c.loop-partition.invariant.forward c.loop-partition.invariant.rest)

pub loop-partition-preserved : goal.loop-partition-preserved
loop-partition-preserved c =
    let row-is : c.from_vec.result ≡ c.in_ok-row.row = c.from_vec.ensures ∙ c.in_ok-row-2.ensures.items ∙ c.as_slice.ensures in
    let is = rw c.in_ok-fields.ensures.found.0 at (sym c.row_line.ensures.value ∙ c.in_ok-row.was) in
    let forward = c.in_ok-fields.ensures.forward in
    record {
      rest = rw (c.in_ok-push.ensures.items, row-is) (rows-goes_on c.args.declared.now c.args.slots c.loop-partition.rows.items c.loop-partition.partition c.args.partitions c.loop-partition.lines (rows_at c.args.declared.now c.args.slots 0 c.args.partitions c.args.lines.now) c.next.new.self c.in_ok-fields.fields.fields c.in_ok-row.row c.loop-partition-test.true c.in_ok-fields.ensures.found.1 is c.loop-partition.invariant.rest);
      forward = omega (arith, forward, c.loop-partition.invariant.forward);
    }

pub returns-clause-read : goal.returns-clause-read
unfolding rows_at
returns-clause-read c =
    let none : c.args.partitions - c.loop-partition.partition ≡ 0 = omega (arith, c.loop-partition-test.false) in
    sym (rw none at c.loop-partition.invariant.rest) ∙ ap (λ (rows : List (List NodeId)). Ok (rows, c.loop-partition.lines)) (append-nil c.loop-partition.rows.items)
