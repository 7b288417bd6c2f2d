use Rattle.std.proofs.Common.{◌≡◌, ◌∙◌, ◌-◌, ℕ, true, false, [], ◌∷◌, sym, ap, refl, eq-eqb, ne_eqb}
use Rattle.std.specs.Prelude.{◌==◌, Some, None}
use Rattle.ring_names.specs.declared.refusal.Refusal.TheVariants.{UnknownNumber, NotOpen, ChunksLeft}
use Rattle.plan_stage.specs.Clauses.{first_failing, Guard}
use Rattle.plan_runs.specs.Guards.{has_copy}
use Rattle.store_parts.specs.Steps.{is_open_at}
use Rattle.store_parts.specs.GuardsKept.{chunks_left_kept}
use Rattle.store_parts.specs.Parts.{plan_of}
use Rattle.store_events.proofs.EventTests.{close_tested, marked_most, third_later, third_decides}
use Rattle.store_events.proofs.copies.close_refusal.Goals as goal

pub returns-in-Some : goal.returns-in-Some
returns-in-Some c =
    let a = c.args.parts.now in
    let n = c.args.step in
    let left : Guard = (chunks_left_kept a.steps n == 0, ChunksLeft (chunks_left_kept a.steps n)) in
    close_tested a n (Some c.in-Some.refusal) (sym (third_later (has_copy (plan_of a) n) (is_open_at a.steps n) UnknownNumber NotOpen c.in-Some.refusal left (sym c.in-Some.ensures)))

pub overflow_sub-left : goal.overflow_sub-left
overflow_sub-left c = marked_most c.args.parts.now.steps c.args.step c.marked-left.result c.marked-left.ensures

pub returns-then-left-ne0 : goal.returns-then-left-ne0
returns-then-left-ne0 c =
    let a = c.args.parts.now in
    let n = c.args.step in
    let kept : Guard = (chunks_left_kept a.steps n == 0, ChunksLeft (chunks_left_kept a.steps n)) in
    let left : 16 - c.marked-left.result ≡ chunks_left_kept a.steps n = ap (λ (m : ℕ). 16 - m) c.marked-left.ensures in
    let g : (16 - c.marked-left.result == 0) ≡ false = ne_eqb (16 - c.marked-left.result) 0 c.if-left-ne0.true in
    let one : Some (ChunksLeft (16 - c.marked-left.result)) ≡ first_failing (kept ∷ []) = rw (sym left, g) refl in
    close_tested a n _ (one ∙ sym (third_decides (has_copy (plan_of a) n) (is_open_at a.steps n) UnknownNumber NotOpen kept (sym c.in_default.ensures)))

pub returns : goal.returns
returns c =
    let a = c.args.parts.now in
    let n = c.args.step in
    let kept : Guard = (chunks_left_kept a.steps n == 0, ChunksLeft (chunks_left_kept a.steps n)) in
    let left : 16 - c.marked-left.result ≡ chunks_left_kept a.steps n = ap (λ (m : ℕ). 16 - m) c.marked-left.ensures in
    let g : (16 - c.marked-left.result == 0) ≡ true = eq-eqb (16 - c.marked-left.result) 0 c.if-left-ne0.false in
    let one : None ≡ first_failing (kept ∷ []) = rw (sym left, g) refl in
    close_tested a n _ (one ∙ sym (third_decides (has_copy (plan_of a) n) (is_open_at a.steps n) UnknownNumber NotOpen kept (sym c.in_default.ensures)))
