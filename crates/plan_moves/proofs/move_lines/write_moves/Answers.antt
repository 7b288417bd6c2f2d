use Rattle.std.proofs.Common.{◌∙◌, ◌<◌, List, [], ◌∷◌, ℕ, ◌++◌, length, get_or, ap}
use Rattle.std.proofs.lemmas.List.Elements.{All-same}
use Rattle.serde_json.specs.Data.{Data}
use Rattle.serde_json.specs.Written.{compact_text}
use Rattle.ring_table.specs.Value.{names_of}
use Rattle.texts.specs.Numbers.{ascending}
use Rattle.plan_moves.specs.declared.movement.Move.{Move}
use Rattle.plan_moves.specs.Moves.{moves}
use Rattle.plan_moves.specs.Lines.{node_data}
use Rattle.plan_moves.specs.MoveLines.{move_steps, move_after, move_object, move_lines, moves_text}
use Rattle.plan_moves.proofs.Goings.{line-text}
use Rattle.plan_moves.proofs.Listing.{moves-next, moves-end}
use Rattle.plan_moves.proofs.Moved.{mirrors-within, move-ascends, move-within}
use Rattle.plan_moves.proofs.move_lines.write_moves.Goals as goal

-- the move of this turn
abbrev this : List Move → ℕ → Move
this ms n = get_or ms n (record { slot = record { partition = 0; index = 0 }; from = record { 0 = 0 }; to = record { 0 = 0 }; mirror = 0 })

pub loop-number-init : goal.loop-number-init
loop-number-init c =
    let from : List Move → List ℕ = move_lines (names_of c.args.ring.now) c.args.plan.now 0 in
    record {
      told = ap (λ (xs : List ℕ). xs ++ from c.deref-movement-items.result.now) c.new-out.ensures.items ∙ ap from (c.deref-movement-items.ensures.value ∙ c.in_ok-found.ensures.ok);
      line = (c.new-line.ensures.before ∙ c.new.ensures.items, c.new-line.ensures.tokens);
    }

pub move_after-requires-clause-ascending : goal.move_after-requires-clause-ascending
move_after-requires-clause-ascending c =
    let m = this c.deref-movement-items.result.now c.loop-number.number in
    ap ascending (c.as_slice.ensures.value ∙ c.in_ok-steps.ensures) ∙ move-ascends c.args.plan.now m

pub move_after-requires-clause-within : goal.move_after-requires-clause-within
move_after-requires-clause-within c =
    let ring = c.args.ring.now in
    let plan = c.args.plan.now in
    let m = this c.deref-movement-items.result.now c.loop-number.number in
    let within = All-same (λ (m : Move). m.mirror < length plan) c.deref-movement-items.result.now (moves ring plan) (c.deref-movement-items.ensures.value ∙ c.in_ok-found.ensures.ok) (mirrors-within ring plan) c.loop-number.number _ c.loop-number-test.true in
    All-same (λ s. s < length plan) c.as_slice.result.now (move_steps plan m) (c.as_slice.ensures.value ∙ c.in_ok-steps.ensures) (move-within plan m within)

pub loop-number-preserved : goal.loop-number-preserved
loop-number-preserved c =
    let names = names_of c.args.ring.now in
    let plan = c.args.plan.now in
    let n = c.loop-number.number in
    let m = this c.deref-movement-items.result.now n in
    let made : List ℕ → List ℕ → Data = λ after steps. move_object after n steps m.slot (node_data names m.from) (node_data names m.to) in
    let after = c.as_slice-in-loop-number.ensures.value ∙ c.in_ok-after.ensures.ok ∙ ap (move_after plan) (c.as_slice.ensures.value ∙ c.in_ok-steps.ensures) in
    let steps = c.as_slice-in-loop-number-2.ensures.value ∙ c.in_ok-steps.ensures in
    let is = ap (λ (a : List ℕ). made a c.as_slice-in-loop-number-2.result.now) after ∙ ap (made (move_after plan (move_steps plan m))) steps in
    record {
      told = moves-next names plan c.deref-movement-items.result.now n _ c.loop-number.out.items c.push_line.new.out.items (moves_text c.args.ring.now plan) c.loop-number-test.true c.loop-number.invariant.told
          (line-text (made c.as_slice-in-loop-number.result.now c.as_slice-in-loop-number-2.result.now) c.loop-number.line c.write_object.new.line c.loop-number.out.items c.push_line.new.out.items c.loop-number.invariant.line c.in_ok-write_object.ensures.ok c.in_ok-line.ensures.out
          ∙ ap (λ (d : Data). c.loop-number.out.items ++ (compact_text d ++ 10 ∷ [])) is);
      line = c.in_ok-line.ensures.line;
    }

pub returns-clause-text : goal.returns-clause-text
returns-clause-text c =
    let ring = c.args.ring.now in
    let plan = c.args.plan.now in
    moves-end (names_of ring) plan c.deref-movement-items.result.now c.loop-number.number c.loop-number.out.items (moves_text ring plan) c.loop-number-test.false c.loop-number.invariant.told
