use Rattle.std.proofs.Common.{◌≡◌, ◌≤◌, ◌+◌, ◌∙◌, ℕ, List, ◌++◌, ◌∷◌, [], length, ap, arith}
use Rattle.std.proofs.lemmas.Option.{slice_get_within}
use Rattle.plan_moves.specs.Rounds.{greatest, copies}
use Rattle.plan_moves.proofs.Rising.{deps-in-front, greatest-low, copies-few, rounds-next, low-next, length-next}
use Rattle.plan_moves.proofs.depth.rounds.Goals as goal

pub greatest-before-requires : goal.greatest-before-requires
greatest-before-requires c =
    deps-in-front c.loop-number.number (length c.as_slice.result.now) c.args.plan.now c.deps.result.now c.deps.ensures.valid.each c.deps.ensures.value (ap (λ (xs : List ℕ). length xs) c.as_slice.ensures.value ∙ c.loop-number.invariant.len)

pub overflow_add-before : goal.overflow_add-before
overflow_add-before c =
    let found = c.loop-number.found.items in
    let low : greatest found c.deps.result.now ≤ c.loop-number.number = greatest-low found c.deps.result.now c.loop-number.number c.loop-number.invariant.low in
    let is : c.greatest-before.result ≡ greatest found c.deps.result.now = c.greatest-before.ensures ∙ ap (λ (xs : List ℕ). greatest xs c.deps.result.now) c.as_slice.ensures.value in
    let few : copies c.step.result.now ≤ 1 = copies-few c.step.result.now in
    let one : c.copies.result ≡ copies c.step.result.now = c.copies.ensures in
    let steps = c.deps.ensures.valid.steps in
    omega arith

pub loop-number-preserved : goal.loop-number-preserved
loop-number-preserved c =
    let plan = c.args.plan.now in
    let n = c.loop-number.number in
    let found = c.loop-number.found.items in
    let inv = c.loop-number.invariant in
    let ds = c.deps.result.now in
    let t = c.step.result.now in
    let round : c.greatest-before.result + c.copies.result ≡ greatest found ds + copies t =
    ap (λ x. x + c.copies.result) (c.greatest-before.ensures ∙ ap (λ (xs : List ℕ). greatest xs ds) c.as_slice.ensures.value) ∙ ap (λ x. greatest found ds + x) c.copies.ensures in
    let is : c.push.new.self.items ≡ found ++ (greatest found ds + copies t) ∷ [] = c.in_ok-push.ensures.items ∙ ap (λ x. found ++ x ∷ []) round in
    let low : greatest found ds ≤ n = greatest-low found ds n inv.low in
    let few : copies t ≤ 1 = copies-few t in
    record {
      len = length-next found c.push.new.self.items (greatest found ds + copies t) n is inv.len;
      each = rounds-next plan n found c.push.new.self.items t ds c.deps.ensures.valid.each inv.len inv.each c.step.ensures.value c.deps.ensures.value is;
      low = rw is (low-next n found (greatest found ds + copies t) (omega arith) inv.low);
    }

pub returns-clause-ok : goal.returns-clause-ok
returns-clause-ok c =
    let end : c.loop-number.number ≡ length c.args.plan.now = omega arith in
    record {
      len = c.loop-number.invariant.len ∙ end;
      each = λ n x e. c.loop-number.invariant.each n x (let l = slice_get_within c.args.plan.now n x e in omega arith) e;
    }
