use Rattle.std.proofs.Common.{rules, ◌≡◌, ◌<◌, ℕ, true, List, [], ◌∷◌, length, sym, subst, subst₂, arith}
use Rattle.std.proofs.lemmas.Bool.{true≢false}
use Rattle.std.proofs.lemmas.Grind.{common_steps}
use Rattle.std.specs.Prelude.{◌↔◌, IsTrue}
use Rattle.std.specs.List.{list_any}
use Rattle.ring_board.specs.declared.receipt.Receipt.{Receipt}
use Rattle.ring_board.specs.Finishing.{AreBy, AreAllBy, has_end}
use Rattle.ring_board.proofs.Ends.{told_all, none_left}
use Rattle.ring_board.proofs.finishing.are_finishers.Goals as goal

pub returns-then-not-mark-clause-exactly : goal.returns-then-not-mark-clause-exactly
returns-then-not-mark-clause-exactly c = (
  λ t. absurd (true≢false (sym t)),
  λ f. (
      let a = c.args in
      let lists_is : c.lists.rest.now ≡ c.in-Some.first.now ∷ c.in-Some.later.now = search rules in
      let left = (c.lists.invariant.2).1 ((told_all a.finishers.now a.front a.workers a.lists.now).1 f.by) in
      let one = subst (λ (ls : List (List Receipt)). AreAllBy a.finishers.now a.front a.workers c.lists.place ls) lists_is left in
      c.if-not-mark.ensures.yes.1 (subst₂ (λ (w : ℕ) (l : List Receipt). AreBy a.finishers.now w l) (sym c.worker_of-worker.ensures) (sym c.as_slice.ensures) one.0)),
)

pub returns-clause-exactly : goal.returns-clause-exactly
returns-clause-exactly c =
    let a = c.args in
    let empty : c.lists.rest.now ≡ [] = none_left c.lists.rest.now c.in_default.ensures.cases in
    let all : AreAllBy a.finishers.now a.front a.workers 0 a.lists.now =
    (c.lists.invariant.2).0 (subst (λ (ls : List (List Receipt)). AreAllBy a.finishers.now a.front a.workers c.lists.place ls) (sym empty) tt) in
    let marked : IsTrue c.all.result ↔ ((k : ℕ) → k < length a.finishers.now → list_any (has_end k) a.lists.now ≡ true) = grind (arith, common_steps) in (
      λ t. record { by = (told_all a.finishers.now a.front a.workers a.lists.now).0 all; finished = marked.0 t },
      λ f. marked.1 f.finished,
    )
