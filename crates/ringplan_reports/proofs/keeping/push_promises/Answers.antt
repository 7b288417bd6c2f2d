use Rattle.std.proofs.Common.{◌≡◌, ◌∙◌, ℕ, List, ◌++◌, ap, codes}
use Rattle.std.proofs.lemmas.List.{append_assoc}
use Rattle.ringplan_reports.specs.Kept.{promise_line}
use Rattle.ringplan_reports.proofs.keeping.push_promises.Goals as goal

five : (a b c d e : List ℕ) → a ++ b ++ c ++ d ++ e ≡ a ++ (b ++ c ++ d ++ e)
five a b c d e = simp append_assoc

pub returns : goal.returns
returns c =
    let k = c.args.kept in
    let held = promise_line k.held (codes "no acknowledged put is lost") in
    let apart = promise_line k.apart (codes "no two slots of a partition share a node") in
    let few = promise_line k.few (codes "no node has more transfers open than its allowance") in
    let members = promise_line k.members (codes "each slot's owner and mirror are members") in
    let e : c.push_promise.new.out.items ≡ c.args.out.now.items ++ held = c.in_ok-push_promise.ensures in
    let f : c.push_promise-2.new.out.items ≡ c.push_promise.new.out.items ++ apart = c.in_ok-push_promise-2.ensures in
    let g : c.push_promise-3.new.out.items ≡ c.push_promise-2.new.out.items ++ few = c.in_ok-push_promise-3.ensures in
    let h : c.push_promise-4.new.out.items ≡ c.push_promise-3.new.out.items ++ members = c.in_ok-push_promise-4.ensures in
    h ∙ ap (λ (x : List ℕ). x ++ members) (g ∙ ap (λ (x : List ℕ). x ++ few) (f ∙ ap (λ (x : List ℕ). x ++ apart) e))
    ∙ five c.args.out.now.items held apart few members
