use Rattle.std.proofs.Common.{◌≡◌, ◌∙◌, ◌++◌, ◌∷◌, [], List, None, refl, sym, ap, arith, rules, ℕ}
use Rattle.std.specs.Global.{Vec}
use Rattle.ring_names.specs.Names.{place}
use Rattle.ring_names.proofs.Places.{names-push, place-below, place-push}
use Rattle.ring_names.proofs.numbered.Numbered.add.Goals as goal

pub returns-clause-number : goal.returns-clause-number
returns-clause-number c =
    let ns = c.args.self.now in
    let x = c.args.bytes.now in
    let absent : place ns x ≡ None = search rules in
    let items = c.push_reserved.ensures.items ∙ ap (λ (l : List (Vec ℕ)). l ++ c.in_ok-kept.kept ∷ []) c.reserve.ensures.items in
    let now = names-push c.self.inside.list.items c.push_reserved.new.self.items c.in_ok-kept.kept ns x c.self.view_is c.in_ok-kept.ensures.items items in
    ap (λ (l : List (List ℕ)). place l x) now ∙ place-push ns x absent ∙ rw c.len-number.ensures refl

pub returns-in-Some-clause-below : goal.returns-in-Some-clause-below
returns-in-Some-clause-below c = let b = place-below c.args.self.now c.in-Some.number c.args.bytes.now (sym c.number_of.ensures ∙ c.in-Some.is) in omega arith
