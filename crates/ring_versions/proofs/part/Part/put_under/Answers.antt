use Rattle.std.proofs.Common.{◌≡◌, ◌∙◌, ◌∷◌, ◌++◌, [], List, sym, ap, subst, arith}
use Rattle.ring_clock.specs.declared.entry.Entry.{Entry}
use Rattle.ring_versions.specs.declared.version.Version.{Version}
use Rattle.ring_versions.specs.Chunks.{IsPart}
use Rattle.ring_versions.proofs.Owning.{part_raised, part_more}
use Rattle.ring_versions.proofs.part.Part.put_under.Goals as goal

pub invariant_of-self-in_err-raise-2 : goal.invariant_of-self-in_err-raise-2
invariant_of-self-in_err-raise-2 c =
    let g = c.self.inside.group in
    let join = c.raise.new.self in
    let p = part_raised g c.self.inside.versions.items c.self.inside.owns.items c.self.inside.join join c.args.version.now.clock (c.in_ok-raise.ensures).ok c.self.invariant in
    let q = subst (λ (es : List Entry). IsPart g c.self.inside.versions.items es join) (sym c.reserve.ensures.items) p in
    subst (λ (xs : List Version). IsPart g xs c.reserve.new.self.items join) (sym c.reserve-2.ensures.items) q

pub invariant_of-self-2 : goal.invariant_of-self-2
invariant_of-self-2 c =
    let more = c.with-group.result in
    let vs = c.self.inside.versions.items in
    let owns = c.self.inside.owns.items in
    let x = c.args.version.now in
    let own = c.own_of-own.result in
    let join = c.raise.new.self in
    let told = c.with-group.ensures vs x c.own_of-own.ensures (c.self.invariant.told) in
    let p = part_more c.self.inside.group more vs owns c.self.inside.join join x own (omega arith) told (c.in_ok-raise.ensures).ok c.self.invariant in
    let q = subst (λ (es : List Entry). IsPart more (vs ++ x ∷ []) es join) (sym (c.push_reserved.ensures.items ∙ ap (λ (es : List Entry). es ++ own ∷ []) c.reserve.ensures.items)) p in
    let put : c.push_reserved-2.new.self.items ≡ vs ++ x ∷ [] = c.push_reserved-2.ensures.items ∙ ap (λ (xs : List Version). xs ++ c.in_ok-copy.copy ∷ []) c.reserve-2.ensures.items ∙ ap (λ (v : Version). vs ++ v ∷ []) (c.in_ok-copy.ensures).same in
    subst (λ (xs : List Version). IsPart more xs c.push_reserved.new.self.items join) (sym put) q
