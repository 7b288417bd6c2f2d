use Rattle.std.proofs.Common.{◌∙◌, ◌∷◌, ◌++◌, [], List, sym, ap, subst, arith}
use Rattle.ring_clock.specs.declared.entry.Entry.{Entry}
use Rattle.ring_versions.specs.declared.version.Version.{Version}
use Rattle.ring_versions.specs.Chunks.{IsPart}
use Rattle.ring_versions.proofs.Owning.{part_raised, part_owns, part_more}
use Rattle.ring_versions.proofs.part.Part.put.Goals as goal

pub invariant_of-self-in_err-push : goal.invariant_of-self-in_err-push
invariant_of-self-in_err-push c =
    let g = c.self.inside.group in
    let vs = c.self.inside.versions.items in
    let p = part_raised g vs c.self.inside.owns.items c.self.inside.join c.raise.new.self c.args.version.now.clock (c.in_ok-raise.ensures).ok c.self.invariant in
    subst (λ (es : List Entry). IsPart g vs es c.raise.new.self) (sym (c.in_err-push.ensures).items) p

pub invariant_of-self-in_err-push-2 : goal.invariant_of-self-in_err-push-2
invariant_of-self-in_err-push-2 c =
    let g = c.self.inside.group in
    let vs = c.self.inside.versions.items in
    let owns = c.self.inside.owns.items in
    let p = part_raised g vs owns c.self.inside.join c.raise.new.self c.args.version.now.clock (c.in_ok-raise.ensures).ok c.self.invariant in
    let q = subst (λ (es : List Entry). IsPart g vs es c.raise.new.self) (sym (c.in_ok-push.ensures).items) (part_owns g vs owns c.raise.new.self c.own_of-own.result p) in
    subst (λ (xs : List Version). IsPart g xs c.push.new.self.items c.raise.new.self) (sym (c.in_err-push-2.ensures).items) q

pub invariant_of-self-2 : goal.invariant_of-self-2
invariant_of-self-2 c =
    let g = c.self.inside.group in
    let more = c.with-group.result in
    let vs = c.self.inside.versions.items in
    let owns = c.self.inside.owns.items in
    let x = c.args.version.now in
    let own = c.own_of-own.result in
    let join = c.raise.new.self in
    let told = c.with-group.ensures vs x c.own_of-own.ensures (c.self.invariant.told) in
    let p = part_more g more vs owns c.self.inside.join join x own (omega arith) told (c.in_ok-raise.ensures).ok c.self.invariant in
    let q = subst (λ (es : List Entry). IsPart more (vs ++ x ∷ []) es join) (sym (c.in_ok-push.ensures).items) p in
    subst (λ (xs : List Version). IsPart more xs c.push.new.self.items join) (sym ((c.in_ok-push-2.ensures).items ∙ ap (λ (v : Version). vs ++ v ∷ []) (c.in_ok-copy.ensures).same)) q
