use Rattle.std.proofs.Common.{ℕ, inl, inr, map, sym, subst}
use Rattle.std.proofs.lemmas.List.{length-map}
use Rattle.std.proofs.lemmas.Result.{on_ok_weaker}
use Rattle.ring_names.specs.Finding.{TakesNoted, TakesOther}
use Rattle.ring_names.proofs.Finding.{knows-next, knows-noted}
use Rattle.ring_names.proofs.finder.Finder.add.Goals as goal

pub returns-clause-ok : goal.returns-clause-ok
returns-clause-ok c =
    let list = map (λ b. b.items) c.args.list.now in
    let bytes = c.args.bytes.now in
    let old = c.make_room.new.self in
    let new = c.keep.new.self in
    let knows = c.in_ok-make_room.ensures in
    let size = sym (length-map c.args.list.now (λ b. b.items)) in
    on_ok_weaker c.keep.result (λ taken. elim taken [
      | inl noted ↦ knows-noted old new list bytes knows c.requires.new (subst (λ (n : ℕ). TakesNoted old new bytes n) size noted)
      | inr other ↦ knows-next old new list bytes knows c.requires.new (subst (λ (n : ℕ). TakesOther old new bytes n) size other)
    ]) c.keep.ensures.ok
