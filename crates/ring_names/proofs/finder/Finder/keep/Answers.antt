use Rattle.std.proofs.Common.{◌≡◌, ◌∙◌, List, inl, refl, sym, subst}
use Rattle.std.specs.Vec.{with_items}
use Rattle.std.proofs.lemmas.List.{with_items_is}
use Rattle.ring_names.specs.Noted.{IsNoted}
use Rattle.ring_names.specs.declared.noted.Noted.{Noted}
use Rattle.ring_names.proofs.finder.Finder.keep.Goals as goal

pub returns-then-note-clause-ok : goal.returns-then-note-clause-ok
returns-then-note-clause-ok c =
    let items : (with_items c.args.self.now.table c.note.new.table).items ≡ c.note.new.table = with_items_is c.args.self.now.table c.note.new.table (c.note.auto.table ∙ c.as_mut_slice.ensures.len) in
    inl (record {
      here = subst (λ (t : List Noted). IsNoted t c.args.bytes.now c.args.number) (sym items) (c.if-note.ensures.noted refl);
      kept = λ bs m noted. subst (λ (t : List Noted). IsNoted t bs m) (sym items) (c.note.ensures.kept bs m (subst (λ (t : List Noted). IsNoted t bs m) (sym c.as_mut_slice.ensures.value) noted));
      others = refl;
    })
