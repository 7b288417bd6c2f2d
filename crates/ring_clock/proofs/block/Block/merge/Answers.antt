use Rattle.std.proofs.Common.{◌≡◌, ◌∙◌, ◌++◌, sym, ap}
use Rattle.ring_clock.specs.Forms.{entries_in, looked_in}
use Rattle.ring_clock.proofs.Groups.{merged_block}
use Rattle.ring_clock.proofs.block.Block.merge.Goals as goal

-- the few entries are the block's
pub of-requires : goal.of-requires
of-requires c =
    let mine : c.args.self.now ≡ c.in-Few.mine.now = sym c.self.view_is ∙ ap entries_in (sym c.deref.ensures) ∙ sym c.look.ensures ∙ ap looked_in c.in-Few.is in
    (merged_block c.args.self.now c.args.entries.now c.in_ok-merged-in-Few.field-0.items c.requires.first c.requires.second c.requires.group c.in_ok-merged-in-Few.ensures.clock (λ w. rw mine (c.in_ok-merged-in-Few.ensures.counters w))).0

-- so are those listed
pub of-requires-in-Full-2 : goal.of-requires-in-Full-2
of-requires-in-Full-2 c =
    let listed : c.push_to.new.out.items ≡ c.in-Full.mine.now = c.in_ok-push_to-in-Full-2.ensures ∙ ap (λ es. es ++ c.in-Full.mine.now) c.in_ok-own-in-Full-2.ensures.items in
    let mine : c.args.self.now ≡ c.as_slice.result.now = sym c.self.view_is ∙ ap entries_in (sym c.deref.ensures) ∙ sym c.look.ensures ∙ ap looked_in c.in-Full.is ∙ sym listed ∙ sym c.as_slice.ensures.value in
    (merged_block c.args.self.now c.args.entries.now c.in_ok-merged-in-Full-2.field-0.items c.requires.first c.requires.second c.requires.group c.in_ok-merged-in-Full-2.ensures.clock (λ w. rw mine (c.in_ok-merged-in-Full-2.ensures.counters w))).0
