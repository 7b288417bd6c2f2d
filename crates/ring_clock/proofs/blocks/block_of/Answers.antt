use Rattle.std.proofs.Common.{◌∙◌, [], ap}
use Rattle.std.proofs.lemmas.List.{get_or_default}
use Rattle.ring_clock.specs.Groups.{group_in}
use Rattle.ring_clock.proofs.Finding.{seen_group}
use Rattle.ring_clock.proofs.blocks.block_of.Goals as goal

pub returns-clause-some : goal.returns-clause-some
returns-clause-some c =
    let at = c.in_ok-place.ensures in
    let b = c.index-blocks-place.result in
    let same = get_or_default c.args.blocks.now c.in_ok-place.place b [] at.within in
    seen_group c.args.blocks.now c.args.group c.in_ok-place.place b c.requires at.within c.index-blocks-place.is (ap group_in (c.index-blocks-place.is ∙ same) ∙ at.of)
