use Rattle.std.proofs.Common.{◌∙◌, sym, subst}
use Rattle.std.specs.Prelude.{Option}
use Rattle.ring_names.specs.declared.ids.NodeId.{NodeId}
use Rattle.store_parts.specs.Nodes.{is_up_at}
use Rattle.store_parts.specs.Parts.{ring_of}
use Rattle.store_events.specs.ChunkKeepers.{keeps_part}
use Rattle.store_parts.specs.LeastDown.{IsLeastDown}
use Rattle.store_events.proofs.LeastKeeperDown.{less_none, less_first, less_old, less_new, chunk_kept}
use Rattle.store_events.proofs.chunk_keepers.with_keeper.Goals as goal

pub returns-then-not-keeps_chunk : goal.returns-then-not-keeps_chunk
returns-then-not-keeps_chunk c w m f had =
    let a = c.args.parts.now in
    let kept = chunk_kept a c.requires.sized c.args.slot w c.args.chunk c.args.keeper.0 c.keeps_chunk.result m c.keeps_chunk.ensures in
    less_none (is_up_at a.nodes) f c.args.keeper (keeps_part (ring_of a) w c.args.slot c.args.chunk c.args.keeper.0) c.args.least (sym kept ∙ c.if-not-keeps_chunk.true) had

pub returns-in_default : goal.returns-in_default
returns-in_default c w m f had =
    let a = c.args.parts.now in
    let kept = chunk_kept a c.requires.sized c.args.slot w c.args.chunk c.args.keeper.0 c.keeps_chunk.result m c.keeps_chunk.ensures in
    less_first (is_up_at a.nodes) f c.args.keeper (keeps_part (ring_of a) w c.args.slot c.args.chunk c.args.keeper.0) (sym c.is_up.ensures ∙ c.if-is_up.false) (sym kept ∙ c.if-not-keeps_chunk.false)
    (subst (λ (o : Option NodeId). IsLeastDown (is_up_at a.nodes) f o) c.in_default.is had)

pub returns-then-first-keeper : goal.returns-then-first-keeper
returns-then-first-keeper c w m f had =
    let a = c.args.parts.now in
    let kept = chunk_kept a c.requires.sized c.args.slot w c.args.chunk c.args.keeper.0 c.keeps_chunk.result m c.keeps_chunk.ensures in
    less_old (is_up_at a.nodes) f c.args.keeper (keeps_part (ring_of a) w c.args.slot c.args.chunk c.args.keeper.0) (sym c.is_up.ensures ∙ c.if-is_up.false) (sym kept ∙ c.if-not-keeps_chunk.false)
    c.in-Some.first c.if-first-keeper.true (subst (λ (o : Option NodeId). IsLeastDown (is_up_at a.nodes) f o) c.in-Some.is had)

pub returns : goal.returns
returns c w m f had =
    let a = c.args.parts.now in
    let kept = chunk_kept a c.requires.sized c.args.slot w c.args.chunk c.args.keeper.0 c.keeps_chunk.result m c.keeps_chunk.ensures in
    less_new (is_up_at a.nodes) f c.args.keeper (keeps_part (ring_of a) w c.args.slot c.args.chunk c.args.keeper.0) (sym c.is_up.ensures ∙ c.if-is_up.false) (sym kept ∙ c.if-not-keeps_chunk.false)
    c.in-Some.first c.if-first-keeper.false (subst (λ (o : Option NodeId). IsLeastDown (is_up_at a.nodes) f o) c.in-Some.is had)
