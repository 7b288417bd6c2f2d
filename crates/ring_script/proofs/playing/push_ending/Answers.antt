use Rattle.std.proofs.Common.{◌∙◌, List, ◌++◌, length, ap}
use Rattle.ring_names.specs.declared.ids.NodeId.{NodeId}
use Rattle.ring_table.specs.Value.{RingValue}
use Rattle.ring_script.specs.Play.{table_text}
use Rattle.ring_script.proofs.Played.{owners_met}
use Rattle.ring_script.proofs.playing.push_ending.Goals as goal

pub push_table-requires : goal.push_table-requires
push_table-requires c = ap (λ (rows : List (List NodeId)). length rows) c.as_slice.ensures.value ∙ (c.in_ok-rows.ensures.size ∙ ap (λ (r : RingValue). r.q) c.requires)

pub returns-clause-ok : goal.returns-clause-ok
returns-clause-ok c w m =
    let ring = c.args.ring.now in
    let there = c.as_slice.ensures.value ∙ owners_met c.args.world.now ring c.in_ok-rows.rows.items c.requires c.in_ok-rows.ensures.now w m in
    c.in_ok-push_table.ensures ∙ ap (λ (rows : List (List NodeId)). c.args.out.now.items ++ table_text ring rows) there
