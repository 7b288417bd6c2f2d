use Rattle.std.proofs.Common.{◌∙◌, List, length, ap}
use Rattle.std.proofs.lemmas.Result.{IfOk-weaker}
use Rattle.ring_names.specs.declared.ids.NodeId.{NodeId}
use Rattle.ring_table.specs.Value.{RingValue}
use Rattle.ring_script.specs.Replay.{rows_text}
use Rattle.ring_script.proofs.Played.{owners_met}
use Rattle.ring_script.proofs.replaying.write_ending.Goals as goal

pub write_owners-requires : goal.write_owners-requires
write_owners-requires c = ap (λ (rows : List (List NodeId)). length rows) c.as_slice.ensures.value ∙ (c.in_ok-rows.ensures.size ∙ ap (λ (r : RingValue). r.q) c.requires)

pub returns-clause-text : goal.returns-clause-text
returns-clause-text c =
    let ring = c.args.ring.now in
    IfOk-weaker c.write_owners.result _ _ (λ v text w m. text ∙ ap (λ (rows : List (List NodeId)). rows_text ring rows)
    (c.as_slice.ensures.value ∙ owners_met c.args.world.now ring c.in_ok-rows.rows.items c.requires c.in_ok-rows.ensures.now w m)) c.write_owners.ensures.text
