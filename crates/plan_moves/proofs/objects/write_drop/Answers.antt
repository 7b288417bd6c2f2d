use Rattle.std.proofs.lemmas.List.{append_assoc}
use Rattle.plan_moves.proofs.Goings.{on-more}
use Rattle.plan_moves.proofs.objects.write_drop.Goals as goal

pub returns-clause-ok : goal.returns-clause-ok
returns-clause-ok c =
    let end = on-more c.write_node.new.line c.write_place.new.line c.end_object.new.self _ _ c.in_ok-write_place.ensures (c.in_ok-end_object.ensures.room.0, c.in_ok-end_object.ensures.ok) in
    let node = on-more c.write_front.new.line c.write_node.new.line c.end_object.new.self _ _ c.in_ok-write_node.ensures.ok end in
    simp append_assoc at (on-more c.args.line.now c.write_front.new.line c.end_object.new.self _ _ c.in_ok-write_front.ensures node)
