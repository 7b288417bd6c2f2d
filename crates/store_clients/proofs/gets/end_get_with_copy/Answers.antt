use Rattle.std.proofs.Common.{◌∙◌, sym}
use Rattle.store_clients.proofs.GetsKept.{end_there, end_kept}
use Rattle.store_clients.proofs.gets.end_get_with_copy.Goals as goal

pub unreachable-requires : goal.unreachable-requires
unreachable-requires c = end_there c.args.parts.now c.args.get c.requires.sound c.requires.passes (sym c.in_default.ensures)

pub returns-clause-ok : goal.returns-clause-ok
returns-clause-ok c w m = end_kept c.args.parts.now c.args.get c.in-Some.now.now c.in_ok-reply.reply c.from_vec.result c.end.new.self w m c.requires.passes (sym c.in-Some.ensures) (c.in_ok-reply.ensures).ok
    (c.from_vec.ensures ∙ (c.in_ok-kept.ensures).items ∙ c.as_slice.ensures) c.end.ensures
