use Rattle.history_text.proofs.Wholes.{cut_ok}
use Rattle.history_text.proofs.cutting.cut_stream.Goals as goal

pub read_part-requires : goal.read_part-requires
read_part-requires g c = c.requires

pub returns-in-Ok : goal.returns-in-Ok
returns-in-Ok g c = (let h = c.in-Ok.ensures in (h.0, h.1, cut_ok c.args.choice c.args.wanted h.0 c.in-Ok.part c.end_part.result h.2 c.end_part.ensures.text c.end_part.ensures.place))
