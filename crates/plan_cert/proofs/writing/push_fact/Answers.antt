use Rattle.std.proofs.Common.{codes, map}
use Rattle.std.specs.Fmt.{decimal}
use Rattle.texts.proofs.Spaced.{line-written}
use Rattle.plan_cert.proofs.writing.push_fact.Goals as goal

pub returns : goal.returns
returns c = line-written c.args.out.now.items c.extend_from_slice.new.self.items c.push_numbers.new.out.items c.push.new.self.items (codes "fact") (map decimal c.args.path.now) c.in_ok-extend_from_slice.ensures.items c.in_ok-push_numbers.ensures c.in_ok-push.ensures.items
