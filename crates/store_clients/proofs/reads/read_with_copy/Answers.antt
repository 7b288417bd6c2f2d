use Rattle.store_clients.proofs.GetsKept.{index_few, read_kept}
use Rattle.store_clients.proofs.reads.read_with_copy.Goals as goal

pub set_found-requires : goal.set_found-requires
set_found-requires c = index_few c.args.parts.now c.args.get c.requires.sound c.args.index c.requires.passes

pub returns-clause-ok : goal.returns-clause-ok
returns-clause-ok c w m = read_kept c.args.parts.now c.args.get c.args.index c.in_ok-found.found c.in_ok-found.puts c.set_found.new.self w m c.requires.passes ((c.in_ok-found.ensures).ok w m) c.set_found.ensures.get
