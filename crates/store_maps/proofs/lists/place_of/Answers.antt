use Rattle.std.proofs.Common.{rules}
use Rattle.std.proofs.lemmas.Fn.{always_returns_same}
use Rattle.store_maps.proofs.Sorted.{searched}
use Rattle.store_maps.proofs.lists.place_of.Goals as goal

-- the closure compares an entry's key, and stays as it is
pub returns-clause-found : goal.returns-clause-found
returns-clause-found g c =
    let found = c.binary_search_by.ensures in
    (searched g.met.K.Ord.total c.args.key.now c.args.list.now c.binary_search_by.result c.requires found.bound
    (found.position (λ e. g.K.Ord.cmp e.0 c.args.key.now) (always_returns_same _ _ _ (λ a r h called. search rules)))).0

pub returns-clause-missing : goal.returns-clause-missing
returns-clause-missing g c =
    let found = c.binary_search_by.ensures in
    (searched g.met.K.Ord.total c.args.key.now c.args.list.now c.binary_search_by.result c.requires found.bound
    (found.position (λ e. g.K.Ord.cmp e.0 c.args.key.now) (always_returns_same _ _ _ (λ a r h called. search rules)))).1
