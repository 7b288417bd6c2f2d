use Rattle.std.proofs.Common.{◌≡◌, ◌∙◌, Bool, true, false, sym, ap}
use Rattle.std.specs.Prelude.{is_some}
use Rattle.plan_runs.specs.Words.{is_seen}
use Rattle.history_laws.proofs.Marked.{seen_in}
use Rattle.history_laws.proofs.cut.seen_in.Goals as goal

pub unreachable-requires : goal.unreachable-requires
unreachable-requires c =
    let s = seen_in c.args.gets.now c.as_slice.result.now c.as_slice.ensures.valid in
    let none : is_some c.in_ok-named.named ≡ false = ap {B = Bool} is_some c.in-None.is in
    (let e : false ≡ true = sym none ∙ c.in_ok-named.ensures.some ∙ ap is_seen c.in_ok-all.ensures ∙ s in absurd cc)
