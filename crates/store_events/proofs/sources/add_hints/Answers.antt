use Rattle.std.specs.List.{list_any}
use Rattle.plan_runs.specs.Versions.{some_hinted}
use Rattle.store_maps.specs.Held.{held}
use Rattle.store_parts.specs.Numbers.{in_part}
use Rattle.store_parts.specs.Parts.{ring_of, plan_of, kept_of}
use Rattle.store_events.proofs.ChunkSources.{gathers_same, gathers_no, keepers_have, none_have}
use Rattle.store_events.proofs.LeastKeeperDown.{keepers_named, none_kept}
use Rattle.store_events.proofs.sources.add_hints.Goals as goal

pub returns-in_ok-add_keepers-clause-ok : goal.returns-in_ok-add_keepers-clause-ok
returns-in_ok-add_keepers-clause-ok c =
    let a = c.args.parts.now in
    let took = (c.in_ok-add_keepers.ensures).ok in (
      gathers_same a c.args.chunk (in_part a.keys c.args.chunk (held c.args.read.now)) (in_part a.keys c.args.chunk (held c.add_keepers.new.read)) (λ w v. list_any (λ y. w.hinted y.0 c.args.slot v) c.in-Some.keepers.now.keys) (λ w. some_hinted (ring_of a) w c.args.slot)
          (λ w m. keepers_have (ring_of a) (plan_of a) (kept_of a) w m c.args.slot c.in-Some.keepers.now.keys (keepers_named a c.requires.sized c.args.slot c.in-Some.keepers.now.keys (c.in-Some.ensures).some)) took.0,
      took.1,
    )

pub returns-in_default-clause-ok : goal.returns-in_default-clause-ok
returns-in_default-clause-ok c =
    let a = c.args.parts.now in (
      gathers_no a c.args.chunk (in_part a.keys c.args.chunk (held c.args.read.now)) (λ w. some_hinted (ring_of a) w c.args.slot)
          (λ w m. none_have (ring_of a) (plan_of a) (kept_of a) w m c.args.slot (λ x. (none_kept a c.requires.sized c.args.slot x).0 ((c.in_default.ensures).none x))),
      λ p. p,
    )
