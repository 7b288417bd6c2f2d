use Rattle.std.specs.List.{list_any}
use Rattle.std.specs.Prelude.{◌&&◌, ◌==◌}
use Rattle.store_parts.specs.Parts.{ring_of, plan_of, kept_of}
use Rattle.store_events.specs.ChunkKeepers.{keeps_part}
use Rattle.store_events.proofs.LeastKeeperDown.{lessens_same, lessens_no, keepers_keep, keepers_named, none_keep, none_kept}
use Rattle.store_events.proofs.chunk_keepers.with_slot.Goals as goal

pub returns-in-Some : goal.returns-in-Some
returns-in-Some c =
    let a = c.args.parts.now in
    lessens_same a c.args.found c.with_keepers.result (λ w x. list_any (λ y. (x == y.0) && keeps_part (ring_of a) w c.args.slot c.args.chunk y.0) c.in-Some.keepers.now.keys) (λ w. keeps_part (ring_of a) w c.args.slot c.args.chunk)
    (λ w m. keepers_keep (ring_of a) (plan_of a) (kept_of a) w m c.args.slot c.args.chunk c.in-Some.keepers.now.keys (keepers_named a c.requires.sized c.args.slot c.in-Some.keepers.now.keys (c.in-Some.ensures).some)) c.with_keepers.ensures

pub returns-in-None : goal.returns-in-None
returns-in-None c =
    let a = c.args.parts.now in
    lessens_no a c.args.found (λ w. keeps_part (ring_of a) w c.args.slot c.args.chunk) (λ w m. none_keep (ring_of a) (plan_of a) (kept_of a) w m c.args.slot c.args.chunk (λ x. (none_kept a c.requires.sized c.args.slot x).0 ((c.in-None.ensures).none x)))
