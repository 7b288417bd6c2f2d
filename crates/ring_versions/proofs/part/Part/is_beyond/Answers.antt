use Rattle.std.proofs.Common.{◌<◌, List, sym, subst}
use Rattle.std.specs.List.{All}
use Rattle.ring_clock.specs.declared.entry.Entry.{Entry}
use Rattle.ring_clock.specs.Clock.{counter}
use Rattle.ring_versions.specs.Versions.{IsIn}
use Rattle.ring_versions.specs.declared.version.Version.{Version}
use Rattle.ring_versions.proofs.Owning.{beyond}
use Rattle.ring_versions.proofs.part.Part.is_beyond.Goals as goal

pub returns : goal.returns
returns c = λ h v at.
    let below = subst (All (λ (e : Entry). counter c.args.top.now e.writer.0 < e.counter)) c.as_slice.ensures.value (c.is_below_each.ensures.0 h) in
    beyond c.self.inside.versions.items c.self.inside.owns.items c.args.top.now c.self.invariant.owned below v (subst (λ (vs : List Version). IsIn v vs) (sym c.self.view_is) at)
