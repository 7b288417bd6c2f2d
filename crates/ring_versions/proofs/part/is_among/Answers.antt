use Rattle.std.proofs.Common.{List, inl, refl, sym, subst}
use Rattle.ring_versions.specs.Versions.{Covers}
use Rattle.ring_versions.specs.declared.version.Version.{Version}
use Rattle.ring_versions.proofs.part.is_among.Goals as goal

pub returns-then-le : goal.returns-then-le
returns-then-le c = (
  λ h. c.versions.invariant.0 (subst (λ (xs : List Version). Covers xs c.args.clock.now) (sym (c.in-Some.ensures).cases.0) (c.in-Some.version.now, inl refl, c.le.ensures.0 c.if-le.true)),
  λ h. refl,
)
