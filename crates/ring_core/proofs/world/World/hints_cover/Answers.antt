use Rattle.std.proofs.Common.{◌≡◌, ◌∙◌, ℕ, Bool, true, false, List, refl, ap, subst}
use Rattle.ring_versions.specs.declared.version.Version.{Version}
use Rattle.ring_versions.specs.Versions.{Covers}
use Rattle.ring_hints.specs.Hints.{hinted_at}
use Rattle.ring_hints.specs.Views.{in_keepers}
use Rattle.ring_core.proofs.world.World.hints_cover.Goals as goal

-- src/reads.rt:99:5
pub returns : goal.returns
returns c = (λ f. absurd cc, λ p. absurd (by p.0 p.1 (in_keepers p.0 c.in-Some.keepers.now.keys) refl))
  where
    by : (x : ℕ) → Covers (hinted_at c.args.self.now.parts.hints x c.args.at.now.slot c.args.at.now.key) c.args.clock.now → (b : Bool) → in_keepers x c.in-Some.keepers.now.keys ≡ b → ⊥
    by x covers false e = (subst (λ (held : List Version). Covers held c.args.clock.now) ((c.in-Some.ensures.some x).0 e) covers).1
    by x covers true e = c.keepers.invariant x (ap (in_keepers x) c.into_iter-keeper-iterator.ensures.into_iter_gives.0 ∙ e) (ap (in_keepers x) (c.in-None.ensures).steps.0) covers
