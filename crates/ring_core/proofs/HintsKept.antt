-- Who keeps hints, and which slots hold a put, by what is kept.
use Rattle.std.proofs.Common.{◌≡◌, Bool, true, false, refl}
use Rattle.std.specs.Prelude.{Option, Some, None, IfSome}
use Rattle.ring_names.specs.declared.ids.NodeId.{NodeId}
use Rattle.ring_names.specs.declared.ids.Slot.{Slot}
use Rattle.plan_runs.specs.World.{World, keeps}
use Rattle.ring_hints.specs.Hints.{Keeps, hinted_at}
use Rattle.store_parts.specs.declared.parts.Parts.{Parts}
use Rattle.store_parts.proofs.Numbers.{none}
use Rattle.store_parts.specs.Parts.{IsSized, ring_of, plan_of, kept_of, Meets}
use Rattle.store_parts.proofs.WhoKeepsHints.{keeps_tells}

-- a node that keeps some version keeps a hint
pub hint_kept : (a : Parts) → IsSized a → (o : Option (NodeId × Slot)) → IfSome o (λ pair. Keeps a.hints pair.0.0 pair.1) → IfSome o (λ pair. (w : World) → Meets a w → keeps w pair.0.0 pair.1 ≡ true)
hint_kept a s None h = tt
hint_kept a s (Some pair) h = λ w m. by w m (keeps w pair.0.0 pair.1) refl
  where
    by : (w : World) → Meets a w → (b : Bool) → keeps w pair.0.0 pair.1 ≡ b → b ≡ true
    by w m true e = refl
    by w m false e = absurd (h ((none a.keys (hinted_at a.hints pair.0.0 pair.1) s.numbered (s.hinted pair.0.0 pair.1)).1 ((keeps_tells (ring_of a) (plan_of a) (kept_of a) w m pair.0.0 pair.1).0 e)))
