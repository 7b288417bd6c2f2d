-- How many open copies a store counts on a node's side: as many as in its world, and at most the allowance.
use Rattle.std.proofs.Common.{◌≡◌, ◌∙◌, ℕ, ◌≤◌, length, sym, subst}
use Rattle.std.specs.Prelude.{Some}
use Rattle.std.proofs.Props.{props}
use Rattle.ring_table.specs.declared.allowance.Side.{Side}
use Rattle.ring_table.specs.Value.{allowance_of}
use Rattle.plan_check.specs.Safe.{open_copies, takes_part_now}
use Rattle.plan_runs.specs.World.{World as TheWorld, passing_below}
use Rattle.store_parts.specs.Parts.{kept_of}
use Rattle.store_parts.proofs.StoreInWorld.{holds}
use Rattle.ring_core.specs.declared.world.World.{World}
use Rattle.ring_core.specs.Transfers.{is_open_kept}
use Rattle.ring_core.specs.World.{ring_of, plan_of, Meets}
use Rattle.ring_core.proofs.OpenCopies.{transfers_told}

-- the number is the count of the copies that are kept as open ones of the side
abbrev pub IsCount : World → ℕ → Side → ℕ → Type 0
IsCount a x side n = n ≡ length (passing_below (length (plan_of a)) (is_open_kept (plan_of a) a.parts.steps a.parts.slots x side))

pub count-now : (a : World) (x : ℕ) (side : Side) (n : ℕ) → IsCount a x side n → (w : TheWorld) → Meets a w → n ≡ open_copies (plan_of a) w (takes_part_now (ring_of a) (plan_of a) w x side)
count-now a x side n e w m = e ∙ transfers_told (ring_of a) (plan_of a) (kept_of a.parts) w m x side

pub count-most : (a : World) (x : ℕ) (side : Side) (n : ℕ) → IsCount a x side n → (b : ℕ) → allowance_of (ring_of a) x side ≡ Some b → n ≤ b
count-most a x side n e b allowed = holds a.parts a.sound (hlevel props) (λ w m.
    (subst (λ (k : ℕ). k ≤ b) (sym (count-now a x side n e w m)) ((m.approved.keeps.safe m.run.0 w m.run.1).few x side b allowed)))
