-- What the end of a get needs, over the gets that are kept.
use Rattle.std.specs.Prelude.{ℕ, not, nat_lt, nat_le, List, [], ◌∷◌, length}
use Rattle.ring_names.specs.declared.refusal.Refusal.TheVariants.{UnknownNumber, AlreadyDone, TooFewSlots}
use Rattle.plan_stage.specs.Clauses.{Guard}
use Rattle.store_parts.specs.declared.gets.GetNow.{GetNow}
use Rattle.store_parts.specs.GetsTests.{has_ended_at, read_count}

-- the get has not ended and has read so many slots
abbrev pub end_guards_kept : List GetNow → ℕ → ℕ → List Guard
end_guards_kept gets needed g = (nat_lt g (length gets), UnknownNumber) ∷ (not (has_ended_at gets g), AlreadyDone)
    ∷ (nat_le needed (read_count gets g), TooFewSlots (read_count gets g)) ∷ []
