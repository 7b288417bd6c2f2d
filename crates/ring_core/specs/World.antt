-- What a running store promises.
use Rattle.std.specs.Prelude.{◌≡◌, ℕ, ◌+◌, ◌≤◌, List, length, Err}
use Rattle.ring_names.specs.declared.refusal.Refusal.{Refusal}
use Rattle.ring_table.specs.Value.{RingValue}
use Rattle.plan_text.specs.declared.step.Planned.{Planned}
use Rattle.plan_runs.specs.declared.event.Event.{Event}
use Rattle.plan_runs.specs.declared.event.Reply.{Reply}
use Rattle.plan_runs.specs.Answers.{answer}
use Rattle.plan_runs.specs.World.{World as TheWorld}
use Rattle.ring_clock.specs.declared.entry.Entry.{Entry}
use Rattle.ring_core.specs.declared.world.World.{World}
use Rattle.store_parts.specs.PutsMeet.{clock_at}
use Rattle.store_parts.specs.Parts as parts
use Rattle.ring_core.specs.Numbers as numbers

-- the ring and the plan that the store follows
abbrev pub ring_of : World → RingValue
ring_of a = parts.ring_of a.parts

abbrev pub plan_of : World → List Planned
plan_of a = parts.plan_of a.parts

-- the store is in that world: a run of the plan leads there, and all that the store keeps is so there
abbrev pub Meets : World → TheWorld → Type 0
Meets a w = parts.Meets a.parts w

-- how many puts and gets it has
abbrev pub put_count : World → ℕ
put_count a = length a.parts.puts

abbrev pub get_count : World → ℕ
get_count a = length a.parts.gets

-- the clock of the put of that number
abbrev pub clock_of : World → ℕ → List Entry
clock_of a v = clock_at a.parts.puts v

-- no guard of the event fails
abbrev pub Passes : World → Event → Type 0
Passes a e = parts.Passes a.parts e

-- in whatever world the store was, the event is answered so there, and the store is in the next one
abbrev pub Answers : World → Event → Reply → World → Type 0
Answers old e r new = parts.Answers old.parts e r new.parts

-- in whatever world the store is, the event is refused so there
abbrev pub Refuses : World → Event → Refusal → Type 0
Refuses a e refusal = (w : TheWorld) → Meets a w → answer (ring_of a) (plan_of a) w e ≡ Err refusal

-- in whatever world the store was, it is there still
abbrev pub Stays : World → World → Type 0
Stays old new = parts.Stays old.parts new.parts

-- there is at most one put more, and at most one get
abbrev pub IsOneMore : World → World → Type 0
IsOneMore old new = (put_count new ≤ put_count old + 1) × (get_count new ≤ get_count old + 1)

-- a put or get that starts has a number below 4,294,967,295
abbrev pub HasNumber : World → Event → Type 0
HasNumber a e = numbers.HasNumber a.parts e
