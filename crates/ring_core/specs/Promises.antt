-- What a running store promises of acknowledged puts.
use Rattle.std.specs.Prelude.{◌≡◌, ℕ, true, List, ◌∷◌, length, nat_lt, Ok}
use Rattle.std.specs.List.{list_all}
use Rattle.std.specs.Int.{bit_at}
use Rattle.ring_names.specs.Lists.{has, all_different}
use Rattle.ring_table.specs.Value.{RingValue}
use Rattle.plan_runs.specs.declared.event.Event.{Event}
use Rattle.plan_runs.specs.declared.event.Event.TheVariants.{StartGet, EndGet}
use Rattle.plan_runs.specs.declared.event.Entry.{Entry}
use Rattle.plan_runs.specs.declared.event.Reply.{Reply}
use Rattle.plan_runs.specs.declared.event.Reply.TheVariants as reply
use Rattle.plan_runs.specs.declared.words.Key.{Key}
use Rattle.plan_runs.specs.Answers.{answer}
use Rattle.plan_check.specs.Headline.{IsAnswered}
use Rattle.plan_runs.specs.Runs.{Leads, IsRun}
use Rattle.plan_runs.specs.World.{World as TheWorld, is_acked, is_of_key}
use Rattle.ring_core.specs.declared.world.World.{World}
use Rattle.ring_core.specs.World.{ring_of, plan_of, Meets}

-- of any R different slots of a partition, by index, the mask has one
abbrev pub MeetsEveryRead : RingValue → ℕ → Type 0
MeetsEveryRead ring mask = (slots : List ℕ) → all_different slots ≡ true → list_all (λ i. nat_lt i ring.n) slots ≡ true → length slots ≡ ring.r
    → (i : ℕ) × (has i slots ≡ true) × (bit_at mask i ≡ 1)

-- in every run that led here, the get's answer has each put of the key acknowledged at the get's start, or a successor
abbrev pub SeesAcknowledged : World → ℕ → List ℕ → Type 0
SeesAcknowledged a g found = (before between : List Entry) (start mid u : TheWorld) (key : Key)
    → IsRun (ring_of a) (plan_of a) before start → Leads (ring_of a) (plan_of a) start (record { event = StartGet key; reply = reply.Get g } ∷ between) mid
    → Meets a mid → answer (ring_of a) (plan_of a) mid (EndGet g) ≡ Ok (u, reply.Answer found)
    → (v : ℕ) → is_of_key start key v ≡ true → is_acked start v ≡ true → IsAnswered u v found

-- so where the event is the end of a get
abbrev pub IsFresh : World → Event → Reply → Type 0
IsFresh a (EndGet g) (reply.Answer found) = SeesAcknowledged a g found
IsFresh a e r = Unit {0}
