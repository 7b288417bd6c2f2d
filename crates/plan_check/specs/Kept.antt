-- The promises one by one, each for all runs of a plan, and what is said of them.
use Rattle.std.specs.Prelude.{◌≡◌, ℕ, true, List}
use Rattle.ring_table.specs.Value.{RingValue}
use Rattle.plan_text.specs.declared.step.Planned.{Planned}
use Rattle.plan_runs.specs.World.{is_acked}
use Rattle.plan_runs.specs.Runs.{Always}
use Rattle.plan_check.specs.declared.kept.Kept.{Kept}
use Rattle.plan_check.specs.Headline.{GetsAreFresh}
use Rattle.plan_check.specs.Safe.{MeetsEveryRead, GroupsAreApart, TransfersAreFew, ServersAreMembers}

-- acknowledged puts are held, and gets see them
pub record HoldsPuts (ring : RingValue) (plan : List Planned) : Type 0 where
  pub held : Always ring plan (λ w. (v : ℕ) → is_acked w v ≡ true → MeetsEveryRead ring plan w v)
  pub fresh : GetsAreFresh ring plan

-- what is said to be kept is kept
pub record KeepsWhatIsSaid (ring : RingValue) (plan : List Planned) (said : Kept) : Type 0 where
  pub held : said.held ≡ true → HoldsPuts ring plan
  pub apart : said.apart ≡ true → Always ring plan (GroupsAreApart ring plan)
  pub few : said.few ≡ true → Always ring plan (TransfersAreFew ring plan)
  pub members : said.members ≡ true → Always ring plan (ServersAreMembers ring plan)

-- each promise is said to be kept
abbrev pub NamesAll : Kept → Type 0
NamesAll said = (said.held ≡ true) × (said.apart ≡ true) × (said.few ≡ true) × (said.members ≡ true)
