use Rattle.plan_check.proofs.Good.{good-stages}
use Rattle.plan_check.proofs.laws.stages_are_good.Goals as goal

pub returns : goal.returns
returns c = λ ring plan sound slot k p i le. good-stages ring plan slot (λ s q j. sound.1.in_turn.staged s) p i k le
