use Rattle.plan_check.proofs.Certifies.{certified-sound}
use Rattle.plan_check.proofs.laws.certified_is_sound.Goals as goal

pub returns : goal.returns
returns c = certified-sound
