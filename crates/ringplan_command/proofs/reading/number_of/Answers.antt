use Rattle.std.proofs.Common.{ℕ, List, Option, subst}
use Rattle.clap.specs.Words.{found_of}
use Rattle.clap.proofs.WalkLemmas.{one_text-rows}
use Rattle.ringplan_command.specs.Numbers.{MeansCount}
use Rattle.ringplan_command.proofs.reading.number_of.Goals as goal

pub returns : goal.returns
returns c = subst (λ (o : Option (List ℕ)). MeansCount 1 c.args.most o c.count_of.result) (one_text-rows (found_of c.args.options.now) c.args.word.now) c.count_of.ensures
