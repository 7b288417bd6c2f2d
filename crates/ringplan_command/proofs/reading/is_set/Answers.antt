use Rattle.std.proofs.Common.{◌≡◌, ℕ, List, Option, Some, codes, subst}
use Rattle.std.specs.Prelude.{◌↔◌, IsTrue}
use Rattle.clap.specs.Words.{found_of}
use Rattle.clap.proofs.WalkLemmas.{one_text-rows}
use Rattle.ringplan_command.proofs.reading.is_set.Goals as goal

pub returns : goal.returns
returns c = subst (λ (o : Option (List ℕ)). IsTrue c.has_flag.result ↔ (o ≡ Some (codes "true"))) (one_text-rows (found_of c.args.options.now) c.args.word.now) c.has_flag.ensures
