use Rattle.std.proofs.Common.{subst, sym}
use Rattle.plan_cert.specs.Valid.{Suits}
use Rattle.ringplan_answers.proofs.Verdicts.{cert-migrated}
use Rattle.ringplan_answers.proofs.bundle.write_migrated.Goals as goal

pub write_parts-requires : goal.write_parts-requires
write_parts-requires c = subst (λ r. Suits r c.args.bundle.cert) (sym c.migrate-ring.ensures) (cert-migrated c.args.bundle.ring c.args.bundle.cert c.requires.1)
