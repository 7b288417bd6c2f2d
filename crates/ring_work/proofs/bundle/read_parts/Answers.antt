use Rattle.plan_cert.specs.Front.{front_at}
use Rattle.texts.proofs.PartLaws.{late-first, late-second, bad-second, handed}
use Rattle.ring_work.specs.Drives.{scripts_at, bundle_of, drive_at}
use Rattle.ring_work.proofs.ScriptsRead.{scripts-on}
use Rattle.ring_work.proofs.bundle.read_parts.Goals as goal

pub returns-in_err-front-clause-late : goal.returns-in_err-front-clause-late
unfolding drive_at
returns-in_err-front-clause-late c = late-first bundle_of front_at (λ front. scripts_at front.ring) 4 c.from_residual.result c.in_err-front.field-0.0 c.args.lines.now c.read_front_section.new.lines
    c.from_residual.ensures.1 (λ front. scripts-on front.ring) c.in_err-front.ensures.late

pub returns-in_err-scripts-clause-late : goal.returns-in_err-scripts-clause-late
unfolding drive_at
returns-in_err-scripts-clause-late c =
    late-second bundle_of front_at (λ front. scripts_at front.ring) 4 0 c.from_residual-in_err-scripts.result c.in_err-scripts.field-0.0 c.args.lines.now c.read_front_section.new.lines c.read_scripts.new.lines c.in_ok-front.front
    c.from_residual-in_err-scripts.ensures.1 c.in_ok-front.ensures.read c.in_ok-front.ensures.far c.in_err-scripts.ensures.late

pub returns-in_err-scripts-clause-read : goal.returns-in_err-scripts-clause-read
unfolding drive_at
returns-in_err-scripts-clause-read c = handed c.from_residual-in_err-scripts.result c.in_err-scripts.field-0.0 c.read_scripts.new.lines _ c.from_residual-in_err-scripts.ensures.1
    (λ other. bad-second bundle_of front_at (λ front. scripts_at front.ring) c.args.lines.now c.read_front_section.new.lines c.in_ok-front.front c.in_ok-front.ensures.read c.in_err-scripts.field-0.0 (c.in_err-scripts.ensures.read other))
