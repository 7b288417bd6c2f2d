use Rattle.std.proofs.Common.{arith}
use Rattle.plan_cert.specs.Front.{front_at}
use Rattle.texts.proofs.PartLaws.{late-first, late-second, bad-second, handed, on-after}
use Rattle.ring_script.specs.Bundles.{events_of, bundle_of, bundle_at}
use Rattle.ring_script.proofs.Bundled.{events-on}
use Rattle.ring_script.proofs.bundle.read_parts.Goals as goal

pub returns-in_err-front-clause-late : goal.returns-in_err-front-clause-late
unfolding bundle_at
returns-in_err-front-clause-late c = late-first bundle_of front_at (λ front. events_of c.args.kind front.ring) 4 c.from_residual.result c.in_err-front.field-0.0 c.args.lines.now c.read_front_section.new.lines
    c.from_residual.ensures.1 (λ front. events-on c.args.kind front.ring) c.in_err-front.ensures.late

pub returns-in_err-script-clause-late : goal.returns-in_err-script-clause-late
unfolding bundle_at
returns-in_err-script-clause-late c =
    let far = c.in_ok-front.ensures.far in
    let on = on-after 2 c.read_front_section.new.lines.line in
    late-second bundle_of front_at (λ front. events_of c.args.kind front.ring) 4 2 c.from_residual-in_err-script.result c.in_err-script.field-0.0 c.args.lines.now c.read_front_section.new.lines c.read_events.new.lines c.in_ok-front.front
    c.from_residual-in_err-script.ensures.1 c.in_ok-front.ensures.read (omega arith) c.in_err-script.ensures.late

pub returns-in_err-script-clause-read : goal.returns-in_err-script-clause-read
unfolding bundle_at
returns-in_err-script-clause-read c = handed c.from_residual-in_err-script.result c.in_err-script.field-0.0 c.read_events.new.lines _ c.from_residual-in_err-script.ensures.1
    (λ other. bad-second bundle_of front_at (λ front. events_of c.args.kind front.ring) c.args.lines.now c.read_front_section.new.lines c.in_ok-front.front c.in_ok-front.ensures.read c.in_err-script.field-0.0 (c.in_err-script.ensures.read other))
