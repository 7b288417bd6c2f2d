use Rattle.std.proofs.Common.{◌≡◌, subst}
use Rattle.texts.specs.Judging.{Gives}
use Rattle.texts.proofs.Wholes.{gives-found, whole-takes, whole-gives}
use Rattle.ring_table.specs.Valid.{IsRing}
use Rattle.ring_table.specs.Spelling.{ring_lines, ring_text}
use Rattle.ring_table.specs.Reading.{ring_at, ring_reading}
use Rattle.ring_table.proofs.RingForm.{ring_form}
use Rattle.ring_table.proofs.RingLaws.{is-ring, ring-part}
use Rattle.ring_table.proofs.reading.read_ring.Goals as goal

pub returns-clause-found : goal.returns-clause-found
returns-clause-found c = gives-found c.read_whole.result (ring_reading c.args.text.now) (λ v. IsRing v × (c.args.text.now ≡ ring_text v)) c.read_whole.ensures.exact (whole-takes ring_at ring_lines IsRing ring-part c.args.text.now)

pub returns-clause-only : goal.returns-clause-only
returns-clause-only c = λ v is e. subst (Gives c.read_whole.result) (whole-gives ring_at ring_lines IsRing ring-part c.args.text.now v is (ring_form.plain tt v (is-ring v is)) e) c.read_whole.ensures.exact
