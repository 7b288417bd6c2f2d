use Rattle.std.proofs.Common.{◌≡◌, true}
use Rattle.std.specs.List.{list_all}
use Rattle.script_text.specs.Client.{is_client_event}
use Rattle.script_text.specs.Reading.{client_at}
use Rattle.script_text.proofs.ScriptLaws.{kept-reads}
use Rattle.script_text.proofs.ClientLaws.{section-client}
use Rattle.script_text.proofs.reading.read_client_section.Goals as goal

pub returns-clause-clients : goal.returns-clause-clients
returns-clause-clients c =
    let ring = c.args.ring.now in
    let old = c.args.writers.now in
    kept-reads c.read_parts.result (λ s. s) c.read_parts.new.writers c.read_parts.new.lines (client_at ring old c.args.lines.now)
    (λ s ns. list_all is_client_event s ≡ true) c.read_parts.ensures.read (section-client ring old c.args.lines.now)
