use Rattle.std.proofs.Common.{List, sym, subst}
use Rattle.ring_versions.specs.Chunks.{all_of}
use Rattle.ring_versions.specs.Versions.{Covers}
use Rattle.ring_versions.specs.declared.version.Version.{Version}
use Rattle.ring_versions.proofs.Members.{covers_first, covers_second}
use Rattle.ring_versions.proofs.whole.leads.Goals as goal

pub returns-then-leads : goal.returns-then-leads
returns-then-leads c = λ h.
    let clock = c.args.clock.now in
    let chunk = subst (λ (vs : List Version). Covers vs clock) c.part.ensures (c.leads.ensures c.if-leads.true) in
    c.chunks.invariant (subst (λ (cs : List (List Version)). Covers (all_of cs) clock) (sym (c.in-Some.ensures).cases.0) (covers_first c.in-Some.chunk.now (all_of c.in-Some.later.now) clock chunk))

pub chunks-preserved : goal.chunks-preserved
chunks-preserved c = λ h. c.chunks.invariant (subst (λ (cs : List (List Version)). Covers (all_of cs) c.args.clock.now) (sym (c.in-Some.ensures).cases.0) (covers_second c.in-Some.chunk.now (all_of c.in-Some.later.now) c.args.clock.now h))
