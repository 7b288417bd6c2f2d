use Rattle.std.proofs.Common.{inl, inr, IsTrue, List, rules, sym, subst}
use Rattle.ring_clock.specs.Clock.{IsAtMost}
use Rattle.ring_versions.specs.Chunks.{all_of}
use Rattle.ring_versions.specs.Versions.{IsIn}
use Rattle.ring_versions.specs.declared.version.Version.{Version}
use Rattle.ring_versions.proofs.Members.{in_either}
use Rattle.ring_versions.proofs.whole.are_beyond.Goals as goal

pub chunks-preserved : goal.chunks-preserved
chunks-preserved c = λ h.
    let chunk = c.in-Some.chunk.now in
    let later = all_of c.in-Some.later.now in
    let yes : IsTrue c.is_beyond.result = search rules in
    let first = c.is_beyond.ensures yes in
    c.chunks.invariant (subst (λ (cs : List (List Version)). (v : Version) → IsIn v (all_of cs) → IsAtMost v.clock c.args.clock.now → ⊥) (sym (c.in-Some.ensures).cases.0)
    (λ v at. elim (in_either v chunk later at) [ inl mine ↦ first v mine | inr more ↦ h v more ]))
