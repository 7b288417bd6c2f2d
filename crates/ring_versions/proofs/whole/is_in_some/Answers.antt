use Rattle.std.proofs.Common.{List, inl, inr, refl, sym, subst}
use Rattle.ring_versions.specs.Chunks.{all_of}
use Rattle.ring_versions.specs.Versions.{Covers}
use Rattle.ring_versions.specs.declared.version.Version.{Version}
use Rattle.ring_versions.proofs.Members.{covers_first, covers_second, covers_either, neither}
use Rattle.ring_versions.proofs.whole.is_in_some.Goals as goal

pub returns-then-covers : goal.returns-then-covers
returns-then-covers c =
    let clock = c.args.clock.now in
    let chunk = subst (λ (vs : List Version). Covers vs clock) c.part.ensures (c.covers.ensures.0 c.if-covers.true) in (
      λ h. c.chunks.invariant.0 (subst (λ (cs : List (List Version)). Covers (all_of cs) clock) (sym (c.in-Some.ensures).cases.0) (covers_first c.in-Some.chunk.now (all_of c.in-Some.later.now) clock chunk)),
      λ h. refl,
    )

pub chunks-preserved : goal.chunks-preserved
chunks-preserved c =
    let clock = c.args.clock.now in
    let chunk = c.in-Some.chunk.now in
    let later = all_of c.in-Some.later.now in (
      λ h. c.chunks.invariant.0 (subst (λ (cs : List (List Version)). Covers (all_of cs) clock) (sym (c.in-Some.ensures).cases.0) (covers_second chunk later clock h)),
      λ h. elim (covers_either chunk later clock (subst (λ (cs : List (List Version)). Covers (all_of cs) clock) (c.in-Some.ensures).cases.0 (c.chunks.invariant.1 h))) [
        | inl mine ↦ absurd (neither c.covers.result c.if-covers.false (c.covers.ensures.1 (subst (λ (vs : List Version). Covers vs clock) (sym c.part.ensures) mine)))
        | inr more ↦ more
      ],
    )
