use Rattle.std.proofs.Common.{List, sym, subst}
use Rattle.ring_clock.specs.declared.entry.Entry.{Entry}
use Rattle.ring_clock.specs.Clock.{IsAtMost}
use Rattle.ring_versions.specs.declared.version.Version.{Version}
use Rattle.ring_versions.specs.Chunks.{AreOwns}
use Rattle.ring_versions.specs.Versions.{IsIn}
use Rattle.ring_versions.proofs.part.Part.with.Goals as goal

pub invariant_of-result : goal.invariant_of-result
invariant_of-result c = record {
  owned = subst (λ (vs : List Version). AreOwns vs c.in_ok-owns.owns.items) c.as_slice.ensures.value (c.in_ok-owns.ensures).ok;
  above = λ v h. subst (λ (join : List Entry). IsAtMost v.clock join) (sym (c.in_ok-join.ensures).same) (c.self.invariant.above v (subst (λ (vs : List Version). IsIn v vs) (sym c.self.view_is) (c.requires v h)));
  told = λ yes v h. c.self.invariant.told yes v (subst (λ (vs : List Version). IsIn v vs) (sym c.self.view_is) (c.requires v h));
}
