use Rattle.std.proofs.Common.{◌∙◌, ℕ, inl, inr, sym}
use Rattle.ring_hints.specs.Hints.{hinted_at}
use Rattle.store_parts.specs.Nodes.{is_up_at}
use Rattle.store_clients.proofs.SlotKeepers.{passing_more, passing_stops, has_some, has_none}
use Rattle.store_clients.proofs.keepers.first_down.Goals.{else-is_some-via-then-is_some+else-not-is_up, else-is_some-via-else-is_some}
use Rattle.store_clients.proofs.keepers.first_down.Goals as goal

pub returns-then-not-is_up : goal.returns-then-not-is_up
returns-then-not-is_up c =
    let held = λ (x : ℕ). hinted_at c.args.hints.now x c.args.place.now.slot c.args.place.now.key in
    let y = c.in-Some.keeper.now in
    passing_stops (is_up_at c.args.nodes.now) held c.args.keepers.now.keys c.keepers.keeper-iterator c.next.new.self y (c.in-Some.ensures).steps c.requires.others (sym c.is_up.ensures ∙ c.if-not-is_up.true)
    (has_some c.key_versions_in.result (λ v. v.now) (held y.0) c.key_versions_in.ensures.some (sym c.is_some.ensures ∙ c.if-is_some.true)) c.keepers.invariant

pub keepers-preserved : goal.keepers-preserved
keepers-preserved c =
    let held = λ (x : ℕ). hinted_at c.args.hints.now x c.args.place.now.slot c.args.place.now.key in
    let y = c.in-Some.keeper.now in
    passing_more (is_up_at c.args.nodes.now) held c.args.keepers.now.keys c.keepers.keeper-iterator c.next.new.self y (c.in-Some.ensures).steps
    (elim c.else-is_some.branch [
      | else-is_some-via-then-is_some+else-not-is_up w ↦ inr (sym w.is_up.ensures ∙ w.if-not-is_up.false)
      | else-is_some-via-else-is_some w ↦ inl (has_none c.key_versions_in.result (held y.0) c.key_versions_in.ensures.none (sym c.is_some.ensures ∙ w.if-is_some.false))
    ]) c.keepers.invariant
