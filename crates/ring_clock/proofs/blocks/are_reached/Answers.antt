use Rattle.std.proofs.Common.{◌≡◌, ◌≢◌, ◌∙◌, true, false, sym, subst}
use Rattle.std.specs.Prelude.{Some, nat_eq, not}
use Rattle.std.specs.Option.{option_eq}
use Rattle.ring_clock.specs.Clock.{IsAtMost}
use Rattle.ring_clock.specs.Groups.{group_in}
use Rattle.ring_clock.specs.Blocks.{entries_of}
use Rattle.ring_clock.proofs.Counting.{rest}
use Rattle.ring_clock.proofs.Ascending.{blocks}
use Rattle.ring_clock.proofs.Finding.{left_out, not_left_out, front_reached, behind_reached}
use Rattle.ring_clock.proofs.blocks.are_reached.Goals as goal
use Rattle.ring_clock.proofs.blocks.are_reached.Goals.{else-ne-via-then-ne+else-not-is_reached, else-ne-via-else-ne}

-- a block that has not its counters there, of a group that is not left out
pub returns-then-not-is_reached : goal.returns-then-not-is_reached
returns-then-not-is_reached c = (
  λ h. absurd cc,
  λ h.
      let least = front_reached c.args.but c.in-Some.block.now c.in-Some.later.now c.groups.rest.now (entries_of c.args.second.now) c.in-Some.ensures.cases.0 c.groups.invariant.are (c.groups.invariant.decide.1 h) in
      let other = not_left_out c.args.but (group_in c.in-Some.block.now) (subst (λ g. not (option_eq nat_eq c.args.but (Some g)) ≡ true) c.group.ensures (sym c.ne.ensures ∙ c.if-ne.true)) in
      let yes = c.is_reached.ensures.1 (least other) in
      let no = c.if-not-is_reached.true in
      absurd cc,
)

-- a block that has them, or of the group that is left out
pub groups-preserved : goal.groups-preserved
groups-preserved c =
    let split = c.in-Some.ensures.cases.0 in
    let le : c.args.but ≢ Some (group_in c.in-Some.block.now) → IsAtMost c.in-Some.block.now (entries_of c.args.second.now) = elim c.else-ne.branch [
      | else-ne-via-then-ne+else-not-is_reached w ↦ λ other. w.is_reached.ensures.0 w.if-not-is_reached.false
      | else-ne-via-else-ne w ↦ λ other. absurd (other (left_out c.args.but (group_in c.in-Some.block.now) (subst (λ g. not (option_eq nat_eq c.args.but (Some g)) ≡ false) c.group.ensures (sym c.ne.ensures ∙ w.if-ne.false))))
    ] in
    let law = behind_reached c.args.but c.in-Some.block.now c.in-Some.later.now c.groups.rest.now (entries_of c.args.second.now) split c.groups.invariant.are le in
    record {
      are = rest blocks c.in-Some.block.now c.in-Some.later.now c.groups.rest.now split c.groups.invariant.are;
      decide = (λ h. c.groups.invariant.decide.0 (law.0 h), λ h. law.1 (c.groups.invariant.decide.1 h));
    }
