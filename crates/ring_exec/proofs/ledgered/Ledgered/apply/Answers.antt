use Rattle.std.proofs.Common.{rules, ◌≡◌, ◌∙◌, ◌<◌, List, [], ◌∷◌, ◌++◌, vec_len, Err, sym, subst, arith}
use Rattle.plan_runs.specs.declared.event.Entry.{Entry}
use Rattle.ring_core.specs.Replays.{Replays}
use Rattle.ring_board.specs.Entries.{entry}
use Rattle.ring_exec.proofs.Histories.{replays_on, replays_still, puts_still, gets_still, never_full_there, full_alone}
use Rattle.ring_exec.proofs.Replied.{fits_there}
use Rattle.ring_exec.proofs.ledgered.Ledgered.apply.Goals as goal

-- src/ledgered.rt:104:9
pub returns-in_err-allows-clause-full : goal.returns-in_err-allows-clause-full
returns-in_err-allows-clause-full g c =
    let a = c.args.self.now in
    let refusal = c.in_err-allows.field-0.0 in
    let room : vec_len a.history < 1000000 = search rules in
    let is : c.from_residual.result ≡ Err refusal = search rules in
    full_alone c.from_residual.result refusal (vec_len a.history) is room (never_full_there a.world c.args.event.now refusal c.in_err-allows.ensures.err.1)

-- src/ledgered.rt:107:9
pub invariant_of-self : goal.invariant_of-self
invariant_of-self g c =
    let a = c.args.self.now in
    record {
      ring = a.ring;
      plan = a.plan;
      replays = subst (λ (xs : List Entry). Replays g.L.RunLedger.ring g.L.RunLedger.plan a.world xs) (sym {A = List Entry} c.reserve.ensures.items) a.replays;
      counted = search rules;
      few = search rules;
      puts = search rules;
      gets = search rules;
    }

-- src/ledgered.rt:108:29
pub invariant_of-self-in-Break-branch-5 : goal.invariant_of-self-in-Break-branch-5
invariant_of-self-in-Break-branch-5 g c =
    let a = c.args.self.now in
    let still = replays_still g.L.RunLedger.ring g.L.RunLedger.plan a.world c.apply_with_copy.new.self a.history.items c.in_err-reply.ensures.same a.replays in
    let puts = puts_still a.world c.apply_with_copy.new.self c.in_err-reply.ensures.same in
    let gets = gets_still a.world c.apply_with_copy.new.self c.in_err-reply.ensures.same in
    let puts_before = a.puts in
    let gets_before = a.gets in
    let len = c.reserve.ensures.len in
    record {
      ring = c.apply_with_copy.ensures.ring ∙ a.ring;
      plan = c.apply_with_copy.ensures.plan ∙ a.plan;
      replays = subst (λ (xs : List Entry). Replays g.L.RunLedger.ring g.L.RunLedger.plan c.apply_with_copy.new.self xs) (sym {A = List Entry} c.reserve.ensures.items) still;
      counted = search rules;
      few = search rules;
      puts = omega arith;
      gets = omega arith;
    }

-- src/ledgered.rt:115:9
pub invariant_of-self-2 : goal.invariant_of-self-2
invariant_of-self-2 g c =
    let a = c.args.self.now in
    let new = c.apply_with_copy.new.self in
    let reply = c.in_ok-reply.reply in
    let items : c.push_reserved.new.self.items ≡ a.history.items ++ entry c.args.event.now reply ∷ [] = search rules in
    let on = replays_on g.L.RunLedger.ring g.L.RunLedger.plan a.world new a.history.items c.args.event.now reply a.ring a.plan c.in_ok-reply.ensures.ok a.replays in
    record {
      ring = c.apply_with_copy.ensures.ring ∙ a.ring;
      plan = c.apply_with_copy.ensures.plan ∙ a.plan;
      replays = subst (λ (xs : List Entry). Replays g.L.RunLedger.ring g.L.RunLedger.plan new xs) (sym {A = List Entry} items) on;
      counted = search rules;
      few = search rules;
      puts = search rules;
      gets = search rules;
    }

pub returns-clause-reply : goal.returns-clause-reply
returns-clause-reply g c =
    fits_there c.args.self.now.world c.apply_with_copy.new.self c.args.event.now c.in_ok-reply.reply c.in_ok-reply.ensures.ok
