use Rattle.std.proofs.Common.{List, sym, subst}
use Rattle.ring_clock.specs.declared.entry.Entry.{Entry}
use Rattle.store_parts.specs.Found.{IsJoinOfFound}
use Rattle.store_parts.specs.GetsMeet.{found_at}
use Rattle.store_parts.specs.PutsMeet.{clock_at}
use Rattle.store_clients.proofs.ClocksRaised.{joined_found, joined_last}
use Rattle.store_clients.proofs.clocks.input_clock.Goals.{in-Some+in_ok-raise_to_put, in_default}
use Rattle.store_clients.proofs.clocks.input_clock.Goals as goal

pub returns-clause-ok : goal.returns-clause-ok
returns-clause-ok c =
    let clock = clock_at c.args.puts.now in
    let found = found_at c.args.gets.now in
    let seen = c.args.knowing.now.seen.now in
    let start = c.new-clock.result in
    let mid = c.raise_to_gets.new.clock in
    elim c.match-last.branch [
      | in-Some+in_ok-raise_to_put w ↦
          subst (λ (d : List Entry). IsJoinOfFound clock found seen c.args.knowing.now.last d) (sym w.clock-is)
          (joined_last clock found seen c.args.knowing.now.last w.in-Some.put start mid w.raise_to_put.new.clock c.new-clock.ensures w.in-Some.is (c.in_ok-raise_to_gets.ensures).ok (w.in_ok-raise_to_put.ensures).ok)
      | in_default w ↦
          subst (λ (d : List Entry). IsJoinOfFound clock found seen c.args.knowing.now.last d) (sym w.clock-is)
          (joined_found clock found seen c.args.knowing.now.last start mid c.new-clock.ensures w.in_default.is (c.in_ok-raise_to_gets.ensures).ok)
    ]
