use Rattle.std.proofs.Common.{rules}
use Rattle.std.proofs.lemmas.List.Sorted.{answers_always}
use Rattle.ring_clock.proofs.Searching.{found, not_found}
use Rattle.ring_clock.proofs.entry.counter_of.Goals as goal

-- the closure gives an entry's writer
pub returns-in-Ok : goal.returns-in-Ok
returns-in-Ok c =
    let at = (c.in-Ok.ensures).position (λ e. e.writer.0) (answers_always _ _ _ (λ f a r g called. search rules)) in
    found c.args.entries.now c.args.writer.0 c.in-Ok.place _ c.requires (c.in-Ok.ensures).bound at

pub returns-in-Err : goal.returns-in-Err
returns-in-Err c =
    let at = (c.in-Err.ensures).position (λ e. e.writer.0) (answers_always _ _ _ (λ f a r g called. search rules)) in
    not_found c.args.entries.now c.args.writer.0 c.in-Err.field-0 c.requires at
