use Rattle.std.proofs.Common.{◌≡◌, ◌+◌, List, [], ◌∷◌, ◌++◌, take, sym, ap, subst, ◌∙◌, arith}
use Rattle.std.proofs.lemmas.List.{take_more}
use Rattle.plan_runs.specs.declared.event.Entry.{Entry}
use Rattle.history_text.specs.Cutter.{CutsMany}
use Rattle.history_text.proofs.Readings.{started_take}
use Rattle.history_text.proofs.Cuttings.{many_more}
use Rattle.history_text.proofs.cutter.Kept.keep_all.Goals as goal

pub keep-requires-clause-puts : goal.keep-requires-clause-puts
keep-requires-clause-puts c = (let few = started_take c.loop-entry.entry-index c.args.entries.now in let counts = c.loop-entry.invariant.counts in let room = c.requires in omega arith)

pub keep-requires-clause-gets : goal.keep-requires-clause-gets
keep-requires-clause-gets c = (let few = started_take c.loop-entry.entry-index c.args.entries.now in let counts = c.loop-entry.invariant.counts in let room = c.requires in omega arith)

pub loop-entry-preserved : goal.loop-entry-preserved
loop-entry-preserved c =
    let xs = c.args.entries.now in
    let x = c.entry-item.result in
    let i = c.loop-entry.entry-index in
    let one : take (i + 1) xs ≡ take i xs ++ x ∷ [] = take_more xs i x c.loop-entry-test.true ∙ ap (λ (y : Entry). take i xs ++ y ∷ []) (sym c.entry-item.is) in
    subst (λ (ys : List Entry). CutsMany c.args.self.now c.keep.new.self c.args.ring.now c.args.writers.now ys) (sym one)
    (many_more c.args.self.now c.loop-entry.self c.keep.new.self c.args.ring.now c.args.writers.now (take i xs) x c.loop-entry.invariant c.in_ok-keep.ensures.ok)
