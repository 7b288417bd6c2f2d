use Rattle.std.proofs.Common.{◌≡◌, ◌∙◌, ◌+◌, ℕ, List, Option, Some, length, map, slice_get, refl, sym, ap, subst, arith}
use Rattle.std.specs.Global.{Vec}
use Rattle.std.specs.Prelude.{option_map}
use Rattle.std.proofs.lemmas.List.{length-map}
use Rattle.std.proofs.lemmas.Option.{slice_get-map, slice_get_read, slice_get_within}
use Rattle.ring_names.specs.Finding.{FindsBelow, Knows}
use Rattle.ring_names.specs.declared.finder.Finder.{Finder}
use Rattle.ring_names.proofs.Finding.{below-noted, below-other, knows-other, knows-same}
use Rattle.ring_names.proofs.finder.Finder.fill.Goals.{then-not-note+in_ok-keep_other, else-not-note}
use Rattle.ring_names.proofs.finder.Finder.fill.Goals as goal

pub loop-number-init : goal.loop-number-init
loop-number-init c = (λ n bytes less is. absurd (omega (arith, less)), c.requires)

pub returns-in_err-keep_other-clause-knows : goal.returns-in_err-keep_other-clause-knows
returns-in_err-keep_other-clause-knows c = knows-same c.loop-number.self c.keep_other.new.self (map (λ b. b.items) c.args.list.now) c.in_err-keep_other.ensures.err c.loop-number.invariant.1

pub loop-number-preserved : goal.loop-number-preserved
loop-number-preserved c =
    let list = map (λ b. b.items) c.args.list.now in
    let n = c.loop-number.number in
    let bytes = c.as_slice-bytes.result.now in
    let read = slice_get_read c.args.list.now (length c.args.list.now) n c.index-list-number.result refl c.loop-number-test.true c.index-list-number.is in
    let at : slice_get list n ≡ Some bytes = slice_get-map (λ b. b.items) c.args.list.now n ∙ ap (λ (o : Option (Vec ℕ)). option_map (λ b. b.items) o) read ∙ ap (λ (x : List ℕ). Some x) (sym c.as_slice-bytes.ensures.value) in
    elim c.if-not-note.branch [
      | then-not-note+in_ok-keep_other w ↦
          let old = c.loop-number.self in
          let new = w.keep_other.new.self in
          let takes = w.in_ok-keep_other.ensures.ok in
          let below = below-other c.note.new.table old new list bytes n c.loop-number.invariant.1.new at takes (rw (w.if-not-note.ensures.same refl) c.loop-number.invariant.0) in
          subst (λ (s : Finder). FindsBelow c.note.new.table s list (n + 1) × Knows s list) (sym w.self-is) (below, knows-other old new list bytes n c.loop-number.invariant.1 at takes)
      | else-not-note w ↦
          let below = below-noted c.loop-number.table c.note.new.table c.loop-number.self list bytes n at (w.if-not-note.ensures.noted refl) c.note.ensures.kept c.loop-number.invariant.0 in
          subst (λ (s : Finder). FindsBelow c.note.new.table s list (n + 1) × Knows s list) (sym w.self-is) (below, c.loop-number.invariant.1)
    ]

pub returns-clause-ok : goal.returns-clause-ok
returns-clause-ok c = λ n bytes is.
    let within = slice_get_within (map (λ b. b.items) c.args.list.now) n bytes is in
    let size = length-map c.args.list.now (λ b. b.items) in
    c.loop-number.invariant.0 n bytes (omega (arith, within, size, c.loop-number-test.false)) is

pub returns-clause-knows : goal.returns-clause-knows
returns-clause-knows c = c.loop-number.invariant.1
