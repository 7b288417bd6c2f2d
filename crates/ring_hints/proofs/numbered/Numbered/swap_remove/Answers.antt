use Rattle.std.proofs.Common.{◌≡◌, ◌∙◌, ◌+◌, ◌-◌, ◌<◌, ℕ, List, Some, cond, arith, ap, get_or, length, refl, sym, subst}
use Rattle.std.specs.Prelude.{is_some, slice_get, not, ◌&&◌, swap_remove}
use Rattle.std.specs.BTreeMap.{get}
use Rattle.std.proofs.lemmas.Option.{slice_get_within, slice_get_read, slice_get-get_or, get_or_from_slice_get}
use Rattle.ring_hints.specs.Views.{by_keeper, in_order, is_of}
use Rattle.ring_hints.specs.declared.kept_for.KeptFor.{KeptFor}
use Rattle.ring_hints.proofs.KeeperSets.{pair_tie}
use Rattle.ring_hints.proofs.Numbering.{listed, TakesOut, taken_out, others_left, one_less, none_left_out, none_less}
use Rattle.ring_hints.proofs.numbered.Numbered.swap_remove.Goals.{In-Some, After-swap_remove}
use Rattle.ring_hints.proofs.numbered.Numbered.swap_remove.Goals as goal

was : (c : In-Some) → get by_keeper c.self.inside.numbers c.args.pair ≡ Some c.in-Some.number
was c = sym (c.in-Some.ensures ∙ c.get.ensures.value)

within : (c : In-Some) → c.in-Some.number < length c.self.inside.pairs.items
within c = slice_get_within c.self.inside.pairs.items c.in-Some.number c.args.pair ((c.self.invariant c.args.pair c.in-Some.number).0 (was c))

pub overflow_sub-len : goal.overflow_sub-len
overflow_sub-len c =
    let few = within (goal.at.overflow_sub-len c).In-Some in
    let size = c.len.ensures ∙ c.self.inside.pairs.ok.0 in
    omega arith

pub index-last-requires : goal.index-last-requires
index-last-requires c =
    let few = within (goal.at.index-last-requires c).In-Some in
    let size = c.self.inside.pairs.ok.0 in
    let same = c.len.ensures in
    omega arith

pub renumber-requires : goal.renumber-requires
renumber-requires c =
    let ps = c.self.inside.pairs in
    let last = c.index-last.result.now in
    let few = within (goal.at.renumber-requires c).In-Some in
    let size : c.len.result ≡ length ps.items = c.len.ensures ∙ ps.ok.0 in
    let end = slice_get_read ps.items c.len.result (c.len.result - 1) last size (omega arith) c.index-last.ensures in
    ap is_some ((c.self.invariant last (c.len.result - 1)).1 end)

pub swap_remove-requires : goal.swap_remove-requires
swap_remove-requires c =
    let few = within (goal.at.swap_remove-requires c).In-Some in
    let size = c.self.inside.pairs.ok.0 in
    omega arith

taken : (c : After-swap_remove) → TakesOut (get by_keeper c.self.inside.numbers) (get by_keeper c.remove.new.self)
    c.self.inside.pairs.items c.swap_remove.new.self.items c.args.pair c.index-last.result.now c.in-Some.number
taken c =
    let ps = c.self.inside.pairs in
    let qs = c.swap_remove.new.self in
    let pair = c.args.pair in
    let last = c.index-last.result.now in
    let size : c.len.result ≡ length ps.items = c.len.ensures ∙ ps.ok.0 in
    let long : length qs.items + 1 ≡ length ps.items = (let less = c.swap_remove.ensures.len in let now = qs.ok.0 in let then = ps.ok.0 in omega arith) in
    let end : c.len.result - 1 ≡ length qs.items = omega arith in
    let last_is = c.index-last.ensures ∙ ap (λ (j : ℕ). get_or ps.items j last) end in
    record {
      are = c.self.invariant;
      was = was (goal.at.invariant_of-self c).In-Some;
      long = long;
      end = slice_get_read ps.items (length ps.items) (length qs.items) last refl (omega arith) last_is;
      now = λ p. c.remove.ensures.updates.0 p ∙ rw (pair_tie pair p, c.renumber.ensures.0 p, pair_tie last p) refl;
    }

pub invariant_of-self : goal.invariant_of-self
invariant_of-self c =
    let ps = c.self.inside.pairs in
    let qs = c.swap_remove.new.self in
    let last = c.index-last.result.now in
    let less = c.swap_remove.ensures.len in
    let now = qs.ok.0 in
    let then = ps.ok.0 in
    let last_is = c.index-last.ensures ∙ ap (λ (j : ℕ). get_or ps.items (j - 1) last) c.len.ensures in
    taken_out _ _ _ _ _ _ _ (taken c)
    (λ within. slice_get_read qs.items (length qs.items) c.in-Some.number last refl within
    (last_is ∙ sym (c.swap_remove.ensures.by_index.0 last (omega arith))))
    (λ k other within.
    let old = slice_get-get_or ps.items k last (omega arith) in
    slice_get-get_or qs.items k last within ∙ ap (λ (p : KeptFor). Some p) (c.swap_remove.ensures.by_index.1 k last other (omega arith)) ∙ sym old)

pub returns-in-Some-clause-pairs : goal.returns-in-Some-clause-pairs
returns-in-Some-clause-pairs c x s =
    let left = others_left _ _ _ _ _ _ _ (taken c) (invariant_of-self c) x s in
    left ∙ ap (λ ps. not (is_of c.args.pair x s) && in_order x s ps) c.self.view_is

pub returns-in-Some-clause-numbers : goal.returns-in-Some-clause-numbers
returns-in-Some-clause-numbers c n at =
    let ps = c.self.inside.pairs.items in
    let pair = c.args.pair in
    let i = c.in-Some.number in
    let found = was (goal.at.returns-in-Some-clause-numbers c).In-Some in
    let here = (c.self.invariant pair n).1 (ap (λ (l : List KeptFor). slice_get l n) c.self.view_is ∙ at) in
    let same : i ≡ n = cc in
    let first = get_or_from_slice_get ps i pair c.swap_remove.result ((c.self.invariant pair i).0 found) in
    c.swap_remove.ensures.items ∙ (λ k. swap_remove (c.self.view_is k) (same k) ((c.swap_remove.ensures.value ∙ first) k))

pub returns-in-Some-clause-absent : goal.returns-in-Some-clause-absent
returns-in-Some-clause-absent c none =
    let a = c.self.inside in
    let pair = c.args.pair in
    let found = ap is_some (was (goal.at.returns-in-Some-clause-absent c).In-Some) in
    let there = listed (get by_keeper a.numbers) a.pairs.items c.self.invariant pair in
    let absent = ap (in_order pair.keeper.0 pair.slot) c.self.view_is ∙ none in
    absurd cc

pub returns-in_default-clause-numbers : goal.returns-in_default-clause-numbers
returns-in_default-clause-numbers c n at =
    let none = sym (c.in_default.ensures ∙ c.get.ensures.value) in
    let here = (c.self.invariant c.args.pair n).1 (ap (λ (l : List KeptFor). slice_get l n) c.self.view_is ∙ at) in
    absurd cc

pub returns-in-Some-clause-count : goal.returns-in-Some-clause-count
returns-in-Some-clause-count c =
    let qs = c.swap_remove.new.self.items in
    let pair = c.args.pair in
    subst (λ (ps : List KeptFor). length qs + cond (in_order pair.keeper.0 pair.slot ps) 1 0 ≡ length ps) c.self.view_is (one_less _ _ _ _ _ _ _ (taken c))

pub returns-in_default-clause-pairs : goal.returns-in_default-clause-pairs
returns-in_default-clause-pairs c x s =
    let a = c.self.inside in
    let pair = c.args.pair in
    subst (λ (ps : List KeptFor). in_order x s ps ≡ (not (is_of pair x s) && in_order x s ps)) c.self.view_is
    (none_left_out (get by_keeper a.numbers) a.pairs.items pair c.self.invariant (sym (c.in_default.ensures ∙ c.get.ensures.value)) x s)

pub returns-in_default-clause-count : goal.returns-in_default-clause-count
returns-in_default-clause-count c =
    let a = c.self.inside in
    let pair = c.args.pair in
    subst (λ (ps : List KeptFor). length ps + cond (in_order pair.keeper.0 pair.slot ps) 1 0 ≡ length ps) c.self.view_is
    (none_less (get by_keeper a.numbers) a.pairs.items pair c.self.invariant (sym (c.in_default.ensures ∙ c.get.ensures.value)))
