use Rattle.std.proofs.Common.{◌≡◌, ◌∙◌, ◌<◌, ◌+◌, ℕ, [], List, length, Option, None, Some, map, take, codes, ap, sym, subst}
use Rattle.std.specs.Prelude.{option_map, unwrap_or}
use Rattle.std.proofs.lemmas.List.{take_all}
use Rattle.std.proofs.lemmas.Option.{slice_get-get_or, slice_get-map}
use Rattle.clap.specs.Words.{all_of, found_of, rows_of}
use Rattle.clap.proofs.WalkLemmas.{raw_values-rows}
use Rattle.ring_names.specs.declared.ids.Slot.{Slot}
use Rattle.ringplan_command.specs.Slots.{AreSlots}
use Rattle.ringplan_command.proofs.NamedSlots.{next_more, none_with}
use Rattle.ringplan_command.proofs.slots.slots_of.Goals as goal

pub returns-in_default : goal.returns-in_default
returns-in_default c =
    let none : None ≡ all_of (codes "leave") (rows_of (found_of c.args.matches.now)) =
    ap (option_map (λ s. map (λ v. v.now) s.now)) (sym c.in_default.is) ∙ c.get_strs.ensures ∙ raw_values-rows (found_of c.args.matches.now) (codes "leave") in
    subst (λ (o : Option (List (List ℕ))). AreSlots (unwrap_or o []) c.new-slots.result.items) none c.new-slots.ensures.items

pub returns-in_default-slot_named : goal.returns-in_default-slot_named
returns-in_default-slot_named c = λ slots are.
    let texts = c.in-Some.texts.now in
    let i = c.loop-text.text-index in
    let lt : i < length texts = c.loop-text-test.true in
    let some : Some (map (λ v. v.now) texts) ≡ all_of (codes "leave") (rows_of (found_of c.args.matches.now)) =
    ap (option_map (λ s. map (λ v. v.now) s.now)) (sym c.in-Some.is) ∙ c.get_strs.ensures ∙ raw_values-rows (found_of c.args.matches.now) (codes "leave") in
    let named = subst (λ (xs : List (List ℕ)). AreSlots xs slots) (sym (ap (λ (o : Option (List (List ℕ))). unwrap_or o []) some)) are in
    none_with (map (λ v. v.now) texts) slots i _ (slice_get-map (λ v. v.now) texts i ∙ ap (option_map (λ v. v.now)) (slice_get-get_or texts i _ lt)) c.in_default-slot_named.ensures named

pub loop-text-preserved : goal.loop-text-preserved
loop-text-preserved c =
    let texts = c.in-Some.texts.now in
    let i = c.loop-text.text-index in
    let lt : i < length texts = c.loop-text-test.true in
    let more = next_more (λ v. v.now) texts i _ c.loop-text.slots.items c.in-Some-slot_named.slot lt c.in-Some-slot_named.ensures c.loop-text.invariant in
    subst (λ (ys : List Slot). AreSlots (map (λ v. v.now) (take (i + 1) texts)) ys) (sym c.in_ok-push.ensures.items) more

pub returns : goal.returns
returns c =
    let texts = c.in-Some.texts.now in
    let some : Some (map (λ v. v.now) texts) ≡ all_of (codes "leave") (rows_of (found_of c.args.matches.now)) =
    ap (option_map (λ s. map (λ v. v.now) s.now)) (sym c.in-Some.is) ∙ c.get_strs.ensures ∙ raw_values-rows (found_of c.args.matches.now) (codes "leave") in
    let whole : take c.loop-text.text-index texts ≡ texts = take_all c.loop-text.text-index texts c.loop-text-test.false in
    let same = ap (map (λ v. v.now)) whole ∙ ap (λ (o : Option (List (List ℕ))). unwrap_or o []) some in
    subst (λ (xs : List (List ℕ)). AreSlots xs c.loop-text.slots.items) same c.loop-text.invariant
