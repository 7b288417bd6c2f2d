use Rattle.std.proofs.Common.{◌∙◌, ℕ, List, sym, ap}
use Rattle.ring_names.specs.Names.{place}
use Rattle.plan_stage.specs.Clauses.{first_failing}
use Rattle.store_parts.specs.Parts.{ring_of, plan_of, kept_of}
use Rattle.store_clients.specs.Puts.{seen_guards_kept}
use Rattle.store_clients.proofs.PutStarts.{known_key, none_named, some_named}
use Rattle.store_clients.proofs.NumberTests.{none_listed, some_listed}
use Rattle.store_clients.proofs.puts.put_refusal.Goals as goal

pub returns-in-Some : goal.returns-in-Some
returns-in-Some c w m =
    let a = c.args.parts.now in
    let number = c.in-Some.number in
    let is = ap (λ (bs : List ℕ). place a.keys.keys bs) (sym c.as_slice.ensures) ∙ sym c.in-Some.ensures in
    c.seen_refusal.ensures ∙ ap (λ (gs : List ℕ). first_failing (seen_guards_kept a.gets number gs)) c.as_slice-named.ensures.value
    ∙ known_key (ring_of a) (plan_of a) (kept_of a) w m c.args.writer c.args.key.now c.args.value.now c.args.seen.now number is

pub returns-in-None : goal.returns-in-None
returns-in-None c w m =
    let a = c.args.parts.now in
    let none = none_listed c.as_slice-named.result.now c.args.seen.now c.is_empty.result c.as_slice-named.ensures.value c.is_empty.ensures c.if-is_empty.true in
    none_named (ring_of a) (plan_of a) (kept_of a) w m c.args.writer c.args.key.now c.args.value.now c.args.seen.now none

pub returns-in-None-2 : goal.returns-in-None-2
returns-in-None-2 c w m =
    let a = c.args.parts.now in
    let absent = ap (λ (bs : List ℕ). place a.keys.keys bs) (sym c.as_slice.ensures) ∙ sym c.in-None.ensures in
    some_named (ring_of a) (plan_of a) (kept_of a) w m c.args.writer c.args.key.now c.args.value.now c.args.seen.now absent
    (some_listed c.as_slice-named.result.now c.args.seen.now c.is_empty.result c.as_slice-named.ensures.value c.is_empty.ensures c.if-is_empty.false)
