use Rattle.std.proofs.Common.{rules, ◌≡◌, ◌<◌, ◌-◌, ℕ, List, ap, sym, subst, ◌∙◌, arith, Some, length}
use Rattle.std.specs.Prelude.{option_map, min}
use Rattle.std.specs.List.{AllZip, range_with_len}
use Rattle.rayon.specs.Numbers.{nat_range}
use Rattle.rayon.proofs.ToStd.{nat_range-All}
use Rattle.ring_names.specs.declared.refusal.Refusal.TheVariants.{BadPath}
use Rattle.plan_order.specs.Paths.{is_bad_at}
use Rattle.plan_order.proofs.Found.{first_asked}
use Rattle.plan_order.proofs.facts.first_bad_path_by_threads.Goals as goal

pub position_first-found-requires-clause-items : goal.position_first-found-requires-clause-items
position_first-found-requires-clause-items g c κs within =
    let ends = c.into_par_iter.ensures in
    let inside = nat_range-All (λ i. i < length c.args.paths.now) 0 (length c.args.paths.now) (λ i low high. high) in
    rw (ends.0, ends.1, c.len.ensures) inside

pub returns-in-Some : goal.returns-in-Some
returns-in-Some g c =
    let ends = c.into_par_iter.ensures in
    let done = c.position_first-found.ensures in
    let paths = c.args.paths.now in
    let whole : length paths - 0 ≡ length paths = omega arith in
    let numbers = done.2 ∙ (λ i. nat_range (ends.0 i) ((ends.1 ∙ c.len.ensures) i)) ∙ ap (range_with_len 0) whole in
    let Told : List ℕ → Type 0 = λ ns. AllZip (λ n b. b ≡ is_bad_at c.args.plan.now paths n) ns done.1 in
    let found = sym done.4 ∙ c.in-Some.is in
    let named : min c.in-Some.number 4294967295 ≡ c.min.result = search rules in
    first_asked c.args.plan.now paths done.1 (subst Told numbers done.3) ∙ ap (option_map (λ n. BadPath (min n 4294967295))) found ∙ ap (λ (n : ℕ). Some (BadPath n)) named

pub returns-in-None : goal.returns-in-None
returns-in-None g c =
    let ends = c.into_par_iter.ensures in
    let done = c.position_first-found.ensures in
    let paths = c.args.paths.now in
    let whole : length paths - 0 ≡ length paths = omega arith in
    let numbers = done.2 ∙ (λ i. nat_range (ends.0 i) ((ends.1 ∙ c.len.ensures) i)) ∙ ap (range_with_len 0) whole in
    let Told : List ℕ → Type 0 = λ ns. AllZip (λ n b. b ≡ is_bad_at c.args.plan.now paths n) ns done.1 in
    let found = sym done.4 ∙ c.in-None.is in
    first_asked c.args.plan.now paths done.1 (subst Told numbers done.3) ∙ ap (option_map (λ n. BadPath (min n 4294967295))) found
