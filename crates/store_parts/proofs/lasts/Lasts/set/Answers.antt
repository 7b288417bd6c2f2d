use Rattle.std.proofs.Common.{◌≡◌, ◌∙◌, ◌<◌, ℕ, zero, suc, Bool, cond, List, [], ◌∷◌, ◌++◌, Option, Some, Result, Ok, Err, get_or, inl, inr, is_ok, length, slice_set, refl, sym, ap, subst, arith}
use Rattle.std.specs.Ordering.{nat_cmp}
use Rattle.std.specs.List.Sorted.{IsStrictlySortedBy}
use Rattle.std.specs.Prelude.{◌==◌, ◌&&◌, OnOk, OnErr, slice_get}
use Rattle.std.proofs.lemmas.Bool.Decides.{eqb_tells}
use Rattle.std.proofs.lemmas.Option.{slice_get-get_or}
use Rattle.ring_names.proofs.Logic.{and_false}
use Rattle.store_maps.specs.Sorted.{value_by, Ascends}
use Rattle.store_parts.specs.Lasts.{last_in, last_of}
use Rattle.store_parts.specs.declared.lasts.Row.{Row}
use Rattle.store_parts.proofs.Reading.{get_same, get_apart}
use Rattle.store_parts.proofs.lasts.Lasts.set.Goals as goal

-- a row without puts changes no reading
added : (rows : List Row) (row : Row) → row.puts.items ≡ [] → (k w : ℕ) → last_in (rows ++ row ∷ []) k w ≡ last_in rows k w
added [] row e zero w = ap (λ es. value_by nat_cmp es w) e
added [] row e (suc k) w = refl
added (r ∷ rows) row e zero w = refl
added (r ∷ rows) row e (suc k) w = added rows row e k w

-- what is read after a row was changed
put_at : (rows : List Row) (key put : ℕ) (row new : Row) (b : ℕ → Bool) → row ≡ get_or rows key row → key < length rows
    → ((w : ℕ) → value_by nat_cmp new.puts.items w ≡ cond (b w) (Some put) (value_by nat_cmp row.puts.items w))
    → (k w : ℕ) → last_in (slice_set rows key new) k w ≡ cond ((k == key) && b w) (Some put) (last_in rows k w)
put_at rows key put row new b at less h k w =
    let there : slice_get rows key ≡ Some row = slice_get-get_or rows key row less ∙ ap Some (sym at) in
    elim (eqb_tells k key) [ inl t ↦ rw (t.0, t.1, get_same rows key new, there) (h w) | inr t ↦ rw (t.0, get_apart rows key k new t.1) refl ]

-- the readings after either answer
either : {A E : Type 0} (r : Result A E) (old mid new : ℕ → ℕ → Option ℕ) (key writer put : ℕ) → ((k w : ℕ) → mid k w ≡ old k w)
    → ((k w : ℕ) → new k w ≡ cond ((k == key) && (is_ok r && (w == writer))) (Some put) (mid k w))
    → OnOk r ((k w : ℕ) → new k w ≡ cond ((k == key) && (w == writer)) (Some put) (old k w)) × OnErr r ((k w : ℕ) → new k w ≡ old k w)
either (Ok u) old mid new key writer put same h = ((λ k w. rw (← same k w) (h k w)), tt)
either (Err e) old mid new key writer put same h = (tt, (λ k w. rw (← same k w) (h k w ∙ rw (and_false (k == key)) refl)))

pub invariant_of-push : goal.invariant_of-push
unfolding IsStrictlySortedBy
invariant_of-push c = record { order = subst (Ascends nat_cmp) (sym c.new.ensures.items) tt }

pub rows-preserved : goal.rows-preserved
rows-preserved c k w = ap (λ rows. last_in rows k w) (c.in_ok-push.ensures).items ∙ added c.rows.self.rows.items _ c.new.ensures.items k w ∙ c.rows.invariant k w

pub returns : goal.returns
returns c =
    let rows = c.rows.self.rows.items in
    let less : c.args.key < length rows = (let is = c.len.ensures in let long = c.rows.self.rows.ok.0 in let past = c.rows-test.false in omega arith) in
    let put = put_at rows c.args.key c.args.put c.index_mut.result.now c.set.new.self (λ w. is_ok c.set.result && (w == c.args.writer.0)) c.index_mut.ensures.value less c.set.ensures.set in
    let both = either c.set.result (last_of c.args.self.now) (last_of c.rows.self) (last_in (slice_set rows c.args.key c.set.new.self)) c.args.key c.args.writer.0 c.args.put c.rows.invariant put in
    record { ok = both.0; err = both.1; memory = c.set.ensures.memory }
