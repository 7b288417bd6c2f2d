-- What gets found, as versions: reads, ends of gets, and other events.
use Rattle.std.proofs.Common.{◌≡◌, inl, inr, ◌∙◌, ℕ, zero, suc, ◌<◌, Bool, true, false, cond, List, [], ◌∷◌, ◌++◌, length, refl, sym, ap, subst, arith, ltb-true, eq-eqb}
use Rattle.std.specs.Prelude.{◌||◌, ◌==◌, nat_lt, Option, Some, None, Ok, slice_get, is_some}
use Rattle.std.proofs.lemmas.Bool.{and_parts, not-true, or_right, or_cases, or_left}
use Rattle.std.proofs.lemmas.Bool.Decides.{eqb_tells}
use Rattle.std.proofs.lemmas.Slice.Eq.{bytes_eq-Decides}
use Rattle.ring_names.specs.Lists.{has}
use Rattle.ring_names.proofs.Logic.{bool_same}
use Rattle.ring_table.specs.Value.{RingValue}
use Rattle.ring_clock.specs.declared.entry.Entry.{Entry}
use Rattle.ring_versions.specs.declared.version.Version.{Version}
use Rattle.ring_versions.specs.Versions.{IsMerge}
use Rattle.ring_versions.specs.Puts.{ArePuts}
use Rattle.plan_text.specs.declared.step.Planned.{Planned}
use Rattle.plan_runs.specs.declared.event.Event.{Event}
use Rattle.plan_runs.specs.declared.event.Event.TheVariants.{StartGet, Read, EndGet}
use Rattle.plan_runs.specs.declared.event.Reply.{Reply}
use Rattle.plan_runs.specs.declared.event.Reply.TheVariants as reply
use Rattle.plan_runs.specs.World.{GetRecord, World, some_below, stage_now, key_of_put, key_of_get, found_at, is_of_key}
use Rattle.plan_runs.specs.Succession.{replied}
use Rattle.plan_runs.specs.Versions.{get_slot, some_hinted, slot_has}
use Rattle.plan_runs.specs.Guards.{guards}
use Rattle.plan_runs.specs.Effects.{with_value, changed, finds, answers, has_found, effect}
use Rattle.plan_runs.specs.Answers.{answer}
use Rattle.plan_runs.specs.Reached.{Reached, IsPutForGet}
use Rattle.plan_runs.proofs.Answered.{answered}
use Rattle.plan_runs.proofs.Changed.{get_other}
use Rattle.plan_runs.proofs.Frames.{same_gets}
use Rattle.plan_runs.proofs.Passed.{AllMet, all_met}
use Rattle.plan_runs.proofs.Passing.{some_found, some_is}
use Rattle.store_parts.specs.Shows.{Shows, OfOneKey}
use Rattle.store_parts.specs.Clocks.{AreClocksOf}
use Rattle.store_parts.specs.GetsFind.{can_find, found_by, is_of_get}
use Rattle.store_parts.proofs.ShownLatest.{numbers, shows_latest}
use Rattle.store_parts.proofs.ShownSets.{merge, other_test}

-- ---- puts of the get's key

for_get : (w : World) (g v : ℕ) → IsPutForGet w g v → key_of_put w v ≡ key_of_get w g
for_get w g v h = (bytes_eq-Decides (key_of_put w v) (key_of_get w g)).0 h.1

one_key : (w : World) (g : ℕ) (test : ℕ → Bool) → ((v : ℕ) → test v ≡ true → IsPutForGet w g v) → OfOneKey w test
one_key w g test all u v h k = for_get w g u (all u h) ∙ sym (for_get w g v (all v k))

found_fits : (ring : RingValue) (plan : List Planned) (w : World) (g : ℕ) → Reached ring plan w → (v : ℕ) → found_by ring w g v ≡ true → IsPutForGet w g v
found_fits ring plan w g reached v h = (let s = some_found ring.n (has_found w g v) h in reached.found g s.0 v s.2)

can_fit : (ring : RingValue) (plan : List Planned) (w : World) (g i : ℕ) → Reached ring plan w → (v : ℕ) → can_find ring plan w g i v ≡ true → IsPutForGet w g v
can_fit ring plan w g i reached v h =
    let slot = get_slot ring w g i in
    let owner = (stage_now ring plan w slot).owner.0 in
    let b = and_parts (is_of_key w (key_of_get w g) v) (slot_has ring plan w slot v) h in (
      elim (or_cases (w.stored owner slot v) (some_hinted ring w slot v) b.1) [
        | inl f ↦ (reached.stored owner slot v f).0
        | inr f ↦ (let x = some_found (length ring.nodes) (λ y. w.hinted y slot v) f in (reached.hinted x.0 slot v x.2).0)
      ],
      b.0,
    )

-- ---- a read

found_in : List GetRecord → ℕ → ℕ → ℕ → Bool
found_in gs g v j = elim (elim (slice_get gs g) as (λ _. Option (List ℕ)) [ Some x ↦ x.found j | None ↦ None ]) [ Some vs ↦ has v vs | None ↦ false ]

read_found : (gs : List GetRecord) (g i v : ℕ) (vs : List ℕ) → g < length gs → (j : ℕ) → found_in (changed gs g (λ x. record x { found = with_value x.found i vs })) g v j ≡ cond (j == i) (has v vs) (found_in gs g v j)
unfolding found_in
read_found [] g i v vs l j = absurd (omega arith)
read_found (x ∷ gs) zero i v vs l j = by (j == i)
  where
    by : (b : Bool) → (elim (cond b (Some vs) (x.found j)) [ Some us ↦ has v us | None ↦ false ]) ≡ cond b (has v vs) (elim (x.found j) [ Some us ↦ has v us | None ↦ false ])
    by true = refl
    by false = refl
read_found (x ∷ gs) (suc g) i v vs l j = read_found gs g i v vs (omega arith) j

not_yet : (o : Option (List ℕ)) (v : ℕ) → is_some o ≡ false → (elim o [ Some vs ↦ has v vs | None ↦ false ]) ≡ false
not_yet None v e = refl
not_yet (Some vs) v e = absurd cc

-- with one index more the tests of all indexes pass where they did, or where that one's does
one_more : (n i : ℕ) (old new : ℕ → Bool) (now : Bool) → i < n → old i ≡ false → ((j : ℕ) → new j ≡ cond (j == i) now (old j)) → some_below n new ≡ (some_below n old || now)
one_more n i old new now l none each = bool_same (some_below n new) (some_below n old || now) to back
  where
    to : some_below n new ≡ true → (some_below n old || now) ≡ true
    to h = (
        let s = some_found n new h in
        elim (eqb_tells s.0 i) [
          | inl t ↦ or_right (some_below n old) now (sym (each s.0 ∙ rw t.0 refl) ∙ s.2)
          | inr t ↦ or_left (some_below n old) now (some_is n old s.0 s.1 (sym (each s.0 ∙ rw t.0 refl) ∙ s.2))
        ])

    back : (some_below n old || now) ≡ true → some_below n new ≡ true
    back h = elim (or_cases (some_below n old) now h) [
      | inl f ↦ (
          let s = some_found n old f in
          elim (eqb_tells s.0 i) [
            | inl t ↦ absurd (let e : old s.0 ≡ false = ap old t.1 ∙ none in let k = s.2 in cc)
            | inr t ↦ some_is n new s.0 s.1 ((each s.0 ∙ rw t.0 refl) ∙ s.2)
          ])
      | inr f ↦ some_is n new i l ((each i ∙ rw (eq-eqb i i refl) refl) ∙ f)
    ]

of_read : (ring : RingValue) (plan : List Planned) (w : World) (g i v : ℕ) → AllMet (guards ring plan w (Read g i)) → found_by ring (effect ring plan w (Read g i)) g v ≡ (found_by ring w g v || has v (finds ring plan w g i))
unfolding guards effect found_in
of_read ring plan w g i v met =
    let b = and_parts (nat_lt g (length w.gets)) (nat_lt i ring.n) met.0 in
    let none = not-true (is_some (found_at w g i)) met.1.1.0 in
    one_more ring.n i (has_found w g v) (has_found (effect ring plan w (Read g i)) g v) (has v (finds ring plan w g i)) (ltb-true i ring.n b.1)
    (not_yet (found_at w g i) v none)
    (read_found w.gets g i v (finds ring plan w g i) (ltb-true g (length w.gets) b.0))

module _ (ring : RingValue) (plan : List Planned) (w u : World) (clock : ℕ → List Entry) (value : ℕ → List ℕ) (g : ℕ) (r : Reply) (reached : Reached ring plan w) (made : AreClocksOf w clock) where
  pub read_shows : (i : ℕ) (found at_slot new : List Version) → answer ring plan w (Read g i) ≡ Ok (u, r) → Shows clock value found (found_by ring w g) → Shows clock value at_slot (can_find ring plan w g i) → IsMerge found at_slot new → Shows clock value new (found_by ring u g)
  read_shows i found at_slot new h s t m =
      let a = answered ring plan w u (Read g i) r h in
      let met = all_met (guards ring plan w (Read g i)) a.0 in
      let all = can_fit ring plan w g i reached in
      let latest_too : Shows clock value at_slot (λ v. has v (finds ring plan w g i)) = shows_latest w clock value at_slot (can_find ring plan w g i) made (λ v e. (all v e).0) (one_key w g (can_find ring plan w g i) all) t in
      other_test clock value new (λ v. found_by ring w g v || has v (finds ring plan w g i)) (found_by ring u g)
      (λ v. sym (of_read ring plan w g i v met) ∙ ap (λ (z : World). found_by ring z g v) a.1)
      (merge clock value found at_slot new (found_by ring w g) (λ v. has v (finds ring plan w g i)) s latest_too m)

  pub read_reply : (i : ℕ) (at_slot : List Version) (ns : List ℕ) → answer ring plan w (Read g i) ≡ Ok (u, r) → Shows clock value at_slot (can_find ring plan w g i) → ArePuts at_slot ns → r ≡ reply.Found ns
  read_reply i at_slot ns h t p =
      let a = answered ring plan w u (Read g i) r h in
      let all = can_fit ring plan w g i reached in
      sym a.2 ∙ ap (λ (z : List ℕ). reply.Found z) (sym (numbers w clock value at_slot (can_find ring plan w g i) made (λ v e. (all v e).0) (one_key w g (can_find ring plan w g i) all) t ns p))

-- ---- the end of a get

end_replied : (gs : List GetRecord) (g v : ℕ) (vs : List ℕ) → g < length gs → replied (changed gs g (λ x. record x { reply = Some vs })) g v ≡ has v vs
end_replied [] g v vs l = absurd (omega arith)
end_replied (x ∷ gs) zero v vs l = refl
end_replied (x ∷ gs) (suc g) v vs l = end_replied gs g v vs (omega arith)

of_end : (ring : RingValue) (plan : List Planned) (w : World) (g v : ℕ) → AllMet (guards ring plan w (EndGet g)) → replied (effect ring plan w (EndGet g)).gets g v ≡ has v (answers ring w g)
unfolding guards effect
of_end ring plan w g v met = end_replied w.gets g v (answers ring w g) (ltb-true g (length w.gets) met.0)

module _ (ring : RingValue) (plan : List Planned) (w u : World) (clock : ℕ → List Entry) (value : ℕ → List ℕ) (g : ℕ) (r : Reply) (found : List Version) (reached : Reached ring plan w) (made : AreClocksOf w clock) (h : answer ring plan w (EndGet g) ≡ Ok (u, r)) (s : Shows clock value found (found_by ring w g)) where
  all : (v : ℕ) → found_by ring w g v ≡ true → IsPutForGet w g v
  all = found_fits ring plan w g reached

  pub end_shows : Shows clock value found (replied u.gets g)
  end_shows =
      let a = answered ring plan w u (EndGet g) r h in
      let met = all_met (guards ring plan w (EndGet g)) a.0 in
      other_test clock value found (λ v. has v (answers ring w g)) (replied u.gets g)
      (λ v. sym (of_end ring plan w g v met) ∙ ap (λ (z : World). replied z.gets g v) a.1)
      (shows_latest w clock value found (found_by ring w g) made (λ v e. (all v e).0) (one_key w g (found_by ring w g) all) s)

  pub end_reply : (ns : List ℕ) → ArePuts found ns → r ≡ reply.Answer ns
  end_reply ns p =
      let a = answered ring plan w u (EndGet g) r h in
      sym a.2 ∙ ap (λ (z : List ℕ). reply.Answer z) (sym (numbers w clock value found (found_by ring w g) made (λ v e. (all v e).0) (one_key w g (found_by ring w g) all) s ns p))

-- ---- other events

abbrev GetStays : RingValue → World → World → ℕ → ℕ → Type 0
GetStays ring w u h v = (found_by ring u h v ≡ found_by ring w h v) × (replied u.gets h v ≡ replied w.gets h v)

-- what is read of a get depends only on its record, and is nothing if there is none
same_get : (ring : RingValue) (w : World) (gs : List GetRecord) (h v : ℕ) → slice_get gs h ≡ slice_get w.gets h → GetStays ring w (record w { gets = gs }) h v
same_get ring w gs h v e = (
  ap (λ (o : Option GetRecord). some_below ring.n (λ i. elim (elim o as (λ _. Option (List ℕ)) [ Some x ↦ x.found i | None ↦ None ]) [ Some vs ↦ has v vs | None ↦ false ])) e,
  ap (λ (o : Option GetRecord). elim o [ Some x ↦ elim x.reply [ Some puts ↦ has v puts | None ↦ false ] | None ↦ false ]) e,
)

-- a get that comes has found nothing and has no reply
new_get : (ring : RingValue) (w : World) (gs : List GetRecord) (key : List ℕ) (h v : ℕ) → GetStays ring (record w { gets = gs }) (record w { gets = gs ++ record { key = key; found = λ i. None; reply = None } ∷ [] }) h v
new_get ring w [] key zero v = (refl, refl)
new_get ring w [] key (suc h) v = (refl, refl)
new_get ring w (x ∷ gs) key zero v = (refl, refl)
new_get ring w (x ∷ gs) key (suc h) v = new_get ring w gs key h v

apart : (h g : ℕ) → (h == g) ≡ false → h ≡ g → ⊥
apart h g e f = (let k = eq-eqb h g f in cc)

get_effect : (ring : RingValue) (plan : List Planned) (w : World) (e : Event) (h v : ℕ) → is_of_get h e ≡ false → GetStays ring w (effect ring plan w e) h v
unfolding effect
get_effect ring plan w (StartGet key) h v f = new_get ring w w.gets key h v
get_effect ring plan w (Read g j) h v f = same_get ring w _ h v (get_other w.gets g h (λ x. record x { found = with_value x.found j (finds ring plan w g j) }) (apart h g f))
get_effect ring plan w (EndGet g) h v f = same_get ring w _ h v (get_other w.gets g h (λ x. record x { reply = Some (answers ring w g) }) (apart h g f))
get_effect ring plan w e h v f = same_get ring w (effect ring plan w e).gets h v (ap (λ (gs : List GetRecord). slice_get gs h) (same_gets ring plan w e refl))

pub get_stays : (ring : RingValue) (plan : List Planned) (w u : World) (e : Event) (r : Reply) (h : ℕ) → answer ring plan w e ≡ Ok (u, r) → is_of_get h e ≡ false → (v : ℕ) → GetStays ring w u h v
get_stays ring plan w u e r h k f v = subst (λ (z : World). GetStays ring w z h v) (answered ring plan w u e r k).1 (get_effect ring plan w e h v f)
