-- What an event leaves of a get that is there.
use Rattle.std.proofs.Common.{◌≡◌, ◌⊎◌, inl, inr, ◌∙◌, ℕ, zero, suc, ◌<◌, Bool, true, false, cond, List, [], ◌∷◌, ◌++◌, length, length-append, Some}
use Rattle.std.proofs.Common.{None, refl, sym, ap, subst, arith, eqb-true}
use Rattle.std.specs.Prelude.{◌==◌}
use Rattle.ring_table.specs.Value.{RingValue}
use Rattle.plan_text.specs.declared.step.Planned.{Planned}
use Rattle.plan_runs.specs.declared.event.Event.{Event}
use Rattle.plan_runs.specs.declared.event.Event.TheVariants.{StartGet, Read, EndGet}
use Rattle.plan_runs.specs.World.{GetRecord, World, key_of_get, found_at}
use Rattle.plan_runs.specs.Effects.{with_value, changed, finds, answers, effect}
use Rattle.plan_runs.proofs.Changed.{read_at, length_changed, part_changed, part_before}
use Rattle.plan_runs.proofs.Frames.{same_gets}

-- ---- a get

-- the get is there, with the same key. What it found at a slot, it had found before or finds now
pub record StaysAsked (ring : RingValue) (plan : List Planned) (w u : World) (g : ℕ) : Type 0 where
  pub exists : g < length u.gets
  pub key : key_of_get u g ≡ key_of_get w g
  pub found : (i : ℕ) (vs : List ℕ) → found_at u g i ≡ Some vs → (found_at w g i ≡ Some vs) ⊎ (vs ≡ finds ring plan w g i)

-- where gets stay the same
unasked : (ring : RingValue) (plan : List Planned) (w u : World) (g : ℕ) → u.gets ≡ w.gets → g < length w.gets → StaysAsked ring plan w u g
unasked ring plan w u g same l = record {
  exists = subst (λ (gs : List GetRecord). g < length gs) (sym same) l;
  key = ap (λ (gs : List GetRecord). read_at (λ (x : GetRecord). x.key) [] gs g) same;
  found = λ i vs e. inl (sym (ap (λ (gs : List GetRecord). read_at (λ (x : GetRecord). x.found i) None gs g) same) ∙ e);
}

-- if another one comes
more_gets : (ring : RingValue) (plan : List Planned) (w : World) (a : GetRecord) (g : ℕ) → g < length w.gets
    → StaysAsked ring plan w (record w { gets = w.gets ++ a ∷ [] }) g
more_gets ring plan w a g l = record {
  exists = (let n = length-append w.gets (a ∷ []) in omega arith);
  key = part_before (λ (x : GetRecord). x.key) [] w.gets (a ∷ []) g l;
  found = λ i vs e. inl (sym (part_before (λ (x : GetRecord). x.found i) None w.gets (a ∷ []) g l) ∙ e);
}

-- if one has its reply
ended_get : (ring : RingValue) (plan : List Planned) (w : World) (h : ℕ) (reply : List ℕ) (g : ℕ) → g < length w.gets
    → StaysAsked ring plan w (record w { gets = changed w.gets h (λ x. record x { reply = Some reply }) }) g
ended_get ring plan w h reply g l = record {
  exists = (let n = length_changed w.gets h (λ x. record x { reply = Some reply }) in omega arith);
  key = part_changed (λ (x : GetRecord). x.key) [] w.gets h (λ x. record x { reply = Some reply }) (λ x. refl) g;
  found = λ i vs e. inl (sym (part_changed (λ (x : GetRecord). x.found i) None w.gets h (λ x. record x { reply = Some reply }) (λ x. refl) g) ∙ e);
}

-- what is found once a get is changed
changed_found_at : (gs : List GetRecord) (n : ℕ) (f : GetRecord → GetRecord) (g i : ℕ) (vs : List ℕ)
    → read_at (λ (x : GetRecord). x.found i) None (changed gs n f) g ≡ Some vs
    → (read_at (λ (x : GetRecord). x.found i) None gs g ≡ Some vs)
    ⊎ ((g ≡ n) × (x : GetRecord) × ((f x).found i ≡ Some vs) × (read_at (λ (y : GetRecord). y.found i) None gs g ≡ x.found i))
changed_found_at [] n f g i vs e = absurd cc
changed_found_at (x ∷ gs) zero f zero i vs e = inr (refl, x, e, refl)
changed_found_at (x ∷ gs) zero f (suc g) i vs e = inl e
changed_found_at (x ∷ gs) (suc n) f zero i vs e = inl e
changed_found_at (x ∷ gs) (suc n) f (suc g) i vs e = elim (changed_found_at gs n f g i vs e) [ inl h ↦ inl h | inr h ↦ inr (ap suc h.0, h.1, h.2, h.3) ]

-- if one reads a slot
read_get : (ring : RingValue) (plan : List Planned) (w : World) (h j g : ℕ) → g < length w.gets
    → StaysAsked ring plan w (record w { gets = changed w.gets h (λ x. record x { found = with_value x.found j (finds ring plan w h j) }) }) g
read_get ring plan w h j g l = record {
  exists = (let n = length_changed w.gets h reads in omega arith);
  key = part_changed (λ (x : GetRecord). x.key) [] w.gets h reads (λ x. refl) g;
  found = λ i vs e. elim (changed_found_at w.gets h reads g i vs e) [
    | inl f ↦ inl f
    | inr f ↦ by i vs (i == j) refl f.1 f.2 f.0 f.3
  ];
}
  where
    reads : GetRecord → GetRecord
    reads x = record x { found = with_value x.found j (finds ring plan w h j) }

    by : (i : ℕ) (vs : List ℕ) (b : Bool) → (i == j) ≡ b → (x : GetRecord) → cond b (Some (finds ring plan w h j)) (x.found i) ≡ Some vs → g ≡ h
        → found_at w g i ≡ x.found i → (found_at w g i ≡ Some vs) ⊎ (vs ≡ finds ring plan w g i)
    by i vs false same x f is at = inl (at ∙ f)
    by i vs true same x f is at =
        let now : vs ≡ finds ring plan w h j = cc in
        inr (now ∙ ap (λ (z : ℕ). finds ring plan w h z) (sym (eqb-true i j same)) ∙ ap (λ (z : ℕ). finds ring plan w z i) (sym is))

-- so after each event
pub event_asked : (ring : RingValue) (plan : List Planned) (w : World) (e : Event) (g : ℕ) → g < length w.gets
    → StaysAsked ring plan w (effect ring plan w e) g
unfolding effect
event_asked ring plan w (StartGet key) g l = more_gets ring plan w _ g l
event_asked ring plan w (Read h j) g l = read_get ring plan w h j g l
event_asked ring plan w (EndGet h) g l = ended_get ring plan w h (answers ring w h) g l
event_asked ring plan w e g l = unasked ring plan w _ g (same_gets ring plan w e refl) l
