-- Reading the scripts of a drive does not go back, where its faults lie, and what the scripts are.
use Rattle.std.proofs.Common.{◌≡◌, ℕ, zero, suc, ◌+◌, ◌-◌, ◌<◌, ◌≤◌, true, false, List, [], ◌∷◌, ◌++◌, length, Result, Ok, Err, refl, subst, arith, length-append}
use Rattle.std.specs.List.{list_all, AllByRecursion}
use Rattle.std.proofs.lemmas.Bool.{cond_both}
use Rattle.texts.proofs.Forms.{appended, Refusal, Left, ◌>>=◌, ReadsTo, ok_is, bind_ok, Advances, advances-map, to-map, reads-less}
use Rattle.texts.specs.Left.{is_over}
use Rattle.script_text.proofs.Terms.{RingValue, Event}
use Rattle.script_text.specs.declared.speaker.Speaker.TheVariants.{Client}
use Rattle.script_text.specs.Client.{is_client_event}
use Rattle.script_text.specs.Reading.{client_at}
use Rattle.script_text.proofs.ScriptLates.{section-on}
use Rattle.script_text.proofs.ClientLaws.{section-client}
use Rattle.ring_work.specs.Drives.{Scripts, next_at, scripts_from, scripts_at, AreOfClients}

-- a place in the first of two steps, or in the second
module _ {A B : Type 0} (read : Left → Result (A × Left) Refusal) (again : A → Left → Result (B × Left) Refusal) where
  abbrev both : Left → Result (B × Left) Refusal
  both s = read s >>= λ x. again x.0 x.1

  step-second : (k : ℕ) (s t : Left) (x : A) → read s ≡ Ok (x, t) → ReadsTo k (again x t) → ReadsTo k (both s)
  step-second k s t x e p = rw e p

  step-first : (k : ℕ) (s : Left) → ((x : A) → Advances (again x)) → ReadsTo k (read s) → ReadsTo k (both s)
  step-first k s on p = by (read s) p
    where
      by : (r : Result (A × Left) Refusal) → ReadsTo k r → ReadsTo k (◌>>=◌ {B = B × Left} r (λ x. again x.0 x.1))
      by (Ok x) q = reads-less k x.1.line (again x.0 x.1) q ((on x.0).on x.1)
      by (Err d) q = q

-- ---- reading does not go back

module _ (ring : RingValue) where
  next-on : (seen : Scripts) → Advances (next_at ring seen)
  unfolding next_at
  next-on seen = advances-map _ _ (section-on Client ring seen.1)

  from-on : (n : ℕ) (seen : Scripts) → Advances (scripts_from n ring seen)
  from-on zero seen = record { on = λ s. omega arith }
  from-on (suc n) seen = record {
    on = λ s. cond_both {A = Result (Scripts × Left) Refusal} (is_over s) (Ok (seen, s)) (next_at ring seen s >>= λ x. scripts_from n ring x.0 x.1) (λ r. ReadsTo s.line r) (λ t. omega arith)
        (λ t. step-first (next_at ring seen) (scripts_from n ring) s.line s (from-on n) ((next-on seen).on s));
  }

  pub scripts-on : Advances (scripts_at ring)
  unfolding scripts_at
  scripts-on = record { on = λ s. step-first (next_at ring ([], [])) (scripts_from 7 ring) s.line s (from-on 7) ((next-on ([], [])).on s) }

  -- ---- a place in them

  -- in the next script
  pub in-next : (k : ℕ) (seen : Scripts) (s : Left) → ReadsTo k (client_at ring seen.1 s) → ReadsTo k (next_at ring seen s)
  unfolding next_at
  in-next k seen s p = to-map _ (client_at ring seen.1) k s p

  -- memory that is asked for behind it
  pub past-next : (seen : Scripts) (s t : Left) (x : List Event × List (List ℕ)) → client_at ring seen.1 s ≡ Ok (x, t) → (s.line ≤ t.line) × ReadsTo t.line (next_at ring seen s)
  past-next seen s t x e =
      let on = (section-on Client ring seen.1).on s in
      let here : ReadsTo t.line (client_at ring seen.1 s) = rw e (omega arith) in
      (rw e at on, in-next t.line seen s here)

  -- one script fewer is to come
  pub from-step : (n : ℕ) (seen x : Scripts) (s t : Left) → 0 < n → is_over s ≡ false → next_at ring seen s ≡ Ok (x, t) → scripts_from (n - 1) ring x t ≡ scripts_from n ring seen s
  from-step zero seen x s t some over e = absurd (omega arith)
  from-step (suc n) seen x s t some over e =
      let fewer : suc n - 1 ≡ n = omega arith in
      rw (over, e, fewer) refl

  -- the next script has a fault
  pub from-fault : (n : ℕ) (seen : Scripts) (s : Left) (e : Refusal) → 0 < n → is_over s ≡ false → next_at ring seen s ≡ Err e → scripts_from n ring seen s ≡ Err e
  from-fault zero seen s e some over f = absurd (omega arith)
  from-fault (suc n) seen s e some over f = rw (over, f) refl

  -- a place in the next script
  pub from-next : (n k : ℕ) (seen : Scripts) (s : Left) → 0 < n → is_over s ≡ false → ReadsTo k (next_at ring seen s) → ReadsTo k (scripts_from n ring seen s)
  from-next zero k seen s some over p = absurd (omega arith)
  from-next (suc n) k seen s some over p = rw over (step-first (next_at ring seen) (scripts_from n ring) k s (from-on n) p)

  -- in the first script, and in those behind it
  pub in-first : (k : ℕ) (s : Left) → ReadsTo k (next_at ring ([], []) s) → ReadsTo k (scripts_at ring s)
  unfolding scripts_at
  in-first k s p = step-first (next_at ring ([], [])) (scripts_from 7 ring) k s (from-on 7) p

  pub in-more : (k : ℕ) (s t : Left) (x : Scripts) → next_at ring ([], []) s ≡ Ok (x, t) → ReadsTo k (scripts_from 7 ring x t) → ReadsTo k (scripts_at ring s)
  unfolding scripts_at
  in-more k s t x e p = step-second (next_at ring ([], [])) (scripts_from 7 ring) k s t x e p

  -- a script ends behind where it begins
  pub next-past : (seen x : Scripts) (s t : Left) → next_at ring seen s ≡ Ok (x, t) → s.line ≤ t.line
  next-past seen x s t e = (let on = (next-on seen).on s in rw e at on)

  -- ---- what they are

  -- only events of clients
  abbrev Clients : List Event → Type 0
  Clients s = list_all is_client_event s ≡ true

  -- the scripts so far
  abbrev Between : ℕ → ℕ → List (List Event) → Type 0
  Between n m xs = (n ≤ length xs) × (length xs ≤ m) × AllByRecursion Clients xs

  next-is : (n m : ℕ) (seen : Scripts) (s : Left) (w : Scripts × Left) → Between n m seen.0 → next_at ring seen s ≡ Ok w → Between (n + 1) (m + 1) w.0.0
  unfolding next_at
  next-is n m seen s w p e =
      let b = bind_ok (client_at ring seen.1 s) (λ x. Ok ((seen.0 ++ x.0.0 ∷ [], x.0.1), x.1)) w e in
      let client = section-client ring seen.1 s b.0.0 b.0.1 b.1 in
      let long = length-append seen.0 (b.0.0.0 ∷ []) in
      let low = p.0 in
      let high = p.1 in
      let mine : Between (n + 1) (m + 1) (seen.0 ++ b.0.0.0 ∷ []) = (omega arith, omega arith, appended Clients seen.0 (b.0.0.0 ∷ []) p.2 (client, tt)) in
      subst (λ (v : Scripts × Left). Between (n + 1) (m + 1) v.0.0) (ok_is _ w b.2) mine

  -- within wider bounds
  wider : (n m k l : ℕ) (xs : List (List Event)) → Between k l xs → n ≤ k → l ≤ m → Between n m xs
  wider n m k l xs p low high = let a = p.0 in let b = p.1 in (omega arith, omega arith, p.2)

  from-is : (k n m : ℕ) (seen : Scripts) (s : Left) (w : Scripts × Left) → Between n m seen.0 → scripts_from k ring seen s ≡ Ok w → Between n (m + k) w.0.0
  from-is zero n m seen s w p e = subst (λ (v : Scripts × Left). Between n (m + 0) v.0.0) (ok_is _ w e) (wider n (m + 0) n m seen.0 p (omega arith) (omega arith))
  from-is (suc k) n m seen s w p e = cond_both {A = Result (Scripts × Left) Refusal} (is_over s) (Ok (seen, s)) (next_at ring seen s >>= λ x. scripts_from k ring x.0 x.1) (λ r. r ≡ Ok w → Between n (m + suc k) w.0.0)
      (λ t f. subst (λ (v : Scripts × Left). Between n (m + suc k) v.0.0) (ok_is _ w f) (wider n (m + suc k) n m seen.0 p (omega arith) (omega arith)))
      (λ t f. let b = bind_ok (next_at ring seen s) (λ x. scripts_from k ring x.0 x.1) w f in
      wider n (m + suc k) (n + 1) (m + 1 + k) w.0.0 (from-is k (n + 1) (m + 1) b.0.0 b.0.1 w (next-is n m seen s b.0 p b.1) b.2) (omega arith) (omega arith)) e

  -- 1 to 8 scripts of clients
  pub scripts-is : (s : Left) (v : Scripts) (t : Left) → scripts_at ring s ≡ Ok (v, t) → AreOfClients v.0
  unfolding scripts_at
  scripts-is s v t e =
      let b = bind_ok (next_at ring ([], []) s) (λ x. scripts_from 7 ring x.0 x.1) (v, t) e in
      let none : Between 0 0 [] = (omega arith, omega arith, tt) in
      let one = wider 1 1 (0 + 1) (0 + 1) b.0.0.0 (next-is 0 0 ([], []) s b.0 none b.1) (omega arith) (omega arith) in
      wider 1 8 1 (1 + 7) v.0 (from-is 7 1 1 b.0.0 b.0.1 (v, t) one b.2) (omega arith) (omega arith)

  -- of the first and those behind it
  pub clients-of : (s t u : Left) (x v : Scripts) → next_at ring ([], []) s ≡ Ok (x, t) → scripts_from 7 ring x t ≡ Ok (v, u) → AreOfClients v.0
  unfolding scripts_at
  clients-of s t u x v e f =
      let whole : scripts_at ring s ≡ Ok (v, u) = rw e f in
      scripts-is s v u whole
