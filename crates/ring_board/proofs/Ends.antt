-- Whose lists have the ends of steps, list by list and in all.
use Rattle.std.proofs.Common.{◌≡◌, ◌==◌, ◌+◌, ◌<◌, ◌∙◌, ℕ, zero, suc, true, false, List, [], ◌∷◌, length, refl, sym, ap, subst, arith, inl, inr}
use Rattle.std.specs.Prelude.{◌↔◌, Option, Some, None, slice_index}
use Rattle.std.proofs.lemmas.Bool.{true≢false, or_cases, or_left, or_right, eqb-true, eq-eqb}
use Rattle.ring_board.specs.declared.receipt.Receipt.{Receipt}
use Rattle.ring_board.specs.Kinds.{finished_by}
use Rattle.ring_board.specs.Finishing.{finishes, has_end, list_at, worker_at, IsBy, AreBy, AreAllBy}

pub none_left : (lists : List (List Receipt)) → length lists ≡ 0 → lists ≡ []
none_left [] none = refl
none_left (list ∷ lists) none = absurd (omega arith)

-- each step that the list ends has that finisher
abbrev pub Told : List ℕ → ℕ → List Receipt → Type 0
Told finishers worker list = (k : ℕ) → k < length finishers → has_end k list ≡ true → slice_index finishers k ≡ worker

-- the same of each of the lists
abbrev pub AllTold : List ℕ → ℕ → ℕ → ℕ → List (List Receipt) → Type 0
AllTold finishers front workers from lists = (k place : ℕ) → k < length finishers → place < length lists → has_end k (list_at lists place) ≡ true
    → slice_index finishers k ≡ worker_at front workers (from + place)

one_told : (finishers : List ℕ) (worker : ℕ) (o : Option ℕ) → IsBy finishers worker o → (k : ℕ) → k < length finishers → (elim o [ Some n ↦ k == n | None ↦ false ]) ≡ true
    → slice_index finishers k ≡ worker
one_told finishers worker None by k less h = absurd (true≢false (sym h))
one_told finishers worker (Some n) by k less h = let same : k ≡ n = eqb-true k n h in ap (slice_index finishers) same ∙ by (subst (λ m. m < length finishers) same less)

one_by : (finishers : List ℕ) (worker : ℕ) (o : Option ℕ) → ((k : ℕ) → k < length finishers → (elim o [ Some n ↦ k == n | None ↦ false ]) ≡ true → slice_index finishers k ≡ worker)
    → IsBy finishers worker o
one_by finishers worker None told = tt
one_by finishers worker (Some n) told = λ less. told n less (eq-eqb n n refl)

list_told : (finishers : List ℕ) (worker : ℕ) (list : List Receipt) → AreBy finishers worker list → Told finishers worker list
list_told finishers worker [] by k less h = absurd (true≢false (sym h))
list_told finishers worker (r ∷ rs) by k less h = elim (or_cases (finishes k r) (has_end k rs) h) [
  | inl this ↦ one_told finishers worker (finished_by r.event) by.0 k less this
  | inr later ↦ list_told finishers worker rs by.1 k less later
]

list_by : (finishers : List ℕ) (worker : ℕ) (list : List Receipt) → Told finishers worker list → AreBy finishers worker list
list_by finishers worker [] told = tt
list_by finishers worker (r ∷ rs) told = (
  one_by finishers worker (finished_by r.event) (λ k less h. told k less (or_left (finishes k r) (has_end k rs) h)),
  list_by finishers worker rs (λ k less h. told k less (or_right (finishes k r) (has_end k rs) h)),
)

all_told : (finishers : List ℕ) (front workers from : ℕ) (lists : List (List Receipt)) → AreAllBy finishers front workers from lists → AllTold finishers front workers from lists
all_told finishers front workers from [] by k place less in_lists h = absurd (omega arith)
all_told finishers front workers from (list ∷ lists) by k zero less in_lists h =
    let here : from + 0 ≡ from = omega arith in
    list_told finishers (worker_at front workers from) list by.0 k less h ∙ ap (worker_at front workers) (sym here)
all_told finishers front workers from (list ∷ lists) by k (suc place) less in_lists h =
    let there : (from + 1) + place ≡ from + suc place = omega arith in
    all_told finishers front workers (from + 1) lists by.1 k place less (omega arith) h ∙ ap (worker_at front workers) there

all_by : (finishers : List ℕ) (front workers from : ℕ) (lists : List (List Receipt)) → AllTold finishers front workers from lists → AreAllBy finishers front workers from lists
all_by finishers front workers from [] told = tt
all_by finishers front workers from (list ∷ lists) told = (
  list_by finishers (worker_at front workers from) list (λ k less h. (let here : from + 0 ≡ from = omega arith in told k zero less (omega arith) h ∙ ap (worker_at front workers) here)),
  all_by finishers front workers (from + 1) lists (λ k place less in_lists h. (
      let there : from + suc place ≡ (from + 1) + place = omega arith in
      told k (suc place) less (omega arith) h ∙ ap (worker_at front workers) there)),
)

pub told_all : (finishers : List ℕ) (front workers : ℕ) (lists : List (List Receipt)) → AreAllBy finishers front workers 0 lists ↔ ((k place : ℕ) → k < length finishers → place < length lists
    → has_end k (list_at lists place) ≡ true → slice_index finishers k ≡ worker_at front workers place)
told_all finishers front workers lists = (
  λ by k place less in_lists h. (let here : 0 + place ≡ place = omega arith in all_told finishers front workers 0 lists by k place less in_lists h ∙ ap (worker_at front workers) here),
  λ told. all_by finishers front workers 0 lists (λ k place less in_lists h. (let here : place ≡ 0 + place = omega arith in told k place less in_lists h ∙ ap (worker_at front workers) here)),
)
