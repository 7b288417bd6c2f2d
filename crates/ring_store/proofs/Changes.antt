-- One map changed: that of a seat in a row.
use Rattle.std.proofs.Common.{◌≡◌, ◌≢◌, ◌∙◌, ◌<◌, ℕ, zero, suc, List, [], ◌∷◌, length, get_or, set, refl, sym, ap, subst, Option, Some, None, inl, inr, arith}
use Rattle.std.specs.Prelude.{slice_get}
use Rattle.std.proofs.Math.Path.{fun_ext}
use Rattle.std.proofs.lemmas.Bool.{cases_eq}
use Rattle.ring_names.proofs.InLists.{get_lent}
use Rattle.ring_versions.specs.declared.version.Version.{Version}
use Rattle.store_maps.specs.Chunks.{held_of}
use Rattle.store_maps.specs.Held.{held}
use Rattle.store_maps.specs.Sorted.{IsThere, GoesAt}
use Rattle.store_maps.specs.declared.key_map.KeyMap.{KeyMap}
use Rattle.store_maps.proofs.Sorted.{written, order_written, read_there, read_missing}
use Rattle.ring_store.specs.Seats.{seat_cmp, map_at, AreInOrder}
use Rattle.ring_store.specs.Stores.{shared_space, map_of, map_on, Changes, IsPlaceOn}
use Rattle.ring_store.specs.declared.row.Row.{Row}
use Rattle.ring_store.specs.declared.seat.Seat.{Seat}
use Rattle.ring_store.specs.declared.stores.Stores.{Stores}
use Rattle.ring_store.proofs.Rows.{seat_order}

get_here : {X : Type 0} (xs : List X) (i : ℕ) (x : X) → i < length xs → slice_get (set xs i x) i ≡ Some x
get_here [] i x l = absurd (omega arith)
get_here (y ∷ ys) zero x l = refl
get_here (y ∷ ys) (suc i) x l = get_here ys i x (omega arith)

get_other : {X : Type 0} (xs : List X) (i j : ℕ) (x : X) → j ≢ i → slice_get (set xs i x) j ≡ slice_get xs j
get_other [] i j x ne = refl
get_other (y ∷ ys) zero zero x ne = absurd (ne refl)
get_other (y ∷ ys) zero (suc j) x ne = refl
get_other (y ∷ ys) (suc i) zero x ne = refl
get_other (y ∷ ys) (suc i) (suc j) x ne = get_other ys i j x (λ e. ne (ap suc e))

-- no row has a map
abbrev pub AreEmpty : List Row → Type 0
AreEmpty rows = (i : ℕ) (t : Seat) → map_of (slice_get rows i) t ≡ None

-- ---- row i of the stores a becomes w

module _ (a : Stores) (i : ℕ) (row w : Row) (within : i < length a.rows.items) (lent : row ≡ get_or a.rows.items i row) where
  pub row_is : slice_get a.rows.items i ≡ Some row
  row_is = get_lent a.rows.items i row within lent

  pub row_becomes : slice_get (set a.rows.items i w) i ≡ Some w
  row_becomes = get_here a.rows.items i w within

  pub other_stays : (seat : Seat) → ((t : Seat) → t ≢ seat → map_at w.maps.items t ≡ map_at row.maps.items t) → (j : ℕ) (t : Seat) → (j ≡ i → t ≡ seat → ⊥) → map_of (slice_get (set a.rows.items i w) j) t ≡ map_on a j t
  other_stays seat others j t apart = elim (cases_eq j i) [
    | inl e ↦ subst (λ k. map_of (slice_get (set a.rows.items i w) k) t ≡ map_on a k t) (sym e) (ap (λ o. map_of o t) row_becomes ∙ others t (apart e) ∙ sym (ap (λ o. map_of o t) row_is))
    | inr ne ↦ ap (λ o. map_of o t) (get_other a.rows.items i j w ne)
  ]

  pub changes : (b : Stores) (seat : Seat) → shared_space b ≡ shared_space a → b.rows.items ≡ set a.rows.items i w → ((t : Seat) → t ≢ seat → map_at w.maps.items t ≡ map_at row.maps.items t) → Changes i seat a b
  changes b seat space rows others = record { space = space; others = λ j t apart. ap (λ (all : List Row). map_of (slice_get all j) t) rows ∙ other_stays seat others j t apart }

-- ---- the map e of the seat, at a place in row i, becomes m

pub record Lent (a : Stores) (i : ℕ) (seat : Seat) (row : Row) (place : ℕ) (e : Seat × KeyMap) : Type 0 where
  within : i < length a.rows.items
  row_at : row ≡ get_or a.rows.items i row
  there : IsThere seat_cmp seat row.maps.items place
  at : e ≡ get_or row.maps.items place e

pub lent : (a : Stores) {i : ℕ} {seat : Seat} {row : Row} {place : ℕ} {e : Seat × KeyMap} → i < length a.rows.items → row ≡ get_or a.rows.items i row → IsThere seat_cmp seat row.maps.items place → e ≡ get_or row.maps.items place e → Lent a i seat row place e
lent a within row_at there at = record { within = within; row_at = row_at; there = there; at = at }

pub no_map : (a : Stores) (i : ℕ) {row : Row} → i < length a.rows.items → (seat : Seat) → row ≡ get_or a.rows.items i row → (place : ℕ) → GoesAt seat_cmp seat row.maps.items place → map_on a i seat ≡ None
no_map a i {row} within seat row_at place goes = ap (λ o. map_of o seat) (row_is a i row row within row_at) ∙ read_missing seat_order seat row.maps.items place row.order goes

module _ {a : Stores} {i : ℕ} {seat : Seat} {row : Row} {place : ℕ} {e : Seat × KeyMap} (it : Lent a i seat row place e) where
  was : map_on a i seat ≡ Some e.1
  was = ap (λ o. map_of o seat) (row_is a i row row it.within it.row_at) ∙ read_there seat_order seat row.maps.items place e it.there (sym it.at)

  pub of_old : (P : Option KeyMap → Type 0) → P (map_on a i seat) → P (Some e.1)
  of_old P h = subst P was h

  pub at_old : (P : Option KeyMap → Type 0) → P (Some e.1) → P (map_on a i seat)
  at_old P h = subst P (sym was) h

  pub order_changed : (m : KeyMap) → AreInOrder (set row.maps.items place (e.0, m))
  order_changed m = order_written seat_order row.maps.items place e m it.at row.order

  module _ (w : Row) (m : KeyMap) (maps : w.maps.items ≡ set row.maps.items place (e.0, m)) where
    pub only : (b : Stores) → shared_space b ≡ shared_space a → b.rows.items ≡ set a.rows.items i w → Changes i seat a b
    only b space rows = changes a i row w it.within it.row_at b seat space rows (λ t ne. ap (λ all. map_at all t) maps ∙ (written seat_order seat row.maps.items place e m it.there it.at).others t ne)

    pub at_new : (P : Option KeyMap → Type 0) → P (Some m) → P (map_of (slice_get (set a.rows.items i w) i) seat)
    at_new P h = subst P (sym (ap (λ o. map_of o seat) (row_becomes a i row w it.within it.row_at) ∙ ap (λ all. map_at all seat) maps ∙ (written seat_order seat row.maps.items place e m it.there it.at).here)) h

    pub at_both : (P : Option KeyMap → Option KeyMap → Type 0) → P (Some e.1) (Some m) → P (map_on a i seat) (map_of (slice_get (set a.rows.items i w) i) seat)
    at_both P h = at_old (λ o. P o (map_of (slice_get (set a.rows.items i w) i) seat)) (at_new (P (Some e.1)) h)

-- ---- the stores a opened a place for the seat in row i, and became mid

pub then_changes : {i : ℕ} {seat : Seat} (a mid b : Stores) → Changes i seat a mid → Changes i seat mid b → Changes i seat a b
then_changes a mid b f g = record { space = g.space ∙ f.space; others = λ j t apart. g.others j t apart ∙ f.others j t apart }

pub same_within : (a b : Stores) (i : ℕ) → shared_space b ≡ shared_space a → i < length a.rows.items → i < length b.rows.items
same_within a b i space less = let m = a.whole in let n = b.whole in omega arith

pub there_open : (a mid : Stores) {i : ℕ} {seat : Seat} {row : Row} {place : ℕ} → i < length a.rows.items → Changes i seat a mid → IsPlaceOn mid i seat place → row ≡ get_or mid.rows.items i row → IsThere seat_cmp seat row.maps.items place
there_open a mid {i} {seat} {row} less only at row_at = at row (row_is mid i row row (same_within a mid i only.space less) row_at)

pub lent_open : (a mid : Stores) {i : ℕ} {seat : Seat} {row : Row} {place : ℕ} {e : Seat × KeyMap} → i < length a.rows.items → Changes i seat a mid → IsPlaceOn mid i seat place → row ≡ get_or mid.rows.items i row → e ≡ get_or row.maps.items place e → Lent mid i seat row place e
lent_open a mid {i} less only there row_at at = record { within = same_within a mid i only.space less; row_at = row_at; there = there_open a mid less only there row_at; at = at }

-- what holds of the map before that, and after its change
module _ (a mid : Stores) {i : ℕ} {seat : Seat} {row : Row} {place : ℕ} {e : Seat × KeyMap} (it : Lent mid i seat row place e) (same : (n : ℕ) → held_of (map_on mid i seat) n ≡ held_of (map_on a i seat) n) where
  pub old_open : (P : (ℕ → List Version) → Type 0) → P (held e.1) → P (held_of (map_on a i seat))
  old_open P h = subst P (fun_ext same) (at_old it (λ o. P (held_of o)) h)

  pub both_open : (w : Row) (m : KeyMap) → w.maps.items ≡ set row.maps.items place (e.0, m) → (P : (ℕ → List Version) → Option KeyMap → Type 0) → P (held e.1) (Some m) → P (held_of (map_on a i seat)) (map_of (slice_get (set mid.rows.items i w) i) seat)
  both_open w m maps P h = old_open (λ old. P old (map_of (slice_get (set mid.rows.items i w) i) seat)) (at_new it w m maps (P (held e.1)) h)
