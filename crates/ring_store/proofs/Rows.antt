-- What a row has of a seat.
use Rattle.std.proofs.Common.{◌≡◌, ◌≢◌, ◌∙◌, ◌<◌, ℕ, zero, suc, Bool, true, false, cond, not, nat_eq, List, [], ◌∷◌, insert, vec_len, refl, sym, ap, subst, None, arith}
use Rattle.std.specs.BTreeMap.{is_at}
use Rattle.std.specs.Cmp.{Equal-is, tied_itself}
use Rattle.std.specs.List.{filter}
use Rattle.std.specs.List.Sorted.{IsStrictlySortedBy}
use Rattle.std.specs.Map.{keys_of}
use Rattle.std.specs.Ordering.{nat_cmp, ordering_then}
use Rattle.std.specs.declared.cmp.Ordering.TheVariants.{Less, Equal, Greater}
use Rattle.std.proofs.lemmas.Bool.{eq-eqb, eqb-true, false_from_ne_true}
use Rattle.std.proofs.lemmas.List.Kept.{IsStrictlySortedBy-filter}
use Rattle.std.proofs.lemmas.Map.Entries.{lookup-filter-keys}
use Rattle.std.proofs.lemmas.Map.Lookups.{exact_unsigned}
use Rattle.store_maps.specs.Sorted.{IsThere, GoesAt}
use Rattle.store_maps.specs.declared.key_map.KeyMap.{KeyMap}
use Rattle.store_maps.proofs.Sorted.{IsKeyOrder, within}
use Rattle.ring_store.specs.Seats.{seat_cmp, map_at, AreInOrder}
use Rattle.ring_store.specs.contracts.seat.SeatOrd.TheImpl.Laws.{total-law}
use Rattle.ring_store.specs.declared.row.Row.{Row}
use Rattle.ring_store.specs.declared.seat.Seat.{Seat}

both_equal : (a b c d : _) → ordering_then (nat_cmp a b) (nat_cmp c d) ≡ Equal → (a ≡ b) × (c ≡ d)
both_equal a b c d h = elim (nat_cmp a b) as (λ r. nat_cmp a b ≡ r → ordering_then r (nat_cmp c d) ≡ Equal → (a ≡ b) × (c ≡ d)) [
  | Less ↦ λ e t. absurd cc
  | Equal ↦ λ e t. (exact_unsigned a b e, exact_unsigned c d t)
  | Greater ↦ λ e t. absurd cc
] refl h

pub seat_order : IsKeyOrder seat_cmp
seat_order = record {
  total = total-law;
  exact = λ a b h. (let e = both_equal a.index b.index a.node.0 b.node.0 h in λ i. record { index = e.0 i; node = record { 0 = e.1 i } });
}

-- ---- the maps of some seats, of all that a row had

keys_kept : (p : Seat → Bool) (maps : List (Seat × KeyMap)) → keys_of (filter (λ e. p e.0) maps) ≡ filter p (keys_of maps)
keys_kept p [] = refl
keys_kept p (e ∷ es) = elim (p e.0) as (λ b. keys_of (cond b (e ∷ filter (λ e. p e.0) es) (filter (λ e. p e.0) es)) ≡ cond b (e.0 ∷ filter p (keys_of es)) (filter p (keys_of es))) [
  | true ↦ ap (λ (ts : List Seat). e.0 ∷ ts) (keys_kept p es)
  | false ↦ keys_kept p es
]

pub order_kept : (p : Seat → Bool) (maps : List (Seat × KeyMap)) → AreInOrder maps → AreInOrder (filter (λ e. p e.0) maps)
order_kept p maps s = subst (IsStrictlySortedBy seat_cmp) (sym (keys_kept p maps)) (IsStrictlySortedBy-filter seat_cmp p (keys_of maps) s)

map_kept : (p : Seat → Bool) (maps : List (Seat × KeyMap)) (t : Seat) → map_at (filter (λ e. p e.0) maps) t ≡ cond (p t) (map_at maps t) None
map_kept p maps t = lookup-filter-keys (is_at (seat_cmp t)) p (p t) (λ k h. sym (ap p (seat_order.exact t k ((Equal-is (seat_cmp t k)).0 h)))) maps

module _ (node : ℕ) (maps : List (Seat × KeyMap)) (t : Seat) where
  pub none_kept : t.node.0 ≡ node → map_at (filter (λ (e : Seat × KeyMap). not (nat_eq e.0.node.0 node)) maps) t ≡ None
  none_kept e = let same = eq-eqb t.node.0 node e in map_kept (λ u. not (nat_eq u.node.0 node)) maps t ∙ rw same refl

  pub other_kept : t.node.0 ≢ node → map_at (filter (λ (e : Seat × KeyMap). not (nat_eq e.0.node.0 node)) maps) t ≡ map_at maps t
  other_kept ne = let apart = false_from_ne_true (nat_eq t.node.0 node) (λ h. ne (eqb-true t.node.0 node h)) in map_kept (λ u. not (nat_eq u.node.0 node)) maps t ∙ rw apart refl

-- a map that was put in where it goes is there
pub there_in : (t : Seat) (m : KeyMap) (maps : List (Seat × KeyMap)) (i : ℕ) → GoesAt seat_cmp t maps i → IsThere seat_cmp t (insert maps i (t, m)) i
there_in t m [] zero h = tied_itself seat_order.total t
there_in t m [] (suc i) h = absurd h
there_in t m (e ∷ es) zero h = tied_itself seat_order.total t
there_in t m (e ∷ es) (suc i) h = (h.0, there_in t m es i h.1)

-- the place of a map is within the row
pub within_row : (row : Row) (t : Seat) (i : ℕ) → IsThere seat_cmp t row.maps.items i → i < vec_len row.maps
within_row row t i h = let less = within seat_cmp t row.maps.items i h in let ok = row.maps.ok.0 in omega arith
