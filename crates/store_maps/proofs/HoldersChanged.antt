-- Who has something of a key, once a node is put in or taken out.
use Rattle.std.proofs.Common.{◌≡◌, ◌≢◌, ◌<◌, ◌≤◌, ◌+◌, inl, inr, ◌∙◌, ℕ, Bool, true, false, List, ◌∷◌, refl, sym, ap, Some, None, arith}
use Rattle.std.specs.Prelude.{not, ◌&&◌, ◌||◌, ◌==◌, is_some}
use Rattle.std.specs.Cmp.{unsigned_ties}
use Rattle.std.specs.BTreeMap.{is_at}
use Rattle.std.specs.BTreeSet.{BTreeSet, insert_key}
use Rattle.std.specs.Ordering.{ordering_then}
use Rattle.std.specs.Set.{remove_key}
use Rattle.std.specs.declared.cmp.Ordering.{Ordering}
use Rattle.std.specs.declared.cmp.Ordering.TheVariants.{Less, Equal, Greater}
use Rattle.std.proofs.lemmas.Bool.{cases_eq, cases_lt, eqb-true, eq-eqb, ne_eqb}
use Rattle.std.proofs.lemmas.Cmp.{nat_cmp_total, on_total, then_total}
use Rattle.std.proofs.lemmas.Map.Lookups.{exact_unsigned}
use Rattle.ring_names.specs.declared.ids.NodeId.{NodeId}
use Rattle.ring_names.specs.contracts.ids.NodeIdOrd.TheImpl as node_order
use Rattle.ring_names.proofs.Logic.{eqb_turned}
use Rattle.store_maps.specs.declared.key_id.KeyId.{KeyId}
use Rattle.store_maps.specs.declared.key_map.KeyMap.{KeyMap}
use Rattle.store_maps.specs.declared.slot_map.SlotMap.{SlotMap}
use Rattle.store_maps.specs.Held.{has_place}
use Rattle.store_maps.specs.Holders.{key_cmp, is_among, nodes_in}
use Rattle.store_maps.specs.Ids.{id, is_in, same_key}
use Rattle.store_maps.specs.Places.{value_in}
use Rattle.store_maps.specs.Slots.{has_place_for}
use Rattle.store_maps.specs.Sorted.{value_by}
use Rattle.store_maps.proofs.Chunks.{no_chunk}
use Rattle.store_maps.proofs.EntriesLeft.{later_in}
use Rattle.store_maps.proofs.Members.{any_inserted, others_stay}
use Rattle.store_maps.proofs.Sorted.{IsKeyOrder, by_key}

-- ---- keys and nodes that compare as equal are the same

both_equal : (r s : Ordering) → ordering_then r s ≡ Equal → (r ≡ Equal) × (s ≡ Equal)
both_equal Equal s h = (refl, h)
both_equal Less s h = absurd cc
both_equal Greater s h = absurd cc

pub id_order : IsKeyOrder key_cmp
id_order = record {
  total = then_total (on_total (λ (k : KeyId). k.chunk) nat_cmp_total) (on_total (λ (k : KeyId). k.number) nat_cmp_total);
  exact = λ a b h. let p = both_equal _ _ h in λ i. record { chunk = exact_unsigned a.chunk b.chunk p.0 i; number = exact_unsigned a.number b.number p.1 i };
}

pub same_self : (k : KeyId) → same_key k k ≡ true
same_self k = rw (eq-eqb k.chunk k.chunk refl, eq-eqb k.number k.number refl) refl

pub same_other : (key k : KeyId) → k ≢ key → same_key key k ≡ false
same_other key k ne = elim (cases_eq k.chunk key.chunk) [
  | inr apart ↦ rw (ne_eqb key.chunk k.chunk (λ e. apart (sym e))) refl
  | inl e ↦ rw (eq-eqb key.chunk k.chunk (sym e), ne_eqb key.number k.number (λ h. ne (λ i. record { chunk = e i; number = sym h i }))) refl
]

pub node_tie : (x y : ℕ) → is_at ((node_order.ghosts).cmp (record { 0 = x })) (record { 0 = y }) ≡ (x == y)
node_tie x y = sym (unsigned_ties x y)

pub node_same : (x : NodeId) → is_at ((node_order.ghosts).cmp x) x ≡ true
node_same x = node_tie x.0 x.0 ∙ eq-eqb x.0 x.0 refl

pub node_exact : (x y : NodeId) → is_at ((node_order.ghosts).cmp x) y ≡ true → x ≡ y
node_exact x y h = λ i. record { 0 = eqb-true x.0 y.0 (sym (node_tie x.0 y.0) ∙ h) i }

-- ---- one list

added : (x : ℕ) (node : NodeId) (nodes : List NodeId) → is_among x (insert_key ((node_order.ghosts).cmp) nodes node) ≡ ((node.0 == x) || is_among x nodes)
added x node nodes =
    any_inserted ((node_order.ghosts).cmp) node_same node_exact (record { 0 = x }) node nodes
    ∙ ap (λ (b : Bool). b || is_among x nodes) (node_tie x node.0 ∙ eqb_turned x node.0)

removed : (x : ℕ) (node : NodeId) (nodes : List NodeId) → is_among node.0 (remove_key (is_at ((node_order.ghosts).cmp node)) nodes) ≡ false
    → is_among x (remove_key (is_at ((node_order.ghosts).cmp node)) nodes) ≡ (not (node.0 == x) && is_among x nodes)
removed x node nodes gone = by (node.0 == x) refl
  where
    less : List NodeId
    less = remove_key (is_at ((node_order.ghosts).cmp node)) nodes

    by : (b : Bool) → (node.0 == x) ≡ b → is_among x less ≡ (not b && is_among x nodes)
    by true e = ap (λ (y : ℕ). is_among y less) (sym (eqb-true node.0 x e)) ∙ gone
    by false e = others_stay ((node_order.ghosts).cmp) node_same node_exact (record { 0 = x }) node nodes (node_tie x node.0 ∙ eqb_turned x node.0 ∙ e)

-- ---- the lists of all keys, of which one changed

-- whether the node is one of the key's
abbrev pub is_of_key : List (KeyId × BTreeSet NodeId) → KeyId → ℕ → Bool
is_of_key es k x = is_among x (nodes_in (value_by key_cmp es k))

module _ (es fs : List (KeyId × BTreeSet NodeId)) (key : KeyId) (others : (k : KeyId) → k ≢ key → value_by key_cmp fs k ≡ value_by key_cmp es k) where
  other : (k : KeyId) (x : ℕ) → k ≢ key → is_of_key fs k x ≡ is_of_key es k x
  other k x e = ap (λ o. is_among x (nodes_in o)) (others k e)

  pub all_stay : nodes_in (value_by key_cmp fs key) ≡ nodes_in (value_by key_cmp es key) → (k : KeyId) (x : ℕ) → is_of_key fs k x ≡ is_of_key es k x
  all_stay h k x = by_key id_order key (λ (k : KeyId). is_of_key fs k x ≡ is_of_key es k x) (ap (is_among x) h) (λ k e. other k x e) k

  pub node_added : (node : NodeId) → nodes_in (value_by key_cmp fs key) ≡ insert_key ((node_order.ghosts).cmp) (nodes_in (value_by key_cmp es key)) node
      → (k : KeyId) (x : ℕ) → is_of_key fs k x ≡ ((same_key key k && (node.0 == x)) || is_of_key es k x)
  node_added node h k x = by_key id_order key (λ (k : KeyId). is_of_key fs k x ≡ ((same_key key k && (node.0 == x)) || is_of_key es k x))
      (ap (is_among x) h ∙ added x node (nodes_in (value_by key_cmp es key)) ∙ ap (λ (b : Bool). (b && (node.0 == x)) || is_of_key es key x) (sym (same_self key)))
      (λ k e. other k x e ∙ ap (λ (b : Bool). (b && (node.0 == x)) || is_of_key es k x) (sym (same_other key k e)))
      k

  pub node_removed : (node : NodeId) → nodes_in (value_by key_cmp fs key) ≡ remove_key (is_at ((node_order.ghosts).cmp node)) (nodes_in (value_by key_cmp es key)) → is_of_key fs key node.0 ≡ false
      → (k : KeyId) (x : ℕ) → is_of_key fs k x ≡ (not (same_key key k && (node.0 == x)) && is_of_key es k x)
  node_removed node h gone k x = by_key id_order key (λ (k : KeyId). is_of_key fs k x ≡ (not (same_key key k && (node.0 == x)) && is_of_key es k x))
      (ap (is_among x) h ∙ removed x node (nodes_in (value_by key_cmp es key)) (sym (ap (is_among node.0) h) ∙ gone) ∙ ap (λ (b : Bool). not (b && (node.0 == x)) && is_of_key es key x) (sym (same_self key)))
      (λ k e. other k x e ∙ ap (λ (b : Bool). not (b && (node.0 == x)) && is_of_key es k x) (sym (same_other key k e)))
      k

-- ---- the keys of a chunk, one after the other

in_here : (c : ℕ) (has : ℕ → Bool) (k : KeyId) → k.chunk ≡ c → is_in c has k ≡ has k.number
in_here c has k e = rw (eq-eqb k.chunk c e) refl

in_other : (c : ℕ) (has : ℕ → Bool) (k : KeyId) → k.chunk ≢ c → is_in c has k ≡ false
in_other c has k ne = rw (ne_eqb k.chunk c ne) refl

-- the node is none of those of the keys that were gone through, and all else stays
pub record Forgetting {X : Type 0} (node c : ℕ) (old now : KeyId → ℕ → Bool) (all rest : List (ℕ × X)) : Type 0 where
  pub others : (k : KeyId) (x : ℕ) → x ≢ node → now k x ≡ old k x
  pub gone : (k : KeyId) → is_in c (λ n. is_some (value_in all n)) k ≡ true → value_in rest k.number ≡ None → now k node ≡ false
  pub stays : (k : KeyId) → is_in c (λ n. is_some (value_in all n)) k ≡ false → now k node ≡ old k node

pub forgetting_more : {X : Type 0} (node c : ℕ) (old now new : KeyId → ℕ → Bool) (all rest later : List (ℕ × X)) (key : ℕ) (v : X)
    → rest ≡ (key, v) ∷ later → value_in all key ≡ Some v → ((k : KeyId) (x : ℕ) → new k x ≡ (not (same_key (id c key) k && (node == x)) && now k x))
    → Forgetting node c old now all rest → Forgetting node c old new all later
forgetting_more node c old now new all rest later key v is at took s = record {
  others = λ k x ne. took k x ∙ ap (λ (b : Bool). not (same_key (id c key) k && b) && now k x) (ne_eqb node x (λ e. ne (sym e))) ∙ unasked (same_key (id c key) k) (now k x) ∙ s.others k x ne;
  gone = by_key id_order (id c key) (λ (k : KeyId). is_in c (λ n. is_some (value_in all n)) k ≡ true → value_in later k.number ≡ None → new k node ≡ false)
      (λ _ _. took (id c key) node ∙ (λ i. not (same_self (id c key) i && eq-eqb node node refl i) && now (id c key) node))
      (λ k ne there away. elim (cases_eq k.chunk c) [
        | inl e ↦ took k node ∙ lesser (same_key (id c key) k && (node == node)) (now k node) (s.gone k there (later_in key v rest later is k.number (λ h. ne (λ i. record { chunk = e i; number = h i })) ∙ away))
        | inr apart ↦ absurd (let out = in_other c (λ n. is_some (value_in all n)) k apart in cc)
      ]);
  stays = by_key id_order (id c key) (λ (k : KeyId). is_in c (λ n. is_some (value_in all n)) k ≡ false → new k node ≡ old k node)
      (λ away. absurd (let there = ap is_some at in let here = in_here c (λ n. is_some (value_in all n)) (id c key) refl in cc))
      (λ k ne away. took k node ∙ ap (λ (b : Bool). not (b && (node == node)) && now k node) (same_other (id c key) k ne) ∙ s.stays k away);
}
  where
    unasked : (b c : Bool) → (not (b && false) && c) ≡ c
    unasked true c = refl
    unasked false c = refl

    lesser : (b c : Bool) → c ≡ false → (not b && c) ≡ false
    lesser true c h = refl
    lesser false c h = h

-- ---- the chunks of a slot, one after the other

-- the same of the keys of the chunks below one
pub record ForgettingChunks (node : ℕ) (old now : KeyId → ℕ → Bool) (map : SlotMap) (count : ℕ) : Type 0 where
  pub others : (k : KeyId) (x : ℕ) → x ≢ node → now k x ≡ old k x
  pub gone : (k : KeyId) → has_place_for map k ≡ true → k.chunk < count → now k node ≡ false
  pub stays : (k : KeyId) → has_place_for map k ≡ false → now k node ≡ old k node

pub chunks_none : (node : ℕ) (old : KeyId → ℕ → Bool) (map : SlotMap) → ForgettingChunks node old old map 0
chunks_none node old map = record {
  others = λ k x ne. refl;
  gone = λ k there l. absurd (omega arith);
  stays = λ k h. refl;
}

pub chunks_more : (node : ℕ) (old now new : KeyId → ℕ → Bool) (map : SlotMap) (c : ℕ) (one : KeyMap)
    → ((n : ℕ) → has_place one n ≡ has_place_for map (id c n)) → ((k : KeyId) (x : ℕ) → x ≢ node → new k x ≡ now k x)
    → ((k : KeyId) → is_in c (has_place one) k ≡ true → new k node ≡ false) → ((k : KeyId) → is_in c (has_place one) k ≡ false → new k node ≡ now k node)
    → ForgettingChunks node old now map c → ForgettingChunks node old new map (c + 1)
chunks_more node old now new map c one places others gone stays s = record {
  others = λ k x ne. others k x ne ∙ s.others k x ne;
  gone = λ k there l. elim (cases_eq k.chunk c) [
    | inl e ↦ gone k (as_one k e ∙ there)
    | inr ne ↦ stays k (in_other c (has_place one) k ne) ∙ s.gone k there (omega arith)
  ];
  stays = λ k h. stays k (elim (cases_eq k.chunk c) [ inl e ↦ as_one k e ∙ h | inr ne ↦ in_other c (has_place one) k ne ]) ∙ s.stays k h;
}
  where
    as_one : (k : KeyId) → k.chunk ≡ c → is_in c (has_place one) k ≡ has_place_for map k
    as_one k e = in_here c (has_place one) k e ∙ places k.number ∙ ap (λ (d : ℕ). has_place_for map (id d k.number)) (sym e)

-- a key with a place is in one of the sixteen chunks
pub chunk_below : (map : SlotMap) (k : KeyId) (c : ℕ) → has_place_for map k ≡ true → 16 ≤ c → k.chunk < c
chunk_below map k c there l = elim (cases_lt k.chunk 16) [
  | inl low ↦ omega arith
  | inr high ↦ absurd (let none = no_chunk map k high in cc)
]
