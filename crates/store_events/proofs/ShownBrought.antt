-- Versions by node, slot and key that show what an event brings.
use Rattle.std.proofs.Common.{◌≡◌, inl, inr, ◌∙◌, ℕ, Bool, true, false, not, cond, List, [], ◌∷◌, refl, sym, ap, subst, eqb-true}
use Rattle.std.specs.Prelude.{◌&&◌, ◌||◌, ◌==◌, Option, Some, None}
use Rattle.std.specs.Str.{bytes_eq}
use Rattle.std.proofs.lemmas.Bool.{and_parts, or_cases}
use Rattle.ring_names.specs.declared.ids.NodeId.{NodeId}
use Rattle.ring_names.specs.declared.ids.Slot.{Slot}
use Rattle.ring_names.proofs.Logic.{eqb_turned}
use Rattle.ring_clock.specs.declared.entry.Entry.{Entry}
use Rattle.ring_versions.specs.declared.version.Version.{Version}
use Rattle.plan_text.specs.Steps.{is_slot}
use Rattle.plan_runs.specs.World.{World, is_of_key, key_of_put}
use Rattle.plan_runs.specs.Effects.{without_puts}
use Rattle.store_parts.specs.Numbers.{at_bytes}
use Rattle.ring_store.specs.Nodes.{at_nodes, at_node}
use Rattle.ring_store.specs.Slots.{at_slot}
use Rattle.ring_hints.specs.Views.{is_of, pair_of}
use Rattle.store_parts.specs.Shows.{Shows, value_of}
use Rattle.store_parts.specs.Stored.{ShowAll, at_mirror}
use Rattle.store_parts.specs.Stored as stored
use Rattle.store_parts.proofs.ShownSets.{none, one, other_test}

-- ---- one put

-- the version of the put at its key
module _ (w : World) (clock : ℕ → List Entry) (v : ℕ) (x : Version) (key : List ℕ) (of : key_of_put w v ≡ key) (put : x.put ≡ v) (is : x.clock ≡ clock v) (worth : x.value ≡ value_of w v) where
  pub put_shows : (k : List ℕ) → Shows clock (value_of w) (at_bytes key (x ∷ []) k) (λ u. (u == v) && is_of_key w k u)
  put_shows k = by (bytes_eq key k) refl
    where
      same_key : (u : ℕ) (b c : Bool) → (u == v) ≡ c → bytes_eq key k ≡ b → (c && b) ≡ (c && is_of_key w k u)
      same_key u b false t e = refl
      same_key u b true t e = sym e ∙ ap (λ (bs : List ℕ). bytes_eq bs k) (sym of ∙ ap (λ (n : ℕ). key_of_put w n) (sym (eqb-true u v t)))

      with_true : (b : Bool) → b ≡ (b && true)
      with_true true = refl
      with_true false = refl

      with_false : (b : Bool) → false ≡ (b && false)
      with_false true = refl
      with_false false = refl

      by : (b : Bool) → bytes_eq key k ≡ b → Shows clock (value_of w) (cond b (x ∷ []) []) (λ u. (u == v) && is_of_key w k u)
      by true e = other_test clock (value_of w) (x ∷ []) (λ u. u == x.put) (λ u. (u == v) && is_of_key w k u)
          (λ u. ap (λ (n : ℕ). u == n) put ∙ with_true (u == v) ∙ same_key u true (u == v) refl e) (one clock (value_of w) x (is ∙ ap clock (sym put)) (worth ∙ ap (value_of w) (sym put)))
      by false e = other_test clock (value_of w) [] (λ u. false) (λ u. (u == v) && is_of_key w k u) (λ u. with_false (u == v) ∙ same_key u false (u == v) refl e) (none clock (value_of w))

-- ---- at the nodes of a slot

module _ (clock : ℕ → List Entry) (value : ℕ → List ℕ) (vs : List Version) (more of : ℕ → Bool) (shows : Shows clock value vs (λ v. more v && of v)) where
  nothing : (test : ℕ → Bool) → ((v : ℕ) → test v ≡ false) → Shows clock value [] test
  nothing test h = other_test clock value [] (λ v. false) test (λ v. sym (h v)) (none clock value)

  at_one : (p s : Bool) → Shows clock value (cond p (cond s vs []) []) (λ v. (p && s && more v) && of v)
  at_one true true = shows
  at_one true false = nothing (λ v. (true && false && more v) && of v) (λ v. refl)
  at_one false s = nothing (λ v. (false && s && more v) && of v) (λ v. refl)

  twice : (a b : Bool) → (a && b) ≡ ((a || a) && b)
  twice true b = refl
  twice false b = refl

  or_none : (a b : Bool) → (a && b) ≡ ((a || false) && b)
  or_none true b = refl
  or_none false b = refl

  at_two : (p q s : Bool) → Shows clock value (cond (p || q) (cond s vs []) []) (λ v. ((q && s && more v) || (p && s && more v)) && of v)
  at_two true true true = other_test clock value vs (λ v. more v && of v) (λ v. (more v || more v) && of v) (λ v. twice (more v) (of v)) shows
  at_two true true false = nothing (λ v. ((true && false && more v) || (true && false && more v)) && of v) (λ v. refl)
  at_two true false true = shows
  at_two true false false = nothing (λ v. ((false && false && more v) || (true && false && more v)) && of v) (λ v. refl)
  at_two false true true = other_test clock value vs (λ v. more v && of v) (λ v. (more v || false) && of v) (λ v. or_none (more v) (of v)) shows
  at_two false true false = nothing (λ v. ((true && false && more v) || (false && false && more v)) && of v) (λ v. refl)
  at_two false false s = nothing (λ v. ((false && s && more v) || (false && s && more v)) && of v) (λ v. refl)

-- versions of a slot's keys at its owner and its mirror show the puts that they show there
pub served_shows : (w : World) (clock : ℕ → List Entry) (owner : NodeId) (mirror : Option NodeId) (slot : Slot) (versions : List ℕ → List Version) (more : ℕ → Bool)
    → ((k : List ℕ) → Shows clock (value_of w) (versions k) (λ v. more v && is_of_key w k v))
    → ShowAll w clock (at_nodes owner mirror (at_slot slot versions)) (λ y t v. at_mirror mirror slot more y t v || stored.at_node owner slot more y t v)
served_shows w clock owner None slot versions more shows y t k = at_one clock (value_of w) (versions k) more (λ v. is_of_key w k v) (shows k) (y == owner.0) (is_slot slot t)
served_shows w clock owner (Some mirror) slot versions more shows y t k = at_two clock (value_of w) (versions k) more (λ v. is_of_key w k v) (shows k) (y == owner.0) (y == mirror.0) (is_slot slot t)

-- those at one node show them there
pub node_shows : (w : World) (clock : ℕ → List Entry) (node : NodeId) (slot : Slot) (versions : List ℕ → List Version) (more : ℕ → Bool)
    → ((k : List ℕ) → Shows clock (value_of w) (versions k) (λ v. more v && is_of_key w k v)) → ShowAll w clock (at_node node.0 (at_slot slot versions)) (stored.at_node node slot more)
node_shows w clock node slot versions more shows y t k = at_one clock (value_of w) (versions k) more (λ v. is_of_key w k v) (shows k) (y == node.0) (is_slot slot t)

-- ---- what a node keeps for a slot

kept_cond : (p q s : Bool) (vs : List Version) → p ≡ q → cond (p && s) vs [] ≡ cond q (cond s vs []) []
kept_cond true true s vs e = refl
kept_cond true false s vs e = absurd cc
kept_cond false true s vs e = absurd cc
kept_cond false false s vs e = refl

pub pair_shows : (w : World) (clock : ℕ → List Entry) (node : NodeId) (slot : Slot) (versions : List ℕ → List Version) (more : ℕ → Bool)
    → ((k : List ℕ) → Shows clock (value_of w) (versions k) (λ v. more v && is_of_key w k v)) → ShowAll w clock (λ y t k. cond (is_of (pair_of node.0 slot) y t) (versions k) []) (stored.at_node node slot more)
pair_shows w clock node slot versions more shows y t k =
    subst (λ (vs : List Version). Shows clock (value_of w) vs (λ v. stored.at_node node slot more y t v && is_of_key w k v)) (sym (kept_cond (node.0 == y) (y == node.0) (is_slot slot t) (versions k) (eqb_turned node.0 y)))
    (node_shows w clock node slot versions more shows y t k)

-- where all that the node kept for the slot is gone, the rest shows the rest
pub rest_shows : (w : World) (clock : ℕ → List Entry) (node : NodeId) (slot : Slot) (held new : ℕ → Slot → List ℕ → List Version) (test : ℕ → Slot → ℕ → Bool)
    → ((y : ℕ) (t : Slot) (k : List ℕ) → new y t k ≡ cond (is_of (pair_of node.0 slot) y t) [] (held y t k)) → ShowAll w clock held test → ShowAll w clock new (without_puts test node slot)
rest_shows w clock node slot held new test gone shows y t k =
    subst (λ (vs : List Version). Shows clock (value_of w) vs (λ v. without_puts test node slot y t v && is_of_key w k v)) (sym (gone y t k))
    (by (node.0 == y) (y == node.0) (is_slot slot t) (eqb_turned node.0 y))
  where
    by : (p q s : Bool) → p ≡ q → Shows clock (value_of w) (cond (p && s) [] (held y t k)) (λ v. (not (q && s) && test y t v) && is_of_key w k v)
    by true true true e = none clock (value_of w)
    by true true false e = shows y t k
    by true false s e = absurd cc
    by false true s e = absurd cc
    by false false s e = shows y t k

-- ---- which puts come

-- what comes to a node is some of what may come
pub node_come : (node : NodeId) (slot : Slot) (more : ℕ → Bool) (y : ℕ) (t : Slot) (v : ℕ) → stored.at_node node slot more y t v ≡ true → more v ≡ true
node_come node slot more y t v h = (and_parts ((y == node.0) && is_slot slot t) (more v) h).1

-- what comes to a slot's owner and mirror is some of what may come
pub served_come : (owner : NodeId) (mirror : Option NodeId) (slot : Slot) (more : ℕ → Bool) (y : ℕ) (t : Slot) (v : ℕ)
    → (at_mirror mirror slot more y t v || stored.at_node owner slot more y t v) ≡ true → more v ≡ true
served_come owner None slot more y t v h = node_come owner slot more y t v h
served_come owner (Some mirror) slot more y t v h = elim (or_cases (stored.at_node mirror slot more y t v) (stored.at_node owner slot more y t v) h) [
  | inl a ↦ node_come mirror slot more y t v a
  | inr b ↦ node_come owner slot more y t v b
]
