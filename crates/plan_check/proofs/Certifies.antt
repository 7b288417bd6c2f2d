-- What a certificate proves in order is before.
use Rattle.std.proofs.Common.{◌≡◌, inl, inr, ℕ, Bool, true, List, [], ◌∷◌, Option, Some, None}
use Rattle.std.specs.List.{list_all}
use Rattle.std.proofs.lemmas.Bool.{and_parts, or_cases}
use Rattle.ring_names.specs.declared.ids.NodeId.{NodeId}
use Rattle.ring_table.specs.declared.allowance.Side.{Side}
use Rattle.ring_table.specs.Value.{RingValue}
use Rattle.plan_text.specs.declared.step.Planned.{Planned}
use Rattle.plan_text.specs.Steps.{depends}
use Rattle.plan_order.specs.Before.{Before, direct}
use Rattle.plan_order.specs.Paths.{is_path}
use Rattle.plan_order.specs.Facts.{leads, some_leads, has_ends, is_ordered, AreFactsOf}
use Rattle.plan_order.specs.declared.facts.Ends.{Ends}
use Rattle.plan_order.proofs.Reaching.{path_before}
use Rattle.plan_cert.specs.declared.cert.Cert.{Cert}
use Rattle.plan_check.specs.Sound.{Order, EndsBefore, IsChain, AreChains, Covers, is_party_of, AreInTurn, AreSettled, HaveLeft, JoinsBefore, ServeAsMembers, AreCovered, Meets, Sound}
use Rattle.plan_check.specs.Certified.{ordered_by, IsCertified}
use Rattle.plan_cover.specs.Clauses.{chains_from}

paths_before : (plan : List Planned) (a b : ℕ) (paths : List (List ℕ)) → list_all (is_path plan) paths ≡ true → some_leads a b paths ≡ true → Before plan a b
paths_before plan a b [] all h = absurd cc
paths_before plan a b (p ∷ ps) all h =
    let each = and_parts (is_path plan p) (list_all (is_path plan) ps) all in
    elim (or_cases (leads a b p) (some_leads a b ps) h) [
      | inl this ↦ path_before plan a b p each.0 this
      | inr later ↦ paths_before plan a b ps each.1 later
    ]

ordered_before : (plan : List Planned) (cert : Cert) (a b : ℕ) → list_all (is_path plan) cert.facts ≡ true → ordered_by plan cert a b ≡ true → Before plan a b
ordered_before plan cert a b all h = elim (or_cases (depends plan a b) (some_leads a b cert.facts) h) [
  | inl d ↦ direct a b d
  | inr f ↦ paths_before plan a b cert.facts all f
]

-- ---- what is met by one order is met by a wider one

module _ (O W : Order) (wider : (a b : ℕ) → O a b → W a b) where
  ends : (o : Option ℕ) (t : ℕ) → EndsBefore O o t → EndsBefore W o t
  ends None t h = h
  ends (Some e) t h = wider e t h

  chain : (c : List ℕ) → IsChain O c → IsChain W c
  chain [] h = tt
  chain (a ∷ []) h = tt
  chain (a ∷ b ∷ rest) h = (wider a b h.0, chain (b ∷ rest) h.1)

  chains_are : (cs : List (List ℕ)) → AreChains O cs → AreChains W cs
  chains_are [] h = tt
  chains_are (c ∷ cs) h = (chain c h.0, chains_are cs h.1)

  covers_are : (most : ℕ) (is_one : ℕ → Bool) (cs : List (List ℕ)) → Covers O most is_one cs → Covers W most is_one cs
  covers_are most is_one cs c = record { few = c.few; linked = chains_are cs c.linked; covered = c.covered }

  joins : (ring : RingValue) (plan : List Planned) (t : ℕ) (x : NodeId) → JoinsBefore ring plan O t x → JoinsBefore ring plan W t x
  joins ring plan t x h out = (let r = h out in (r.0, r.1, wider r.0 t r.2))

  module _ (ring : RingValue) (plan : List Planned) where
    pub turn_wider : AreInTurn ring plan O → AreInTurn ring plan W
    turn_wider m = record { suits = m.suits; staged = m.staged; in_order = λ slot k h. wider _ _ (m.in_order slot k h) }

    pub settled_wider : AreSettled plan O → AreSettled plan W
    settled_wider m n k j slot from h here s = elim (m n k j slot from h here s) [ inl x ↦ inl (wider k n x) | inr x ↦ inr (wider n k x) ]

    pub left_wider : HaveLeft ring plan O → HaveLeft ring plan W
    left_wider m = record {
      first = λ t j slot x h apart o. ends _ t (m.first t j slot x h apart o);
      later = λ t b j slot x h apart l s. ends _ t (m.later t b j slot x h apart l s);
    }

    pub members_wider : ServeAsMembers ring plan O → ServeAsMembers ring plan W
    members_wider m = record {
      joined = λ t slot x h. joins ring plan t x (m.joined t slot x h);
      dropped_first = λ t slot x h o. ends _ t (m.dropped_first t slot x h o);
      dropped_later = λ t b slot x h s. ends _ t (m.dropped_later t b slot x h s);
    }

    pub covered_wider : (chains : ℕ → Side → List (List ℕ)) → AreCovered ring plan O chains → AreCovered ring plan W chains
    covered_wider chains m x side a e = covers_are a (is_party_of ring plan x side) (chains x side) (m x side a e)

    pub meets_wider : (chains : ℕ → Side → List (List ℕ)) → Meets ring plan O chains → Meets ring plan W chains
    meets_wider chains m = record {
      in_turn = turn_wider m.in_turn;
      sources = m.sources;
      settled = settled_wider m.settled;
      left = left_wider m.left;
      members = members_wider m.members;
      retired = λ t x h. joins ring plan t x (m.retired t x h);
      covers = covered_wider chains m.covers;
    }

pub certified-sound : (ring : RingValue) (plan : List Planned) (cert : Cert) → IsCertified ring plan cert → Sound ring plan
certified-sound ring plan cert c =
    (λ x side. chains_from x side cert.chains, meets_wider (λ a b. ordered_by plan cert a b ≡ true) (Before plan) (λ a b h. ordered_before plan cert a b c.facts h) ring plan (λ x side. chains_from x side cert.chains) c.meets)

-- ---- what facts say is before

pub facts_before : (plan : List Planned) (facts : List Ends) → AreFactsOf plan facts → (a b : ℕ) → is_ordered plan facts a b ≡ true → Before plan a b
facts_before plan facts are a b h = elim (or_cases (depends plan a b) (has_ends a b facts) h) [
  | inl d ↦ direct a b d
  | inr f ↦ (let p = are a b f in path_before plan a b p.0 p.1 p.2)
]
