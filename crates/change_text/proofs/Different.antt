-- Nodes of which each differs from those before it are all different, and the other way round.
use Rattle.std.proofs.Common.{◌≡◌, ℕ, true, false, List, [], ◌∷◌, ◌++◌, map, sym, ap, ◌∙◌, append_assoc}
use Rattle.std.proofs.lemmas.List.{append-nil, map_push, map-append}
use Rattle.ring_table.proofs.Terms.{has, all_different, NodeId}
use Rattle.ring_names.proofs.InLists.{different_more, different_apart}
use Rattle.texts.specs.Laws.{EachNext}

-- the numbers of nodes
abbrev pub numbers : List NodeId → List ℕ
numbers xs = map (λ y. y.0) xs

-- each is new where it stands
pub different-next : (P : List NodeId → NodeId → Type 0) → ((seen : List NodeId) (x : NodeId) → P seen x → has x.0 (numbers seen) ≡ false)
    → (seen xs : List NodeId) → all_different (numbers seen) ≡ true → EachNext P seen xs → all_different (numbers (seen ++ xs)) ≡ true
different-next P new seen [] e next = ap (λ (l : List NodeId). all_different (numbers l)) (append-nil seen) ∙ e
different-next P new seen (x ∷ xs) e next =
    let more : all_different (numbers (seen ++ x ∷ [])) ≡ true = ap all_different (map_push (λ (y : NodeId). y.0) seen x) ∙ different_more (numbers seen) x.0 e (new seen x next.0) in
    ap (λ (l : List NodeId). all_different (numbers l)) (sym (append_assoc seen (x ∷ []) xs)) ∙ different-next P new (seen ++ x ∷ []) xs more next.1

-- a node in a list of different nodes is new after the nodes before it
pub new-there : (seen : List NodeId) (x : NodeId) (xs : List NodeId) → all_different (numbers (seen ++ x ∷ xs)) ≡ true → has x.0 (numbers seen) ≡ false
new-there seen x xs e = different_apart (numbers seen) x.0 (numbers xs) (ap all_different (sym (map-append (λ (y : NodeId). y.0) seen (x ∷ xs))) ∙ e)
