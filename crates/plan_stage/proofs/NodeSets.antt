-- A set of nodes, as lists of nodes by number.
use Rattle.std.proofs.Common.{◌≡◌, Bool, true, false, cond, List, [], ◌∷◌, refl, sym, ap, ◌∙◌}
use Rattle.std.specs.Prelude.{◌||◌, ◌==◌, nat_lt}
use Rattle.std.specs.List.{list_any}
use Rattle.std.specs.declared.cmp.Ordering.{Ordering}
use Rattle.std.specs.declared.cmp.Ordering.TheVariants.{Less, Equal, Greater}
use Rattle.std.specs.Ordering.{nat_cmp, match_ordering}
use Rattle.std.specs.Cmp.{unsigned_ties}
use Rattle.std.specs.BTreeMap.{is_at}
use Rattle.std.specs.BTreeSet.{insert_key}
use Rattle.std.specs.Set.{remove_key}
use Rattle.ring_names.specs.declared.ids.NodeId.{NodeId}
use Rattle.plan_stage.specs.Stage.{is_among, with_node, without_node}

-- the order of nodes by number
abbrev pub by_number : NodeId → NodeId → Ordering
by_number x y = nat_cmp x.0 y.0

pub is_among-any : (x : NodeId) (ks : List NodeId) → list_any (is_at (by_number x)) ks ≡ is_among x ks
is_among-any x [] = refl
is_among-any x (k ∷ ks) =
    ap (λ (b : Bool). b || list_any (is_at (by_number x)) ks) (sym (unsigned_ties x.0 k.0)) ∙ ap (λ (b : Bool). (x.0 == k.0) || b) (is_among-any x ks)

inserted : (b e : Bool) (x k : NodeId) (ks ls : List NodeId) → match_ordering (cond b Less (cond e Equal Greater)) (x ∷ k ∷ ks) (k ∷ ks) (k ∷ ls) ≡ cond b (x ∷ k ∷ ks) (cond e (k ∷ ks) (k ∷ ls))
inserted true e x k ks ls = refl
inserted false true x k ks ls = refl
inserted false false x k ks ls = refl

pub with_node-insert : (x : NodeId) (ks : List NodeId) → insert_key by_number ks x ≡ with_node x ks
with_node-insert x [] = refl
with_node-insert x (k ∷ ks) =
    inserted (nat_lt x.0 k.0) (x.0 == k.0) x k ks (insert_key by_number ks x) ∙ ap (λ (l : List NodeId). cond (nat_lt x.0 k.0) (x ∷ k ∷ ks) (cond (x.0 == k.0) (k ∷ ks) (k ∷ l))) (with_node-insert x ks)

removed : (b c : Bool) (k : NodeId) (ks ls : List NodeId) → c ≡ b → cond b ks (k ∷ ls) ≡ cond c ks (k ∷ ls)
removed true c k ks ls e = rw e refl
removed false c k ks ls e = rw e refl

pub without_node-remove : (x : NodeId) (ks : List NodeId) → remove_key (is_at (by_number x)) ks ≡ without_node x ks
without_node-remove x [] = refl
without_node-remove x (k ∷ ks) =
    removed (is_at (by_number x) k) (x.0 == k.0) k ks (remove_key (is_at (by_number x)) ks) (unsigned_ties x.0 k.0) ∙ ap (λ (l : List NodeId). cond (x.0 == k.0) ks (k ∷ l)) (without_node-remove x ks)
