use Rattle.std.proofs.Common.{◌≡◌, ℕ, List, [], ◌∷◌, ◌++◌, map, codes, sym, ap, ◌∙◌, append_assoc}
use Rattle.std.specs.List.{join_with_byte, flat_map}
use Rattle.std.proofs.lemmas.List.{append-nil}
use Rattle.std.proofs.lemmas.List.Concat.{flat_map-cons}
use Rattle.std.specs.Fmt.{decimal}
use Rattle.ring_names.specs.declared.ids.NodeId.{NodeId}
use Rattle.ring_table.proofs.writing.push_row.Goals as goal

join-names : (f : NodeId → List ℕ) (x : List ℕ) (xs : List NodeId) → join_with_byte 32 (x ∷ map f xs) ≡ x ++ flat_map (λ y. 32 ∷ f y) xs
join-names f x [] = sym (append-nil x)
join-names f x (y ∷ ys) = ap (λ (r : List ℕ). x ++ 32 ∷ r) (join-names f (f y) ys) ∙ ap (λ (r : List ℕ). x ++ r) (sym (flat_map-cons (λ z. 32 ∷ f z) y ys))

row-text : (out a b c d slots number : List ℕ) (f : NodeId → List ℕ) (row : List NodeId) → a ≡ out ++ slots → b ≡ a ++ number
    → c ≡ b ++ flat_map (λ y. 32 ∷ f y) row → d ≡ c ++ 10 ∷ [] → d ≡ out ++ (slots ++ (join_with_byte 32 (number ∷ map f row) ++ 10 ∷ []))
row-text out a b c d slots number f row ea eb ec ed = ed ∙ rw (ec, eb, ea, join-names f number row) (simp append_assoc)

pub returns : goal.returns
returns c = row-text c.args.out.now.items c.extend_from_slice.new.self.items c.push_decimal.new.out.items c.push_owners.new.out.items c.push.new.self.items (codes "slots ") (decimal c.args.partition) _ c.args.row.now
    c.in_ok-extend_from_slice.ensures.items c.in_ok-push_decimal.ensures.ok c.in_ok-push_owners.ensures c.in_ok-push.ensures.items
