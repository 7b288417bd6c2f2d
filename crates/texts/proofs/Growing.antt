-- What is written grows word by word.
use Rattle.std.proofs.Common.{◌≡◌, ◌∙◌, ℕ, List, [], ◌++◌, refl, sym, ap}
use Rattle.std.specs.Prelude.{Option, Some, None}
use Rattle.std.proofs.lemmas.List.{append-nil, append_assoc}
use Rattle.texts.specs.Writing.{GoesOn}

-- what nothing was added to has grown by nothing
pub stays : (a : Option (List ℕ)) → GoesOn a a []
stays None = tt
stays (Some xs) = sym (append-nil xs)

-- one part more
pub one_more : (a b c : Option (List ℕ)) (x y : List ℕ) → GoesOn a b x → GoesOn b c y → GoesOn a c (x ++ y)
one_more a b None x y f g = tt
one_more a None (Some zs) x y f g = absurd g
one_more None (Some ys) (Some zs) x y f g = absurd f
one_more (Some xs) (Some ys) (Some zs) x y f g = g ∙ ap (λ v. v ++ y) f ∙ append_assoc xs x y

-- what was refused stays refused
pub still : (a b : Option (List ℕ)) (x : List ℕ) → GoesOn a b x → a ≡ None → b ≡ None
still a None x f e = refl
still None (Some ys) x f e = absurd f
still (Some xs) (Some ys) x f e = absurd cc
