-- What verified paths say.
use Rattle.std.specs.Prelude.{◌≡◌, ℕ, Bool, true, false, ◌&&◌, ◌||◌, ◌==◌, List, [], ◌∷◌}
use Rattle.std.specs.List.Sorted.{IsSorted}
use Rattle.std.specs.Ordering.{nat_cmp, ordering_then}
use Rattle.std.specs.declared.cmp.Ordering.{Ordering}
use Rattle.plan_text.specs.declared.step.Planned.{Planned}
use Rattle.plan_text.specs.Steps.{depends}
use Rattle.plan_order.specs.Paths.{is_path}
use Rattle.plan_order.specs.declared.facts.Ends.{Ends}

-- the path ends with b
abbrev pub ends_with : ℕ → List ℕ → Bool
ends_with b [] = false
ends_with b (x ∷ []) = x == b
ends_with b (x ∷ y ∷ rest) = ends_with b (y ∷ rest)

-- the path begins with a and ends with b
abbrev pub leads : ℕ → ℕ → List ℕ → Bool
leads a b [] = false
leads a b (x ∷ rest) = (x == a) && ends_with b (x ∷ rest)

-- whether one of the paths leads from a to b
abbrev pub some_leads : ℕ → ℕ → List (List ℕ) → Bool
some_leads a b [] = false
some_leads a b (path ∷ paths) = leads a b path || some_leads a b paths

-- whether these ends are among them
abbrev pub has_ends : ℕ → ℕ → List Ends → Bool
has_ends a b [] = false
has_ends a b (e ∷ es) = ((e.first == a) && (e.last == b)) || has_ends a b es

-- the order of the first steps, and where they are the same that of the last
abbrev pub by_ends : Ends → Ends → Ordering
by_ends x y = ordering_then (nat_cmp x.first y.first) (nat_cmp x.last y.last)

-- none comes before the one in front of it
abbrev pub AreSorted : List Ends → Type 0
AreSorted es = IsSorted by_ends es

-- the facts are paths of the plan
abbrev pub AreFactsOf : List Planned → List Ends → Type 0
AreFactsOf plan facts = (a b : ℕ) → has_ends a b facts ≡ true → (path : List ℕ) × (is_path plan path ≡ true) × (leads a b path ≡ true)

-- a is a direct dependency of b, or some path that was verified leads from a to b
abbrev pub is_ordered : List Planned → List Ends → ℕ → ℕ → Bool
is_ordered plan facts a b = depends plan a b || has_ends a b facts
