use Rattle.std.proofs.Common.{◌≡◌, ◌∙◌, ◌<◌, ℕ, true, List, [], length, get_or, map, sym, ap, subst, arith}
use Rattle.std.proofs.lemmas.List.{get_or-map}
use Rattle.ring_names.specs.Space.{is_space}
use Rattle.ring_space.specs.declared.found.Place.{Place}
use Rattle.ring_space.specs.Place.{place_of}
use Rattle.plan_runs.proofs.Places.{partition_within}
use Rattle.store_parts.proofs.keys.Keys.place.Goals as goal

-- what is kept for a key is where it lies
placed : (q n : ℕ) (ks : List (List ℕ)) (ps : List Place) (p : Place) → ps ≡ map (place_of q) ks → n < length ks → p ≡ get_or ps n p → p ≡ place_of q (get_or ks n [])
placed q n ks ps p e l i = i ∙ ap (λ xs. get_or xs n p) e ∙ get_or-map (place_of q) ks n [] p l

-- so it is a chunk of one of the partitions
within : (q n : ℕ) (ks : List (List ℕ)) (ps : List Place) (p : Place) → is_space q ≡ true → ps ≡ map (place_of q) ks → n < length ks → p ≡ get_or ps n p → (p.partition < q) × (p.chunk < 16)
within q n ks ps p space e l i = subst (λ (x : Place). (x.partition < q) × (x.chunk < 16)) (sym (placed q n ks ps p e l i)) (partition_within q (get_or ks n []) space, omega arith)

pub returns-clause-partition : goal.returns-clause-partition
returns-clause-partition c = rw (← c.self.view_is) (within _ _ _ _ _ c.self.invariant.space c.self.invariant.places (rw (← c.self.view_is) at c.requires) c.index.ensures).0

pub returns-clause-chunk : goal.returns-clause-chunk
returns-clause-chunk c = (within _ _ _ _ _ c.self.invariant.space c.self.invariant.places (rw (← c.self.view_is) at c.requires) c.index.ensures).1
