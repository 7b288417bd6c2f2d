use Rattle.std.proofs.Common.{◌≡◌, ◌∙◌, ◌∷◌, ◌++◌, [], ℕ, ◌<◌, Bool, true, false, List, length, get_or, Result, Ok, Err, refl, rules, sym, subst}
use Rattle.std.specs.Prelude.{IfOk, OnErr, max}
use Rattle.std.proofs.Math.ListN.{set}
use Rattle.std.proofs.lemmas.List.{set-get_or}
use Rattle.std.proofs.lemmas.Result.{IfOk-weaker}
use Rattle.ring_clock.specs.declared.entry.Entry.{Entry}
use Rattle.ring_clock.specs.Clock.{counter}
use Rattle.ring_versions.specs.declared.version.Version.{Version}
use Rattle.ring_versions.specs.Chunks.{all_of}
use Rattle.ring_versions.specs.Parts.{IsReordered}
use Rattle.ring_versions.specs.Raised.{RaisesTo, IsClockIn}
use Rattle.ring_versions.specs.Versions.{IsApart, IsBeside, IsMerge}
use Rattle.ring_versions.proofs.Merging.{merge_one}
use Rattle.ring_versions.proofs.Raised.{join_more}
use Rattle.ring_versions.proofs.Reordered.{put_at}
use Rattle.ring_versions.proofs.whole.Whole.add.Goals as goal

-- one chunk that is changed
module _ (chunks : List (List Version)) (place : ℕ) (chunk more : List Version) (x : Version) (few : place < length chunks) (at : chunk ≡ get_or chunks place chunk) where
  put : more ≡ chunk ++ x ∷ [] → IsReordered (all_of chunks ++ x ∷ []) (all_of (set chunks place more))
  put is =
      subst (λ (c : List Version). IsReordered (all_of chunks ++ x ∷ []) (all_of (set chunks place c))) (sym is)
      (subst (λ (c : List Version). IsReordered (all_of chunks ++ x ∷ []) (all_of (set chunks place (c ++ x ∷ [])))) (sym at) (put_at chunks place chunk x few))

  module _ (c d : List Entry) (join : RaisesTo [] (IsClockIn (all_of chunks)) c) where
    stays : (more ≡ chunk) × (d ≡ c) → RaisesTo [] (IsClockIn (all_of (set chunks place more))) d
    stays same =
        subst (λ (e : List Entry). RaisesTo [] (IsClockIn (all_of (set chunks place more))) e) (sym same.1)
        (subst (λ (v : List Version). RaisesTo [] (IsClockIn (all_of (set chunks place v))) c) (sym (same.0 ∙ at))
        (subst (λ (cs : List (List Version)). RaisesTo [] (IsClockIn (all_of cs)) c) (sym (set-get_or chunks place chunk)) join))

    stands : {E : Type 0} (r : Result Bool E) → IfOk r (λ done. done ≡ true → more ≡ chunk ++ x ∷ []) → IfOk r (λ done. done ≡ true → (w : ℕ) → counter d w ≡ max (counter c w) (counter x.clock w)) → IfOk r (λ done. done ≡ false → (more ≡ chunk) × (d ≡ c)) → OnErr r ((more ≡ chunk) × (d ≡ c))
        → RaisesTo [] (IsClockIn (all_of (set chunks place more))) d
    stands (Ok true) added raised same err = join_more c d (all_of chunks) (all_of (set chunks place more)) x (put (added refl)) join (raised refl)
    stands (Ok false) added raised same err = stays (same refl)
    stands (Err e) added raised same err = stays err

pub invariant_of-self : goal.invariant_of-self
invariant_of-self c =
    let few = subst (λ (cs : List (List Version)). c.in-Some.place < length cs) c.as_slice.ensures.value c.in-Some.ensures in
    stands c.self.inside.chunks.items c.in-Some.place c.index_mut.result.now c.add.new.self c.args.version.now few c.index_mut.ensures.value c.self.inside.join c.add.new.join c.self.invariant
    c.add.result c.add.ensures.added c.add.ensures.raised c.add.ensures.same c.add.ensures.err

pub returns-in-Some-clause-added : goal.returns-in-Some-clause-added
returns-in-Some-clause-added c = IfOk-weaker c.add.result _ _ (λ done added yes.
    let was = c.self.inside.chunks.items in
    let x = c.args.version.now in
    let made = all_of (set was c.in-Some.place c.add.new.self) in
    let few = subst (λ (cs : List (List Version)). c.in-Some.place < length cs) c.as_slice.ensures.value c.in-Some.ensures in
    let order = put was c.in-Some.place c.index_mut.result.now c.add.new.self x few c.index_mut.ensures.value (added yes) in
    subst (λ (vs : List Version). IsMerge vs (x ∷ []) made) c.self.view_is
    (merge_one (all_of was) made x (subst IsApart (sym c.self.view_is) c.requires) (subst (λ (vs : List Version). IsBeside vs x.clock) (sym c.self.view_is) (c.is_beside.ensures (search rules))) order)) c.add.ensures.added
