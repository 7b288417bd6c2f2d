-- Ordered maps whose keys are bytes, after a change at some bytes.
use Rattle.std.proofs.Common.{◌≡◌, ◌∙◌, ℕ, true, false, List, sym, Some}
use Rattle.std.specs.BTreeMap.{BTreeMap, UpdatesBy}
use Rattle.std.specs.Cmp.{eq_by_cmp_equiv}
use Rattle.std.specs.Cmp.Lexicographic.{slice_cmp, nat_list_cmp_total, nat_list_eq_equiv}
use Rattle.std.specs.Map.{KeepsOthers}
use Rattle.std.specs.Ordering.{is_eq, nat_cmp}
use Rattle.std.specs.Str.{bytes_eq}
use Rattle.std.specs.declared.vec.Vec.{Vec}
use Rattle.std.proofs.lemmas.Map.Text.{is_eq-slice_cmp}
use Rattle.std.proofs.lemmas.Slice.Eq.{bytes_eq-Decides}
use Rattle.ring_names.specs.AtBytes.{Puts}

pub same_bytes : (k : List ℕ) → bytes_eq k k ≡ true
same_bytes k = nat_list_eq_equiv.refl k

pub bytes_same : (j k : List ℕ) → bytes_eq j k ≡ true → j ≡ k
bytes_same j k h = (bytes_eq-Decides j k).0 h

pub other_bytes : (bs cs ks : List ℕ) → bytes_eq bs cs ≡ false → is_eq (slice_cmp nat_cmp bs ks) ≡ true → is_eq (slice_cmp nat_cmp cs ks) ≡ false
other_bytes bs cs ks n y =
    let met : bytes_eq bs ks ≡ true = sym (is_eq-slice_cmp bs ks) ∙ y in
    is_eq-slice_cmp cs ks ∙ nat_list_eq_equiv.symm cs ks ∙ sym (nat_list_eq_equiv.congr bs ks cs met) ∙ n

pub puts : {A X : Type 0} (bs : List ℕ) (m n : BTreeMap (Vec ℕ A) X) (x : X) → UpdatesBy (λ x y. slice_cmp nat_cmp x.items y.items) (λ k. slice_cmp nat_cmp bs k.items) m n (Some x) → Puts m n bs x
unfolding KeepsOthers
puts bs m n x h = record {
  here = h.1;
  others = λ k e. h.3 _ (λ x y. (eq_by_cmp_equiv nat_list_cmp_total).congr k x.items y.items) (λ key. other_bytes bs k key.items e);
}
