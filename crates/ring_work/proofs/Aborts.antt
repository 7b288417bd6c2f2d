-- Copies that are open.
use Rattle.std.proofs.Common.{◌≡◌, ◌∙◌, ◌+◌, ℕ, Bool, true, false, cond, List, [], ◌∷◌, ◌++◌, sym, ap, append-nil}
use Rattle.std.specs.List.{filter, range_with_len}
use Rattle.std.proofs.lemmas.List.{map-id}
use Rattle.std.proofs.lemmas.List.FromFn.{filter_of_map_range_with_len_more}
use Rattle.ring_names.proofs.Logic.{zero_plus}
use Rattle.plan_runs.specs.declared.event.Entry.{Entry}
use Rattle.ring_work.specs.Resumed.{is_open, open_copies}

-- of a step more
copies_more : (steps : ℕ) (entries : List Entry) → open_copies (steps + 1) entries ≡ open_copies steps entries ++ cond (is_open steps entries false) (steps ∷ []) []
copies_more steps entries =
    let p = λ (n : ℕ). is_open n entries false in
    ap (λ (xs : List ℕ). filter p xs) (sym (map-id (range_with_len 0 (steps + 1))))
    ∙ filter_of_map_range_with_len_more p (λ (n : ℕ). n) 0 steps steps (zero_plus steps)
    ∙ ap (λ (xs : List ℕ). filter p xs ++ cond (p steps) (steps ∷ []) []) (map-id (range_with_len 0 steps))

copies_by : (steps : ℕ) (entries : List Entry) (is : Bool) → is_open steps entries false ≡ is → open_copies (steps + 1) entries ≡ open_copies steps entries ++ cond is (steps ∷ []) []
copies_by steps entries is same = copies_more steps entries ∙ ap (λ (b : Bool). open_copies steps entries ++ cond b (steps ∷ []) []) same

-- which is open
pub copies_with : (copies more : List ℕ) (step : ℕ) (entries : List Entry) → is_open step entries false ≡ true → copies ≡ open_copies step entries → more ≡ copies ++ step ∷ []
    → more ≡ open_copies (step + 1) entries
copies_with copies more step entries same are joined = joined ∙ ap (λ (xs : List ℕ). xs ++ step ∷ []) are ∙ sym (copies_by step entries true same)

-- which is not
pub copies_without : (copies : List ℕ) (step : ℕ) (entries : List Entry) → is_open step entries false ≡ false → copies ≡ open_copies step entries → copies ≡ open_copies (step + 1) entries
copies_without copies step entries closed are = are ∙ sym (append-nil (open_copies step entries)) ∙ sym (copies_by step entries false closed)
