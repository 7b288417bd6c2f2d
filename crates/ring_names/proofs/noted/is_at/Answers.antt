use Rattle.std.proofs.Common.{◌≡◌, ℕ, List, Some, None, sym, ap, ◌∙◌}
use Rattle.ring_names.proofs.AtBytes.{bytes_same, same_bytes}
use Rattle.ring_names.proofs.noted.is_at.Goals as goal

pub returns-in-Some-clause-yes : goal.returns-in-Some-clause-yes
returns-in-Some-clause-yes c = λ h. sym c.in-Some.ensures ∙ ap (λ (x : List ℕ). Some x) (bytes_same c.in-Some.known.now c.args.bytes.now (sym c.eq.ensures ∙ h))

pub returns-in-Some-clause-no : goal.returns-in-Some-clause-no
returns-in-Some-clause-no c = λ h.
    let is : Some c.in-Some.known.now ≡ Some c.args.bytes.now = c.in-Some.ensures ∙ h in
    let same : c.in-Some.known.now ≡ c.args.bytes.now = cc in
    rw (c.eq.ensures, same) (same_bytes c.args.bytes.now)

pub returns-in-None-clause-no : goal.returns-in-None-clause-no
returns-in-None-clause-no c = λ h.
    let is : None ≡ Some c.args.bytes.now = c.in-None.ensures ∙ h in
    absurd cc
