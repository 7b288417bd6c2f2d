-- What is said of the promises that a refused plan keeps.
use Rattle.std.specs.Prelude.{◌≡◌, ℕ, Bool, ◌||◌, List, [], ◌∷◌, ◌++◌, None, codes, if◌then◌else◌}
use Rattle.ring_table.specs.Value.{RingValue}
use Rattle.plan_text.specs.declared.step.Planned.{Planned}
use Rattle.plan_cert.specs.declared.cert.Cert.{Cert}
use Rattle.plan_order.specs.Paths.{first_bad}
use Rattle.plan_check.specs.declared.kept.Kept.{Kept}
use Rattle.plan_check.specs.Kept.{KeepsWhatIsSaid}

-- a line of a promise, if it is kept
abbrev pub promise_line : Bool → List ℕ → List ℕ
promise_line is_kept text = if is_kept then codes "  " ++ text ++ 10 ∷ [] else []

-- the lines of the promises that are kept
abbrev pub promise_lines : Kept → List ℕ
promise_lines k = promise_line k.held (codes "no acknowledged put is lost") ++ promise_line k.apart (codes "no two slots of a partition share a node")
    ++ promise_line k.few (codes "no node has more transfers open than its allowance") ++ promise_line k.members (codes "each slot's owner and mirror are members")

-- a heading, these lines or that there are none, and an empty line
abbrev pub kept_lines : Kept → List ℕ
kept_lines k = codes "kept in every run:" ++ 10 ∷ []
    ++ (if k.held || k.apart || k.few || k.members then promise_lines k else codes "  no promise is shown to be kept" ++ 10 ∷ []) ++ 10 ∷ []

-- if the certificate's facts are paths, these are the lines of promises that the plan keeps
abbrev pub SaysKept : RingValue → List Planned → Cert → List ℕ → Type 0
SaysKept ring plan cert lines = first_bad plan 0 cert.facts ≡ None → (said : Kept) × KeepsWhatIsSaid ring plan said × (lines ≡ kept_lines said)
