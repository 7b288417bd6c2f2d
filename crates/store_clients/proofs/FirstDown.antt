-- The refusal of the first of some nodes that is down.
use Rattle.std.proofs.Common.{◌≡◌, inl, inr, ◌∙◌, ℕ, ◌<◌, Bool, true, false, List, [], sym, ap}
use Rattle.std.specs.Prelude.{◌↔◌, Option, Some, None}
use Rattle.std.proofs.lemmas.Bool.{cases_Bool}
use Rattle.ring_names.specs.declared.ids.NodeId.{NodeId}
use Rattle.ring_names.specs.declared.refusal.Refusal.{Refusal}
use Rattle.ring_versions.specs.declared.version.Version.{Version}
use Rattle.plan_stage.specs.Clauses.{first_failing}
use Rattle.plan_runs.specs.Guards.{nodes_up}
use Rattle.store_clients.specs.Keepers.{IsFirstDown}
use Rattle.store_parts.proofs.LeastDown.{keepers_refused}

-- the first node that is down and has versions is the first of those that pass, where these have versions
pub first_down_is : (up test : ℕ → Bool) (held : ℕ → List Version) (n : ℕ) (o : Option Refusal) → ((x : ℕ) → (test x ≡ false) ↔ (held x ≡ []))
    → ((x : ℕ) → test x ≡ true → x < n) → IsFirstDown up held o → o ≡ first_failing (nodes_up up n test)
first_down_is up test held n None tells within down = sym (keepers_refused up n test None within (λ x t. elim (down x) [
  | inl none ↦ absurd (let f = (tells x).1 none in cc)
  | inr is ↦ is
]))
first_down_is up test held n (Some f) tells within down =
    let x : NodeId = record { 0 = down.0 } in
    let passes : test x.0 ≡ true = elim (cases_Bool (test x.0)) [ inl t ↦ t | inr t ↦ absurd (down.3 ((tells x.0).0 t)) ] in
    ap (λ (z : Refusal). Some z) down.1 ∙ sym (keepers_refused up n test (Some x) within (
      passes,
      down.2,
      λ y l t. elim (down.4 y l) [
        | inl none ↦ absurd (let g = (tells y).1 none in cc)
        | inr is ↦ is
      ],
    ))
