-- What is answered at the end of a history.
use Rattle.std.proofs.Common.{◌≡◌, ◌≢◌, ℕ, true, false, eqb-true, List, [], ◌∷◌, ◌++◌, length, Ok, Err, refl, sym, ap, ◌∙◌, append-nil, arith}
use Rattle.std.specs.Prelude.{codes, IfOk, Result}
use Rattle.std.specs.Global.{Vec}
use Rattle.ring_names.specs.declared.refusal.Refusal.{Refusal}
use Rattle.ring_names.specs.declared.refusal.Refusal.TheVariants.{BadLine}
use Rattle.texts.specs.Parts.{lines_of}
use Rattle.texts.specs.Left.{next_number}
use Rattle.ring_table.specs.Value.{RingValue}
use Rattle.plan_text.specs.declared.step.Planned.{Planned}
use Rattle.plan_runs.specs.World.{World as TheWorld}
use Rattle.history_text.specs.Said.{SaidEntry}
use Rattle.history_text.specs.declared.reader.Stage.{Stage}
use Rattle.history_text.specs.declared.reader.Stage.TheVariants.{First, Entries, Over}
use Rattle.history_text.specs.StreamReading.{read_from, resume_at}
use Rattle.history_text.specs.State.{IsRun as HasNoEnd, point_of}
use Rattle.history_text.proofs.Pieces.{end_entries, end_first, end_over}
use Rattle.history_text.proofs.Resumes.{end_is, end_step}
use Rattle.ring_core.specs.World.{ring_of, plan_of, Meets}
use Rattle.ring_script.specs.Replay.{ending_text}
use Rattle.history_watch.specs.declared.watch.Watch.{Watch}
use Rattle.history_watch.specs.Watching.{IsAnswer, IsCutOff, IsWatching, history_at, is_whole, start}

nothing_left : (xs : List ℕ) → length xs ≡ 0 → xs ≡ []
nothing_left [] e = refl
nothing_left (x ∷ xs) e = absurd (omega arith)

-- a last line ends the entries
ended : (ring : RingValue) (said : List SaidEntry) (line : ℕ) → read_from ring (record { stage = Entries; said = said; line = line }) (codes "end\n") ≡ Ok said
ended ring said line = end_step ring said line (codes "end" ∷ []) [] (Ok tt) refl (end_is line [] (Ok tt) refl) ∙ end_over ring said (next_number line) [] true refl

module _ (ring : RingValue) (plan : List Planned) (bytes : List ℕ) (w : Watch) (iw : IsWatching ring plan bytes w) where
  -- what a history says that may stop
  says : (s : Stage) → w.reader.stage ≡ s → is_whole s w.left.items ≡ true → w.reader.stage ≢ Over → history_at ring (bytes ++ codes "end\n") ≡ Ok iw.said
  says First is whole still = absurd cc
  says Over is whole still = absurd (still is)
  says Entries is whole still =
      let g = iw.going still in
      let none : w.left.items ≡ [] = nothing_left w.left.items (eqb-true (length w.left.items) 0 whole) in
      let all : bytes ≡ g.done = g.whole ∙ ap (λ (z : List ℕ). g.done ++ z) none ∙ append-nil g.done in
      ap (λ (z : List ℕ). read_from ring start (z ++ codes "end\n")) all ∙ g.read (codes "end\n") ∙ (λ i. read_from ring (record { stage = is i; said = iw.said; line = w.reader.line }) (codes "end\n")) ∙ ended ring iw.said w.reader.line

  pub answered : (r : RingValue) → ring_of w.world ≡ r → is_whole w.reader.stage w.left.items ≡ true → (text : List ℕ) → ((u : TheWorld) → Meets w.world u → text ≡ ending_text r (plan_of w.world) u) → IsAnswer ring plan bytes w iw.said text
  answered r r_is whole text shown =
      let is = shown iw.world iw.meets ∙ (λ i. ending_text ((sym r_is ∙ iw.ring_is) i) (iw.plan_is i) iw.world) in
      record { replayed = ∣ (iw.world, iw.run, is) ∣₁; ends = says w.reader.stage refl whole }

  stopped : (s : Stage) → w.reader.stage ≡ s → w.reader.stage ≢ Over → (HasNoEnd w.left.items → resume_at ring s iw.said (record { line = w.reader.line; lines = lines_of w.left.items }) ≡ Err (BadLine w.reader.line)) → IsCutOff ring plan bytes (BadLine w.reader.line)
  stopped s is still bad =
      let g = iw.going still in
      record {
        is = ap (read_from ring start) g.whole ∙ g.read w.left.items ∙ (λ i. read_from ring (record { stage = is i; said = iw.said; line = w.reader.line }) w.left.items) ∙ bad g.run;
        to = point_of w.reader iw.said;
        begins = record { done = g.done; rest = w.left.items; whole = g.whole; read = g.read };
        history = ∣ (iw.world, iw.run) ∣₁;
      }

  -- what a history says that may not stop
  pub cut_off : (s : Stage) → w.reader.stage ≡ s → is_whole s w.left.items ≡ false → IsCutOff ring plan bytes (BadLine w.reader.line)
  cut_off Over is whole = absurd cc
  cut_off First is whole = stopped First is (λ o. (let same : First ≡ Over = sym is ∙ o in absurd cc)) (λ run. end_first ring iw.said w.reader.line w.left.items run)
  cut_off Entries is whole = stopped Entries is (λ o. (let same : Entries ≡ Over = sym is ∙ o in absurd cc)) (λ run. end_entries ring iw.said w.reader.line w.left.items run)

-- ---- as the code has them

pub answer_text : (w : Watch) → ring_of w.world ≡ w.ring.now → is_whole w.reader.stage w.left.items ≡ true → (r : Result (Vec ℕ) Refusal) → IfOk r (λ v. (u : TheWorld) → Meets w.world u → v.items ≡ ending_text w.ring.now (plan_of w.world) u)
    → IfOk r (λ text. (ring : RingValue) (plan : List Planned) (bytes : List ℕ) (so : IsWatching ring plan bytes w) → IsAnswer ring plan bytes w so.said text.items)
answer_text w same whole (Ok v) shown = λ ring plan bytes iw. answered ring plan bytes w iw w.ring.now same whole v.items shown
answer_text w same whole (Err e) shown = tt
