use Rattle.std.proofs.Common.{◌≡◌, ℕ, ◌<◌, Bool, List, ◌++◌, refl, sym, ap, subst, ◌∙◌}
use Rattle.std.specs.Prelude.{codes}
use Rattle.history_laws.specs.Choices.{is_chosen}
use Rattle.history_laws.specs.Parts.{is_marked}
use Rattle.history_text.proofs.Wholes.{handed_rest, no_memory, rest_err, rest_ok, start_room, starts}
use Rattle.history_text.proofs.cutting.cut_history.Goals as goal

pub read_history-requires : goal.read_history-requires
read_history-requires g c = start_room c.args.front.ring c.as_slice.result.now c.args.front.line _ c.of.ensures c.new.ensures

pub returns-in_err-marks : goal.returns-in_err-marks
returns-in_err-marks g c = no_memory c.args.wanted.choice c.args.wanted.entry c.args.front c.args.first.items (g.R.Read.remaining c.args.input.now) c.from_residual.result c.from_residual.ensures

pub returns-in_err-push_text : goal.returns-in_err-push_text
returns-in_err-push_text g c = no_memory c.args.wanted.choice c.args.wanted.entry c.args.front c.args.first.items (g.R.Read.remaining c.args.input.now) c.from_residual-in_err-push_text.result c.from_residual-in_err-push_text.ensures

pub returns-in_err-read_history : goal.returns-in_err-read_history
returns-in_err-read_history g c =
    let ring = c.args.front.ring in
    let marks = c.as_slice.result.now in
    let text = c.args.front.text.items ++ codes "history 1\n" in
    let same : (p : ℕ) → p < ring.q → is_marked marks p ≡ is_chosen c.args.wanted.choice p =
    λ p l. ap (λ (ms : List Bool). is_marked ms p) c.as_slice.ensures.value ∙ c.in_ok-marks.ensures p (subst (λ (n : ℕ). p < n) (sym c.q.ensures.value) l) in
    let start = starts ring marks (record { text = text; wanted = c.args.wanted.entry }) c.args.front.line _ c.requires.valid c.of.ensures c.new.ensures (c.in_ok-push_text.ensures c.args.front.text.items 0 c.of-part.ensures) (c.of-2.ensures ring (is_marked marks)) in
    let h = c.in_err-read_history.ensures in
    let e = c.in_err-read_history.field-0.0 in (
      h.0,
      h.1,
      handed_rest c.args.wanted.choice c.args.wanted.entry c.args.front (c.args.first.items ++ h.0) c.from_residual-in_err-read_history.result e c.from_residual-in_err-read_history.ensures.1
          (rest_err c.args.wanted.choice c.args.front marks same c.args.wanted.entry text _ c.read_history.new.cutter start refl c.of.ensures.stage_is c.of.ensures.line_is (c.args.first.items ++ h.0) e h.2),
    )

pub returns : goal.returns
returns g c =
    let ring = c.args.front.ring in
    let marks = c.as_slice.result.now in
    let text = c.args.front.text.items ++ codes "history 1\n" in
    let same : (p : ℕ) → p < ring.q → is_marked marks p ≡ is_chosen c.args.wanted.choice p =
    λ p l. ap (λ (ms : List Bool). is_marked ms p) c.as_slice.ensures.value ∙ c.in_ok-marks.ensures p (subst (λ (n : ℕ). p < n) (sym c.q.ensures.value) l) in
    let start = starts ring marks (record { text = text; wanted = c.args.wanted.entry }) c.args.front.line _ c.requires.valid c.of.ensures c.new.ensures (c.in_ok-push_text.ensures c.args.front.text.items 0 c.of-part.ensures) (c.of-2.ensures ring (is_marked marks)) in
    let h = c.in_ok-read_history.ensures in
    (h.0, h.1, rest_ok c.args.wanted.choice c.args.front marks same c.args.wanted.entry text _ c.read_history.new.cutter start refl c.of.ensures.stage_is c.of.ensures.line_is (c.args.first.items ++ h.0) c.in_ok-read_history.field-0 h.2)
