use Rattle.std.proofs.Common.{◌≡◌, ℕ, ◌+◌, ◌-◌, ◌<◌, eqb, false, List, [], length, get_or, take, drop, Some, eq-eqb, sym, ap, subst, ◌∙◌, inl, inr, arith}
use Rattle.std.proofs.lemmas.Bool.{cases_lt, ne_eqb}
use Rattle.std.proofs.lemmas.List.{take_rest}
use Rattle.texts.specs.Parts.{fields_of}
use Rattle.texts.specs.Kept.{fields_left}
use Rattle.texts.proofs.Halves.{own-fields, whole-here, whole-last, both-sides, front-here, behind-here, front-all, behind-none, front-other, all-other}
use Rattle.texts.proofs.cursor.Cursor.split.Goals as goal
use Rattle.texts.proofs.cursor.Cursor.split.Goals.{then-bytes-at-eq32+else-eq, else-bytes-at-eq32}

pub returns-then-eq-clause-front : goal.returns-then-eq-clause-front
returns-then-eq-clause-front c =
    let bs = c.in-Some.bytes.now in
    let v = c.loop-at.invariant in
    let own = own-fields c.self.inside.rest c.in-Some.bytes c.args.self c.in-Some.is c.self.view_is in
    let space = eq-eqb (get_or bs c.loop-at.at 0) 32 c.if-bytes-at-eq32.true in
    let within : c.loop-at.at < length bs = omega arith in
    front-here c.args.word.now (fields_left c.loop-at.front) (fields_of (drop (c.loop-at.at + 1) bs)) c.args.self (take (c.loop-at.at - c.loop-at.start) (drop c.loop-at.start bs)) v.other (sym c.eq.ensures ∙ c.if-eq.true)
    (whole-here bs c.loop-at.start c.loop-at.at (fields_left c.loop-at.front) c.args.self v.ordered within v.plain space (v.whole ∙ own))

pub returns-then-eq-clause-behind : goal.returns-then-eq-clause-behind
returns-then-eq-clause-behind c =
    let bs = c.in-Some.bytes.now in
    let v = c.loop-at.invariant in
    let own = own-fields c.self.inside.rest c.in-Some.bytes c.args.self c.in-Some.is c.self.view_is in
    let space = eq-eqb (get_or bs c.loop-at.at 0) 32 c.if-bytes-at-eq32.true in
    let within : c.loop-at.at < length bs = omega arith in
    ap (λ (t : List ℕ). Some (fields_of t)) (take_rest bs (c.loop-at.at + 1))
    ∙ behind-here c.args.word.now (fields_left c.loop-at.front) (fields_of (drop (c.loop-at.at + 1) bs)) c.args.self (take (c.loop-at.at - c.loop-at.start) (drop c.loop-at.start bs)) v.other (sym c.eq.ensures ∙ c.if-eq.true)
    (whole-here bs c.loop-at.start c.loop-at.at (fields_left c.loop-at.front) c.args.self v.ordered within v.plain space (v.whole ∙ own))

pub loop-at-preserved : goal.loop-at-preserved
loop-at-preserved c =
    let bs = c.in-Some.bytes.now in
    let v = c.loop-at.invariant in
    let within : c.loop-at.at < length bs = omega arith in
    elim c.if-bytes-at-eq32.branch [
      | then-bytes-at-eq32+else-eq w ↦ (let space = eq-eqb (get_or bs c.loop-at.at 0) 32 w.if-bytes-at-eq32.true in
          rw (w.front-is, w.start-is) (record {
            ordered = omega arith;
            plain = λ k le lt. absurd (omega arith);
            whole = both-sides bs c.loop-at.at within space;
            other = front-other c.args.word.now bs c.loop-at.start c.loop-at.at (fields_left c.loop-at.front) v.ordered within v.plain space v.whole v.other (sym w.eq.ensures ∙ w.if-eq.false);
          }))
      | else-bytes-at-eq32 w ↦ (rw (w.front-is, w.start-is) (record {
        ordered = omega arith;
        plain = λ k le lt. elim (cases_lt k c.loop-at.at) [
          | inl below ↦ v.plain k le below
          | inr above ↦ (let same : c.loop-at.at ≡ k = omega arith in subst (λ (j : ℕ). eqb (get_or bs j 0) 32 ≡ false) same (ne_eqb (get_or bs c.loop-at.at 0) 32 w.if-bytes-at-eq32.false))
        ];
        whole = v.whole;
        other = v.other;
      }))
    ]

pub returns-then-eq-2-clause-front : goal.returns-then-eq-2-clause-front
returns-then-eq-2-clause-front c =
    let bs = c.in-Some.bytes.now in
    let v = c.loop-at.invariant in
    let own = own-fields c.self.inside.rest c.in-Some.bytes c.args.self c.in-Some.is c.self.view_is in
    front-here c.args.word.now (fields_left c.loop-at.front) [] c.args.self (take (length bs - c.loop-at.start) (drop c.loop-at.start bs)) v.other (sym c.eq-2.ensures ∙ c.if-eq-2.true)
    (whole-last bs c.loop-at.start (fields_left c.loop-at.front) c.args.self (λ k le lt. v.plain k le (omega arith)) (v.whole ∙ own))

pub returns-then-eq-2-clause-behind : goal.returns-then-eq-2-clause-behind
returns-then-eq-2-clause-behind c =
    let bs = c.in-Some.bytes.now in
    let v = c.loop-at.invariant in
    let own = own-fields c.self.inside.rest c.in-Some.bytes c.args.self c.in-Some.is c.self.view_is in
    behind-here c.args.word.now (fields_left c.loop-at.front) [] c.args.self (take (length bs - c.loop-at.start) (drop c.loop-at.start bs)) v.other (sym c.eq-2.ensures ∙ c.if-eq-2.true)
    (whole-last bs c.loop-at.start (fields_left c.loop-at.front) c.args.self (λ k le lt. v.plain k le (omega arith)) (v.whole ∙ own))

pub returns-clause-front : goal.returns-clause-front
returns-clause-front c =
    let bs = c.in-Some.bytes.now in
    let v = c.loop-at.invariant in
    let own = own-fields c.self.inside.rest c.in-Some.bytes c.args.self c.in-Some.is c.self.view_is in
    front-all c.args.word.now c.args.self (all-other c.args.word.now bs c.loop-at.start (fields_left c.loop-at.front) c.args.self (λ k le lt. v.plain k le (omega arith)) (v.whole ∙ own) v.other (sym c.eq-2.ensures ∙ c.if-eq-2.false))

pub returns-clause-behind : goal.returns-clause-behind
returns-clause-behind c =
    let bs = c.in-Some.bytes.now in
    let v = c.loop-at.invariant in
    let own = own-fields c.self.inside.rest c.in-Some.bytes c.args.self c.in-Some.is c.self.view_is in
    behind-none c.args.word.now c.args.self (all-other c.args.word.now bs c.loop-at.start (fields_left c.loop-at.front) c.args.self (λ k le lt. v.plain k le (omega arith)) (v.whole ∙ own) v.other (sym c.eq-2.ensures ∙ c.if-eq-2.false))
