use Rattle.std.proofs.Common.{sym, ◌∙◌}
use Rattle.texts.proofs.WordLaws.{other_word, word_behind, word_whole}
use Rattle.texts.proofs.cursor.Cursor.takes.Goals as goal
use Rattle.texts.proofs.cursor.Cursor.takes.Goals.{then-word-bytes, else-word-bytes}

pub returns-then-not-stands_in_front-clause-other : goal.returns-then-not-stands_in_front-clause-other
returns-then-not-stands_in_front-clause-other c = λ _ x xs e.
    let fields = rw (← c.self.view_is, c.in-Some.is) at e in
    other_word c.in-Some.bytes.now c.args.word.now x xs (sym c.stands_in_front.ensures ∙ c.if-not-stands_in_front.true) fields

pub returns-clause-taken : goal.returns-clause-taken
returns-clause-taken c = λ _.
    let stands = sym c.stands_in_front.ensures ∙ c.if-not-stands_in_front.false in
    elim c.if-word-bytes.branch [
      | then-word-bytes w ↦ rw (← c.self.view_is, c.in-Some.is, w.self-is) (word_behind c.in-Some.bytes.now c.args.word.now stands w.if-word-bytes.true)
      | else-word-bytes w ↦ rw (← c.self.view_is, c.in-Some.is, w.self-is) (word_whole c.in-Some.bytes.now c.args.word.now stands w.if-word-bytes.false)
    ]
