use Rattle.std.proofs.Common.{◌∙◌, [], ◌∷◌, ℕ, List, ap, map, sym}
use Rattle.std.specs.Borrow.{Bor}
use Rattle.std.proofs.lemmas.List.{append-nil, map-append}
use Rattle.ringplan_c.proofs.Options.{words_to}
use Rattle.ringplan_c.proofs.line.split_options.Goals as goal

pub returns-then-is_empty : goal.returns-then-is_empty
returns-then-is_empty c =
    let left = c.pop.new.self.items in
    let words = words_to c.args.options.now c.in_ok-words.words.items left c.in-Some.last _ c.in_ok-words.ensures c.in-Some.ensures.items (sym c.is_empty.ensures ∙ c.if-is_empty.true) in
    sym (words ∙ append-nil (map (λ (x : Bor (List ℕ)). x.now) left))

pub returns-in_ok-push-in-Some : goal.returns-in_ok-push-in-Some
returns-in_ok-push-in-Some c =
    let text = λ (x : Bor (List ℕ)). x.now in
    let left = c.pop.new.self.items in
    let words = words_to c.args.options.now c.in_ok-words.words.items left c.in-Some.last _ c.in_ok-words.ensures c.in-Some.ensures.items (sym c.is_empty.ensures ∙ c.if-is_empty.false) in
    ap (map text) c.in_ok-push-in-Some.ensures.items ∙ map-append text left (c.in-Some.last ∷ []) ∙ sym words
