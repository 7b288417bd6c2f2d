use Rattle.std.proofs.Common.{◌≡◌, ◌∙◌, ℕ, [], List, Option, None, Some, map, take, ap, sym}
use Rattle.std.specs.Prelude.{option_map, unwrap_or}
use Rattle.std.proofs.lemmas.List.{take_all}
use Rattle.clap.specs.Words.{all_of, found_of, rows_of}
use Rattle.clap.proofs.WalkLemmas.{raw_values-rows}
use Rattle.ringplan_command.proofs.naming.names_of.Goals as goal

pub returns-in_default : goal.returns-in_default
returns-in_default c =
    let none : None ≡ all_of c.args.word.now (rows_of (found_of c.args.matches.now)) =
    ap (option_map (λ s. map (λ v. v.now) s.now)) (sym c.in_default.is) ∙ c.get_strs.ensures ∙ raw_values-rows (found_of c.args.matches.now) c.args.word.now in
    ap (map (λ name. name.items)) c.new-names.ensures.items ∙ ap (λ (o : Option (List (List ℕ))). unwrap_or o []) none

pub returns : goal.returns
returns c =
    let texts = c.in-Some.texts.now in
    let some : Some (map (λ v. v.now) texts) ≡ all_of c.args.word.now (rows_of (found_of c.args.matches.now)) =
    ap (option_map (λ s. map (λ v. v.now) s.now)) (sym c.in-Some.is) ∙ c.get_strs.ensures ∙ raw_values-rows (found_of c.args.matches.now) c.args.word.now in
    let whole : take c.loop-text.text-index texts ≡ texts = take_all c.loop-text.text-index texts c.loop-text-test.false in
    c.loop-text.invariant ∙ ap (map (λ text. text.now)) whole ∙ ap (λ (o : Option (List (List ℕ))). unwrap_or o []) some
