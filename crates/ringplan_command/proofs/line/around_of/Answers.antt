use Rattle.std.proofs.Common.{◌∙◌, ℕ, inr, map, option_map, string_bytes, subst, sym, ap}
use Rattle.std.specs.Global.{Vec}
use Rattle.clap.specs.Words.{found_of, rows_of}
use Rattle.ringplan_command.specs.Makings.{MeansExtent, left_texts}
use Rattle.ringplan_command.specs.declared.word.Word.TheVariants.{Around}
use Rattle.ringplan_command.proofs.NamedSlots.{no_texts, of_word}
use Rattle.ringplan_command.proofs.line.around_of.Goals as goal

pub returns-then-names_nothing : goal.returns-then-names_nothing
returns-then-names_nothing c =
    let rows = rows_of (found_of c.args.matches.now) in
    let nothing = c.names_nothing.ensures c.if-names_nothing.true in
    let dead = sym c.requires.known.0 ∙ ap (map (λ (name : Vec ℕ). name.items)) nothing.0 in
    let layout = sym c.requires.known.2 ∙ ap (option_map string_bytes) nothing.1 in
    let left = no_texts (left_texts rows) c.args.options.left.items nothing.2 c.requires.left in
    let rest = subst (MeansExtent rows) nothing.3 c.detour_of-detour.ensures.extent in
    of_word Around rows c.mistaken.result (inr (inr (dead, layout, left, rest))) c.mistaken.ensures.mistaken
