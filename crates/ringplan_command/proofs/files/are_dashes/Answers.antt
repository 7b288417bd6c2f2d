use Rattle.std.proofs.Common.{◌∙◌, codes, string_bytes, sym}
use Rattle.std.specs.Str.{bytes_eq}
use Rattle.std.proofs.lemmas.List.Folds.{list_all-map}
use Rattle.ringplan_command.proofs.files.are_dashes.Goals as goal

pub returns : goal.returns
returns c = c.each_is_dash.ensures ∙ sym (list_all-map (λ name. bytes_eq name (codes "-")) string_bytes c.args.texts.now)
