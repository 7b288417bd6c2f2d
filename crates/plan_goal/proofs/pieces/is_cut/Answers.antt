use Rattle.std.proofs.Common.{◌≡◌, ◌∙◌, Some, sym}
use Rattle.plan_goal.specs.Cuts.{number_by, place_of, window_by}
use Rattle.plan_goal.proofs.InCuts.{same_step}
use Rattle.plan_goal.proofs.pieces.is_cut.Goals as goal

pub returns : goal.returns
returns c = λ t.
    let places = c.args.pieces.now.places.items in
    let placed = c.in_ok-are_placed.ensures c.if-not-branch.false in
    record {
      window = window_by places;
      number = number_by places;
      placed = λ n l. (placed n l).0;
      once = λ m n l k e f. (let s : Some m ≡ Some n = sym (placed m l).1 ∙ same_step _ (place_of places m) (place_of places n) e f ∙ (placed n k).1 in cc);
      all = c.all_are_of_plan.ensures t;
    }
