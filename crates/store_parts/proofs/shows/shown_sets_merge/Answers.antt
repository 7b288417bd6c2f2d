use Rattle.store_parts.proofs.ShownSets as showing
use Rattle.store_parts.proofs.shows.shown_sets_merge.Goals as goal

pub returns-clause-merge : goal.returns-clause-merge
returns-clause-merge c = showing.merge

pub returns-clause-none : goal.returns-clause-none
returns-clause-none c = showing.none

pub returns-clause-one : goal.returns-clause-one
returns-clause-one c = showing.one

pub returns-clause-with_none : goal.returns-clause-with_none
returns-clause-with_none c = showing.with_none

pub returns-clause-other_test : goal.returns-clause-other_test
returns-clause-other_test c = showing.other_test

pub returns-clause-other_clock : goal.returns-clause-other_clock
returns-clause-other_clock c = showing.other_clock

pub returns-clause-other_value : goal.returns-clause-other_value
returns-clause-other_value c = showing.other_value

pub returns-clause-new_clock : goal.returns-clause-new_clock
returns-clause-new_clock c = showing.new_clock
