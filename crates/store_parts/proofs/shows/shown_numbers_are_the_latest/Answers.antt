use Rattle.store_parts.proofs.ShownLatest.{numbers, shows_latest}
use Rattle.store_parts.proofs.shows.shown_numbers_are_the_latest.Goals as goal

pub returns-clause-numbers : goal.returns-clause-numbers
returns-clause-numbers c = numbers

pub returns-clause-shown : goal.returns-clause-shown
returns-clause-shown c = shows_latest
