use Rattle.dsv_fraction.proofs.LongestNumbers.{whole_law, longest_law}
use Rattle.dsv_fraction.proofs.law.longest_number_is_taken.Goals as goal

pub returns-clause-whole : goal.returns-clause-whole
returns-clause-whole c = whole_law

pub returns-clause-longest : goal.returns-clause-longest
returns-clause-longest c = longest_law
