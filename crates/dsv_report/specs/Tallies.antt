-- The text of the counts of generated controllers.
use Rattle.std.specs.Prelude.{ℕ, List, ◌++◌, codes}
use Rattle.dsv_tally.specs.declared.tally.Generated.{Generated}
use Rattle.dsv_report.specs.Lines.{numbered, number_line}

-- how many controllers there are, and the seed
abbrev pub seed_line : ℕ → ℕ → List ℕ
seed_line count seed = numbered (codes "GENERATED ") count ++ number_line (codes " SEED ") seed

-- after the name of a property, for how many of them it is shown, and for how many not
abbrev pub decided_line : List ℕ → ℕ → ℕ → List ℕ
decided_line name shown refuted = numbered name shown ++ number_line (codes " failed ") refuted

-- the same for overflow, and for how many of them the search gave up
abbrev pub overflow_line : ℕ → ℕ → ℕ → List ℕ
overflow_line safe overflow spent = numbered (codes "overflow successful ") safe
    ++ (numbered (codes " failed ") overflow ++ number_line (codes " inconclusive ") spent)

abbrev pub tally_text : Generated → List ℕ
tally_text g = seed_line g.tally.count g.seed
    ++ (decided_line (codes "stability successful ") g.tally.stable g.tally.unstable
    ++ (decided_line (codes "minimum-phase successful ") g.tally.minimum g.tally.nonminimum
    ++ overflow_line g.tally.safe g.tally.overflow g.tally.spent))
