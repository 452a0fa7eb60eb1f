use Rattle.dsv_fraction.proofs.decimal.+over_ten_to.Given as goal

abbrev pub decreases-over_ten_to : goal.decreases-over_ten_to
decreases-over_ten_to l = l.count
