use Rattle.dsv_fraction.proofs.decimal.+times_ten_to.Given as goal

abbrev pub decreases-times_ten_to : goal.decreases-times_ten_to
decreases-times_ten_to l = l.count
