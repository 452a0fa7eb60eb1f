use Rattle.dsv_ctext.proofs.products.+has_products.Given as goal

abbrev pub decreases-has_products : goal.decreases-has_products
decreases-has_products l = l.i
