use Rattle.dsv_ctext.proofs.products.+put_products.Given as goal

abbrev pub decreases-put_products : goal.decreases-put_products
decreases-put_products g l = l.i
