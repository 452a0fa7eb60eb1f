-- How many products a cascade takes.
use Rattle.std.specs.Prelude.{ℕ, ◌+◌, List, [], ◌∷◌}
use Rattle.dsv_quantiser.specs.QuantisedView.{QuantisedView}
use Rattle.dsv_meaning.specs.Equations.{order, products_of}

abbrev pub sections_products : List QuantisedView → ℕ
sections_products [] = 0
sections_products (q ∷ qs) = products_of q.realisation (order q) + sections_products qs
