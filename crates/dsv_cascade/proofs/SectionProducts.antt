-- How many products sections take, and one section more.
use Rattle.std.proofs.Common.{◌≡◌, ℕ, ◌+◌, ◌<◌, List, [], ◌∷◌, ◌++◌, length, get_or, take, sym, ap, ◌∙◌, arith}
use Rattle.std.proofs.lemmas.List.{take_more}
use Rattle.dsv_quantiser.specs.QuantisedView.{QuantisedView}
use Rattle.dsv_meaning.specs.Equations.{order, products_of}
use Rattle.dsv_cascade.specs.Sizes.{sections_products}

pub sections_products-push : (qs : List QuantisedView) (q : QuantisedView) → sections_products (qs ++ q ∷ []) ≡ sections_products qs + products_of q.realisation (order q)
sections_products-push [] q = omega arith
sections_products-push (o ∷ qs) q = omega (arith, sections_products-push qs q)

-- the next of some sections
pub sections_products-take_more : (qs : List QuantisedView) (i : ℕ) (q : QuantisedView) → i < length qs → q ≡ get_or qs i q → sections_products (take (i + 1) qs) ≡ sections_products (take i qs) + products_of q.realisation (order q)
sections_products-take_more qs i q l e =
    ap sections_products (take_more qs i q l ∙ ap (λ (r : QuantisedView). take i qs ++ r ∷ []) (sym e)) ∙ sections_products-push (take i qs) q
