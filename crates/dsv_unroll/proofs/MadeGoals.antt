-- What holds of terms and a root holds of the goal that is made of them.
use Rattle.std.proofs.Common.{◌≡◌, Result, Ok, Err, IfOk, sym, subst}
use Rattle.dsv_term.specs.declared.node.TermId.{TermId}
use Rattle.dsv_term.specs.TermsView.{TermsView}

pub goal_made : {A E : Type 0} (r : Result A E) (terms : A → TermsView) (root : A → TermId) (P : TermsView → TermId → Type 0) (t : TermsView) (id : TermId) → P t id
    → IfOk r (λ g. terms g ≡ t) → IfOk r (λ g. root g ≡ id) → IfOk r (λ g. P (terms g) (root g))
goal_made (Ok g) terms root P t id p a b = subst (λ (u : TermsView). P u (root g)) (sym a) (subst (P t) (sym b) p)
goal_made (Err e) terms root P t id p a b = tt
