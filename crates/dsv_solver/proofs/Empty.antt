-- Trails that give each variable a value.
use Rattle.std.proofs.Common.{◌≡◌, ℕ, ◌+◌, Bool, true, false, refl, arith, ap, sym, ◌∙◌, inl, inr, ◌⊎◌}
use Rattle.std.proofs.lemmas.Bool.{cases_lt}
use Rattle.dsv_cnf.specs.Literal.{Literal, negation}
use Rattle.dsv_trail.specs.TrailView.{TrailView}
use Rattle.dsv_trail.specs.Places.{falsifies}
use Rattle.dsv_solver.specs.Search.{IsFullTo}
use Rattle.dsv_cnf.proofs.LiteralLemmas.{negation-twice}

-- the literals of one variable
by_sign : (x y : ℕ) (p : Bool) → y ≡ x → let q : Literal = record { var = y; positive = p } in (q ≡ record { var = x; positive = false }) ⊎ (q ≡ negation (record { var = x; positive = false }))
by_sign x y true e = inr (rw e refl)
by_sign x y false e = inl (rw e refl)

pub both : (x : ℕ) (q : Literal) → q.var ≡ x → (q ≡ record { var = x; positive = false }) ⊎ (q ≡ negation (record { var = x; positive = false }))
both x q e = by_sign x q.var q.positive e

-- the variable x has a value too
pub full_more : (t : TrailView) (x : ℕ) (l : Literal) → l ≡ record { var = x; positive = false } → (falsifies t.marks l ≡ true) ⊎ (falsifies t.marks (negation l) ≡ true) → IsFullTo t x → IsFullTo t (x + 1)
full_more t x l is h full =
    record {
      total = λ q lt. elim (cases_lt q.var x) [
        | inl less ↦ full.total q less
        | inr ge ↦
            let e : q.var ≡ x = omega (arith, lt, ge) in
            elim (both x q e) [
              | inl a ↦ let s : q ≡ l = a ∙ sym is in rw s h
              | inr b ↦ let s : q ≡ negation l = b ∙ ap negation (sym is) in elim h [ inl u ↦ inr (rw (s, negation-twice l) u) | inr v ↦ inl (rw s v) ]
            ]
      ];
    }
