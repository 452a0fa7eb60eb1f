-- The search, look by look.
use Rattle.std.proofs.Common.{◌≡◌, ℕ, zero, suc, ◌+◌, ◌-◌, ◌*◌, ◌<◌, ◌≤◌, ◌^◌, Bool, true, false, if◌then◌else◌, List, length, Option, Some, None, inl, inr, refl, sym, ap, ◌∙◌, arith, add-one}
use Rattle.std.proofs.Math.IntN.{ℤ}
use Rattle.std.proofs.Math.Nat.{pow-suc}
use Rattle.std.specs.List.{list_any}
use Rattle.std.specs.Option.{option_and_then}
use Rattle.std.proofs.lemmas.Bool.{cases_lt}
use Rattle.dsv_algebra.specs.Vectors.{vector_of, matrix_of}
use Rattle.dsv_forms.specs.declared.offers.Form.{Form}
use Rattle.dsv_forms.specs.declared.offers.Falls.{Falls}
use Rattle.dsv_forms.specs.Padded.{form_with}
use Rattle.dsv_forms.specs.Refusals.{places}
use Rattle.dsv_sums.specs.declared.search.SumOffer.{SumOffer}
use Rattle.dsv_sums.specs.Elimination.{entries_of, rows_of}
use Rattle.dsv_sums.specs.Partial.{form_after}
use Rattle.dsv_sums.specs.SumForms.{base_entry, next_entry, is_too_great, next_form, sum_form, offer_with, offer_from}
use Rattle.dsv_sums.proofs.Filled.{many}

-- ---- steps
pub after_more : (cs : List ℤ) (form : Form) (k : ℕ) (x : Form) (o : Option Form) → form_after cs form k ≡ Some x → o ≡ next_form cs x → form_after cs form (k + 1) ≡ o
after_more cs form k x o h e =
    ap (form_after cs form) (add-one k) ∙ ap (option_and_then (λ form. next_form cs form)) h ∙ sym e

pub after_stops : (cs : List ℤ) (form : Form) (k n : ℕ) → k ≤ n → form_after cs form k ≡ None → form_after cs form n ≡ None
after_stops cs form k zero q h = let e : zero ≡ k = omega arith in ap (form_after cs form) e ∙ h
after_stops cs form k (suc n) q h = elim (cases_lt n k) [
  | inl l ↦ (let e : suc n ≡ k = omega arith in ap (form_after cs form) e ∙ h)
  | inr m ↦ ap (option_and_then (λ form. next_form cs form)) (after_stops cs form k n m h)
]

pub sum_after : (cs : List ℤ) (t n : ℕ) (form : Form) → sum_form cs t ≡ Some form → sum_form cs (t + n) ≡ form_after cs form n
sum_after cs t zero form h = let e : t + zero ≡ t = omega arith in ap (sum_form cs) e ∙ h
sum_after cs t (suc n) form h =
    let e : t + suc n ≡ suc (t + n) = omega arith in
    ap (sum_form cs) e ∙ ap (option_and_then (λ form. next_form cs form)) (sum_after cs t n form h)

-- the form at a look, some steps after an earlier one
pub sum_at : (cs : List ℤ) (t k wanted : ℕ) (form : Form) (o : Option Form) → t ≤ 2 ^ k → wanted ≡ 2 ^ k → sum_form cs t ≡ Some form → o ≡ form_after cs form (wanted - t)
    → sum_form cs (2 ^ k) ≡ o
sum_at cs t k wanted form o q at h e =
    let same : 2 ^ k ≡ t + (wanted - t) = omega (arith, at, q) in
    ap (sum_form cs) same ∙ sum_after cs t (wanted - t) form h ∙ sym e

-- ---- places
given_places : (d : ℕ) (b : Bool) (f x : Form) → f.d ≡ d → ◌≡◌ {A = Option Form} (if b then None else Some f) (Some x) → x.d ≡ d
given_places d true f x e h = cc
given_places d false f x e h = let same : f ≡ x = cc in ap (λ (x : Form). x.d) (sym same) ∙ e

next_places : (cs : List ℤ) (f x : Form) → next_form cs f ≡ Some x → x.d ≡ length cs - 1
next_places cs f x h =
    let d = length cs - 1 in
    let c = vector_of cs in
    let P = matrix_of f.rows in
    given_places d (list_any (λ i. list_any (λ j. is_too_great d c P i j) (places d)) (places d)) (form_with (rows_of d (next_entry d c P))) x
    (many (λ i. entries_of d (next_entry d c P i)) d) h

stepped_places : (cs : List ℤ) (o : Option Form) (x : Form) → option_and_then (λ form. next_form cs form) o ≡ Some x → x.d ≡ length cs - 1
stepped_places cs None x h = cc
stepped_places cs (Some f) x h = next_places cs f x h

pub sum_places : (cs : List ℤ) (t : ℕ) (x : Form) → sum_form cs t ≡ Some x → x.d ≡ length cs - 1
sum_places cs zero x h = given_places (length cs - 1) false (form_with (rows_of (length cs - 1) base_entry)) x (many (λ i. entries_of (length cs - 1) (base_entry i)) (length cs - 1)) h
sum_places cs (suc t) x h = stepped_places cs (sum_form cs t) x h

-- ---- looks
abbrev offer_or : ℕ → Option SumOffer → Option Falls → Option SumOffer
offer_or k rest o = elim o as (λ o. Option SumOffer) [ Some offer ↦ Some (record { look = k; offer = offer }) | None ↦ rest ]

abbrev looked : List ℤ → ℕ → ℕ → Option Form → Option SumOffer
looked cs k n o = elim o as (λ o. Option SumOffer) [ None ↦ None | Some form ↦ offer_or k (offer_from cs (k + 1) n) (offer_with cs form) ]

pub look_lost : (cs : List ℤ) (k m : ℕ) → sum_form cs (2 ^ k) ≡ None → offer_from cs k m ≡ None
look_lost cs k zero h = refl
look_lost cs k (suc n) h = ap (looked cs k n) h

pub look_found : (cs : List ℤ) (k m : ℕ) (form : Form) (offer : Falls) → 0 < m → sum_form cs (2 ^ k) ≡ Some form → offer_with cs form ≡ Some offer
    → offer_from cs k m ≡ Some (record { look = k; offer = offer })
look_found cs k zero form offer q h e = absurd (omega arith)
look_found cs k (suc n) form offer q h e = ap (looked cs k n) h ∙ ap (offer_or k (offer_from cs (k + 1) n)) e

pub look_skipped : (cs : List ℤ) (k m : ℕ) (form : Form) → 0 < m → sum_form cs (2 ^ k) ≡ Some form → offer_with cs form ≡ None
    → offer_from cs k m ≡ offer_from cs (k + 1) (m - 1)
look_skipped cs k zero form q h e = absurd (omega arith)
look_skipped cs k (suc n) form q h e =
    let same : suc n - 1 ≡ n = omega arith in
    ap (looked cs k n) h ∙ ap (offer_or k (offer_from cs (k + 1) n)) e ∙ ap (offer_from cs (k + 1)) (sym same)

pub none_where : (o : Option Falls) → ((x : Falls) → o ≡ Some x → ⊥) → o ≡ None
none_where None h = refl
none_where (Some x) h = absurd (h x refl)

pub doubled : (k : ℕ) → 2 ^ k ≤ 2 ^ (k + 1)
doubled k = let e : 2 ^ (k + 1) ≡ 2 ^ k * 2 = ap (λ n. 2 ^ n) (add-one k) ∙ pow-suc 2 k in omega (arith, e)
