-- Loops over the nodes of a sample and the registers of a box.
use Rattle.std.proofs.Common.{◌≡◌, ℕ, zero, suc, ◌+◌, ◌<◌, ◌≤◌, inl, inr, Bool, true, false, if◌then◌else◌, List, [], ◌∷◌, length, get_or, drop, refl, sym, ap, ◌∙◌, arith, add-one}
use Rattle.std.specs.Prelude.{Some, None, nat_lt, ◌&&◌}
use Rattle.std.proofs.lemmas.Bool.{cases_lt, ltb-true, ltb-false}
use Rattle.dsv_word.specs.declared.format.Format.{Format}
use Rattle.dsv_netlist.specs.declared.node.Node.{Node}
use Rattle.dsv_netlist.specs.Conditions.{is_fit}
use Rattle.dsv_linear.specs.declared.range.Range.{Range}
use Rattle.dsv_linear.specs.Forms.{range_at}
use Rattle.dsv_gain.specs.Boxes.{range_of, node_range, range_in, fits_before, holds_loaded, is_kept}

-- ---- nodes
few_cases : (b : Bool) (k i : ℕ) → k ≤ i → (if b then suc k else k) ≤ suc i
few_cases true k i l = omega arith
few_cases false k i l = omega arith

pub few_fits : (nodes : List Node) (i : ℕ) → fits_before nodes i ≤ i
few_fits [] i = omega arith
few_fits (n ∷ ns) zero = omega arith
few_fits (n ∷ ns) (suc i) = few_cases (is_fit n) (fits_before ns i) i (few_fits ns i)

-- the count goes up at a node that fits
lifted : (b c : Bool) (k : ℕ) → (if b then suc (if c then suc k else k) else (if c then suc k else k)) ≡ (if c then suc (if b then suc k else k) else (if b then suc k else k))
lifted true true k = refl
lifted true false k = refl
lifted false true k = refl
lifted false false k = refl

pub none_before : (nodes : List Node) → fits_before nodes 0 ≡ 0
none_before [] = refl
none_before (n ∷ ns) = refl

pub fits_next : (nodes : List Node) (d : Node) (i : ℕ) → i < length nodes → fits_before nodes (i + 1) ≡ (if is_fit (get_or nodes i d) then suc (fits_before nodes i) else fits_before nodes i)
fits_next [] d i l = absurd (omega arith)
fits_next (n ∷ ns) d zero l = ap (λ k. if is_fit n then suc k else k) (none_before ns)
fits_next (n ∷ ns) d (suc i) l =
    ap (fits_before (n ∷ ns)) (add-one (suc i)) ∙ ap (λ k. if is_fit n then suc k else k) (sym (ap (fits_before ns) (add-one i)) ∙ fits_next ns d i (omega arith)) ∙ lifted (is_fit n) (is_fit (get_or ns i d)) (fits_before ns i)

abbrev nothing : List Range
nothing = []

drop_none : (k : ℕ) → drop k nothing ≡ nothing
drop_none zero = refl
drop_none (suc k) = refl

dropped : (b : Bool) (k : ℕ) (ranges : List Range) → drop k (if b then drop 1 ranges else ranges) ≡ drop (if b then suc k else k) ranges
dropped true k [] = drop_none k
dropped true k (r ∷ ranges) = refl
dropped false k ranges = refl

pub range_named : (input : Range) (list ranges : List Range) (nodes : List Node) (d : Node) (i : ℕ) → i < length nodes → range_in input list ranges nodes i ≡ node_range input list (drop (fits_before nodes i) ranges) (get_or nodes i d)
range_named input list ranges [] d i l = absurd (omega arith)
range_named input list ranges (n ∷ ns) d zero l = refl
range_named input list ranges (n ∷ ns) d (suc i) l =
    range_named input list (if is_fit n then drop 1 ranges else ranges) ns d i (omega arith)
    ∙ ap (λ rs. node_range input list rs (get_or ns i d)) (dropped (is_fit n) (fits_before ns i) ranges)

pub range_past : (input : Range) (list ranges : List Range) (nodes : List Node) (i : ℕ) → length nodes ≤ i → range_in input list ranges nodes i ≡ None
range_past input list ranges [] i l = refl
range_past input list ranges (n ∷ ns) zero l = absurd (omega arith)
range_past input list ranges (n ∷ ns) (suc i) l = range_past input list (if is_fit n then drop 1 ranges else ranges) ns i (omega arith)

pub fits_more : (nodes : List Node) (d : Node) (i count now : ℕ) → i < length nodes → count ≡ fits_before nodes i → now ≡ (if is_fit (get_or nodes i d) then suc count else count) → now ≡ fits_before nodes (i + 1)
fits_more nodes d i count now l c e = e ∙ ap (λ k. if is_fit (get_or nodes i d) then suc k else k) c ∙ sym (fits_next nodes d i l)

none_cases : (b : Bool) (ranges : List Range) (i : ℕ) → nat_lt i (length ranges) ≡ b → length ranges ≤ i → (if b then Some (range_at ranges i) else None) ≡ None
none_cases true ranges i e l = absurd (let h = ltb-true i (length ranges) e in omega (arith, h, l))
none_cases false ranges i e l = refl

none_of : (ranges : List Range) (i : ℕ) → length ranges ≤ i → range_of ranges i ≡ None
none_of ranges i l = none_cases (nat_lt i (length ranges)) ranges i refl l

known_cases : (b : Bool) (ranges : List Range) (i : ℕ) → nat_lt i (length ranges) ≡ b → i < length ranges → (if b then Some (range_at ranges i) else None) ≡ Some (range_at ranges i)
known_cases true ranges i e l = refl
known_cases false ranges i e l = absurd (let h = ltb-false i (length ranges) e in omega (arith, h, l))

known_at : (ranges : List Range) (i : ℕ) → i < length ranges → range_of ranges i ≡ Some (range_at ranges i)
known_at ranges i l = known_cases (nat_lt i (length ranges)) ranges i refl l

pub first_of : (ranges : List Range) (k : ℕ) → range_of (drop k ranges) 0 ≡ range_of ranges k
first_of ranges zero = refl
first_of [] (suc k) = none_of [] 0 (omega arith) ∙ sym (none_of [] (suc k) (omega arith))
first_of (r ∷ ranges) (suc k) = first_of ranges k ∙ elim (cases_lt k (length ranges)) [
  | inl l ↦ known_at ranges k l ∙ sym (known_at (r ∷ ranges) (suc k) (omega arith))
  | inr l ↦ none_of ranges k (omega (arith, l)) ∙ sym (none_of (r ∷ ranges) (suc k) (omega (arith, l)))
]

-- ---- registers
ends_false : (p q : Bool) → q ≡ false → (p && q) ≡ false
ends_false true q e = e
ends_false false q e = refl

pub kept_unequal : (f : Format) (input : Range) (list ranges : List Range) (nodes : List Node) (next : List ℕ) (rest : List Range) → (length rest ≡ length next → ⊥) → is_kept f input list ranges nodes next rest ≡ false
kept_unequal f input list ranges nodes [] [] h = absurd (h refl)
kept_unequal f input list ranges nodes [] (r ∷ rest) h = refl
kept_unequal f input list ranges nodes (i ∷ next) [] h = refl
kept_unequal f input list ranges nodes (i ∷ next) (r ∷ rest) h = ends_false (holds_loaded f input list ranges nodes i r) (is_kept f input list ranges nodes next rest) (kept_unequal f input list ranges nodes next rest (λ e. h (ap suc e)))
