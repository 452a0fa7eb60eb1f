-- Lines that are walked summand by summand, and the tests of their exact values.
use Rattle.std.proofs.Common.{◌≡◌, ℕ, ◌+◌, ◌<◌, Bool, true, false, not, List, [], ◌∷◌, ◌++◌, length, drop, get_or, Option, Some, Result, Ok, Err, refl, sym, ap, ◌∙◌, append-nil, ◌≤◌, arith}
use Rattle.std.proofs.Math.IntN.{ℤ, pos}
use Rattle.std.proofs.lemmas.List.{drop_more}
use Rattle.dsv_word.specs.declared.format.Format.{Format}
use Rattle.dsv_meaning.specs.declared.summands.Summand.{Summand}
use Rattle.dsv_meaning.specs.declared.summands.Summand.TheVariants.{Times}
use Rattle.dsv_meaning.specs.Lines.{summands}
use Rattle.dsv_linear.specs.declared.range.Range.{Range}
use Rattle.dsv_linear.specs.Known.{are_words}
use Rattle.dsv_ellipsoid.specs.declared.refusal.EllipsoidRefusal.{EllipsoidRefusal}
use Rattle.dsv_ellipsoid.specs.declared.refusal.EllipsoidRefusal.TheVariants as refusal
use Rattle.dsv_ellipsoid.specs.declared.intervals.Walk.{Walk}
use Rattle.dsv_ellipsoid.specs.Intervals.{product_interval, joined_interval, later_intervals, line_intervals}
use Rattle.dsv_forms.specs.Refusals.{first_of, refusal_of}
use Rattle.dsv_ellipsoid.specs.Refusals.{interval_tests}
use Rattle.dsv_ellipsoid.specs.Walks.{first_walk, walk_with, product_tests, products, later_tests, refusal_then, IsWalked}
use Rattle.dsv_forms.proofs.Places.{first_of-append, first_before, or_else, refusal-err, refusal-ok}

-- the products of a line whose words lie in one interval
pub summands_alike : (away : Bool) (cs : List ℤ) (x : Range) (k : ℕ) → summands away cs (λ i. x) k ≡ products away cs x
summands_alike away [] x k = refl
summands_alike away (c ∷ cs) x k = ap (λ ts. Times away c x ∷ ts) (summands_alike away cs x (k + 1))

interval_tests-append : (f : Format) (value : ℕ) (rs ss : List Range) → interval_tests f value (rs ++ ss) ≡ interval_tests f value rs ++ interval_tests f (value + length rs) ss
interval_tests-append f value [] ss = let e : value ≡ value + 0 = omega arith in ap (λ v. interval_tests f v ss) e
interval_tests-append f value (r ∷ rs) ss =
    let e : value + 1 + length rs ≡ value + length (r ∷ rs) = omega arith in
    ap (λ ts. (not (are_words f r), refusal.Interval value r.low r.high) ∷ ts) (interval_tests-append f (value + 1) rs ss ∙ ap (λ v. interval_tests f (value + 1) rs ++ interval_tests f v ss) e)

-- a product and what follows
product_first : (f : Format) (away : Bool) (c : ℤ) (x : Range) (w : Walk) (rest : List (Summand Range))
    → first_of (later_tests f w (Times away c x ∷ rest)) ≡ or_else (first_of (product_tests f away c x w)) (first_of (later_tests f (walk_with f away c x w) rest))
product_first f away c x w rest =
    let p = product_interval f c x in
    let j = joined_interval away w.sum p in
    ap first_of (interval_tests-append f w.value (p ∷ j ∷ []) (later_intervals f j rest))
    ∙ first_of-append (product_tests f away c x w) (interval_tests f (w.value + 2) (later_intervals f j rest))

product_more : (f : Format) (away : Bool) (cs : List ℤ) (i : ℕ) (x : Range) (w : Walk) (rest : List (Summand Range)) → i < length cs
    → first_of (later_tests f w (products away (drop i cs) x ++ rest))
    ≡ or_else (first_of (product_tests f away (get_or cs i (pos 0)) x w)) (first_of (later_tests f (walk_with f away (get_or cs i (pos 0)) x w) (products away (drop (i + 1) cs) x ++ rest)))
product_more f away cs i x w rest h =
    ap (λ ds. first_of (later_tests f w (products away ds x ++ rest))) (drop_more cs i (pos 0) h)
    ∙ product_first f away (get_or cs i (pos 0)) x w (products away (drop (i + 1) cs) x ++ rest)

-- where it passes
pub product_passes : (f : Format) (away : Bool) (cs : List ℤ) (i : ℕ) (x : Range) (w v : Walk) (r : Result Walk EllipsoidRefusal) → i < length cs
    → r ≡ Ok v → refusal_of r ≡ first_of (product_tests f away (get_or cs i (pos 0)) x w) → v ≡ walk_with f away (get_or cs i (pos 0)) x w
    → (rest : List (Summand Range)) → first_of (later_tests f w (products away (drop i cs) x ++ rest)) ≡ first_of (later_tests f v (products away (drop (i + 1) cs) x ++ rest))
product_passes f away cs i x w v r h was refuses next rest =
    let none = sym refuses ∙ refusal-ok r v was in
    product_more f away cs i x w rest h ∙ rw (none, next) refl

pub product_stops : (f : Format) (away : Bool) (cs : List ℤ) (i : ℕ) (x : Range) (w : Walk) (e : EllipsoidRefusal) (r : Result Walk EllipsoidRefusal) → i < length cs
    → r ≡ Err e → refusal_of r ≡ first_of (product_tests f away (get_or cs i (pos 0)) x w)
    → (rest : List (Summand Range)) → first_of (later_tests f w (products away (drop i cs) x ++ rest)) ≡ Some e
product_stops f away cs i x w e r h was refuses rest =
    let some = sym refuses ∙ refusal-err r e was in
    product_more f away cs i x w rest h ∙ rw some refl

-- ---- a whole sample
first_test : (f : Format) (c : ℤ) (x : Range) (rest : List (Summand Range)) → let p = product_interval f c x in
    first_of (interval_tests f 0 (p ∷ later_intervals f p rest)) ≡ or_else (first_of (interval_tests f 0 (p ∷ []))) (first_of (later_tests f (first_walk f c x) rest))
first_test f c x rest =
    let p = product_interval f c x in
    first_before (not (are_words f p)) (refusal.Interval 0 p.low p.high) (interval_tests f 1 (later_intervals f p rest))

-- the tests of a sample are those of its first product and those of both rows
pub sample_parts : (f : Format) (bs cs : List ℤ) (x y : Range) → 1 ≤ length bs
    → first_of (interval_tests f 0 (line_intervals f (summands false bs (λ i. x) 0 ++ summands true cs (λ i. y) 0)))
    ≡ or_else (first_of (interval_tests f 0 (product_interval f (get_or bs 0 (pos 0)) x ∷ [])))
    (first_of (later_tests f (first_walk f (get_or bs 0 (pos 0)) x) (products false (drop 1 bs) x ++ products true cs y)))
sample_parts f [] cs x y h = absurd (omega arith)
sample_parts f (b ∷ bs) cs x y h =
    ap (λ ts. first_of (interval_tests f 0 (line_intervals f (Times false b x ∷ ts ++ summands true cs (λ i. y) 0)))) (summands_alike false bs x 1)
    ∙ ap (λ ts. first_of (interval_tests f 0 (line_intervals f (Times false b x ∷ products false bs x ++ ts)))) (summands_alike true cs y 0)
    ∙ first_test f b x (products false bs x ++ products true cs y)

-- the last row, which nothing follows
pub last_row : (f : Format) (ps : List (Summand Range)) (w : Walk) (r : Result Walk EllipsoidRefusal) (o : Option EllipsoidRefusal) → IsWalked f ps w r → refusal_of r ≡ o → first_of (later_tests f w ps) ≡ o
last_row f ps w r o h is = ap (λ ts. first_of (later_tests f w ts)) (sym (append-nil ps)) ∙ h [] ∙ nothing_then r ∙ is
  where
    nothing_then : (r : Result Walk EllipsoidRefusal) → refusal_then f r [] ≡ refusal_of r
    nothing_then (Ok w) = refl
    nothing_then (Err e) = refl

-- a sample whose first product is refused
pub first_refused : (f : Format) (bs cs : List ℤ) (x y : Range) (r : Result Walk EllipsoidRefusal) (e : EllipsoidRefusal) → 1 ≤ length bs → r ≡ Err e
    → refusal_of r ≡ first_of (interval_tests f 0 (product_interval f (get_or bs 0 (pos 0)) x ∷ []))
    → first_of (interval_tests f 0 (line_intervals f (summands false bs (λ i. x) 0 ++ summands true cs (λ i. y) 0))) ≡ Some e
first_refused f bs cs x y r e some was refuses =
    let own = sym refuses ∙ refusal-err r e was in
    sample_parts f bs cs x y some ∙ rw own refl

-- and one whose first row is walked after it
pub row_walked : (f : Format) (bs cs : List ℤ) (x y : Range) (r : Result Walk EllipsoidRefusal) (v : Walk) (s : Result Walk EllipsoidRefusal) → 1 ≤ length bs → r ≡ Ok v
    → refusal_of r ≡ first_of (interval_tests f 0 (product_interval f (get_or bs 0 (pos 0)) x ∷ [])) → v ≡ first_walk f (get_or bs 0 (pos 0)) x
    → IsWalked f (products false (drop 1 bs) x) v s
    → first_of (interval_tests f 0 (line_intervals f (summands false bs (λ i. x) 0 ++ summands true cs (λ i. y) 0))) ≡ refusal_then f s (products true cs y)
row_walked f bs cs x y r v s some was refuses next walked =
    let none = sym refuses ∙ refusal-ok r v was in
    let after = rw next at (walked (products true cs y)) in
    sample_parts f bs cs x y some ∙ rw none after

-- the tests of a line, by equal parts
pub line_tests_same : (o : Option EllipsoidRefusal) (f g : Format) (bs ds cs es : List ℤ) (x v y w : Range) → f ≡ g → bs ≡ ds → x ≡ v → cs ≡ es → y ≡ w
    → o ≡ first_of (interval_tests f 0 (line_intervals f (summands false bs (λ i. x) 0 ++ summands true cs (λ i. y) 0)))
    → o ≡ first_of (interval_tests g 0 (line_intervals g (summands false ds (λ i. v) 0 ++ summands true es (λ i. w) 0)))
line_tests_same o f g bs ds cs es x v y w p q r s t h = rw (← p, ← q, ← r, ← s, ← t) h
