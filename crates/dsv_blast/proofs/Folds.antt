-- Truths that a gate's function is where two of its arguments are known, equal or opposite.
use Rattle.std.proofs.Common.{◌≡◌, Bool, true, false, not, ◌||◌, ◌&&◌, cond, refl}
use Rattle.dsv_blast.specs.Gates.{exclusive, majority}

pub and_equal : (x y : Bool) → x ≡ y → x ≡ (x && y)
and_equal true true e = refl
and_equal true false e = cc
and_equal false true e = cc
and_equal false false e = refl

pub and_opposite : (x y : Bool) → x ≡ not y → false ≡ (x && y)
and_opposite true true e = cc
and_opposite true false e = refl
and_opposite false true e = refl
and_opposite false false e = cc

pub and_first_true : (x y : Bool) → x ≡ true → y ≡ (x && y)
and_first_true true true e = refl
and_first_true true false e = refl
and_first_true false true e = cc
and_first_true false false e = cc

pub and_second_true : (x y : Bool) → y ≡ true → x ≡ (x && y)
and_second_true true true e = refl
and_second_true true false e = cc
and_second_true false true e = refl
and_second_true false false e = cc

pub and_first_false : (x y : Bool) → x ≡ false → x ≡ (x && y)
and_first_false true true e = cc
and_first_false true false e = cc
and_first_false false true e = refl
and_first_false false false e = refl

pub and_second_false : (x y : Bool) → y ≡ false → y ≡ (x && y)
and_second_false true true e = cc
and_second_false true false e = refl
and_second_false false true e = cc
and_second_false false false e = refl

pub exclusive_equal : (x y : Bool) → x ≡ y → false ≡ exclusive x y
exclusive_equal true true e = refl
exclusive_equal true false e = cc
exclusive_equal false true e = cc
exclusive_equal false false e = refl

pub exclusive_opposite : (x y : Bool) → x ≡ not y → true ≡ exclusive x y
exclusive_opposite true true e = cc
exclusive_opposite true false e = refl
exclusive_opposite false true e = refl
exclusive_opposite false false e = cc

pub exclusive_first_true : (x y : Bool) → x ≡ true → not y ≡ exclusive x y
exclusive_first_true true true e = refl
exclusive_first_true true false e = refl
exclusive_first_true false true e = cc
exclusive_first_true false false e = cc

pub exclusive_second_true : (x y : Bool) → y ≡ true → not x ≡ exclusive x y
exclusive_second_true true true e = refl
exclusive_second_true true false e = cc
exclusive_second_true false true e = refl
exclusive_second_true false false e = cc

pub exclusive_first_false : (x y : Bool) → x ≡ false → y ≡ exclusive x y
exclusive_first_false true true e = cc
exclusive_first_false true false e = cc
exclusive_first_false false true e = refl
exclusive_first_false false false e = refl

pub exclusive_second_false : (x y : Bool) → y ≡ false → x ≡ exclusive x y
exclusive_second_false true true e = cc
exclusive_second_false true false e = refl
exclusive_second_false false true e = cc
exclusive_second_false false false e = refl

pub or_by_and : (x y : Bool) → not (not x && not y) ≡ (x || y)
or_by_and true true = refl
or_by_and true false = refl
or_by_and false true = refl
or_by_and false false = refl

pub parity_second : (x y z : Bool) → exclusive (exclusive x z) y ≡ exclusive (exclusive x y) z
parity_second true true true = refl
parity_second true true false = refl
parity_second true false true = refl
parity_second true false false = refl
parity_second false true true = refl
parity_second false true false = refl
parity_second false false true = refl
parity_second false false false = refl

pub parity_third : (x y z : Bool) → exclusive (exclusive y z) x ≡ exclusive (exclusive x y) z
parity_third true true true = refl
parity_third true true false = refl
parity_third true false true = refl
parity_third true false false = refl
parity_third false true true = refl
parity_third false true false = refl
parity_third false false true = refl
parity_third false false false = refl

pub majority_first : (x y z : Bool) → cond (exclusive x y) z x ≡ majority x y z
majority_first true true true = refl
majority_first true true false = refl
majority_first true false true = refl
majority_first true false false = refl
majority_first false true true = refl
majority_first false true false = refl
majority_first false false true = refl
majority_first false false false = refl

pub majority_second : (x y z : Bool) → cond (exclusive x z) y x ≡ majority x y z
majority_second true true true = refl
majority_second true true false = refl
majority_second true false true = refl
majority_second true false false = refl
majority_second false true true = refl
majority_second false true false = refl
majority_second false false true = refl
majority_second false false false = refl

pub majority_third : (x y z : Bool) → cond (exclusive y z) x y ≡ majority x y z
majority_third true true true = refl
majority_third true true false = refl
majority_third true false true = refl
majority_third true false false = refl
majority_third false true true = refl
majority_third false true false = refl
majority_third false false true = refl
majority_third false false false = refl

pub choice_true : (k x y : Bool) → k ≡ true → x ≡ cond k x y
choice_true true true true e = refl
choice_true true true false e = refl
choice_true true false true e = refl
choice_true true false false e = refl
choice_true false true true e = cc
choice_true false true false e = cc
choice_true false false true e = cc
choice_true false false false e = cc

pub choice_false : (k x y : Bool) → k ≡ false → y ≡ cond k x y
choice_false true true true e = cc
choice_false true true false e = cc
choice_false true false true e = cc
choice_false true false false e = cc
choice_false false true true e = refl
choice_false false true false e = refl
choice_false false false true e = refl
choice_false false false false e = refl

pub choice_equal : (k x y : Bool) → x ≡ y → x ≡ cond k x y
choice_equal true true true e = refl
choice_equal true true false e = cc
choice_equal true false true e = cc
choice_equal true false false e = refl
choice_equal false true true e = refl
choice_equal false true false e = cc
choice_equal false false true e = cc
choice_equal false false false e = refl

pub choice_opposite : (k x y : Bool) → x ≡ not y → exclusive k y ≡ cond k x y
choice_opposite true true true e = cc
choice_opposite true true false e = refl
choice_opposite true false true e = refl
choice_opposite true false false e = cc
choice_opposite false true true e = cc
choice_opposite false true false e = refl
choice_opposite false false true e = refl
choice_opposite false false false e = cc

pub choice_first_true : (k x y : Bool) → x ≡ true → (k || y) ≡ cond k x y
choice_first_true true true true e = refl
choice_first_true true true false e = refl
choice_first_true true false true e = cc
choice_first_true true false false e = cc
choice_first_true false true true e = refl
choice_first_true false true false e = refl
choice_first_true false false true e = cc
choice_first_true false false false e = cc

pub choice_first_test : (k x y : Bool) → x ≡ k → (k || y) ≡ cond k x y
choice_first_test true true true e = refl
choice_first_test true true false e = refl
choice_first_test true false true e = cc
choice_first_test true false false e = cc
choice_first_test false true true e = cc
choice_first_test false true false e = cc
choice_first_test false false true e = refl
choice_first_test false false false e = refl

pub choice_first_false : (k x y : Bool) → x ≡ false → (not k && y) ≡ cond k x y
choice_first_false true true true e = cc
choice_first_false true true false e = cc
choice_first_false true false true e = refl
choice_first_false true false false e = refl
choice_first_false false true true e = cc
choice_first_false false true false e = cc
choice_first_false false false true e = refl
choice_first_false false false false e = refl

pub choice_first_untest : (k x y : Bool) → x ≡ not k → (not k && y) ≡ cond k x y
choice_first_untest true true true e = cc
choice_first_untest true true false e = cc
choice_first_untest true false true e = refl
choice_first_untest true false false e = refl
choice_first_untest false true true e = refl
choice_first_untest false true false e = refl
choice_first_untest false false true e = cc
choice_first_untest false false false e = cc

pub choice_second_true : (k x y : Bool) → y ≡ true → (not k || x) ≡ cond k x y
choice_second_true true true true e = refl
choice_second_true true true false e = cc
choice_second_true true false true e = refl
choice_second_true true false false e = cc
choice_second_true false true true e = refl
choice_second_true false true false e = cc
choice_second_true false false true e = refl
choice_second_true false false false e = cc

pub choice_second_untest : (k x y : Bool) → y ≡ not k → (not k || x) ≡ cond k x y
choice_second_untest true true true e = cc
choice_second_untest true true false e = refl
choice_second_untest true false true e = cc
choice_second_untest true false false e = refl
choice_second_untest false true true e = refl
choice_second_untest false true false e = cc
choice_second_untest false false true e = refl
choice_second_untest false false false e = cc

pub choice_second_false : (k x y : Bool) → y ≡ false → (k && x) ≡ cond k x y
choice_second_false true true true e = cc
choice_second_false true true false e = refl
choice_second_false true false true e = cc
choice_second_false true false false e = refl
choice_second_false false true true e = cc
choice_second_false false true false e = refl
choice_second_false false false true e = cc
choice_second_false false false false e = refl

pub choice_second_test : (k x y : Bool) → y ≡ k → (k && x) ≡ cond k x y
choice_second_test true true true e = refl
choice_second_test true true false e = cc
choice_second_test true false true e = refl
choice_second_test true false false e = cc
choice_second_test false true true e = cc
choice_second_test false true false e = refl
choice_second_test false false true e = cc
choice_second_test false false false e = refl
