-- Circuits of words. Lists of literals begin with the lowest bit.
use Rattle.std.specs.Prelude.{ℕ, zero, suc, ◌+◌, ◌-◌, ◌*◌, ◌/◌, ◌%◌, ◌==◌, Bool, true, false, cond}
use Rattle.std.specs.Prelude.{List, [], ◌∷◌, ◌++◌, length, map, take, drop, replicate}
use Rattle.std.specs.Prelude.{slice_index_or}
use Rattle.dsv_cnf.specs.Literal.{Literal, negation, literal_value}
use Rattle.dsv_blast.specs.CircuitView.{CircuitView, Wired, Built}
use Rattle.dsv_blast.specs.Gates.{zero_of, folded, and_wired, exclusive_wired}
use Rattle.dsv_blast.specs.Gates.{parity_wired, majority_wired, choice_wired}

-- the values of literals
abbrev pub bits_value : (ℕ → Bool) → List Literal → List Bool
bits_value v ls = map (literal_value v) ls

abbrev pub bit : Bool → ℕ
bit b = cond b 1 0

-- the number that bits spell
abbrev pub number_of : List Bool → ℕ
number_of [] = 0
number_of (b ∷ bs) = bit b + 2 * number_of bs

abbrev pub built : CircuitView → List Literal → Built
built c ls = record { circuit = c; bits = ls }

abbrev pub built_bit : Wired → Built
built_bit r = built r.circuit (r.bit ∷ [])

-- ---- bit by bit

-- a gate for each two bits, after the bits of earlier ones
abbrev pub zip_from : (CircuitView → Literal → Literal → Wired) → List Literal → List Literal
    → CircuitView → List Literal → Built
zip_from gate [] bs c out = built c out
zip_from gate (a ∷ la) [] c out = built c out
zip_from gate (a ∷ la) (b ∷ bs) c out =
    zip_from gate la bs (gate c a b).circuit (out ++ (gate c a b).bit ∷ [])

-- a number's lowest bits
abbrev pub constant_bits : Literal → ℕ → ℕ → List Literal
constant_bits one zero n = []
constant_bits one (suc w) n =
    cond (n % 2 == 1) one (negation one) ∷ constant_bits one w (n / 2)

abbrev pub negations : List Literal → List Literal
negations ls = map negation ls

-- the highest bit turned over, so that the order without signs is that with signs
abbrev pub sign_turned : List Literal → List Literal
sign_turned ls = take (length ls - 1) ls ++ negations (drop (length ls - 1) ls)

-- the highest bit
abbrev pub sign_of : Literal → List Literal → Literal
sign_of zero_bit ls = slice_index_or ls (length ls - 1) zero_bit

-- so many bits more, each the highest bit
abbrev pub extended : Literal → ℕ → List Literal → List Literal
extended zero_bit width ls = ls ++ replicate (width - length ls) (sign_of zero_bit ls)

-- ---- sums

-- the full adders of a sum with a carry `k`, after the bits of earlier ones
abbrev pub add_from : List Literal → List Literal → Literal → CircuitView → List Literal → Built
add_from [] bs k c out = built c out
add_from (a ∷ la) [] k c out = built c out
add_from (a ∷ la) (b ∷ bs) k c out =
    let sum = parity_wired c a b k in
    let carry = majority_wired sum.circuit a b k in
    add_from la bs carry.bit carry.circuit (out ++ sum.bit ∷ [])

-- the carry that comes out of a sum
abbrev pub carry_from : List Literal → List Literal → Literal → CircuitView → Wired
carry_from [] bs k c = folded c k
carry_from (a ∷ la) [] k c = folded c k
carry_from (a ∷ la) (b ∷ bs) k c =
    carry_from la bs (majority_wired c a b k).bit (majority_wired c a b k).circuit

abbrev pub sum_built : CircuitView → List Literal → List Literal → Built
sum_built c la lb = add_from la lb (zero_of c) c []

abbrev pub difference_built : CircuitView → List Literal → List Literal → Built
difference_built c la lb = add_from la (negations lb) c.one c []

-- the first number is at least the second: no borrow
abbrev pub at_least_wired : CircuitView → List Literal → List Literal → Wired
at_least_wired c la lb = carry_from la (negations lb) c.one c

-- the literal `k` and whether the bits are the same
abbrev pub same_from : List Literal → List Literal → Literal → CircuitView → Wired
same_from [] bs k c = folded c k
same_from (a ∷ la) [] k c = folded c k
same_from (a ∷ la) (b ∷ bs) k c =
    let apart = exclusive_wired c a b in
    let same = and_wired apart.circuit k (negation apart.bit) in
    same_from la bs same.bit same.circuit

-- the copy is added where the multiplier is odd
abbrev pub added_if : Bool → List Literal → CircuitView → List Literal → Built
added_if false copy c sum = built c sum
added_if true copy c sum = sum_built c sum copy

-- the bits of a number after as many zeros: a part of it that begins so far below the number is a
-- copy that is shifted so far
abbrev pub after_zeros : Literal → List Literal → List Literal
after_zeros zero_bit ls = replicate (length ls) zero_bit ++ ls

abbrev pub shifted_copy : ℕ → ℕ → List Literal → List Literal
shifted_copy width place ls = take width (drop place ls)

-- a sum of shifted copies, one for each bit of the multiplier, lowest first
abbrev pub multiple_from : ℕ → ℕ → ℕ → List Literal → CircuitView → List Literal → Built
multiple_from width zero n ls c sum = built c sum
multiple_from width (suc place) n ls c sum =
    let next = added_if (n % 2 == 1) (shifted_copy width (suc place) ls) c sum in
    multiple_from width place (n / 2) ls next.circuit next.bits

abbrev pub multiple_built : CircuitView → ℕ → List Literal → Built
multiple_built c n ls =
    multiple_from (length ls) (length ls) n (after_zeros (zero_of c) ls) c
    (replicate (length ls) (zero_of c))

-- ---- choice

abbrev pub choice_from : Literal → List Literal → List Literal → CircuitView → List Literal → Built
choice_from k [] bs c out = built c out
choice_from k (a ∷ la) [] c out = built c out
choice_from k (a ∷ la) (b ∷ bs) c out =
    choice_from k la bs (choice_wired c k a b).circuit (out ++ (choice_wired c k a b).bit ∷ [])
