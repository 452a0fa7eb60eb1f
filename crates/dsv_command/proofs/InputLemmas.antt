-- The inputs of a simulation, piece after piece.
use Rattle.std.proofs.Common.{◌≡◌, ◌∙◌, sym, ap, ℕ, suc, ◌+◌, ◌<◌, ◌≤◌, Bool, true, false, not, cond, List, [], ◌∷◌, ◌++◌, length, take, drop, Option, Some, None, ℤ, refl, arith, length-append}
use native.Mathlib.Numerals.{unary_clauses}
use Rattle.std.proofs.lemmas.Bool.{lt-leb, le-leb}
use Rattle.std.proofs.lemmas.List.{append_assoc, append-nil}
use Rattle.std.specs.Prelude.{nat_le, if◌then◌else◌, option_map}
use Rattle.std.specs.List.{position_or_len, before_first, after_first}
use Rattle.dsv_command.specs.Inputs.{is_comma, onto_first, pieces, input_of, all_inputs, most_inputs}

-- ---- pieces
cut_at : (byte : ℕ) (bs : List ℕ) (p n : ℕ) → n ≡ suc p
    → (byte ∷ take p bs) ∷ pieces (drop (p + 1) bs) ≡ take n (byte ∷ bs) ∷ pieces (drop (n + 1) (byte ∷ bs))
cut_at byte bs p n e = rw e (simp unary_clauses refl)

cut_step : (byte : ℕ) (bs : List ℕ) (c : Bool)
    → (position_or_len is_comma bs < length bs → pieces bs ≡ before_first is_comma bs ∷ pieces (after_first is_comma bs))
    → let n = cond (not c) (1 + position_or_len is_comma bs) 0 in
    n < suc (length bs) → (if c then [] ∷ pieces bs else onto_first byte (pieces bs)) ≡ take n (byte ∷ bs) ∷ pieces (drop (n + 1) (byte ∷ bs))
cut_step byte bs true ih h = refl
cut_step byte bs false ih h = rw (ih (omega arith)) (cut_at byte bs (position_or_len is_comma bs) (1 + position_or_len is_comma bs) (omega arith))

-- a comma ends the first piece
pub cut : (text : List ℕ) → position_or_len is_comma text < length text → pieces text ≡ before_first is_comma text ∷ pieces (after_first is_comma text)
cut [] h = absurd (omega arith)
cut (b ∷ bs) h = cut_step b bs (is_comma b) (cut bs) h

whole_step : (byte : ℕ) (bs : List ℕ) (c : Bool) → (position_or_len is_comma bs ≡ length bs → pieces bs ≡ bs ∷ [])
    → cond (not c) (1 + position_or_len is_comma bs) 0 ≡ suc (length bs)
    → (if c then [] ∷ pieces bs else onto_first byte (pieces bs)) ≡ (byte ∷ bs) ∷ []
whole_step byte bs true ih h = absurd (omega arith)
whole_step byte bs false ih h = rw (ih (omega arith)) refl

-- and both parts may be given by their names
pub turn : (text first others : List ℕ) → position_or_len is_comma text < length text → first ≡ before_first is_comma text → others ≡ after_first is_comma text
    → pieces text ≡ first ∷ pieces others
turn text first others h f o = rw (f, o) (cut text h)

-- a text without a comma is one piece
pub uncut : (text : List ℕ) → position_or_len is_comma text ≡ length text → pieces text ≡ text ∷ []
uncut [] h = refl
uncut (b ∷ bs) h = whole_step b bs (is_comma b) (uncut bs) h

-- ---- what is read, and what is left of the text
abbrev pub with_prefix : List ℤ → List (List ℕ) → Option (List ℤ)
with_prefix front ps = if nat_le (length front + length ps) most_inputs then option_map (λ others. front ++ others) (all_inputs ps) else None

abbrev nothing : Option (List ℤ)
nothing = None

neither : (b : Bool) → (if b then nothing else nothing) ≡ nothing
neither true = refl
neither false = refl

pub no_input : (front : List ℤ) (p : List ℕ) (ps : List (List ℕ)) → input_of p ≡ None → with_prefix front (p ∷ ps) ≡ None
no_input front p ps e = rw e (neither (nat_le (length front + suc (length ps)) most_inputs))

joined : (front : List ℤ) (n : ℤ) (others : Option (List ℤ))
    → option_map (λ o. front ++ o) (option_map (λ o. n ∷ o) others) ≡ option_map (λ o. (front ++ n ∷ []) ++ o) others
joined front n None = refl
joined front n (Some o) = ap Some (sym (append_assoc front (n ∷ []) o))

pub one_more : (front : List ℤ) (p : List ℕ) (ps : List (List ℕ)) (n : ℤ) → input_of p ≡ Some n
    → with_prefix front (p ∷ ps) ≡ with_prefix (front ++ n ∷ []) ps
one_more front p ps n e =
    let long : length front + suc (length ps) ≡ length (front ++ n ∷ []) + length ps = omega (arith, length-append front (n ∷ [])) in
    rw e (rw long (rw (joined front n (all_inputs ps)) refl))

pub too_many : (front : List ℤ) (p : List ℕ) (ps : List (List ℕ)) → 64 ≤ length front → with_prefix front (p ∷ ps) ≡ None
too_many front p ps h = rw (lt-leb (length front + suc (length ps)) most_inputs (omega arith)) refl

ended : (front : List ℤ) → length front ≤ 64 → with_prefix front [] ≡ Some front
ended front h = rw (le-leb (length front + 0) most_inputs (omega arith)) (ap Some (append-nil front))

pub last_one : (front : List ℤ) (p : List ℕ) (n : ℤ) → input_of p ≡ Some n → length front < 64
    → with_prefix front (p ∷ []) ≡ Some (front ++ n ∷ [])
last_one front p n e h = one_more front p [] n e ∙ ended (front ++ n ∷ []) (omega (arith, length-append front (n ∷ [])))
