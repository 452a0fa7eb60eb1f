-- DIMACS text as a formula, byte by byte as it is read. Which texts are of a formula stands in
-- `Texts`, and why the others are of none in `TextFaults`.
use Rattle.std.specs.Prelude.{◌≡◌, ℕ, ◌+◌, ◌-◌, ◌*◌, ◌^◌, Bool, true, false, not}
use Rattle.std.specs.Prelude.{◌&&◌, ◌==◌, ◌⊎◌, nat_lt, List, [], ◌∷◌, ◌++◌, length}
use Rattle.std.specs.Prelude.{drop, codes, cond, Option, Some, None, Result, Ok, Err, ◌<◌}
use Rattle.dsv_text.specs.Bytes.{is_blank, is_digit}
use Rattle.dsv_text.specs.Stages.{and_then}
use Rattle.dsv_cnf.specs.Literal.{Literal}
use Rattle.dsv_cnf.specs.FormulaView.{FormulaView}
use Rattle.dsv_cnf.specs.ReadingView.{ReadingView}
use Rattle.dsv_cnf.specs.declared.reader.CnfRefusal.{CnfRefusal}
use Rattle.dsv_cnf.specs.declared.reader.CnfRefusal.TheVariants as refusal
use Rattle.dsv_cnf.specs.declared.reader.Header.{Header}
use Rattle.dsv_cnf.specs.declared.reader.Number.{Number}
use Rattle.dsv_cnf.specs.declared.reader.Piece.{Piece}
use Rattle.dsv_cnf.specs.declared.reader.Piece.TheVariants as part

-- a refusal is the text's, or there was no memory
abbrev pub IsRefusal : {X : Type 0} → Result X CnfRefusal → CnfRefusal → Type 0
IsRefusal answer why = (why ≡ refusal.NoMemory) ⊎ (answer ≡ Err why)

-- ---- the header

-- where the comment lines end: each begins with `c`
abbrev pub comments_end : Bool → List ℕ → ℕ → ℕ
comments_end inside [] at = at
comments_end true (b ∷ bs) at = comments_end (not (b == 10)) bs (at + 1)
comments_end false (b ∷ bs) at = cond (b == 99) (comments_end true bs (at + 1)) at

-- where a word ends that has to stand here
abbrev pub word_end : List ℕ → List ℕ → ℕ → Result ℕ CnfRefusal
word_end [] text at = Ok at
word_end (w ∷ ws) [] at = Err (refusal.Header at)
word_end (w ∷ ws) (b ∷ bs) at = cond (b == w) (word_end ws bs (at + 1)) (Err (refusal.Header at))

-- the number of all digits from here on, after those of the value; one that is over the limit is
-- refused where it began
abbrev pub digits_end : ℕ → ℕ → ℕ → List ℕ → ℕ → Result Number CnfRefusal
digits_end limit start value [] at = Ok (record { value = value; end = at })
digits_end limit start value (b ∷ bs) at =
    cond (is_digit b)
    (cond (nat_lt limit (10 * value + (b - 48))) (Err (refusal.Header start))
    (digits_end limit start (10 * value + (b - 48)) bs (at + 1)))
    (Ok (record { value = value; end = at }))

-- a number that has to stand here, with no sign and no leading zeros
abbrev pub number_end : ℕ → List ℕ → ℕ → Result Number CnfRefusal
number_end limit [] at = Err (refusal.Header at)
number_end limit (b ∷ bs) at =
    cond (is_digit b) (cond (b == 48) (Ok (record { value = 0; end = at + 1 }))
    (digits_end limit at 0 (b ∷ bs) at)) (Err (refusal.Header at))

-- the header from this offset on: `p cnf V C` and a line feed
abbrev pub header_of : List ℕ → ℕ → Result Header CnfRefusal
header_of bytes at =
    and_then (word_end (codes "p cnf ") (drop at bytes) at) (λ v.
    and_then (number_end (2 ^ 31) (drop v bytes) v) (λ vars.
    and_then (word_end (codes " ") (drop vars.end bytes) vars.end) (λ c.
    and_then (number_end (2 ^ 32 - 1) (drop c bytes) c) (λ clauses.
    and_then (word_end (codes "\n") (drop clauses.end bytes) clauses.end) (λ end.
    Ok (record { vars = vars.value; clauses = clauses.value; end = end }))))))

-- ---- the clauses

abbrev pub digits_from : ℕ → ℕ → List ℕ → Option ℕ
digits_from limit value [] = Some value
digits_from limit value (b ∷ bs) =
    cond (is_digit b) (cond (nat_lt limit (10 * value + (b - 48))) None
    (digits_from limit (10 * value + (b - 48)) bs)) None

-- the number that a text writes with no sign and no leading zeros, where it is at most the limit
abbrev pub number_of : ℕ → List ℕ → Option ℕ
number_of limit [] = None
number_of limit (b ∷ bs) =
    cond ((b == 48) && nat_lt 1 (length (b ∷ bs))) None (digits_from limit 0 (b ∷ bs))

abbrev pub part_of_number : Bool → Option ℕ → Piece
part_of_number positive None = part.Wrong
part_of_number positive (Some n) =
    cond (n == 0) (cond positive part.End part.Wrong)
    (part.Is (record { var = n - 1; positive = positive }))

-- what stands between two blanks: nothing, the 0 of a clause's end, a literal over so many
-- variables, or anything else
abbrev pub part_of : ℕ → List ℕ → Piece
part_of vars [] = part.Nothing
part_of vars (b ∷ bs) = cond (b == 45) (part_of_number false (number_of vars bs))
    (part_of_number true (number_of vars (b ∷ bs)))

abbrev pub IsPartOver : ℕ → Piece → Type 0
IsPartOver vars (part.Is l) = l.var < vars
IsPartOver vars part.Nothing = Unit {0}
IsPartOver vars part.End = Unit {0}
IsPartOver vars part.Wrong = Unit {0}

-- a clause's end; clauses over the header's number are only noted
abbrev pub end_clause : ReadingView → ReadingView
end_clause r =
    cond (nat_lt (length r.clauses) r.wanted)
    (record r { clauses = r.clauses ++ r.open_clause ∷ []; open_clause = [] })
    (record r { over = true; open_clause = [] })

abbrev pub after_part : ReadingView → Piece → ℕ → Result ReadingView CnfRefusal
after_part r part.Nothing at = Ok r
after_part r part.End at = Ok (end_clause r)
after_part r (part.Is l) at = Ok (record r { open_clause = r.open_clause ++ l ∷ [] })
after_part r part.Wrong at = Err (refusal.Literal at)

-- what stands between two blanks is read, from this offset on
abbrev pub take_part : ReadingView → List ℕ → ℕ → Result ReadingView CnfRefusal
take_part r text at = after_part r (part_of r.vars text) at

-- the bytes that are left are read, after those of `text`, which has no blank and begins at the
-- offset `at`
abbrev pub clauses_from : List ℕ → List ℕ → ℕ → ReadingView → Result ReadingView CnfRefusal
clauses_from [] text at r = take_part r text at
clauses_from (b ∷ bs) text at r =
    cond (is_blank b) (and_then (take_part r text at) (clauses_from bs [] (at + length text + 1)))
    (clauses_from bs (text ++ b ∷ []) at r)

abbrev pub is_nil : List Literal → Bool
is_nil [] = true
is_nil (l ∷ ls) = false

-- the formula, where the text ends at this offset
abbrev pub finish : ReadingView → ℕ → Result FormulaView CnfRefusal
finish r at = cond ((length r.clauses == r.wanted)
    && (not r.over && is_nil r.open_clause)) (Ok
    (record { vars = r.vars; clauses = r.clauses })) (Err (refusal.Count at))

-- no clauses yet
abbrev pub empty_reading : Header → ReadingView
empty_reading h = record {
  vars = h.vars;
  wanted = h.clauses;
  clauses = [];
  open_clause = [];
  over = false;
}

-- the formula that a text writes, or the first refusal
abbrev pub reading : List ℕ → Result FormulaView CnfRefusal
reading bytes =
    and_then (header_of bytes (comments_end false bytes 0)) (λ h.
    and_then (clauses_from (drop h.end bytes) [] h.end (empty_reading h)) (λ r.
    finish r (length bytes)))
