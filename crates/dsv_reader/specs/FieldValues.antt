-- What the value of a field is, by its kind.
use Rattle.std.specs.Prelude.{ℕ, ◌==◌, Bool, List, Result, Ok}
use Rattle.dsv_fraction.specs.Ratio.{Ratio}
use Rattle.dsv_token.specs.declared.refusal.FileRefusal.{FileRefusal}
use Rattle.dsv_syntax.specs.declared.entry.Entry.{Entry}
use Rattle.dsv_text.specs.Stages.{◌>>=◌}
use Rattle.dsv_reader.specs.declared.numbers.SpelledNumber.{SpelledNumber}
use Rattle.dsv_reader.specs.declared.numbers.Coefficient.{Coefficient}
use Rattle.dsv_reader.specs.Numbers.{only_of, whole_number_at}
use Rattle.dsv_reader.specs.Numbers.{bounded_at, decimal_at, time_at, coefficients_of}

-- one to nine decimals
abbrev pub list_in : List ℕ → Entry → Result (List Coefficient) FileRefusal
list_in bytes e = coefficients_of bytes e.place e.numbers

abbrev pub whole_number_in : List ℕ → Entry → Result SpelledNumber FileRefusal
whole_number_in bytes e = only_of e.place e.numbers >>= λ t. whole_number_at bytes t

abbrev pub bounded_in : ℕ → ℕ → List ℕ → Entry → Result ℕ FileRefusal
bounded_in least greatest bytes e = only_of e.place e.numbers
    >>= λ t. bounded_at least greatest bytes t

-- 0 for no and 1 for yes
abbrev pub flag_in : List ℕ → Entry → Result Bool FileRefusal
flag_in bytes e = bounded_in 0 1 bytes e >>= λ n. Ok (n == 1)

abbrev pub time_in : List ℕ → Entry → Result Ratio FileRefusal
time_in bytes e = only_of e.place e.numbers >>= λ t. time_at bytes t

abbrev pub decimal_in : List ℕ → Entry → Result Ratio FileRefusal
decimal_in bytes e = only_of e.place e.numbers >>= λ t. decimal_at bytes t >>= λ c. Ok c.value
