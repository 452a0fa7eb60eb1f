-- The texts of forms.
use Rattle.std.specs.Prelude.{ℕ, List, [], ◌∷◌, ◌++◌, take, codes, ℤ}
use Rattle.std.specs.List.{flat_map}
use Rattle.std.specs.Fmt.{signed_decimal}
use Rattle.dsv_base.specs.Text.{spaced_text, line_of}
use Rattle.dsv_forms.specs.declared.offers.Form.{Form}
use Rattle.dsv_report.specs.Fragments.{concatenation}

-- a word and numbers after it, up to the end of the line
abbrev pub numbers_line : List ℕ → List ℤ → List ℕ
numbers_line = line_of signed_decimal

-- a line for each row of a form
abbrev pub rows_text : List ℕ → Form → List ℕ
rows_text word form = flat_map (λ row. numbers_line word (take form.d row)) (take form.d form.rows)

-- the form and what it loses in a step
abbrev pub fall_text : Form → Form → List ℕ
fall_text form fall = rows_text (codes "form") form ++ rows_text (codes "fall") fall

-- the same after the polynomial
abbrev pub form_text : List ℤ → Form → Form → List ℕ
form_text poly form fall = numbers_line (codes "polynomial") poly ++ fall_text form fall

abbrev pub value_text : ℤ → List ℕ
value_text value = concatenation (codes " value " ∷ signed_decimal value ∷ codes "\n" ∷ [])

-- where a form is negative, and its value there
abbrev pub start_text : List ℤ → ℤ → List ℕ
start_text start value = codes "start" ++ flat_map (spaced_text signed_decimal) start
    ++ value_text value
