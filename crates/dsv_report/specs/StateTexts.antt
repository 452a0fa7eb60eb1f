-- The texts of what is found of state-space controllers, and of why their files are refused.
use Rattle.std.specs.Prelude.{ℕ, List, [], ◌∷◌, codes, pos}
use Rattle.std.specs.Fmt.{signed_decimal}
use Rattle.dsv_state_file.specs.declared.refusal.StateRefusal.{StateRefusal}
use Rattle.dsv_state_file.specs.declared.refusal.StateRefusal.TheVariants as refusal
use Rattle.dsv_state_space.specs.Places.{place_name}
use Rattle.dsv_state_space.specs.declared.refusal.StateQuantRefusal.{StateQuantRefusal}
use Rattle.dsv_state_space.specs.declared.refusal.StateQuantRefusal.TheVariants as quant
use Rattle.dsv_report.specs.Fragments.{concatenation}
use Rattle.dsv_report.specs.Lines.{number_line}

-- ---- forms
-- that no form was found
abbrev pub no_state_form_text : List ℕ
no_state_form_text = codes "cause NO_FORM\n"

-- ---- refusals
-- the code and the name of a refusal of the text
unfoldable pub state_code : StateRefusal → List ℕ
state_code (refusal.Line line) = codes "STATE FILE REFUSED 41 LINE "
state_code (refusal.Number line place) = codes "STATE FILE REFUSED 42 NUMBER "
state_code (refusal.Width line) = codes "STATE FILE REFUSED 43 WIDTH "

-- its fields after them
abbrev pub state_text_after : List ℕ → StateRefusal → List ℕ
state_text_after code (refusal.Line line) = number_line code line
state_text_after code (refusal.Number line place) = concatenation
    (code ∷ signed_decimal (pos line) ∷ codes " " ∷ signed_decimal (pos place) ∷ codes "\n" ∷ [])
state_text_after code (refusal.Width line) = number_line code line

abbrev pub state_text : StateRefusal → List ℕ
state_text r = state_text_after (state_code r) r

-- the code and the name of a refusal of the words
unfoldable pub state_quant_code : StateQuantRefusal → List ℕ
state_quant_code (quant.CoefficientRange of row column wanted) =
    codes "STATE FILE REFUSED 44 COEFFICIENT_RANGE "
state_quant_code (quant.FractionWide of row column) =
    codes "STATE FILE REFUSED 45 FRACTION_WIDE "
state_quant_code (quant.RangeEmpty lo hi) = codes "STATE FILE REFUSED 46 RANGE_EMPTY "

-- its fields after them
abbrev pub state_quant_text_after : List ℕ → StateQuantRefusal → List ℕ
state_quant_text_after code (quant.CoefficientRange of row column wanted) = concatenation
    (code ∷ place_name of ∷ codes " " ∷ signed_decimal (pos row) ∷ codes " "
    ∷ signed_decimal (pos column) ∷ codes " " ∷ signed_decimal wanted ∷ codes "\n" ∷ [])
state_quant_text_after code (quant.FractionWide of row column) = concatenation
    (code ∷ place_name of ∷ codes " " ∷ signed_decimal (pos row) ∷ codes " "
    ∷ signed_decimal (pos column) ∷ codes "\n" ∷ [])
state_quant_text_after code (quant.RangeEmpty lo hi) = concatenation
    (code ∷ signed_decimal lo ∷ codes " " ∷ signed_decimal hi ∷ codes "\n" ∷ [])

abbrev pub state_quant_text : StateQuantRefusal → List ℕ
state_quant_text r = state_quant_text_after (state_quant_code r) r
