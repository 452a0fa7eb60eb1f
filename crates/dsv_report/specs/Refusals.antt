-- The texts of refusals of a controller file, and of a file of inputs.
use Rattle.std.specs.Prelude.{ℕ, List, [], ◌∷◌, codes, ℤ, pos}
use Rattle.std.specs.Fmt.{signed_decimal}
use Rattle.dsv_token.specs.declared.refusal.FileRefusal.{FileRefusal}
use Rattle.dsv_token.specs.declared.refusal.FileRefusal.TheVariants as refusal
use Rattle.dsv_names.specs.Fields.{field_name}
use Rattle.dsv_names.specs.ListNames.{list_name}
use Rattle.dsv_names.specs.Wants.{wanted_name}
use Rattle.dsv_report.specs.Fragments.{concatenation}
use Rattle.dsv_quantiser.specs.declared.refusal.QuantRefusal.{QuantRefusal}
use Rattle.dsv_quantiser.specs.declared.refusal.QuantRefusal.TheVariants as quant
use Rattle.dsv_input_file.specs.declared.refusal.InputsRefusal.TheVariants as inputs
use Rattle.dsv_report.specs.Lines.{number_line}
use Rattle.dsv_report.specs.declared.stop.InputsFault.{InputsFault}
use Rattle.dsv_report.specs.declared.stop.InputsFault.TheVariants as fault

-- the code and the name of a refusal, and the offset where it stands
unfoldable pub code_of : FileRefusal → List ℕ
code_of (refusal.Utf8 at) = codes "FILE REFUSED 1 UTF8 at "
code_of (refusal.Token at) = codes "FILE REFUSED 2 TOKEN at "
code_of (refusal.Unexpected at w) = codes "FILE REFUSED 3 UNEXPECTED at "
code_of (refusal.FieldTwice at) = codes "FILE REFUSED 4 FIELD_TWICE at "
code_of (refusal.FieldMissing at f) = codes "FILE REFUSED 5 FIELD_MISSING at "
code_of (refusal.Number at) = codes "FILE REFUSED 6 NUMBER at "
code_of (refusal.SizeMismatch at) = codes "FILE REFUSED 7 SIZE_MISMATCH at "
code_of (refusal.Length at) = codes "FILE REFUSED 8 LENGTH at "
code_of (refusal.LeadingZero at) = codes "FILE REFUSED 9 LEADING_ZERO at "
code_of (refusal.FractionWide at) = codes "FILE REFUSED 10 FRACTION_WIDE at "
code_of (refusal.Width at) = codes "FILE REFUSED 11 WIDTH at "
code_of refusal.NoMemory = codes "NO MEMORY "

abbrev pub place_of : FileRefusal → ℕ
place_of (refusal.Utf8 at) = at
place_of (refusal.Token at) = at
place_of (refusal.Unexpected at w) = at
place_of (refusal.FieldTwice at) = at
place_of (refusal.FieldMissing at f) = at
place_of (refusal.Number at) = at
place_of (refusal.SizeMismatch at) = at
place_of (refusal.Length at) = at
place_of (refusal.LeadingZero at) = at
place_of (refusal.FractionWide at) = at
place_of (refusal.Width at) = at
place_of refusal.NoMemory = 0

-- before what is wanted there, or before the field
abbrev pub detail_head : FileRefusal → List ℕ
detail_head (refusal.Unexpected at w) = codes " wanted "
detail_head (refusal.FieldMissing at f) = codes " field "
detail_head r = []

abbrev pub detail_name : FileRefusal → List ℕ
detail_name (refusal.Unexpected at w) = wanted_name w
detail_name (refusal.FieldMissing at f) = field_name f
detail_name r = []

abbrev pub file_text : FileRefusal → List ℕ
file_text r = concatenation
    (code_of r ∷ signed_decimal (pos (place_of r)) ∷ detail_head r ∷ detail_name r ∷ codes "\n"
    ∷ [])

-- the code and the name of a refusal
unfoldable pub quant_code : QuantRefusal → List ℕ
quant_code (quant.CoefficientRange name i w) = codes "FILE REFUSED 21 COEFFICIENT_RANGE "
quant_code (quant.DeltaNotPositive w) = codes "FILE REFUSED 22 DELTA_NOT_POSITIVE wanted "
quant_code (quant.RangeEmpty lo hi) = codes "FILE REFUSED 23 RANGE_EMPTY "
quant_code (quant.FractionWide name i) = codes "FILE REFUSED 24 FRACTION_WIDE "

abbrev pub quant_text_after : List ℕ → QuantRefusal → List ℕ
quant_text_after code (quant.CoefficientRange name i w) =
    concatenation (code ∷ list_name name ∷ codes " " ∷ signed_decimal (pos i) ∷ codes " wanted "
    ∷ signed_decimal w ∷ codes "\n" ∷ [])
quant_text_after code (quant.DeltaNotPositive w) =
    concatenation (code ∷ signed_decimal w ∷ codes "\n" ∷ [])
quant_text_after code (quant.RangeEmpty lo hi) =
    concatenation (code ∷ signed_decimal lo ∷ codes " " ∷ signed_decimal hi ∷ codes "\n" ∷ [])
quant_text_after code (quant.FractionWide name i) =
    concatenation (code ∷ list_name name ∷ codes " " ∷ signed_decimal (pos i) ∷ codes "\n" ∷ [])

abbrev pub quant_text : QuantRefusal → List ℕ
quant_text r = quant_text_after (quant_code r) r

-- the code and the name of the refusal of an input, which has this number and is this
unfoldable pub input_code : List ℕ
input_code = codes "FILE REFUSED 25 INPUT_RANGE "

abbrev pub input_text : ℕ → ℤ → List ℕ
input_text index value = concatenation
    (input_code ∷ signed_decimal (pos index) ∷ codes " " ∷ signed_decimal value ∷ codes "\n" ∷ [])

-- value V needs more than 64 bits in C
abbrev pub wide_code_text : ℕ → List ℕ
wide_code_text value = number_line (codes "CODE REFUSED 71 WIDE value ") value

-- why a file of inputs is refused
abbrev pub inputs_text : InputsFault → List ℕ
inputs_text (fault.Text (inputs.Number line)) =
    number_line (codes "INPUTS REFUSED 81 NUMBER line ") line
inputs_text (fault.Text inputs.Many) = codes "INPUTS REFUSED 82 MANY\n"
inputs_text (fault.Text inputs.NoNumbers) = codes "INPUTS REFUSED 83 NONE\n"
inputs_text fault.TooLong = codes "INPUTS REFUSED 84 TOO_LONG\n"
