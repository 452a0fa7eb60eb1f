-- Names: The fields of the blocks `digital_system` and `implementation`.
use Rattle.std.specs.Prelude.{ℕ, List, [], ◌∷◌, codes}
use Rattle.dsv_names.specs.declared.field.Field.{Field}
use Rattle.dsv_names.specs.declared.field.Field.TheVariants as field

abbrev pub field_name : Field → List ℕ
field_name field.B = codes "b"
field_name field.A = codes "a"
field_name field.BSize = codes "b_size"
field_name field.ASize = codes "a_size"
field_name field.SampleTime = codes "sample_time"
field_name field.IntBits = codes "int_bits"
field_name field.FracBits = codes "frac_bits"
field_name field.Max = codes "max"
field_name field.Min = codes "min"
field_name field.Delta = codes "delta"
field_name field.Wide = codes "wide"

abbrev pub fields : List Field
fields = field.B ∷ field.A ∷ field.BSize ∷ field.ASize ∷ field.SampleTime ∷ field.IntBits
    ∷ field.FracBits ∷ field.Max ∷ field.Min ∷ field.Delta ∷ field.Wide ∷ []
