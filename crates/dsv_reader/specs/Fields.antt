-- The fields of a file and their values, in the order of the file.
use Rattle.std.specs.Prelude.{ℕ, Bool, true, false, List, [], ◌∷◌}
use Rattle.std.specs.Prelude.{Some, None, is_some, Result, Ok, Err}
use Rattle.dsv_token.specs.declared.refusal.FileRefusal.{FileRefusal}
use Rattle.dsv_token.specs.declared.refusal.FileRefusal.TheVariants as refusal
use Rattle.dsv_names.specs.declared.field.Field.{Field}
use Rattle.dsv_names.specs.declared.field.Field.TheVariants as field
use Rattle.dsv_names.specs.declared.setting.Setting.{Setting}
use Rattle.dsv_names.specs.declared.setting.Setting.TheVariants as setting
use Rattle.dsv_syntax.specs.declared.entry.Label.{Label}
use Rattle.dsv_syntax.specs.declared.entry.Label.TheVariants as label
use Rattle.dsv_syntax.specs.declared.entry.Entry.{Entry}
use Rattle.dsv_text.specs.Stages.{◌>>=◌}
use Rattle.dsv_reader.specs.declared.fields.SystemFields.{SystemFields}
use Rattle.dsv_reader.specs.declared.fields.ImplementationFields.{ImplementationFields}
use Rattle.dsv_reader.specs.declared.fields.HardwareFields.{HardwareFields}
use Rattle.dsv_reader.specs.declared.fields.Values.{Values}
use Rattle.dsv_reader.specs.Limits.{greatest_clock, greatest_cost}
use Rattle.dsv_reader.specs.Numbers.{passed_over}
use Rattle.dsv_reader.specs.FieldValues.{list_in, whole_number_in, bounded_in, time_in, decimal_in}
use Rattle.dsv_reader.specs.FieldValues.{flag_in}

abbrev pub no_values : Values
no_values = record {
  system = record { b = None; a = None; b_size = None; a_size = None; sample_time = None };
  implementation = record {
    int_bits = None;
    frac_bits = None;
    max = None;
    min = None;
    delta = None;
    wide = None;
  };
  hardware = record {
    clock = None;
    sample = None;
    mul = None;
    add = None;
    round = None;
    fit = None;
    moves = None;
  };
}

-- the field has its value already
abbrev pub has_field : Field → Values → Bool
has_field field.B v = is_some v.system.b
has_field field.A v = is_some v.system.a
has_field field.BSize v = is_some v.system.b_size
has_field field.ASize v = is_some v.system.a_size
has_field field.SampleTime v = is_some v.system.sample_time
has_field field.IntBits v = is_some v.implementation.int_bits
has_field field.FracBits v = is_some v.implementation.frac_bits
has_field field.Max v = is_some v.implementation.max
has_field field.Min v = is_some v.implementation.min
has_field field.Delta v = is_some v.implementation.delta
has_field field.Wide v = is_some v.implementation.wide

abbrev pub has_setting : Setting → Values → Bool
has_setting setting.Clock v = is_some v.hardware.clock
has_setting setting.CostSample v = is_some v.hardware.sample
has_setting setting.CostMul v = is_some v.hardware.mul
has_setting setting.CostAdd v = is_some v.hardware.add
has_setting setting.CostRound v = is_some v.hardware.round
has_setting setting.CostFit v = is_some v.hardware.fit
has_setting setting.CostMoves v = is_some v.hardware.moves

-- the table of fields: what each field's value is, and where it goes
abbrev pub system_field : Field → List ℕ → Entry → SystemFields → Result SystemFields FileRefusal
system_field field.B bytes e s = list_in bytes e >>= λ xs. Ok (record s { b = Some xs })
system_field field.A bytes e s = list_in bytes e >>= λ xs. Ok (record s { a = Some xs })
system_field field.BSize bytes e s =
    whole_number_in bytes e >>= λ w. Ok (record s { b_size = Some w })
system_field field.ASize bytes e s =
    whole_number_in bytes e >>= λ w. Ok (record s { a_size = Some w })
system_field field.SampleTime bytes e s = time_in bytes e
    >>= λ q. Ok (record s { sample_time = Some q })
system_field f bytes e s = Ok s

abbrev pub implementation_field : Field → List ℕ → Entry → ImplementationFields
    → Result ImplementationFields FileRefusal
implementation_field field.IntBits bytes e i = whole_number_in bytes e
    >>= λ w. Ok (record i { int_bits = Some w })
implementation_field field.FracBits bytes e i = whole_number_in bytes e
    >>= λ w. Ok (record i { frac_bits = Some w })
implementation_field field.Max bytes e i =
    decimal_in bytes e >>= λ q. Ok (record i { max = Some q })
implementation_field field.Min bytes e i =
    decimal_in bytes e >>= λ q. Ok (record i { min = Some q })
implementation_field field.Delta bytes e i = decimal_in bytes e
    >>= λ q. Ok (record i { delta = Some q })
implementation_field field.Wide bytes e i =
    flag_in bytes e >>= λ x. Ok (record i { wide = Some x })
implementation_field f bytes e i = Ok i

abbrev pub is_cost : Setting → Bool
is_cost setting.Clock = false
is_cost s = true

-- a clock is 1 to 10^12, a cost 0 to 10000
abbrev pub setting_value : Setting → List ℕ → Entry → Result ℕ FileRefusal
setting_value setting.Clock bytes e = bounded_in 1 greatest_clock bytes e
setting_value s bytes e = bounded_in 0 greatest_cost bytes e

abbrev pub with_setting : Setting → ℕ → HardwareFields → HardwareFields
with_setting setting.Clock n h = record h { clock = Some n }
with_setting setting.CostSample n h = record h { sample = Some n }
with_setting setting.CostMul n h = record h { mul = Some n }
with_setting setting.CostAdd n h = record h { add = Some n }
with_setting setting.CostRound n h = record h { round = Some n }
with_setting setting.CostFit n h = record h { fit = Some n }
with_setting setting.CostMoves n h = record h { moves = Some n }

abbrev pub hardware_field : Setting → List ℕ → Entry → HardwareFields
    → Result HardwareFields FileRefusal
hardware_field s bytes e h = setting_value s bytes e >>= λ n. Ok (with_setting s n h)

-- a field that stands a second time is refused at its dot, before its value is looked at
abbrev pub once : {A : Type 0} → Bool → ℕ → Result A FileRefusal → Result A FileRefusal
once true dot r = Err (refusal.FieldTwice dot)
once false dot r = r

abbrev pub field_read : Field → List ℕ → Entry → Values → Result Values FileRefusal
field_read f bytes e v = once (has_field f v) e.dot (
    system_field f bytes e v.system >>= λ s. implementation_field f bytes e v.implementation
    >>= λ i. Ok (record v { system = s; implementation = i }))

abbrev pub setting_read : Setting → List ℕ → Entry → Values → Result Values FileRefusal
setting_read s bytes e v =
    once (has_setting s v) e.dot (hardware_field s bytes e v.hardware
    >>= λ h. Ok (record v { hardware = h }))

abbrev pub entry_read : Label → List ℕ → Entry → Values → Result Values FileRefusal
entry_read (label.Field f) bytes e v = field_read f bytes e v
entry_read (label.Setting s) bytes e v = setting_read s bytes e v
entry_read label.Passed bytes e v = passed_over bytes e.numbers >>= λ u. Ok v

-- the values of all fields, after those that were read, or the first fault
abbrev pub values_from : List ℕ → List Entry → Values → Result Values FileRefusal
values_from bytes [] v = Ok v
values_from bytes (e ∷ es) v = entry_read e.label bytes e v >>= λ w. values_from bytes es w

abbrev pub values_of : List ℕ → List Entry → Result Values FileRefusal
values_of bytes es = values_from bytes es no_values
