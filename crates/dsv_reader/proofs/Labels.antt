-- The fields of a file by their labels: what each is read as, and where it stands among the values.
use Rattle.std.proofs.Common.{◌≡◌, ◌≢◌, ℕ, Bool, true, false, List, refl, sym, ap, ◌∙◌}
use Rattle.std.specs.Prelude.{Option, Some, None, is_some, Result, Ok, Err}
use Rattle.dsv_fraction.specs.Ratio.{Ratio}
use Rattle.dsv_token.specs.declared.refusal.FileRefusal.{FileRefusal}
use Rattle.dsv_names.specs.declared.field.Field.{Field}
use Rattle.dsv_names.specs.declared.field.Field.TheVariants as field
use Rattle.dsv_names.specs.declared.setting.Setting.{Setting}
use Rattle.dsv_names.specs.declared.setting.Setting.TheVariants as setting
use Rattle.dsv_syntax.specs.declared.entry.Label.{Label}
use Rattle.dsv_syntax.specs.declared.entry.Label.TheVariants as label
use Rattle.dsv_syntax.specs.declared.entry.Entry.{Entry}
use Rattle.dsv_text.specs.Stages.{◌>>=◌}
use Rattle.dsv_reader.specs.declared.numbers.SpelledNumber.{SpelledNumber}
use Rattle.dsv_reader.specs.declared.numbers.Coefficient.{Coefficient}
use Rattle.dsv_reader.specs.declared.fields.SystemFields.{SystemFields}
use Rattle.dsv_reader.specs.declared.fields.ImplementationFields.{ImplementationFields}
use Rattle.dsv_reader.specs.declared.fields.HardwareFields.{HardwareFields}
use Rattle.dsv_reader.specs.declared.fields.Values.{Values}
use Rattle.dsv_reader.specs.Limits.{greatest_clock, greatest_cost}
use Rattle.dsv_reader.specs.Fields.{setting_value, with_setting, once, entry_read}
use Rattle.dsv_reader.specs.FieldValues.{list_in, whole_number_in, bounded_in, time_in, decimal_in, flag_in}

-- what a field's value is
abbrev pub Value : Label → Type 0
Value (label.Field field.B) = List Coefficient
Value (label.Field field.A) = List Coefficient
Value (label.Field field.BSize) = SpelledNumber
Value (label.Field field.ASize) = SpelledNumber
Value (label.Field field.SampleTime) = Ratio
Value (label.Field field.IntBits) = SpelledNumber
Value (label.Field field.FracBits) = SpelledNumber
Value (label.Field field.Max) = Ratio
Value (label.Field field.Min) = Ratio
Value (label.Field field.Delta) = Ratio
Value (label.Field field.Wide) = Bool
Value (label.Setting s) = ℕ
Value label.Passed = Unit {0}

-- what is read of a field
abbrev pub read : (l : Label) → List ℕ → Entry → Result (Value l) FileRefusal
read (label.Field field.B) bytes e = list_in bytes e
read (label.Field field.A) bytes e = list_in bytes e
read (label.Field field.BSize) bytes e = whole_number_in bytes e
read (label.Field field.ASize) bytes e = whole_number_in bytes e
read (label.Field field.SampleTime) bytes e = time_in bytes e
read (label.Field field.IntBits) bytes e = whole_number_in bytes e
read (label.Field field.FracBits) bytes e = whole_number_in bytes e
read (label.Field field.Max) bytes e = decimal_in bytes e
read (label.Field field.Min) bytes e = decimal_in bytes e
read (label.Field field.Delta) bytes e = decimal_in bytes e
read (label.Field field.Wide) bytes e = flag_in bytes e
read (label.Setting setting.Clock) bytes e = bounded_in 1 greatest_clock bytes e
read (label.Setting s) bytes e = bounded_in 0 greatest_cost bytes e
read label.Passed bytes e = Ok tt

-- the value that a field of the first two blocks has
abbrev get_field : (f : Field) → SystemFields → ImplementationFields → Option (Value (label.Field f))
get_field field.B s i = s.b
get_field field.A s i = s.a
get_field field.BSize s i = s.b_size
get_field field.ASize s i = s.a_size
get_field field.SampleTime s i = s.sample_time
get_field field.IntBits s i = i.int_bits
get_field field.FracBits s i = i.frac_bits
get_field field.Max s i = i.max
get_field field.Min s i = i.min
get_field field.Delta s i = i.delta
get_field field.Wide s i = i.wide

-- and that of a field of the block hardware
abbrev get_setting : Setting → HardwareFields → Option ℕ
get_setting setting.Clock h = h.clock
get_setting setting.CostSample h = h.sample
get_setting setting.CostMul h = h.mul
get_setting setting.CostAdd h = h.add
get_setting setting.CostRound h = h.round
get_setting setting.CostFit h = h.fit
get_setting setting.CostMoves h = h.moves

-- the value that a field has
abbrev pub get : (l : Label) → Values → Option (Value l)
get (label.Field f) v = get_field f v.system v.implementation
get (label.Setting s) v = get_setting s v.hardware
get label.Passed v = None

-- the values with the fields of one block changed
abbrev in_system : Values → SystemFields → Values
in_system v s = record v { system = s }

abbrev in_implementation : Values → ImplementationFields → Values
in_implementation v i = record v { implementation = i }

abbrev in_hardware : Values → HardwareFields → Values
in_hardware v h = record v { hardware = h }

-- the values with the field's value in them
abbrev pub set : (l : Label) → Value l → Values → Values
set (label.Field field.B) x v = in_system v (record v.system { b = Some x })
set (label.Field field.A) x v = in_system v (record v.system { a = Some x })
set (label.Field field.BSize) x v = in_system v (record v.system { b_size = Some x })
set (label.Field field.ASize) x v = in_system v (record v.system { a_size = Some x })
set (label.Field field.SampleTime) x v = in_system v (record v.system { sample_time = Some x })
set (label.Field field.IntBits) x v = in_implementation v (record v.implementation { int_bits = Some x })
set (label.Field field.FracBits) x v = in_implementation v (record v.implementation { frac_bits = Some x })
set (label.Field field.Max) x v = in_implementation v (record v.implementation { max = Some x })
set (label.Field field.Min) x v = in_implementation v (record v.implementation { min = Some x })
set (label.Field field.Delta) x v = in_implementation v (record v.implementation { delta = Some x })
set (label.Field field.Wide) x v = in_implementation v (record v.implementation { wide = Some x })
set (label.Setting s) x v = in_hardware v (with_setting s x v.hardware)
set label.Passed x v = v

-- the field isn't passed over
abbrev pub is_read : Label → Bool
is_read label.Passed = false
is_read l = true

-- ---- labels that are the same
abbrev pub same : Label → Label → Bool
same (label.Field field.B) (label.Field field.B) = true
same (label.Field field.A) (label.Field field.A) = true
same (label.Field field.BSize) (label.Field field.BSize) = true
same (label.Field field.ASize) (label.Field field.ASize) = true
same (label.Field field.SampleTime) (label.Field field.SampleTime) = true
same (label.Field field.IntBits) (label.Field field.IntBits) = true
same (label.Field field.FracBits) (label.Field field.FracBits) = true
same (label.Field field.Max) (label.Field field.Max) = true
same (label.Field field.Min) (label.Field field.Min) = true
same (label.Field field.Delta) (label.Field field.Delta) = true
same (label.Field field.Wide) (label.Field field.Wide) = true
same (label.Setting setting.Clock) (label.Setting setting.Clock) = true
same (label.Setting setting.CostSample) (label.Setting setting.CostSample) = true
same (label.Setting setting.CostMul) (label.Setting setting.CostMul) = true
same (label.Setting setting.CostAdd) (label.Setting setting.CostAdd) = true
same (label.Setting setting.CostRound) (label.Setting setting.CostRound) = true
same (label.Setting setting.CostFit) (label.Setting setting.CostFit) = true
same (label.Setting setting.CostMoves) (label.Setting setting.CostMoves) = true
same label.Passed label.Passed = true
same l m = false

false_true : {A : Type 0} → false ≡ true → A
false_true h = absurd (cc)

true_false : {A : Type 0} → true ≡ false → A
true_false h = absurd (cc)

pub same_is : (l m : Label) → same l m ≡ true → l ≡ m
same_is (label.Field field.B) (label.Field field.B) h = refl
same_is (label.Field field.A) (label.Field field.A) h = refl
same_is (label.Field field.BSize) (label.Field field.BSize) h = refl
same_is (label.Field field.ASize) (label.Field field.ASize) h = refl
same_is (label.Field field.SampleTime) (label.Field field.SampleTime) h = refl
same_is (label.Field field.IntBits) (label.Field field.IntBits) h = refl
same_is (label.Field field.FracBits) (label.Field field.FracBits) h = refl
same_is (label.Field field.Max) (label.Field field.Max) h = refl
same_is (label.Field field.Min) (label.Field field.Min) h = refl
same_is (label.Field field.Delta) (label.Field field.Delta) h = refl
same_is (label.Field field.Wide) (label.Field field.Wide) h = refl
same_is (label.Setting setting.Clock) (label.Setting setting.Clock) h = refl
same_is (label.Setting setting.CostSample) (label.Setting setting.CostSample) h = refl
same_is (label.Setting setting.CostMul) (label.Setting setting.CostMul) h = refl
same_is (label.Setting setting.CostAdd) (label.Setting setting.CostAdd) h = refl
same_is (label.Setting setting.CostRound) (label.Setting setting.CostRound) h = refl
same_is (label.Setting setting.CostFit) (label.Setting setting.CostFit) h = refl
same_is (label.Setting setting.CostMoves) (label.Setting setting.CostMoves) h = refl
same_is label.Passed label.Passed h = refl
same_is l m h = false_true h

same_self : (l : Label) → same l l ≡ true
same_self (label.Field field.B) = refl
same_self (label.Field field.A) = refl
same_self (label.Field field.BSize) = refl
same_self (label.Field field.ASize) = refl
same_self (label.Field field.SampleTime) = refl
same_self (label.Field field.IntBits) = refl
same_self (label.Field field.FracBits) = refl
same_self (label.Field field.Max) = refl
same_self (label.Field field.Min) = refl
same_self (label.Field field.Delta) = refl
same_self (label.Field field.Wide) = refl
same_self (label.Setting setting.Clock) = refl
same_self (label.Setting setting.CostSample) = refl
same_self (label.Setting setting.CostMul) = refl
same_self (label.Setting setting.CostAdd) = refl
same_self (label.Setting setting.CostRound) = refl
same_self (label.Setting setting.CostFit) = refl
same_self (label.Setting setting.CostMoves) = refl
same_self label.Passed = refl

pub differ : (l m : Label) → same l m ≡ false → l ≢ m
differ l m h e = true_false (sym (same_self l) ∙ ap (same l) e ∙ h)

-- ---- a field that is set
pub get_set : (l : Label) (x : Value l) (v : Values) → is_read l ≡ true → get l (set l x v) ≡ Some x
get_set (label.Field field.B) x v h = refl
get_set (label.Field field.A) x v h = refl
get_set (label.Field field.BSize) x v h = refl
get_set (label.Field field.ASize) x v h = refl
get_set (label.Field field.SampleTime) x v h = refl
get_set (label.Field field.IntBits) x v h = refl
get_set (label.Field field.FracBits) x v h = refl
get_set (label.Field field.Max) x v h = refl
get_set (label.Field field.Min) x v h = refl
get_set (label.Field field.Delta) x v h = refl
get_set (label.Field field.Wide) x v h = refl
get_set (label.Setting setting.Clock) x v h = refl
get_set (label.Setting setting.CostSample) x v h = refl
get_set (label.Setting setting.CostMul) x v h = refl
get_set (label.Setting setting.CostAdd) x v h = refl
get_set (label.Setting setting.CostRound) x v h = refl
get_set (label.Setting setting.CostFit) x v h = refl
get_set (label.Setting setting.CostMoves) x v h = refl
get_set label.Passed x v h = false_true h

pub get_other : (l m : Label) (x : Value l) (v : Values) → same l m ≡ false → get m (set l x v) ≡ get m v
get_other (label.Field field.B) (label.Field field.B) x v h = true_false h
get_other (label.Field field.B) m x v h = refl
get_other (label.Field field.A) (label.Field field.A) x v h = true_false h
get_other (label.Field field.A) m x v h = refl
get_other (label.Field field.BSize) (label.Field field.BSize) x v h = true_false h
get_other (label.Field field.BSize) m x v h = refl
get_other (label.Field field.ASize) (label.Field field.ASize) x v h = true_false h
get_other (label.Field field.ASize) m x v h = refl
get_other (label.Field field.SampleTime) (label.Field field.SampleTime) x v h = true_false h
get_other (label.Field field.SampleTime) m x v h = refl
get_other (label.Field field.IntBits) (label.Field field.IntBits) x v h = true_false h
get_other (label.Field field.IntBits) m x v h = refl
get_other (label.Field field.FracBits) (label.Field field.FracBits) x v h = true_false h
get_other (label.Field field.FracBits) m x v h = refl
get_other (label.Field field.Max) (label.Field field.Max) x v h = true_false h
get_other (label.Field field.Max) m x v h = refl
get_other (label.Field field.Min) (label.Field field.Min) x v h = true_false h
get_other (label.Field field.Min) m x v h = refl
get_other (label.Field field.Delta) (label.Field field.Delta) x v h = true_false h
get_other (label.Field field.Delta) m x v h = refl
get_other (label.Field field.Wide) (label.Field field.Wide) x v h = true_false h
get_other (label.Field field.Wide) m x v h = refl
get_other (label.Setting setting.Clock) (label.Setting setting.Clock) x v h = true_false h
get_other (label.Setting setting.Clock) m x v h = refl
get_other (label.Setting setting.CostSample) (label.Setting setting.CostSample) x v h = true_false h
get_other (label.Setting setting.CostSample) m x v h = refl
get_other (label.Setting setting.CostMul) (label.Setting setting.CostMul) x v h = true_false h
get_other (label.Setting setting.CostMul) m x v h = refl
get_other (label.Setting setting.CostAdd) (label.Setting setting.CostAdd) x v h = true_false h
get_other (label.Setting setting.CostAdd) m x v h = refl
get_other (label.Setting setting.CostRound) (label.Setting setting.CostRound) x v h = true_false h
get_other (label.Setting setting.CostRound) m x v h = refl
get_other (label.Setting setting.CostFit) (label.Setting setting.CostFit) x v h = true_false h
get_other (label.Setting setting.CostFit) m x v h = refl
get_other (label.Setting setting.CostMoves) (label.Setting setting.CostMoves) x v h = true_false h
get_other (label.Setting setting.CostMoves) m x v h = refl
get_other label.Passed m x v h = refl

-- ---- an entry that is read
-- one step after another
bind1 : {A B C : Type 0} (r : Result A FileRefusal) (f : A → B) (g : B → Result C FileRefusal) →
    ((r >>= λ x. Ok (f x)) >>= g) ≡ (r >>= λ x. g (f x))
bind1 (Ok x) f g = refl
bind1 (Err e) f g = refl

-- a field that is read: it hasn't stood before, and its value goes where it belongs
abbrev pub read_at : (l : Label) → List ℕ → Entry → Values → Result Values FileRefusal
read_at l bytes e v = once (is_some (get l v)) e.dot (read l bytes e >>= λ x. Ok (set l x v))

-- the values, once the fields of one block are read
abbrev after_system : Values → SystemFields → Result Values FileRefusal
after_system v s = Ok (record v { system = s })

abbrev after_implementation : Values → ImplementationFields → Result Values FileRefusal
after_implementation v i = Ok (record v { implementation = i })

abbrev after_hardware : Values → HardwareFields → Result Values FileRefusal
after_hardware v h = Ok (record v { hardware = h })

pub entry_law : (l : Label) (bytes : List ℕ) (e : Entry) (v : Values) → is_read l ≡ true → entry_read l bytes e v ≡ read_at l bytes e v
entry_law (label.Field field.B) bytes e v h = ap (once (is_some v.system.b) e.dot) (bind1 (list_in bytes e) (λ x. record v.system { b = Some x }) (after_system v))
entry_law (label.Field field.A) bytes e v h = ap (once (is_some v.system.a) e.dot) (bind1 (list_in bytes e) (λ x. record v.system { a = Some x }) (after_system v))
entry_law (label.Field field.BSize) bytes e v h = ap (once (is_some v.system.b_size) e.dot) (bind1 (whole_number_in bytes e) (λ x. record v.system { b_size = Some x }) (after_system v))
entry_law (label.Field field.ASize) bytes e v h = ap (once (is_some v.system.a_size) e.dot) (bind1 (whole_number_in bytes e) (λ x. record v.system { a_size = Some x }) (after_system v))
entry_law (label.Field field.SampleTime) bytes e v h = ap (once (is_some v.system.sample_time) e.dot) (bind1 (time_in bytes e) (λ x. record v.system { sample_time = Some x }) (after_system v))
entry_law (label.Field field.IntBits) bytes e v h = ap (once (is_some v.implementation.int_bits) e.dot) (bind1 (whole_number_in bytes e) (λ x. record v.implementation { int_bits = Some x }) (after_implementation v))
entry_law (label.Field field.FracBits) bytes e v h = ap (once (is_some v.implementation.frac_bits) e.dot) (bind1 (whole_number_in bytes e) (λ x. record v.implementation { frac_bits = Some x }) (after_implementation v))
entry_law (label.Field field.Max) bytes e v h = ap (once (is_some v.implementation.max) e.dot) (bind1 (decimal_in bytes e) (λ x. record v.implementation { max = Some x }) (after_implementation v))
entry_law (label.Field field.Min) bytes e v h = ap (once (is_some v.implementation.min) e.dot) (bind1 (decimal_in bytes e) (λ x. record v.implementation { min = Some x }) (after_implementation v))
entry_law (label.Field field.Delta) bytes e v h = ap (once (is_some v.implementation.delta) e.dot) (bind1 (decimal_in bytes e) (λ x. record v.implementation { delta = Some x }) (after_implementation v))
entry_law (label.Field field.Wide) bytes e v h = ap (once (is_some v.implementation.wide) e.dot) (bind1 (flag_in bytes e) (λ x. record v.implementation { wide = Some x }) (after_implementation v))
entry_law (label.Setting setting.Clock) bytes e v h = ap (once (is_some v.hardware.clock) e.dot) (bind1 (setting_value setting.Clock bytes e) (λ n. with_setting setting.Clock n v.hardware) (after_hardware v))
entry_law (label.Setting setting.CostSample) bytes e v h = ap (once (is_some v.hardware.sample) e.dot) (bind1 (setting_value setting.CostSample bytes e) (λ n. with_setting setting.CostSample n v.hardware) (after_hardware v))
entry_law (label.Setting setting.CostMul) bytes e v h = ap (once (is_some v.hardware.mul) e.dot) (bind1 (setting_value setting.CostMul bytes e) (λ n. with_setting setting.CostMul n v.hardware) (after_hardware v))
entry_law (label.Setting setting.CostAdd) bytes e v h = ap (once (is_some v.hardware.add) e.dot) (bind1 (setting_value setting.CostAdd bytes e) (λ n. with_setting setting.CostAdd n v.hardware) (after_hardware v))
entry_law (label.Setting setting.CostRound) bytes e v h = ap (once (is_some v.hardware.round) e.dot) (bind1 (setting_value setting.CostRound bytes e) (λ n. with_setting setting.CostRound n v.hardware) (after_hardware v))
entry_law (label.Setting setting.CostFit) bytes e v h = ap (once (is_some v.hardware.fit) e.dot) (bind1 (setting_value setting.CostFit bytes e) (λ n. with_setting setting.CostFit n v.hardware) (after_hardware v))
entry_law (label.Setting setting.CostMoves) bytes e v h = ap (once (is_some v.hardware.moves) e.dot) (bind1 (setting_value setting.CostMoves bytes e) (λ n. with_setting setting.CostMoves n v.hardware) (after_hardware v))
entry_law label.Passed bytes e v h = false_true h

-- the values of these fields
abbrev whole : Values → Values
whole v = record {
  system = record { b = v.system.b; a = v.system.a; b_size = v.system.b_size; a_size = v.system.a_size; sample_time = v.system.sample_time };
  implementation = record {
    int_bits = v.implementation.int_bits;
    frac_bits = v.implementation.frac_bits;
    max = v.implementation.max;
    min = v.implementation.min;
    delta = v.implementation.delta;
    wide = v.implementation.wide;
  };
  hardware = record {
    clock = v.hardware.clock;
    sample = v.hardware.sample;
    mul = v.hardware.mul;
    add = v.hardware.add;
    round = v.hardware.round;
    fit = v.hardware.fit;
    moves = v.hardware.moves;
  };
}

-- values are the same where those of all fields are
pub same_values : (v w : Values) → ((l : Label) → is_read l ≡ true → get l v ≡ get l w) → v ≡ w
same_values v w h =
    let b = h (label.Field field.B) refl in
    let a = h (label.Field field.A) refl in
    let b_size = h (label.Field field.BSize) refl in
    let a_size = h (label.Field field.ASize) refl in
    let sample_time = h (label.Field field.SampleTime) refl in
    let int_bits = h (label.Field field.IntBits) refl in
    let frac_bits = h (label.Field field.FracBits) refl in
    let max = h (label.Field field.Max) refl in
    let min = h (label.Field field.Min) refl in
    let delta = h (label.Field field.Delta) refl in
    let wide = h (label.Field field.Wide) refl in
    let clock = h (label.Setting setting.Clock) refl in
    let sample = h (label.Setting setting.CostSample) refl in
    let mul = h (label.Setting setting.CostMul) refl in
    let add = h (label.Setting setting.CostAdd) refl in
    let round = h (label.Setting setting.CostRound) refl in
    let fit = h (label.Setting setting.CostFit) refl in
    let moves = h (label.Setting setting.CostMoves) refl in
    let e : whole v ≡ whole w = cc in
    e
