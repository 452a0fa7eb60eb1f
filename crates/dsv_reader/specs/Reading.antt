-- What a file says, pass by pass over the whole file; the first pass that refuses gives the answer.
use Rattle.std.specs.Prelude.{◌≡◌, ℕ, ◌+◌, ◌-◌, Bool, true, false, ◌&&◌, ◌==◌, nat_lt}
use Rattle.std.specs.Prelude.{nat_le, max, if◌then◌else◌, List, [], ◌∷◌, ◌++◌, length, map}
use Rattle.std.specs.Prelude.{replicate, Option, Some, None, Result, Ok, Err, pos, unwrap_or}
use Rattle.std.specs.Ordering.{int_eq}
use Rattle.dsv_fraction.specs.Ratio.{Ratio, zero, one}
use Rattle.dsv_fraction.specs.Arithmetic.{quotient, bounded_ratio}
use Rattle.dsv_fraction.specs.declared.fraction.TooWide.{TooWide}
use Rattle.dsv_word.specs.Width.{widest_word}
use Rattle.dsv_token.specs.Lexing.{tokens_of}
use Rattle.dsv_token.specs.Text.{utf8_test}
use Rattle.dsv_token.specs.declared.refusal.FileRefusal.{FileRefusal}
use Rattle.dsv_token.specs.declared.refusal.FileRefusal.TheVariants as refusal
use Rattle.dsv_names.specs.declared.field.Field.{Field}
use Rattle.dsv_names.specs.declared.field.Field.TheVariants as field
use Rattle.dsv_text.specs.Stages.{◌>>=◌}
use Rattle.dsv_syntax.specs.Parsing.{syntax_of, plant_syntax_of}
use Rattle.dsv_syntax.specs.declared.parsing.Syntax.{Syntax}
use Rattle.dsv_reader.specs.declared.costs.Costs.{Costs}
use Rattle.dsv_reader.specs.declared.numbers.SpelledNumber.{SpelledNumber}
use Rattle.dsv_reader.specs.declared.numbers.Coefficient.{Coefficient}
use Rattle.dsv_reader.specs.declared.fields.SystemFields.{SystemFields}
use Rattle.dsv_reader.specs.declared.fields.ImplementationFields.{ImplementationFields}
use Rattle.dsv_reader.specs.declared.fields.HardwareFields.{HardwareFields}
use Rattle.dsv_reader.specs.declared.fields.Values.{Values}
use Rattle.dsv_reader.specs.declared.blocks.System.{System}
use Rattle.dsv_reader.specs.declared.blocks.Implementation.{Implementation}
use Rattle.dsv_reader.specs.declared.blocks.Blocks.{Blocks}
use Rattle.dsv_reader.specs.Controllers.{ControllerView}
use Rattle.dsv_reader.specs.Plants.{PlantView}
use Rattle.dsv_reader.specs.Defaults.{default_clock, default_costs}
use Rattle.dsv_reader.specs.Fields.{values_of}

-- ---- fields that are missing
-- the field's value, or a refusal at the closing brace of its block
abbrev pub required_value : {A : Type 0} → ℕ → Field → Option A → Result A FileRefusal
required_value close f (Some x) = Ok x
required_value close f None = Err (refusal.FieldMissing close f)

abbrev pub system_of : ℕ → SystemFields → Result System FileRefusal
system_of close s =
    required_value close field.B s.b >>= λ b.
    required_value close field.A s.a >>= λ a.
    required_value close field.BSize s.b_size >>= λ b_size.
    required_value close field.ASize s.a_size >>= λ a_size.
    Ok (record { b = b; a = a; b_size = b_size; a_size = a_size; sample_time = s.sample_time })

abbrev pub implementation_of : ℕ → ImplementationFields → Result Implementation FileRefusal
implementation_of close i =
    required_value close field.IntBits i.int_bits >>= λ int_bits.
    required_value close field.FracBits i.frac_bits >>= λ frac_bits.
    required_value close field.Max i.max >>= λ max.
    required_value close field.Min i.min >>= λ min.
    Ok (record {
      int_bits = int_bits;
      frac_bits = frac_bits;
      max = max;
      min = min;
      delta = i.delta;
      wide = i.wide;
    })

-- the block that is closed first is tested first
abbrev pub blocks_in_order : Bool → Syntax → Values → Result Blocks FileRefusal
blocks_in_order true x v = system_of x.system v.system
    >>= λ s. implementation_of x.implementation v.implementation >>= λ i.
    Ok (record { system = s; implementation = i; hardware = v.hardware })
blocks_in_order false x v = implementation_of x.implementation v.implementation
    >>= λ i. system_of x.system v.system >>= λ s.
    Ok (record { system = s; implementation = i; hardware = v.hardware })

abbrev pub blocks_of : Syntax → Values → Result Blocks FileRefusal
blocks_of x v = blocks_in_order (nat_lt x.system x.implementation) x v

-- ---- tests over the whole
-- a size is its list's length
abbrev pub size_test : SpelledNumber → List Coefficient → Result (Unit {0}) FileRefusal
size_test w xs = if w.value == length xs then Ok tt else Err (refusal.SizeMismatch w.at)

-- the leading coefficient, which isn't 0; a list has one at least
abbrev pub leading_coefficient : List Coefficient → Result Ratio FileRefusal
leading_coefficient [] = Err (refusal.LeadingZero 0)
leading_coefficient (c ∷ cs) = if int_eq c.value.num (pos 0) then Err (refusal.LeadingZero c.at)
    else Ok c.value

-- the first coefficient has this value
abbrev pub BeginsWith : Ratio → List Coefficient → Type 0
BeginsWith q [] = ⊥
BeginsWith q (c ∷ cs) = c.value ≡ q

abbrev pub by_quotient : ℕ → Result Ratio TooWide → Result Ratio FileRefusal
by_quotient at (Ok q) = Ok q
by_quotient at (Err e) = Err (refusal.FractionWide at)

-- the coefficients divided by the leading one, after those that are
abbrev pub divided_from : Ratio → List Coefficient → List Ratio → Result (List Ratio) FileRefusal
divided_from a0 [] out = Ok out
divided_from a0 (c ∷ cs) out = by_quotient c.at (bounded_ratio (quotient c.value a0))
    >>= λ q. divided_from a0 cs (out ++ q ∷ [])

abbrev pub divided_list : Ratio → List Coefficient → Result (List Ratio) FileRefusal
divided_list a0 cs = divided_from a0 cs []

-- at least one bit before the point, and 2 to the greatest width in all
abbrev pub is_lawful : ℕ → ℕ → Bool
is_lawful int_bits frac_bits = nat_le 1 int_bits && nat_le 2 (int_bits + frac_bits)
    && nat_le (int_bits + frac_bits) widest_word

abbrev pub width_test : SpelledNumber → SpelledNumber → Result (Unit {0}) FileRefusal
width_test int_bits frac_bits = if is_lawful int_bits.value frac_bits.value then Ok tt
    else Err (refusal.Width int_bits.at)

-- a list, filled up with zeros to n entries
abbrev pub padded_list : ℕ → List Ratio → List Ratio
padded_list n xs = xs ++ replicate (n - length xs) zero

-- what the file says, and the default where it doesn't
abbrev pub costs_of : HardwareFields → Costs
costs_of h = record {
  sample = unwrap_or h.sample default_costs.sample;
  mul = unwrap_or h.mul default_costs.mul;
  add = unwrap_or h.add default_costs.add;
  round = unwrap_or h.round default_costs.round;
  fit = unwrap_or h.fit default_costs.fit;
  moves = unwrap_or h.moves default_costs.moves;
}

-- the sample time is 1, and the accumulator isn't wide, where the file doesn't say else
abbrev pub controller_with : Blocks → List Ratio → List Ratio → ControllerView
controller_with x b a = let n = max (length b) (length a) in record {
  b = padded_list n b;
  a = padded_list n a;
  sample_time = unwrap_or x.system.sample_time one;
  int_bits = x.implementation.int_bits.value;
  frac_bits = x.implementation.frac_bits.value;
  max = x.implementation.max;
  min = x.implementation.min;
  delta = x.implementation.delta;
  clock = unwrap_or x.hardware.clock default_clock;
  costs = costs_of x.hardware;
  wide = unwrap_or x.implementation.wide false;
}

abbrev pub controller_from : Blocks → Result ControllerView FileRefusal
controller_from x =
    size_test x.system.b_size x.system.b >>= λ u.
    size_test x.system.a_size x.system.a >>= λ u.
    leading_coefficient x.system.a >>= λ a0.
    divided_list a0 x.system.b >>= λ b.
    divided_list a0 x.system.a >>= λ a.
    width_test x.implementation.int_bits x.implementation.frac_bits >>= λ u.
    Ok (controller_with x b a)

-- what the bytes of a file say, or the first refusal
abbrev pub reading : List ℕ → Result ControllerView FileRefusal
reading bytes =
    utf8_test bytes >>= λ u.
    tokens_of bytes >>= λ ts.
    syntax_of (length bytes) ts >>= λ x.
    values_of bytes x.entries >>= λ v.
    blocks_of x v >>= λ b.
    controller_from b

-- ---- the file of a plant
-- what the coefficients are
abbrev pub values_in : List Coefficient → List Ratio
values_in cs = map (λ c. c.value) cs

-- the sample time is 1 where the file doesn't say else
abbrev pub padded_plant : List Ratio → List Ratio → Option Ratio → PlantView
padded_plant b a sample_time = let n = max (length b) (length a) in record {
  b = padded_list n b;
  a = padded_list n a;
  sample_time = unwrap_or sample_time one;
}

-- a plant's coefficients stand as they are, not divided by the leading one
abbrev pub plant_from : System → Result PlantView FileRefusal
plant_from s =
    size_test s.b_size s.b >>= λ u.
    size_test s.a_size s.a >>= λ u.
    leading_coefficient s.a >>= λ a0.
    Ok (padded_plant (values_in s.b) (values_in s.a) s.sample_time)

-- what the bytes of a plant's file say, or the first refusal
abbrev pub plant_reading : List ℕ → Result PlantView FileRefusal
plant_reading bytes =
    utf8_test bytes >>= λ u.
    tokens_of bytes >>= λ ts.
    plant_syntax_of (length bytes) ts >>= λ x.
    values_of bytes x.entries >>= λ v.
    system_of x.system v.system >>= λ s.
    plant_from s
