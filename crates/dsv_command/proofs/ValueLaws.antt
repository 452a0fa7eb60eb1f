-- The values of options, by the rules and as they are read.
use Rattle.std.proofs.Common.{◌≡◌, ℕ, ◌≤◌, ◌^◌, Bool, true, false, List, Option, Some, None, Ok, Err, refl, sym, ap, subst, ◌∙◌, arith}
use Rattle.std.proofs.lemmas.Bool.{leb-true, le-leb}
use Rattle.std.proofs.lemmas.Bool.Decides.{nat_tests}
use Rattle.std.specs.Prelude.{Result, codes, if◌then◌else◌, ◌&&◌, nat_le, nat_lt, option_and_then, unwrap_or}
use Rattle.dsv_text.specs.Digits.{short_number}
use Rattle.dsv_text.specs.Stages.{◌>>=◌}
use Rattle.dsv_names.specs.declared.design.Design.{Design}
use Rattle.dsv_names.specs.declared.property.Property.{Property}
use Rattle.dsv_names.specs.declared.realisation.Realisation.TheVariants.{Dfi}
use Rattle.dsv_names.specs.declared.rounding.Rounding.TheVariants.{Floor}
use Rattle.dsv_names.specs.declared.overflow_mode.OverflowMode.TheVariants.{Wrap}
use Rattle.dsv_names.specs.Names.{value_named, AreNames}
use Rattle.dsv_names.specs.OverflowModes.{overflow_mode_name, overflow_modes}
use Rattle.dsv_names.specs.Properties.{property_name, properties}
use Rattle.dsv_names.specs.Realisations.{realisation_name, realisations}
use Rattle.dsv_names.specs.Roundings.{rounding_name, roundings}
use Rattle.dsv_names.proofs.NameLaws.{are_names-realisations, are_names-roundings, are_names-overflow_modes, are_names-properties}
use Rattle.dsv_command.specs.CodeNames.{code_name_of, is_code_name}
use Rattle.dsv_command.specs.SectionNames.{names_of}
use Rattle.dsv_command.specs.Inputs.{inputs_of}
use Rattle.dsv_command.specs.Limits.{most_number_digits, most_samples, default_samples, most_conflicts, default_conflicts, most_controllers}
use Rattle.dsv_command.specs.Parts.{PartView, value_of}
use Rattle.dsv_command.specs.Reasons.{Reason}
use Rattle.dsv_command.specs.Rules as rules
use Rattle.dsv_command.specs.Rules.{AreInputs, IsNumberUpTo, IsNumber, IsChosen, IsDesign, IsSeed, IsGivenAs, IsPropertyName, IsCodeName, AreValues}
use Rattle.dsv_command.specs.Values.{Numbers, Values, number_up_to, seed_of, found_value, read_value, value_in, samples_in, conflicts_in, numbers_in, design_in, values_in}
use Rattle.dsv_command.proofs.InputLaws.{inputs_read, inputs_found}
use Rattle.dsv_command.proofs.SectionNameLaws.{names_read, names_found}

pub record Passed {A B : Type 0} (r : Result A Reason) (f : A → Result B Reason) (y : B) : Type 0 where
  pub value : A
  pub first : r ≡ Ok value
  pub second : f value ≡ Ok y

-- what passed two stages passed both
pub passed : {A B : Type 0} (r : Result A Reason) (f : A → Result B Reason) (y : B) → (r >>= f) ≡ Ok y → Passed r f y
passed (Ok x) f y e = record { value = x; first = refl; second = e }
passed (Err reason) f y e = absurd (cc)

same_value : {A : Type 0} (x y : A) → ◌≡◌ {A = Result A Reason} (Ok x) (Ok y) → x ≡ y
same_value x y e = cc

-- ---- one value
value_read : {A : Type 0} (name : List ℕ) (read : List ℕ → Option A) (Is : List ℕ → A → Type 0) (text : Option (List ℕ)) (value : Option A)
    → ((t : List ℕ) (a : A) → Is t a → read t ≡ Some a) → IsGivenAs Is text value → read_value name read text ≡ Ok value
value_read name read Is None None f h = refl
value_read name read Is (Some t) (Some a) f h = ap (found_value name t) (f t a h)
value_read name read Is None (Some a) f h = absurd h
value_read name read Is (Some t) None f h = absurd h

found_by : {A : Type 0} (name t : List ℕ) (read : List ℕ → Option A) (Is : List ℕ → A → Type 0) (found value : Option A) → read t ≡ found
    → ((a : A) → read t ≡ Some a → Is t a) → found_value name t found ≡ Ok value → IsGivenAs Is (Some t) value
found_by name t read Is None value e f h = absurd (cc)
found_by name t read Is (Some a) None e f h = absurd (let k : Some a ≡ None = cc in cc)
found_by name t read Is (Some a) (Some b) e f h = let same : Some a ≡ Some b = cc in f b (e ∙ same)

value_found : {A : Type 0} (name : List ℕ) (read : List ℕ → Option A) (Is : List ℕ → A → Type 0) (text : Option (List ℕ)) (value : Option A)
    → ((t : List ℕ) (a : A) → read t ≡ Some a → Is t a) → read_value name read text ≡ Ok value → IsGivenAs Is text value
value_found name read Is None None f h = tt
value_found name read Is None (Some a) f h = absurd (let k : None ≡ Some a = cc in cc)
value_found name read Is (Some t) value f h = found_by name t read Is (read t) value refl (f t) h

-- ---- what values are
property_read : (t : List ℕ) (p : Property) → IsPropertyName t p → value_named property_name properties t ≡ Some p
property_read t p h = ap (value_named property_name properties) h ∙ are_names-properties.found p

within_read : (n limit : ℕ) → 1 ≤ n → n ≤ limit → (if nat_le 1 n && nat_le n limit then Some n else None) ≡ Some n
within_read n limit some few = rw (le-leb 1 n some, le-leb n limit few) refl

number_read : (limit : ℕ) (t : List ℕ) (n : ℕ) → IsNumberUpTo limit t n → number_up_to limit t ≡ Some n
number_read limit t n h = ap (option_and_then (λ m. (if nat_le 1 m && nat_le m limit then Some m else None))) h.number ∙ within_read n limit h.some h.few

within_by : (limit n m : ℕ) (some few : Bool) → nat_le 1 m ≡ some → nat_le m limit ≡ few → (t : List ℕ) → short_number most_number_digits t ≡ Some m →
    (if some && few then Some m else None) ≡ Some n → IsNumberUpTo limit t n
within_by limit n m true true e f t h k =
    let same : m ≡ n = cc in
    subst (IsNumberUpTo limit t) same (record { number = h; some = leb-true 1 m e; few = leb-true m limit f })
within_by limit n m true false e f t h k = absurd (cc)
within_by limit n m false few e f t h k = absurd (cc)

number_by : (limit : ℕ) (t : List ℕ) (n : ℕ) (found : Option ℕ) → short_number most_number_digits t ≡ found
    → option_and_then (λ m. (if nat_le 1 m && nat_le m limit then Some m else None)) found ≡ Some n → IsNumberUpTo limit t n
number_by limit t n None e h = absurd (cc)
number_by limit t n (Some m) e h = within_by limit n m (nat_le 1 m) (nat_le m limit) refl refl t e h

number_found : (limit : ℕ) (t : List ℕ) (n : ℕ) → number_up_to limit t ≡ Some n → IsNumberUpTo limit t n
number_found limit t n h = number_by limit t n (short_number most_number_digits t) refl h

seed_read : (t : List ℕ) (seed : ℕ) → IsSeed t seed → seed_of t ≡ Some seed
seed_read t seed h =
    let small : nat_lt seed (2 ^ 32) ≡ true = let s = h.small in grind (arith, nat_tests) in
    ap (option_and_then (λ n. (if nat_lt n (2 ^ 32) then Some n else None))) h.number ∙ ap (λ (b : Bool). if b then Some seed else None) small

seed_by : (t : List ℕ) (n seed : ℕ) (b : Bool) → nat_lt n (2 ^ 32) ≡ b → short_number most_number_digits t ≡ Some n → (if b then Some n else None) ≡ Some seed → IsSeed t seed
seed_by t n seed true e h k =
    let same : n ≡ seed = cc in
    subst (IsSeed t) same (record { number = h; small = grind (arith, nat_tests) })
seed_by t n seed false e h k = absurd (cc)

seed_found_by : (t : List ℕ) (seed : ℕ) (found : Option ℕ) → short_number most_number_digits t ≡ found → option_and_then (λ n. (if nat_lt n (2 ^ 32) then Some n else None)) found ≡ Some seed → IsSeed t seed
seed_found_by t seed None e h = absurd (cc)
seed_found_by t seed (Some n) e h = seed_by t n seed (nat_lt n (2 ^ 32)) refl e h

seed_found : (t : List ℕ) (seed : ℕ) → seed_of t ≡ Some seed → IsSeed t seed
seed_found t seed h = seed_found_by t seed (short_number most_number_digits t) refl h

code_read : (t n : List ℕ) → IsCodeName t n → code_name_of t ≡ Some n
code_read t n h = rw h.1 (ap Some (sym h.0))

code_by : (t n : List ℕ) (b : Bool) → is_code_name t ≡ b → (if b then Some t else None) ≡ Some n → IsCodeName t n
code_by t n true e h = let same : t ≡ n = cc in (sym same, e)
code_by t n false e h = absurd (cc)

code_found : (t n : List ℕ) → code_name_of t ≡ Some n → IsCodeName t n
code_found t n h = code_by t n (is_code_name t) refl h

-- ---- values with defaults

-- a value that is read so, or else the default
record OrDefault {A : Type 0} (r : Result (Option A) Reason) (default value : A) : Type 0 where
  pub read : Option A
  pub reads : r ≡ Ok read
  pub is : unwrap_or read default ≡ value

default_read : (name : List ℕ) (limit default n : ℕ) (text : Option (List ℕ)) → IsNumber limit default text n → OrDefault (read_value name (number_up_to limit) text) default n
default_read name limit default n None h = record { read = None; reads = refl; is = sym h }
default_read name limit default n (Some t) h = record { read = Some n; reads = ap (found_value name t) (number_read limit t n h); is = refl }

default_by : (name t : List ℕ) (limit default : ℕ) (found read : Option ℕ) → number_up_to limit t ≡ found → found_value name t found ≡ Ok read → IsNumberUpTo limit t (unwrap_or read default)
default_by name t limit default None read e h = absurd (cc)
default_by name t limit default (Some n) read e h =
    let same : Some n ≡ read = cc in
    subst (λ (r : Option ℕ). IsNumberUpTo limit t (unwrap_or r default)) same (number_found limit t n e)

default_found : (name : List ℕ) (limit default : ℕ) (text : Option (List ℕ)) (value : Option ℕ) → read_value name (number_up_to limit) text ≡ Ok value → IsNumber limit default text (unwrap_or value default)
default_found name limit default None value h = let same : None ≡ value = cc in subst (λ (r : Option ℕ). unwrap_or r default ≡ default) same refl
default_found name limit default (Some t) value h = default_by name t limit default (number_up_to limit t) value refl h

chosen_read : {A : Type 0} (option : List ℕ) (name : A → List ℕ) (values : List A) (default v : A) (text : Option (List ℕ)) → AreNames name values → IsChosen name default text v
    → OrDefault (read_value option (value_named name values) text) default v
chosen_read option name values default v None names h = record { read = None; reads = refl; is = sym h }
chosen_read option name values default v (Some t) names h = record { read = Some v; reads = ap (found_value option t) (ap (value_named name values) h ∙ names.found v); is = refl }

chosen_by : {A : Type 0} (option t : List ℕ) (name : A → List ℕ) (values : List A) (default : A) (found read : Option A) → AreNames name values → value_named name values t ≡ found
    → found_value option t found ≡ Ok read → t ≡ name (unwrap_or read default)
chosen_by {A = A} option t name values default None read names e h = absurd (cc)
chosen_by {A = A} option t name values default (Some v) read names e h =
    let same : Some v ≡ read = cc in
    subst (λ (r : Option A). t ≡ name (unwrap_or r default)) same (names.only t v e)

chosen_found : {A : Type 0} (option : List ℕ) (name : A → List ℕ) (values : List A) (default : A) (text : Option (List ℕ)) (read : Option A) → AreNames name values
    → read_value option (value_named name values) text ≡ Ok read → IsChosen name default text (unwrap_or read default)
chosen_found {A = A} option name values default None read names h = let same : None ≡ read = cc in subst (λ (r : Option A). unwrap_or r default ≡ default) same refl
chosen_found {A = A} option name values default (Some t) read names h = chosen_by option t name values default (value_named name values t) read names refl h

-- ---- all of them
numbers_read : (parts : List PartView) (v : Values) → AreValues parts v → numbers_in parts ≡ Ok v.numbers
numbers_read parts v h =
    let s = default_read (codes "x-size") most_samples default_samples v.numbers.samples (value_of (codes "x-size") parts) h.samples in
    let c = default_read (codes "conflicts") most_conflicts default_conflicts v.numbers.conflicts (value_of (codes "conflicts") parts) h.conflicts in
    rw (s.reads, c.reads) (rw (s.is, c.is) refl)

design_read : (parts : List PartView) (d : Design) → IsDesign parts d → design_in parts ≡ Ok d
design_read parts d h =
    let r = chosen_read (codes "realization") realisation_name realisations Dfi d.realisation (value_of (codes "realization") parts) are_names-realisations h.realisation in
    let o = chosen_read (codes "rounding") rounding_name roundings Floor d.rounding (value_of (codes "rounding") parts) are_names-roundings h.rounding in
    let m = chosen_read (codes "overflow-mode") overflow_mode_name overflow_modes Wrap d.overflow (value_of (codes "overflow-mode") parts) are_names-overflow_modes h.overflow in
    rw (r.reads, o.reads, m.reads) (rw (r.is, o.is, m.is) refl)

pub values_read : (parts : List PartView) (v : Values) → AreValues parts v → values_in parts ≡ Ok v
values_read parts v h =
    let p = value_read (codes "property") (value_named property_name properties) IsPropertyName (value_of (codes "property") parts) v.property property_read h.property in
    let i = value_read (codes "simulate") inputs_of AreInputs (value_of (codes "simulate") parts) v.inputs inputs_read h.inputs in
    let l = value_read (codes "sections") names_of rules.AreNames (value_of (codes "sections") parts) v.later names_read h.later in
    let s = value_read (codes "generate") seed_of IsSeed (value_of (codes "generate") parts) v.seed seed_read h.seed in
    let c = value_read (codes "count") (number_up_to most_controllers) (IsNumberUpTo most_controllers) (value_of (codes "count") parts) v.controllers (number_read most_controllers) h.controllers in
    let m = value_read (codes "c-name") code_name_of IsCodeName (value_of (codes "c-name") parts) v.code_name code_read h.code_name in
    rw (p, i, l, s, c, m, numbers_read parts v h, design_read parts v.design h.design) refl

samples_found : (parts : List PartView) (n : ℕ) → samples_in parts ≡ Ok n → IsNumber most_samples default_samples (value_of (codes "x-size") parts) n
samples_found parts n h =
    let s = passed (value_in (codes "x-size") (number_up_to most_samples) parts) (λ samples. Ok (unwrap_or samples default_samples)) n h in
    let same : unwrap_or s.value default_samples ≡ n = let e = s.second in cc in
    subst (IsNumber most_samples default_samples (value_of (codes "x-size") parts)) same (default_found (codes "x-size") most_samples default_samples (value_of (codes "x-size") parts) s.value s.first)

conflicts_found : (parts : List PartView) (n : ℕ) → conflicts_in parts ≡ Ok n → IsNumber most_conflicts default_conflicts (value_of (codes "conflicts") parts) n
conflicts_found parts n h =
    let s = passed (value_in (codes "conflicts") (number_up_to most_conflicts) parts) (λ conflicts. Ok (unwrap_or conflicts default_conflicts)) n h in
    let same : unwrap_or s.value default_conflicts ≡ n = let e = s.second in cc in
    subst (IsNumber most_conflicts default_conflicts (value_of (codes "conflicts") parts)) same (default_found (codes "conflicts") most_conflicts default_conflicts (value_of (codes "conflicts") parts) s.value s.first)

numbers_found : (parts : List PartView) (n : Numbers) → numbers_in parts ≡ Ok n
    → IsNumber most_samples default_samples (value_of (codes "x-size") parts) n.samples × IsNumber most_conflicts default_conflicts (value_of (codes "conflicts") parts) n.conflicts
numbers_found parts n h =
    let a = passed (samples_in parts) (λ samples. conflicts_in parts >>= λ conflicts. Ok (record { samples = samples; conflicts = conflicts })) n h in
    let b = passed (conflicts_in parts) (λ conflicts. Ok (record { samples = a.value; conflicts = conflicts })) n a.second in
    let same : record { samples = a.value; conflicts = b.value } ≡ n = let e = b.second in cc in
    subst (λ (m : Numbers). IsNumber most_samples default_samples (value_of (codes "x-size") parts) m.samples × IsNumber most_conflicts default_conflicts (value_of (codes "conflicts") parts) m.conflicts) same
    (samples_found parts a.value a.first, conflicts_found parts b.value b.first)

design_found : (parts : List PartView) (d : Design) → design_in parts ≡ Ok d → IsDesign parts d
design_found parts d h =
    let a = passed (value_in (codes "realization") (value_named realisation_name realisations) parts) _ d h in
    let b = passed (value_in (codes "rounding") (value_named rounding_name roundings) parts) _ d a.second in
    let c = passed (value_in (codes "overflow-mode") (value_named overflow_mode_name overflow_modes) parts) _ d b.second in
    let same : record { realisation = unwrap_or a.value Dfi; rounding = unwrap_or b.value Floor; overflow = unwrap_or c.value Wrap } ≡ d = let e = c.second in cc in
    subst (IsDesign parts) same (record {
      realisation = chosen_found (codes "realization") realisation_name realisations Dfi (value_of (codes "realization") parts) a.value are_names-realisations a.first;
      rounding = chosen_found (codes "rounding") rounding_name roundings Floor (value_of (codes "rounding") parts) b.value are_names-roundings b.first;
      overflow = chosen_found (codes "overflow-mode") overflow_mode_name overflow_modes Wrap (value_of (codes "overflow-mode") parts) c.value are_names-overflow_modes c.first;
    })

pub values_found : (parts : List PartView) (v : Values) → values_in parts ≡ Ok v → AreValues parts v
values_found parts v h =
    let p = passed (value_in (codes "property") (value_named property_name properties) parts) _ v h in
    let i = passed (value_in (codes "simulate") inputs_of parts) _ v p.second in
    let n = passed (numbers_in parts) _ v i.second in
    let l = passed (value_in (codes "sections") names_of parts) _ v n.second in
    let d = passed (design_in parts) _ v l.second in
    let s = passed (value_in (codes "generate") seed_of parts) _ v d.second in
    let c = passed (value_in (codes "count") (number_up_to most_controllers) parts) _ v s.second in
    let m = passed (value_in (codes "c-name") code_name_of parts) _ v c.second in
    let same : record { property = p.value; inputs = i.value; numbers = n.value; later = l.value; design = d.value; seed = s.value; controllers = c.value; code_name = m.value } ≡ v = same_value _ v m.second in
    let numbers = numbers_found parts n.value n.first in
    subst (AreValues parts) same (record {
      property = value_found (codes "property") (value_named property_name properties) IsPropertyName (value_of (codes "property") parts) p.value (λ t a e. are_names-properties.only t a e) p.first;
      inputs = value_found (codes "simulate") inputs_of AreInputs (value_of (codes "simulate") parts) i.value inputs_found i.first;
      samples = numbers.0;
      conflicts = numbers.1;
      later = value_found (codes "sections") names_of rules.AreNames (value_of (codes "sections") parts) l.value names_found l.first;
      design = design_found parts d.value d.first;
      seed = value_found (codes "generate") seed_of IsSeed (value_of (codes "generate") parts) s.value seed_found s.first;
      controllers = value_found (codes "count") (number_up_to most_controllers) (IsNumberUpTo most_controllers) (value_of (codes "count") parts) c.value (number_found most_controllers) c.first;
      code_name = value_found (codes "c-name") code_name_of IsCodeName (value_of (codes "c-name") parts) m.value code_found m.first;
    })
