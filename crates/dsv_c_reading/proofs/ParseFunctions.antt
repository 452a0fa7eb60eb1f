-- The pieces of helper functions are read as these functions.
use Rattle.std.proofs.Common.{◌≡◌, ℕ, ◌+◌, ◌-◌, ◌^◌, ◌<◌, ◌≤◌, ◌==◌, Bool, true, false, List, [], ◌∷◌, ◌++◌, length, map, refl, ap, ◌∙◌, arith}
use Rattle.std.specs.Prelude.{codes, Option, Some, None, if◌then◌else◌}
use Rattle.std.specs.Option.{option_and_then}
use Rattle.std.proofs.Math.IntN.{pos}
use Rattle.dsv_names.specs.declared.rounding.Rounding.{Rounding}
use Rattle.dsv_names.specs.declared.rounding.Rounding.TheVariants as rounding
use Rattle.dsv_names.specs.declared.overflow_mode.OverflowMode.{OverflowMode}
use Rattle.dsv_names.specs.declared.overflow_mode.OverflowMode.TheVariants as overflow_mode
use Rattle.dsv_word.specs.declared.format.Format.{Format}
use Rattle.dsv_word.specs.Words.{width}
use Rattle.dsv_c.specs.declared.c_type.CType.{CType}
use Rattle.dsv_c.specs.declared.c_type.CType.TheVariants.{Int, Int32, Int64}
use Rattle.dsv_c.specs.Meaning.{is_same_helper}
use Rattle.dsv_c.specs.Programs.{has_helper, addend_code, fitted_value, helper_order, named_function, functions_among}
use Rattle.dsv_c.specs.Syntax.{Helper, Rounded, Fitted, Local, Plus, Constant, NamedFunction}
use Rattle.dsv_ctext.specs.HelperTexts.{helper_local}
use Rattle.dsv_ctext.specs.Texts.{type_name}
use Rattle.dsv_c_reading.specs.Bodies.{Body, body_of}
use Rattle.dsv_c_reading.specs.Expressions.{type_named, helper_name, helper_named}
use Rattle.dsv_c_reading.specs.Items.{Item}
use Rattle.dsv_c_reading.specs.Units.{no_members, named_body, function_read, Functions, with_function, functions_of}
use Rattle.dsv_c_reading.proofs.Spelled.{no_name, function_item}
use Rattle.dsv_c_reading.proofs.ParseExpressions.{IsNamed}
use Rattle.dsv_c_reading.proofs.ParseBodies.{type_read, AreNamed, MayBeDeclared, body_read}
use Rattle.dsv_c_reading.proofs.ParseLabels.{helper_locals-differ, helper_local-free}

helper_read : (h : Helper) → helper_named (helper_name h) ≡ Some h
helper_read (Rounded Int) = refl
helper_read (Rounded Int32) = refl
helper_read (Rounded Int64) = refl
helper_read (Fitted Int) = refl
helper_read (Fitted Int32) = refl
helper_read (Fitted Int64) = refl

-- ---- one function
-- it has at most one local, and names only its locals
record IsHelperFunction (f : NamedFunction) : Type 0 where
  few : length f.function.locals ≤ 1
  locals : AreNamed 1 0 f.function.locals
  value : IsNamed (length f.function.locals + 1) 0 f.function.value

helper_names : (n : ℕ) → n ≤ 2 → MayBeDeclared helper_local no_name n 0
helper_names n h = record { locals = helper_locals-differ n h; free = λ k l. helper_local-free k; members = record { is = λ i k l m. absurd (omega arith) } }

-- from its parts
parts_read : (f : NamedFunction) (name : Option Helper) (result parameter : Option CType) (b : Option Body) → name ≡ Some f.name → result ≡ Some f.function.result → parameter ≡ Some f.function.parameter
    → b ≡ Some (record { locals = f.function.locals; stores = []; value = f.function.value }) → named_body name result parameter b ≡ Some f
parts_read f name result parameter b h k l m = rw (h, k, l, m) refl

one_read : (f : NamedFunction) → IsHelperFunction f → function_read (function_item f).head (function_item f).lines ≡ Some f
one_read f h =
    let g = f.function in
    let n = length g.locals + 1 in
    parts_read f (helper_named (helper_name f.name)) (type_named (type_name g.result)) (type_named (type_name g.parameter)) (body_of (no_members (codes "v")) (function_item f).lines) (helper_read f.name) (type_read g.result) (type_read g.parameter)
    (body_read helper_local no_name n 0 (helper_names n (omega (arith, h.few))) 1 g.locals [] g.value (omega arith) h.locals (λ k d l. absurd (omega arith)) h.value)

-- ---- those of a format
addend_named : (r : Rounding) (f : ℕ) → IsNamed 1 0 (addend_code r f)
addend_named rounding.Floor f = omega arith
addend_named rounding.Ceil f = (omega arith, tt)
addend_named rounding.Nearest f = by_test (f == 0)
  where
    by_test : (b : Bool) → IsNamed 1 0 (if b then Local 0 else Plus (Local 0) (Constant (pos (2 ^ (f - 1)))))
    by_test true = omega arith
    by_test false = (omega arith, tt)

fitted_named : (o : OverflowMode) (n : ℕ) → n < 63 → IsNamed 1 0 (fitted_value o n)
fitted_named overflow_mode.Wrap n h = (((omega arith, h), omega arith), tt)
fitted_named overflow_mode.Saturate n h = (omega arith, tt, tt, (tt, omega arith, tt, omega arith))

of_format : (format : Format) (h : Helper) → width format < 63 → IsHelperFunction (named_function format h)
of_format format (Rounded t) s = record {
  few = omega arith;
  locals = (addend_named format.rounding format.frac_bits, tt);
  value = ((omega arith, (omega arith, omega arith)), omega arith);
}
of_format format (Fitted t) s = record { few = omega arith; locals = tt; value = fitted_named format.overflow (width format) s }

-- ---- all of them
-- no helper stands twice
abbrev IsOnce : List Helper → Type 0
IsOnce [] = Unit {0}
IsOnce (h ∷ hs) = (has_helper h hs ≡ false) × IsOnce hs

abbrev names_in : List NamedFunction → List Helper
names_in fs = map (λ g. g.name) fs

-- the functions, with one more if it is called
abbrev either : {A : Type 0} → Bool → A → List A → List A
either b f fs = if b then f ∷ fs else fs

neither : (a b : Bool) → (if a then true else b) ≡ false → (a ≡ false) × (b ≡ false)
neither true b h = absurd (cc)
neither false b h = (refl, h)

not_either : (name : Helper) (b : Bool) (f : NamedFunction) (fs : List NamedFunction) → is_same_helper f.name name ≡ false → has_helper name (names_in fs) ≡ false → has_helper name (names_in (either b f fs)) ≡ false
not_either name true f fs h k = rw h k
not_either name false f fs h k = k

not_among : (format : Format) (called : List Helper) (name : Helper) (order : List Helper) → has_helper name order ≡ false → has_helper name (names_in (functions_among format called order)) ≡ false
not_among format called name [] h = refl
not_among format called name (k ∷ order) h =
    let p = neither (is_same_helper k name) (has_helper name order) h in
    not_either name (has_helper k called) (named_function format k) (functions_among format called order) p.0 (not_among format called name order p.1)

abbrev pub functions : List NamedFunction → List Item → Functions
functions fs rest = record { functions = fs; rest = rest }

first_read : (f : NamedFunction) (fs : List NamedFunction) (end : List Item) (b : Bool) → has_helper f.name (names_in fs) ≡ false → (b ≡ true → IsHelperFunction f) → functions_of (map function_item fs ++ end) ≡ Some (functions fs end)
    → functions_of (map function_item (either b f fs) ++ end) ≡ Some (functions (either b f fs) end)
first_read f fs end false n h k = k
first_read f fs end true n h k =
    ap (option_and_then (λ (g : NamedFunction). option_and_then (with_function g) (functions_of (map function_item fs ++ end)))) (one_read f (h refl))
    ∙ (ap (option_and_then (with_function f)) k ∙ ap (λ (b : Bool). if b then None else Some (functions (f ∷ fs) end)) n)

small_rest : (n : ℕ) (b : Bool) (f : NamedFunction) (fs : List NamedFunction) → (1 ≤ length (either b f fs) → n < 63) → 1 ≤ length fs → n < 63
small_rest n true f fs h k = h (omega arith)
small_rest n false f fs h k = h k

small_first : (n : ℕ) (b : Bool) (f : NamedFunction) (fs : List NamedFunction) → (1 ≤ length (either b f fs) → n < 63) → b ≡ true → n < 63
small_first n true f fs h k = h (omega arith)
small_first n false f fs h k = absurd (cc)

pub functions_read : (format : Format) (called order : List Helper) (end : List Item) → IsOnce order → (1 ≤ length (functions_among format called order) → width format < 63) → functions_of end ≡ Some (functions [] end)
    → functions_of (map function_item (functions_among format called order) ++ end) ≡ Some (functions (functions_among format called order) end)
functions_read format called [] end o s h = h
functions_read format called (k ∷ order) end o s h =
    let f = named_function format k in
    let fs = functions_among format called order in
    let b = has_helper k called in
    first_read f fs end b (not_among format called k order o.0) (λ t. of_format format k (small_first (width format) b f fs s t)) (functions_read format called order end o.1 (small_rest (width format) b f fs s) h)

pub helpers_once : IsOnce helper_order
helpers_once = (refl, (refl, (refl, (refl, (refl, (refl, tt))))))
