-- The expressions of nodes have the nodes' values.
use Rattle.std.proofs.Common.{map, ◌≡◌, ℕ, ◌+◌, ◌^◌, ◌<◌, ◌≤◌, Bool, true, false, inl, inr, List, [], ◌∷◌, ◌++◌, length, length-append, get_or, refl, sym, ap, subst, ◌∙◌, arith}
use Rattle.std.specs.Prelude.{Some, nat_lt, slice_get, slice_index}
use Rattle.std.specs.List.{All}
use Rattle.std.specs.Int.RustNames.{unsigned_abs}
use Rattle.std.proofs.Math.IntN.{ℤ, pos, ◌+ℤ◌, ◌-ℤ◌, ◌*ℤ◌}
use Rattle.std.proofs.lemmas.Bool.{cases_lt}
use Rattle.std.proofs.lemmas.List.{map-append, get_or_append_left, get_or_push, length_push, append_assoc, append-nil}
use Rattle.std.proofs.lemmas.List.Elements.{All-nil, All-cons, All-head, All-tail, All-get_or}
use Rattle.std.proofs.lemmas.Option.{slice_get-get_or}
use Rattle.dsv_word.specs.declared.format.Format.{Format}
use Rattle.dsv_word.specs.Words.{IsWord, width, fit}
use Rattle.dsv_word.specs.Quotients.{whole_shift}
use Rattle.dsv_netlist.specs.declared.node.Node.{Node}
use Rattle.dsv_netlist.specs.declared.node.Node.TheVariants.{Input, Reg, MulConst, Round, Add, Sub, Fit, Scale}
use Rattle.dsv_netlist.specs.Nodes.{Sample, at, node_value, node_exact, after_node, sample_from}
use Rattle.dsv_netlist.specs.Bounds.{node_bound, bounds_from}
use Rattle.dsv_netlist.specs.Conditions.{NamesBelow, ReadsBelow}
use Rattle.dsv_netlist.proofs.Sizes.{fit_is_word, word_size}
use Rattle.dsv_netlist.proofs.Runs.{Words}
use Rattle.dsv_netlist.proofs.BoundLemmas as bounds
use Rattle.dsv_c.specs.declared.c_type.CType.{CType}
use Rattle.dsv_c.specs.declared.c_type.CType.TheVariants.{Int, Int32, Int64}
use Rattle.dsv_c.specs.Syntax.{Helper, Rounded, Fitted, Expr, Local, Cast, Plus, Minus, Call, Declaration}
use Rattle.dsv_c.specs.Meaning.{CValue, c_value, Scope, limit, wider_type, constant, conversion, scope, Calls, value_of, after_declarations, call_result}
use Rattle.dsv_c.specs.Programs.{word_type, headroom, type_for, helper_code, TypedExpr, typed_expr, as_wide, as_needed, code_at, helper_type, node_code, node_locals, node_helpers, codes_from, locals_from, helpers_from, product_code, sum_code}
use Rattle.dsv_c.specs.Codable.{HasConstant}
use Rattle.dsv_c.proofs.HeldNumbers.{size_held, left_wider, constant_is, then_is, converted_is, operation_is}
use Rattle.dsv_c.proofs.NodeSizes.{Rest, size_before, size_next, rest_more}
use Rattle.dsv_c.proofs.Helpers.{declared_one, word_bound_small, unit_small, rounded_returns, fitted_returns, word_held}

-- these calls give what this helper function of the format returns
abbrev pub Calling : Format → Calls → Helper → Type 0
Calling f calls helper = (v : ℤ) → calls helper v ≡ call_result (helper_code f helper) v

-- after these locals the expression gives v, whatever stands in the members and in later locals
pub record IsCode (f : Format) (calls : Calls) (locals : List CValue) (c : TypedExpr) (v : ℤ) : Type 0 where
  pub gives : (more members : List CValue) → value_of calls (scope (locals ++ more) members) c.expr ≡ Some (c_value c.type v)
  pub wide : limit Int32 ≤ limit c.type
  pub small : unsigned_abs v < limit Int64

later : (f : Format) (calls : Calls) (locals more : List CValue) (c : TypedExpr) (v : ℤ) → IsCode f calls locals c v → IsCode f calls (locals ++ more) c v
later f calls locals more c v h = record {
  gives = λ rest members. subst (λ (ls : List CValue). value_of calls (scope ls members) c.expr ≡ Some (c_value c.type v)) (sym (append_assoc locals more rest)) (h.gives (more ++ rest) members);
  wide = h.wide;
  small = h.small;
}

all_first : {X : Type 0} (P : X → Type 0) (xs ys : List X) → All P (xs ++ ys) → All P xs
all_first P [] ys h = All-nil P
all_first P (x ∷ xs) ys h = All-cons P x xs (All-head P x (xs ++ ys) h) (all_first P xs ys (All-tail P x (xs ++ ys) h))

all_second : {X : Type 0} (P : X → Type 0) (xs ys : List X) → All P (xs ++ ys) → All P ys
all_second P [] ys h = h
all_second P (x ∷ xs) ys h = all_second P xs ys (All-tail P x (xs ++ ys) h)

-- ---- types with room
-- there is room for a value of this bound, and for what is added to it
abbrev pub HasTypeRoom : Format → CType → ℕ → Type 0
HasTypeRoom f t b = b + headroom f < limit t

room_by : (f : Format) (b : ℕ) (small : Bool) → nat_lt (b + headroom f) (limit Int32) ≡ small → b + headroom f < limit Int64 → HasTypeRoom f (type_for f b) b × (limit Int32 ≤ limit (type_for f b))
room_by f b true e h = let l : b + headroom f < limit Int32 = grind arith in rw e (l, omega arith)
room_by f b false e h = rw e (h, omega arith)

type_room : (f : Format) (b : ℕ) → b + headroom f < limit Int64 → HasTypeRoom f (type_for f b) b × (limit Int32 ≤ limit (type_for f b))
type_room f b h = room_by f b (nat_lt (b + headroom f) (limit Int32)) refl h

word_wide : (f : Format) → limit Int32 ≤ limit (word_type f)
word_wide f = word_wide_by (nat_lt (width f) 33) refl
  where
    word_wide_by : (b : Bool) → nat_lt (width f) 33 ≡ b → limit Int32 ≤ limit (word_type f)
    word_wide_by true e = rw e (omega arith)
    word_wide_by false e = rw e (omega arith)

-- ---- conversions to a wider_type type
cast_is : (f : Format) (calls : Calls) (locals : List CValue) (t : CType) (e : Expr) (v : ℤ) → IsCode f calls locals (typed_expr e t) v → IsCode f calls locals (typed_expr (Cast Int64 e) Int64) v
cast_is f calls locals t e v h = record {
  gives = λ more members. converted_is Int64 t v (value_of calls (scope (locals ++ more) members) e) (h.gives more members) (size_held Int64 v h.small);
  wide = omega arith;
  small = h.small;
}

wide_is : (f : Format) (calls : Calls) (locals : List CValue) (t : CType) (e : Expr) (v : ℤ) → IsCode f calls locals (typed_expr e t) v → IsCode f calls locals (as_wide t e) v × (limit Int64 ≤ limit (as_wide t e).type)
wide_is f calls locals Int e v h = (cast_is f calls locals Int e v h, omega arith)
wide_is f calls locals Int32 e v h = (cast_is f calls locals Int32 e v h, omega arith)
wide_is f calls locals Int64 e v h = (h, omega arith)

widened_is : (f : Format) (calls : Calls) (locals : List CValue) (t : CType) (c : TypedExpr) (v : ℤ) → IsCode f calls locals c v → IsCode f calls locals (as_needed t c) v × (limit t ≤ limit (as_needed t c).type)
widened_is f calls locals Int c v h = (h, omega (arith, h.wide))
widened_is f calls locals Int32 c v h = (h, h.wide)
widened_is f calls locals Int64 c v h = wide_is f calls locals c.type c.expr v h

-- ---- products, sums and differences
product_is : (f : Format) (calls : Calls) (locals : List CValue) (k : ℤ) (t : CType) (c : TypedExpr) (v : ℤ) → unsigned_abs k < limit Int64 → IsCode f calls locals c v → limit t ≤ limit c.type
    → unsigned_abs (k *ℤ v) < limit t → unsigned_abs (k *ℤ v) < limit Int64 → IsCode f calls locals (product_code k c) (k *ℤ v)
product_is f calls locals k t c v j h w s l = record {
  gives = λ more members. operation_is (λ a b. a *ℤ b) (constant k) (value_of calls (scope (locals ++ more) members) c.expr) Int c.type k v (constant_is k j) (h.gives more members)
      (size_held c.type (k *ℤ v) (omega arith));
  wide = h.wide;
  small = l;
}

plus_is : (f : Format) (calls : Calls) (locals : List CValue) (t : CType) (c d : TypedExpr) (u v : ℤ) → IsCode f calls locals c u → IsCode f calls locals d v → limit t ≤ limit c.type
    → unsigned_abs (u +ℤ v) < limit t → unsigned_abs (u +ℤ v) < limit Int64 → IsCode f calls locals (sum_code Plus c d) (u +ℤ v)
plus_is f calls locals t c d u v h k w s l = record {
  gives = λ more members. operation_is (λ a b. a +ℤ b) (value_of calls (scope (locals ++ more) members) c.expr) (value_of calls (scope (locals ++ more) members) d.expr) c.type d.type u v
      (h.gives more members) (k.gives more members) (size_held (wider_type c.type d.type) (u +ℤ v) (omega (arith, left_wider c.type d.type)));
  wide = omega (arith, h.wide, left_wider c.type d.type);
  small = l;
}

minus_is : (f : Format) (calls : Calls) (locals : List CValue) (t : CType) (c d : TypedExpr) (u v : ℤ) → IsCode f calls locals c u → IsCode f calls locals d v → limit t ≤ limit c.type
    → unsigned_abs (u -ℤ v) < limit t → unsigned_abs (u -ℤ v) < limit Int64 → IsCode f calls locals (sum_code Minus c d) (u -ℤ v)
minus_is f calls locals t c d u v h k w s l = record {
  gives = λ more members. operation_is (λ a b. a -ℤ b) (value_of calls (scope (locals ++ more) members) c.expr) (value_of calls (scope (locals ++ more) members) d.expr) c.type d.type u v
      (h.gives more members) (k.gives more members) (size_held (wider_type c.type d.type) (u -ℤ v) (omega (arith, left_wider c.type d.type)));
  wide = omega (arith, h.wide, left_wider c.type d.type);
  small = l;
}

-- ---- words
local_at : (locals more : List CValue) (i : ℕ) (v : CValue) → i < length locals → get_or locals i v ≡ v → slice_get (locals ++ more) i ≡ Some v
local_at locals more i v h e =
    let l : i < length (locals ++ more) = omega (arith, length-append locals more) in
    slice_get-get_or (locals ++ more) i v l ∙ ap Some (get_or_append_left locals more v i h ∙ e)

local_is : (f : Format) (calls : Calls) (locals : List CValue) (i : ℕ) (w : ℤ) → i < length locals → get_or locals i (c_value (word_type f) w) ≡ c_value (word_type f) w → IsWord f w
    → IsCode f calls locals (typed_expr (Local i) (word_type f)) w
local_is f calls locals i w h e word =
    let s = word_size f w word in
    let b = word_bound_small f in
    record {
      gives = λ more members. local_at locals more i (c_value (word_type f) w) h e;
      wide = word_wide f;
      small = omega arith;
    }

-- ---- calls
round_is : (f : Format) (calls : Calls) (locals : List CValue) (t : CType) (c : TypedExpr) (v : ℤ) (b : ℕ) → Calling f calls (Rounded t) → IsCode f calls locals c v → limit Int32 ≤ limit t → unsigned_abs v ≤ b → HasTypeRoom f t b
    → unsigned_abs (whole_shift f.rounding f.frac_bits v) < limit Int64 → IsCode f calls locals (typed_expr (Call (Rounded t) c.expr) t) (whole_shift f.rounding f.frac_bits v)
round_is f calls locals t c v b g h w s r l = record {
  gives = λ more members. then_is (λ u. calls (Rounded t) u.number) (value_of calls (scope (locals ++ more) members) c.expr) (c_value c.type v) (h.gives more members)
      ∙ (g v ∙ rounded_returns f t v w (omega arith));
  wide = w;
  small = l;
}

fit_gives : (f : Format) (calls : Calls) (locals members : List CValue) (t : CType) (c : TypedExpr) (v : ℤ) (b : ℕ) → Calling f calls (Fitted t) → IsCode f calls locals c v → limit Int32 ≤ limit t → unsigned_abs v ≤ b → HasTypeRoom f t b
    → conversion (word_type f) (value_of calls (scope locals members) (Call (Fitted t) c.expr)) ≡ Some (c_value (word_type f) (fit f.overflow (width f) v))
fit_gives f calls locals members t c v b g h w s r =
    let here = subst (λ (ls : List CValue). value_of calls (scope ls members) c.expr ≡ Some (c_value c.type v)) (append-nil locals) (h.gives [] members) in
    let call = then_is (λ u. calls (Fitted t) u.number) (value_of calls (scope locals members) c.expr) (c_value c.type v) here ∙ (g v ∙ fitted_returns f t v w (omega arith)) in
    converted_is (word_type f) (word_type f) (fit f.overflow (width f) v) (value_of calls (scope locals members) (Call (Fitted t) c.expr)) call
    (word_held f (fit f.overflow (width f) v) (fit_is_word f v))

-- ---- what is known of nodes and their expressions so far
pub record Coding (f : Format) (calls : Calls) (locals : List CValue) (codes : List TypedExpr) (values : List ℤ) : Type 0 where
  pub long : length codes ≡ length values
  pub each : (i : ℕ) → i < length values → IsCode f calls locals (code_at codes i) (at values i)

coding_more : (f : Format) (calls : Calls) (locals added : List CValue) (codes : List TypedExpr) (values : List ℤ) (c : TypedExpr) (v : ℤ) → Coding f calls locals codes values → IsCode f calls (locals ++ added) c v
    → Coding f calls (locals ++ added) (codes ++ c ∷ []) (values ++ v ∷ [])
coding_more f calls locals added codes values c v h k =
    let d = typed_expr (Local 0) Int in
    record {
      long = omega (arith, h.long, length_push codes c, length_push values v);
      each = λ i l. elim (cases_lt i (length values)) [
        | inl p ↦ rw (get_or_append_left codes (c ∷ []) d i (omega (arith, h.long)), get_or_append_left values (v ∷ []) (pos 0) i p) (later f calls locals added (code_at codes i) (at values i) (h.each i p))
        | inr p ↦ let e : length values ≡ i = omega (arith, length_push values v) in let g : length codes ≡ i = omega (arith, h.long) in rw (get_or_push codes c d i g, get_or_push values v (pos 0) i e) k
      ];
    }

-- where the input and the registers stand
pub record Sources (f : Format) (rs : List ℤ) (x : ℤ) (locals : List CValue) : Type 0 where
  pub input : get_or locals 0 (c_value (word_type f) x) ≡ c_value (word_type f) x
  pub registers : (k : ℕ) → k < length rs → get_or locals (k + 1) (c_value (word_type f) (at rs k)) ≡ c_value (word_type f) (at rs k)
  pub many : length rs < length locals

sources_later : (f : Format) (rs : List ℤ) (x : ℤ) (locals more : List CValue) → Sources f rs x locals → Sources f rs x (locals ++ more)
sources_later f rs x locals more h = record {
  input = get_or_append_left locals more (c_value (word_type f) x) 0 (omega (arith, h.many)) ∙ h.input;
  registers = λ k l. get_or_append_left locals more (c_value (word_type f) (at rs k)) (k + 1) (omega (arith, h.many)) ∙ h.registers k l;
  many = omega (arith, h.many, length-append locals more);
}

-- the bounds leave room in int64_t, and the coefficients are constants
abbrev pub IsRoomy : Format → ℕ → Type 0
IsRoomy f b = b + headroom f < limit Int64

pub record Rooms (f : Format) (ns : List Node) (bs : List ℕ) : Type 0 where
  pub all : All (IsRoomy f) (bounds_from f ns bs)
  pub constants : All HasConstant ns

room_at : (f : Format) (ns : List Node) (bs : List ℕ) (i : ℕ) → Rooms f ns bs → i < length bs → IsRoomy f (slice_index bs i)
room_at f ns bs i h l =
    let k = bounds.from_keeps f ns bs i l in
    subst (IsRoomy f) k (All-get_or (IsRoomy f) (bounds_from f ns bs) i 0 (omega (arith, bounds.from-length f ns bs)) h.all)

room_here : (f : Format) (n : Node) (ns : List Node) (bs : List ℕ) → Rooms f (n ∷ ns) bs → IsRoomy f (node_bound f bs n)
room_here f n ns bs h =
    let b = node_bound f bs n in
    let more = bs ++ b ∷ [] in
    let k = bounds.from_keeps f ns more (length bs) (omega (arith, length_push bs b)) ∙ get_or_push bs b 0 (length bs) refl in
    subst (IsRoomy f) k (All-get_or (IsRoomy f) (bounds_from f ns more) (length bs) 0 (omega (arith, bounds.from-length f ns more, length_push bs b)) h.all)

-- the local of an exact value
abbrev pub fitted_local : Format → ℤ → CValue
fitted_local f e = c_value (word_type f) (fit f.overflow (width f) e)

-- ---- a node
record Placed (f : Format) (calls : Calls) (rs : List ℤ) (x : ℤ) (n : Node) (bs : List ℕ) (codes : List TypedExpr) (locals : List CValue) (values : List ℤ) (l : ℕ) : Type 0 where
  added : List CValue
  many : length added ≡ length (node_locals f bs codes n)
  fits : added ≡ map (fitted_local f) (node_exact values n)
  runs : (rest : List Declaration) (members : List CValue) → after_declarations calls (node_locals f bs codes n ++ rest) (scope locals members) ≡ after_declarations calls rest (scope (locals ++ added) members)
  code : IsCode f calls (locals ++ added) (node_code f bs codes l n) (node_value f rs x values n)

runs_none : (f : Format) (calls : Calls) (locals : List CValue) (rest : List Declaration) (members : List CValue) → after_declarations calls rest (scope locals members) ≡ after_declarations calls rest (scope (locals ++ []) members)
runs_none f calls locals rest members = ap (λ (ls : List CValue). after_declarations calls rest (scope ls members)) (sym (append-nil locals))

-- what a node's place is made from
record Before (f : Format) (calls : Calls) (rs : List ℤ) (x : ℤ) (n : Node) (bs : List ℕ) (codes : List TypedExpr) (locals : List CValue) (values : List ℤ) (l : ℕ) : Type 0 where
  words : Words f rs x
  sources : Sources f rs x locals
  coding : Coding f calls locals codes values
  within : (i : ℕ) → i < length values → unsigned_abs (at values i) ≤ slice_index bs i
  backwards : NamesBelow (length values) n
  reads : ReadsBelow (length rs) n
  size : unsigned_abs (node_value f rs x values n) ≤ node_bound f bs n
  room : IsRoomy f (node_bound f bs n)
  rooms : (i : ℕ) → i < length values → IsRoomy f (slice_index bs i)
  constant : HasConstant n
  count : l ≡ length locals
  calling : All (Calling f calls) (node_helpers f bs codes n)

-- the type of a helper function for node i
helper_room : (f : Format) (calls : Calls) (rs : List ℤ) (x : ℤ) (n : Node) (bs : List ℕ) (codes : List TypedExpr) (locals : List CValue) (values : List ℤ) (l i : ℕ) → Before f calls rs x n bs codes locals values l → i < length values
    → HasTypeRoom f (helper_type f bs codes i) (slice_index bs i) × (limit Int32 ≤ limit (helper_type f bs codes i))
helper_room f calls rs x n bs codes locals values l i h p =
    let b = slice_index bs i in
    let r = type_room f b (h.rooms i p) in
    let w = left_wider (type_for f b) (code_at codes i).type in
    (omega (arith, r.0), omega (arith, r.1))

node_placed : (f : Format) (calls : Calls) (rs : List ℤ) (x : ℤ) (n : Node) (bs : List ℕ) (codes : List TypedExpr) (locals : List CValue) (values : List ℤ) (l : ℕ) → Before f calls rs x n bs codes locals values l → Placed f calls rs x n bs codes locals values l
node_placed f calls rs x Input bs codes locals values l h = record {
  added = [];
  many = refl;
  fits = refl;
  runs = runs_none f calls locals;
  code = later f calls locals [] (typed_expr (Local 0) (word_type f)) x (local_is f calls locals 0 x (omega (arith, h.sources.many)) h.sources.input h.words.input);
}
node_placed f calls rs x (Reg k) bs codes locals values l h = record {
  added = [];
  many = refl;
  fits = refl;
  runs = runs_none f calls locals;
  code = later f calls locals [] (typed_expr (Local (k + 1)) (word_type f)) (at rs k) (local_is f calls locals (k + 1) (at rs k) (omega (arith, h.sources.many, h.reads)) (h.sources.registers k h.reads) (h.words.each k h.reads));
}
node_placed f calls rs x (MulConst c i) bs codes locals values l h =
    let b = node_bound f bs (MulConst c i) in
    let r = type_room f b h.room in
    let wide = widened_is f calls locals (type_for f b) (code_at codes i) (at values i) (h.coding.each i h.backwards) in
    record {
      added = [];
      many = refl;
      fits = refl;
      runs = runs_none f calls locals;
      code = later f calls locals [] (node_code f bs codes l (MulConst c i)) (c *ℤ at values i)
          (product_is f calls locals c (type_for f b) (as_needed (type_for f b) (code_at codes i)) (at values i) h.constant wide.0 wide.1 (omega (arith, h.size, r.0)) (omega (arith, h.size, h.room)));
    }
node_placed f calls rs x (Round i) bs codes locals values l h =
    let r = helper_room f calls rs x (Round i) bs codes locals values l i h h.backwards in
    record {
      added = [];
      many = refl;
      fits = refl;
      runs = runs_none f calls locals;
      code = later f calls locals [] (node_code f bs codes l (Round i)) (whole_shift f.rounding f.frac_bits (at values i))
          (round_is f calls locals (helper_type f bs codes i) (code_at codes i) (at values i) (slice_index bs i) (All-head (Calling f calls) (Rounded (helper_type f bs codes i)) [] h.calling) (h.coding.each i h.backwards) r.1 (h.within i h.backwards) r.0 (omega (arith, h.size, h.room)));
    }
node_placed f calls rs x (Add i j) bs codes locals values l h =
    let b = node_bound f bs (Add i j) in
    let r = type_room f b h.room in
    let wide = widened_is f calls locals (type_for f b) (code_at codes i) (at values i) (h.coding.each i h.backwards.0) in
    record {
      added = [];
      many = refl;
      fits = refl;
      runs = runs_none f calls locals;
      code = later f calls locals [] (node_code f bs codes l (Add i j)) (at values i +ℤ at values j)
          (plus_is f calls locals (type_for f b) (as_needed (type_for f b) (code_at codes i)) (code_at codes j) (at values i) (at values j) wide.0 (h.coding.each j h.backwards.1) wide.1 (omega (arith, h.size, r.0)) (omega (arith, h.size, h.room)));
    }
node_placed f calls rs x (Sub i j) bs codes locals values l h =
    let b = node_bound f bs (Sub i j) in
    let r = type_room f b h.room in
    let wide = widened_is f calls locals (type_for f b) (code_at codes i) (at values i) (h.coding.each i h.backwards.0) in
    record {
      added = [];
      many = refl;
      fits = refl;
      runs = runs_none f calls locals;
      code = later f calls locals [] (node_code f bs codes l (Sub i j)) (at values i -ℤ at values j)
          (minus_is f calls locals (type_for f b) (as_needed (type_for f b) (code_at codes i)) (code_at codes j) (at values i) (at values j) wide.0 (h.coding.each j h.backwards.1) wide.1 (omega (arith, h.size, r.0)) (omega (arith, h.size, h.room)));
    }
node_placed f calls rs x (Fit i) bs codes locals values l h =
    let r = helper_room f calls rs x (Fit i) bs codes locals values l i h h.backwards in
    let w = fit f.overflow (width f) (at values i) in
    let t = helper_type f bs codes i in
    let v = c_value (word_type f) w in
    let d : Declaration = record { type = word_type f; value = Call (Fitted t) (code_at codes i).expr } in
    record {
      added = v ∷ [];
      many = refl;
      fits = refl;
      runs = λ rest members. declared_one calls d rest (scope locals members) v
          (fit_gives f calls locals members t (code_at codes i) (at values i) (slice_index bs i) (All-head (Calling f calls) (Fitted t) [] h.calling) (h.coding.each i h.backwards) r.1 (h.within i h.backwards) r.0);
      code = local_is f calls (locals ++ v ∷ []) l w (omega (arith, h.count, length_push locals v)) (get_or_push locals v v l (sym h.count)) (fit_is_word f (at values i));
    }
node_placed f calls rs x (Scale i) bs codes locals values l h =
    let b = node_bound f bs (Scale i) in
    let k = pos (2 ^ f.frac_bits) in
    let r = type_room f b h.room in
    let u = unit_small f in
    let s = word_bound_small f in
    let wide = widened_is f calls locals (type_for f b) (code_at codes i) (at values i) (h.coding.each i h.backwards) in
    record {
      added = [];
      many = refl;
      fits = refl;
      runs = runs_none f calls locals;
      code = later f calls locals [] (node_code f bs codes l (Scale i)) (k *ℤ at values i)
          (product_is f calls locals k (type_for f b) (as_needed (type_for f b) (code_at codes i)) (at values i) (omega arith) wide.0 wide.1 (omega (arith, h.size, r.0)) (omega (arith, h.size, h.room)));
    }

-- ---- all nodes
declared_more : (calls : Calls) (ds later rest : List Declaration) (s t u : Scope) → after_declarations calls (ds ++ (later ++ rest)) s ≡ after_declarations calls (later ++ rest) t
    → after_declarations calls (later ++ rest) t ≡ after_declarations calls rest u → after_declarations calls ((ds ++ later) ++ rest) s ≡ after_declarations calls rest u
declared_more calls ds later rest s t u p q = ap (λ (all : List Declaration). after_declarations calls all s) (append_assoc ds later rest) ∙ (p ∙ q)

joined_locals : {A B : Type 0} (g : A → B) (locals added : List B) (made more : List A) → added ≡ map g made → (locals ++ added) ++ map g more ≡ locals ++ map g (made ++ more)
joined_locals g locals added made more e =
    append_assoc locals added (map g more) ∙ ap (λ ls. locals ++ ls) (ap (λ ls. ls ++ map g more) e ∙ sym (map-append g made more))

pub record Ran (f : Format) (calls : Calls) (rs : List ℤ) (x : ℤ) (ns : List Node) (bs : List ℕ) (codes : List TypedExpr) (locals members : List CValue) (s : Sample) (l : ℕ) : Type 0 where
  pub final : List CValue
  pub runs : (rest : List Declaration) → after_declarations calls (locals_from f ns bs codes l ++ rest) (scope locals members) ≡ after_declarations calls rest (scope final members)
  pub coding : Coding f calls final (codes_from f ns bs codes l) (sample_from f rs x ns s).values
  pub exact : List ℤ
  pub exacts : (sample_from f rs x ns s).exact ≡ s.exact ++ exact
  pub values : final ≡ locals ++ map (fitted_local f) exact

pub ran : (f : Format) (calls : Calls) (rs : List ℤ) (x : ℤ) (ns : List Node) (bs : List ℕ) (codes : List TypedExpr) (locals members : List CValue) (s : Sample) (l : ℕ) → Words f rs x → Rest f rs x ns bs s → Sources f rs x locals
    → Coding f calls locals codes s.values → Rooms f ns bs → l ≡ length locals → All (Calling f calls) (helpers_from f ns bs codes l) → Ran f calls rs x ns bs codes locals members s l
ran f calls rs x [] bs codes locals members s l w a src c r e g = record { final = locals; runs = λ rest. refl; coding = c; exact = []; exacts = sym (append-nil s.exact); values = sym (append-nil locals) }
ran f calls rs x (n ∷ ns) bs codes locals members s l w a src c r e g =
    let made = node_exact s.values n in
    let hs = node_helpers f bs codes n in
    let more_hs = helpers_from f ns (bs ++ node_bound f bs n ∷ []) (codes ++ node_code f bs codes l n ∷ []) (l + length (node_locals f bs codes n)) in
    let here : Before f calls rs x n bs codes locals s.values l = record {
      words = w;
      sources = src;
      coding = c;
      within = λ i p. size_before f rs x (n ∷ ns) bs s i a p;
      backwards = a.backwards.0;
      reads = All-head (ReadsBelow (length rs)) n ns a.reads;
      size = size_next f rs x n ns bs s a;
      room = room_here f n ns bs r;
      rooms = λ i p. room_at f (n ∷ ns) bs i r (omega (arith, a.long));
      constant = All-head HasConstant n ns r.constants;
      count = e;
      calling = all_first (Calling f calls) hs more_hs g;
    } in
    let p = node_placed f calls rs x n bs codes locals s.values l here in
    let b = node_bound f bs n in
    let code = node_code f bs codes l n in
    let ds = node_locals f bs codes n in
    let rooms : Rooms f ns (bs ++ b ∷ []) = record { all = r.all; constants = All-tail HasConstant n ns r.constants } in
    let more = ran f calls rs x ns (bs ++ b ∷ []) (codes ++ code ∷ []) (locals ++ p.added) members (after_node f rs x s n) (l + length ds) w (rest_more f rs x n ns bs s a)
    (sources_later f rs x locals p.added src) (coding_more f calls locals p.added codes s.values code (node_value f rs x s.values n) c p.code) rooms (omega (arith, p.many, length-append locals p.added)) (all_second (Calling f calls) hs more_hs g) in
    let later_ds = locals_from f ns (bs ++ b ∷ []) (codes ++ code ∷ []) (l + length ds) in
    record {
      final = more.final;
      runs = λ rest. declared_more calls ds later_ds rest (scope locals members) (scope (locals ++ p.added) members) (scope more.final members) (p.runs (later_ds ++ rest) members) (more.runs rest);
      coding = more.coding;
      exact = made ++ more.exact;
      exacts = more.exacts ∙ append_assoc s.exact made more.exact;
      values = more.values ∙ joined_locals (fitted_local f) locals p.added made more.exact p.fits;
    }
