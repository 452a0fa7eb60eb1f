-- The fields of a file are refused for the first one at fault.
use Rattle.std.proofs.Common.{◌≡◌, ◌≢◌, ℕ, zero, suc, Bool, true, false, List, [], ◌∷◌, ◌++◌, inl, inr, refl, sym, ap, ◌∙◌, subst, arith}
use Rattle.std.specs.Prelude.{◌↔◌, Option, Some, None, is_some, Result, Ok, Err}
use Rattle.std.specs.List.{Contains}
use Rattle.dsv_token.specs.declared.refusal.FileRefusal.{FileRefusal}
use Rattle.dsv_token.specs.declared.refusal.FileRefusal.TheVariants as refusal
use Rattle.dsv_names.specs.declared.field.Field.TheVariants as field
use Rattle.dsv_names.specs.declared.setting.Setting.TheVariants as setting
use Rattle.dsv_syntax.specs.declared.entry.Label.{Label}
use Rattle.dsv_syntax.specs.declared.entry.Label.TheVariants as label
use Rattle.dsv_syntax.specs.declared.entry.Entry.{Entry}
use Rattle.dsv_text.specs.Stages.{◌>>=◌}
use Rattle.dsv_reader.specs.Numbers.{passed_over}
use Rattle.dsv_reader.specs.Fields.{no_values, once, entry_read, values_from, values_of}
use Rattle.dsv_reader.specs.Values.{IsAbsent, IsOnly, IsValueOf, AreValuesOf}
use Rattle.dsv_reader.proofs.Labels.{Value, read, get, set, is_read, entry_law}
use Rattle.dsv_reader.proofs.ValueLaws.{values_read, values_taken}
use Rattle.dsv_faults.specs.Types.{Values}
use Rattle.dsv_faults.specs.FieldFaults.{IsValueFault, IsEntryFault, IsFieldFault}
use Rattle.dsv_faults.proofs.Refusals.{refused}

-- ---- labels
read_label : (l : Label) → l ≢ label.Passed → is_read l ≡ true
read_label (label.Field f) h = refl
read_label (label.Setting s) h = refl
read_label label.Passed h = absurd (h refl)

passed_label : (l : Label) → is_read l ≡ false → l ≡ label.Passed
passed_label (label.Field f) h = absurd (cc)
passed_label (label.Setting s) h = absurd (cc)
passed_label label.Passed h = refl

not_passed : (l : Label) → is_read l ≡ true → l ≢ label.Passed
not_passed l h e = let f : true ≡ false = sym h ∙ ap is_read e in absurd (cc)

-- the value that a table has for a label
tabled : (bytes : List ℕ) (es : List Entry) (v : Values) (l : Label) → is_read l ≡ true → AreValuesOf bytes es v → IsValueOf l (read l bytes) es (get l v)
tabled bytes es v (label.Field field.B) h t = t.b
tabled bytes es v (label.Field field.A) h t = t.a
tabled bytes es v (label.Field field.BSize) h t = t.b_size
tabled bytes es v (label.Field field.ASize) h t = t.a_size
tabled bytes es v (label.Field field.SampleTime) h t = t.sample_time
tabled bytes es v (label.Field field.IntBits) h t = t.int_bits
tabled bytes es v (label.Field field.FracBits) h t = t.frac_bits
tabled bytes es v (label.Field field.Max) h t = t.max
tabled bytes es v (label.Field field.Min) h t = t.min
tabled bytes es v (label.Field field.Delta) h t = t.delta
tabled bytes es v (label.Field field.Wide) h t = t.wide
tabled bytes es v (label.Setting setting.Clock) h t = t.clock
tabled bytes es v (label.Setting setting.CostSample) h t = t.cost_sample
tabled bytes es v (label.Setting setting.CostMul) h t = t.cost_mul
tabled bytes es v (label.Setting setting.CostAdd) h t = t.cost_add
tabled bytes es v (label.Setting setting.CostRound) h t = t.cost_round
tabled bytes es v (label.Setting setting.CostFit) h t = t.cost_fit
tabled bytes es v (label.Setting setting.CostMoves) h t = t.cost_moves
tabled bytes es v label.Passed h t = absurd (cc (h))

-- the fault of a value that is read
value_fault : (l : Label) (bytes : List ℕ) (e : Entry) (r : FileRefusal) → is_read l ≡ true → (read l bytes e ≡ Err r) ↔ IsValueFault l bytes e r
value_fault (label.Field field.B) bytes e r h = (λ k. k, λ k. k)
value_fault (label.Field field.A) bytes e r h = (λ k. k, λ k. k)
value_fault (label.Field field.BSize) bytes e r h = (λ k. k, λ k. k)
value_fault (label.Field field.ASize) bytes e r h = (λ k. k, λ k. k)
value_fault (label.Field field.SampleTime) bytes e r h = (λ k. k, λ k. k)
value_fault (label.Field field.IntBits) bytes e r h = (λ k. k, λ k. k)
value_fault (label.Field field.FracBits) bytes e r h = (λ k. k, λ k. k)
value_fault (label.Field field.Max) bytes e r h = (λ k. k, λ k. k)
value_fault (label.Field field.Min) bytes e r h = (λ k. k, λ k. k)
value_fault (label.Field field.Delta) bytes e r h = (λ k. k, λ k. k)
value_fault (label.Field field.Wide) bytes e r h = (λ k. k, λ k. k)
value_fault (label.Setting setting.Clock) bytes e r h = (λ k. k, λ k. k)
value_fault (label.Setting s) bytes e r h = (λ k. k, λ k. k)
value_fault label.Passed bytes e r h = absurd (cc (h))

-- ---- fields with a label
only_contained : (l : Label) (f : Entry) (es : List Entry) → IsOnly l f es → Contains es f
only_contained l f [] h = absurd h
only_contained l f (e ∷ es) (inl h) = (0, omega arith, h.0)
only_contained l f (e ∷ es) (inr h) =
    let c = only_contained l f es h.1 in
    let less = c.1 in
    (suc c.0, omega (arith, less), c.2)

only_label : (l : Label) (f : Entry) (es : List Entry) → IsOnly l f es → f.label ≡ l
only_label l f [] h = absurd h
only_label l f (e ∷ es) (inl h) = ap (λ (x : Entry). x.label) (sym h.0) ∙ h.1
only_label l f (e ∷ es) (inr h) = only_label l f es h.1

absent_apart : (l : Label) (f : Entry) (es : List Entry) → IsAbsent l es → Contains es f → f.label ≢ l
absent_apart l f [] h (k, less, e) = absurd (omega (arith, less))
absent_apart l f (g ∷ es) h (zero, less, e) = λ s. h.0 (ap (λ (x : Entry). x.label) e ∙ s)
absent_apart l f (g ∷ es) h (suc k, less, e) = absent_apart l f es h.1 (k, omega (arith, less), e)

-- ---- the fault of one field

-- what is read of a field whose value isn't there
abbrev put : (l : Label) → List ℕ → Entry → Values → Result Values FileRefusal
put l bytes e v = read l bytes e >>= λ x. Ok (set l x v)

put_refused : (l : Label) (bytes : List ℕ) (e : Entry) (v : Values) (r : FileRefusal) → put l bytes e v ≡ Err r → read l bytes e ≡ Err r
put_refused l bytes e v r h = elim (refused (read l bytes e) (λ x. Ok (set l x v)) r h) [
  | inl f ↦ f
  | inr m ↦ let f : Ok (set l m.0 v) ≡ Err r = m.2 in absurd (cc)
]

taken_by : (bytes : List ℕ) (before : List Entry) (e : Entry) (v : Values) (r : FileRefusal) (o : Option (Value e.label)) → is_read e.label ≡ true →
    IsValueOf e.label (read e.label bytes) before o → once (is_some o) e.dot (put e.label bytes e v) ≡ Err r → IsEntryFault bytes before e r
taken_by bytes before e v r (Some x) q t h =
    let f : refusal.FieldTwice e.dot ≡ r = cc in
    subst (IsEntryFault bytes before e) f (IsEntryFault.twice t.0 (only_contained e.label t.0 before t.1) (only_label e.label t.0 before t.1) (not_passed e.label q))
taken_by bytes before e v r None q t h =
    IsEntryFault.value r (λ k. t) ((value_fault e.label bytes e r q).0 (put_refused e.label bytes e v r h))

passed_refused : (bytes : List ℕ) (e : Entry) (v : Values) (r : FileRefusal) → entry_read label.Passed bytes e v ≡ Err r → passed_over bytes e.numbers ≡ Err r
passed_refused bytes e v r h = elim (refused (passed_over bytes e.numbers) (λ u. Ok v) r h) [
  | inl f ↦ f
  | inr m ↦ let f : Ok v ≡ Err r = m.2 in absurd (cc)
]

entry_taken_by : (bytes : List ℕ) (before : List Entry) (e : Entry) (v : Values) (r : FileRefusal) (b : Bool) → is_read e.label ≡ b →
    AreValuesOf bytes before v → entry_read e.label bytes e v ≡ Err r → IsEntryFault bytes before e r
entry_taken_by bytes before e v r true q t h =
    taken_by bytes before e v r (get e.label v) q (tabled bytes before v e.label q t) (sym (entry_law e.label bytes e v q) ∙ h)
entry_taken_by bytes before e v r false q t h =
    let is : e.label ≡ label.Passed = passed_label e.label q in
    let f = passed_refused bytes e v r (subst (λ l. entry_read l bytes e v ≡ Err r) is h) in
    IsEntryFault.value r (λ k. absurd (k is)) (subst (λ l. IsValueFault l bytes e r) (sym is) f)

entry_taken : (bytes : List ℕ) (before : List Entry) (e : Entry) (v : Values) (r : FileRefusal) →
    AreValuesOf bytes before v → entry_read e.label bytes e v ≡ Err r → IsEntryFault bytes before e r
entry_taken bytes before e v r t h = entry_taken_by bytes before e v r (is_read e.label) refl t h

-- ---- and back
twice_by : (bytes : List ℕ) (before : List Entry) (e f : Entry) (v : Values) (o : Option (Value e.label)) →
    IsValueOf e.label (read e.label bytes) before o → Contains before f → f.label ≡ e.label → once (is_some o) e.dot (put e.label bytes e v) ≡ Err (refusal.FieldTwice e.dot)
twice_by bytes before e f v (Some x) t c s = refl
twice_by bytes before e f v None t c s = absurd (absent_apart e.label f before t c s)

alone_by : (bytes : List ℕ) (before : List Entry) (e : Entry) (v : Values) (r : FileRefusal) (o : Option (Value e.label)) →
    IsValueOf e.label (read e.label bytes) before o → IsAbsent e.label before → read e.label bytes e ≡ Err r → once (is_some o) e.dot (put e.label bytes e v) ≡ Err r
alone_by bytes before e v r (Some x) t a h = absurd (absent_apart e.label t.0 before a (only_contained e.label t.0 before t.1) (only_label e.label t.0 before t.1))
alone_by bytes before e v r None t a h = ap (λ x. x >>= λ y. Ok (set e.label y v)) h

value_by : (bytes : List ℕ) (before : List Entry) (e : Entry) (v : Values) (r : FileRefusal) (b : Bool) → is_read e.label ≡ b →
    AreValuesOf bytes before v → (e.label ≢ label.Passed → IsAbsent e.label before) → IsValueFault e.label bytes e r → entry_read e.label bytes e v ≡ Err r
value_by bytes before e v r true q t a h =
    entry_law e.label bytes e v q
    ∙ alone_by bytes before e v r (get e.label v) (tabled bytes before v e.label q t) (a (not_passed e.label q)) ((value_fault e.label bytes e r q).1 h)
value_by bytes before e v r false q t a h =
    let is : e.label ≡ label.Passed = passed_label e.label q in
    let f : passed_over bytes e.numbers ≡ Err r = subst (λ l. IsValueFault l bytes e r) is h in
    subst (λ l. entry_read l bytes e v ≡ Err r) (sym is) (ap (λ x. x >>= λ u. Ok v) f)

entry_read_so : (bytes : List ℕ) (before : List Entry) (e : Entry) (v : Values) (r : FileRefusal) →
    AreValuesOf bytes before v → IsEntryFault bytes before e r → entry_read e.label bytes e v ≡ Err r
entry_read_so bytes before e v r t (IsEntryFault.twice f c s n) =
    let q : is_read e.label ≡ true = read_label e.label n in
    entry_law e.label bytes e v q ∙ twice_by bytes before e f v (get e.label v) (tabled bytes before v e.label q t) c s
entry_read_so bytes before e v r t (IsEntryFault.value r' a h) = value_by bytes before e v r' (is_read e.label) refl t a h

-- ---- all fields

-- the first field that is refused
record FirstRefused (bytes : List ℕ) (es : List Entry) (w : Values) (r : FileRefusal) : Type 0 where
  pub before : List Entry
  pub entry : Entry
  pub after : List Entry
  pub whole : es ≡ before ++ entry ∷ after
  pub values : Values
  pub reads : values_from bytes before w ≡ Ok values
  pub refuses : entry_read entry.label bytes entry values ≡ Err r

longer : (bytes : List ℕ) (e : Entry) (es : List Entry) (w u : Values) (r : FileRefusal) → entry_read e.label bytes e w ≡ Ok u → FirstRefused bytes es u r → FirstRefused bytes (e ∷ es) w r
longer bytes e es w u r h s = record {
  before = e ∷ s.before;
  entry = s.entry;
  after = s.after;
  whole = ap (λ xs. e ∷ xs) s.whole;
  values = s.values;
  reads = ap (λ x. x >>= values_from bytes s.before) h ∙ s.reads;
  refuses = s.refuses;
}

first_refused : (bytes : List ℕ) (es : List Entry) (w : Values) (r : FileRefusal) → values_from bytes es w ≡ Err r → FirstRefused bytes es w r
first_refused bytes [] w r h = absurd (cc)
first_refused bytes (e ∷ es) w r h = elim (refused (entry_read e.label bytes e w) (values_from bytes es) r h) [
  | inl f ↦ record { before = []; entry = e; after = es; whole = refl; values = w; reads = refl; refuses = f }
  | inr m ↦ longer bytes e es w m.0 r m.1 (first_refused bytes es m.0 r m.2)
]

after_step : (bytes : List ℕ) (xs ys : List Entry) (x : Result Values FileRefusal) (v : Values) →
    ((u : Values) → values_from bytes xs u ≡ Ok v → values_from bytes (xs ++ ys) u ≡ values_from bytes ys v) →
    (x >>= values_from bytes xs) ≡ Ok v → (x >>= values_from bytes (xs ++ ys)) ≡ values_from bytes ys v
after_step bytes xs ys (Ok u) v ih h = ih u h
after_step bytes xs ys (Err d) v ih h = absurd (cc)

-- fields that are read, and then others
after_read : (bytes : List ℕ) (xs ys : List Entry) (w v : Values) → values_from bytes xs w ≡ Ok v → values_from bytes (xs ++ ys) w ≡ values_from bytes ys v
after_read bytes [] ys w v h = let e : w ≡ v = cc in ap (values_from bytes ys) e
after_read bytes (x ∷ xs) ys w v h = after_step bytes xs ys (entry_read x.label bytes x w) v (λ u. after_read bytes xs ys u v) h

pub fields_taken : (bytes : List ℕ) (es : List Entry) (r : FileRefusal) → values_of bytes es ≡ Err r → IsFieldFault bytes es r
fields_taken bytes es r h =
    let s = first_refused bytes es no_values r h in
    let t = values_taken bytes s.before s.values s.reads in
    record {
      before = s.before;
      entry = s.entry;
      after = s.after;
      whole = s.whole;
      values = s.values;
      table = t;
      fault = entry_taken bytes s.before s.entry s.values r t s.refuses;
    }

pub fields_read : (bytes : List ℕ) (es : List Entry) (r : FileRefusal) → IsFieldFault bytes es r → values_of bytes es ≡ Err r
fields_read bytes es r s =
    ap (λ xs. values_of bytes xs) s.whole
    ∙ after_read bytes s.before (s.entry ∷ s.after) no_values s.values (values_read bytes s.before s.values s.table)
    ∙ ap (λ x. x >>= values_from bytes s.after) (entry_read_so bytes s.before s.entry s.values r s.table s.fault)
