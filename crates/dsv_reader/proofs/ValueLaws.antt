-- The values that are read field by field are those of the table.
use Rattle.std.proofs.Common.{◌≡◌, ◌≢◌, ℕ, Bool, true, false, List, [], ◌∷◌, inl, inr, refl, sym, ap, ◌∙◌, subst}
use Rattle.std.specs.Prelude.{Option, Some, None, is_some, Result, Ok, if◌then◌else◌}
use Rattle.dsv_token.specs.declared.refusal.FileRefusal.{FileRefusal}
use Rattle.dsv_names.specs.declared.field.Field.TheVariants as field
use Rattle.dsv_names.specs.declared.setting.Setting.TheVariants as setting
use Rattle.dsv_token.specs.declared.token.Token.{Token}
use Rattle.dsv_syntax.specs.declared.entry.Label.{Label}
use Rattle.dsv_syntax.specs.declared.entry.Label.TheVariants as label
use Rattle.dsv_syntax.specs.declared.entry.Entry.{Entry}
use Rattle.dsv_text.specs.Stages.{◌>>=◌}
use Rattle.dsv_syntax.proofs.Binds.{unbind}
use Rattle.dsv_reader.specs.declared.fields.Values.{Values}
use Rattle.dsv_reader.specs.Numbers.{text_at, is_octal, no_number, passed_over}
use Rattle.dsv_reader.specs.Fields.{no_values, once, entry_read, values_from, values_of}
use Rattle.dsv_reader.specs.Values.{IsAbsent, IsOnly, IsValueOf, NoOctal, PassedOver, AreValuesOf}
use Rattle.dsv_reader.proofs.Labels.{Value, read, get, set, is_read, same, same_is, differ, get_set, get_other, entry_law, same_values}

-- ---- fields that are passed over
octal_free : (b : Bool) (t : Token) (r : Result (Unit {0}) FileRefusal) → (if b then no_number t else r) ≡ Ok tt → (b ≡ false) × (r ≡ Ok tt)
octal_free true t r h = absurd (cc)
octal_free false t r h = (refl, h)

free_taken : (bytes : List ℕ) (ts : List Token) → passed_over bytes ts ≡ Ok tt → NoOctal bytes ts
free_taken bytes [] h = tt
free_taken bytes (t ∷ ts) h =
    let p = octal_free (is_octal (text_at bytes t)) t (passed_over bytes ts) h in
    (p.0, free_taken bytes ts p.1)

octal_passed : (b : Bool) (t : Token) (r : Result (Unit {0}) FileRefusal) → b ≡ false → r ≡ Ok tt → (if b then no_number t else r) ≡ Ok tt
octal_passed true t r h e = absurd (cc)
octal_passed false t r h e = e

free_read : (bytes : List ℕ) (ts : List Token) → NoOctal bytes ts → passed_over bytes ts ≡ Ok tt
free_read bytes [] h = refl
free_read bytes (t ∷ ts) h = octal_passed (is_octal (text_at bytes t)) t (passed_over bytes ts) h.0 (free_read bytes ts h.1)

-- ---- a field's value after some fields, from what it was before them
abbrev ValueFrom : {A : Type 0} → Label → (Entry → Result A FileRefusal) → List Entry → Option A → Option A → Type 0
ValueFrom l reads es None v = IsValueOf l reads es v
ValueFrom l reads es (Some x) v = (v ≡ Some x) × IsAbsent l es

stays : {A : Type 0} (l : Label) (reads : Entry → Result A FileRefusal) (o v : Option A) → o ≡ v → ValueFrom l reads [] o v
stays l reads None None h = tt
stays l reads None (Some y) h = absurd (cc)
stays l reads (Some x) v h = (sym h, tt)

stayed : {A : Type 0} (l : Label) (reads : Entry → Result A FileRefusal) (o v : Option A) → ValueFrom l reads [] o v → o ≡ v
stayed l reads None None h = refl
stayed l reads None (Some y) h = absurd (h.1)
stayed l reads (Some x) v h = sym h.0

-- a field with another label changes nothing
skip : {A : Type 0} (l : Label) (reads : Entry → Result A FileRefusal) (e : Entry) (es : List Entry) (o v : Option A) →
    e.label ≢ l → ValueFrom l reads es o v → ValueFrom l reads (e ∷ es) o v
skip l reads e es None None d h = (d, h)
skip l reads e es None (Some y) d h = (h.0, inr (d, h.1), h.2)
skip l reads e es (Some x) v d h = (h.0, (d, h.1))

only_after : (l : Label) (f e : Entry) (es : List Entry) → e.label ≢ l → IsOnly l f (e ∷ es) → IsOnly l f es
only_after l f e es d (inl h) = absurd (d h.1)
only_after l f e es d (inr h) = h.1

unskip : {A : Type 0} (l : Label) (reads : Entry → Result A FileRefusal) (e : Entry) (es : List Entry) (o v : Option A) →
    e.label ≢ l → ValueFrom l reads (e ∷ es) o v → ValueFrom l reads es o v
unskip l reads e es None None d h = h.1
unskip l reads e es None (Some y) d h = (h.0, only_after l h.0 e es d h.1, h.2)
unskip l reads e es (Some x) v d h = (h.0, h.1.1)

-- what a field that wasn't there takes
pub record Takes {A : Type 0} (l : Label) (reads : Entry → Result A FileRefusal) (e : Entry) (es : List Entry) (o v : Option A) : Type 0 where
  pub free : o ≡ None
  pub value : A
  pub read : reads e ≡ Ok value
  pub rest : ValueFrom l reads es (Some value) v

take : {A : Type 0} (l : Label) (reads : Entry → Result A FileRefusal) (e : Entry) (es : List Entry) (v : Option A) (x : A) →
    e.label ≡ l → reads e ≡ Ok x → (v ≡ Some x) × IsAbsent l es → IsValueOf l reads (e ∷ es) v
take l reads e es None x s r h = absurd (cc (h.0))
take l reads e es (Some y) x s r h =
    let same : Some y ≡ Some x = h.0 in
    let q : x ≡ y = cc in
    (e, inl (refl, s, h.1), r ∙ ap Ok q)

taken_only : {A : Type 0} (l : Label) (reads : Entry → Result A FileRefusal) (e f : Entry) (es : List Entry) (y : A) →
    e.label ≡ l → IsOnly l f (e ∷ es) → reads f ≡ Ok y → Takes l reads e es None (Some y)
taken_only l reads e f es y s (inl h) r =
    record { free = refl; value = y; read = ap reads h.0 ∙ r; rest = (refl, h.2) }
taken_only l reads e f es y s (inr h) r = absurd (h.0 s)

untake : {A : Type 0} (l : Label) (reads : Entry → Result A FileRefusal) (e : Entry) (es : List Entry) (o v : Option A) →
    e.label ≡ l → ValueFrom l reads (e ∷ es) o v → Takes l reads e es o v
untake l reads e es None None s h = absurd (h.0 s)
untake l reads e es None (Some y) s h = taken_only l reads e h.0 es y s h.1 h.2
untake l reads e es (Some x) v s h = absurd (h.1.0 s)

-- ---- all fields after some, from what they were before them
pub record AreFrom (bytes : List ℕ) (es : List Entry) (w v : Values) : Type 0 where
  pub fields : (l : Label) → is_read l ≡ true → ValueFrom l (read l bytes) es (get l w) (get l v)
  pub passed : PassedOver bytes es

-- an entry that was read
pub record Reads (bytes : List ℕ) (e : Entry) (l : Label) (w u : Values) : Type 0 where
  pub free : get l w ≡ None
  pub value : Value l
  pub read_as : read l bytes e ≡ Ok value
  pub put : u ≡ set l value w

once_free : {A B : Type 0} (o : Option A) (dot : ℕ) (r : Result B FileRefusal) (y : B) → once (is_some o) dot r ≡ Ok y → (o ≡ None) × (r ≡ Ok y)
once_free None dot r y h = (refl, h)
once_free (Some x) dot r y h = absurd (cc)

entry_reads : (bytes : List ℕ) (e : Entry) (l : Label) (w u : Values) → is_read l ≡ true → entry_read l bytes e w ≡ Ok u → Reads bytes e l w u
entry_reads bytes e l w u h k =
    let p = once_free (get l w) e.dot (read l bytes e >>= λ x. Ok (set l x w)) u (sym (entry_law l bytes e w h) ∙ k) in
    let q = unbind (read l bytes e) (λ x. Ok (set l x w)) u p.1 in
    let s : Ok (set l q.value w) ≡ Ok u = q.second in
    record { free = p.0; value = q.value; read_as = q.first; put = cc }

entry_is_read : (bytes : List ℕ) (e : Entry) (l : Label) (w : Values) (x : Value l) → is_read l ≡ true → get l w ≡ None → read l bytes e ≡ Ok x → entry_read l bytes e w ≡ Ok (set l x w)
entry_is_read bytes e l w x h free r =
    entry_law l bytes e w h
    ∙ ap (λ o. once (is_some o) e.dot (read l bytes e >>= λ x. Ok (set l x w))) free
    ∙ ap (λ r. r >>= λ x. Ok (set l x w)) r

-- ---- what was read is in the table
taken_same : (bytes : List ℕ) (e : Entry) (es : List Entry) (l : Label) (w u v : Values) →
    e.label ≡ l → is_read l ≡ true → Reads bytes e l w u →
    ValueFrom l (read l bytes) es (get l u) (get l v) → ValueFrom l (read l bytes) (e ∷ es) (get l w) (get l v)
taken_same bytes e es l w u v s h r f =
    let now : get l u ≡ Some r.value = ap (get l) r.put ∙ get_set l r.value w h in
    let P : Option (Value l) → Type 0 = λ o. ValueFrom l (read l bytes) es o (get l v) in
    let Q : Option (Value l) → Type 0 = λ o. ValueFrom l (read l bytes) (e ∷ es) o (get l v) in
    subst Q (sym r.free) (take l (read l bytes) e es (get l v) r.value s r.read_as (subst P now f))

taken_field : (bytes : List ℕ) (e : Entry) (es : List Entry) (l m : Label) (w u v : Values) (b : Bool) →
    same l m ≡ b → e.label ≡ l → is_read l ≡ true → Reads bytes e l w u →
    ValueFrom m (read m bytes) es (get m u) (get m v) → ValueFrom m (read m bytes) (e ∷ es) (get m w) (get m v)
taken_field bytes e es l m w u v true q s h r =
    let P : Label → Type 0 = λ k. ValueFrom k (read k bytes) es (get k u) (get k v) → ValueFrom k (read k bytes) (e ∷ es) (get k w) (get k v) in
    subst P (same_is l m q) (taken_same bytes e es l w u v s h r)
taken_field bytes e es l m w u v false q s h r = λ f.
    let before : get m u ≡ get m w = ap (get m) r.put ∙ get_other l m r.value w q in
    let P : Option (Value m) → Type 0 = λ o. ValueFrom m (read m bytes) es o (get m v) in
    skip m (read m bytes) e es (get m w) (get m v) (λ k. differ l m q (sym s ∙ k)) (subst P before f)

-- a label that is read is none that is passed over
read_apart : (e : Entry) (m : Label) → e.label ≡ label.Passed → is_read m ≡ true → e.label ≢ m
read_apart e m s h k = let f : false ≡ true = ap is_read (sym s ∙ k) ∙ h in absurd (cc (f))

passed_label : (l : Label) → is_read l ≡ false → l ≡ label.Passed
passed_label label.Passed h = refl
passed_label (label.Field f) h = absurd (cc (h))
passed_label (label.Setting f) h = absurd (cc (h))

taken_passed : (bytes : List ℕ) (e : Entry) (es : List Entry) (w u v : Values) →
    e.label ≡ label.Passed → entry_read label.Passed bytes e w ≡ Ok u → AreFrom bytes es u v → AreFrom bytes (e ∷ es) w v
taken_passed bytes e es w u v s k f =
    let p = unbind (passed_over bytes e.numbers) (λ x. Ok w) u k in
    let second : Ok w ≡ Ok u = p.second in
    let before : u ≡ w = cc in
    let P : Values → Type 0 = λ x. AreFrom bytes es x v in
    let g : AreFrom bytes es w v = subst P before f in
    record {
      fields = λ m h. skip m (read m bytes) e es (get m w) (get m v) (read_apart e m s h) (g.fields m h);
      passed = (λ x. free_taken bytes e.numbers p.first, g.passed);
    }

taken_entry : (bytes : List ℕ) (e : Entry) (es : List Entry) (l : Label) (w u v : Values) (b : Bool) →
    is_read l ≡ b → e.label ≡ l → entry_read l bytes e w ≡ Ok u → AreFrom bytes es u v → AreFrom bytes (e ∷ es) w v
taken_entry bytes e es l w u v true q s k f =
    let r = entry_reads bytes e l w u q k in
    record {
      fields = λ m h. taken_field bytes e es l m w u v (same l m) refl s q r (f.fields m h);
      passed = (λ x. absurd (read_apart e l x q s), f.passed);
    }
taken_entry bytes e es l w u v false q s k f =
    let is : l ≡ label.Passed = passed_label l q in
    let P : Label → Type 0 = λ m. entry_read m bytes e w ≡ Ok u in
    taken_passed bytes e es w u v (s ∙ is) (subst P is k) f

taken : (bytes : List ℕ) (es : List Entry) (w v : Values) → values_from bytes es w ≡ Ok v → AreFrom bytes es w v
taken bytes [] w v k =
    let s : w ≡ v = cc in
    record { fields = λ l h. stays l (read l bytes) (get l w) (get l v) (ap (get l) s); passed = tt }
taken bytes (e ∷ es) w v k =
    let p = unbind (entry_read e.label bytes e w) (values_from bytes es) v k in
    taken_entry bytes e es e.label w p.value v (is_read e.label) refl refl p.first (taken bytes es p.value v p.second)

-- ---- what is in the table is read
pub record Goes (bytes : List ℕ) (e : Entry) (l : Label) (es : List Entry) (w v : Values) : Type 0 where
  pub values : Values
  pub entry : entry_read l bytes e w ≡ Ok values
  pub rest : AreFrom bytes es values v

given_field : (bytes : List ℕ) (e : Entry) (es : List Entry) (l m : Label) (w v : Values) (b : Bool) (x : Value l) →
    same l m ≡ b → e.label ≡ l → is_read l ≡ true → ValueFrom l (read l bytes) es (Some x) (get l v) →
    ValueFrom m (read m bytes) (e ∷ es) (get m w) (get m v) → ValueFrom m (read m bytes) es (get m (set l x w)) (get m v)
given_field bytes e es l m w v true x q s h r f =
    let P : Label → Type 0 = λ k. ValueFrom k (read k bytes) es (get k (set l x w)) (get k v) in
    let Q : Option (Value l) → Type 0 = λ o. ValueFrom l (read l bytes) es o (get l v) in
    subst P (same_is l m q) (subst Q (sym (get_set l x w h)) r)
given_field bytes e es l m w v false x q s h r f =
    let P : Option (Value m) → Type 0 = λ o. ValueFrom m (read m bytes) es o (get m v) in
    subst P (sym (get_other l m x w q)) (unskip m (read m bytes) e es (get m w) (get m v) (λ k. differ l m q (sym s ∙ k)) f)

given_passed : (bytes : List ℕ) (e : Entry) (es : List Entry) (w v : Values) →
    e.label ≡ label.Passed → AreFrom bytes (e ∷ es) w v → Goes bytes e label.Passed es w v
given_passed bytes e es w v s f = record {
  values = w;
  entry = ap (λ r. r >>= λ u. Ok w) (free_read bytes e.numbers (f.passed.0 s));
  rest = record {
    fields = λ m h. unskip m (read m bytes) e es (get m w) (get m v) (read_apart e m s h) (f.fields m h);
    passed = f.passed.1;
  };
}

given_entry : (bytes : List ℕ) (e : Entry) (es : List Entry) (l : Label) (w v : Values) (b : Bool) →
    is_read l ≡ b → e.label ≡ l → AreFrom bytes (e ∷ es) w v → Goes bytes e l es w v
given_entry bytes e es l w v true q s f =
    let t = untake l (read l bytes) e es (get l w) (get l v) s (f.fields l q) in
    record {
      values = set l t.value w;
      entry = entry_is_read bytes e l w t.value q t.free t.read;
      rest = record {
        fields = λ m h. given_field bytes e es l m w v (same l m) t.value refl s q t.rest (f.fields m h);
        passed = f.passed.1;
      };
    }
given_entry bytes e es l w v false q s f =
    let is : l ≡ label.Passed = passed_label l q in
    let P : Label → Type 0 = λ m. Goes bytes e m es w v in
    subst P (sym is) (given_passed bytes e es w v (s ∙ is) f)

given : (bytes : List ℕ) (es : List Entry) (w v : Values) → AreFrom bytes es w v → values_from bytes es w ≡ Ok v
given bytes [] w v f = ap Ok (same_values w v (λ l h. stayed l (read l bytes) (get l w) (get l v) (f.fields l h)))
given bytes (e ∷ es) w v f =
    let g = given_entry bytes e es e.label w v (is_read e.label) refl refl f in
    ap (λ r. r >>= values_from bytes es) g.entry ∙ given bytes es g.values v g.rest

-- ---- the table, field by field
tabled : (bytes : List ℕ) (es : List Entry) (v : Values) (l : Label) → is_read l ≡ true → AreValuesOf bytes es v → ValueFrom l (read l bytes) es (get l no_values) (get l v)
tabled bytes es v (label.Field field.B) h t = t.b
tabled bytes es v (label.Field field.A) h t = t.a
tabled bytes es v (label.Field field.BSize) h t = t.b_size
tabled bytes es v (label.Field field.ASize) h t = t.a_size
tabled bytes es v (label.Field field.SampleTime) h t = t.sample_time
tabled bytes es v (label.Field field.IntBits) h t = t.int_bits
tabled bytes es v (label.Field field.FracBits) h t = t.frac_bits
tabled bytes es v (label.Field field.Max) h t = t.max
tabled bytes es v (label.Field field.Min) h t = t.min
tabled bytes es v (label.Field field.Delta) h t = t.delta
tabled bytes es v (label.Field field.Wide) h t = t.wide
tabled bytes es v (label.Setting setting.Clock) h t = t.clock
tabled bytes es v (label.Setting setting.CostSample) h t = t.cost_sample
tabled bytes es v (label.Setting setting.CostMul) h t = t.cost_mul
tabled bytes es v (label.Setting setting.CostAdd) h t = t.cost_add
tabled bytes es v (label.Setting setting.CostRound) h t = t.cost_round
tabled bytes es v (label.Setting setting.CostFit) h t = t.cost_fit
tabled bytes es v (label.Setting setting.CostMoves) h t = t.cost_moves
tabled bytes es v label.Passed h t = absurd (cc (h))

pub values_read : (bytes : List ℕ) (es : List Entry) (v : Values) → AreValuesOf bytes es v → values_of bytes es ≡ Ok v
values_read bytes es v t =
    given bytes es no_values v (record { fields = λ l h. tabled bytes es v l h t; passed = t.passed })

pub values_taken : (bytes : List ℕ) (es : List Entry) (v : Values) → values_of bytes es ≡ Ok v → AreValuesOf bytes es v
values_taken bytes es v k =
    let f = taken bytes es no_values v k in
    record {
      b = f.fields (label.Field field.B) refl;
      a = f.fields (label.Field field.A) refl;
      b_size = f.fields (label.Field field.BSize) refl;
      a_size = f.fields (label.Field field.ASize) refl;
      sample_time = f.fields (label.Field field.SampleTime) refl;
      int_bits = f.fields (label.Field field.IntBits) refl;
      frac_bits = f.fields (label.Field field.FracBits) refl;
      max = f.fields (label.Field field.Max) refl;
      min = f.fields (label.Field field.Min) refl;
      delta = f.fields (label.Field field.Delta) refl;
      wide = f.fields (label.Field field.Wide) refl;
      clock = f.fields (label.Setting setting.Clock) refl;
      cost_sample = f.fields (label.Setting setting.CostSample) refl;
      cost_mul = f.fields (label.Setting setting.CostMul) refl;
      cost_add = f.fields (label.Setting setting.CostAdd) refl;
      cost_round = f.fields (label.Setting setting.CostRound) refl;
      cost_fit = f.fields (label.Setting setting.CostFit) refl;
      cost_moves = f.fields (label.Setting setting.CostMoves) refl;
      passed = f.passed;
    }
