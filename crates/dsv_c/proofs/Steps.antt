-- A step of the code is a step of the netlist, and so are all steps of a run.
use Rattle.std.proofs.Common.{◌≡◌, ℕ, zero, suc, ◌+◌, ◌<◌, Bool, true, false, List, [], ◌∷◌, ◌++◌, length, length-append, map, get_or, drop, refl, sym, ap, subst, ◌∙◌, arith}
use Rattle.std.specs.Prelude.{Some, slice_get, set}
use Rattle.std.specs.Option.{option_and_then, option_map}
use Rattle.std.specs.List.{All}
use Rattle.std.proofs.Math.IntN.{ℤ, pos}
use Rattle.std.proofs.Math.Seq.{set-append_seam}
use Rattle.std.proofs.lemmas.List.{map-append, append_assoc, append-nil, drop_more, drop_all, get_or-map, length-map}
use Rattle.std.proofs.lemmas.List.Elements.{All-nil, All-cons, All-weaker, All-head, All-tail, All-get_or, All-map}
use Rattle.std.proofs.lemmas.Option.{slice_get-get_or, slice_get-map}
use Rattle.dsv_word.specs.declared.format.Format.{Format}
use Rattle.dsv_word.specs.Words.{IsWord, width, fit}
use Rattle.dsv_system.specs.Runs.{SampleRow, rows_from}
use Rattle.dsv_system.specs.Systems.{zeros}
use Rattle.dsv_netlist.specs.Nodes.{Net, Sample, at, sample_of, step_of}
use Rattle.dsv_netlist.specs.Conditions.{IsNetlist}
use Rattle.dsv_netlist.specs.Law.{AreWords}
use Rattle.dsv_netlist.proofs.Runs.{Words, done}
use Rattle.dsv_c.proofs.NodeSizes.{rest_at_start}
use Rattle.dsv_c.proofs.CodableLemmas.{all_roomy, all_constants}
use Rattle.dsv_c.specs.declared.c_type.CType.{CType}
use Rattle.dsv_c.specs.declared.c_type.CType.TheVariants.{Int, Int32, Int64}
use Rattle.dsv_c.specs.Syntax.{Helper, Rounded, Fitted, Constant, Member, Declaration, Store, Program}
use Rattle.dsv_c.specs.Meaning.{CValue, c_value, conversion, Scope, scope, Calls, value_of, after_declarations, with_member, after_stores, number_of, call_result, no_calls, is_same_type, is_same_helper, function_of, calls_of, start_of, StepResult, step_end, code_step, code_results}
use Rattle.dsv_c.specs.Programs.{word_type, TypedExpr, code_at, codes_of, locals_from, helpers_from, helper_code, has_helper, functions_for, functions_among, helper_order, loads_from, stores_from, program_of}
use Rattle.dsv_c.specs.Codable.{IsCodable}
use Rattle.dsv_c.specs.Law.{step_result, locals_in, CodeValuesAsNetlist, CodeStartsAsNetlist, CodeStepsAsNetlist, CodeRunsAsNetlist}
use Rattle.dsv_c.proofs.HeldNumbers.{nat_lt-true, IsHeld, then_is, converted_is}
use Rattle.dsv_c.proofs.Helpers.{declared_one, word_held}
use Rattle.dsv_c.proofs.Codes.{fitted_local, Coding, Sources, Rooms, ran}

-- ---- loads
member_is : (t : CType) (rs : List ℤ) (k : ℕ) → k < length rs → slice_get (map (c_value t) rs) k ≡ Some (c_value t (at rs k))
member_is t rs k h = slice_get-map (c_value t) rs k ∙ ap (option_map (c_value t)) (slice_get-get_or rs k (pos 0) h)

loads_give : (calls : Calls) (t : CType) (rs : List ℤ) (k n : ℕ) (locals : List CValue) (rest : List Declaration) → k + n ≡ length rs → ((i : ℕ) → i < length rs → IsHeld t (at rs i))
    → after_declarations calls (loads_from t k n ++ rest) (scope locals (map (c_value t) rs)) ≡ after_declarations calls rest (scope (locals ++ map (c_value t) (drop k rs)) (map (c_value t) rs))
loads_give calls t rs k zero locals rest e h =
    let d : drop k rs ≡ [] = drop_all k rs (omega arith) in
    let same : locals ++ map (c_value t) (drop k rs) ≡ locals = ap (λ (xs : List ℤ). locals ++ map (c_value t) xs) d ∙ append-nil locals in
    ap (λ (ls : List CValue). after_declarations calls rest (scope ls (map (c_value t) rs))) (sym same)
loads_give calls t rs k (suc n) locals rest e h =
    let l : k < length rs = omega arith in
    let v = c_value t (at rs k) in
    let ms = map (c_value t) rs in
    let d : Declaration = record { type = t; value = Member k } in
    let here = converted_is t t (at rs k) (slice_get ms k) (member_is t rs k l) (h k l) in
    let more = loads_give calls t rs (k + 1) n (locals ++ v ∷ []) rest (omega arith) h in
    let same : (locals ++ v ∷ []) ++ map (c_value t) (drop (k + 1) rs) ≡ locals ++ map (c_value t) (drop k rs) =
    append_assoc locals (v ∷ []) (map (c_value t) (drop (k + 1) rs)) ∙ ap (λ (xs : List ℤ). locals ++ map (c_value t) xs) (sym (drop_more rs k (pos 0) l)) in
    declared_one calls d (loads_from t (k + 1) n ++ rest) (scope locals ms) v here ∙ (more ∙ ap (λ (ls : List CValue). after_declarations calls rest (scope ls ms)) same)

-- ---- where the input and the registers stand then
register_at : (f : Format) (rs : List ℤ) (x : ℤ) (k m : ℕ) → m ≡ suc k → k < length rs
    → get_or (c_value (word_type f) x ∷ map (c_value (word_type f)) rs) m (c_value (word_type f) (at rs k)) ≡ c_value (word_type f) (at rs k)
register_at f rs x k m e h = rw e (get_or-map (c_value (word_type f)) rs k (pos 0) (c_value (word_type f) (at rs k)) h)

sources_are : (f : Format) (rs : List ℤ) (x : ℤ) → Sources f rs x (c_value (word_type f) x ∷ map (c_value (word_type f)) rs)
sources_are f rs x = record {
  input = refl;
  registers = λ k h. register_at f rs x k (k + 1) (omega arith) h;
  many = omega (arith, length-map rs (c_value (word_type f)));
}

-- ---- stores
stored_one : (calls : Calls) (t : CType) (a : Store) (ts : List Store) (s s' : Scope) (v : CValue) → conversion t (value_of calls s a.value) ≡ Some v → with_member s a.member v ≡ Some s'
    → after_stores calls t (a ∷ ts) s ≡ after_stores calls t ts s'
stored_one calls t a ts s s' v p q =
    then_is (λ u. option_and_then (after_stores calls t ts) (with_member s a.member u)) (conversion t (value_of calls s a.value)) v p
    ∙ then_is (after_stores calls t ts) (with_member s a.member v) s' q

member_set : (locals before after : List CValue) (o v : CValue) (j : ℕ) → length before ≡ j → with_member (scope locals (before ++ o ∷ after)) j v ≡ Some (scope locals ((before ++ v ∷ []) ++ after))
member_set locals before after o v j e =
    let l : j < length (before ++ o ∷ after) = omega (arith, length-append before (o ∷ after)) in
    let there : set (before ++ o ∷ after) j v ≡ (before ++ v ∷ []) ++ after =
    ap (λ (i : ℕ). set (before ++ o ∷ after) i v) (sym e) ∙ (set-append_seam before o after v ∙ sym (append_assoc before (v ∷ []) after)) in
    rw (nat_lt-true j (length (before ++ o ∷ after)) l) (ap (λ (ms : List CValue). Some (scope locals ms)) there)

-- the expression of node k gives a word, whatever stands in the members
abbrev pub GivesWord : Calls → CType → List CValue → List TypedExpr → List ℤ → ℕ → Type 0
GivesWord calls t locals codes values k = (members : List CValue) → conversion t (value_of calls (scope locals members) (code_at codes k).expr) ≡ Some (c_value t (at values k))

stores_give : (calls : Calls) (t : CType) (locals : List CValue) (codes : List TypedExpr) (values : List ℤ) (ks : List ℕ) (j : ℕ) (before old : List CValue) → length before ≡ j → length old ≡ length ks
    → All (GivesWord calls t locals codes values) ks
    → after_stores calls t (stores_from j (map (λ k. (code_at codes k).expr) ks)) (scope locals (before ++ old)) ≡ Some (scope locals (before ++ map (λ k. c_value t (at values k)) ks))
stores_give calls t locals codes values [] j before [] e l h = refl
stores_give calls t locals codes values [] j before (o ∷ old) e l h = absurd (omega arith)
stores_give calls t locals codes values (k ∷ ks) j before [] e l h = absurd (omega arith)
stores_give calls t locals codes values (k ∷ ks) j before (o ∷ old) e l h =
    let v = c_value t (at values k) in
    let a : Store = record { member = j; value = (code_at codes k).expr } in
    let rest = stores_from (j + 1) (map (λ k. (code_at codes k).expr) ks) in
    let now = (before ++ v ∷ []) ++ old in
    let after = map (λ k. c_value t (at values k)) ks in
    let one = All-head (GivesWord calls t locals codes values) k ks h in
    let more = stores_give calls t locals codes values ks (j + 1) (before ++ v ∷ []) old (omega (arith, length-append before (v ∷ []))) (omega arith) (All-tail (GivesWord calls t locals codes values) k ks h) in
    stored_one calls t a rest (scope locals (before ++ o ∷ old)) (scope locals now) v (one (before ++ o ∷ old)) (member_set locals before old o v j e)
    ∙ (more ∙ ap (λ (ms : List CValue). Some (scope locals ms)) (append_assoc before (v ∷ []) after))

-- ---- helper functions
same_type : (t u : CType) → is_same_type t u ≡ true → t ≡ u
same_type Int Int e = refl
same_type Int Int32 e = absurd cc
same_type Int Int64 e = absurd cc
same_type Int32 Int e = absurd cc
same_type Int32 Int32 e = refl
same_type Int32 Int64 e = absurd cc
same_type Int64 Int e = absurd cc
same_type Int64 Int32 e = absurd cc
same_type Int64 Int64 e = refl

same_helper : (g h : Helper) → is_same_helper g h ≡ true → g ≡ h
same_helper (Rounded t) (Rounded u) e = ap Rounded (same_type t u e)
same_helper (Rounded t) (Fitted u) e = absurd cc
same_helper (Fitted t) (Rounded u) e = absurd cc
same_helper (Fitted t) (Fitted u) e = ap Fitted (same_type t u e)

-- a function that is called is found
found_by : (f : Format) (h g : Helper) (hs order : List Helper) (listed same : Bool) → has_helper g hs ≡ listed → is_same_helper g h ≡ same → has_helper h hs ≡ true
    → (has_helper h order ≡ true → function_of h (functions_among f hs order) ≡ Some (helper_code f h))
    → has_helper h (g ∷ order) ≡ true → function_of h (functions_among f hs (g ∷ order)) ≡ Some (helper_code f h)
found_by f h g hs order true true l s c more e = rw (l, s) (ap (λ (k : Helper). Some (helper_code f k)) (same_helper g h s))
found_by f h g hs order true false l s c more e = rw (l, s) (more (rw s at e))
found_by f h g hs order false true l s c more e =
    let there : has_helper h hs ≡ false = subst (λ (k : Helper). has_helper k hs ≡ false) (same_helper g h s) l in
    absurd (bool_apart (has_helper h hs) c there)
  where
    bool_apart : (b : Bool) → b ≡ true → b ≡ false → ⊥
    bool_apart true p q = absurd cc
    bool_apart false p q = absurd cc
found_by f h g hs order false false l s c more e = rw l (more (rw s at e))

found_among : (f : Format) (h : Helper) (hs order : List Helper) → has_helper h hs ≡ true → has_helper h order ≡ true → function_of h (functions_among f hs order) ≡ Some (helper_code f h)
found_among f h hs [] c e = absurd cc
found_among f h hs (g ∷ order) c e = found_by f h g hs order (has_helper g hs) (is_same_helper g h) refl refl c (found_among f h hs order c) e

ordered : (h : Helper) → has_helper h helper_order ≡ true
ordered (Rounded Int) = refl
ordered (Rounded Int32) = refl
ordered (Rounded Int64) = refl
ordered (Fitted Int) = refl
ordered (Fitted Int32) = refl
ordered (Fitted Int64) = refl

found : (f : Format) (h : Helper) (hs : List Helper) → has_helper h hs ≡ true → function_of h (functions_for f hs) ≡ Some (helper_code f h)
found f h hs c = found_among f h hs helper_order c (ordered h)

type_itself : (t : CType) → is_same_type t t ≡ true
type_itself Int = refl
type_itself Int32 = refl
type_itself Int64 = refl

helper_itself : (h : Helper) → is_same_helper h h ≡ true
helper_itself (Rounded t) = type_itself t
helper_itself (Fitted t) = type_itself t

listed_later : (h g : Helper) (hs : List Helper) (same : Bool) → is_same_helper g h ≡ same → has_helper h hs ≡ true → has_helper h (g ∷ hs) ≡ true
listed_later h g hs true s e = rw s refl
listed_later h g hs false s e = rw s e

all_listed : (hs : List Helper) → All (λ h. has_helper h hs ≡ true) hs
all_listed [] = All-nil (λ h. has_helper h [] ≡ true)
all_listed (g ∷ hs) = All-cons (λ h. has_helper h (g ∷ hs) ≡ true) g hs (rw (helper_itself g) refl)
    (All-weaker (λ h. has_helper h hs ≡ true) (λ h. has_helper h (g ∷ hs) ≡ true) (λ h e. listed_later h g hs (is_same_helper g h) refl e) hs (all_listed hs))

called : (f : Format) (hs : List Helper) (h : Helper) → has_helper h hs ≡ true → (v : ℤ) → option_and_then (λ fn. call_result fn v) (function_of h (functions_for f hs)) ≡ call_result (helper_code f h) v
called f hs h e v = then_is (λ fn. call_result fn v) (function_of h (functions_for f hs)) (helper_code f h) (found f h hs e)

all_called : (f : Format) (hs : List Helper) → All (λ h. (v : ℤ) → option_and_then (λ fn. call_result fn v) (function_of h (functions_for f hs)) ≡ call_result (helper_code f h) v) hs
all_called f hs = All-weaker (λ h. has_helper h hs ≡ true) (λ h. (v : ℤ) → option_and_then (λ fn. call_result fn v) (function_of h (functions_for f hs)) ≡ call_result (helper_code f h) v) (called f hs) hs (all_listed hs)

-- ---- a step
numbers_of : (t : CType) (values : List ℤ) (ks : List ℕ) → map number_of (map (λ k. c_value t (at values k)) ks) ≡ map (at values) ks
numbers_of t values [] = refl
numbers_of t values (k ∷ ks) = ap (λ (vs : List ℤ). at values k ∷ vs) (numbers_of t values ks)

word_given : (f : Format) (calls : Calls) (final : List CValue) (codes : List TypedExpr) (values : List ℤ) (k : ℕ) → Coding f calls final codes values → k < length values → IsWord f (at values k)
    → GivesWord calls (word_type f) final codes values k
word_given f calls final codes values k c l w members =
    let h = c.each k l in
    let here = subst (λ (ls : List CValue). value_of calls (scope ls members) (code_at codes k).expr ≡ Some (c_value (code_at codes k).type (at values k))) (append-nil final) (h.gives [] members) in
    converted_is (word_type f) (code_at codes k).type (at values k) (value_of calls (scope final members) (code_at codes k).expr) here (word_held f (at values k) w)

words_given : (f : Format) (calls : Calls) (final : List CValue) (codes : List TypedExpr) (values : List ℤ) (ks : List ℕ) → Coding f calls final codes values → All (λ k. k < length values) ks → All (λ k. IsWord f (at values k)) ks
    → All (GivesWord calls (word_type f) final codes values) ks
words_given f calls final codes values [] c l w = All-nil (GivesWord calls (word_type f) final codes values)
words_given f calls final codes values (k ∷ ks) c l w =
    All-cons (GivesWord calls (word_type f) final codes values) k ks (word_given f calls final codes values k c (All-head (λ k. k < length values) k ks l) (All-head (λ k. IsWord f (at values k)) k ks w))
    (words_given f calls final codes values ks c (All-tail (λ k. k < length values) k ks l) (All-tail (λ k. IsWord f (at values k)) k ks w))

-- the three stages of a step
step_by : (p : Program) (registers : List ℤ) (x : ℤ) (s t : Scope) (y : CValue) → after_declarations (calls_of p) p.locals (start_of p registers x) ≡ Some s → after_stores (calls_of p) p.word p.stores s ≡ Some t
    → conversion p.word (value_of (calls_of p) t p.value) ≡ Some y → code_step p registers x ≡ Some (record { result = y.number; members = map number_of t.members })
step_by p registers x s t y a b c =
    then_is (λ u. option_and_then (step_end p) (after_stores (calls_of p) p.word p.stores u)) (after_declarations (calls_of p) p.locals (start_of p registers x)) s a
    ∙ (then_is (step_end p) (after_stores (calls_of p) p.word p.stores s) t b
    ∙ then_is (λ u. Some (record { result = u.number; members = map number_of t.members })) (conversion p.word (value_of (calls_of p) t p.value)) y c)

held_each : (f : Format) (rs : List ℤ) → All (IsWord f) rs → (i : ℕ) → i < length rs → IsHeld (word_type f) (at rs i)
held_each f rs h i l = word_held f (at rs i) (All-get_or (IsWord f) rs i (pos 0) l h)

-- all locals of a step, and their nodes' values
record Declared (net : Net) (rs : List ℤ) (x : ℤ) : Type 0 where
  final : List CValue
  gives : after_declarations (calls_of (program_of net)) (program_of net).locals (start_of (program_of net) rs x) ≡ Some (scope final (map (c_value (word_type net.format)) rs))
  coding : Coding net.format (calls_of (program_of net)) final (codes_of net) (sample_of net.format rs x net.nodes).values
  values : final ≡ (c_value (word_type net.format) x ∷ map (c_value (word_type net.format)) rs) ++ map (fitted_local net.format) (sample_of net.format rs x net.nodes).exact

locals_give : (net : Net) (rs : List ℤ) (x : ℤ) → IsNetlist net → IsCodable net → AreWords net rs x → Declared net rs x
locals_give net rs x n c w =
    let f = net.format in
    let t = word_type f in
    let ms = map (c_value t) rs in
    let loaded = c_value t x ∷ ms in
    let l = length net.next + 1 in
    let calls = calls_of (program_of net) in
    let ds = locals_from f net.nodes [] [] l in
    let start : Sample = record { values = []; exact = [] } in
    let nothing : Coding f calls loaded [] [] = record { long = refl; each = λ i h. absurd (omega arith) } in
    let words : Words f rs x = record { each = λ k p. All-get_or (IsWord f) rs k (pos 0) p w.words; input = w.input } in
    let rooms : Rooms f net.nodes [] = record { all = all_roomy net c; constants = all_constants net c } in
    let r = ran f calls rs x net.nodes [] [] loaded ms start l words (rest_at_start net rs x n w) (sources_are f rs x) nothing rooms (omega (arith, w.many, length-map rs (c_value t))) (all_called f (helpers_from f net.nodes [] [] l)) in
    let loads = loads_give calls t rs 0 (length net.next) (c_value t x ∷ []) ds (omega (arith, w.many)) (held_each f rs w.words) in
    let last = ap (λ (all : List Declaration). after_declarations calls all (scope loaded ms)) (sym (append-nil ds)) ∙ r.runs [] in
    record { final = r.final; gives = loads ∙ last; coding = r.coding; values = r.values ∙ ap (λ (es : List ℤ). loaded ++ map (fitted_local f) es) (sym r.exacts) }

pub code_steps : CodeStepsAsNetlist
code_steps net rs x n c w =
    let f = net.format in
    let t = word_type f in
    let p = program_of net in
    let calls = calls_of p in
    let values = (sample_of f rs x net.nodes).values in
    let d = locals_give net rs x n c w in
    let e = done net rs x values n w refl in
    let k = d.coding in
    let many : length (map (c_value t) rs) ≡ length net.next = length-map rs (c_value t) ∙ w.many in
    let stores = stores_give calls t d.final (codes_of net) values net.next 0 [] (map (c_value t) rs) refl many (words_given f calls d.final (codes_of net) values net.next k e.named e.words) in
    let after = map (λ i. c_value t (at values i)) net.next in
    let result = word_given f calls d.final (codes_of net) values net.output k e.below e.word after in
    step_by p rs x (scope d.final (map (c_value t) rs)) (scope d.final after) (c_value t (at values net.output)) d.gives stores result
    ∙ ap (λ (ms : List ℤ). Some (record { result = at values net.output; members = ms })) (numbers_of t values net.next)

-- ---- a run
results_more : (p : Program) (rs : List ℤ) (x : ℤ) (xs : List ℤ) (s : StepResult) (ys : List ℤ) → code_step p rs x ≡ Some s → code_results p s.members xs ≡ Some ys → code_results p rs (x ∷ xs) ≡ Some (s.result ∷ ys)
results_more p rs x xs s ys a b =
    then_is (λ u. option_and_then (λ zs. Some (u.result ∷ zs)) (code_results p u.members xs)) (code_step p rs x) s a
    ∙ then_is (λ zs. Some (s.result ∷ zs)) (code_results p s.members xs) ys b

runs_from : (net : Net) (rs xs : List ℤ) → IsNetlist net → IsCodable net → length rs ≡ length net.next → All (IsWord net.format) rs → All (IsWord net.format) xs
    → code_results (program_of net) rs xs ≡ Some (map (λ (r : SampleRow). r.y) (rows_from (step_of net) rs xs))
runs_from net rs [] n c l r h = refl
runs_from net rs (x ∷ xs) n c l r h =
    let f = net.format in
    let w : AreWords net rs x = record { many = l; words = r; input = All-head (IsWord f) x xs h } in
    let s = step_of net rs x in
    let values = (sample_of f rs x net.nodes).values in
    let e = done net rs x values n w refl in
    let past : All (IsWord f) s.past = All-map (IsWord f) (at values) net.next e.words in
    let more = runs_from net s.past xs n c (length-map net.next (at values)) past (All-tail (IsWord f) x xs h) in
    results_more (program_of net) rs x xs (step_result s) (map (λ (r : SampleRow). r.y) (rows_from (step_of net) s.past xs)) (code_steps net rs x n c w) more

pub code_runs : CodeRunsAsNetlist
code_runs net b rs xs a n c l r h =
    runs_from net rs xs n c l r h ∙ ap (λ (all : List SampleRow). Some (map (λ (r : SampleRow). r.y) all)) (a.rows rs xs (l ∙ a.many))

-- ---- the start
zero_given : (t : CType) (members : List CValue) → conversion t (value_of no_calls (scope [] members) (Constant (pos 0))) ≡ Some (c_value t (pos 0))
zero_given Int members = refl
zero_given Int32 members = refl
zero_given Int64 members = refl

zeros_stored : (t : CType) (ks : List ℕ) (j : ℕ) (before old : List CValue) → length before ≡ j → length old ≡ length ks
    → after_stores no_calls t (stores_from j (map (λ k. Constant (pos 0)) ks)) (scope [] (before ++ old)) ≡ Some (scope [] (before ++ map (λ k. c_value t (pos 0)) ks))
zeros_stored t [] j before [] e l = refl
zeros_stored t [] j before (o ∷ old) e l = absurd (omega arith)
zeros_stored t (k ∷ ks) j before [] e l = absurd (omega arith)
zeros_stored t (k ∷ ks) j before (o ∷ old) e l =
    let v = c_value t (pos 0) in
    let a : Store = record { member = j; value = Constant (pos 0) } in
    let rest = stores_from (j + 1) (map (λ k. Constant (pos 0)) ks) in
    let more = zeros_stored t ks (j + 1) (before ++ v ∷ []) old (omega (arith, length-append before (v ∷ []))) (omega arith) in
    stored_one no_calls t a rest (scope [] (before ++ o ∷ old)) (scope [] ((before ++ v ∷ []) ++ old)) v (zero_given t (before ++ o ∷ old)) (member_set [] before old o v j e)
    ∙ (more ∙ ap (λ (ms : List CValue). Some (scope [] ms)) (append_assoc before (v ∷ []) (map (λ k. c_value t (pos 0)) ks)))

zeros_of : (t : CType) (ks : List ℕ) → map number_of (map (λ k. c_value t (pos 0)) ks) ≡ zeros (length ks)
zeros_of t [] = refl
zeros_of t (k ∷ ks) = zeros_more (length ks) (length (k ∷ ks)) (map number_of (map (λ k. c_value t (pos 0)) ks)) (omega arith) (zeros_of t ks)
  where
    zeros_more : (n m : ℕ) (zs : List ℤ) → m ≡ suc n → zs ≡ zeros n → pos 0 ∷ zs ≡ zeros m
    zeros_more n m zs e h = rw (e, h) refl

pub code_starts : CodeStartsAsNetlist
code_starts net members l =
    let t = word_type net.format in
    let p = program_of net in
    let many : length (map (c_value t) members) ≡ length net.next = length-map members (c_value t) ∙ l in
    let s = zeros_stored t net.next 0 [] (map (c_value t) members) refl many in
    then_is (λ u. Some (map number_of u.members)) (after_stores no_calls p.word p.start (scope [] (map (c_value t) members))) (scope [] (map (λ k. c_value t (pos 0)) net.next)) s
    ∙ ap Some (zeros_of t net.next)

-- ---- the values of a step
typed_each : (t : CType) (g : ℤ → ℤ) (es : List ℤ) → map (λ e. c_value t (g e)) es ≡ map (c_value t) (map g es)
typed_each t g [] = refl
typed_each t g (e ∷ es) = ap (λ (vs : List CValue). c_value t (g e) ∷ vs) (typed_each t g es)

pub code_values : CodeValuesAsNetlist
code_values net rs x n c w =
    let f = net.format in
    let t = word_type f in
    let es = (sample_of f rs x net.nodes).exact in
    let d = locals_give net rs x n c w in
    let same : d.final ≡ map (c_value t) (locals_in net rs x) = d.values ∙ (ap (λ (vs : List CValue). map (c_value t) (x ∷ rs) ++ vs) (typed_each t (fit f.overflow (width f)) es) ∙ sym (map-append (c_value t) (x ∷ rs) (map (fit f.overflow (width f)) es))) in
    d.gives ∙ ap (λ (ls : List CValue). Some (scope ls (map (c_value t) rs))) same
