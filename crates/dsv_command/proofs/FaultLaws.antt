-- Arguments without a fault are allowed.
use Rattle.std.proofs.Common.{◌≡◌, ℕ, Bool, true, false, ◌||◌, List, [], ◌∷◌, ◌++◌, drop, Option, Some, None, refl, sym, ap, subst, ◌∙◌}
use Rattle.std.specs.Prelude.{IsSome, if◌then◌else◌, option_and_then, map}
use Rattle.std.specs.List.{list_any}
use Rattle.std.specs.Map.{lookup}
use Rattle.std.specs.Str.{bytes_eq}
use Rattle.dsv_command.specs.ClapCommand.{filled, filled_parts_of}
use Rattle.dsv_command.specs.Options.{command_options}
use Rattle.dsv_command.specs.Parts.{PartView, file, flag, choice, Key, for_option, key_of, has_key, is_same_key, is_empty_part, has_empty}
use Rattle.dsv_command.specs.Shapes.{ShapeView, plain, stop, long, dashed, shape_of}
use Rattle.dsv_command.specs.Reading.{Reading, meet_known, meet_shape, meet, read_from, parts_of}
use Rattle.dsv_command.specs.Reasons.{Reason, twice, is_blank, Mark, given, strange, bare, laden, Walk, mark_option, mark_alone, mark_shape, step_marks, marks_from, marks_of, strange_in, key_of_mark, is_key, again, value_fault, or_else, first_in, again_in, fault_of, on_the_way}
use Rattle.dsv_command.proofs.PartLaws.{after, waiting, stopped, if_new, met, by_shape}

-- ---- marks without a fault

-- the marks from some place on, after others, are parts that are allowed together
record AreFine (before : List Mark) (marks : List Mark) : Type 0 where
  pub strange : first_in strange_in marks ≡ None
  pub again : again_in before marks ≡ None
  pub value : first_in value_fault marks ≡ None

left_none : (a b : Option Reason) → or_else a b ≡ None → a ≡ None
left_none None b h = refl
left_none (Some r) b h = absurd (cc)

right_none : (a b : Option Reason) → or_else a b ≡ None → b ≡ None
right_none None b h = h
right_none (Some r) b h = absurd (cc)

later_fine : (before : List Mark) (m : Mark) (ms : List Mark) → AreFine before (m ∷ ms) → AreFine (before ++ m ∷ []) ms
later_fine before m ms h = record {
  strange = right_none (strange_in m) (first_in strange_in ms) h.strange;
  again = right_none (again (key_of_mark m) before) (again_in (before ++ m ∷ []) ms) h.again;
  value = right_none (value_fault m) (first_in value_fault ms) h.value;
}

-- ---- what the marks before are, as parts
key_by : (before : List Mark) (ps : List PartView) (key : Key) → before ≡ map given ps → list_any (λ m. is_key key (key_of_mark m)) before ≡ has_key key ps
key_by before [] key e = rw e refl
key_by before (p ∷ ps) key e = rw e (ap (λ (b : Bool). is_same_key (key_of p) key || b) (key_by (map given ps) ps key refl))

new_by : (key : Key) (b : Bool) → (if b then Some (twice key) else None) ≡ None → b ≡ false
new_by key false h = refl
new_by key true h = absurd (cc)

-- a part that is given anew, and isn't empty
record IsFine (before : List Mark) (ps : List PartView) (p : PartView) : Type 0 where
  pub new : has_key (key_of p) ps ≡ false
  pub filled : is_empty_part p ≡ false

filled_by : (p : PartView) (b : Bool) → is_empty_part p ≡ b → (if b then Some (is_blank (key_of p)) else None) ≡ None → is_empty_part p ≡ false
filled_by p false e h = e
filled_by p true e h = absurd (cc)

fine_part : (before : List Mark) (ps : List PartView) (p : PartView) (ms : List Mark) → before ≡ map given ps → AreFine before (given p ∷ ms) → IsFine before ps p
fine_part before ps p ms e h = record {
  new = sym (key_by before ps (key_of p) e) ∙ new_by (key_of p) (list_any (λ m. is_key (key_of p) (key_of_mark m)) before) (left_none (again (key_of_mark (given p)) before) (again_in (before ++ given p ∷ []) ms) h.again);
  filled = filled_by p (is_empty_part p) refl (left_none (value_fault (given p)) (first_in value_fault ms) h.value);
}

map_last : (ps : List PartView) (p : PartView) → map given (ps ++ p ∷ []) ≡ map given ps ++ given p ∷ []
map_last [] p = refl
map_last (q ∷ ps) p = ap (λ ms. given q ∷ ms) (map_last ps p)

before_more : (before : List Mark) (ps : List PartView) (p : PartView) → before ≡ map given ps → before ++ given p ∷ [] ≡ map given (ps ++ p ∷ [])
before_more before ps p e = ap (λ ms. ms ++ given p ∷ []) e ∙ sym (map_last ps p)

empty_more : (ps : List PartView) (p : PartView) → has_empty ps ≡ false → is_empty_part p ≡ false → has_empty (ps ++ p ∷ []) ≡ false
empty_more [] p h e = rw e refl
empty_more (q ∷ ps) p h e = empty_step q ps p (is_empty_part q) h (λ k. empty_more ps p k e)
  where
    empty_step : (q : PartView) (ps : List PartView) (p : PartView) (b : Bool) → (b || has_empty ps) ≡ false → (has_empty ps ≡ false → has_empty (ps ++ p ∷ []) ≡ false) → (b || has_empty (ps ++ p ∷ [])) ≡ false
    empty_step q ps p false h f = f h
    empty_step q ps p true h f = absurd (cc)

-- ---- the reading of arguments whose marks have no fault
record Allowed (options : List (List ℕ × Bool)) (r : Reading) (arguments : List (List ℕ)) : Type 0 where
  pub parts : List PartView
  pub read : read_from options r arguments ≡ Some parts
  pub filled : has_empty parts ≡ false

-- wherever these arguments are read after others, they are allowed
abbrev AreAllowed : List (List ℕ × Bool) → List (List ℕ) → Type 0
AreAllowed options arguments = (ps : List PartView) → AreFine (map given ps) (marks_from options on_the_way arguments) → has_empty ps ≡ false → Allowed options (after ps) arguments

next_fine : (ps : List PartView) (p : PartView) (ms : List Mark) → AreFine (map given ps) (given p ∷ ms) → AreFine (map given (ps ++ p ∷ [])) ms
next_fine ps p ms h = subst (λ (before : List Mark). AreFine before ms) (before_more (map given ps) ps p refl) (later_fine (map given ps) (given p) ms h)

abbrev after_stop : Walk
after_stop = record { waits = None; ended = true }

files_allowed : (options : List (List ℕ × Bool)) (rest : List (List ℕ)) (ps : List PartView) → AreFine (map given ps) (marks_from options after_stop rest) → has_empty ps ≡ false → Allowed options (stopped ps) rest
files_allowed options [] ps h e = record { parts = ps; read = refl; filled = e }
files_allowed options (a ∷ rest) ps h e =
    let f = fine_part (map given ps) ps (file a) (marks_from options after_stop rest) refl h in
    let n = files_allowed options rest (ps ++ file a ∷ []) (next_fine ps (file a) (marks_from options after_stop rest) h) (empty_more ps (file a) e f.filled) in
    record {
      parts = n.parts;
      read = met options (stopped ps) (stopped (ps ++ file a ∷ [])) a rest (if_new (has_key (key_of (file a)) ps) (stopped (ps ++ file a ∷ [])) f.new) ∙ n.read;
      filled = n.filled;
    }

-- an argument that gives a part
one_more : (options : List (List ℕ × Bool)) (a : List ℕ) (rest : List (List ℕ)) (p : PartView) (ps : List PartView) → AreAllowed options rest
    → (has_key (key_of p) ps ≡ false → meet options (after ps) a ≡ Some (after (ps ++ p ∷ [])))
    → AreFine (map given ps) (given p ∷ marks_from options on_the_way rest) → has_empty ps ≡ false → Allowed options (after ps) (a ∷ rest)
one_more options a rest p ps ih step h e =
    let f = fine_part (map given ps) ps p (marks_from options on_the_way rest) refl h in
    let n = ih (ps ++ p ∷ []) (next_fine ps p (marks_from options on_the_way rest) h) (empty_more ps p e f.filled) in
    record { parts = n.parts; read = met options (after ps) (after (ps ++ p ∷ [])) a rest (step f.new) ∙ n.read; filled = n.filled }

strange_first : {A : Type 0} (before : List Mark) (argument : List ℕ) (ms : List Mark) → AreFine before (strange argument ∷ ms) → A
strange_first before argument ms h = absurd (let k = h.strange in cc)

bare_first : {A : Type 0} (before : List Mark) (name : List ℕ) (ms : List Mark) → AreFine before (bare name ∷ ms) → A
bare_first before name ms h = absurd (let k = h.value in cc)

laden_first : {A : Type 0} (before : List Mark) (name : List ℕ) (ms : List Mark) → AreFine before (laden name ∷ ms) → A
laden_first before name ms h = absurd (let k = h.value in cc)

-- the argument after an option that waits
value_by : (options : List (List ℕ × Bool)) (a name v : List ℕ) (rest : List (List ℕ)) (ps : List PartView) (s : ShapeView) → shape_of v ≡ s → AreAllowed options rest
    → (has_key (for_option name) ps ≡ false → meet options (after ps) a ≡ Some (waiting ps name))
    → AreFine (map given ps) (step_marks (mark_shape options (Some name) s v) ++ marks_from options (mark_shape options (Some name) s v).walk rest)
    → has_empty ps ≡ false → Allowed options (after ps) (a ∷ v ∷ rest)
value_by options a name v rest ps plain t ih step h e =
    let p = choice name v in
    let f = fine_part (map given ps) ps p (marks_from options on_the_way rest) refl h in
    let n = ih (ps ++ p ∷ []) (next_fine ps p (marks_from options on_the_way rest) h) (empty_more ps p e f.filled) in
    record {
      parts = n.parts;
      read = met options (after ps) (waiting ps name) a (v ∷ rest) (step f.new)
          ∙ met options (waiting ps name) (after (ps ++ p ∷ [])) v rest (ap (λ x. meet_shape options x (Some name) v (waiting ps name)) t ∙ if_new (has_key (for_option name) ps) (after (ps ++ p ∷ [])) f.new)
          ∙ n.read;
      filled = n.filled;
    }
value_by options a name v rest ps stop t ih step h e = bare_first (map given ps) name _ h
value_by options a name v rest ps (long n w) t ih step h e = bare_first (map given ps) name _ h
value_by options a name v rest ps dashed t ih step h e = bare_first (map given ps) name _ h

waits_by : (options : List (List ℕ × Bool)) (a name : List ℕ) (rest : List (List ℕ)) (ps : List PartView) → AreAllowed options (drop 1 rest)
    → (has_key (for_option name) ps ≡ false → meet options (after ps) a ≡ Some (waiting ps name))
    → AreFine (map given ps) (marks_from options (record { waits = Some name; ended = false }) rest) → has_empty ps ≡ false → Allowed options (after ps) (a ∷ rest)
waits_by options a name [] ps ih step h e = bare_first (map given ps) name [] h
waits_by options a name (v ∷ rest) ps ih step h e = value_by options a name v rest ps (shape_of v) refl ih step h e

option_by : (options : List (List ℕ × Bool)) (a name : List ℕ) (value : Option (List ℕ)) (rest : List (List ℕ)) (ps : List PartView) (x : Option Bool) → lookup (bytes_eq name) options ≡ x
    → shape_of a ≡ long name value → AreAllowed options rest → AreAllowed options (drop 1 rest)
    → AreFine (map given ps) (step_marks (mark_option x name value a) ++ marks_from options (mark_option x name value a).walk rest) → has_empty ps ≡ false → Allowed options (after ps) (a ∷ rest)
option_by options a name (Some v) rest ps (Some true) k s ih later h e =
    one_more options a rest (choice name v) ps ih (λ n. by_shape options ps (after (ps ++ choice name v ∷ [])) a (long name (Some v)) s (ap (λ y. meet_known y name (Some v) (after ps)) k ∙ if_new (has_key (for_option name) ps) (after (ps ++ choice name v ∷ [])) n)) h e
option_by options a name None rest ps (Some true) k s ih later h e =
    waits_by options a name rest ps later (λ n. by_shape options ps (waiting ps name) a (long name None) s (ap (λ y. meet_known y name None (after ps)) k ∙ if_new (has_key (for_option name) ps) (waiting ps name) n)) h e
option_by options a name None rest ps (Some false) k s ih later h e =
    one_more options a rest (flag name) ps ih (λ n. by_shape options ps (after (ps ++ flag name ∷ [])) a (long name None) s (ap (λ y. meet_known y name None (after ps)) k ∙ if_new (has_key (for_option name) ps) (after (ps ++ flag name ∷ [])) n)) h e
option_by options a name (Some v) rest ps (Some false) k s ih later h e = laden_first (map given ps) name _ h
option_by options a name value rest ps None k s ih later h e = strange_first (map given ps) a _ h

shape_by : (options : List (List ℕ × Bool)) (a : List ℕ) (rest : List (List ℕ)) (ps : List PartView) (s : ShapeView) → shape_of a ≡ s → AreAllowed options rest → AreAllowed options (drop 1 rest)
    → AreFine (map given ps) (step_marks (mark_alone options s a) ++ marks_from options (mark_alone options s a).walk rest) → has_empty ps ≡ false → Allowed options (after ps) (a ∷ rest)
shape_by options a rest ps plain t ih later h e =
    one_more options a rest (file a) ps ih (λ n. by_shape options ps (after (ps ++ file a ∷ [])) a plain t (if_new (has_key (key_of (file a)) ps) (after (ps ++ file a ∷ [])) n)) h e
shape_by options a rest ps stop t ih later h e =
    let n = files_allowed options rest ps h e in
    record { parts = n.parts; read = met options (after ps) (stopped ps) a rest (by_shape options ps (stopped ps) a stop t refl) ∙ n.read; filled = n.filled }
shape_by options a rest ps (long name value) t ih later h e = option_by options a name value rest ps (lookup (bytes_eq name) options) refl t ih later h e
shape_by options a rest ps dashed t ih later h e = strange_first (map given ps) a _ h

allowed : (options : List (List ℕ × Bool)) (arguments : List (List ℕ)) → AreAllowed options arguments
allowed options [] = λ ps h e. record { parts = ps; read = refl; filled = e }
allowed options (a ∷ []) = λ ps h e. shape_by options a [] ps (shape_of a) refl (allowed options []) (allowed options []) h e
allowed options (a ∷ b ∷ rest) = λ ps h e. shape_by options a (b ∷ rest) ps (shape_of a) refl (allowed options (b ∷ rest)) (allowed options rest) h e

-- ---- the law
fault_by : (arguments : List (List ℕ)) (fault : Option Reason) → fault_of (marks_from command_options on_the_way arguments) ≡ fault → option_and_then filled (read_from command_options (after []) arguments) ≡ None → IsSome fault
fault_by arguments (Some reason) e h = refl
fault_by arguments None e h =
    let marks = marks_from command_options on_the_way arguments in
    let fine : AreFine [] marks = record {
      strange = left_none (first_in strange_in marks) _ e;
      again = left_none (again_in [] marks) (first_in value_fault marks) (right_none (first_in strange_in marks) _ e);
      value = right_none (again_in [] marks) (first_in value_fault marks) (right_none (first_in strange_in marks) _ e);
    } in
    let n = allowed command_options arguments [] fine refl in
    let k : option_and_then filled (Some n.parts) ≡ None = rw n.read at h in
    absurd (let m : Some n.parts ≡ None = (let s : (if has_empty n.parts then None else Some n.parts) ≡ Some n.parts = rw n.filled refl in sym s ∙ k) in cc)

pub fault_found : (arguments : List (List ℕ)) → filled_parts_of command_options arguments ≡ None → IsSome (fault_of (marks_of command_options arguments))
unfolding marks_of parts_of
fault_found arguments h = fault_by arguments (fault_of (marks_from command_options on_the_way arguments)) refl h
