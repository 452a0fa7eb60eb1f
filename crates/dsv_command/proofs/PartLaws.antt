-- Arguments give the same parts by the rules and by reading them one by one.
use Rattle.std.proofs.Common.{◌≡◌, ℕ, Bool, true, false, List, [], ◌∷◌, ◌++◌, drop, Option, Some, None, option_and_then, refl, sym, ap, ◌∙◌, append_assoc, append-nil}
use Rattle.std.specs.Prelude.{map, if◌then◌else◌}
use Rattle.std.specs.Map.{lookup}
use Rattle.std.specs.Str.{bytes_eq}
use Rattle.dsv_command.specs.Parts.{PartView, file, flag, choice, for_file, for_option, key_of, has_key}
use Rattle.dsv_command.specs.Shapes.{ShapeView, plain, stop, long, dashed, shape_of}
use Rattle.dsv_command.specs.Reading.{Reading, meet_known, meet_shape, meet, read_from, parts_of}
use Rattle.dsv_command.specs.Rules.{IsStop, IsOption, HasOption, AreParts, AreNew, Give}
use Rattle.dsv_command.proofs.ShapeLaws.{IsShape, shape_is, plain_shape, stop_shape, option_shape, value_shape}

-- ---- states of the reading
-- these parts were given
abbrev pub after : List PartView → Reading
after ps = record { parts = ps; waits = None; ended = false }

-- the option waits for its value
abbrev pub waiting : List PartView → List ℕ → Reading
waiting ps name = record { parts = ps; waits = Some name; ended = false }

-- `--` was met
abbrev pub stopped : List PartView → Reading
stopped ps = record { parts = ps; waits = None; ended = true }

-- what is read once the next argument is met
abbrev next : List (List ℕ × Bool) → List (List ℕ) → Reading → Option (List PartView)
next options arguments r = read_from options r arguments

-- ---- from the rules to the reading
pub if_new : {A : Type 0} (b : Bool) (x : A) → b ≡ false → (if b then None else Some x) ≡ Some x
if_new true x e = absurd (cc)
if_new false x e = refl

-- one more argument that is met
pub met : (options : List (List ℕ × Bool)) (r q : Reading) (argument : List ℕ) (rest : List (List ℕ)) → meet options r argument ≡ Some q → read_from options r (argument ∷ rest) ≡ read_from options q rest
met options r q argument rest e = ap (option_and_then (next options rest)) e

longer : (ps : List PartView) (p : PartView) (qs : List PartView) → (ps ++ p ∷ []) ++ qs ≡ ps ++ p ∷ qs
longer ps p qs = append_assoc ps (p ∷ []) qs

files_read : (options : List (List ℕ × Bool)) (rest : List (List ℕ)) (ps : List PartView) → AreNew ps (map file rest) → read_from options (stopped ps) rest ≡ Some (ps ++ map file rest)
files_read options [] ps h = ap Some (sym (append-nil ps))
files_read options (a ∷ rest) ps h =
    met options (stopped ps) (stopped (ps ++ file a ∷ [])) a rest (if_new (has_key for_file ps) (stopped (ps ++ file a ∷ [])) h.0)
    ∙ files_read options rest (ps ++ file a ∷ []) h.1
    ∙ ap Some (longer ps (file a) (map file rest))

-- an argument of a known shape
pub by_shape : (options : List (List ℕ × Bool)) (ps : List PartView) (q : Reading) (argument : List ℕ) (s : ShapeView) → shape_of argument ≡ s → meet_shape options s None argument (after ps) ≡ Some q → meet options (after ps) argument ≡ Some q
by_shape options ps q argument s e h = ap (λ x. meet_shape options x None argument (after ps)) e ∙ h

pub parts_read : (options : List (List ℕ × Bool)) (arguments : List (List ℕ)) (parts : List PartView) → AreParts options arguments parts → (ps : List PartView) → AreNew ps parts → read_from options (after ps) arguments ≡ Some (ps ++ parts)
parts_read options arguments parts (AreParts.none o) ps h = ap Some (sym (append-nil ps))
parts_read options arguments parts (AreParts.joined o a name value rest qs s k g) ps h =
    let p = choice name value in
    let q = after (ps ++ p ∷ []) in
    met o (after ps) q a rest (by_shape o ps q a (long name (Some value)) (value_shape a name value s) (ap (λ x. meet_known x name (Some value) (after ps)) k ∙ if_new (has_key (for_option name) ps) q h.0))
    ∙ parts_read o rest qs g (ps ++ p ∷ []) h.1
    ∙ ap Some (longer ps p qs)
parts_read options arguments parts (AreParts.apart o a name value rest qs s k v g) ps h =
    let p = choice name value in
    let q = after (ps ++ p ∷ []) in
    let w = waiting ps name in
    met o (after ps) w a (value ∷ rest) (by_shape o ps w a (long name None) (option_shape a name s) (ap (λ x. meet_known x name None (after ps)) k ∙ if_new (has_key (for_option name) ps) w h.0))
    ∙ met o w q value rest (ap (λ x. meet_shape o x (Some name) value w) (plain_shape value v) ∙ if_new (has_key (for_option name) ps) q h.0)
    ∙ parts_read o rest qs g (ps ++ p ∷ []) h.1
    ∙ ap Some (longer ps p qs)
parts_read options arguments parts (AreParts.alone o a name rest qs s k g) ps h =
    let p = flag name in
    let q = after (ps ++ p ∷ []) in
    met o (after ps) q a rest (by_shape o ps q a (long name None) (option_shape a name s) (ap (λ x. meet_known x name None (after ps)) k ∙ if_new (has_key (for_option name) ps) q h.0))
    ∙ parts_read o rest qs g (ps ++ p ∷ []) h.1
    ∙ ap Some (longer ps p qs)
parts_read options arguments parts (AreParts.plain o a rest qs s g) ps h =
    let p = file a in
    let q = after (ps ++ p ∷ []) in
    met o (after ps) q a rest (by_shape o ps q a plain (plain_shape a s) (if_new (has_key for_file ps) q h.0))
    ∙ parts_read o rest qs g (ps ++ p ∷ []) h.1
    ∙ ap Some (longer ps p qs)
parts_read options arguments parts (AreParts.stop o a rest s) ps h =
    met o (after ps) (stopped ps) a rest (by_shape o ps (stopped ps) a stop (stop_shape a s) refl)
    ∙ files_read o rest ps h

-- ---- from the reading to the rules

-- arguments that are read after some parts give these parts more
record IsRead (options : List (List ℕ × Bool)) (ps : List PartView) (arguments : List (List ℕ)) (all : List PartView) : Type 0 where
  pub parts : List PartView
  pub given : AreParts options arguments parts
  pub once : AreNew ps parts
  pub same : all ≡ ps ++ parts

-- wherever these arguments are read, they are so by the rules
abbrev AreRead : List (List ℕ × Bool) → List (List ℕ) → Type 0
AreRead options arguments = (ps all : List PartView) → read_from options (after ps) arguments ≡ Some all → IsRead options ps arguments all

record AreFiles (ps : List PartView) (rest : List (List ℕ)) (all : List PartView) : Type 0 where
  pub once : AreNew ps (map file rest)
  pub same : all ≡ ps ++ map file rest

files_by : (options : List (List ℕ × Bool)) (a : List ℕ) (rest : List (List ℕ)) (ps all : List PartView) (b : Bool) → has_key for_file ps ≡ b →
    (read_from options (stopped (ps ++ file a ∷ [])) rest ≡ Some all → AreFiles (ps ++ file a ∷ []) rest all) →
    option_and_then (next options rest) (if b then None else Some (stopped (ps ++ file a ∷ []))) ≡ Some all → AreFiles ps (a ∷ rest) all
files_by options a rest ps all true e ih h = absurd (cc)
files_by options a rest ps all false e ih h =
    let f = ih h in record { once = (e, f.once); same = f.same ∙ longer ps (file a) (map file rest) }

files_given : (options : List (List ℕ × Bool)) (rest : List (List ℕ)) (ps all : List PartView) → read_from options (stopped ps) rest ≡ Some all → AreFiles ps rest all
files_given options [] ps all h = record { once = tt; same = let e : ps ≡ all = cc in sym e ∙ sym (append-nil ps) }
files_given options (a ∷ rest) ps all h = files_by options a rest ps all (has_key for_file ps) refl (files_given options rest (ps ++ file a ∷ []) all) h

-- a part that is given before the rest
one_more : (options : List (List ℕ × Bool)) (rest : List (List ℕ)) (p : PartView) (ps all : List PartView) (b : Bool) (arguments : List (List ℕ)) → has_key (key_of p) ps ≡ b → AreRead options rest →
    ((parts : List PartView) → AreParts options rest parts → AreParts options arguments (p ∷ parts)) →
    option_and_then (next options rest) (if b then None else Some (after (ps ++ p ∷ []))) ≡ Some all → IsRead options ps arguments all
one_more options rest p ps all true arguments e ih step h = absurd (cc)
one_more options rest p ps all false arguments e ih step h =
    let r = ih (ps ++ p ∷ []) all h in record { parts = p ∷ r.parts; given = step r.parts r.given; once = (e, r.once); same = r.same ∙ longer ps p r.parts }

value_by : (options : List (List ℕ × Bool)) (a name v : List ℕ) (rest : List (List ℕ)) (ps all : List PartView) (s : ShapeView) → IsShape v s → IsOption a name → HasOption options name true → AreRead options rest →
    option_and_then (next options rest) (meet_shape options s (Some name) v (waiting ps name)) ≡ Some all → IsRead options ps (a ∷ v ∷ rest) all
value_by options a name v rest ps all plain s o k ih h =
    one_more options rest (choice name v) ps all (has_key (for_option name) ps) (a ∷ v ∷ rest) refl ih (λ parts g. AreParts.apart options a name v rest parts o k s g) h
value_by options a name v rest ps all stop s o k ih h = absurd (cc)
value_by options a name v rest ps all (long n w) s o k ih h = absurd (cc)
value_by options a name v rest ps all dashed s o k ih h = absurd (cc)

-- an option waits for the next argument
waits_by : (options : List (List ℕ × Bool)) (a name : List ℕ) (rest : List (List ℕ)) (ps all : List PartView) → IsOption a name → HasOption options name true → AreRead options (drop 1 rest) →
    (b : Bool) → option_and_then (next options rest) (if b then None else Some (waiting ps name)) ≡ Some all → IsRead options ps (a ∷ rest) all
waits_by options a name rest ps all o k ih true h = absurd (cc)
waits_by options a name [] ps all o k ih false h = absurd (cc)
waits_by options a name (v ∷ rest) ps all o k ih false h = value_by options a name v rest ps all (shape_of v) (shape_is v) o k ih h

option_by : (options : List (List ℕ × Bool)) (a name : List ℕ) (value : Option (List ℕ)) (rest : List (List ℕ)) (ps all : List PartView) (x : Option Bool) → lookup (bytes_eq name) options ≡ x →
    IsShape a (long name value) → AreRead options rest → AreRead options (drop 1 rest) →
    option_and_then (next options rest) (meet_known x name value (after ps)) ≡ Some all → IsRead options ps (a ∷ rest) all
option_by options a name (Some v) rest ps all (Some true) k s ih later h =
    one_more options rest (choice name v) ps all (has_key (for_option name) ps) (a ∷ rest) refl ih (λ parts g. AreParts.joined options a name v rest parts s k g) h
option_by options a name None rest ps all (Some true) k s ih later h = waits_by options a name rest ps all s k later (has_key (for_option name) ps) h
option_by options a name None rest ps all (Some false) k s ih later h =
    one_more options rest (flag name) ps all (has_key (for_option name) ps) (a ∷ rest) refl ih (λ parts g. AreParts.alone options a name rest parts s k g) h
option_by options a name (Some v) rest ps all (Some false) k s ih later h = absurd (cc)
option_by options a name value rest ps all None k s ih later h = absurd (cc)

stop_by : (options : List (List ℕ × Bool)) (a : List ℕ) (rest : List (List ℕ)) (ps all : List PartView) → IsStop a → AreFiles ps rest all → IsRead options ps (a ∷ rest) all
stop_by options a rest ps all s f = record { parts = map file rest; given = AreParts.stop options a rest s; once = f.once; same = f.same }

shape_by : (options : List (List ℕ × Bool)) (a : List ℕ) (rest : List (List ℕ)) (ps all : List PartView) (s : ShapeView) → IsShape a s → AreRead options rest → AreRead options (drop 1 rest) →
    option_and_then (next options rest) (meet_shape options s None a (after ps)) ≡ Some all → IsRead options ps (a ∷ rest) all
shape_by options a rest ps all plain s ih later h =
    one_more options rest (file a) ps all (has_key for_file ps) (a ∷ rest) refl ih (λ parts g. AreParts.plain options a rest parts s g) h
shape_by options a rest ps all stop s ih later h = stop_by options a rest ps all s (files_given options rest ps all h)
shape_by options a rest ps all (long name value) s ih later h = option_by options a name value rest ps all (lookup (bytes_eq name) options) refl s ih later h
shape_by options a rest ps all dashed s ih later h = absurd (cc)

none_given : (options : List (List ℕ × Bool)) → AreRead options []
none_given options ps all h = record { parts = []; given = AreParts.none options; once = tt; same = let e : ps ≡ all = cc in sym e ∙ sym (append-nil ps) }

parts_given : (options : List (List ℕ × Bool)) (arguments : List (List ℕ)) → AreRead options arguments
parts_given options [] = none_given options
parts_given options (a ∷ []) = λ ps all. shape_by options a [] ps all (shape_of a) (shape_is a) (none_given options) (none_given options)
parts_given options (a ∷ b ∷ rest) = λ ps all. shape_by options a (b ∷ rest) ps all (shape_of a) (shape_is a) (parts_given options (b ∷ rest)) (parts_given options rest)

-- ---- the law
pub given_is_read : (options : List (List ℕ × Bool)) (arguments : List (List ℕ)) (parts : List PartView) → Give options arguments parts → parts_of options arguments ≡ Some parts
unfolding parts_of
given_is_read options arguments parts h = parts_read options arguments parts h.given [] h.once

by_read : (options : List (List ℕ × Bool)) (arguments : List (List ℕ)) (parts : List PartView) (r : IsRead options [] arguments parts) → Give options arguments parts
by_read options arguments parts r = record { given = rw r.same r.given; once = rw r.same r.once }

pub read_is_given : (options : List (List ℕ × Bool)) (arguments : List (List ℕ)) (parts : List PartView) → parts_of options arguments ≡ Some parts → Give options arguments parts
unfolding parts_of
read_is_given options arguments parts h = by_read options arguments parts (parts_given options arguments [] parts h)
