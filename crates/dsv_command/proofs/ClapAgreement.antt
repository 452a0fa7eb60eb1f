-- Reading arguments one by one, and clap's walk over them, come to the same parts.
use Rattle.std.proofs.Common.{◌≡◌, ◌∙◌, Bool, true, false, cond, ◌||◌, inr, List, [], ◌∷◌, ◌++◌, map, Option, Some, None, refl, sym, ap, ap₂, fold, option_and_then}
use Rattle.std.specs.Map.{lookup}
use Rattle.std.specs.Str.{bytes_eq}
use Rattle.std.proofs.Math.Bool.{or-true}
use Rattle.std.proofs.lemmas.List.Folds.{list_any-append}
use Rattle.clap.specs.Walk.{Held, Row, Text, Walk, idle, option, pushed, reacted, settled, used, walked, with_default}
use Rattle.clap.specs.Faults.{react_fault, turn_fault, use_fault, walk_fault}
use Rattle.clap.specs.Kinds.{or_else}
use Rattle.clap.specs.declared.error.kind.ErrorKind.TheVariants.{UnknownArgument}
use Rattle.dsv_command.specs.ClapCommand.{file_id, filled}
use Rattle.dsv_command.specs.Parts.{PartView, file, flag, choice, Key, for_file, for_option, key_of, is_same_key, has_key, is_empty_part, has_empty}
use Rattle.dsv_command.specs.Reading.{Reading, meet_known, meet_shape, read_from}
use Rattle.dsv_command.specs.Shapes.{ShapeView, plain, stop, long, dashed, shape_of}
use Rattle.dsv_command.proofs.ClapRules.{Options, built_rules, built_shape, no_check_fault, no_defaults_fault}
use Rattle.dsv_command.proofs.ClapUses.{AreKnown, CanSettle, HasNoFile, IsKnown, held_at, known_more, part_use_fault, parts_with, pending_of, row_of, rule_of, settle_fault_at, settle_ok, settled_at, use_kinds, used_part, values_of}
use Rattle.dsv_command.proofs.ClapLooks.{HaveCharacters, HasCharacters, Looks, looks}
use Rattle.dsv_command.proofs.ClapTurns.{IsPositional, alone_turn, alone_walked, dashed_turn, file_turn, file_walked, flag_turn, flag_value, flag_walked, joined_turn, joined_walked, not_none, plain_stray, stop_turn, stop_walked, stray_turn, unknown, walk_at, wanted_turn, wanted_walked}
use Rattle.dsv_command.proofs.ClapWalk.{Fails, doomed, doomed_late, end_rows, fails_next, filled_from, is_place, last_empty, never_filled, place, run_bad, run_fault, run_ok, wanting, wanting_again, wanting_bad, wanting_end}

-- ---- keys among more parts

has_key_apart : (key : Key) (ps : List PartView) (p : PartView) → is_same_key (key_of p) key ≡ false → has_key key (ps ++ p ∷ []) ≡ has_key key ps
has_key_apart key [] p e = rw e refl
has_key_apart key (q ∷ ps) p e = ap (λ b. is_same_key (key_of q) key || b) (has_key_apart key ps p e)

has_file : (ps : List PartView) (text : Text) → has_key for_file (ps ++ file text ∷ []) ≡ true
has_file ps text = list_any-append (λ p. is_same_key (key_of p) for_file) ps (file text ∷ []) ∙ or-true (has_key for_file ps)

-- ---- where both stand between two arguments

-- nothing waits, and `--` was met or not; or an option waits for its value
pub data Stand : Type 0 where
  rests : Option PartView → Bool → Stand
  wants : Text → Stand

-- the reading after these parts, of which clap has yet to use the last
abbrev reading_of : List PartView → Stand → Reading
reading_of ps (rests p ended) = record { parts = parts_with ps p; waits = None; ended = ended }
reading_of ps (wants name) = record { parts = ps; waits = Some name; ended = false }

-- what both come to: clap refuses, or has the rows of the parts, which are known and filled
pub record Finds (options : Options) (w : Walk) (arguments : List Text) (parts : List PartView) : Type 0 where
  pub taken : run_fault options w arguments ≡ []
  pub rows : end_rows options w arguments ≡ map row_of parts
  pub known : AreKnown options parts
  pub filled : has_empty parts ≡ false

abbrev pub Agrees : Options → Option (List PartView) → Walk → List Text → Type 0
Agrees options None w arguments = Fails options w arguments
Agrees options (Some parts) w arguments = Finds options w arguments parts

agree_next : (options : Options) (r : Option (List PartView)) (w next : Walk) (argument : Text) (arguments : List Text) → turn_fault (built_shape options) [] w argument ≡ []
    → walked (built_rules options) [] w argument ≡ next → Agrees options r next arguments → Agrees options r w (argument ∷ arguments)
agree_next options None w next argument arguments ok e a = fails_next options w next argument arguments ok e a
agree_next options (Some parts) w next argument arguments ok e a = record {
  taken = run_ok options w next argument arguments ok e ∙ a.taken;
  rows = ap (λ (x : Walk). end_rows options x arguments) e ∙ a.rows;
  known = a.known;
  filled = a.filled;
}

-- the reading finds nothing
agree_none : (options : Options) (r : Option (List PartView)) (w : Walk) (arguments : List Text) → r ≡ None → Fails options w arguments → Agrees options r w arguments
agree_none options r w arguments e bad = rw e bad

abbrev then_read : Options → List Text → Option Reading → Option (List PartView)
then_read options arguments next = option_and_then filled (option_and_then (λ r. read_from options r arguments) next)

module _ (options : Options) (no_file : HasNoFile options) where
  abbrev walk_of : List PartView → Stand → Walk
  walk_of ps (rests p ended) = walk_at (held_at ps (pending_of p)) idle (place (parts_with ps p)) ended
  walk_of ps (wants name) = wanting options no_file ps name (place ps)

  abbrev IsStand : List PartView → Stand → Type 0
  IsStand ps (rests p ended) = CanSettle options ps p
  IsStand ps (wants name) = (lookup (bytes_eq name) options ≡ Some true) × (has_key (for_option name) ps ≡ false)

  -- from wherever both stand
  abbrev Next : List Text → Type 0
  Next arguments = (ps : List PartView) (s : Stand) → AreKnown options ps → has_empty ps ≡ false → IsStand ps s
      → Agrees options (filled_from options (reading_of ps s) arguments) (walk_of ps s) arguments

  known_with : (ps : List PartView) (p : Option PartView) → AreKnown options ps → CanSettle options ps p → AreKnown options (parts_with ps p)
  known_with ps None ks c = ks
  known_with ps (Some p) ks c = known_more options ps p ks c.known

  filled_with : (ps : List PartView) (p : Option PartView) → has_empty ps ≡ false → CanSettle options ps p → has_empty (parts_with ps p) ≡ false
  filled_with ps None f c = f
  filled_with ps (Some p) f c = last_empty ps p f ∙ c.filled

  -- ---- a part whose value is at hand

  react_at : (ps : List PartView) (p : Option PartView) (q : PartView) → AreKnown options ps → CanSettle options ps p → IsKnown options q
      → react_fault (built_rules options) false (rule_of q) (values_of q) (held_at ps (pending_of p)) ≡ use_kinds (has_key (key_of q) (parts_with ps p)) (is_empty_part q)
  react_at ps p q ks c k = ap₂ or_else (settle_ok options ps p no_file ks c)
      (ap (λ (h : Held). use_fault false (rule_of q) (values_of q) h.rows) (settled_at options ps p no_file ks c) ∙ part_use_fault options (parts_with ps p) q no_file (known_with ps p ks c) k)

  reacted_at : (ps : List PartView) (p : Option PartView) (q : PartView) → AreKnown options ps → CanSettle options ps p → IsKnown options q → has_key (key_of q) (parts_with ps p) ≡ false
      → reacted (built_rules options) (rule_of q) (values_of q) (held_at ps (pending_of p)) ≡ held_at (parts_with ps p ++ q ∷ []) None
  reacted_at ps p q ks c k e = ap (λ (h : Held). let r : Held = record { rows = used (rule_of q) (values_of q) h.rows; pending = None; skip = 0 } in r) (settled_at options ps p no_file ks c)
      ∙ ap (λ (rows : List Row). let r : Held = record { rows = rows; pending = None; skip = 0 } in r) (used_part options (parts_with ps p) q no_file (known_with ps p ks c) k e)

  at_once : (argument : Text) (arguments : List Text) (ps : List PartView) (p : Option PartView) (q : PartView) (again empty : Bool) → has_key (key_of q) (parts_with ps p) ≡ again → is_empty_part q ≡ empty
      → AreKnown options ps → has_empty ps ≡ false → CanSettle options ps p → IsKnown options q → is_same_key (key_of q) for_file ≡ false
      → turn_fault (built_shape options) [] (walk_of ps (rests p false)) argument ≡ react_fault (built_rules options) false (rule_of q) (values_of q) (held_at ps (pending_of p))
      → walked (built_rules options) [] (walk_of ps (rests p false)) argument
      ≡ walk_at (reacted (built_rules options) (rule_of q) (values_of q) (held_at ps (pending_of p))) idle (place (parts_with ps p)) false
      → Next arguments
      → Agrees options (then_read options arguments (cond again None (Some (record { parts = parts_with ps p ++ q ∷ []; waits = None; ended = false })))) (walk_of ps (rests p false)) (argument ∷ arguments)
  at_once argument arguments ps p q true empty e g ks f c k o turn walk next =
      run_bad options (walk_of ps (rests p false)) argument arguments (not_none (turn ∙ (react_at ps p q ks c k ∙ ap (λ b. use_kinds b (is_empty_part q)) e)))
  at_once argument arguments ps p q false true e g ks f c k o turn walk next =
      agree_none options _ _ (argument ∷ arguments)
      (never_filled options arguments (record { parts = parts_with ps p ++ q ∷ []; waits = None; ended = false }) (last_empty (parts_with ps p) q (filled_with ps p f c) ∙ g))
      (run_bad options (walk_of ps (rests p false)) argument arguments (not_none (turn ∙ (react_at ps p q ks c k ∙ ap₂ use_kinds e g))))
  at_once argument arguments ps p q false false e g ks f c k o turn walk next =
      let qs : List PartView = parts_with ps p in
      agree_next options _ (walk_of ps (rests p false)) (walk_of (qs ++ q ∷ []) (rests None false)) argument arguments
      (turn ∙ (react_at ps p q ks c k ∙ ap₂ use_kinds e g))
      (walk ∙ (ap (λ (h : Held). walk_at h idle (place qs) false) (reacted_at ps p q ks c k e)
      ∙ ap (λ b. walk_at (held_at (qs ++ q ∷ []) None) idle (cond b 2 1) false) (sym (has_key_apart for_file qs q o))))
      (next (qs ++ q ∷ []) (rests None false) (known_more options qs q (known_with ps p ks c) k) (last_empty qs q (filled_with ps p f c) ∙ g) tt)

  -- ---- FILE

  file_at : (ps : List PartView) (p : Option PartView) (argument : Text) → AreKnown options ps → CanSettle options ps p
      → pushed file_id argument (settled (built_rules options) (held_at ps (pending_of p))) ≡ held_at (parts_with ps p) (pending_of (Some (file argument)))
  file_at ps p argument ks c = ap (pushed file_id argument) (settled_at options ps p no_file ks c)

  -- an empty FILE
  empty_file : (ended : Bool) (arguments : List Text) (ps : List PartView) (argument : Text) → HaveCharacters arguments → AreKnown options ps → has_key for_file ps ≡ false → is_empty_part (file argument) ≡ true
      → Fails options (walk_at (held_at ps (pending_of (Some (file argument)))) idle 2 ended) arguments
  empty_file true arguments ps argument t ks e g = doomed_late options no_file arguments (held_at ps (pending_of (Some (file argument)))) idle 2 (inr refl)
      (not_none (settle_fault_at options ps (file argument) no_file ks tt ∙ ap₂ use_kinds e g))
  empty_file false arguments ps argument t ks e g = doomed options no_file arguments ps (pending_of (Some (file argument))) 2 t (inr refl)
      (not_none (settle_fault_at options ps (file argument) no_file ks tt ∙ ap₂ use_kinds e g))

  stray : (ended : Bool) (h : Held) (argument : Text) → IsPositional ended argument → turn_fault (built_shape options) [] (walk_at h idle 2 ended) argument ≡ UnknownArgument ∷ []
  stray true h argument l = stray_turn options h argument idle
  stray false h argument l = plain_stray options h argument l

  file_by : (ended : Bool) (argument : Text) (arguments : List Text) (ps : List PartView) (p : Option PartView) (again empty : Bool) → has_key for_file (parts_with ps p) ≡ again
      → is_empty_part (file argument) ≡ empty → IsPositional ended argument → HaveCharacters arguments → AreKnown options ps → has_empty ps ≡ false → CanSettle options ps p → Next arguments
      → Agrees options (then_read options arguments (cond again None (Some (record { parts = parts_with ps p ++ file argument ∷ []; waits = None; ended = ended }))))
      (walk_at (held_at ps (pending_of p)) idle (cond again 2 1) ended) (argument ∷ arguments)
  file_by ended argument arguments ps p true empty e g l t ks f c next = run_bad options _ argument arguments (not_none (stray ended (held_at ps (pending_of p)) argument l))
  file_by ended argument arguments ps p false true e g l t ks f c next =
      let qs : List PartView = parts_with ps p in
      agree_none options _ _ (argument ∷ arguments)
      (never_filled options arguments (record { parts = qs ++ file argument ∷ []; waits = None; ended = ended }) (last_empty qs (file argument) (filled_with ps p f c) ∙ g))
      (fails_next options (walk_at (held_at ps (pending_of p)) idle 1 ended) (walk_at (held_at qs (pending_of (Some (file argument)))) idle 2 ended) argument arguments
      (file_turn options (held_at ps (pending_of p)) argument ended l ∙ settle_ok options ps p no_file ks c)
      (file_walked options (held_at ps (pending_of p)) argument ended l ∙ ap (λ (h : Held). walk_at h idle 2 ended) (file_at ps p argument ks c))
      (empty_file ended arguments qs argument t (known_with ps p ks c) e g))
  file_by ended argument arguments ps p false false e g l t ks f c next =
      let qs : List PartView = parts_with ps p in
      agree_next options _ (walk_at (held_at ps (pending_of p)) idle 1 ended) (walk_of qs (rests (Some (file argument)) ended)) argument arguments
      (file_turn options (held_at ps (pending_of p)) argument ended l ∙ settle_ok options ps p no_file ks c)
      (file_walked options (held_at ps (pending_of p)) argument ended l
      ∙ (ap (λ (h : Held). walk_at h idle 2 ended) (file_at ps p argument ks c)
      ∙ ap (λ b. walk_at (held_at qs (pending_of (Some (file argument)))) idle (cond b 2 1) ended) (sym (has_file qs argument))))
      (next qs (rests (Some (file argument)) ended) (known_with ps p ks c) (filled_with ps p f c) (record { known = tt; new = e; filled = g }))

  -- ---- an option whose value is the next argument

  waits_by : (argument name : Text) (arguments : List Text) (ps : List PartView) (p : Option PartView) (again : Bool) → has_key (for_option name) (parts_with ps p) ≡ again
      → lookup (bytes_eq name) options ≡ Some true → Looks (long name None) argument → HaveCharacters arguments → AreKnown options ps → has_empty ps ≡ false → CanSettle options ps p → Next arguments
      → Agrees options (then_read options arguments (cond again None (Some (record { parts = parts_with ps p; waits = Some name; ended = false })))) (walk_of ps (rests p false)) (argument ∷ arguments)
  waits_by argument name arguments ps p again e k l t ks f c next = by_test again e
    where
      turn : turn_fault (built_shape options) [] (walk_of ps (rests p false)) argument ≡ []
      turn = alone_turn options (held_at ps (pending_of p)) idle (place (parts_with ps p)) argument name k l ∙ settle_ok options ps p no_file ks c

      walk : walked (built_rules options) [] (walk_of ps (rests p false)) argument ≡ wanting options no_file (parts_with ps p) name (place (parts_with ps p))
      walk = alone_walked options (held_at ps (pending_of p)) idle (place (parts_with ps p)) argument name k l
          ∙ ap (λ (h : Held). walk_at (let held : Held = record h { pending = Some (name, []) } in held) (option name) (place (parts_with ps p)) false) (settled_at options ps p no_file ks c)

      by_test : (b : Bool) → has_key (for_option name) (parts_with ps p) ≡ b
          → Agrees options (then_read options arguments (cond b None (Some (record { parts = parts_with ps p; waits = Some name; ended = false })))) (walk_of ps (rests p false)) (argument ∷ arguments)
      by_test true e = fails_next options (walk_of ps (rests p false)) (wanting options no_file (parts_with ps p) name (place (parts_with ps p))) argument arguments turn walk
          (wanting_again options no_file arguments (parts_with ps p) name (place (parts_with ps p)) t (is_place (parts_with ps p)) (known_with ps p ks c) k e)
      by_test false e = agree_next options _ (walk_of ps (rests p false)) (walk_of (parts_with ps p) (wants name)) argument arguments turn walk
          (next (parts_with ps p) (wants name) (known_with ps p ks c) (filled_with ps p f c) (k, e))

  -- the value that is waited for
  value_by : (argument name : Text) (arguments : List Text) (ps : List PartView) (empty : Bool) → is_empty_part (choice name argument) ≡ empty → lookup (bytes_eq name) options ≡ Some true
      → has_key (for_option name) ps ≡ false → Looks plain argument → HaveCharacters arguments → AreKnown options ps → has_empty ps ≡ false → Next arguments
      → Agrees options (then_read options arguments (Some (record { parts = ps ++ choice name argument ∷ []; waits = None; ended = false }))) (walk_of ps (wants name)) (argument ∷ arguments)
  value_by argument name arguments ps true g k e l t ks f next =
      agree_none options _ _ (argument ∷ arguments)
      (never_filled options arguments (record { parts = ps ++ choice name argument ∷ []; waits = None; ended = false }) (last_empty ps (choice name argument) f ∙ g))
      (fails_next options (walk_of ps (wants name)) (walk_at (held_at ps (Some (name, argument ∷ []))) idle (place ps) false) argument arguments
      (wanted_turn options ps (place ps) argument name no_file k l) (wanted_walked options ps (place ps) argument name no_file k l)
      (doomed options no_file arguments ps (Some (name, argument ∷ [])) (place ps) t (is_place ps) (not_none (settle_fault_at options ps (choice name argument) no_file ks k ∙ ap₂ use_kinds e g))))
  value_by argument name arguments ps false g k e l t ks f next =
      agree_next options _ (walk_of ps (wants name)) (walk_of ps (rests (Some (choice name argument)) false)) argument arguments
      (wanted_turn options ps (place ps) argument name no_file k l)
      (wanted_walked options ps (place ps) argument name no_file k l
      ∙ ap (λ b. walk_at (held_at ps (Some (name, argument ∷ []))) idle (cond b 2 1) false) (sym (has_key_apart for_file ps (choice name argument) refl)))
      (next ps (rests (Some (choice name argument)) false) ks f (record { known = k; new = e; filled = g }))

  -- ---- any argument

  long_by : (argument name : Text) (value : Option Text) (arguments : List Text) (ps : List PartView) (p : Option PartView) (takes_value : Option Bool) → lookup (bytes_eq name) options ≡ takes_value
      → Looks (long name value) argument → HaveCharacters arguments → AreKnown options ps → has_empty ps ≡ false → CanSettle options ps p → Next arguments
      → Agrees options (then_read options arguments (meet_known takes_value name value (reading_of ps (rests p false)))) (walk_of ps (rests p false)) (argument ∷ arguments)
  long_by argument name value arguments ps p None k l t ks f c next =
      run_bad options _ argument arguments (not_none (unknown options (held_at ps (pending_of p)) idle (place (parts_with ps p)) argument name value k l))
  long_by argument name (Some value) arguments ps p (Some true) k l t ks f c next =
      at_once argument arguments ps p (choice name value) (has_key (for_option name) (parts_with ps p)) (is_empty_part (choice name value)) refl refl ks f c k refl
      (joined_turn options (held_at ps (pending_of p)) idle (place (parts_with ps p)) argument name value k l)
      (joined_walked options (held_at ps (pending_of p)) idle (place (parts_with ps p)) argument name value k l) next
  long_by argument name None arguments ps p (Some true) k l t ks f c next = waits_by argument name arguments ps p (has_key (for_option name) (parts_with ps p)) refl k l t ks f c next
  long_by argument name None arguments ps p (Some false) k l t ks f c next =
      at_once argument arguments ps p (flag name) (has_key (for_option name) (parts_with ps p)) false refl refl ks f c k refl
      (flag_turn options (held_at ps (pending_of p)) idle (place (parts_with ps p)) argument name k l)
      (flag_walked options (held_at ps (pending_of p)) idle (place (parts_with ps p)) argument name k l) next
  long_by argument name (Some value) arguments ps p (Some false) k l t ks f c next =
      run_bad options _ argument arguments (not_none (flag_value options (held_at ps (pending_of p)) idle (place (parts_with ps p)) argument name value k l))

  -- nothing waits
  rests_by : (argument : Text) (arguments : List Text) (ps : List PartView) (p : Option PartView) (shape : ShapeView) → HasCharacters argument → Looks shape argument → HaveCharacters arguments
      → AreKnown options ps → has_empty ps ≡ false → CanSettle options ps p → Next arguments
      → Agrees options (then_read options arguments (meet_shape options shape None argument (reading_of ps (rests p false)))) (walk_of ps (rests p false)) (argument ∷ arguments)
  rests_by argument arguments ps p plain x l t ks f c next = file_by false argument arguments ps p (has_key for_file (parts_with ps p)) (is_empty_part (file argument)) refl refl l t ks f c next
  rests_by argument arguments ps p stop x l t ks f c next = agree_next options _ (walk_of ps (rests p false)) (walk_of ps (rests p true)) argument arguments
      (stop_turn options idle (place (parts_with ps p)) argument (held_at ps (pending_of p)) l) (stop_walked options idle (place (parts_with ps p)) argument (held_at ps (pending_of p)) l)
      (next ps (rests p true) ks f c)
  rests_by argument arguments ps p (long name value) x l t ks f c next = long_by argument name value arguments ps p (lookup (bytes_eq name) options) refl l t ks f c next
  rests_by argument arguments ps p dashed x l t ks f c next = run_bad options _ argument arguments (not_none (dashed_turn options ps (pending_of p) idle (place (parts_with ps p)) argument x l))

  -- an option waits
  wants_by : (argument : Text) (arguments : List Text) (ps : List PartView) (name : Text) (shape : ShapeView) → HasCharacters argument → Looks shape argument → HaveCharacters arguments
      → AreKnown options ps → has_empty ps ≡ false → lookup (bytes_eq name) options ≡ Some true → has_key (for_option name) ps ≡ false → Next arguments
      → Agrees options (then_read options arguments (meet_shape options shape (Some name) argument (reading_of ps (wants name)))) (walk_of ps (wants name)) (argument ∷ arguments)
  wants_by argument arguments ps name plain x l t ks f k e next = rw e (value_by argument name arguments ps (is_empty_part (choice name argument)) refl k e l t ks f next)
  wants_by argument arguments ps name stop x l t ks f k e next = wanting_bad options no_file argument arguments ps name (place ps) stop (λ z. cc) (is_place ps) k x l
  wants_by argument arguments ps name (long other value) x l t ks f k e next = wanting_bad options no_file argument arguments ps name (place ps) (long other value) (λ z. cc) (is_place ps) k x l
  wants_by argument arguments ps name dashed x l t ks f k e next = wanting_bad options no_file argument arguments ps name (place ps) dashed (λ z. cc) (is_place ps) k x l

  turn_by : (argument : Text) (arguments : List Text) (ps : List PartView) (s : Stand) → HasCharacters argument → HaveCharacters arguments → AreKnown options ps → has_empty ps ≡ false → IsStand ps s → Next arguments
      → Agrees options (filled_from options (reading_of ps s) (argument ∷ arguments)) (walk_of ps s) (argument ∷ arguments)
  turn_by argument arguments ps (rests p true) x t ks f i next = file_by true argument arguments ps p (has_key for_file (parts_with ps p)) (is_empty_part (file argument)) refl refl tt t ks f i next
  turn_by argument arguments ps (rests p false) x t ks f i next = rests_by argument arguments ps p (shape_of argument) x (looks argument) t ks f i next
  turn_by argument arguments ps (wants name) x t ks f i next = wants_by argument arguments ps name (shape_of argument) x (looks argument) t ks f i.0 i.1 next

  -- ---- the end

  rests_end : (ps : List PartView) (p : Option PartView) (ended : Bool) → AreKnown options ps → has_empty ps ≡ false → CanSettle options ps p
      → Agrees options (filled (parts_with ps p)) (walk_of ps (rests p ended)) []
  unfolding walk_fault
  rests_end ps p ended ks f c = rw (filled_with ps p f c) (record {
    taken = ap₂ or_else (settle_ok options ps p no_file ks c)
        (ap₂ or_else (no_defaults_fault options (settled (built_rules options) (held_at ps (pending_of p))).rows)
        (no_check_fault options (fold with_default (settled (built_rules options) (held_at ps (pending_of p))).rows (built_rules options))));
    rows = ap (λ (h : Held). h.rows) (settled_at options ps p no_file ks c);
    known = known_with ps p ks c;
    filled = filled_with ps p f c;
  })

  agree : (arguments : List Text) (ps : List PartView) (s : Stand) → HaveCharacters arguments → AreKnown options ps → has_empty ps ≡ false → IsStand ps s
      → Agrees options (filled_from options (reading_of ps s) arguments) (walk_of ps s) arguments
  agree [] ps (rests p ended) t ks f i = rests_end ps p ended ks f i
  agree [] ps (wants name) t ks f i = wanting_end options no_file ps name (place ps) i.0
  agree (argument ∷ arguments) ps s t ks f i = turn_by argument arguments ps s t.0 t.1 ks f i (λ qs q kqs g j. agree arguments qs q t.1 kqs g j)

  -- the same from the start
  pub agree_from_start : (arguments : List Text) → HaveCharacters arguments → Agrees options (filled_from options (record { parts = []; waits = None; ended = false }) arguments) (walk_at (held_at [] None) idle 1 false) arguments
  agree_from_start arguments t = agree arguments [] (rests None false) t tt refl tt
