-- The walk of clap over arguments, and where it ends in a refusal.
use Rattle.std.proofs.Common.{◌≡◌, ◌∙◌, ℕ, Bool, true, false, cond, ◌||◌, ◌⊎◌, inl, inr, List, [], ◌∷◌, ◌++◌, Option, Some, None, refl, sym, ap, subst, fold, option_and_then}
use Rattle.std.specs.Map.{lookup}
use Rattle.std.specs.Str.{bytes_eq}
use Rattle.std.proofs.Math.Bool.{or-false}
use Rattle.std.proofs.lemmas.List.Folds.{list_any-append}
use Rattle.clap.specs.Walk.{Held, Row, Rule, Text, Waiting, Walk, idle, option, finished, settled, walked}
use Rattle.clap.specs.Faults.{check_fault, defaults_fault, settle_fault, turn_fault, walk_fault}
use Rattle.clap.specs.Kinds.{Kinds, or_else}
use Rattle.dsv_command.specs.ClapCommand.{filled}
use Rattle.dsv_command.specs.Parts.{PartView, file, flag, choice, Key, for_file, for_option, key_of, has_key, is_empty_part, has_empty}
use Rattle.dsv_command.specs.Reading.{Reading, once, gives, meet, meet_known, meet_shape, read_from, finish}
use Rattle.dsv_command.specs.Shapes.{ShapeView, plain, stop, long, dashed, shape_of}
use Rattle.dsv_command.proofs.ClapRules.{Options, built_rules, built_shape}
use Rattle.dsv_command.proofs.ClapUses.{AreKnown, HasNoFile, held_at, settle_fault_at, settle_wanting, use_kinds}
use Rattle.dsv_command.proofs.ClapLooks.{HaveCharacters, HasCharacters, Looks, looks}
use Rattle.dsv_command.proofs.ClapTurns.{Fault, alone_turn, dashed_turn, file_turn, flag_turn, flag_value, first_none, joined_turn, late_turn, not_none, plain_stray, stop_turn, stop_walked, stray_turn, unknown, walk_at, wanted_turn, wanted_walked}

-- ---- an empty text stays among the parts

more_empty : (ps : List PartView) (p : PartView) → has_empty ps ≡ true → has_empty (ps ++ p ∷ []) ≡ true
more_empty ps p e = list_any-append is_empty_part ps (p ∷ []) ∙ ap (λ b. b || has_empty (p ∷ [])) e

-- the last part tells where no other text is empty
pub last_empty : (ps : List PartView) (p : PartView) → has_empty ps ≡ false → has_empty (ps ++ p ∷ []) ≡ is_empty_part p
last_empty ps p e = list_any-append is_empty_part ps (p ∷ []) ∙ ap (λ b. b || has_empty (p ∷ [])) e ∙ or-false (is_empty_part p)

abbrev StaysEmpty : Option Reading → Type 0
StaysEmpty None = Unit {0}
StaysEmpty (Some next) = has_empty next.parts ≡ true

once_stays : (key : Key) (r next : Reading) → has_empty next.parts ≡ true → StaysEmpty (once key r next)
once_stays key r next h = elim (has_key key r.parts) as (λ b. StaysEmpty (cond b None (Some next))) [ true ↦ tt | false ↦ h ]

gives_stays : (p : PartView) (r : Reading) → has_empty r.parts ≡ true → StaysEmpty (gives p r)
gives_stays p r h = once_stays (key_of p) r (record r { parts = r.parts ++ p ∷ []; waits = None }) (more_empty r.parts p h)

known_stays : (takes_value : Option Bool) (name : Text) (value : Option Text) (r : Reading) → has_empty r.parts ≡ true → StaysEmpty (meet_known takes_value name value r)
known_stays (Some true) name (Some value) r h = gives_stays (choice name value) r h
known_stays (Some true) name None r h = once_stays (for_option name) r (record r { waits = Some name }) h
known_stays (Some false) name None r h = gives_stays (flag name) r h
known_stays (Some false) name (Some value) r h = tt
known_stays None name value r h = tt

shape_stays : (options : Options) (shape : ShapeView) (waits : Option Text) (argument : Text) (r : Reading) → has_empty r.parts ≡ true → StaysEmpty (meet_shape options shape waits argument r)
shape_stays options plain None argument r h = gives_stays (file argument) r h
shape_stays options plain (Some name) argument r h = gives_stays (choice name argument) r h
shape_stays options stop None argument r h = h
shape_stays options stop (Some name) argument r h = tt
shape_stays options (long name value) None argument r h = known_stays (lookup (bytes_eq name) options) name value r h
shape_stays options (long name value) (Some n) argument r h = tt
shape_stays options dashed None argument r h = tt
shape_stays options dashed (Some n) argument r h = tt

meet_stays : (options : Options) (r : Reading) (argument : Text) → has_empty r.parts ≡ true → StaysEmpty (meet options r argument)
meet_stays options r argument h = elim r.ended as (λ b. StaysEmpty (cond b (gives (file argument) r) (meet_shape options (shape_of argument) r.waits argument r))) [
  | true ↦ gives_stays (file argument) r h
  | false ↦ shape_stays options (shape_of argument) r.waits argument r h
]

-- what the arguments give from here on, where no text is empty
abbrev pub filled_from : Options → Reading → List Text → Option (List PartView)
filled_from options r arguments = option_and_then filled (read_from options r arguments)

finish_empty : (waits : Option Text) (r : Reading) → has_empty r.parts ≡ true → option_and_then filled (finish waits r) ≡ None
finish_empty None r h = rw h refl
finish_empty (Some name) r h = refl

next_empty : (options : Options) (arguments : List Text) (next : Option Reading) → StaysEmpty next → ((r : Reading) → has_empty r.parts ≡ true → filled_from options r arguments ≡ None)
    → option_and_then filled (option_and_then (λ r. read_from options r arguments) next) ≡ None
next_empty options arguments None h later = refl
next_empty options arguments (Some r) h later = later r h

pub never_filled : (options : Options) (arguments : List Text) (r : Reading) → has_empty r.parts ≡ true → filled_from options r arguments ≡ None
never_filled options [] r h = finish_empty r.waits r h
never_filled options (argument ∷ arguments) r h = next_empty options arguments (meet options r argument) (meet_stays options r argument h) (never_filled options arguments)

-- ---- the walk and its end

abbrev pub tail_fault : Options → Walk → Kinds
tail_fault options w = or_else (settle_fault (built_rules options) false w.held)
    (or_else (defaults_fault (settled (built_rules options) w.held).rows (built_rules options)) (check_fault (built_shape options) (finished (built_rules options) w.held) false))

abbrev pub end_of : Options → Walk → List Text → Walk
end_of options w arguments = fold (walked (built_rules options) []) w arguments

abbrev pub run_fault : Options → Walk → List Text → Kinds
run_fault options w arguments = or_else (walk_fault (built_shape options) [] w arguments) (tail_fault options (end_of options w arguments))

-- clap refuses the arguments from here on
abbrev pub Fails : Options → Walk → List Text → Type 0
Fails options w arguments = Fault (run_fault options w arguments)

-- the rows that clap has in the end, but for defaults
abbrev pub end_rows : Options → Walk → List Text → List Row
end_rows options w arguments = (settled (built_rules options) (end_of options w arguments).held).rows

pub run_bad : (options : Options) (w : Walk) (argument : Text) (arguments : List Text) → Fault (turn_fault (built_shape options) [] w argument) → Fails options w (argument ∷ arguments)
unfolding walk_fault
run_bad options w argument arguments bad e = bad (first_none _ _ (first_none _ _ e))

pub run_ok : (options : Options) (w next : Walk) (argument : Text) (arguments : List Text) → turn_fault (built_shape options) [] w argument ≡ [] → walked (built_rules options) [] w argument ≡ next
    → run_fault options w (argument ∷ arguments) ≡ run_fault options next arguments
unfolding walk_fault
run_ok options w next argument arguments ok e =
    ap (λ (k : Kinds). or_else (or_else k (walk_fault (built_shape options) [] (walked (built_rules options) [] w argument) arguments)) (tail_fault options (end_of options (walked (built_rules options) [] w argument) arguments))) ok
    ∙ ap (λ (x : Walk). run_fault options x arguments) e

pub fails_next : (options : Options) (w next : Walk) (argument : Text) (arguments : List Text) → turn_fault (built_shape options) [] w argument ≡ [] → walked (built_rules options) [] w argument ≡ next
    → Fails options next arguments → Fails options w (argument ∷ arguments)
fails_next options w next argument arguments ok e bad = λ z. bad (sym (run_ok options w next argument arguments ok e) ∙ z)

fails_end : (options : Options) (w : Walk) → Fault (settle_fault (built_rules options) false w.held) → Fails options w []
unfolding walk_fault
fails_end options w bad = λ z. bad (first_none _ _ z)

-- ---- what is pending can't be used

abbrev pub IsPlace : ℕ → Type 0
IsPlace n = (n ≡ 1) ⊎ (n ≡ 2)

-- the place of the next argument without a name
abbrev pub place : List PartView → ℕ
place ps = cond (has_key for_file ps) 2 1

pub is_place : (ps : List PartView) → IsPlace (place ps)
is_place ps = elim (has_key for_file ps) as (λ b. IsPlace (cond b 2 1)) [ true ↦ inr refl | false ↦ inl refl ]

module _ (options : Options) (no_file : HasNoFile options) where
  abbrev rules : List Rule
  rules = built_rules options

  -- another option comes where what is pending can't be used
  pub long_refused : (h : Held) (w : Waiting) (n : ℕ) (argument name : Text) (value : Option Text) (takes_value : Option Bool) → lookup (bytes_eq name) options ≡ takes_value
      → Fault (settle_fault rules false h) → Looks (long name value) argument → Fault (turn_fault (built_shape options) [] (walk_at h w n false) argument)
  long_refused h w n argument name value None k bad l = not_none (unknown options h w n argument name value k l)
  long_refused h w n argument name (Some value) (Some true) k bad l = λ z. bad (first_none _ _ (sym (joined_turn options h w n argument name value k l) ∙ z))
  long_refused h w n argument name None (Some true) k bad l = λ z. bad (sym (alone_turn options h w n argument name k l) ∙ z)
  long_refused h w n argument name (Some value) (Some false) k bad l = not_none (flag_value options h w n argument name value k l)
  long_refused h w n argument name None (Some false) k bad l = λ z. bad (first_none _ _ (sym (flag_turn options h w n argument name k l) ∙ z))

  -- after `--`
  pub doomed_late : (arguments : List Text) (h : Held) (w : Waiting) (n : ℕ) → IsPlace n → Fault (settle_fault rules false h) → Fails options (walk_at h w n true) arguments
  doomed_late [] h w n i bad = fails_end options (walk_at h w n true) bad
  doomed_late (argument ∷ arguments) h w n (inl i) bad = run_bad options _ argument arguments (subst (λ m. Fault (turn_fault (built_shape options) [] (walk_at h w m true) argument)) (sym i) (λ z. bad (sym (late_turn options h argument w) ∙ z)))
  doomed_late (argument ∷ arguments) h w n (inr i) bad = run_bad options _ argument arguments (subst (λ m. Fault (turn_fault (built_shape options) [] (walk_at h w m true) argument)) (sym i) (not_none (stray_turn options h argument w)))

  -- no option waits
  pub doomed : (arguments : List Text) (ps : List PartView) (pending : Option (Text × List Text)) (n : ℕ) → HaveCharacters arguments → IsPlace n → Fault (settle_fault rules false (held_at ps pending))
      → Fails options (walk_at (held_at ps pending) idle n false) arguments
  doomed [] ps pending n t i bad = fails_end options (walk_at (held_at ps pending) idle n false) bad
  doomed (argument ∷ arguments) ps pending n t i bad = by_shape (shape_of argument) (looks argument)
    where
      by_shape : (shape : ShapeView) → Looks shape argument → Fails options (walk_at (held_at ps pending) idle n false) (argument ∷ arguments)
      by_shape plain l = elim i [
        | inl e ↦ run_bad options _ argument arguments (subst (λ m. Fault (turn_fault (built_shape options) [] (walk_at (held_at ps pending) idle m false) argument)) (sym e) (λ z. bad (sym (file_turn options (held_at ps pending) argument false l) ∙ z)))
        | inr e ↦ run_bad options _ argument arguments (subst (λ m. Fault (turn_fault (built_shape options) [] (walk_at (held_at ps pending) idle m false) argument)) (sym e) (not_none (plain_stray options (held_at ps pending) argument l)))
      ]
      by_shape stop l = fails_next options _ _ argument arguments (stop_turn options idle n argument (held_at ps pending) l) (stop_walked options idle n argument (held_at ps pending) l)
          (doomed_late arguments (held_at ps pending) idle n i bad)
      by_shape (long name value) l = run_bad options _ argument arguments (long_refused (held_at ps pending) idle n argument name value (lookup (bytes_eq name) options) refl bad l)
      by_shape dashed l = run_bad options _ argument arguments (not_none (dashed_turn options ps pending idle n argument t.0 l))

  -- an option waits for its value
  abbrev pub wanting : List PartView → Text → ℕ → Walk
  wanting ps name n = walk_at (held_at ps (Some (name, []))) (option name) n false

  -- no value comes
  pub wanting_bad : (argument : Text) (arguments : List Text) (ps : List PartView) (name : Text) (n : ℕ) (shape : ShapeView) → (shape ≡ plain → ⊥) → IsPlace n → lookup (bytes_eq name) options ≡ Some true
      → HasCharacters argument → Looks shape argument → Fails options (wanting ps name n) (argument ∷ arguments)
  wanting_bad argument arguments ps name n plain other i k t l = absurd (other refl)
  wanting_bad argument arguments ps name n stop other i k t l =
      fails_next options _ _ argument arguments (stop_turn options (option name) n argument (held_at ps (Some (name, []))) l) (stop_walked options (option name) n argument (held_at ps (Some (name, []))) l)
      (doomed_late arguments (held_at ps (Some (name, []))) (option name) n i (not_none (settle_wanting options ps name no_file k)))
  wanting_bad argument arguments ps name n (long other_name value) other i k t l =
      run_bad options _ argument arguments (long_refused (held_at ps (Some (name, []))) (option name) n argument other_name value (lookup (bytes_eq other_name) options) refl (not_none (settle_wanting options ps name no_file k)) l)
  wanting_bad argument arguments ps name n dashed other i k t l = run_bad options _ argument arguments (not_none (dashed_turn options ps (Some (name, [])) (option name) n argument t l))

  pub wanting_end : (ps : List PartView) (name : Text) (n : ℕ) → lookup (bytes_eq name) options ≡ Some true → Fails options (wanting ps name n) []
  wanting_end ps name n k = fails_end options (wanting ps name n) (not_none (settle_wanting options ps name no_file k))

  -- the option that waits was given before
  pub wanting_again : (arguments : List Text) (ps : List PartView) (name : Text) (n : ℕ) → HaveCharacters arguments → IsPlace n → AreKnown options ps → lookup (bytes_eq name) options ≡ Some true
      → has_key (for_option name) ps ≡ true → Fails options (wanting ps name n) arguments
  wanting_again [] ps name n t i ks k e = wanting_end ps name n k
  wanting_again (argument ∷ arguments) ps name n t i ks k e = by_shape (shape_of argument) (looks argument)
    where
      by_shape : (shape : ShapeView) → Looks shape argument → Fails options (wanting ps name n) (argument ∷ arguments)
      by_shape plain l = fails_next options _ _ argument arguments (wanted_turn options ps n argument name no_file k l) (wanted_walked options ps n argument name no_file k l)
          (doomed arguments ps (Some (name, argument ∷ [])) n t.1 i
          (not_none (settle_fault_at options ps (choice name argument) no_file ks k ∙ ap (λ b. use_kinds b (is_empty_part (choice name argument))) e)))
      by_shape stop l = wanting_bad argument arguments ps name n stop (λ z. cc) i k t.0 l
      by_shape (long other value) l = wanting_bad argument arguments ps name n (long other value) (λ z. cc) i k t.0 l
      by_shape dashed l = wanting_bad argument arguments ps name n dashed (λ z. cc) i k t.0 l
