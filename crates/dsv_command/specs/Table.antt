-- What the command is asked for, and what goes with what.
use Rattle.std.specs.Prelude.{ℕ, ℤ, List, [], ◌∷◌, Bool, true, false, codes}
use Rattle.dsv_names.specs.declared.design.Design.{Design}
use Rattle.dsv_names.specs.declared.property.RunProperty.{RunProperty}
use Rattle.dsv_names.specs.declared.property.RunProperty.TheVariants.{Overflow}
use Rattle.dsv_names.specs.declared.property.RootProperty.{RootProperty}
use Rattle.dsv_names.specs.declared.property.RootProperty.TheVariants.{Stability}
use Rattle.dsv_command.specs.declared.kind.Kind.{Kind}
use Rattle.dsv_command.specs.declared.kind.Kind.TheVariants as of_kind

-- what is asked about, by the names of its files
pub data JobFiles : Type 0 where
  -- the controller in a file
  controller : List ℕ → JobFiles
  -- a cascade: the controllers in several files in series, the first and the later ones
  cascade : List ℕ → List (List ℕ) → JobFiles
  -- the state-space controller in a file
  states : List ℕ → JobFiles
  -- the loop of the controller in a file with the plant in another
  plant_loop : List ℕ → List ℕ → JobFiles
  -- the loop of a cascade with the plant in the file that is named last
  cascade_loop : List ℕ → List (List ℕ) → List ℕ → JobFiles

-- what is asked
pub data Task : Type 0 where
  -- a property of its roots is decided; the flag: the Schur-Cohn form is offered before any
  -- proposer is asked, and tables decide if no form is accepted
  decides : RootProperty → Bool → Task
  -- it is decided whether the work of a sample is done in time
  checks_time : Task
  -- the formula of a property of its runs over so many samples is written
  writes : RunProperty → ℕ → Task
  -- a property of its runs over so many samples is decided, by a search with so many conflicts
  searches : RunProperty → ℕ → ℕ → Task
  -- it is decided that no list of inputs of any length overflows, by a set that its registers never
  -- leave; each search for what is wrong with a set that is offered has so many conflicts
  seeks_set : ℕ → Task
  -- it is decided by the gain whether any list of inputs, of any length, overflows
  measures_gain : Task
  -- it is run over these inputs; the flag: its outputs alone are written
  simulates : List ℤ → Bool → Task
  -- so it is over the inputs in the file of this name
  runs_file : List ℕ → Bool → Task
  -- its words are told, and no more is asked
  tells_words : Task
  -- its C is written, with names that begin so
  emits_code : List ℕ → Task
  -- so it is with a test that runs it over these inputs
  emits_test : List ℕ → List ℤ → Task
  -- so it is with a test over the inputs in the file that is named last
  emits_file_test : List ℕ → List ℕ → Task
  -- it is decided whether its states fall by the form of the certificate in the file of this name
  checks_form : List ℕ → Task
  -- so it is by a form that is sought
  seeks_form : Task
  -- the ellipsoid in the file of this name is to show that no list of inputs, of any length,
  -- overflows
  checks_ellipsoid : List ℕ → Task
  -- one is to be found that shows it, and written as such a file
  seeks_ellipsoid : Task

-- a task for what is in files, realised by a design, whether a certificate is to be written in
-- place of the report of a yes-answer, and whether the report tells its words
pub record Job : Type 0 where
  pub files : JobFiles
  pub task : Task
  pub design : Design
  pub certified : Bool
  pub worded : Bool

-- what a list of arguments asks for
pub data Request : Type 0 where
  does : Job → Request
  -- the certificate in the file that is named last is checked against what is in these files; the
  -- flag: the report tells their words
  checks : JobFiles → List ℕ → Bool → Request
  -- controllers of a seed are generated, so many, and what is found of them is counted
  generates : ℕ → ℕ → Request

-- ---- what goes with what

abbrev pub kind_of : JobFiles → Kind
kind_of (controller file) = of_kind.Controller
kind_of (cascade file later) = of_kind.Cascade
kind_of (states file) = of_kind.States
kind_of (plant_loop file plant) = of_kind.Loop
kind_of (cascade_loop file later plant) = of_kind.CascadeLoop

-- the tasks that there are of each kind
abbrev pub has_cell : Kind → Task → Bool
has_cell of_kind.Controller (checks_form name) = false
has_cell of_kind.Controller seeks_form = false
has_cell of_kind.Controller _ = true
has_cell of_kind.Cascade (decides Stability schur_cohn) = true
has_cell of_kind.Cascade (searches Overflow samples conflicts) = true
has_cell of_kind.Cascade measures_gain = true
has_cell of_kind.Cascade (simulates inputs outputs) = true
has_cell of_kind.Cascade (runs_file name outputs) = true
has_cell of_kind.Cascade tells_words = true
has_cell of_kind.Cascade (emits_code prefix) = true
has_cell of_kind.Cascade (emits_test prefix inputs) = true
has_cell of_kind.Cascade (emits_file_test prefix name) = true
has_cell of_kind.Cascade _ = false
has_cell of_kind.States (decides Stability true) = true
has_cell of_kind.States (checks_form name) = true
has_cell of_kind.States seeks_form = true
has_cell of_kind.States (searches property samples conflicts) = true
has_cell of_kind.States measures_gain = true
has_cell of_kind.States (simulates inputs outputs) = true
has_cell of_kind.States (runs_file name outputs) = true
has_cell of_kind.States tells_words = true
has_cell of_kind.States (emits_code prefix) = true
has_cell of_kind.States (emits_test prefix inputs) = true
has_cell of_kind.States (emits_file_test prefix name) = true
has_cell of_kind.States _ = false
has_cell of_kind.Loop (decides Stability schur_cohn) = true
has_cell of_kind.Loop tells_words = true
has_cell of_kind.Loop _ = false
has_cell of_kind.CascadeLoop (decides Stability schur_cohn) = true
has_cell of_kind.CascadeLoop tells_words = true
has_cell of_kind.CascadeLoop _ = false

-- of which a certificate may be written
abbrev pub may_certify : Kind → Task → Bool
may_certify of_kind.Controller (decides property schur_cohn) = true
may_certify of_kind.Controller (searches property samples conflicts) = true
may_certify of_kind.Controller (seeks_set conflicts) = true
may_certify of_kind.Controller measures_gain = true
may_certify of_kind.States seeks_form = true
may_certify of_kind.Loop (decides property schur_cohn) = true
may_certify _ _ = false

-- whose report tells its words if that is asked for: that of no certificate, and of no task that
-- writes a text of its own
abbrev pub may_word : Bool → Task → Bool
may_word true task = false
may_word false (writes property samples) = false
may_word false (simulates inputs true) = false
may_word false (runs_file name true) = false
may_word false seeks_ellipsoid = false
may_word false (emits_code prefix) = false
may_word false (emits_test prefix inputs) = false
may_word false (emits_file_test prefix name) = false
may_word false task = true

-- whose certificates are checked
abbrev pub is_checked : Kind → Bool
is_checked of_kind.Controller = true
is_checked of_kind.Loop = true
is_checked _ = false

-- the options that a task has
abbrev pub task_options : Task → List (List ℕ)
task_options (decides property schur_cohn) = codes "property" ∷ codes "schur-cohn" ∷ []
task_options checks_time = codes "property" ∷ []
task_options (writes property samples) =
    codes "property" ∷ codes "formula" ∷ codes "x-size" ∷ []
task_options (searches property samples conflicts) =
    codes "property" ∷ codes "x-size" ∷ codes "conflicts" ∷ []
task_options (seeks_set conflicts) = codes "property" ∷ codes "unbounded" ∷ codes "conflicts" ∷ []
task_options measures_gain = codes "property" ∷ codes "gain" ∷ []
task_options (simulates inputs outputs) = codes "simulate" ∷ codes "outputs" ∷ []
task_options (runs_file name outputs) = codes "inputs" ∷ codes "outputs" ∷ []
task_options tells_words = []
task_options (emits_code prefix) = codes "emit-c" ∷ codes "c-name" ∷ []
task_options (emits_test prefix inputs) =
    codes "emit-c" ∷ codes "c-name" ∷ codes "simulate" ∷ []
task_options (emits_file_test prefix name) =
    codes "emit-c" ∷ codes "c-name" ∷ codes "inputs" ∷ []
task_options (checks_form name) = codes "property" ∷ codes "form" ∷ []
task_options seeks_form = codes "property" ∷ codes "lyapunov" ∷ []
task_options (checks_ellipsoid name) =
    codes "property" ∷ codes "unbounded" ∷ codes "ellipsoid" ∷ []
task_options seeks_ellipsoid = codes "property" ∷ codes "offer-ellipsoid" ∷ []

-- all options of tasks
abbrev pub all_task_options : List (List ℕ)
all_task_options = codes "property" ∷ codes "simulate" ∷ codes "form" ∷ codes "lyapunov"
    ∷ codes "ellipsoid" ∷ codes "offer-ellipsoid" ∷ codes "gain" ∷ codes "unbounded"
    ∷ codes "formula" ∷ codes "x-size" ∷ codes "conflicts" ∷ codes "schur-cohn"
    ∷ codes "inputs" ∷ codes "outputs" ∷ codes "emit-c" ∷ codes "c-name" ∷ []

-- the options that name files beside FILE: those of what is asked about, and all
abbrev pub file_options : JobFiles → List (List ℕ)
file_options (controller file) = []
file_options (cascade file later) = codes "sections" ∷ []
file_options (states file) = codes "state-space" ∷ []
file_options (plant_loop file plant) = codes "plant" ∷ []
file_options (cascade_loop file later plant) = codes "sections" ∷ codes "plant" ∷ []

abbrev pub all_file_options : List (List ℕ)
all_file_options = codes "state-space" ∷ codes "sections" ∷ codes "plant" ∷ []

-- the options of how a controller is realised: state-space controllers have no realisation
abbrev pub all_design_options : List (List ℕ)
all_design_options = codes "realization" ∷ codes "rounding" ∷ codes "overflow-mode" ∷ []

abbrev pub design_options : Kind → List (List ℕ)
design_options of_kind.States = codes "rounding" ∷ codes "overflow-mode" ∷ []
design_options _ = all_design_options
