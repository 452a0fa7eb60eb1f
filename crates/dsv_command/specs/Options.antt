-- The options of the command.
use Rattle.std.specs.Prelude.{ℕ, List, [], ◌∷◌, Bool, true, false, codes}

-- the name of each, and whether it takes a value
abbrev pub command_options : List (List ℕ × Bool)
command_options =
    (codes "property", true) ∷
    (codes "x-size", true) ∷
    (codes "unbounded", false) ∷
    (codes "gain", false) ∷
    (codes "conflicts", true) ∷
    (codes "formula", false) ∷
    (codes "schur-cohn", false) ∷
    (codes "certificate", false) ∷
    (codes "check", true) ∷
    (codes "simulate", true) ∷
    (codes "sections", true) ∷
    (codes "state-space", true) ∷
    (codes "form", true) ∷
    (codes "lyapunov", false) ∷
    (codes "ellipsoid", true) ∷
    (codes "offer-ellipsoid", false) ∷
    (codes "plant", true) ∷
    (codes "realization", true) ∷
    (codes "rounding", true) ∷
    (codes "overflow-mode", true) ∷
    (codes "generate", true) ∷
    (codes "count", true) ∷
    (codes "words", false) ∷
    (codes "inputs", true) ∷
    (codes "outputs", false) ∷
    (codes "emit-c", false) ∷
    (codes "c-name", true) ∷ []
