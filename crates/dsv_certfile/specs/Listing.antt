-- Scaffolding, which private contracts alone cite: the lists of a step, piece by piece.
use Rattle.std.specs.Prelude.{◌≡◌, ℕ, List, [], Option, Result, Ok, Err, Vec}
use Rattle.std.specs.declared.alloc.Global.{Global}
use Rattle.dsv_certfile.specs.Answers.{LineRefuses}
use Rattle.dsv_certfile.specs.Steps.{entries_from}
use Rattle.dsv_certfile.specs.declared.fault.LineRefusal.{LineRefusal}

-- The result has the entries up to the 0 and the new pieces are those after it, or it is the fault
-- that is meant, or there was no memory.
abbrev pub ListsUpTo : {X : Type 0} → (List ℕ → Option X) → List (List ℕ)
    → Result (Vec X Global) LineRefusal → List (List ℕ) → Type 0
ListsUpTo entry old (Ok xs) new =
    entries_from entry [] old ≡ Ok (record { entries = xs.items; left = new })
ListsUpTo entry old (Err why) new = LineRefuses why (entries_from entry [] old)
