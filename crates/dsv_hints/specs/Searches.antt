-- What the answers of searches show.
use Rattle.std.specs.Prelude.{List}
use Rattle.dsv_hints.specs.declared.search.Searched.{Searched}
use Rattle.dsv_hints.specs.declared.search.Searched.TheVariants.{Never, Happens, Spent}
use Rattle.dsv_hints.specs.declared.step.Step.{Step}

-- the log of a search that found that it never happens has the fact
abbrev pub IfNever : {T : Type 0} → (List Step → Type 0) → Searched T → Type 0
IfNever P (Never log) = P log
IfNever P (Happens found) = Unit {0}
IfNever P (Spent log) = Unit {0}

-- what was found has the fact
abbrev pub IfHappens : {T : Type 0} → (T → Type 0) → Searched T → Type 0
IfHappens P (Never log) = Unit {0}
IfHappens P (Happens found) = P found
IfHappens P (Spent log) = Unit {0}

-- the log of a search that gave up has the fact
abbrev pub IfSpent : {T : Type 0} → (List Step → Type 0) → Searched T → Type 0
IfSpent P (Never log) = Unit {0}
IfSpent P (Happens found) = Unit {0}
IfSpent P (Spent log) = P log
