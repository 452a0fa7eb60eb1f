-- Which programs are read back: their names are declared, and their numbers have 64 bits.
use Rattle.std.proofs.Common.{◌≡◌, ℕ, ◌+◌, ◌^◌, ◌<◌, ◌≤◌, List, [], ◌∷◌, length}
use Rattle.std.specs.Int.RustNames.{unsigned_abs}
use Rattle.std.specs.List.{All}
use Rattle.dsv_c.specs.Programs.{functions_for}
use Rattle.dsv_c.specs.Syntax.{Helper, Expr, Constant, Local, Member, Cast, Times, Plus, Minus, Over, Mask, Flip, Choice, Call, Declaration, Store, Program}
use Rattle.dsv_word.specs.Words.{width}
use Rattle.dsv_word.specs.declared.format.Format.{Format}

-- so many locals and members are declared
abbrev pub IsReadable : ℕ → ℕ → Expr → Type 0
IsReadable n m (Constant c) = unsigned_abs c < 2 ^ 63
IsReadable n m (Local k) = k < n
IsReadable n m (Member k) = k < m
IsReadable n m (Cast t e) = IsReadable n m e
IsReadable n m (Times a b) = IsReadable n m a × IsReadable n m b
IsReadable n m (Plus a b) = IsReadable n m a × IsReadable n m b
IsReadable n m (Minus a b) = IsReadable n m a × IsReadable n m b
IsReadable n m (Over e k) = IsReadable n m e × (k < 63)
IsReadable n m (Mask e k) = IsReadable n m e × (k < 63)
IsReadable n m (Flip e k) = IsReadable n m e × (k < 63)
IsReadable n m (Choice a b c d) = IsReadable n m a × IsReadable n m b × IsReadable n m c × IsReadable n m d
IsReadable n m (Call h e) = IsReadable n m e

-- the locals, before which n stand
abbrev pub AreReadable : ℕ → ℕ → List Declaration → Type 0
AreReadable n m [] = Unit {0}
AreReadable n m (d ∷ ds) = IsReadable n m d.value × AreReadable (n + 1) m ds

pub record IsReadableStore (n m : ℕ) (s : Store) : Type 0 where
  pub member : s.member < m
  pub value : IsReadable n m s.value

-- the helper functions are those of some format that has a word of at most 62 bits, or there are
-- none
pub record AreHelpers (p : Program) : Type 0 where
  pub format : Format
  pub called : List Helper
  pub functions : p.functions ≡ functions_for format called
  pub small : 1 ≤ length p.functions → width format < 63

pub record IsReadableProgram (m : ℕ) (p : Program) : Type 0 where
  pub helpers : AreHelpers p
  pub start : All (IsReadableStore 0 m) p.start
  pub locals : AreReadable 1 m p.locals
  pub stores : All (IsReadableStore (length p.locals + 1) m) p.stores
  pub value : IsReadable (length p.locals + 1) m p.value
