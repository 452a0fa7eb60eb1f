-- What files and sinks tell of themselves.
use Rattle.std.specs.Prelude.{◌≡◌, ℕ, ◌≤◌, List, Option, IfSome}

-- The bytes of the file of each name, where they are told; how many fetches failed; the name of the
-- last fetch that failed, where one did and it is told; how many bytes came from all fetches. No
-- fetch makes a count less.
pub record FilesSeen : Type 0 where
  pub held : List ℕ → Option (List ℕ)
  pub faults : ℕ
  pub blamed : Option (List ℕ)
  pub came : ℕ

-- The bytes that were taken, where they are told; how many puts failed, which no put makes less.
pub record SinkSeen : Type 0 where
  pub taken : Option (List ℕ)
  pub faults : ℕ

-- This holds of some bytes: those of the file, where these are told.
abbrev pub CameOf : Option (List ℕ) → (List ℕ → Type 0) → Type 0
CameOf told holds = (bytes : List ℕ) × IfSome told (λ file. bytes ≡ file) × holds bytes

-- What the files hold is as before, and the count of faults didn't fall.
pub record AreKept (old new : FilesSeen) : Type 0 where
  pub held : new.held ≡ old.held
  pub faults : old.faults ≤ new.faults
