-- What is read of a file's bytes.
use Rattle.std.specs.Prelude.{◌≡◌, ℕ, ◌≤◌, List, length, take, drop}

-- `got` has its first `count` bytes from the file's bytes after `at`; no bytes come only at the
-- end.
pub record IsChunk (file : List ℕ) (at count : ℕ) (got : List ℕ) : Type 0 where
  pub bytes : take count got ≡ take count (drop at file)
  pub end : count ≡ 0 → length file ≤ at
