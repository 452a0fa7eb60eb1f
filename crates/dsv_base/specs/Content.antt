-- One content under every name.
use Rattle.std.specs.Prelude.{ℕ, List}

-- What silent files are seen as: the content, and how many bytes fetches gave of it.
pub record Content : Type 0 where
  pub bytes : List ℕ
  pub came : ℕ
