-- What a fetch answers.
use Rattle.std.specs.Prelude.{ℕ, Result, Ok, Err}
use Rattle.dsv_base.specs.declared.files.FetchEnd.{FetchEnd}
use Rattle.dsv_base.specs.declared.files.FetchEnd.TheVariants as fetch
use Rattle.dsv_base.specs.declared.files.ReadEnd.{ReadEnd}
use Rattle.dsv_base.specs.declared.files.ReadEnd.TheVariants as read

-- how many bytes came
abbrev pub count_of : Result ℕ FetchEnd → ℕ
count_of (Ok count) = count
count_of (Err end) = 0

-- how a read ends where a fetch ended without bytes
abbrev pub read_end_of : FetchEnd → ReadEnd
read_end_of fetch.Failed = read.Failed
read_end_of fetch.NoMemory = read.NoMemory
