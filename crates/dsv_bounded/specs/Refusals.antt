-- When bounded jobs are refused.
use Rattle.std.specs.Prelude.{◌≡◌, ℕ, ◌<◌, ◌≤◌, Result, Ok, Err}
use Rattle.dsv_unroll.specs.Goals.{most_size}
use Rattle.dsv_bounded.specs.declared.refusals.BoundedRefusal.{BoundedRefusal}
use Rattle.dsv_bounded.specs.declared.refusals.BoundedRefusal.TheVariants as refusal
use Rattle.dsv_bounded.specs.declared.refusals.TooLarge.{TooLarge}

-- the job is refused exactly where its size is too great, and told that size
abbrev pub IsWeighed : {A : Type 0} → ℕ → Result A TooLarge → Type 0
IsWeighed size (Ok taken) = size ≤ most_size
IsWeighed size (Err job) = (job.size ≡ size) × (most_size < size)

-- the job is refused for its size exactly where that is too great, want of memory aside
abbrev pub IsSized : {A : Type 0} → ℕ → Result A BoundedRefusal → Type 0
IsSized size (Ok found) = size ≤ most_size
IsSized size (Err (refusal.JobSize given)) = (given ≡ size) × (most_size < size)
IsSized size (Err refusal.NoMemory) = Unit {0}
