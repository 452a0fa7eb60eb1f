-- The kinds of certificates: their names, and the jobs that they belong to.
use Rattle.std.specs.Prelude.{ℕ, Bool, true, false, List, [], ◌∷◌, codes}
use Rattle.dsv_names.specs.declared.property.RunProperty.TheVariants as run
use Rattle.dsv_names.specs.declared.property.RootProperty.TheVariants as root
use Rattle.dsv_names.specs.declared.property.Property.{Property}
use Rattle.dsv_names.specs.declared.property.Property.TheVariants as property
use Rattle.dsv_certfile.specs.declared.job.Size.{Size}
use Rattle.dsv_certfile.specs.declared.job.Size.TheVariants as size
use Rattle.dsv_certfile.specs.declared.job.CertifiedJob.{CertifiedJob}
use Rattle.dsv_certfile.specs.declared.kind.Kind.{Kind}
use Rattle.dsv_certfile.specs.declared.kind.Kind.TheVariants as kind

abbrev pub kind_name : Kind → List ℕ
kind_name kind.Hints = codes "hints"
kind_name kind.Invariant = codes "invariant"
kind_name kind.Gain = codes "gain"
kind_name kind.Error = codes "error"
kind_name kind.Falls = codes "falls"
kind_name kind.Table = codes "table"

abbrev pub kinds : List Kind
kinds = kind.Hints ∷ kind.Invariant ∷ kind.Gain ∷ kind.Error ∷ kind.Falls ∷ kind.Table ∷ []

-- A log shows a property of bounded runs, an invariant or a gain, with a box or without, that no
-- run overflows, a falling form or a table a property of roots, a table the stability of a loop. No
-- kind shows that a sample is in time.
abbrev pub is_kind_for : Property → Size → Kind → Bool
is_kind_for (property.OfRuns p) (size.Samples k) kind.Hints = true
is_kind_for (property.OfRuns run.Overflow) size.Unbounded kind.Invariant = true
is_kind_for (property.OfRuns run.Overflow) size.Unbounded kind.Gain = true
is_kind_for (property.OfRuns run.Overflow) size.Unbounded kind.Error = true
is_kind_for (property.OfRoots p) size.NoSize kind.Falls = true
is_kind_for (property.OfRoots p) size.NoSize kind.Table = true
is_kind_for (property.OfRoots root.Stability) size.OfLoop kind.Table = true
is_kind_for p s k = false

-- the kind belongs to the job
abbrev pub is_kind_of : CertifiedJob → Kind → Bool
is_kind_of job k = is_kind_for job.property job.size k
