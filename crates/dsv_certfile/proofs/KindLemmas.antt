-- A gain with a box belongs to the jobs that a gain belongs to.
use Rattle.std.proofs.Common.{◌≡◌, refl}
use Rattle.dsv_names.specs.declared.property.RunProperty.TheVariants as run
use Rattle.dsv_names.specs.declared.property.RootProperty.TheVariants as root
use Rattle.dsv_names.specs.declared.property.Property.{Property}
use Rattle.dsv_names.specs.declared.property.Property.TheVariants as property
use Rattle.dsv_certfile.specs.Kinds.{is_kind_for, is_kind_of}
use Rattle.dsv_certfile.specs.declared.job.CertifiedJob.{CertifiedJob}
use Rattle.dsv_certfile.specs.declared.job.Size.{Size}
use Rattle.dsv_certfile.specs.declared.job.Size.TheVariants as size
use Rattle.dsv_certfile.specs.declared.kind.Kind.TheVariants as kind

one_kind_for : (p : Property) (s : Size) → is_kind_for p s kind.Error ≡ is_kind_for p s kind.Gain
one_kind_for (property.OfRuns run.Overflow) size.NoSize = refl
one_kind_for (property.OfRuns run.Overflow) (size.Samples k) = refl
one_kind_for (property.OfRuns run.Overflow) size.Unbounded = refl
one_kind_for (property.OfRuns run.Overflow) size.OfLoop = refl
one_kind_for (property.OfRuns run.LimitCycle) size.NoSize = refl
one_kind_for (property.OfRuns run.LimitCycle) (size.Samples k) = refl
one_kind_for (property.OfRuns run.LimitCycle) size.Unbounded = refl
one_kind_for (property.OfRuns run.LimitCycle) size.OfLoop = refl
one_kind_for (property.OfRoots root.Stability) size.NoSize = refl
one_kind_for (property.OfRoots root.Stability) (size.Samples k) = refl
one_kind_for (property.OfRoots root.Stability) size.Unbounded = refl
one_kind_for (property.OfRoots root.Stability) size.OfLoop = refl
one_kind_for (property.OfRoots root.MinimumPhase) size.NoSize = refl
one_kind_for (property.OfRoots root.MinimumPhase) (size.Samples k) = refl
one_kind_for (property.OfRoots root.MinimumPhase) size.Unbounded = refl
one_kind_for (property.OfRoots root.MinimumPhase) size.OfLoop = refl
one_kind_for property.Timing s = refl

pub one_kind : (job : CertifiedJob) → is_kind_of job kind.Error ≡ is_kind_of job kind.Gain
one_kind job = one_kind_for job.property job.size
