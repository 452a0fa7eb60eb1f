-- The job line and the kind line, one stage after another.
use Rattle.std.proofs.Common.{◌≡◌, ap, sym, ℕ, List, Result, Ok, Err, refl}
use Rattle.dsv_text.specs.Stages.{◌>>=◌}
use Rattle.dsv_names.specs.declared.property.Property.{Property}
use Rattle.dsv_names.specs.declared.realisation.Realisation.{Realisation}
use Rattle.dsv_names.specs.declared.rounding.Rounding.{Rounding}
use Rattle.dsv_names.specs.declared.overflow_mode.OverflowMode.{OverflowMode}
use Rattle.dsv_certfile.specs.Headings.{of_job, head_in}
use Rattle.dsv_certfile.specs.declared.fault.TextFault.{TextFault}
use Rattle.dsv_certfile.specs.declared.job.CertWords.TheVariants as words
use Rattle.dsv_certfile.specs.declared.job.CertifiedJob.{CertifiedJob}
use Rattle.dsv_certfile.specs.declared.job.Size.{Size}
use Rattle.dsv_certfile.specs.declared.kind.Kind.{Kind}
use Rattle.dsv_certfile.specs.declared.kind.KindHead.{KindHead}

-- ---- the job line
abbrev pub job_from : Result (Unit {0}) TextFault → Result Property TextFault → Result Realisation TextFault → Result Rounding TextFault
    → Result OverflowMode TextFault → Result Size TextFault → Result CertifiedJob TextFault
job_from b p r o m s =
    b >>= λ _. p >>= λ p. r >>= λ r. o >>= λ o. m >>= λ m. s >>= λ s.
    Ok (record { property = p; design = record { realisation = r; rounding = o; overflow = m }; words = words.Unsaid; size = s })

pub no_mode : (b : Result (Unit {0}) TextFault) (p : Result Property TextFault) (r : Result Realisation TextFault) (o : Result Rounding TextFault)
    (m : Result OverflowMode TextFault) (s : Result Size TextFault) (x : Property) (y : Realisation) (z : Rounding) (why : TextFault)
    → b ≡ Ok tt → p ≡ Ok x → r ≡ Ok y → o ≡ Ok z → m ≡ Err why → job_from b p r o m s ≡ Err why
no_mode b p r o m s x y z why hb hp hr ho hm = rw (hb, hp, hr, ho, hm) refl

pub no_size : (b : Result (Unit {0}) TextFault) (p : Result Property TextFault) (r : Result Realisation TextFault) (o : Result Rounding TextFault)
    (m : Result OverflowMode TextFault) (s : Result Size TextFault) (x : Property) (y : Realisation) (z : Rounding) (w : OverflowMode) (why : TextFault)
    → b ≡ Ok tt → p ≡ Ok x → r ≡ Ok y → o ≡ Ok z → m ≡ Ok w → s ≡ Err why → job_from b p r o m s ≡ Err why
no_size b p r o m s x y z w why hb hp hr ho hm hs = rw (hb, hp, hr, ho, hm, hs) refl

pub whole_job : (b : Result (Unit {0}) TextFault) (p : Result Property TextFault) (r : Result Realisation TextFault) (o : Result Rounding TextFault)
    (m : Result OverflowMode TextFault) (s : Result Size TextFault) (x : Property) (y : Realisation) (z : Rounding) (w : OverflowMode) (v : Size)
    → b ≡ Ok tt → p ≡ Ok x → r ≡ Ok y → o ≡ Ok z → m ≡ Ok w → s ≡ Ok v
    → job_from b p r o m s ≡ Ok (record { property = x; design = record { realisation = y; rounding = z; overflow = w }; words = words.Unsaid; size = v })
whole_job b p r o m s x y z w v hb hp hr ho hm hs = rw (hb, hp, hr, ho, hm, hs) refl

-- ---- the kind line
abbrev pub kind_from : CertifiedJob → Result (Unit {0}) TextFault → Result Kind TextFault → List (List ℕ) → Result KindHead TextFault
kind_from job b n rest = b >>= λ _. n >>= λ k. of_job job k >>= λ k. head_in k rest

pub whole_kind : (job : CertifiedJob) (b : Result (Unit {0}) TextFault) (n : Result Kind TextFault) (rest : List (List ℕ)) (k l : Kind)
    → b ≡ Ok tt → n ≡ Ok k → of_job job k ≡ Ok l → head_in l rest ≡ kind_from job b n rest
whole_kind job b n rest k l hb hn ho = rw (hb, hn) (ap (λ (r : Result Kind TextFault). r >>= λ k. head_in k rest) (sym ho))
