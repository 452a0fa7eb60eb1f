-- The refusal of another format comes of the comparison alone, and that of a loop only beside a plant.
use Rattle.std.proofs.Common.{◌≡◌, ℕ, ◌+◌, Bool, true, false, refl, subst, sym, Option, None, Err, Ok}
use Rattle.std.specs.Prelude.{◌==◌, ◌&&◌, nat_le, if◌then◌else◌}
use Rattle.dsv_reader.specs.Controllers.{ControllerView}
use Rattle.dsv_reader.specs.Plants.{PlantView}
use Rattle.dsv_loop.specs.declared.refusal.LoopRefusal.{LoopRefusal}
use Rattle.dsv_certfile.specs.Limits.{narrow_word_bits}
use Rattle.dsv_certfile.specs.Texts.{job_of}
use Rattle.dsv_certfile.specs.declared.certificate.Certificate.{Certificate}
use Rattle.dsv_certfile.specs.declared.fault.CheckFault.TheVariants as fault
use Rattle.dsv_certfile.specs.declared.job.CertWords.{CertWords}
use Rattle.dsv_certfile.specs.declared.job.CertWords.TheVariants as words
use Rattle.dsv_certcheck.specs.Checks.{Checked, refused, format_check}
use Rattle.dsv_certcheck.specs.Found.{IsFoundAfter}
use Rattle.dsv_certcheck.specs.Laws.{AreOfFormats, NoLoopIsRefused}
use Rattle.dsv_certcheck.specs.LineNumbers.{version_line_number, format_line_number}
use Rattle.dsv_certcheck.specs.declared.check_refusal.CheckRefusal.TheVariants as refusal
use Rattle.dsv_certcheck.proofs.WordsFound.{IsOfWords, found_has}

-- ---- formats
after : (c : ControllerView) (plant : Option PlantView) (cert : Certificate) (line : ℕ) (format : Checked) → IsFoundAfter format c plant cert (refused line fault.Format) → format ≡ refused line fault.Format
after c plant cert line (Err why) k = sym k
after c plant cert line (Ok u) k = absurd (subst (IsOfWords plant) k.checked (found_has k.quantised c.sample_time plant cert))

pub formats_are_compared : AreOfFormats
formats_are_compared c plant cert line = (
  λ k. after c plant cert line (format_check c (job_of cert).words) k,
  λ e. subst (λ (r : Checked). IsFoundAfter r c plant cert (refused line fault.Format)) (sym e) refl,
)

-- ---- loops
abbrev IsNoLoop : Checked → Type 0
IsNoLoop (Err (refusal.Loop why)) = ⊥
IsNoLoop other = Unit {0}

either : (b : Bool) (x y : Checked) → IsNoLoop x → IsNoLoop y → IsNoLoop (if b then x else y)
either true x y h k = h
either false x y h k = k

of_format : (c : ControllerView) (w : CertWords) → IsNoLoop (format_check c w)
of_format c words.Unsaid = either (nat_le (c.int_bits + c.frac_bits) narrow_word_bits) (Ok tt) (refused version_line_number fault.Format) tt tt
of_format c (words.Said int_bits frac_bits) = either (c.int_bits == int_bits && c.frac_bits == frac_bits) (Ok tt) (refused format_line_number fault.Format) tt tt

no_loop_after : (format : Checked) (c : ControllerView) (cert : Certificate) (why : LoopRefusal) → IsNoLoop format → IsFoundAfter format c None cert (Err (refusal.Loop why)) → ⊥
no_loop_after (Ok x) c cert why h k = subst (IsOfWords None) k.checked (found_has k.quantised c.sample_time None cert)
no_loop_after (Err r) c cert why h k = subst IsNoLoop (sym k) h

pub no_loop_is_refused : NoLoopIsRefused
no_loop_is_refused c cert why = no_loop_after (format_check c (job_of cert).words) c cert why (of_format c (job_of cert).words)
