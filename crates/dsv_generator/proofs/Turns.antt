-- One controller more is counted.
use Rattle.std.proofs.Common.{◌≡◌, ◌∙◌, ap, sym, subst, ℕ, suc, ◌+◌, List, add-one}
use Rattle.dsv_quantiser.specs.QuantisedView.{QuantisedView}
use Rattle.dsv_generator.specs.Controllers.{controller_with, state_before, Becomes}
use Rattle.dsv_generator.specs.Draws.{next_state, word_of}
use Rattle.dsv_generator.specs.Findings.{IsFinding}
use Rattle.dsv_generator.specs.declared.finding.Finding.{Finding}
use Rattle.dsv_tally.specs.declared.tally.SpentLog.{SpentLog}
use Rattle.dsv_tally.specs.declared.tally.Tally.{Tally}
use Rattle.dsv_generator.specs.Tallies.{with_finding, with_log, IsTally, more}

module _ (seed n state first second third fourth : ℕ) (before : state ≡ state_before seed n) (a : first ≡ next_state state) (b : second ≡ next_state first)
    (c : third ≡ next_state second) (d : fourth ≡ next_state third) where
  first_is : first ≡ next_state (state_before seed n)
  first_is = a ∙ ap next_state before

  second_is : second ≡ next_state (next_state (state_before seed n))
  second_is = b ∙ ap next_state first_is

  third_is : third ≡ next_state (next_state (next_state (state_before seed n)))
  third_is = c ∙ ap next_state second_is

  fourth_is : fourth ≡ state_before seed (suc n)
  fourth_is = d ∙ ap next_state third_is

  pub next_before : fourth ≡ state_before seed (n + 1)
  next_before = fourth_is ∙ ap (state_before seed) (sym (add-one n))

  pub one_more : (t : Tally) (logs : List SpentLog) (quantised : QuantisedView) (f : Finding) → IsTally seed n t logs
      → Becomes (controller_with (word_of first) (word_of second) (word_of third) (word_of fourth)) quantised → IsFinding quantised f
      → IsTally seed (n + 1) (with_finding f t) (with_log n f.overflow logs)
  one_more t logs quantised f is becomes found =
      subst (λ m. IsTally seed m (with_finding f t) (with_log n f.overflow logs)) (sym (add-one n))
      (more n t logs quantised f is (rw (first_is, second_is, third_is, fourth_is) at becomes) found)
