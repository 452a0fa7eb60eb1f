-- For private contracts: what comes of asking proposers of sets.
use Rattle.std.specs.Prelude.{ℕ, List, Option, Some, None}
use Rattle.dsv_quantiser.specs.QuantisedView.{QuantisedView}
use Rattle.dsv_template.specs.declared.candidate.Candidate.{Candidate}
use Rattle.dsv_template.specs.declared.kept.KeptSet.{KeptSet}
use Rattle.dsv_template.specs.declared.verdict.ThreeLogs.{ThreeLogs}
use Rattle.dsv_template.specs.declared.verdict.Why.{Why}
use Rattle.dsv_template.specs.declared.verdict.Why.TheVariants as why
use Rattle.dsv_invariant.specs.Causes.{IsCause}
use Rattle.dsv_invariant.specs.Sets.{IsNotGood}
use Rattle.dsv_cli.specs.declared.sets.SetAnswer.{SetAnswer}
use Rattle.dsv_cli.specs.declared.sets.SetAnswer.TheVariants as answer
use Rattle.dsv_cli.specs.declared.turns.Turn.{Turn}
use Rattle.dsv_cli.specs.declared.turns.Turn.TheVariants as turn
use Rattle.dsv_cli.specs.Turns.{offer_of}

-- ---- asking once
-- what came of it where this was found of the offer
abbrev pub turn_of : Candidate → Why → Turn (Candidate × ThreeLogs) KeptSet
turn_of candidate (why.Good logs) = turn.Accepted (candidate, logs)
turn_of candidate other = turn.Refused (record { candidate = candidate; why = other })

-- the offer that came
abbrev pub candidate_of : Turn (Candidate × ThreeLogs) KeptSet → Option Candidate
candidate_of came =
    offer_of (λ (a : Candidate × ThreeLogs). a.0) (λ (k : KeptSet). k.candidate) came

-- what was found of the offer
abbrev pub found_of : Turn (Candidate × ThreeLogs) KeptSet → Option Why
found_of turn.Nothing = None
found_of (turn.Accepted (candidate, logs)) = Some (why.Good logs)
found_of (turn.Refused kept) = Some kept.why

abbrev pub IsJudgedSet : QuantisedView → ℕ → Turn (Candidate × ThreeLogs) KeptSet → Type 0
IsJudgedSet words conflicts turn.Nothing = Unit {0}
IsJudgedSet words conflicts (turn.Accepted (candidate, logs)) =
    IsCause words conflicts candidate (why.Good logs)
IsJudgedSet words conflicts (turn.Refused kept) = IsNotGood words conflicts kept

-- ---- asking all
abbrev pub IfKept : SetAnswer → (Candidate → ThreeLogs → Type 0) → Type 0
IfKept (answer.Kept candidate logs) P = P candidate logs
IfKept (answer.NoInvariant kept) P = Unit {0}

abbrev pub IfNoSet : SetAnswer → (List KeptSet → Type 0) → Type 0
IfNoSet (answer.Kept candidate logs) P = Unit {0}
IfNoSet (answer.NoInvariant kept) P = P kept
