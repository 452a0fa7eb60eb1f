-- A request about files whose bytes are told has one answer, but for want of memory, read faults
-- and what is left to proposers.
use Rattle.std.specs.Prelude.{◌≡◌, ℕ, Some, Ok, Err}
use Rattle.dsv_algebra.specs.Vectors.{matrix_of}
use Rattle.dsv_base.specs.Seen.{FilesSeen}
use Rattle.dsv_forms.specs.declared.offers.Form.{Form}
use Rattle.dsv_base.specs.Lists.{Pairwise}
use Rattle.dsv_cascade.specs.declared.stability.SectionOffer.{SectionOffer}
use Rattle.dsv_cascade.specs.declared.stability.CascadeForms.{CascadeForms}
use Rattle.dsv_cascade.specs.declared.stability.CascadeForms.TheVariants as forms
use Rattle.dsv_cascade.specs.declared.stability.SectionFault.{SectionFault}
use Rattle.dsv_cascade.specs.declared.stability.SectionFault.TheVariants as fault
use Rattle.dsv_command.specs.Table.{Request}
use Rattle.dsv_report.specs.declared.answers.Answer.TheVariants as answer
use Rattle.dsv_report.specs.declared.stop.Stop.TheVariants as stop
use Rattle.dsv_report.specs.Stops.{Outcome}
use Rattle.dsv_cli.specs.Exact.{IsToldTheSame}
use Rattle.dsv_cli.specs.JobRows.{IsAnswered}
use Rattle.dsv_cli.specs.Proposers.{NeedsNone}

-- The forms have the same places and the same entries.
pub record SameForm (f g : Form) : Type 0 where
  pub places : f.d ≡ g.d
  pub entries : (i j : ℕ) → matrix_of f.rows i j ≡ matrix_of g.rows i j

-- the offers for a section are of one polynomial and are equal, as are the forms that are lost
abbrev pub SameOffer : SectionOffer → SectionOffer → Type 0
SameOffer s t = (s.poly ≡ t.poly) × (s.offer ≡ t.offer) × SameForm s.fall t.fall

-- so are the reasons why a section isn't shown to be stable
abbrev pub SameFault : SectionFault → SectionFault → Type 0
SameFault (fault.KeptAway p o f v) (fault.KeptAway q u g w) =
    (p ≡ q) × (o ≡ u) × SameForm f g × (v ≡ w)
SameFault a b = a ≡ b

-- and what is found of all sections
abbrev pub SameForms : CascadeForms → CascadeForms → Type 0
SameForms (forms.Falls offers) (forms.Falls others) = Pairwise SameOffer offers others
SameForms (forms.NotAll section a) (forms.NotAll other b) = (section ≡ other) × SameFault a b
SameForms a b = ⊥

-- The answers are equal, where rows of a form that is lost in a step count as the matrix that they
-- spell, and logs, traces, cycles and bounds of how far outputs are from those of exact runs, of
-- which there may be many, aren't compared.
abbrev pub SameAnswer : Outcome → Outcome → Type 0
SameAnswer (Ok (answer.Falls p o f)) (Ok (answer.Falls q u g)) = (p ≡ q) × (o ≡ u) × SameForm f g
SameAnswer (Ok (answer.KeptAway p o f v)) (Ok (answer.KeptAway q u g w)) =
    (p ≡ q) × (o ≡ u) × SameForm f g × (v ≡ w)
SameAnswer (Ok (answer.OfSections f)) (Ok (answer.OfSections g)) = SameForms f g
SameAnswer (Ok (answer.Never log)) (Ok (answer.Never other)) = Unit {0}
SameAnswer (Ok (answer.InRanges gain error)) (Ok (answer.InRanges other bound)) = gain ≡ other
SameAnswer (Ok (answer.Overflow trace)) (Ok (answer.Overflow other)) = Unit {0}
SameAnswer (Ok (answer.Cycles cycle)) (Ok (answer.Cycles other)) = Unit {0}
SameAnswer (Ok (answer.Checked found error)) (Ok (answer.Checked other bound)) = found ≡ other
SameAnswer a b = a ≡ b

-- The answer is settled by the bytes: it is neither want of memory nor a fault of a read, proposers
-- had no part in it, no search gave up, and what is beyond the gain's ranges isn't left to the
-- lists that were tried. Forms of states, tables but those of sections, ellipsoids that were sought
-- and tallies are left out.
abbrev pub IsSettled : Outcome → Type 0
IsSettled (Err (stop.ReadFault file)) = ⊥
IsSettled (Ok (answer.Spent log)) = ⊥
IsSettled (Ok (answer.OutOfRange sample value)) = ⊥
IsSettled (Ok (answer.Always candidate logs)) = ⊥
IsSettled (Ok (answer.NoInvariant kept)) = ⊥
IsSettled (Ok (answer.StateFalls many offer fall)) = ⊥
IsSettled (Ok answer.NoStateForm) = ⊥
IsSettled (Ok (answer.FoundEllipsoid offer)) = ⊥
IsSettled (Ok answer.NoEllipsoid) = ⊥
IsSettled (Ok (answer.Generated found)) = ⊥
IsSettled found = NeedsNone found

-- Whatever else was read before, two settled answers to one request are the same while its files
-- have the same bytes, which are told.
abbrev pub HaveOneAnswer : Type 0
HaveOneAnswer =
    (old new then_old then_new : FilesSeen) (request : Request) (a b : Outcome)
    → IsToldTheSame old then_old request → IsSettled a → IsSettled b
    → IsAnswered old new (Some request) a → IsAnswered then_old then_new (Some request) b
    → SameAnswer a b
