-- A certificate that a run wrote is accepted for the same files.
use Rattle.std.specs.Prelude.{◌≡◌, ℕ, ◌≤◌, false, List, length, Some, Ok}
use Rattle.dsv_base.specs.Seen.{FilesSeen}
use Rattle.dsv_names.specs.declared.design.Design.{Design}
use Rattle.dsv_certfile.specs.Lawful.{certificate_alone}
use Rattle.dsv_certfile.specs.Texts.{job_of, certificate_text}
use Rattle.dsv_certfile.specs.Typed.{IsTyped}
use Rattle.dsv_certfile.specs.declared.certificate.Certificate.{Certificate}
use Rattle.dsv_certfile.specs.declared.job.CertWords.{CertWords}
use Rattle.dsv_certcheck.specs.StateChecks.{Offers}
use Rattle.dsv_command.specs.Requests.{IsInTable, IsCertifiable}
use Rattle.dsv_command.specs.Table.{JobFiles, controller, cascade, states, plant_loop}
use Rattle.dsv_command.specs.Table.{cascade_loop, checks_form, Job, Request, does, checks}
use Rattle.dsv_report.specs.Headings.{asked_by}
use Rattle.dsv_report.specs.Output.{certificate_written}
use Rattle.dsv_report.specs.declared.answers.Answer.{Answer}
use Rattle.dsv_report.specs.declared.answers.Answer.TheVariants as answer
use Rattle.dsv_report.specs.Stops.{Outcome}
use Rattle.dsv_base.specs.Lists.{Pairwise}
use Rattle.dsv_files.specs.Files.{IsLost, longest_certificate}
use Rattle.dsv_cli.specs.JobRows.{IsAnswered, IsSaid}

-- the request that checks the certificate in the file of this name for what is in these files; a
-- state-space controller's is a job in this design that takes it as a form
abbrev pub check_of : Design → JobFiles → List ℕ → Request
check_of design (states file) name = does (record {
  files = states file;
  task = checks_form name;
  design = design;
  certified = false;
  worded = false;
})
check_of design files name = checks files name false

-- this answer to it is that the certificate is accepted, with its job, or for a state-space
-- controller with the numbers of its form's places alone; unless a read failed or there was no
-- memory
abbrev pub Accepts : JobFiles → Certificate → Outcome → Type 0
Accepts (states file) c (Ok (answer.StateFalls many offer fall)) =
    Offers (certificate_alone c) offer
Accepts (states file) c found = IsLost found
Accepts files c (Ok (answer.Checked certified error)) = certified ≡ job_of c
Accepts files c found = IsLost found

-- two files hold the same bytes, which are told
abbrev pub HoldsTheSame : FilesSeen → List ℕ → FilesSeen → List ℕ → Type 0
HoldsTheSame old name then_old other = (bytes : List ℕ) × (old.held name ≡ Some bytes)
    × (then_old.held other ≡ Some bytes)

-- the files of two lists do, each and the one at its place
abbrev pub AreTheSame : FilesSeen → List (List ℕ) → FilesSeen → List (List ℕ) → Type 0
AreTheSame old names then_old others =
    Pairwise (λ name other. HoldsTheSame old name then_old other) names others

-- what two jobs are about is of one kind, and its files hold the same bytes, each and the one at
-- its place
abbrev pub HoldTheSame : FilesSeen → JobFiles → FilesSeen → JobFiles → Type 0
HoldTheSame old (controller name) then_old (controller other) =
    HoldsTheSame old name then_old other
HoldTheSame old (states name) then_old (states other) = HoldsTheSame old name then_old other
HoldTheSame old (plant_loop name plant) then_old (plant_loop other other_plant) =
    HoldsTheSame old name then_old other × HoldsTheSame old plant then_old other_plant
HoldTheSame old (cascade name later) then_old (cascade other others) =
    HoldsTheSame old name then_old other × AreTheSame old later then_old others
HoldTheSame old (cascade_loop name later plant) then_old (cascade_loop other others other_plant) =
    HoldsTheSame old name then_old other × AreTheSame old later then_old others
    × HoldsTheSame old plant then_old other_plant
HoldTheSame old files then_old other = ⊥

-- If an answer to a job has a certificate, with what a run says of the words, of which is known
-- what is known of each that a run wrote whole, and whose text has at most 64 MiB, then what checks
-- that text for files of the same bytes accepts it.
abbrev pub WrittenAreAccepted : Type 0
WrittenAreAccepted =
    (old new : FilesSeen) (job : Job) (many : ℕ) (words : CertWords) (found : Answer)
    (c : Certificate) → IsInTable (does job) → IsCertifiable (does job)
    → (row : IsAnswered old new (Some (does job)) (Ok found))
    → IsSaid old new (Some (does job)) (Ok found) row many words
    → certificate_written (asked_by many (Some (does job))) words (Ok found) ≡ Some c
    → IsTyped c → length (certificate_text c) ≤ longest_certificate
    → (then_old then_new : FilesSeen) (files : JobFiles) (name : List ℕ) (answered : Outcome)
    → HoldTheSame old job.files then_old files
    → then_old.held name ≡ Some (certificate_text c)
    → IsAnswered then_old then_new (Some (check_of job.design files name)) answered
    → Accepts files c answered
