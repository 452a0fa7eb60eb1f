-- A request about files whose bytes are told has one answer.
use Rattle.std.proofs.Common.{◌≡◌, inl, inr, ◌⊎◌, sym, subst, refl, ℕ, List, Some, Ok, Err}
use Rattle.dsv_base.specs.Seen.{FilesSeen}
use Rattle.dsv_names.specs.declared.design.Design.{Design}
use Rattle.dsv_command.specs.Table.{JobFiles, Task, Request, does, checks, generates}
use Rattle.dsv_report.specs.declared.answers.Answer.{Answer}
use Rattle.dsv_report.specs.declared.answers.Answer.TheVariants as answer
use Rattle.dsv_report.specs.declared.stop.Stop.{Stop}
use Rattle.dsv_report.specs.declared.stop.Stop.TheVariants as stop
use Rattle.dsv_report.specs.Stops.{Outcome}
use Rattle.dsv_cli.specs.Accepted.{HoldsTheSame, HoldTheSame}
use Rattle.dsv_cli.specs.Exact.{NamesTheSame, IsToldTheSame}
use Rattle.dsv_cli.specs.Causes.{IsOfGeneration}
use Rattle.dsv_files.specs.Files.{IsLost}
use Rattle.dsv_cli.specs.JobRows.{IsTaskDone, IsDoneBy, IsOfCheck, IsCheckedBy, IsAnswered}
use Rattle.dsv_cli.specs.Words.{BecomeJobWords}
use Rattle.dsv_cli.specs.OneAnswer.{SameAnswer, IsSettled, HaveOneAnswer}
use Rattle.dsv_cli.proofs.Exact.{come_exactly, texts_once, evidence_same, job_words_once, one_written, told_back}
use Rattle.dsv_cli.proofs.OneAnswerTasks.{one_task, one_check}

not_lost : (found : Outcome) → IsSettled found → IsLost found → ⊥
not_lost (Err (stop.ReadFault file)) x h = x
not_lost (Err stop.NoMemory) x h = x
not_lost found x h = absurd h

same_refusal : (why : Stop) (found : Outcome) → found ≡ Err why → SameAnswer found (Err why)
same_refusal why found e = subst (λ it. SameAnswer it (Err why)) (sym e) refl

refusal_same : (why : Stop) (found : Outcome) → found ≡ Err why → SameAnswer (Err why) found
refusal_same why found e = subst (λ it. SameAnswer (Err why) it) (sym e) refl

by_refusal : (why : Stop) (found : Outcome) → IsSettled found → (found ≡ Err why) ⊎ IsLost found → found ≡ Err why
by_refusal why found x (inl e) = e
by_refusal why found x (inr h) = absurd (not_lost found x h)

done_once : (old then_old : FilesSeen) (files : JobFiles) (task : Task) (design : Design) (a b : Answer) → HoldTheSame old files then_old files → NamesTheSame old then_old task → IsSettled (Ok a) → IsSettled (Ok b)
    → IsDoneBy old files task design (Ok a) → IsDoneBy then_old files task design (Ok b) → SameAnswer (Ok a) (Ok b)
done_once old then_old files task design a b same names x y h k =
    let texts = texts_once old then_old files h.texts k.texts same h.have_texts k.have_texts in
    let evidence = evidence_same old then_old task h.evidence k.evidence names h.has_evidence k.has_evidence in
    let words = job_words_once design k.texts h.words k.words (subst (λ t. BecomeJobWords design t h.words) texts h.become_words) k.become_words in
    let by_texts = subst (λ t. IsTaskDone task h.evidence t h.words (Ok a)) texts h.done in
    let by_evidence = subst (λ e. IsTaskDone task e k.texts h.words (Ok a)) evidence by_texts in
    one_task task k.evidence k.texts k.words a b x y (subst (λ w. IsTaskDone task k.evidence k.texts w (Ok a)) words by_evidence) k.done

checked_once : (old then_old : FilesSeen) (files : JobFiles) (name : List ℕ) (a b : Answer) → HoldTheSame old files then_old files → HoldsTheSame old name then_old name → IsSettled (Ok a) → IsSettled (Ok b)
    → IsCheckedBy old files name (Ok a) → IsCheckedBy then_old files name (Ok b) → SameAnswer (Ok a) (Ok b)
checked_once old then_old files name a b same named x y h k =
    let texts = texts_once old then_old files h.texts k.texts same h.have_texts k.have_texts in
    let written = one_written old then_old name h.written k.written named h.spelled k.spelled in
    let by_texts = subst (λ t. IsOfCheck t h.written (Ok a)) texts h.check in
    one_check k.texts k.written a b x y (subst (λ c. IsOfCheck k.texts c (Ok a)) written by_texts) k.check

tally_open : (seed count : ℕ) (a : Answer) → IsOfGeneration seed count (Ok a) → IsSettled (Ok a) → ⊥
tally_open seed count (answer.Generated found) h x = x
tally_open seed count a h x = absurd h

both : (old new then_old then_new : FilesSeen) (request : Request) (a b : Answer) → IsToldTheSame old then_old request → IsSettled (Ok a) → IsSettled (Ok b) → IsAnswered old new (Some request) (Ok a)
    → IsAnswered then_old then_new (Some request) (Ok b) → SameAnswer (Ok a) (Ok b)
both old new then_old then_new (does job) a b same x y h k = done_once old then_old job.files job.task job.design a b same.0 same.1 x y h k
both old new then_old then_new (checks files name worded) a b same x y h k = checked_once old then_old files name a b same.0 same.1 x y h k
both old new then_old then_new (generates seed count) a b same x y h k = absurd (tally_open seed count a h.0 x)

pub one_answer : HaveOneAnswer
one_answer old new then_old then_new request (Ok a) (Ok b) same x y h k = both old new then_old then_new request a b same x y h k
one_answer old new then_old then_new request (Err why) b same x y h k =
    refusal_same why b (by_refusal why b y (come_exactly old new then_old then_new request why b same (not_lost (Err why) x) h k))
one_answer old new then_old then_new request (Ok a) (Err why) same x y h k =
    same_refusal why (Ok a) (by_refusal why (Ok a) x (come_exactly then_old then_new old new request why (Ok a) (told_back old then_old request same) (not_lost (Err why) y) k h))
