-- The lines that tell what a report is about, from the digests that were logged.
use Rattle.std.proofs.Common.{◌≡◌, ◌∙◌, ap, subst, Bool, true, false, List, [], ◌∷◌, ◌++◌, ℕ, map}
use Rattle.std.specs.Prelude.{MatchBool, Result, Ok, Err, IfOk}
use Rattle.dsv_base.specs.Seen.{FilesSeen, AreKept}
use Rattle.dsv_names.specs.declared.design.Design.{Design}
use Rattle.dsv_certfile.specs.Texts.{job_of}
use Rattle.dsv_certfile.specs.declared.certificate.Certificate.{Certificate}
use Rattle.dsv_command.specs.Table.{Job, JobFiles, Task, tells_words}
use Rattle.dsv_files.specs.declared.digests.FileDigest.{FileDigest}
use Rattle.dsv_files.specs.Digests.{NamedFile, DigestView, digest_view, AreLogged, named_by, named_by_task, certificate_named}
use Rattle.dsv_files.specs.JobTexts.{JobTexts}
use Rattle.dsv_files.proofs.LoggedDigests.{logged_earlier, logged_more}
use Rattle.dsv_cli.specs.Told.{told_by, titled_by, TellsWords, TellsTitle, AreLinesOf, AreLinesOfCheck}
use Rattle.dsv_cli.specs.Words.{JobWords, BecomeJobWords}

-- the files that were read first, and those after them
both_logged : (old then : FilesSeen) (files others : List NamedFile) (middle after : List FileDigest) → AreKept old then → AreLogged old files [] middle → AreLogged then others middle after → AreLogged old (files ++ others) [] after
both_logged old then files others middle after k h g = logged_more old files others [] middle after h (logged_earlier old then others middle after k g)

tell_words : (old : FilesSeen) (files : List NamedFile) (log : List FileDigest) (task : Task) (design : Design) (texts : JobTexts) (words : JobWords) (lines : List ℕ) → AreLogged old files [] log → BecomeJobWords design texts words
    → lines ≡ told_by (map digest_view log) texts words task → TellsWords old files task design texts lines
tell_words old files log task design texts words lines h b e = record {
  digests = h.digests;
  are_digests = h.are_digests;
  words = words;
  become_words = b;
  same = e ∙ ap (λ ds. told_by ds texts words task) h.grown;
}

told_if : (worded : Bool) (P Q R : Type 0) → (P → Q) → MatchBool worded P R → MatchBool worded Q R
told_if true P Q R f h = f h
told_if false P Q R f h = h

tell_title : (old : FilesSeen) (files : List NamedFile) (log : List FileDigest) (task : Task) (lines : List ℕ) → AreLogged old files [] log → lines ≡ titled_by (map digest_view log) task → TellsTitle old files task lines
tell_title old files log task lines h e = record {
  digests = h.digests;
  are_digests = h.are_digests;
  same = e ∙ ap (λ ds. titled_by ds task) h.grown;
}

titled_if : (worded : Bool) (P Q R S : Type 0) → (P → Q) → (R → S) → MatchBool worded P R → MatchBool worded Q S
titled_if true P Q R S f k h = f h
titled_if false P Q R S f k h = k h

-- those of a job
pub job_told : (old then : FilesSeen) (job : Job) (texts : JobTexts) (words : JobWords) (lines : List ℕ) (middle after : List FileDigest) → AreKept old then → AreLogged old (named_by job.files) [] middle → AreLogged then (named_by_task job.task) middle after
    → BecomeJobWords job.design texts words → MatchBool job.worded (lines ≡ told_by (map digest_view after) texts words job.task) (lines ≡ titled_by (map digest_view after) job.task) → AreLinesOf old job texts lines
job_told old then job texts words lines middle after k h g b told =
    let files = named_by job.files ++ named_by_task job.task in
    let logged = both_logged old then (named_by job.files) (named_by_task job.task) middle after k h g in
    titled_if job.worded (lines ≡ told_by (map digest_view after) texts words job.task) (TellsWords old files job.task job.design texts lines)
    (lines ≡ titled_by (map digest_view after) job.task) (TellsTitle old files job.task lines)
    (tell_words old files after job.task job.design texts words lines logged b) (tell_title old files after job.task lines logged) told

-- those of a check
pub check_told : (old then : FilesSeen) (files : JobFiles) (name : List ℕ) (worded : Bool) (texts : JobTexts) (c : Certificate) (lines : List ℕ) (middle after : List FileDigest) → AreKept old then → AreLogged old (named_by files) [] middle
    → AreLogged then (certificate_named name ∷ []) middle after
    → MatchBool worded ((words : JobWords) × BecomeJobWords (job_of c).design texts words × (lines ≡ told_by (map digest_view after) texts words tells_words)) (lines ≡ []) → AreLinesOfCheck old files name worded texts c lines
check_told old then files name worded texts c lines middle after k h g told =
    let all = named_by files ++ certificate_named name ∷ [] in
    told_if worded ((words : JobWords) × BecomeJobWords (job_of c).design texts words × (lines ≡ told_by (map digest_view after) texts words tells_words)) (TellsWords old all tells_words (job_of c).design texts lines) (lines ≡ [])
    (λ t. tell_words old all after tells_words (job_of c).design texts t.0 lines (both_logged old then (named_by files) (certificate_named name ∷ []) middle after k h g) t.1 t.2) told

-- those of what was accepted, by the words of what its texts became
pub accepted_told : {E : Type 0} (result : Result (List ℕ) E) (worded : Bool) (design : Design) (digests : List DigestView) (t u : JobTexts) (w : JobWords) → u ≡ t → BecomeJobWords design t w
    → IfOk result (λ lines. MatchBool worded (lines ≡ told_by digests u w tells_words) (lines ≡ []))
    → IfOk result (λ lines. MatchBool worded ((words : JobWords) × BecomeJobWords design t words × (lines ≡ told_by digests t words tells_words)) (lines ≡ []))
accepted_told (Ok lines) worded design digests t u w e b h =
    told_if worded (lines ≡ told_by digests u w tells_words) ((words : JobWords) × BecomeJobWords design t words × (lines ≡ told_by digests t words tells_words)) (lines ≡ [])
    (λ is. (w, b, subst (λ x. lines ≡ told_by digests x w tells_words) e is)) h
accepted_told (Err why) worded design digests t u w e b h = tt

pub if_any : {A E : Type 0} (result : Result A E) (P : Type 0) → P → IfOk result (λ x. P)
if_any (Ok x) P p = p
if_any (Err why) P p = tt
