-- Verdicts speak of the C of their file.
use Rattle.std.proofs.Common.{ℕ, List, [], subst}
use Rattle.std.specs.Prelude.{Ok}
use Rattle.dsv_base.specs.Seen.{FilesSeen}
use Rattle.dsv_names.specs.declared.design.Design.{Design}
use Rattle.dsv_code.proofs.Runs.{code_law}
use Rattle.dsv_code.specs.Code.{IsCodeOf}
use Rattle.dsv_system.specs.Runs.{SampleRow}
use Rattle.dsv_realise.specs.Runs.{rows_of}
use Rattle.dsv_command.specs.Table.{JobFiles, controller, cascade, states, plant_loop, cascade_loop, Task, emits_code, emits_test, emits_file_test}
use Rattle.dsv_files.specs.JobTexts.{JobTexts, of_one, of_sections, of_state_file, with_plant, sections_with_plant, HaveTexts, Evidence, input_list}
use Rattle.dsv_report.specs.declared.answers.Answer.TheVariants as answer
use Rattle.dsv_cli.specs.CodeLaw.{IsCodeOfWords, VerdictsSpeakOfCode, without_plant}
use Rattle.dsv_cli.specs.Emitting.{Emits, members_of, origin_of}
use Rattle.dsv_cli.specs.JobRows.{IsTaskDone, subject_of}
use Rattle.dsv_cli.specs.Words.{JobWords, of_words, of_series, BecomeJobWords}
use Rattle.dsv_cli.proofs.Exact.{texts_once, job_words_once}

abbrev texts_alone : JobTexts → JobTexts
texts_alone (of_one c) = of_one c
texts_alone (of_sections c cs) = of_sections c cs
texts_alone (of_state_file c) = of_state_file c
texts_alone (with_plant c p) = of_one c
texts_alone (sections_with_plant c cs p) = of_sections c cs

have_alone : (old : FilesSeen) (files : JobFiles) (t : JobTexts) → HaveTexts old files t → HaveTexts old (without_plant files) (texts_alone t)
have_alone old (controller name) (of_one c) h = h
have_alone old (controller name) t h = absurd h
have_alone old (cascade name later) (of_sections c cs) h = h
have_alone old (cascade name later) t h = absurd h
have_alone old (states name) (of_state_file c) h = h
have_alone old (states name) t h = absurd h
have_alone old (plant_loop name plant) (with_plant c p) h = h.0
have_alone old (plant_loop name plant) t h = absurd h
have_alone old (cascade_loop name later plant) (sections_with_plant c cs p) h = (h.0, h.1)
have_alone old (cascade_loop name later plant) t h = absurd h

become_alone : (design : Design) (t : JobTexts) (words : JobWords) → BecomeJobWords design t words → BecomeJobWords design (texts_alone t) words
become_alone design (of_one c) words h = h
become_alone design (of_sections c cs) words h = h
become_alone design (of_state_file c) words h = h
become_alone design (with_plant c p) (of_words q) h = h
become_alone design (with_plant c p) words h = absurd h
become_alone design (sections_with_plant c cs p) (of_series s) h = h
become_alone design (sections_with_plant c cs p) words h = absurd h

of_code : (words : JobWords) (prefix : List ℕ) (rows : List SampleRow) (text : List ℕ) → IsCodeOf (subject_of words) prefix (members_of words) (origin_of words) rows text → IsCodeOfWords words text
of_code words prefix rows text h =
    let law = code_law (subject_of words) prefix (members_of words) (origin_of words) rows text h in
    record { prefix = prefix; rows = rows; code = h; starts = law.0; runs = law.1 }

code_done : (coding : Task) (evidence : Evidence) (texts : JobTexts) (words : JobWords) (text : List ℕ) → Emits coding → IsTaskDone coding evidence texts words (Ok (answer.Code text)) → IsCodeOfWords words text
code_done (emits_code prefix) evidence texts words text e h = of_code words prefix [] text h
code_done (emits_test prefix xs) evidence texts words text e h = of_code words prefix (rows_of (subject_of words) xs) text h.1
code_done (emits_file_test prefix name) (input_list xs) texts words text e h = of_code words prefix (rows_of (subject_of words) xs) text h.1
code_done (emits_file_test prefix name) evidence texts words text e h = absurd h
code_done coding evidence texts words text e h = absurd e

pub verdicts_speak : VerdictsSpeakOfCode
verdicts_speak old then_old files design coding task text found e same code verdict =
    let alone = texts_alone verdict.texts in
    let texts = texts_once old then_old (without_plant files) code.texts alone same code.have_texts (have_alone then_old files verdict.texts verdict.have_texts) in
    let words = job_words_once design alone code.words verdict.words (subst (λ t. BecomeJobWords design t code.words) texts code.become_words) (become_alone design verdict.texts verdict.words verdict.become_words) in
    subst (λ w. IsCodeOfWords w text) words (code_done coding code.evidence code.texts code.words text e code.done)
