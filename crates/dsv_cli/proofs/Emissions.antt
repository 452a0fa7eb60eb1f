-- What a task of C comes to, as the table has it.
use Rattle.std.proofs.Common.{◌≡◌, ℕ, List, subst}
use Rattle.std.proofs.Math.IntN.{ℤ}
use Rattle.dsv_ctext.specs.declared.names.MemberName.{MemberName}
use Rattle.dsv_ctext.specs.declared.remarks.Origin.{Origin}
use Rattle.dsv_command.specs.Table.{Task, emits_code, emits_test, emits_file_test}
use Rattle.dsv_files.specs.JobTexts.{JobTexts, Evidence, input_list}
use Rattle.dsv_report.specs.Stops.{Outcome}
use Rattle.dsv_cli.specs.Emitting.{members_of, origin_of, IsOfCode, IsOfCodeTest, IsEmitted}
use Rattle.dsv_cli.specs.JobRows.{subject_of, IsTaskDone}
use Rattle.dsv_cli.specs.Words.{JobWords}

code_as : (w : JobWords) (p : List ℕ) (ms : List MemberName) (o : Origin) (found : Outcome) → ms ≡ members_of w → o ≡ origin_of w → IsOfCode (subject_of w) p ms o found → IsOfCode (subject_of w) p (members_of w) (origin_of w) found
code_as w p ms o found f g h = subst (λ (x : List MemberName). IsOfCode (subject_of w) p x (origin_of w) found) f (subst (λ (y : Origin). IsOfCode (subject_of w) p ms y found) g h)

test_as : (w : JobWords) (p : List ℕ) (ms : List MemberName) (o : Origin) (xs : List ℤ) (found : Outcome) → ms ≡ members_of w → o ≡ origin_of w → IsOfCodeTest (subject_of w) p ms o xs found
    → IsOfCodeTest (subject_of w) p (members_of w) (origin_of w) xs found
test_as w p ms o xs found f g h = subst (λ (x : List MemberName). IsOfCodeTest (subject_of w) p x (origin_of w) xs found) f (subst (λ (y : Origin). IsOfCodeTest (subject_of w) p ms y xs found) g h)

pub emitted_done : (task : Task) (e : Evidence) (t : JobTexts) (w : JobWords) (ms : List MemberName) (o : Origin) (found : Outcome) → ms ≡ members_of w → o ≡ origin_of w → IsEmitted task e (subject_of w) ms o found → IsTaskDone task e t w found
emitted_done (emits_code p) e t w ms o found f g h = code_as w p ms o found f g h
emitted_done (emits_test p xs) e t w ms o found f g h = test_as w p ms o xs found f g h
emitted_done (emits_file_test p n) (input_list xs) t w ms o found f g h = test_as w p ms o xs found f g h
emitted_done task e t w ms o found f g h = absurd h
