-- A text that was written is the subject's code.
use Rattle.std.proofs.Common.{◌≡◌, ℕ, ◌≤◌, List, [], ◌∷◌, length, map, refl, sym, ap, subst, ◌∙◌, arith}
use Rattle.std.proofs.Math.IntN.{ℤ}
use Rattle.dsv_word.specs.declared.format.Format.{Format}
use Rattle.dsv_system.specs.declared.rows.Row.{Row}
use Rattle.dsv_system.specs.RowViews.{row_of}
use Rattle.dsv_system.specs.Runs.{SampleRow}
use Rattle.dsv_system.specs.Systems.{Agree}
use Rattle.dsv_netlist.specs.Conditions.{IsNetlist}
use Rattle.dsv_netlist.specs.Nodes.{Net}
use Rattle.dsv_netlist.specs.Systems.{runs_of}
use Rattle.dsv_realise.specs.SubjectView.{SubjectView}
use Rattle.dsv_c.specs.Codable.{IsCodable}
use Rattle.dsv_ctext.specs.declared.names.MemberName.{MemberName}
use Rattle.dsv_ctext.specs.declared.remarks.Origin.{Origin}
use Rattle.dsv_ctext.specs.TestTexts.{test_text}
use Rattle.dsv_code.specs.Code.{test_of, code_bytes, IsCodeOf}

abbrev pub text_with : Net → List ℕ → List MemberName → Origin → Format → ℤ → ℤ → List SampleRow → List ℕ
text_with net prefix members origin format low high rows = code_bytes net prefix members (record { origin = origin; format = format; low = low; high = high }) rows

pub is_code : (s : SubjectView) (net : Net) (format : Format) (low high : ℤ) (p prefix : List ℕ) (ms members : List MemberName) (origin : Origin) (rows : List SampleRow) (text : List ℕ)
    → net ≡ s.net → format ≡ net.format → low ≡ s.low → high ≡ s.high → p ≡ prefix → ms ≡ members → IsNetlist net → Agree (runs_of net) s.runs → IsCodable net → length members ≡ s.runs.many
    → text ≡ text_with net p ms origin format low high rows → IsCodeOf s prefix members origin rows text
is_code s net format low high p prefix ms members origin rows text e f g h i j w a k m t = record {
  netlist = subst IsNetlist e w;
  runs = subst (λ (n : Net). Agree (runs_of n) s.runs) e a;
  codable = subst IsCodable e k;
  named = m ∙ (sym a.many ∙ ap (λ (n : Net). length n.next) e);
  text_is = t ∙ (ap (λ (x : List ℕ). text_with net x ms origin format low high rows) i ∙ (ap (λ (x : List MemberName). text_with net prefix x origin format low high rows) j
      ∙ (ap (λ (x : Format). text_with net prefix members origin x low high rows) f ∙ (ap (λ (x : ℤ). text_with net prefix members origin net.format x high rows) g
      ∙ (ap (λ (x : ℤ). text_with net prefix members origin net.format s.low x rows) h ∙ ap (λ (n : Net). text_with n prefix members origin n.format s.low s.high rows) e)))));
}

pub tested : (format : Format) (prefix : List ℕ) (rows : List Row) → 1 ≤ length rows → test_of format prefix (map row_of rows) ≡ test_text format prefix (map row_of rows)
tested format prefix [] l = absurd (omega arith)
tested format prefix (row ∷ rows) l = refl
