-- A certificate that was read is one that texts spell, and the text is its own.
use Rattle.std.proofs.Common.{◌≡◌, ◌∙◌, sym, ap, ℕ, List, [], ◌∷◌, ◌++◌, length, map, Some, None, Result, Ok, Err, IfOk, refl, append_assoc, arith}
use Rattle.std.proofs.lemmas.Result.{IfOk-at_ok}
use Rattle.dsv_text.specs.Stages.{◌>>=◌}
use Rattle.dsv_lines.specs.Readings.{Reading}
use Rattle.dsv_certfile.specs.Answers.{cert_answer}
use Rattle.dsv_certfile.specs.Bodies.{whole_text, word_in, invariant_in, falls_in, roundoff_in, table_in}
use Rattle.dsv_certfile.specs.Lawful.{IsSize, IsWords, IsLawful}
use Rattle.dsv_lines.specs.Pieces.{all_lines}
use Rattle.dsv_lines.specs.Texts.{Line}
use Rattle.dsv_certfile.specs.Reading.{heading_in, body_in, whole_certificate, certificate_in}
use Rattle.dsv_certfile.specs.Steps.{log_in}
use Rattle.dsv_certfile.specs.Texts.{word_line, kind_line, head_lines, inequality_line, logs_lines, job_of, kind_line_of, body_lines, certificate_lines, certificate_text}
use Rattle.dsv_certfile.specs.declared.certificate.Certificate.{Certificate}
use Rattle.dsv_certfile.specs.declared.certificate.Certificate.TheVariants as certificate
use Rattle.dsv_certfile.specs.declared.fault.TextRefusal.{TextRefusal}
use Rattle.dsv_certfile.specs.declared.job.CertifiedJob.{CertifiedJob}
use Rattle.dsv_certfile.specs.declared.keyword.Keyword.TheVariants as keyword
use Rattle.dsv_certfile.specs.declared.kind.Kind.TheVariants as kind
use Rattle.dsv_certfile.specs.declared.kind.KindHead.{KindHead}
use Rattle.dsv_certfile.specs.declared.kind.KindHead.TheVariants as head
use Rattle.dsv_certfile.specs.declared.reader.Heading.{Heading}
use Rattle.dsv_certfile.proofs.LawfulBodies.{IsOfferOf, yields_roundoff, IsProofOf, yields_invariant}
use Rattle.dsv_certfile.proofs.KindLemmas.{one_kind}
use Rattle.dsv_certfile.proofs.LawfulFalls.{IsFallOf, yields_falls}
use Rattle.dsv_certfile.proofs.Tables.{AreCoefficientsOf, yields_table}
use Rattle.dsv_certfile.proofs.LawfulHeadings.{IsHeadFor, head_line, IsHeading, yields_heading}
use Rattle.dsv_certfile.proofs.LawfulParts.{then_has, whole_text_has, Taken, Yields, yields_made, joined, read_lines}
use Rattle.dsv_certfile.proofs.LawfulSteps.{IsLogOf, yields_log}
use Rattle.dsv_certfile.proofs.ReadPlaces.{yields_word}

-- the certificate is lawful and of this job and kind, and these are its lines after that of the kind
record IsBodyOf (job : CertifiedJob) (h : KindHead) (c : Certificate) (ls : List Line) : Type 0 where
  lawful : IsLawful c
  job_is : job_of c ≡ job
  kind_is : kind_line_of c ≡ head_line h
  lines : ls ≡ body_lines c ++ word_line keyword.End ∷ []

yields_body : (job : CertifiedJob) (h : KindHead) → IsSize job.size → IsWords job.words → IsHeadFor job h → Yields (body_in job h) (IsBodyOf job h)
yields_body job head.Hints s w e =
    yields_made (log_in keyword.End) (certificate.Hints job) (IsLogOf keyword.End) (IsBodyOf job head.Hints) (yields_log keyword.End)
    (λ log ls l. record { lawful = (record { size = s; words = w; belongs = e }, l.0); job_is = refl; kind_is = refl; lines = l.1 })
yields_body job (head.Invariant depth count) s w e =
    yields_made (invariant_in depth count) (λ i. certificate.Invariant job i.candidate i.logs) (IsProofOf depth count) (IsBodyOf job (head.Invariant depth count)) (yields_invariant depth count e.1 e.2)
    (λ i ls p. record {
      lawful = (record { size = s; words = w; belongs = e.0 }, p.set, p.logs);
      job_is = refl;
      kind_is = ap (λ n. kind_line kind.Invariant (n ∷ length i.candidate.inequalities.items ∷ [])) p.depth_is ∙ ap (λ n. kind_line kind.Invariant (depth ∷ n ∷ [])) p.many;
      lines = p.lines ∙ sym (append_assoc (map inequality_line i.candidate.inequalities.items) (logs_lines i.logs) (word_line keyword.End ∷ []));
    })
yields_body job (head.Gain depth) s w e =
    yields_made (word_in keyword.End) (λ _. certificate.Gain job depth None) (λ _ ls. ls ≡ word_line keyword.End ∷ []) (IsBodyOf job (head.Gain depth)) (yields_word keyword.End)
    (λ _ ls l. record { lawful = (record { size = s; words = w; belongs = e.0 }, e.1, tt); job_is = refl; kind_is = refl; lines = l })
yields_body job (head.Error depth error_depth count) s w e =
    yields_made (roundoff_in error_depth count) (λ offer. certificate.Gain job depth (Some offer)) (IsOfferOf error_depth count) (IsBodyOf job (head.Error depth error_depth count))
    (yields_roundoff error_depth count e.2 e.3)
    (λ offer ls o. record {
      lawful = (record { size = s; words = w; belongs = sym (one_kind job) ∙ e.0 }, e.1, o.offer_is);
      job_is = refl;
      kind_is = ap (λ n. kind_line kind.Error (depth ∷ n ∷ length offer.ranges ∷ [])) o.depth_is ∙ ap (λ n. kind_line kind.Error (depth ∷ error_depth ∷ n ∷ [])) o.many;
      lines = o.lines;
    })
yields_body job (head.Falls d) s w e =
    yields_made (falls_in d) (certificate.Falls job) (IsFallOf d) (IsBodyOf job (head.Falls d)) (yields_falls d e.1)
    (λ offer ls o. record {
      lawful = (record { size = s; words = w; belongs = e.0 }, o.offer_is);
      job_is = refl;
      kind_is = ap (λ n. kind_line kind.Falls (n ∷ [])) o.places;
      lines = o.lines;
    })
yields_body job (head.Table count) s w e =
    yields_made (table_in count) (certificate.Table job) (AreCoefficientsOf count) (IsBodyOf job (head.Table count)) (yields_table count)
    (λ cs ls o. record {
      lawful = (record { size = s; words = w; belongs = e.0 }, omega (arith, o.many, e.1), omega (arith, o.many, e.2));
      job_is = refl;
      kind_is = ap (λ n. kind_line kind.Table (n ∷ [])) o.many;
      lines = o.lines;
    })

-- the certificate is lawful, and the bytes are its text
abbrev IsTextOf : List ℕ → Certificate → Type 0
IsTextOf bytes c = IsLawful c × (bytes ≡ certificate_text c)

all_lines_of : (job : CertifiedJob) (h : KindHead) (c : Certificate) (ls ms : List Line) → ls ≡ head_lines job ++ head_line h ∷ [] → IsBodyOf job h c ms → ls ++ ms ≡ certificate_lines c
all_lines_of job h c ls ms e b =
    let body = body_lines c ++ word_line keyword.End ∷ [] in
    joined (e ∙ ap (λ l. head_lines job ++ l ∷ []) (sym b.kind_is) ∙ ap (λ j. head_lines j ++ kind_line_of c ∷ []) (sym b.job_is)) b.lines
    ∙ append_assoc (head_lines (job_of c)) (kind_line_of c ∷ []) body

certificate_has : (bytes : List ℕ) → IfOk (whole_certificate bytes) (IsTextOf bytes)
certificate_has bytes =
    then_has (heading_in (all_lines bytes))
    (λ (h : Reading Heading). body_in h.value.job h.value.kind h.left >>= λ body. whole_text body.value body.left.number body.left.lines)
    (Taken IsHeading (all_lines bytes).lines) (IsTextOf bytes) (yields_heading (all_lines bytes))
    (λ h k. then_has (body_in h.value.job h.value.kind h.left) (λ (b : Reading Certificate). whole_text b.value b.left.number b.left.lines)
    (Taken (IsBodyOf h.value.job h.value.kind) h.left.lines) (IsTextOf bytes) (yields_body h.value.job h.value.kind k.has.size k.has.words k.has.kind h.left)
    (λ b l. whole_text_has b.value b.left.number b.left.lines (IsTextOf bytes)
    (λ e. (
      l.has.lawful,
      read_lines bytes k.lines l.lines h.left.lines b.left.lines (certificate_lines b.value) k.cut l.cut e
          (all_lines_of h.value.job h.value.kind b.value k.lines l.lines k.has.lines l.has),
    ))))

cert_answer_has : {X : Type 0} (r : Result X TextRefusal) (P : X → Type 0) → IfOk r P → IfOk (cert_answer r) P
cert_answer_has (Ok x) P h = h
cert_answer_has (Err why) P h = tt

read_has : (bytes : List ℕ) (c : Certificate) → certificate_in bytes ≡ Ok c → IsTextOf bytes c
read_has bytes c e = IfOk-at_ok (IsTextOf bytes) e (cert_answer_has (whole_certificate bytes) (IsTextOf bytes) (certificate_has bytes))

pub read_is_lawful : (bytes : List ℕ) (c : Certificate) → certificate_in bytes ≡ Ok c → IsLawful c
read_is_lawful bytes c e = (read_has bytes c e).0

pub text_of_certificate : (bytes : List ℕ) (c : Certificate) → certificate_in bytes ≡ Ok c → bytes ≡ certificate_text c
text_of_certificate bytes c e = (read_has bytes c e).1
