-- A certificate is read back from its text.
use Rattle.std.proofs.Common.{◌≡◌, ◌∙◌, sym, ap, ℕ, ◌^◌, ◌<◌, [], ◌∷◌, ◌++◌, length, map, decimal, Some, None, Result, Ok, pos, arith, append_assoc}
use Rattle.std.specs.List.{All}
use Rattle.std.proofs.lemmas.List.Elements.{All-cons, All-nil, All-append}
use Rattle.dsv_text.specs.Stages.{◌>>=◌}
use Rattle.dsv_lines.specs.Readings.{Reading}
use Rattle.dsv_certfile.specs.Answers.{cert_answer}
use Rattle.dsv_certfile.specs.Bodies.{line_in, word_in, whole_text, invariant_in, falls_in, roundoff_in, table_in}
use Rattle.dsv_certfile.specs.Headings.{version_in, line_job, line_kind}
use Rattle.dsv_certfile.specs.Lawful.{IsSize, IsWords, IsLawful}
use Rattle.dsv_certfile.specs.Limits.{greatest_depth, most_gain_depth, most_box_ranges, most_places, most_coefficients}
use Rattle.dsv_template.specs.Limits.{most_inequalities}
use Rattle.dsv_lines.specs.Pieces.{unended, lines_of}
use Rattle.dsv_certfile.specs.Reading.{words_in, heading_in, body_in, whole_certificate, certificate_in}
use Rattle.dsv_certfile.specs.Steps.{log_in}
use Rattle.dsv_lines.specs.Texts.{Line, IsPlain, ArePlain}
use Rattle.dsv_certfile.specs.Texts.{log_lines, falls_lines, version_line, job_line, format_lines, head_lines, word_line, job_of, kind_line_of, body_lines, candidate_counts, certificate_lines, certificate_text, inequality_line, logs_lines, range_line, roundoff_counts, coefficient_line}
use Rattle.dsv_certfile.specs.Words.{with_words}
use Rattle.dsv_certfile.specs.declared.certificate.Certificate.{Certificate}
use Rattle.dsv_certfile.specs.declared.certificate.Certificate.TheVariants as certificate
use Rattle.dsv_certfile.specs.declared.fault.TextRefusal.{TextRefusal}
use Rattle.dsv_certfile.specs.declared.invariant.SetProof.{SetProof}
use Rattle.dsv_certfile.specs.declared.job.CertWords.TheVariants as words
use Rattle.dsv_certfile.specs.declared.job.CertifiedJob.{CertifiedJob}
use Rattle.dsv_certfile.specs.declared.job.Version.{Version}
use Rattle.dsv_certfile.specs.declared.keyword.Keyword.TheVariants as keyword
use Rattle.dsv_certfile.specs.declared.kind.Kind.TheVariants as kind
use Rattle.dsv_certfile.specs.declared.kind.KindHead.{KindHead}
use Rattle.dsv_certfile.specs.declared.kind.KindHead.TheVariants as head
use Rattle.dsv_certfile.specs.declared.reader.Heading.{Heading}
use Rattle.dsv_certfile.proofs.KindLemmas.{one_kind}
use Rattle.dsv_certfile.proofs.WrittenBodies.{word_plain, takes_word, takes_invariant, invariant_plain, takes_roundoff, box_plain}
use Rattle.dsv_certfile.proofs.WrittenFalls.{takes_falls, falls_plain}
use Rattle.dsv_certfile.proofs.WrittenHeadings.{version_of, version_plain, version_back, job_back, job_line-plain, format_lines-plain, takes_words, kind_back, kind_line-plain}
use Rattle.dsv_lines.proofs.WrittenLines.{IsLine, line_bytes, onto_lines, onto_lines-append, lines-written}
use Rattle.dsv_lines.proofs.WrittenNumerals.{decimal_plain}
use Rattle.dsv_certfile.proofs.WrittenNumbers.{count_read, positive_read}
use Rattle.dsv_certfile.proofs.Tables.{takes_table, coefficients_plain}
use Rattle.dsv_certfile.proofs.WrittenParts.{Reader, Takes, and_read, takes_as, takes_both, takes_made, takes_line, left_at}
use Rattle.dsv_certfile.proofs.WrittenSteps.{takes_log, log_plain}

-- ---- the lines up to that of the kind
abbrev pub words_after : CertifiedJob → Reader Heading
words_after job ls = line_in (line_kind job) ls >>= λ kind. Ok (record { value = record { job = job; kind = kind.value }; left = kind.left })

abbrev pub job_after : Version → CertifiedJob → Reader Heading
job_after v job = and_read (words_in v) (λ said. words_after (with_words said job))

abbrev pub version_after : Version → Reader Heading
version_after v = and_read (line_in line_job) (job_after v)

takes_heading : (job : CertifiedJob) (h : KindHead) (line : Line) → IsSize job.size → IsWords job.words → line_kind job (line_bytes line) ≡ Ok h
    → Takes heading_in (record { job = job; kind = h }) (head_lines job ++ line ∷ [])
takes_heading job h line s w e =
    let whole : Heading = record { job = job; kind = h } in
    let v = version_of job.words in
    let first = version_line job.words in
    let bare = with_words words.Unsaid job in
    let formats = format_lines job.words in
    takes_both (line_in version_in) version_after v whole (first ∷ []) (job_line job ∷ (formats ++ line ∷ [])) (takes_line version_in first v (version_back job.words))
    (takes_both (line_in line_job) (job_after v) bare whole (job_line job ∷ []) (formats ++ line ∷ []) (takes_line line_job (job_line job) bare (job_back job s))
    (takes_both (words_in v) (λ said. words_after (with_words said bare)) job.words whole formats (line ∷ []) (takes_words job.words w)
    (takes_made (line_in (line_kind job)) (λ kind. record { job = job; kind = kind }) h (line ∷ []) (takes_line (line_kind job) line h e))))

-- ---- certificates
-- The kind line says this, and what follows is read back.
record IsReadBack (c : Certificate) (h : KindHead) : Type 0 where
  size : IsSize (job_of c).size
  words : IsWords (job_of c).words
  kind : line_kind (job_of c) (line_bytes (kind_line_of c)) ≡ Ok h
  kind_plain : IsLine (kind_line_of c)
  body : Takes (body_in (job_of c) h) c (body_lines c ++ word_line keyword.End ∷ [])
  body_plain : All IsLine (body_lines c)

one_plain : (n : ℕ) → n < 10 ^ 64 → ArePlain (map decimal (n ∷ []))
one_plain n h = All-cons IsPlain (decimal n) [] (decimal_plain n h) (All-nil IsPlain)

abbrev head_of : Certificate → KindHead
head_of (certificate.Hints job log) = head.Hints
head_of (certificate.Invariant job candidate logs) = head.Invariant candidate.depth (length candidate.inequalities.items)
head_of (certificate.Gain job depth None) = head.Gain depth
head_of (certificate.Gain job depth (Some offer)) = head.Error depth offer.depth (length offer.ranges)
head_of (certificate.Falls job offer) = head.Falls offer.form.d
head_of (certificate.Table job coefficients) = head.Table (length coefficients)

is_read_back : (c : Certificate) → IsLawful c → IsReadBack c (head_of c)
is_read_back (certificate.Hints job log) h = record {
  size = h.0.size;
  words = h.0.words;
  kind = kind_back job kind.Hints [] [] h.0.belongs (All-nil IsPlain) tt;
  kind_plain = kind_line-plain kind.Hints [] (All-nil IsPlain);
  body = takes_made (log_in keyword.End) (certificate.Hints job) log (log_lines log ++ word_line keyword.End ∷ []) (takes_log keyword.End log h.1);
  body_plain = log_plain log h.1;
}
is_read_back (certificate.Invariant job candidate logs) h =
    let counts = candidate_counts candidate in
    let few = length candidate.inequalities.items in
    let depth = h.1.depth in
    let many = h.1.few in
    let inequalities = map inequality_line candidate.inequalities.items in
    let end = word_line keyword.End ∷ [] in
    let lines = inequalities ++ (logs_lines logs ++ end) in
    let proof : SetProof = record { candidate = candidate; logs = logs } in
    let whole = certificate.Invariant job candidate logs in
    let plain : ArePlain (map decimal counts) =
    All-cons IsPlain (decimal candidate.depth) (decimal few ∷ []) (decimal_plain candidate.depth (omega (arith, depth))) (one_plain few (omega (arith, many))) in
    record {
      size = h.0.size;
      words = h.0.words;
      kind = kind_back job kind.Invariant counts (pos candidate.depth ∷ pos few ∷ []) h.0.belongs plain
          (count_read greatest_depth candidate.depth (omega arith) depth, (count_read most_inequalities few (omega arith) many, tt));
      kind_plain = kind_line-plain kind.Invariant counts plain;
      body = takes_as (body_in job (head.Invariant candidate.depth few)) whole lines ((inequalities ++ logs_lines logs) ++ end)
          (sym (append_assoc inequalities (logs_lines logs) end))
          (takes_made (invariant_in candidate.depth few) (λ i. certificate.Invariant job i.candidate i.logs) proof lines (takes_invariant candidate logs h.1 h.2));
      body_plain = invariant_plain candidate logs h.1 h.2;
    }
is_read_back (certificate.Gain job depth None) h =
    let plain = one_plain depth (omega (arith, h.1)) in
    record {
      size = h.0.size;
      words = h.0.words;
      kind = kind_back job kind.Gain (depth ∷ []) (pos depth ∷ []) h.0.belongs plain (count_read most_gain_depth depth (omega arith) h.1, tt);
      kind_plain = kind_line-plain kind.Gain (depth ∷ []) plain;
      body = takes_made (word_in keyword.End) (λ _. certificate.Gain job depth None) [] (word_line keyword.End ∷ []) (takes_word keyword.End);
      body_plain = All-nil IsLine;
    }
is_read_back (certificate.Gain job depth (Some offer)) h =
    let few = length offer.ranges in
    let o = h.2 in
    let counts = roundoff_counts depth offer in
    let plain : ArePlain (map decimal counts) =
    All-cons IsPlain (decimal depth) (decimal offer.depth ∷ decimal few ∷ []) (decimal_plain depth (omega (arith, h.1)))
    (All-cons IsPlain (decimal offer.depth) (decimal few ∷ []) (decimal_plain offer.depth (omega (arith, o.depth))) (one_plain few (omega (arith, o.few)))) in
    record {
      size = h.0.size;
      words = h.0.words;
      kind = kind_back job kind.Error counts (pos depth ∷ pos offer.depth ∷ pos few ∷ []) (one_kind job ∙ h.0.belongs) plain
          (count_read most_gain_depth depth (omega arith) h.1, (count_read most_gain_depth offer.depth (omega arith) o.depth, (count_read most_box_ranges few (omega arith) o.few, tt)));
      kind_plain = kind_line-plain kind.Error counts plain;
      body = takes_made (roundoff_in offer.depth few) (λ offer. certificate.Gain job depth (Some offer)) offer (map range_line offer.ranges ++ word_line keyword.End ∷ []) (takes_roundoff offer o);
      body_plain = box_plain offer o;
    }
is_read_back (certificate.Falls job offer) h =
    let few = h.1.form.few in
    let plain = one_plain offer.form.d (omega (arith, few)) in
    record {
      size = h.0.size;
      words = h.0.words;
      kind = kind_back job kind.Falls (offer.form.d ∷ []) (pos offer.form.d ∷ []) h.0.belongs plain (count_read most_places offer.form.d (omega arith) few, tt);
      kind_plain = kind_line-plain kind.Falls (offer.form.d ∷ []) plain;
      body = takes_made (falls_in offer.form.d) (certificate.Falls job) offer (falls_lines offer ++ word_line keyword.End ∷ []) (takes_falls offer h.1);
      body_plain = falls_plain offer h.1;
    }
is_read_back (certificate.Table job coefficients) h =
    let count = length coefficients in
    let plain = one_plain count (omega (arith, h.2)) in
    record {
      size = h.0.size;
      words = h.0.words;
      kind = kind_back job kind.Table (count ∷ []) (pos count ∷ []) h.0.belongs plain (positive_read most_coefficients count (omega arith) h.1 h.2, tt);
      kind_plain = kind_line-plain kind.Table (count ∷ []) plain;
      body = takes_made (table_in count) (certificate.Table job) coefficients (map coefficient_line coefficients ++ word_line keyword.End ∷ []) (takes_table coefficients);
      body_plain = coefficients_plain coefficients;
    }

lines_plain : (c : Certificate) (h : KindHead) → IsReadBack c h → All IsLine (certificate_lines c)
lines_plain c h b =
    let job = job_of c in
    let end = word_line keyword.End ∷ [] in
    let body = body_lines c ++ end in
    let formats = format_lines job.words in
    All-append IsLine (head_lines job) (kind_line_of c ∷ body)
    (All-cons IsLine (version_line job.words) (job_line job ∷ formats) (version_plain job.words)
    (All-cons IsLine (job_line job) formats (job_line-plain job b.size) (format_lines-plain job.words b.words)))
    (All-cons IsLine (kind_line_of c) body b.kind_plain
    (All-append IsLine (body_lines c) end b.body_plain (All-cons IsLine (word_line keyword.End) [] (word_plain keyword.End) (All-nil IsLine))))

back_by : (c : Certificate) (h : KindHead) → IsReadBack c h → whole_certificate (certificate_text c) ≡ Ok c
back_by c h b =
    let body = body_lines c ++ word_line keyword.End ∷ [] in
    let rest = onto_lines body (unended []) in
    let first = takes_heading (job_of c) h (kind_line_of c) b.size b.words b.kind rest 1 in
    let last = b.body (unended []) first.0 in
    let heads = head_lines (job_of c) in
    let lines : lines_of (certificate_text c) ≡ onto_lines (heads ++ kind_line_of c ∷ []) rest =
    lines-written (certificate_lines c) (lines_plain c h b) ∙ onto_lines-append heads (kind_line_of c ∷ body) (unended [])
    ∙ sym (onto_lines-append heads (kind_line_of c ∷ []) rest) in
    ap (λ ls. heading_in (left_at ls 1) >>= λ heading. body_in heading.value.job heading.value.kind heading.left
    >>= λ body. whole_text body.value body.left.number body.left.lines) lines
    ∙ ap (λ (r : Result (Reading Heading) TextRefusal). r >>= λ heading. body_in heading.value.job heading.value.kind heading.left
    >>= λ body. whole_text body.value body.left.number body.left.lines) first.1
    ∙ ap (λ (r : Result (Reading Certificate) TextRefusal). r >>= λ body. whole_text body.value body.left.number body.left.lines) last.1

pub written_is_read : (c : Certificate) → IsLawful c → certificate_in (certificate_text c) ≡ Ok c
written_is_read c h = ap cert_answer (back_by c (head_of c) (is_read_back c h))
