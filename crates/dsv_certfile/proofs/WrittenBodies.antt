-- The lines of an invariant and of a falling form are read back.
use Rattle.std.proofs.Common.{◌≡◌, ◌∙◌, ap, ℕ, ◌+◌, ◌-◌, ◌≤◌, List, [], ◌∷◌, ◌++◌, length, map, replicate, Some, Result, Ok, ℤ, pos, refl, arith, append_assoc, length-append}
use Rattle.std.specs.Prelude.{min, max}
use Rattle.std.specs.List.{All}
use Rattle.std.specs.Fmt.{signed_decimal}
use Rattle.std.proofs.lemmas.List.{length-map, take_at, get_or_at}
use Rattle.std.proofs.lemmas.List.Elements.{All-cons, All-nil, All-append, All-map, All-weaker, All-push}
use Rattle.dsv_text.specs.Stages.{◌>>=◌}
use Rattle.dsv_template.specs.declared.candidate.Candidate.{Candidate}
use Rattle.dsv_template.specs.declared.candidate.Inequality.{Inequality}
use Rattle.dsv_template.specs.declared.verdict.ThreeLogs.{ThreeLogs}
use Rattle.dsv_hints.specs.declared.step.Step.{Step}
use Rattle.dsv_roundoff.specs.declared.offers.RoundoffOffer.{RoundoffOffer}
use Rattle.dsv_roundoff.specs.declared.offers.WordRange.{WordRange}
use Rattle.dsv_lines.specs.Texts.{IsPlain}
use Rattle.dsv_lines.specs.Readings.{reading_of}
use Rattle.dsv_certfile.specs.Bodies.{lines_from, numbers_of, word_in, inequality_with, inequality_numbers, inequality_in, logs_in, invariant_in, range_places, range_with, range_in, roundoff_in}
use Rattle.dsv_certfile.specs.Keywords.{keyword_text}
use Rattle.dsv_certfile.specs.Lawful.{IsEntry, IsInequality, IsSet, AreLogs, IsWordRange, IsRoundoffOffer}
use Rattle.dsv_certfile.specs.Numerals.{number_in}
use Rattle.dsv_certfile.specs.Places.{word_places, inequality_places}
use Rattle.dsv_certfile.specs.Steps.{log_in}
use Rattle.dsv_certfile.specs.Texts.{word_line, numbers_line, log_lines, inequality_line, logs_lines, range_line}
use Rattle.dsv_certfile.specs.declared.fault.TextFault.{TextFault}
use Rattle.dsv_certfile.specs.declared.invariant.SetProof.{SetProof}
use Rattle.dsv_certfile.specs.declared.keyword.Keyword.{Keyword}
use Rattle.dsv_certfile.specs.declared.keyword.Keyword.TheVariants as keyword
use Rattle.dsv_certfile.specs.declared.numbers.NumberRange.TheVariants as range
use Rattle.dsv_certfile.specs.declared.places.Place.TheVariants as place
use Rattle.dsv_lines.proofs.WrittenLines.{IsLine, line_bytes, pieces_of-line_bytes}
use Rattle.dsv_certfile.proofs.WrittenNumbers.{entry_read, entry_plain}
use Rattle.dsv_certfile.proofs.WrittenParts.{Reader, Takes, and_read, takes_as, takes_both, takes_made, takes_line, takes_lines}
use Rattle.dsv_certfile.proofs.WrittenPlaces.{row_written, keyword_plain, numbers_line-plain, numbers_of-line_bytes}
use Rattle.dsv_certfile.proofs.WrittenSteps.{takes_log, log_plain}

-- ---- lines of a word and numbers
pub word_plain : (w : Keyword) → IsLine (word_line w)
word_plain w = All-cons IsPlain (keyword_text w) [] (keyword_plain w) (All-nil IsPlain)

pub takes_word : (w : Keyword) → Takes (word_in w) [] (word_line w ∷ [])
takes_word w = takes_line (numbers_of (word_places w)) (word_line w) [] (numbers_of-line_bytes (word_places w) (word_line w) [] (word_plain w) (refl, tt))

-- ---- an invariant
entries_plain : (w : Keyword) (zs : List ℤ) → All IsEntry zs → IsLine (numbers_line w zs)
entries_plain w zs h = numbers_line-plain w zs (All-weaker IsEntry (λ z. IsPlain (signed_decimal z)) entry_plain zs h)

entries_are : (i : Inequality) → IsInequality i → All IsEntry (i.coefficients.items ++ i.bound ∷ [])
entries_are i h = All-push IsEntry i.coefficients.items i.bound h.coefficients h.bound

inequality_plain : (i : Inequality) → IsInequality i → IsLine (inequality_line i)
inequality_plain i h = entries_plain keyword.Inequality (i.coefficients.items ++ i.bound ∷ []) (entries_are i h)

-- a line of 1 to 17 numbers
entries_back : (zs : List ℤ) → 1 ≤ length zs → length zs ≤ 17 → All IsEntry zs → inequality_numbers (line_bytes (numbers_line keyword.Inequality zs)) ≡ Ok zs
entries_back zs some few h =
    let line = numbers_line keyword.Inequality zs in
    let plain = entries_plain keyword.Inequality zs h in
    let count : max 1 (min (length line - 1) 17) ≡ length zs = omega (arith, length-map zs signed_decimal, some, few) in
    let read = All-weaker IsEntry (λ z. number_in range.Entry (signed_decimal z) ≡ Some z) entry_read zs h in
    ap (λ ps. numbers_of (inequality_places (length ps)) (line_bytes line)) (pieces_of-line_bytes line plain)
    ∙ ap (λ n. numbers_of (place.Word keyword.Inequality ∷ replicate n (place.Number range.Entry)) (line_bytes line)) count
    ∙ numbers_of-line_bytes (place.Word keyword.Inequality ∷ replicate (length zs) (place.Number range.Entry)) line zs plain (refl, row_written range.Entry zs read)

inequality_with-entries : (cs : List ℤ) (b : ℤ) → inequality_with (cs ++ b ∷ []) ≡ record { coefficients = record { items = cs }; bound = b }
inequality_with-entries cs b =
    let e : length (cs ++ b ∷ []) - 1 ≡ length cs = omega (arith, length-append cs (b ∷ [])) in
    rw (e, take_at cs (b ∷ []) (length cs) refl, get_or_at cs b [] (pos 0) (length cs) refl) refl

inequality_back : (i : Inequality) → IsInequality i → inequality_in (line_bytes (inequality_line i)) ≡ Ok i
inequality_back i h =
    let zs = i.coefficients.items ++ i.bound ∷ [] in
    let long : length zs ≡ length i.coefficients.items + 1 = length-append i.coefficients.items (i.bound ∷ []) in
    ap (λ (r : Result (List ℤ) TextFault). r >>= λ numbers. Ok (inequality_with numbers))
    (entries_back zs (omega (arith, long)) (omega (arith, long, h.few)) (entries_are i h))
    ∙ ap Ok (inequality_with-entries i.coefficients.items i.bound)

-- a log for each sentence
abbrev pub after_step : List Step → List Step → Reader ThreeLogs
after_step base step ls = log_in keyword.End ls >>= λ safe. Ok (reading_of (record { base = base; step = step; safe = safe.value }) safe.left)

abbrev pub after_base : List Step → Reader ThreeLogs
after_base base = and_read (log_in keyword.Safe) (after_step base)

abbrev pub after_start : List ℤ → Reader ThreeLogs
after_start start = and_read (log_in keyword.Step) after_base

pub sections : {A : Type 0} (a b c e : A) (xs ys zs : List A)
    → (a ∷ []) ++ ((xs ++ b ∷ []) ++ ((ys ++ c ∷ []) ++ (zs ++ e ∷ []))) ≡ (((a ∷ xs) ++ (b ∷ ys)) ++ (c ∷ zs)) ++ e ∷ []
sections a b c e xs ys zs = simp append_assoc

takes_logs : (logs : ThreeLogs) → AreLogs logs → Takes logs_in logs (logs_lines logs ++ word_line keyword.End ∷ [])
takes_logs logs h =
    let base = log_lines logs.base ++ word_line keyword.Step ∷ [] in
    let step = log_lines logs.step ++ word_line keyword.Safe ∷ [] in
    let safe = log_lines logs.safe ++ word_line keyword.End ∷ [] in
    takes_as logs_in logs ((word_line keyword.Base ∷ []) ++ (base ++ (step ++ safe))) (logs_lines logs ++ word_line keyword.End ∷ [])
    (sections (word_line keyword.Base) (word_line keyword.Step) (word_line keyword.Safe) (word_line keyword.End) (log_lines logs.base) (log_lines logs.step) (log_lines logs.safe))
    (takes_both (word_in keyword.Base) after_start [] logs (word_line keyword.Base ∷ []) (base ++ (step ++ safe)) (takes_word keyword.Base)
    (takes_both (log_in keyword.Step) after_base logs.base logs base (step ++ safe) (takes_log keyword.Step logs.base h.base)
    (takes_both (log_in keyword.Safe) (after_step logs.base) logs.step logs step safe (takes_log keyword.Safe logs.step h.step)
    (takes_made (log_in keyword.End) (λ safe. record { base = logs.base; step = logs.step; safe = safe }) logs.safe safe (takes_log keyword.End logs.safe h.safe)))))

logs_plain : (logs : ThreeLogs) → AreLogs logs → All IsLine (logs_lines logs)
logs_plain logs h =
    let base = log_lines logs.base in
    let step = log_lines logs.step in
    let safe = log_lines logs.safe in
    All-append IsLine ((word_line keyword.Base ∷ base) ++ (word_line keyword.Step ∷ step)) (word_line keyword.Safe ∷ safe)
    (All-append IsLine (word_line keyword.Base ∷ base) (word_line keyword.Step ∷ step)
    (All-cons IsLine (word_line keyword.Base) base (word_plain keyword.Base) (log_plain logs.base h.base))
    (All-cons IsLine (word_line keyword.Step) step (word_plain keyword.Step) (log_plain logs.step h.step)))
    (All-cons IsLine (word_line keyword.Safe) safe (word_plain keyword.Safe) (log_plain logs.safe h.safe))

abbrev pub proof_with : ℕ → List Inequality → ThreeLogs → SetProof
proof_with depth inequalities logs = record { candidate = record { inequalities = record { items = inequalities }; depth = depth }; logs = logs }

abbrev pub after_inequalities : ℕ → List Inequality → Reader SetProof
after_inequalities depth inequalities ls = logs_in ls >>= λ logs. Ok (reading_of (proof_with depth inequalities logs.value) logs.left)

pub takes_invariant : (candidate : Candidate) (logs : ThreeLogs) → IsSet candidate → AreLogs logs
    → Takes (invariant_in candidate.depth (length candidate.inequalities.items)) (record { candidate = candidate; logs = logs })
    (map inequality_line candidate.inequalities.items ++ (logs_lines logs ++ word_line keyword.End ∷ []))
takes_invariant candidate logs h k =
    let items = candidate.inequalities.items in
    let lines = logs_lines logs ++ word_line keyword.End ∷ [] in
    takes_both (lines_from inequality_in (length items) []) (after_inequalities candidate.depth) items (record { candidate = candidate; logs = logs })
    (map inequality_line items) lines
    (takes_lines inequality_in inequality_line items [] (All-weaker IsInequality (λ i. inequality_in (line_bytes (inequality_line i)) ≡ Ok i) inequality_back items h.inequalities))
    (takes_made logs_in (proof_with candidate.depth items) logs lines (takes_logs logs k))

pub invariant_plain : (candidate : Candidate) (logs : ThreeLogs) → IsSet candidate → AreLogs logs
    → All IsLine (map inequality_line candidate.inequalities.items ++ logs_lines logs)
invariant_plain candidate logs h k =
    All-append IsLine (map inequality_line candidate.inequalities.items) (logs_lines logs)
    (All-map IsLine inequality_line candidate.inequalities.items (All-weaker IsInequality (λ i. IsLine (inequality_line i)) inequality_plain candidate.inequalities.items h.inequalities))
    (logs_plain logs k)

-- ---- how far outputs are from those of exact runs
abbrev pub offer_with : ℕ → List WordRange → RoundoffOffer
offer_with depth ranges = record { depth = depth; ranges = ranges }

abbrev pub after_ranges : ℕ → List WordRange → Reader RoundoffOffer
after_ranges depth ranges ls = word_in keyword.End ls >>= λ end. Ok (reading_of (offer_with depth ranges) end.left)

ends_are : (w : WordRange) → IsWordRange w → All IsEntry (w.low ∷ w.high ∷ [])
ends_are w h = All-cons IsEntry w.low (w.high ∷ []) h.low (All-cons IsEntry w.high [] h.high (All-nil IsEntry))

range_plain : (w : WordRange) → IsWordRange w → IsLine (range_line w)
range_plain w h = entries_plain keyword.Box (w.low ∷ w.high ∷ []) (ends_are w h)

range_back : (w : WordRange) → IsWordRange w → range_in (line_bytes (range_line w)) ≡ Ok w
range_back w h =
    ap (λ (r : Result (List ℤ) TextFault). r >>= λ numbers. Ok (range_with numbers))
    (numbers_of-line_bytes range_places (range_line w) (w.low ∷ w.high ∷ []) (range_plain w h) (refl, (entry_read w.low h.low, (entry_read w.high h.high, tt))))

pub takes_roundoff : (offer : RoundoffOffer) → IsRoundoffOffer offer
    → Takes (roundoff_in offer.depth (length offer.ranges)) offer (map range_line offer.ranges ++ word_line keyword.End ∷ [])
takes_roundoff offer h =
    takes_both (lines_from range_in (length offer.ranges) []) (after_ranges offer.depth) offer.ranges offer (map range_line offer.ranges) (word_line keyword.End ∷ [])
    (takes_lines range_in range_line offer.ranges [] (All-weaker IsWordRange (λ w. range_in (line_bytes (range_line w)) ≡ Ok w) range_back offer.ranges h.ranges))
    (takes_made (word_in keyword.End) (λ _. offer) [] (word_line keyword.End ∷ []) (takes_word keyword.End))

pub box_plain : (offer : RoundoffOffer) → IsRoundoffOffer offer → All IsLine (map range_line offer.ranges)
box_plain offer h = All-map IsLine range_line offer.ranges (All-weaker IsWordRange (λ w. IsLine (range_line w)) range_plain offer.ranges h.ranges)
