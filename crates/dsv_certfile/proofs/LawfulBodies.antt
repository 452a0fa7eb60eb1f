-- An invariant that was read has numbers of their ranges, and its lines are those that it was read of.
use Rattle.std.proofs.Common.{◌≡◌, ◌∙◌, sym, ap, ℕ, ◌+◌, ◌-◌, ◌≤◌, List, [], ◌∷◌, ◌++◌, length, map, take, get_or, Ok, IfOk, ℤ, pos, refl, arith}
use Rattle.std.specs.Prelude.{min, max}
use Rattle.std.specs.List.{All}
use Rattle.std.proofs.Math.Seq.{take-length}
use Rattle.std.proofs.lemmas.List.{length-take, take_more}
use Rattle.std.proofs.lemmas.List.Elements.{All-nil, All-take, All-get_or}
use Rattle.dsv_roundoff.specs.declared.offers.RoundoffOffer.{RoundoffOffer}
use Rattle.dsv_template.specs.declared.verdict.ThreeLogs.{ThreeLogs}
use Rattle.dsv_certfile.specs.Bodies.{lines_from, word_in, numbers_of, inequality_with, inequality_numbers, inequality_in, logs_in, invariant_in, range_places, range_with, range_in, roundoff_in}
use Rattle.dsv_certfile.specs.Keywords.{keyword_text}
use Rattle.dsv_certfile.specs.Lawful.{IsEntry, IsInequality, IsSet, AreLogs, IsWordRange, IsRoundoffOffer}
use Rattle.dsv_certfile.specs.Limits.{greatest_depth, most_gain_depth, most_box_ranges}
use Rattle.dsv_template.specs.Limits.{most_inequalities}
use Rattle.dsv_lines.specs.Pieces.{pieces_of}
use Rattle.dsv_lines.specs.Texts.{Line}
use Rattle.dsv_certfile.specs.Places.{inequality_places}
use Rattle.dsv_certfile.specs.Steps.{log_in}
use Rattle.dsv_certfile.specs.Texts.{word_line, numbers_line, inequality_line, log_lines, logs_lines, range_line}
use Rattle.dsv_certfile.specs.declared.invariant.SetProof.{SetProof}
use Rattle.dsv_certfile.specs.declared.keyword.Keyword.TheVariants as keyword
use Rattle.dsv_certfile.specs.declared.numbers.NumberRange.TheVariants as range
use Rattle.dsv_certfile.proofs.LawfulParts.{then_has, Yields, yields_both, yields_made, AreRead, IsTextOf, yields_lines, joined}
use Rattle.dsv_certfile.proofs.LawfulSteps.{IsLogOf, yields_log}
use Rattle.dsv_certfile.proofs.RangeLemmas.{row_has}
use Rattle.dsv_certfile.proofs.ReadPlaces.{AreSpelled, line_numbers_spelled, yields_word, row_short, row_spelled}
use Rattle.dsv_certfile.proofs.WrittenBodies.{after_step, after_base, after_start, sections, after_inequalities, proof_with, after_ranges, offer_with}

-- 1 to 17 numbers
record AreNumbers (zs : List ℤ) : Type 0 where
  some : 1 ≤ length zs
  few : length zs ≤ 17
  entries : All IsEntry zs

numbers_are : (n : ℕ) (zs : List ℤ) → (length zs ≡ max 1 (min n 17)) × All IsEntry zs → AreNumbers zs
numbers_are n zs h = record { some = omega (arith, h.0); few = omega (arith, h.0); entries = h.1 }

inequality_of : (zs : List ℤ) → AreNumbers zs → IsInequality (inequality_with zs)
inequality_of zs h = record {
  few = omega (arith, length-take (length zs - 1) zs, h.few, h.some);
  coefficients = All-take IsEntry (length zs - 1) zs h.entries;
  bound = All-get_or IsEntry zs (length zs - 1) (pos 0) (omega (arith, h.some)) h.entries;
}

-- the last number after the others
last_apart : (zs : List ℤ) → 1 ≤ length zs → zs ≡ take (length zs - 1) zs ++ get_or zs (length zs - 1) (pos 0) ∷ []
last_apart zs some =
    let last = length zs - 1 in
    let all : last + 1 ≡ length zs = omega (arith, some) in
    sym (take-length zs) ∙ ap (λ n. take n zs) (sym all) ∙ take_more zs last (pos 0) (omega (arith, some))

inequality_read : (pieces : Line) (zs : List ℤ) → AreSpelled (inequality_places (length pieces)) pieces zs → IsTextOf inequality_line IsInequality pieces (inequality_with zs)
inequality_read pieces zs s =
    let n = max 1 (min (length pieces - 1) 17) in
    let row = row_has range.Entry n zs s.ranges in
    let are = numbers_are (length pieces - 1) zs row in (
      inequality_of zs are,
      s.line ∙ ap (λ ls. keyword_text keyword.Inequality ∷ ls) (row_spelled range.Entry n zs row.0) ∙ ap (numbers_line keyword.Inequality) (last_apart zs are.some),
    )

inequality_has : (bytes : List ℕ) → IfOk (inequality_in bytes) (IsTextOf inequality_line IsInequality (pieces_of bytes))
inequality_has bytes =
    let pieces = pieces_of bytes in
    let places = inequality_places (length pieces) in
    then_has (inequality_numbers bytes) (λ (zs : List ℤ). Ok (inequality_with zs)) (AreSpelled places pieces) (IsTextOf inequality_line IsInequality pieces)
    (line_numbers_spelled places pieces (row_short range.Entry (max 1 (min (length pieces - 1) 17)) refl)) (inequality_read pieces)

abbrev AreLogsOf : ThreeLogs → List Line → Type 0
AreLogsOf logs ls = AreLogs logs × (ls ≡ logs_lines logs ++ word_line keyword.End ∷ [])

yields_logs : Yields logs_in AreLogsOf
yields_logs =
    yields_both (word_in keyword.Base) after_start (λ _ ls. ls ≡ word_line keyword.Base ∷ []) AreLogsOf (yields_word keyword.Base)
    (λ _ start e. yields_both (log_in keyword.Step) after_base (IsLogOf keyword.Step) (λ logs ls. AreLogsOf logs (start ++ ls)) (yields_log keyword.Step)
    (λ base bs b. yields_both (log_in keyword.Safe) (after_step base) (IsLogOf keyword.Safe) (λ logs ls. AreLogsOf logs (start ++ (bs ++ ls))) (yields_log keyword.Safe)
    (λ step ss s. yields_made (log_in keyword.End) (λ safe. record { base = base; step = step; safe = safe }) (IsLogOf keyword.End)
    (λ logs ls. AreLogsOf logs (start ++ (bs ++ (ss ++ ls)))) (yields_log keyword.End)
    (λ safe es h. (
      record { base = b.0; step = s.0; safe = h.0 },
      joined e (joined b.1 (joined s.1 h.1))
          ∙ sections (word_line keyword.Base) (word_line keyword.Step) (word_line keyword.Safe) (word_line keyword.End) (log_lines base) (log_lines step) (log_lines safe),
    )))))

-- ---- how far outputs are from those of exact runs
range_is : (pieces : Line) (zs : List ℤ) → AreSpelled range_places pieces zs → IsTextOf range_line IsWordRange pieces (range_with zs)
range_is pieces [] s = absurd (s.ranges)
range_is pieces (low ∷ []) s = absurd (s.ranges.1)
range_is pieces (low ∷ high ∷ []) s = (record { low = s.ranges.0; high = s.ranges.1.0 }, s.line)
range_is pieces (low ∷ high ∷ z ∷ zs) s = absurd (s.ranges.1.1)

range_has : (bytes : List ℕ) → IfOk (range_in bytes) (IsTextOf range_line IsWordRange (pieces_of bytes))
range_has bytes =
    let pieces = pieces_of bytes in
    then_has (numbers_of range_places bytes) (λ (zs : List ℤ). Ok (range_with zs)) (AreSpelled range_places pieces) (IsTextOf range_line IsWordRange pieces)
    (line_numbers_spelled range_places pieces refl) (range_is pieces)

-- the offer of the depth and of so many ranges that these lines say
pub record IsOfferOf (depth count : ℕ) (offer : RoundoffOffer) (ls : List Line) : Type 0 where
  pub offer_is : IsRoundoffOffer offer
  pub depth_is : offer.depth ≡ depth
  pub many : length offer.ranges ≡ count
  pub lines : ls ≡ map range_line offer.ranges ++ word_line keyword.End ∷ []

pub yields_roundoff : (depth count : ℕ) → depth ≤ most_gain_depth → count ≤ most_box_ranges → Yields (roundoff_in depth count) (IsOfferOf depth count)
yields_roundoff depth count h k =
    yields_both (lines_from range_in count []) (after_ranges depth) (AreRead range_line IsWordRange count []) (IsOfferOf depth count)
    (yields_lines range_in range_line IsWordRange range_has count [] (All-nil IsWordRange))
    (λ ws ls q. yields_made (word_in keyword.End) (λ _. offer_with depth ws) (λ _ es. es ≡ word_line keyword.End ∷ []) (λ offer es. IsOfferOf depth count offer (ls ++ es)) (yields_word keyword.End)
    (λ _ es e. record {
      offer_is = record { depth = h; few = omega (arith, q.many, k); ranges = q.have };
      depth_is = refl;
      many = omega (arith, q.many);
      lines = joined q.texts e;
    }))

-- ---- an invariant
-- the set of the depth and of so many inequalities that these lines say, and its logs
pub record IsProofOf (depth count : ℕ) (p : SetProof) (ls : List Line) : Type 0 where
  pub set : IsSet p.candidate
  pub logs : AreLogs p.logs
  pub depth_is : p.candidate.depth ≡ depth
  pub many : length p.candidate.inequalities.items ≡ count
  pub lines : ls ≡ map inequality_line p.candidate.inequalities.items ++ (logs_lines p.logs ++ word_line keyword.End ∷ [])

pub yields_invariant : (depth count : ℕ) → depth ≤ greatest_depth → count ≤ most_inequalities → Yields (invariant_in depth count) (IsProofOf depth count)
yields_invariant depth count h k =
    yields_both (lines_from inequality_in count []) (after_inequalities depth) (AreRead inequality_line IsInequality count []) (IsProofOf depth count)
    (yields_lines inequality_in inequality_line IsInequality inequality_has count [] (All-nil IsInequality))
    (λ xs ls q. yields_made logs_in (proof_with depth xs) AreLogsOf (λ p es. IsProofOf depth count p (ls ++ es)) yields_logs
    (λ logs es l. record {
      set = record { depth = h; few = omega (arith, q.many, k); inequalities = q.have };
      logs = l.0;
      depth_is = refl;
      many = omega (arith, q.many);
      lines = joined q.texts l.1;
    }))
