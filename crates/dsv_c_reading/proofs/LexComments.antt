-- The comments of a text, which have no tokens.
use Rattle.std.proofs.Common.{◌≡◌, refl, arith, ℕ, ◌-◌, ◌^◌, ◌<◌, ◌≤◌, Bool, true, false, List, [], ◌++◌, Some}
use Rattle.std.specs.Prelude.{codes}
use Rattle.std.specs.List.{list_all}
use Rattle.std.specs.Fmt.{signed_decimal}
use Rattle.std.specs.Int.RustNames.{unsigned_abs}
use Rattle.std.proofs.Math.IntN.{ℤ, pos}
use Rattle.dsv_names.specs.OverflowModes.{overflow_mode_name}
use Rattle.dsv_names.specs.declared.overflow_mode.OverflowMode.{OverflowMode}
use Rattle.dsv_names.specs.declared.overflow_mode.OverflowMode.TheVariants as overflow_mode
use Rattle.dsv_names.specs.Realisations.{realisation_name}
use Rattle.dsv_names.specs.declared.realisation.Realisation.{Realisation}
use Rattle.dsv_names.specs.declared.realisation.Realisation.TheVariants as realisation
use Rattle.dsv_names.specs.Roundings.{rounding_name}
use Rattle.dsv_names.specs.declared.rounding.Rounding.{Rounding}
use Rattle.dsv_names.specs.declared.rounding.Rounding.TheVariants as rounding
use Rattle.dsv_word.specs.declared.format.Format.{Format}
use Rattle.dsv_word.specs.Words.{width, lo, hi}
use Rattle.dsv_ctext.specs.declared.remarks.Origin.{Origin}
use Rattle.dsv_ctext.specs.declared.remarks.Origin.TheVariants as origin
use Rattle.dsv_ctext.specs.declared.remarks.Remarks.{Remarks}
use Rattle.dsv_ctext.specs.Comments.{origin_text, wide_end, origin_end, title_modes, title_words, words_end, title_text, range_text, range_start, range_end, step_remark}
use Rattle.dsv_c_reading.specs.Labels.{IsOrigin, AreRemarks}
use Rattle.dsv_c_reading.specs.Machines.{gone, steps}
use Rattle.dsv_c_reading.specs.Lexemes.{Open, nothing, comment, lex_next}
use Rattle.dsv_c_reading.proofs.Runs.{steps_then}
use Rattle.dsv_c.proofs.Helpers.{low_size, high_size}
use Rattle.dsv_c_reading.proofs.LexSizes.{power_within}
use Rattle.dsv_c_reading.proofs.LexQuiet.{is_quiet, IsQuiet, quiet_runs, quiet_join, quiet_decimal, quiet_signed}

-- ---- in a comment
abbrev pub InComment : Open → List ℕ → Open → Type 0
InComment s x t = steps lex_next s x ≡ Some (gone [] t)

pub comment_join : (s t u : Open) (x y : List ℕ) → InComment s x t → InComment t y u → InComment s (x ++ y) u
comment_join s t u x y p q = steps_then lex_next s t u x y [] [] p q

-- a text of quiet bytes, and an end after it
pub quiet_then : (x y : List ℕ) → IsQuiet x → InComment (comment false) y nothing → InComment (comment false) (x ++ y) nothing
quiet_then x y p q = comment_join (comment false) (comment false) nothing x y (quiet_runs x p) q

-- ---- the beginning
realisation_quiet : (r : Realisation) → IsQuiet (realisation_name r)
realisation_quiet realisation.Dfi = record { bytes = refl }
realisation_quiet realisation.Dfii = record { bytes = refl }
realisation_quiet realisation.Tdfii = record { bytes = refl }
realisation_quiet realisation.Ddfi = record { bytes = refl }
realisation_quiet realisation.Ddfii = record { bytes = refl }
realisation_quiet realisation.Tddfii = record { bytes = refl }

rounding_quiet : (r : Rounding) → IsQuiet (rounding_name r)
rounding_quiet rounding.Floor = record { bytes = refl }
rounding_quiet rounding.Ceil = record { bytes = refl }
rounding_quiet rounding.Nearest = record { bytes = refl }

mode_quiet : (m : OverflowMode) → IsQuiet (overflow_mode_name m)
mode_quiet overflow_mode.Wrap = record { bytes = refl }
mode_quiet overflow_mode.Saturate = record { bytes = refl }

-- a constant text
fixed : (x : List ℕ) → list_all is_quiet x ≡ true → IsQuiet x
fixed x h = record { bytes = h }

number_quiet : (n : ℕ) → n < 2 ^ 32 → IsQuiet (signed_decimal (pos n))
number_quiet n h = quiet_decimal n (omega arith)

origin_quiet : (o : Origin) → IsOrigin o → IsQuiet (origin_text o)
origin_quiet (origin.Controller r wide) h = quiet_join (realisation_quiet r) (fixed (codes " ") refl)
origin_quiet (origin.Cascade n r wide) h = quiet_join (fixed (codes "sections ") refl) (quiet_join (number_quiet n h) (quiet_join (fixed (codes " ") refl) (quiet_join (realisation_quiet r) (fixed (codes " ") refl))))
origin_quiet (origin.States n) h = quiet_join (fixed (codes "state-space ") refl) (quiet_join (number_quiet n h) (fixed (codes " ") refl))

wide_quiet : (wide : Bool) → IsQuiet (wide_end wide)
wide_quiet true = record { bytes = refl }
wide_quiet false = record { bytes = refl }

end_quiet : (o : Origin) → IsQuiet (origin_end o)
end_quiet (origin.Controller r wide) = wide_quiet wide
end_quiet (origin.Cascade n r wide) = wide_quiet wide
end_quiet (origin.States n) = record { bytes = refl }

modes_quiet : (r : Remarks) → IsQuiet (title_modes r)
modes_quiet r = quiet_join (rounding_quiet r.format.rounding) (quiet_join (fixed (codes " ") refl) (quiet_join (mode_quiet r.format.overflow) (quiet_join (end_quiet r.origin) (fixed [] refl))))

words_runs : (f : Format) → width f ≤ 64 → InComment (comment false) (title_words f) nothing
words_runs f h =
    let n : IsQuiet (signed_decimal (pos (width f))) = quiet_decimal (width f) (omega arith) in
    let few : f.frac_bits < 10 ^ 64 = omega arith in
    let m : IsQuiet (signed_decimal (pos f.frac_bits)) = quiet_decimal f.frac_bits few in
    let a = signed_decimal (pos f.frac_bits) ++ words_end in
    let b = codes " of them after the point: w stands for w / 2^" ++ a in
    let c = signed_decimal (pos f.frac_bits) ++ b in
    let d = codes " bits, " ++ c in
    quiet_then (codes "   Words have ") (signed_decimal (pos (width f)) ++ d) (fixed (codes "   Words have ") refl)
    (quiet_then (signed_decimal (pos (width f))) d n
    (quiet_then (codes " bits, ") c (fixed (codes " bits, ") refl)
    (quiet_then (signed_decimal (pos f.frac_bits)) b m
    (quiet_then (codes " of them after the point: w stands for w / 2^") a (fixed (codes " of them after the point: w stands for w / 2^") refl)
    (quiet_then (signed_decimal (pos f.frac_bits)) words_end m refl)))))

pub title_runs : (r : Remarks) → AreRemarks r → InComment nothing (title_text r) nothing
title_runs r h =
    comment_join nothing (comment false) nothing (codes "/* ") (origin_text r.origin ++ (title_modes r ++ title_words r.format)) refl
    (quiet_then (origin_text r.origin) (title_modes r ++ title_words r.format) (origin_quiet r.origin h.origin)
    (quiet_then (title_modes r) (title_words r.format) (modes_quiet r) (words_runs r.format h.words)))

-- ---- before the step function
range_quiet : (low high : ℤ) → unsigned_abs low ≤ 2 ^ 64 → unsigned_abs high ≤ 2 ^ 64 → IsQuiet (range_text low high)
range_quiet low high h k = quiet_join (quiet_signed low (omega arith)) (quiet_join (fixed (codes " to ") refl) (quiet_join (quiet_signed high (omega arith)) (fixed [] refl)))

half_small : (n : ℕ) → n ≤ 64 → 2 ^ (n - 1) ≤ 2 ^ 64
half_small n h = power_within (n - 1) 64 (omega arith)

lo_size : (n : ℕ) → n ≤ 64 → unsigned_abs (lo n) ≤ 2 ^ 64
lo_size n h = omega (arith, low_size n, half_small n h)

hi_size : (n : ℕ) → n ≤ 64 → unsigned_abs (hi n) ≤ 2 ^ 64
hi_size n h = omega (arith, high_size n, half_small n h)

pub remark_runs : (r : Remarks) → AreRemarks r → InComment nothing (step_remark r) nothing
remark_runs r h =
    let words = range_text (lo (width r.format)) (hi (width r.format)) in
    let inputs = range_text r.low r.high in
    comment_join nothing (comment false) nothing (codes "/* y(n) of the input x(n), which is a word: ") (words ++ (range_start ++ (inputs ++ range_end))) refl
    (quiet_then words (range_start ++ (inputs ++ range_end)) (range_quiet (lo (width r.format)) (hi (width r.format)) (lo_size (width r.format) h.words) (hi_size (width r.format) h.words))
    (quiet_then range_start (inputs ++ range_end) (fixed range_start refl) (quiet_then inputs range_end (range_quiet r.low r.high (omega (arith, h.low)) (omega (arith, h.high))) refl)))
