-- The exact run of the written equations: over fractions, without rounding and without fitting.
--
-- Its values are whole numbers over a denominator, the same in all samples, as in the exact run of
-- a netlist. The coefficients are the controller's words, and the word c stands for c over
-- 2^frac_bits.
use Rattle.std.specs.Prelude.{◌≡◌, ◌^◌, List, [], ◌∷◌, ◌++◌, drop, ℤ, pos, ◌*ℤ◌}
use Rattle.dsv_word.specs.declared.format.Format.{Format}
use Rattle.dsv_names.specs.declared.realisation.Realisation.{Realisation}
use Rattle.dsv_names.specs.declared.realisation.Realisation.TheVariants.{Dfi, Dfii, Tdfii}
use Rattle.dsv_names.specs.declared.realisation.Realisation.TheVariants.{Ddfi, Ddfii, Tddfii}
use Rattle.dsv_quantiser.specs.QuantisedView.{QuantisedView}
use Rattle.dsv_system.specs.Systems.{zeros}
use Rattle.dsv_meaning.specs.declared.summands.Summand.{Summand}
use Rattle.dsv_meaning.specs.declared.summands.Summand.TheVariants.{Alone}
use Rattle.dsv_meaning.specs.Lines.{total}
use Rattle.dsv_meaning.specs.Equations.{Past, latest, ago, feedback, forward_summands}
use Rattle.dsv_meaning.specs.Equations.{feedback_summands, transposed_output, transposed_line}
use Rattle.dsv_meaning.specs.Equations.{delta_line}
use Rattle.dsv_meaning.specs.Systems.{equations_of}

-- ---- lines
-- e is the exact value of a line, whichever way it is summed: 2^frac_bits e is the sum of its
-- products and of its words alone times 2^frac_bits
abbrev pub IsLine : Format → List (Summand ℤ) → ℤ → Type 0
IsLine format line e = pos (2 ^ format.frac_bits) *ℤ e ≡ total format line

-- these are the exact values of the lines
abbrev pub AreLines : Format → List (List (Summand ℤ)) → List ℤ → Type 0
AreLines format [] [] = Unit {0}
AreLines format [] (e ∷ values) = ⊥
AreLines format (line ∷ lines) [] = ⊥
AreLines format (line ∷ lines) (e ∷ values) = IsLine format line e × AreLines format lines values

-- new w_j = old w_j + delta v_j
abbrev pub delta_lines : QuantisedView → List ℤ → List ℤ → List (List (Summand ℤ))
delta_lines q (w ∷ ws) (v ∷ vs) = delta_line q w v ∷ delta_lines q ws vs
delta_lines q _ _ = []

-- new s_i = b_i x - a_i y + old s_(i+1), where `s` is old s_i and those after it
abbrev pub transposed_lines : ℤ → ℤ → List ℤ → List ℤ → List ℤ → List (List (Summand ℤ))
transposed_lines x y (b ∷ bs) (a ∷ cs) s =
    transposed_line b a x y (drop 1 s) ∷ transposed_lines x y bs cs (drop 1 s)
transposed_lines x y _ _ s = []

-- ---- one sample
-- y is the output of a sample at the input x after this past, and `next` is the past with the
-- sample in it; all of them are over the denominator
abbrev pub IsSampleAs : Realisation → QuantisedView → Past → ℤ → ℤ → Past → Type 0
-- y(n) = b_0 x(n) + .. + b_N x(n-N) - a_1 y(n-1) - .. - a_N y(n-N)
IsSampleAs Dfi q p x y next =
    IsLine q.format (forward_summands q (ago (x ∷ p.signal))
    ++ feedback_summands q (ago p.outputs) 0) y
    × (next ≡ record p { signal = x ∷ p.signal; outputs = y ∷ p.outputs })
-- w(n) = x(n) - a_1 w(n-1) - .. - a_N w(n-N); y(n) = b_0 w(n) + .. + b_N w(n-N)
IsSampleAs Dfii q p x y next =
    (w : ℤ) × IsLine q.format (Alone x ∷ feedback_summands q (ago p.signal) 0) w
    × IsLine q.format (forward_summands q (ago (w ∷ p.signal))) y
    × (next ≡ record p { signal = w ∷ p.signal })
-- y(n) = b_0 x(n) + s_1; then the new s_i
IsSampleAs Tdfii q p x y next =
    (s : List ℤ) × IsLine q.format (transposed_output q x (latest p.chain)) y
    × AreLines q.format (transposed_lines x y (drop 1 q.b) (feedback q) (latest p.chain)) s
    × (next ≡ record p { chain = s ∷ p.chain })
-- y(n) = b_0 x(n) + b_1 u_1 + .. + b_N u_N - a_1 v_1 - .. - a_N v_N; then the new u_j, each with
-- delta times the old one before it, where x(n) stands before u_1, and the new v_j, where y(n)
-- stands before v_1
IsSampleAs Ddfi q p x y next =
    (u : List ℤ) × (v : List ℤ)
    × IsLine q.format (forward_summands q (ago (x ∷ latest p.chain))
    ++ feedback_summands q (ago (latest p.output_chain)) 0) y
    × AreLines q.format (delta_lines q (latest p.chain) (x ∷ latest p.chain)) u
    × AreLines q.format (delta_lines q (latest p.output_chain) (y ∷ latest p.output_chain)) v
    × (next ≡ record p { chain = u ∷ p.chain; output_chain = v ∷ p.output_chain })
-- w_0 = x(n) - a_1 w_1 - .. - a_N w_N; y(n) = b_0 w_0 + .. + b_N w_N; then the new w_j
IsSampleAs Ddfii q p x y next =
    (w_0 : ℤ) × (w : List ℤ)
    × IsLine q.format (Alone x ∷ feedback_summands q (ago (latest p.chain)) 0) w_0
    × IsLine q.format (forward_summands q (ago (w_0 ∷ latest p.chain))) y
    × AreLines q.format (delta_lines q (latest p.chain) (w_0 ∷ latest p.chain)) w
    × (next ≡ record p { chain = w ∷ p.chain })
-- y(n) = b_0 x(n) + s_1; then the new s_i = old s_i + delta t_i, with the lines of TDFII as t_i
IsSampleAs Tddfii q p x y next =
    (t : List ℤ) × (s : List ℤ)
    × IsLine q.format (transposed_output q x (latest p.chain)) y
    × AreLines q.format (transposed_lines x y (drop 1 q.b) (feedback q) (latest p.chain)) t
    × AreLines q.format (delta_lines q (latest p.chain) t) s
    × (next ≡ record p { chain = s ∷ p.chain })

-- ---- runs
-- these over d are the outputs of the exact run after this past, over these inputs
abbrev pub RunsFrom : QuantisedView → ℤ → Past → List ℤ → List ℤ → Type 0
RunsFrom q d p [] [] = Unit {0}
RunsFrom q d p [] (y ∷ ys) = ⊥
RunsFrom q d p (x ∷ xs) [] = ⊥
RunsFrom q d p (x ∷ xs) (y ∷ ys) =
    (next : Past) × IsSampleAs q.realisation q p (d *ℤ x) y next × RunsFrom q d next xs ys

-- The exact run of the written equations from registers of zeros over these inputs: these over d
-- are its outputs.
abbrev pub RunsAsWritten : QuantisedView → ℤ → List ℤ → List ℤ → Type 0
RunsAsWritten q d xs ys = RunsFrom q d
    ((equations_of q).start (zeros (equations_of q).many)) xs ys
