-- The written equations of the six realisations. N is the order, x(n) the input, y(n) the output.
use Rattle.std.specs.Prelude.{ℕ, ◌+◌, ◌-◌, ◌*◌, true, false, List, [], ◌∷◌}
use Rattle.std.specs.Prelude.{◌++◌, length, take, drop, ℤ, pos, slice_index_or}
use Rattle.dsv_names.specs.declared.realisation.Realisation.{Realisation}
use Rattle.dsv_names.specs.declared.realisation.Realisation.TheVariants.{Dfi, Dfii, Tdfii}
use Rattle.dsv_names.specs.declared.realisation.Realisation.TheVariants.{Ddfi, Ddfii, Tddfii}
use Rattle.dsv_quantiser.specs.QuantisedView.{QuantisedView}
use Rattle.dsv_meaning.specs.declared.summands.Summand.{Summand}
use Rattle.dsv_meaning.specs.declared.summands.Summand.TheVariants.{Times, Alone}
use Rattle.dsv_meaning.specs.Lines.{Sum, summands, line}
use Rattle.dsv_system.specs.Runs.{Sampled}

abbrev pub order : QuantisedView → ℕ
order q = length q.a - 1

-- the coefficients a_1 to a_N
abbrev pub feedback : QuantisedView → List ℤ
feedback q = drop 1 q.a

-- the word of a signal i samples ago, where the newest stands first
abbrev pub ago : List ℤ → ℕ → ℤ
ago signal i = slice_index_or signal i (pos 0)

-- A run's past: whole signals, newest sample first, which go on before sample 0 into the start.
-- `signal` is x of DFI and w of DFII, `outputs` is y of DFI. The chains are the registers after
-- each sample, newest sample first: s of TDFII and TDDFII, w of DDFII, u of DDFI; `output_chain` is
-- v of DDFI.
pub record Past : Type 0 where
  pub signal : List ℤ
  pub outputs : List ℤ
  pub chain : List (List ℤ)
  pub output_chain : List (List ℤ)

abbrev pub latest : List (List ℤ) → List ℤ
latest chains = slice_index_or chains 0 []

-- a line in the controller's words and its way of summing
abbrev pub line_of : QuantisedView → List ℤ → List (Summand ℤ) → Sum
line_of q old ts = line q.wide q.format old ts

-- ---- the lines, over words or over the nodes that have them
-- b_0 w(0) + b_1 w(1) + ..
abbrev pub forward_summands : {A : Type 0} → QuantisedView → (ℕ → A) → List (Summand A)
forward_summands q w = summands false q.b w 0

-- - a_1 w(k) - a_2 w(k+1) - ..
abbrev pub feedback_summands : {A : Type 0} → QuantisedView → (ℕ → A) → ℕ → List (Summand A)
feedback_summands q w k = summands true (feedback q) w k

-- the first word of a chain, alone
abbrev pub first_alone : {A : Type 0} → List A → List (Summand A)
first_alone [] = []
first_alone (s ∷ ss) = Alone s ∷ []

-- b_0 x + s_1
abbrev pub transposed_output : {A : Type 0} → QuantisedView → A → List A → List (Summand A)
transposed_output q x s = summands false (take 1 q.b) (λ i. x) 0 ++ first_alone s

-- b_i x - a_i y + old s_(i+1), where `s` begins with old s_(i+1)
abbrev pub transposed_line : {A : Type 0} → ℤ → ℤ → A → A → List A → List (Summand A)
transposed_line b a x y s = Times false b x ∷ Times true a y ∷ first_alone s

-- old w + delta v
abbrev pub delta_line : {A : Type 0} → QuantisedView → A → A → List (Summand A)
delta_line q w v = Alone w ∷ Times false q.delta v ∷ []

-- ---- chains
-- the new words of a chain so far, with the exact values so far
pub record Chain : Type 0 where
  pub words : List ℤ
  pub exact : List ℤ

abbrev pub no_words : List ℤ → Chain
no_words exact = record { words = []; exact = exact }

abbrev pub chain_with : Chain → Sum → Chain
chain_with c s = record { words = c.words ++ s.value ∷ []; exact = s.exact }

-- new w_j = old w_j + delta old w_(j-1), where `before` is old w_(j-1)
abbrev pub delta_chain : QuantisedView → ℤ → List ℤ → Chain → Chain
delta_chain q before [] c = c
delta_chain q before (w ∷ ws) c =
    delta_chain q w ws (chain_with c (line_of q c.exact (delta_line q w before)))

-- new s_i = b_i x - a_i y + old s_(i+1), where `s` is old s_i and those after it
abbrev pub transposed_chain : QuantisedView → ℤ → ℤ → List ℤ → List ℤ → List ℤ → Chain
    → Chain
transposed_chain q x y (b ∷ bs) (a ∷ cs) s c =
    transposed_chain q x y bs cs (drop 1 s)
    (chain_with c (line_of q c.exact (transposed_line b a x y (drop 1 s))))
transposed_chain q x y _ _ s c = c

-- new s_i = old s_i + delta (b_i x - a_i y + old s_(i+1))
abbrev pub transposed_delta_chain : QuantisedView → ℤ → ℤ → List ℤ → List ℤ → List ℤ
    → Chain → Chain
transposed_delta_chain q x y (b ∷ bs) (a ∷ cs) (s ∷ ss) c =
    let t = line_of q c.exact (transposed_line b a x y ss) in
    transposed_delta_chain q x y bs cs ss
    (chain_with c (line_of q t.exact (delta_line q s t.value)))
transposed_delta_chain q x y _ _ _ c = c

-- ---- one sample
abbrev pub sample_as : Realisation → QuantisedView → Past → ℤ → Sampled Past
-- y(n) = b_0 x(n) + .. + b_N x(n-N) - a_1 y(n-1) - .. - a_N y(n-N)
sample_as Dfi q p x =
    let xs = x ∷ p.signal in
    let y = line_of q [] (forward_summands q (ago xs)
    ++ feedback_summands q (ago p.outputs) 0) in
    record {
      y = y.value;
      exact = y.exact;
      past = record p { signal = xs; outputs = y.value ∷ p.outputs };
    }
-- w(n) = x(n) - a_1 w(n-1) - .. - a_N w(n-N); y(n) = b_0 w(n) + .. + b_N w(n-N)
sample_as Dfii q p x =
    let w = line_of q [] (Alone x ∷ feedback_summands q (ago p.signal) 0) in
    let ws = w.value ∷ p.signal in
    let y = line_of q w.exact (forward_summands q (ago ws)) in
    record { y = y.value; exact = y.exact; past = record p { signal = ws } }
-- y(n) = b_0 x(n) + s_1; then the new s_i
sample_as Tdfii q p x =
    let s = latest p.chain in
    let y = line_of q [] (transposed_output q x s) in
    let c = transposed_chain q x y.value (drop 1 q.b) (feedback q) s (no_words y.exact) in
    record { y = y.value; exact = c.exact; past = record p { chain = c.words ∷ p.chain } }
-- y(n) = b_0 x(n) + b_1 u_1 + .. + b_N u_N - a_1 v_1 - .. - a_N v_N; then the new u_j and the new
-- v_j
sample_as Ddfi q p x =
    let u = latest p.chain in
    let v = latest p.output_chain in
    let y = line_of q [] (forward_summands q (ago (x ∷ u)) ++ feedback_summands q (ago v) 0) in
    let c = delta_chain q x u (no_words y.exact) in
    let d = delta_chain q y.value v (no_words c.exact) in
    record {
      y = y.value;
      exact = d.exact;
      past = record p { chain = c.words ∷ p.chain; output_chain = d.words ∷ p.output_chain };
    }
-- w_0 = x(n) - a_1 w_1 - .. - a_N w_N; y(n) = b_0 w_0 + .. + b_N w_N; then the new w_j
sample_as Ddfii q p x =
    let w = latest p.chain in
    let w_0 = line_of q [] (Alone x ∷ feedback_summands q (ago w) 0) in
    let y = line_of q w_0.exact (forward_summands q (ago (w_0.value ∷ w))) in
    let c = delta_chain q w_0.value w (no_words y.exact) in
    record { y = y.value; exact = c.exact; past = record p { chain = c.words ∷ p.chain } }
-- y(n) = b_0 x(n) + s_1; then the new s_i
sample_as Tddfii q p x =
    let s = latest p.chain in
    let y = line_of q [] (transposed_output q x s) in
    let c = transposed_delta_chain q x y.value (drop 1 q.b) (feedback q) s (no_words y.exact) in
    record { y = y.value; exact = c.exact; past = record p { chain = c.words ∷ p.chain } }

abbrev pub sample : QuantisedView → Past → ℤ → Sampled Past
sample q p x = sample_as q.realisation q p x

-- ---- registers
-- the registers in a past, read from the lists, for an order N
abbrev pub registers_as : Realisation → ℕ → Past → List ℤ
registers_as Dfi n p = take n p.signal ++ take n p.outputs
registers_as Dfii n p = take n p.signal
registers_as Ddfi n p = latest p.chain ++ latest p.output_chain
registers_as Tdfii n p = latest p.chain
registers_as Ddfii n p = latest p.chain
registers_as Tddfii n p = latest p.chain

-- the past before sample 0, for these words in the registers
abbrev pub start_as : Realisation → ℕ → List ℤ → Past
start_as Dfi n start = record {
  signal = take n start;
  outputs = drop n start;
  chain = [];
  output_chain = [];
}
start_as Dfii n start = record { signal = start; outputs = []; chain = []; output_chain = [] }
start_as Ddfi n start = record {
  signal = [];
  outputs = [];
  chain = take n start ∷ [];
  output_chain = drop n start ∷ [];
}
start_as Tdfii n start = record { signal = []; outputs = []; chain = start ∷ []; output_chain = [] }
start_as Ddfii n start = record { signal = []; outputs = []; chain = start ∷ []; output_chain = [] }
start_as Tddfii n start =
    record { signal = []; outputs = []; chain = start ∷ []; output_chain = [] }

-- ---- the table of counts
-- how many registers a realisation has
abbrev pub registers_of : Realisation → ℕ → ℕ
registers_of Dfi n = 2 * n
registers_of Dfii n = n
registers_of Tdfii n = n
registers_of Ddfi n = 2 * n
registers_of Ddfii n = n
registers_of Tddfii n = n

-- how many of them, the first ones, are feed-forward
abbrev pub forward_registers_of : Realisation → ℕ → ℕ
forward_registers_of Dfi n = n
forward_registers_of Dfii n = 0
forward_registers_of Tdfii n = 0
forward_registers_of Ddfi n = n
forward_registers_of Ddfii n = 0
forward_registers_of Tddfii n = 0

-- how many products a sample has
abbrev pub products_of : Realisation → ℕ → ℕ
products_of Dfi n = 2 * n + 1
products_of Dfii n = 2 * n + 1
products_of Tdfii n = 2 * n + 1
products_of Ddfi n = 4 * n + 1
products_of Ddfii n = 3 * n + 1
products_of Tddfii n = 3 * n + 1

-- how many sums and differences
abbrev pub sums_of : Realisation → ℕ → ℕ
sums_of Dfi n = 2 * n
sums_of Dfii n = 2 * n
sums_of Tdfii n = 2 * n
sums_of Ddfi n = 4 * n
sums_of Ddfii n = 3 * n
sums_of Tddfii n = 3 * n
