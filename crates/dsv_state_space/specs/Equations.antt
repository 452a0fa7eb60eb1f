-- The equations of a state-space controller in words: y = c x + d u, and then x' = A x + b u.
use Rattle.std.specs.Prelude.{ℕ, ◌+◌, ◌*◌, false, List, [], ◌∷◌, ℤ}
use Rattle.dsv_word.specs.declared.format.Format.{Format}
use Rattle.dsv_meaning.specs.declared.summands.Summand.{Summand}
use Rattle.dsv_meaning.specs.declared.summands.Summand.TheVariants.{Times}
use Rattle.dsv_meaning.specs.Equations.{ago, Chain, no_words, chain_with}
use Rattle.dsv_meaning.specs.Lines.{summands, narrow_line}
use Rattle.dsv_system.specs.Runs.{Sampled}
use Rattle.dsv_system.specs.Systems.{System}
use Rattle.dsv_state_space.specs.StateView.{StateView, states}

-- the summands of a line: first a word times the input u, and then those of a row times the states,
-- which are x(k), x(k+1), ..
abbrev pub state_summands : {A : Type 0} → ℤ → List ℤ → A → (ℕ → A) → ℕ → List (Summand A)
state_summands first row u x k = Times false first u ∷ summands false row x k

-- the new states so far, and the exact values so far: new x_i = b_i u + a_i1 x_1 + .. + a_iN x_N
abbrev pub state_chain : Format → ℤ → List ℤ → List ℤ → List (List ℤ) → Chain → Chain
state_chain f u x (b ∷ bs) (row ∷ rows) c = state_chain f u x bs rows
    (chain_with c (narrow_line f c.exact (state_summands b row u (ago x) 0)))
state_chain f u x _ _ c = c

-- one sample: the output y = d u + c_1 x_1 + .. + c_N x_N, and then the new states, all of the old
-- ones
abbrev pub state_sample : StateView → List ℤ → ℤ → Sampled (List ℤ)
state_sample s x u =
    let y = narrow_line s.format [] (state_summands s.d s.c u (ago x) 0) in
    let new = state_chain s.format u x s.b s.a (no_words y.exact) in
    record { y = y.value; exact = new.exact; past = new.words }

-- the controller as a system that runs in words: its registers are its states, and none is
-- feed-forward
abbrev pub state_space_of : StateView → System (List ℤ)
state_space_of s = record {
  start = λ start. start;
  sample = state_sample s;
  registers = λ x. x;
  many = states s;
  forward = 0;
  format = s.format;
}

-- ---- sizes
-- how many products a sample takes
abbrev pub state_products : StateView → ℕ
state_products s = (states s + 1) * (states s + 1)
