-- State-space controllers in words, as contracts see them.
use Rattle.std.specs.Prelude.{◌≡◌, ℕ, ◌≤◌, List, length, ℤ, ◌≤ℤ◌}
use Rattle.std.specs.List.{All}
use Rattle.dsv_word.specs.declared.format.Format.{Format}
use Rattle.dsv_word.specs.Words.{width, lo, hi, IsWord}

-- the words of x' = A x + b u, y = c x + d u, the range of the inputs, and the format; A is a list
-- of its rows
pub record StateView : Type 0 where
  pub a : List (List ℤ)
  pub b : List ℤ
  pub c : List ℤ
  pub d : ℤ
  pub xlo : ℤ
  pub xhi : ℤ
  pub format : Format

-- the most states
abbrev pub most_states : ℕ
most_states = 8

-- how many states there are
abbrev pub states : StateView → ℕ
states s = length s.b

-- so many words of the format
pub record AreWords (format : Format) (n : ℕ) (words : List ℤ) : Type 0 where
  pub many : length words ≡ n
  pub each : All (IsWord format) words

-- what is true of each state-space controller in words: 1 to 8 states, A is square, b and c have a
-- word for each state, and the inputs are words from one to another
pub record IsStateView (s : StateView) : Type 0 where
  pub some : 1 ≤ states s
  pub few : states s ≤ most_states
  pub rows : length s.a ≡ states s
  pub a_words : All (AreWords s.format (states s)) s.a
  pub b_words : AreWords s.format (states s) s.b
  pub c_words : AreWords s.format (states s) s.c
  pub d_word : IsWord s.format s.d
  pub low : lo (width s.format) ≤ℤ s.xlo
  pub order : s.xlo ≤ℤ s.xhi
  pub high : s.xhi ≤ℤ hi (width s.format)
