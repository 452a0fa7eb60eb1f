-- The symbols of registers and inputs that are words.
use Rattle.std.proofs.Common.{◌≡◌, ℕ, suc, ◌-◌, ◌<◌, inl, inr, List, [], ◌∷◌, length, replicate, refl, sym, subst, ◌∙◌, arith, length-append}
use Rattle.std.specs.List.{All}
use Rattle.std.proofs.Math.IntN.{ℤ, pos, ◌*ℤ◌}
use Rattle.std.proofs.lemmas.Int.{ints}
use Rattle.std.proofs.lemmas.Bool.{cases_lt}
use Rattle.std.proofs.lemmas.List.{get_or_append_left, get_or-append_right, length-replicate}
use Rattle.std.proofs.lemmas.List.Elements.{All-head, All-tail, All-nil, All-cons, All-get_or}
use lib.Signed.{◌<ℤ◌}
use Rattle.dsv_algebra.proofs.Normaliser.{ring, env, var, times}
use Rattle.dsv_word.specs.Words.{IsWord}
use Rattle.dsv_netlist.specs.Nodes.{Net, at}
use Rattle.dsv_netlist.specs.Conditions.{IsNetlist}
use Rattle.dsv_linear.specs.Facts.{Between}
use Rattle.dsv_linear.specs.declared.range.Range.{Range}
use Rattle.dsv_linear.specs.Forms.{range_scale, range, range_at}
use Rattle.dsv_linear.specs.Meaning.{LiesIn}
use Rattle.dsv_linear.proofs.Numbers.{times_up, times_back}
use Rattle.dsv_linear.proofs.Meanings.{replicated}
use Rattle.dsv_linear.proofs.Roundings.{range_scale_positive}
use Rattle.dsv_network.specs.Runs.{AreIn}
use Rattle.dsv_gain.specs.Gains.{symbol_of_range, words_range, past_range, pasts, register_symbols}
use Rattle.dsv_gain.specs.Safe.{AreRegisters}
use Rattle.dsv_network.proofs.Symbols.{once}
use Rattle.dsv_gain.proofs.Pasts.{few_pasts}

grouped : (o t x : ℤ) → o *ℤ (t *ℤ x) ≡ t *ℤ (o *ℤ x)
grouped o t x = ring (env (o ∷ t ∷ x ∷ [])) (times (var 0) (times (var 1) (var 2))) (times (var 1) (times (var 0) (var 2))) refl

pub symbol_lies : (over : ℤ) (r : Range) (v : ℤ) → Between (over *ℤ r.low) (over *ℤ r.high) v → LiesIn over (symbol_of_range r) v
symbol_lies over r v b = record {
  least = rw (grouped over (pos range_scale) r.low) (times_up (pos range_scale) (over *ℤ r.low) v (omega (arith, ints)) b.least);
  most = rw (grouped over (pos range_scale) r.high) (times_up (pos range_scale) v (over *ℤ r.high) (omega (arith, ints)) b.most);
}

pub word_lies : (r : Range) (v : ℤ) → Between r.low r.high v → LiesIn (pos 1) (symbol_of_range r) v
word_lies r v b = symbol_lies (pos 1) r v (rw (once r.low, once r.high) b)

pub symbols_long : (net : Net) (low high : ℤ) → IsNetlist net → length (register_symbols net low high) ≡ length net.next
symbols_long net low high n =
    let p = pasts net in
    let m = length net.next - p in
    let a = symbol_of_range (past_range low high) in
    let b = symbol_of_range (words_range net.format) in
    let few = few_pasts net n in
    let x = length-append (replicate p a) (replicate m b) in
    let y = length-replicate p a in
    let z = length-replicate m b in
    omega arith

symbols_are : (net : Net) (low high : ℤ) (words : List ℤ) → IsNetlist net → AreRegisters net low high words → (j : ℕ) → j < length (register_symbols net low high) → LiesIn (pos 1) (range_at (register_symbols net low high) j) (at words j)
symbols_are net low high words n r j q =
    let p = pasts net in
    let m = length net.next - p in
    let a = symbol_of_range (past_range low high) in
    let b = symbol_of_range (words_range net.format) in
    let none = range (pos 0) (pos 0) in
    let few = few_pasts net n in
    let l = symbols_long net low high n in
    let lp = length-replicate p a in
    let many = r.many in
    elim (cases_lt j p) [
      | inl s ↦ subst (λ (t : Range). LiesIn (pos 1) t (at words j)) (sym (get_or_append_left (replicate p a) (replicate m b) none j (omega arith) ∙ replicated p j a none s))
          (word_lies (past_range low high) (at words j) (r.past j s))
      | inr s ↦ (let w = All-get_or (IsWord net.format) words j (pos 0) (omega arith) r.words in
          subst (λ (t : Range). LiesIn (pos 1) t (at words j)) (sym (get_or-append_right (replicate p a) (replicate m b) p j none lp s ∙ replicated m (j - p) b none (omega arith)))
          (word_lies (words_range net.format) (at words j) (record { least = w.low; most = w.high })))
    ]

-- a number in a symbol's range
pub symbol_back : (over : ℤ) (r : Range) (v : ℤ) → LiesIn over (symbol_of_range r) v → Between (over *ℤ r.low) (over *ℤ r.high) v
symbol_back over r v l =
    let up : pos 0 <ℤ pos range_scale = (let h = range_scale_positive in omega (arith, ints, h)) in
    record {
      least = times_back (pos range_scale) (over *ℤ r.low) v up (rw (grouped over (pos range_scale) r.low) at l.least);
      most = times_back (pos range_scale) v (over *ℤ r.high) up (rw (grouped over (pos range_scale) r.high) at l.most);
    }

all_in : (over : ℤ) (starts : List Range) (vs : List ℤ) → length vs ≡ length starts → ((j : ℕ) → j < length starts → LiesIn over (range_at starts j) (at vs j)) → AreIn over starts vs
all_in over [] [] e h = tt
all_in over [] (v ∷ vs) e h = absurd (omega (arith, e))
all_in over (r ∷ starts) [] e h = absurd (omega (arith, e))
all_in over (r ∷ starts) (v ∷ vs) e h = (h 0 (omega arith), all_in over starts vs (omega (arith, e)) (λ j l. h (suc j) (omega (arith, l))))

-- registers that are words, of which those that hold past inputs hold such
pub registers_in : (net : Net) (low high : ℤ) (words : List ℤ) → IsNetlist net → AreRegisters net low high words → AreIn (pos 1) (register_symbols net low high) words
registers_in net low high words n r = all_in (pos 1) (register_symbols net low high) words (r.many ∙ sym (symbols_long net low high n)) (symbols_are net low high words n r)

-- inputs in range
pub inputs_lie : (low high : ℤ) (xs : List ℤ) → All (Between low high) xs → All (LiesIn (pos 1) (symbol_of_range (range low high))) xs
inputs_lie low high [] a = All-nil (LiesIn (pos 1) (symbol_of_range (range low high)))
inputs_lie low high (x ∷ xs) a =
    All-cons (LiesIn (pos 1) (symbol_of_range (range low high))) x xs (word_lies (range low high) x (All-head (Between low high) x xs a)) (inputs_lie low high xs (All-tail (Between low high) x xs a))
