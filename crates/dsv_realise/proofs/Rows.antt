-- The rows of a netlist's steps, one sample more, and the word 0.
use Rattle.std.proofs.Common.{◌≡◌, ◌∙◌, sym, ap, ℕ, ◌+◌, ◌-◌, ◌<◌, List, [], ◌∷◌, ◌++◌, length, drop, get_or, append_assoc, arith}
use Rattle.std.proofs.Math.IntN.{ℤ, pos}
use Rattle.std.proofs.lemmas.Int.{ints}
use Rattle.std.proofs.lemmas.Nat.{pow_pos}
use Rattle.std.proofs.lemmas.List.{drop_more}
use Rattle.dsv_system.specs.Runs.{SampleRow, row_at}
use Rattle.dsv_word.specs.declared.format.Format.{Format}
use Rattle.dsv_word.specs.Words.{width, IsWord}
use Rattle.dsv_netlist.specs.Nodes.{Net, step_of}
use Rattle.dsv_netlist.specs.Systems.{system_of}
use Rattle.dsv_system.specs.Systems.{rows}

pub next_rows : (net : Net) (r new : List ℤ) (x : ℤ) (xs : List ℤ) (row : SampleRow) → row ≡ row_at (step_of net r x) x → new ≡ (step_of net r x).past
    → row ∷ rows (system_of net) new xs ≡ rows (system_of net) r (x ∷ xs)
next_rows net r new x xs row e g =
    ap (λ (s : SampleRow). s ∷ rows (system_of net) new xs) e ∙ ap (λ l. row_at (step_of net r x) x ∷ rows (system_of net) l xs) g

pub run_more : (net : Net) (r new inputs : List ℤ) (i : ℕ) (shown : List SampleRow) (row : SampleRow) → i < length inputs
    → row ≡ row_at (step_of net r (get_or inputs i (pos 0))) (get_or inputs i (pos 0)) → new ≡ (step_of net r (get_or inputs i (pos 0))).past
    → (shown ++ row ∷ []) ++ rows (system_of net) new (drop (i + 1) inputs) ≡ shown ++ rows (system_of net) r (drop i inputs)
run_more net r new inputs i shown row l e g =
    let x = get_or inputs i (pos 0) in
    append_assoc shown (row ∷ []) (rows (system_of net) new (drop (i + 1) inputs))
    ∙ ap (λ (rs : List SampleRow). shown ++ rs) (next_rows net r new x (drop (i + 1) inputs) row e g ∙ ap (rows (system_of net) r) (sym (drop_more inputs i (pos 0) l)))

-- 0 is a word of every format
pub zero_word : (f : Format) → IsWord f (pos 0)
zero_word f =
    let some = pow_pos (width f - 1) in
    record { low = omega (arith, ints, some); high = omega (arith, ints, some) }
