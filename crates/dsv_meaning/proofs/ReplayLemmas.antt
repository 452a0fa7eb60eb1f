-- Runs of the written equations that are replayed: one sample more, and what breaks in it.
use Rattle.std.proofs.Common.{◌≡◌, ℕ, ◌+◌, ◌<◌, List, [], ◌∷◌, ◌++◌, length, take, drop, set, get_or, refl, sym, ap, subst, ◌∙◌, arith}
use Rattle.std.proofs.Math.IntN.{ℤ, pos}
use Rattle.std.specs.Prelude.{slice_get, Some}
use Rattle.std.specs.List.{All}
use Rattle.std.proofs.lemmas.List.{drop_more, take_more, take_at, take-append-drop, length-set, length-take-le}
use Rattle.std.proofs.lemmas.List.Elements.{All-nil, All-cons, All-append}
use Rattle.dsv_quantiser.specs.QuantisedView.{QuantisedView}
use Rattle.dsv_system.specs.Runs.{SampleRow, row_at}
use Rattle.dsv_system.specs.Systems.{System, rows}
use Rattle.dsv_system.specs.Breaks.{IsInside, IsFirstBreak}
use Rattle.dsv_system.specs.OutsideValues.{IsFirstOutside}
use Rattle.dsv_system.proofs.RunLemmas.{rows-length}
use Rattle.dsv_system.proofs.QuietRuns.{GoesOn, Moves, IsHeld, goes_on, one_row_more, outputs_more}
use Rattle.dsv_meaning.specs.Equations.{Past, order, registers_of}
use Rattle.dsv_meaning.specs.Systems.{equations_of, outputs_over}
use Rattle.dsv_meaning.specs.Stepping.{step_as}
use Rattle.dsv_meaning.proofs.RunLemmas.{start_registers, next_registers, next_rows}

-- one sample: its row, and the registers before and after it
pub record Steps (q : QuantisedView) (r new : List ℤ) (x : ℤ) (row : SampleRow) : Type 0 where
  pub numerator : length q.b ≡ order q + 1
  pub many : length r ≡ registers_of q.realisation (order q)
  pub row_is : row ≡ row_at (step_as q.realisation q r x) x
  pub new_is : new ≡ (step_as q.realisation q r x).past

pub moves : {q : QuantisedView} {r new : List ℤ} {x : ℤ} {row : SampleRow} → Steps q r new x row → Moves Past (equations_of q) r new x row
moves {q} {r} {new} {x} {row} s = record {
  shown = λ xs. sym (next_rows q.realisation q r new x xs row s.numerator s.many s.row_is s.new_is);
  left = λ xs. next_registers q.realisation q r new x xs s.numerator s.many s.new_is;
}

-- ---- breaks
-- before this sample nothing breaks
pub record IsUnbroken (q : QuantisedView) (start inputs r : List ℤ) (sample : ℕ) : Type 0 where
  pub many : length r ≡ registers_of q.realisation (order q)
  pub goes : GoesOn Past (equations_of q) start (take sample inputs) r
  pub inside : All (IsInside q.format) (rows (equations_of q) start (take sample inputs))

pub unbroken_more : {q : QuantisedView} {start inputs r new : List ℤ} {x : ℤ} {row : SampleRow} {sample : ℕ} → sample < length inputs → x ≡ get_or inputs sample (pos 0) → length new ≡ length r
    → Steps q r new x row → IsUnbroken q start inputs r sample → IsInside q.format row → IsUnbroken q start inputs new (sample + 1)
unbroken_more {q} {start} {inputs} {r} {new} {x} {row} {sample} l is same s u inside =
    let done = take sample inputs in
    let more : done ++ x ∷ [] ≡ take (sample + 1) inputs = ap (λ w. done ++ w ∷ []) is ∙ sym (take_more inputs sample (pos 0) l) in
    record {
      many = same ∙ u.many;
      goes = subst (λ (xs : List ℤ). GoesOn Past (equations_of q) start xs new) more (goes_on (moves s) u.goes);
      inside = subst (λ (xs : List ℤ). All (IsInside q.format) (rows (equations_of q) start xs)) more
          (subst (All (IsInside q.format)) (sym (one_row_more (moves s) u.goes))
          (All-append (IsInside q.format) (rows (equations_of q) start done) (row ∷ []) u.inside
          (All-cons (IsInside q.format) row [] inside (All-nil (IsInside q.format)))));
    }

-- the outputs up to this sample are those of the run, in the first places of ys
pub record AreOutputs (q : QuantisedView) (start inputs ys : List ℤ) (sample : ℕ) : Type 0 where
  pub room : length ys ≡ length inputs
  pub outputs : take sample ys ≡ outputs_over q start (take sample inputs)

pub next_outputs : {q : QuantisedView} {start inputs r new ys zs : List ℤ} {x : ℤ} {row : SampleRow} {sample : ℕ} → sample < length inputs → x ≡ get_or inputs sample (pos 0)
    → Steps q r new x row → IsUnbroken q start inputs r sample → zs ≡ set ys sample row.y → AreOutputs q start inputs ys sample → AreOutputs q start inputs zs (sample + 1)
next_outputs {q} {start} {inputs} {r} {new} {ys} {zs} {x} {row} {sample} l is s u e o =
    let done = take sample inputs in
    let more : done ++ x ∷ [] ≡ take (sample + 1) inputs = ap (λ w. done ++ w ∷ []) is ∙ sym (take_more inputs sample (pos 0) l) in
    record {
      room = ap length e ∙ length-set ys sample row.y ∙ o.room;
      outputs = ap (take (sample + 1)) e ∙ outputs_more ys (moves s) u.goes (omega (arith, l, o.room)) o.outputs ∙ ap (outputs_over q start) more;
    }

pub at_length : {A : Type 0} (xs : List A) (y : A) (ys : List A) → slice_get (xs ++ y ∷ ys) (length xs) ≡ Some y
at_length [] y ys = refl
at_length (x ∷ xs) y ys = at_length xs y ys

pub breaks_here : {q : QuantisedView} {start inputs r new : List ℤ} {x : ℤ} {row : SampleRow} {sample value : ℕ} {exact : ℤ} → sample < length inputs → x ≡ get_or inputs sample (pos 0)
    → Steps q r new x row → IsUnbroken q start inputs r sample → IsFirstOutside q.format row.exact value exact
    → IsFirstBreak q.format (rows (equations_of q) start inputs) sample value exact
breaks_here {q} {start} {inputs} {r} {new} {x} {row} {sample} l is s u o =
    let m : System Past = equations_of q in
    let done = take sample inputs in
    let rest = drop (sample + 1) inputs in
    let shown = rows m start done in
    let parts : inputs ≡ done ++ x ∷ rest =
    sym (take-append-drop sample inputs) ∙ ap (λ ys. done ++ ys) (drop_more inputs sample (pos 0) l ∙ ap (λ w. w ∷ rest) (sym is)) in
    let all : rows m start inputs ≡ shown ++ row ∷ rows m new rest =
    ap (rows m start) parts ∙ u.goes.shown (x ∷ rest) ∙ ap (λ (rs : List SampleRow). shown ++ rs) ((moves s).shown rest) in
    let count : length shown ≡ sample = rows-length m.sample (m.start start) done ∙ length-take-le sample inputs (omega arith) in
    record {
      before = subst (All (IsInside q.format)) (sym (ap (take sample) all ∙ take_at shown (row ∷ rows m new rest) sample count)) u.inside;
      row = row;
      here = ap (λ rs. slice_get rs sample) all ∙ ap (slice_get (shown ++ row ∷ rows m new rest)) (sym count) ∙ at_length shown row (rows m new rest);
      words = o.words;
      first = o.first;
      outside = o.outside;
    }

-- ---- cycles
-- the registers hold the words that they were started with
pub held : (q : QuantisedView) (r : List ℤ) → length r ≡ registers_of q.realisation (order q) → IsHeld Past (equations_of q) r
held q r many = start_registers q.realisation (order q) r many
