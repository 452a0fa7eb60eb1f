-- Replays of netlists: what a run has shown so far, and the trace of what breaks next.
use Rattle.std.proofs.Common.{◌≡◌, ◌∙◌, sym, ap, subst, refl, ℕ, ◌+◌, ◌<◌, List, [], ◌∷◌, ◌++◌, length, drop, take, map, get_or, arith}
use Rattle.std.proofs.Math.IntN.{ℤ, pos}
use Rattle.std.specs.Prelude.{◌≤ℤ◌, slice_get}
use Rattle.std.specs.List.{All}
use Rattle.std.proofs.lemmas.List.{append-nil, drop_all, length-append, length-take, map_push, take_at}
use Rattle.std.proofs.lemmas.List.Elements.{All-push, All-take}
use Rattle.dsv_system.specs.Breaks.{IsInside, IsFirstBreak}
use Rattle.dsv_system.specs.OutsideValues.{IsFirstOutside}
use Rattle.dsv_system.specs.Runs.{SampleRow, row_at}
use Rattle.dsv_system.specs.Systems.{System, rows, registers_after, zeros, AreInRange}
use Rattle.dsv_netlist.specs.Nodes.{Net, step_of}
use Rattle.dsv_netlist.specs.Systems.{system_of, runs_of}
use Rattle.dsv_system.proofs.QuietRuns.{Moves}
use Rattle.dsv_system.proofs.RunLemmas.{take-rows}
use Rattle.dsv_meaning.proofs.ReplayLemmas.{at_length}
use Rattle.dsv_realise.proofs.Rows.{next_rows, run_more}
use Rattle.dsv_meaning.specs.Traces.{IsTraceBy}

-- the first inputs, so many, have led to these registers and gave these outputs, and none of their rows breaks
pub record IsUnbroken (net : Net) (inputs r ys : List ℤ) (sample : ℕ) : Type 0 where
  pub shown : List SampleRow
  pub count : length shown ≡ sample
  pub goes : shown ++ rows (system_of net) r (drop sample inputs) ≡ rows (system_of net) (zeros (length net.next)) inputs
  pub inside : All (IsInside net.format) shown
  pub outputs : ys ≡ map (λ (row : SampleRow). row.y) shown

-- the row of one sample from these registers
abbrev pub next_row_of : Net → List ℤ → List ℤ → ℕ → SampleRow
next_row_of net r inputs i = row_at (step_of net r (get_or inputs i (pos 0))) (get_or inputs i (pos 0))

push_count : (rs : List SampleRow) (row : SampleRow) (n : ℕ) → length rs ≡ n → length (rs ++ row ∷ []) ≡ n + 1
push_count rs row n e = omega (arith, e, length-append rs (row ∷ []))

push_output : (rs : List SampleRow) (row : SampleRow) (ys zs : List ℤ) → ys ≡ map (λ (s : SampleRow). s.y) rs → zs ≡ ys ++ row.y ∷ [] → zs ≡ map (λ (s : SampleRow). s.y) (rs ++ row ∷ [])
push_output rs row ys zs e z = z ∙ ap (λ (us : List ℤ). us ++ row.y ∷ []) e ∙ sym (map_push (λ (s : SampleRow). s.y) rs row)

pub unbroken_more : {net : Net} {inputs r new ys zs : List ℤ} {row : SampleRow} {sample : ℕ} → sample < length inputs → row ≡ next_row_of net r inputs sample → new ≡ (step_of net r (get_or inputs sample (pos 0))).past
    → zs ≡ ys ++ row.y ∷ [] → IsUnbroken net inputs r ys sample → IsInside net.format row → IsUnbroken net inputs new zs (sample + 1)
unbroken_more {net} {inputs} {r} {new} {ys} {zs} {row} {sample} l e g z u inside = record {
  shown = u.shown ++ row ∷ [];
  count = push_count u.shown row sample u.count;
  goes = run_more net r new inputs sample u.shown row l e g ∙ u.goes;
  inside = All-push (IsInside net.format) u.shown row u.inside inside;
  outputs = push_output u.shown row ys zs u.outputs z;
}

pub unbroken_all : {net : Net} {inputs r ys : List ℤ} {sample : ℕ} → length inputs ≡ sample → IsUnbroken net inputs r ys sample → All (IsInside net.format) (rows (system_of net) (zeros (length net.next)) inputs)
unbroken_all {net} {inputs} {r} {ys} {sample} l u =
    let none : drop sample inputs ≡ [] = drop_all sample inputs (omega arith) in
    let all : u.shown ≡ rows (system_of net) (zeros (length net.next)) inputs = sym (append-nil u.shown) ∙ ap (λ (xs : List ℤ). u.shown ++ rows (system_of net) r xs) (sym none) ∙ u.goes in
    subst (All (IsInside net.format)) all u.inside

pub trace_here : {net : Net} {inputs until r ys zs : List ℤ} {row : SampleRow} {sample value : ℕ} {exact low high : ℤ} → sample < length inputs → AreInRange low high inputs → row ≡ next_row_of net r inputs sample
    → until ≡ take (sample + 1) inputs → zs ≡ ys ++ row.y ∷ [] → IsUnbroken net inputs r ys sample → IsFirstOutside net.format row.exact value exact
    → IsTraceBy (runs_of net) low high (length inputs) (record { inputs = until; outputs = zs; sample = sample; value = value; exact = exact })
trace_here {net} {inputs} {until} {r} {ys} {zs} {row} {sample} {value} {exact} {low} {high} l range e h z u o =
    let m : System (List ℤ) = system_of net in
    let start = zeros (length net.next) in
    let new = (step_of net r (get_or inputs sample (pos 0))).past in
    let n = push_count u.shown row sample u.count in
    let all : (u.shown ++ row ∷ []) ++ rows m new (drop (sample + 1) inputs) ≡ rows m start inputs = run_more net r new inputs sample u.shown row l e refl ∙ u.goes in
    let first : rows m start until ≡ u.shown ++ row ∷ [] =
    ap (rows m start) h ∙ sym (take-rows m.sample start (sample + 1) inputs) ∙ ap (take (sample + 1)) (sym all) ∙ take_at (u.shown ++ row ∷ []) (rows m new (drop (sample + 1) inputs)) (sample + 1) n in
    let breaks : IsFirstBreak net.format (u.shown ++ row ∷ []) sample value exact = record {
      before = subst (All (IsInside net.format)) (sym (take_at u.shown (row ∷ []) sample u.count)) u.inside;
      row = row;
      here = ap (slice_get (u.shown ++ row ∷ [])) (sym u.count) ∙ at_length u.shown row [];
      words = o.words;
      first = o.first;
      outside = o.outside;
    } in
    record {
      replays = record {
        in_range = subst (AreInRange low high) (sym h) (All-take (λ (x : ℤ). (low ≤ℤ x) × (x ≤ℤ high)) (sample + 1) inputs range);
        many = omega (arith, ap length h, length-take (sample + 1) inputs, l);
        gives = ap (map (λ (s : SampleRow). s.y)) first ∙ sym (push_output u.shown row ys zs u.outputs z);
        breaks = subst (λ (rs : List SampleRow). IsFirstBreak net.format rs sample value exact) (sym first) breaks;
      };
      within = l;
    }

-- ---- one sample of a netlist
pub net_moves : (net : Net) (r new : List ℤ) (x : ℤ) (row : SampleRow) → row ≡ row_at (step_of net r x) x → new ≡ (step_of net r x).past → Moves (List ℤ) (system_of net) r new x row
net_moves net r new x row e g = record {
  shown = λ xs. sym (next_rows net r new x xs row e g);
  left = λ xs. ap (λ (rs : List ℤ). registers_after (system_of net) rs xs) (sym g);
}
