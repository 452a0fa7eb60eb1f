-- Runs without input: how far a replay has come, and what it says where the start is back.
use Rattle.std.proofs.Common.{◌≡◌, ℕ, zero, suc, ◌+◌, ◌-◌, ◌<◌, ◌≤◌, Bool, true, false, List, [], ◌∷◌, ◌++◌, length, map, take, set, ◌⊎◌, inl, inr, refl, sym, ap, subst, ◌∙◌, arith, append_assoc}
use Rattle.std.proofs.Math.IntN.{ℤ, pos}
use Rattle.std.proofs.lemmas.Bool.{cases_lt}
use Rattle.std.specs.List.{All}
use Rattle.std.proofs.lemmas.List.{append-nil, map-append, take_more_set, take_at, length-set, length-replicate, replicate-append-replicate, replicate_more}
use Rattle.std.proofs.lemmas.List.Elements.{All-nil, All-append, All-take}
use Rattle.dsv_system.specs.Runs.{SampleRow}
use Rattle.dsv_system.specs.Systems.{System, rows, registers_after, zeros, behaviour_of}
use Rattle.dsv_system.specs.Cycles.{Returns, IsLeastPeriod, IsSounding}
use Rattle.dsv_system.specs.Sounds.{Hears}
use Rattle.dsv_system.proofs.RunLemmas.{take-rows}

-- ---- a run in two parts
-- after the inputs `done` the run goes on as one from the words r in the registers
pub record GoesOn (P : Type 0) (m : System P) (start done r : List ℤ) : Type 0 where
  pub shown : (xs : List ℤ) → rows m start (done ++ xs) ≡ rows m start done ++ rows m r xs
  pub left : (xs : List ℤ) → registers_after m start (done ++ xs) ≡ registers_after m r xs

-- one sample from the words r in the registers: its row, and the words that it leaves there
pub record Moves (P : Type 0) (m : System P) (r new : List ℤ) (x : ℤ) (row : SampleRow) : Type 0 where
  pub shown : (xs : List ℤ) → rows m r (x ∷ xs) ≡ row ∷ rows m new xs
  pub left : (xs : List ℤ) → registers_after m r (x ∷ xs) ≡ registers_after m new xs

pub one_row_more : {P : Type 0} {m : System P} {start done r new : List ℤ} {x : ℤ} {row : SampleRow} → Moves P m r new x row → GoesOn P m start done r
    → rows m start (done ++ x ∷ []) ≡ rows m start done ++ row ∷ []
one_row_more {P} {m} {start} {done} {r} {new} {x} {row} s g = g.shown (x ∷ []) ∙ ap (λ (rs : List SampleRow). rows m start done ++ rs) (s.shown [])

pub goes_on : {P : Type 0} {m : System P} {start done r new : List ℤ} {x : ℤ} {row : SampleRow} → Moves P m r new x row → GoesOn P m start done r → GoesOn P m start (done ++ x ∷ []) new
goes_on {P} {m} {start} {done} {r} {new} {x} {row} s g = record {
  shown = λ xs.
      ap (rows m start) (append_assoc done (x ∷ []) xs) ∙ g.shown (x ∷ xs)
      ∙ ap (λ (rs : List SampleRow). rows m start done ++ rs) (s.shown xs)
      ∙ sym (append_assoc (rows m start done) (row ∷ []) (rows m new xs))
      ∙ ap (λ (rs : List SampleRow). rs ++ rows m new xs) (sym (one_row_more s g));
  left = λ xs. ap (registers_after m start) (append_assoc done (x ∷ []) xs) ∙ g.left (x ∷ xs) ∙ s.left xs;
}

-- the outputs so far, in their places of a list, and one more
pub outputs_more : {P : Type 0} {m : System P} {start done r new : List ℤ} {x : ℤ} {row : SampleRow} {n : ℕ} (ys : List ℤ) → Moves P m r new x row → GoesOn P m start done r → n < length ys
    → take n ys ≡ map (λ (s : SampleRow). s.y) (rows m start done) → take (n + 1) (set ys n row.y) ≡ map (λ (s : SampleRow). s.y) (rows m start (done ++ x ∷ []))
outputs_more {P} {m} {start} {done} {r} {new} {x} {row} {n} ys s g l e =
    let y : SampleRow → ℤ = λ (s : SampleRow). s.y in
    take_more_set ys n row.y l ∙ ap (λ (zs : List ℤ). zs ++ row.y ∷ []) e ∙ sym (map-append y (rows m start done) (row ∷ [])) ∙ ap (map y) (sym (one_row_more s g))

-- ---- outputs that are all 0
abbrev IsQuiet : SampleRow → Type 0
IsQuiet row = row.y ≡ pos 0

quiet_to : {P : Type 0} (m : System P) (start : List ℤ) (n k : ℕ) → n ≤ k → All IsQuiet (rows m start (zeros k)) → All IsQuiet (rows m start (zeros n))
quiet_to m start n k h quiet =
    let k_is : n + (k - n) ≡ k = omega arith in
    let zeros_are : take n (zeros k) ≡ zeros n =
    ap (take n) (ap zeros (sym k_is) ∙ sym (replicate-append-replicate n (k - n) (pos 0))) ∙ take_at (zeros n) (zeros (k - n)) n (length-replicate n (pos 0)) in
    subst (All IsQuiet) (take-rows m.sample (m.start start) n (zeros k) ∙ ap (rows m start) zeros_are) (All-take IsQuiet n (rows m start (zeros k)) quiet)

-- where the start comes back after p quiet samples, all samples are quiet
quiet_always : {P : Type 0} (m : System P) (start : List ℤ) (p : ℕ) → 1 ≤ p → GoesOn P m start (zeros p) start → All IsQuiet (rows m start (zeros p))
    → (n : ℕ) → All IsQuiet (rows m start (zeros n))
quiet_always m start p some g quiet zero = All-nil IsQuiet
quiet_always m start p some g quiet (suc n) =
    quiet_to m start (suc n) (p + n) (omega arith)
    (subst (All IsQuiet) (sym (g.shown (zeros n)) ∙ ap (rows m start) (replicate-append-replicate p n (pos 0)))
    (All-append IsQuiet (rows m start (zeros p)) (rows m start (zeros n)) quiet (quiet_always m start p some g quiet n)))

-- so a sound at any time is heard before the start comes back
sounds_by_then : {P : Type 0} (m : System P) (start : List ℤ) (p n : ℕ) (sounding : Bool) → 1 ≤ p → GoesOn P m start (zeros p) start → Hears (rows m start (zeros p)) sounding
    → IsSounding (behaviour_of m) start n → sounding ≡ true
sounds_by_then m start p n true some g h sound = refl
sounds_by_then m start p n false some g h sound =
    let row = sound.0 in
    let there = sound.1 in
    absurd (sound.2 (ap (λ (r : SampleRow). r.y) (sym there.2) ∙ quiet_always m start p some g (h.quiet refl) n there.0 row there.1))

-- ---- how far a replay has come
-- where a run with input 0 is after so many samples, and that the start hasn't come back after fewer than `limit`
pub record IsAway (P : Type 0) (m : System P) (start r : List ℤ) (done limit : ℕ) (sounding : Bool) : Type 0 where
  pub many : length r ≡ m.many
  pub goes : GoesOn P m start (zeros done) r
  pub hears : Hears (rows m start (zeros done)) sounding
  pub gone : (p : ℕ) → p < limit → Returns (behaviour_of m) start p → ⊥

-- one sample more, at whose end the start may be back
pub next_away : {P : Type 0} {m : System P} {start r new : List ℤ} {row : SampleRow} {done : ℕ} {before after : Bool} → length new ≡ length r → Moves P m r new (pos 0) row
    → ((rs : List SampleRow) → Hears rs before → Hears (rs ++ row ∷ []) after) → IsAway P m start r done (done + 1) before → IsAway P m start new (done + 1) (done + 1) after
next_away {P} {m} {start} {r} {new} {row} {done} {before} {after} same s heard a =
    let more : zeros done ++ pos 0 ∷ [] ≡ zeros (done + 1) = replicate_more done (pos 0) in
    record {
      many = same ∙ a.many;
      goes = subst (λ (xs : List ℤ). GoesOn P m start xs new) more (goes_on s a.goes);
      hears = subst (λ (rs : List SampleRow). Hears rs after) (sym (one_row_more s a.goes) ∙ ap (rows m start) more)
          (heard (rows m start (zeros done)) a.hears);
      gone = a.gone;
    }

-- the outputs so far of a run with input 0, in the first places of ys
pub record AreQuietOutputs (P : Type 0) (m : System P) (start ys : List ℤ) (done limit : ℕ) : Type 0 where
  pub room : length ys ≡ limit
  pub outputs : take done ys ≡ map (λ (s : SampleRow). s.y) (rows m start (zeros done))

pub next_quiet_outputs : {P : Type 0} {m : System P} {start r new ys zs : List ℤ} {row : SampleRow} {done limit : ℕ} → done < limit → Moves P m r new (pos 0) row → GoesOn P m start (zeros done) r → zs ≡ set ys done row.y
    → AreQuietOutputs P m start ys done limit → AreQuietOutputs P m start zs (done + 1) limit
next_quiet_outputs {P} {m} {start} {r} {new} {ys} {zs} {row} {done} {limit} l s g e o = record {
  room = ap length e ∙ length-set ys done row.y ∙ o.room;
  outputs = ap (take (done + 1)) e ∙ outputs_more ys s g (omega (arith, l, o.room)) o.outputs ∙ ap (λ (xs : List ℤ). map (λ (s : SampleRow). s.y) (rows m start xs)) (replicate_more done (pos 0));
}

-- The registers hold the words that they were started with.
abbrev pub IsHeld : (P : Type 0) → System P → List ℤ → Type 0
IsHeld P m r = registers_after m r [] ≡ r

registers_then : {P : Type 0} {m : System P} {start new : List ℤ} {done limit : ℕ} {sounding : Bool} → IsHeld P m new → IsAway P m start new done limit sounding → registers_after m start (zeros done) ≡ new
registers_then {P} {m} {start} {new} {done} held a = ap (registers_after m start) (sym (append-nil (zeros done))) ∙ a.goes.left [] ∙ held

pub still_away : {P : Type 0} {m : System P} {start new : List ℤ} {done : ℕ} {sounding : Bool} → IsHeld P m new → (new ≡ start → ⊥) → IsAway P m start new done done sounding → IsAway P m start new done (done + 1) sounding
still_away {P} {m} {start} {new} {done} held other a = record {
  many = a.many;
  goes = a.goes;
  hears = a.hears;
  gone = λ p h back. gone_at p h back (cases_lt p done);
}
  where
    gone_at : (p : ℕ) → p < done + 1 → Returns (behaviour_of m) start p → (p < done) ⊎ (done ≤ p) → ⊥
    gone_at p h back (inl less) = a.gone p less back
    gone_at p h back (inr more) =
        let is : p ≡ done = omega arith in
        other (sym (registers_then held a) ∙ ap (λ n. registers_after m start (zeros n)) (sym is) ∙ back.back)

-- the start is back
pub record IsBack (P : Type 0) (m : System P) (start : List ℤ) (period : ℕ) (sounding : Bool) : Type 0 where
  pub least : IsLeastPeriod (behaviour_of m) start period
  pub loud : sounding ≡ true → IsSounding (behaviour_of m) start period
  pub lasting : (n : ℕ) → IsSounding (behaviour_of m) start n → sounding ≡ true

pub back_now : {P : Type 0} {m : System P} {start new : List ℤ} {period : ℕ} {sounding : Bool} → IsHeld P m new → 1 ≤ period → new ≡ start → IsAway P m start new period period sounding → IsBack P m start period sounding
back_now {P} {m} {start} {new} {period} {sounding} held some e a = record {
  least = record { returns = record { some = some; back = registers_then held a ∙ e }; least = a.gone };
  loud = a.hears.loud;
  lasting = λ n. sounds_by_then m start period n sounding some (subst (GoesOn P m start (zeros period)) e a.goes) a.hears;
}
