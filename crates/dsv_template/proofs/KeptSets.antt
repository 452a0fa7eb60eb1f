-- No list of inputs breaks a system that keeps to a set.
use Rattle.std.proofs.Common.{◌≡◌, ℕ, zero, suc, ◌+◌, ◌-◌, ◌<◌, inl, inr, List, [], ◌∷◌, ◌++◌, sym, subst, take, drop, length, arith}
use Rattle.std.specs.Prelude.{ℤ, ◌≤ℤ◌}
use Rattle.std.specs.List.{All}
use Rattle.std.proofs.lemmas.Bool.{cases_lt}
use Rattle.std.proofs.lemmas.List.{length-drop, length-take, length-append, take-append-drop}
use Rattle.std.proofs.lemmas.List.Elements.{All-append, All-take, All-drop, All-nil, All-cons, All-head, All-tail}
use Rattle.dsv_system.specs.Breaks.{IsInside}
use Rattle.dsv_system.specs.Systems.{System, rows, registers_after, zeros, AreInRange}
use Rattle.dsv_system.proofs.Words.{no_break}
use Rattle.dsv_template.specs.declared.candidate.Candidate.{Candidate}
use Rattle.dsv_template.specs.Candidates.{IsInSet}
use Rattle.dsv_template.specs.Kept.{IsKept, IsStepwise, KeptNeverBreaks}

range_of : (low high : ℤ) (xs ys : List ℤ) → xs ≡ ys → AreInRange low high xs → AreInRange low high ys
range_of low high xs ys e h = subst (AreInRange low high) e h

-- a list as long as the depth at least: what comes before its last samples, and these
late : (P : Type 0) (m : System P) (low high : ℤ) (c : Candidate) → IsStepwise P m low high → IsKept P m low high c
    → (front back : List ℤ) → AreInRange low high front → AreInRange low high back → length back ≡ c.depth
    → ((n : ℕ) → n < c.depth → IsInSet c (registers_after m (zeros m.many) (front ++ take n back)))
    → IsInSet c (registers_after m (zeros m.many) (front ++ back))
late P m low high c s k front back f b long earlier =
    let start = registers_after m (zeros m.many) front in
    let state = s.states (zeros m.many) front s.begins f in
    let each : (n : ℕ) → n < c.depth → IsInSet c (registers_after m start (take n back))
    = λ n h. subst (IsInSet c) (s.registers (zeros m.many) front (take n back) s.begins f) (earlier n h) in
    subst (IsInSet c) (sym (s.registers (zeros m.many) front back s.begins f)) (k.stays start back state long b each)

-- after every list of inputs the registers are in the set
in_set : (P : Type 0) (m : System P) (low high : ℤ) (c : Candidate) → IsStepwise P m low high → IsKept P m low high c
    → (fuel : ℕ) (xs : List ℤ) → length xs < fuel → AreInRange low high xs → IsInSet c (registers_after m (zeros m.many) xs)
in_set P m low high c s k zero xs h r = absurd (omega arith)
in_set P m low high c s k (suc fuel) xs h r = elim (cases_lt (length xs) c.depth) [
  | inl early ↦ k.begins xs early r
  | inr enough ↦
      let i = length xs - c.depth in
      let parted : take i xs ++ drop i xs ≡ xs = take-append-drop i xs in
      let long : length (drop i xs) ≡ c.depth = let l = length-drop i xs in omega arith in
      let front = All-take (λ x. (low ≤ℤ x) × (x ≤ℤ high)) i xs r in
      let back = All-drop (λ x. (low ≤ℤ x) × (x ≤ℤ high)) i xs r in
      let earlier : (n : ℕ) → n < c.depth → IsInSet c (registers_after m (zeros m.many) (take i xs ++ take n (drop i xs)))
      = λ n less. in_set P m low high c s k fuel (take i xs ++ take n (drop i xs)) (shorter i n xs c.depth fuel long less (omega arith))
      (All-append (λ x. (low ≤ℤ x) × (x ≤ℤ high)) (take i xs) (take n (drop i xs)) front
      (All-take (λ x. (low ≤ℤ x) × (x ≤ℤ high)) n (drop i xs) back)) in
      subst (λ ys. IsInSet c (registers_after m (zeros m.many) ys)) parted
      (late P m low high c s k (take i xs) (drop i xs) front back long earlier)
]
  where
    shorter : (i n : ℕ) (xs : List ℤ) (depth fuel : ℕ) → length (drop i xs) ≡ depth → n < depth → length xs < fuel + 1
        → length (take i xs ++ take n (drop i xs)) < fuel
    shorter i n xs depth fuel e less h =
        let a = length-append (take i xs) (take n (drop i xs)) in
        let b = length-take i xs in
        let c = length-take n (drop i xs) in
        let d = length-drop i xs in
        omega arith

-- the rows of what is left after some inputs
inside_after : (P : Type 0) (m : System P) (low high : ℤ) (c : Candidate) → IsStepwise P m low high → IsKept P m low high c
    → (front rest : List ℤ) → AreInRange low high front → AreInRange low high rest
    → All (IsInside m.format) (rows m (registers_after m (zeros m.many) front) rest)
inside_after P m low high c s k front [] f r = All-nil (IsInside m.format)
inside_after P m low high c s k front (x ∷ rest) f r =
    let start = registers_after m (zeros m.many) front in
    let state = s.states (zeros m.many) front s.begins f in
    let R : ℤ → Type 0 = λ z. (low ≤ℤ z) × (z ≤ℤ high) in
    let head : R x = All-head R x rest r in
    let one : AreInRange low high (x ∷ []) = All-cons R x [] head (All-nil R) in
    let within : IsInSet c start = in_set P m low high c s k (length front + 1) front (omega arith) f in
    let now : All (IsInside m.format) (rows m start (x ∷ [])) = k.safe start x state within head.0 head.1 in
    let more : AreInRange low high (front ++ x ∷ []) = All-append R front (x ∷ []) f one in
    let then : All (IsInside m.format) (rows m (registers_after m start (x ∷ [])) rest) =
    subst (λ regs. All (IsInside m.format) (rows m regs rest)) (s.registers (zeros m.many) front (x ∷ []) s.begins f)
    (inside_after P m low high c s k (front ++ x ∷ []) rest more (All-tail R x rest r)) in
    subst (All (IsInside m.format)) (sym (s.rows start (x ∷ []) rest state one))
    (All-append (IsInside m.format) (rows m start (x ∷ [])) (rows m (registers_after m start (x ∷ [])) rest) now then)

pub kept_never_breaks : (P : Type 0) → KeptNeverBreaks P
kept_never_breaks P m low high c s k xs b =
    no_break m.format (rows m (zeros m.many) xs) (inside_all P m low high c s k xs b.in_range) b.broken
  where
    inside_all : (P : Type 0) (m : System P) (low high : ℤ) (c : Candidate) → IsStepwise P m low high → IsKept P m low high c
        → (xs : List ℤ) → AreInRange low high xs → All (IsInside m.format) (rows m (zeros m.many) xs)
    inside_all P m low high c s k xs r =
        let none = All-nil (λ z. (low ≤ℤ z) × (z ≤ℤ high)) in
        subst (All (IsInside m.format)) (sym (s.rows (zeros m.many) [] xs s.begins none)) (inside_after P m low high c s k [] xs none r)
