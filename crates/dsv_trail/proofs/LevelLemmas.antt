-- Levels after a decision, an implied literal, and a way back.
use Rattle.std.proofs.Common.{◌≡◌, ℕ, ◌+◌, ◌<◌, ◌≤◌, List, [], ◌∷◌, ◌++◌, ◌⊎◌, refl, arith, ap, sym, ◌∙◌, inl, inr, length, take, zero, suc, slice_get, Some, None}
use Rattle.std.proofs.lemmas.Bool.{cases_eq, cases_lt}
use Rattle.std.proofs.lemmas.List.{length_push, length-take-le}
use Rattle.std.proofs.lemmas.Option.{slice_get_within}
use Rattle.dsv_trail.proofs.Elements.{some-inside, push-cases, push-left, push-new, take-cases, take-left}
use Rattle.dsv_trail.specs.Levels.{AreLevels}
use Rattle.dsv_trail.specs.declared.marks.Mark.{Mark}

-- ---- a decision

pub levels-decided : (limits : List ℕ) (marks : List Mark) (m : Mark) → m.level ≡ length limits + 1 → m.reason ≡ None → AreLevels limits marks → AreLevels (limits ++ length marks ∷ []) (marks ++ m ∷ [])
levels-decided limits marks m level reason h =
    let nl = length_push limits (length marks) in
    let nm = length_push marks m in
    record {
      within = λ j k g. elim (push-cases limits (length marks) j k g) [ inl a ↦ omega (arith, h.within j k a.1, nm) | inr b ↦ omega (arith, b.1, nm) ];
      rising = λ i j a b lt f g.
          elim (push-cases limits (length marks) j b g) [
            | inl y ↦
                elim (push-cases limits (length marks) i a f) [
                  | inl x ↦ h.rising i j a b lt x.1 y.1
                  | inr x ↦ absurd (omega (arith, x.0, y.0, lt))
                ]
            | inr y ↦
                elim (push-cases limits (length marks) i a f) [
                  | inl x ↦ omega (arith, h.within i a x.1, y.1)
                  | inr x ↦ absurd (omega (arith, x.0, y.0, lt))
                ]
          ];
      decided = λ j k x f g.
          elim (push-cases limits (length marks) j k f) [
            | inl a ↦
                elim (push-cases marks m k x g) [
                  | inl c ↦ h.decided j k x a.1 c.1
                  | inr c ↦ absurd (omega (arith, h.within j k a.1, c.0))
                ]
            | inr b ↦
                elim (push-cases marks m k x g) [
                  | inl c ↦ absurd (omega (arith, b.1, c.0))
                  | inr c ↦ rw (← c.1, b.0) (level, reason)
                ]
          ];
      others = λ i x g n.
          elim (push-cases marks m i x g) [
            | inl a ↦ let l = h.others i x a.1 n in record { number = l.number; at = push-left limits (length marks) l.number i l.at }
            | inr b ↦ record { number = length limits; at = rw b.0 (push-new limits (length marks)) }
          ];
      levels = λ i x g.
          elim (push-cases marks m i x g) [
            | inl a ↦
                let l = h.levels i x a.1 in
                record {
                  few = omega (arith, l.few, nl);
                  begun = λ j k lt f. elim (push-cases limits (length marks) j k f) [ inl c ↦ l.begun j k lt c.1 | inr c ↦ absurd (omega (arith, c.0, lt, l.few)) ];
                  later = λ j k le f. elim (push-cases limits (length marks) j k f) [ inl c ↦ l.later j k le c.1 | inr c ↦ omega (arith, c.1, a.0) ];
                }
            | inr b ↦
                let lx : x.level ≡ length limits + 1 = rw b.1 at level in
                record {
                  few = omega (arith, lx, nl);
                  begun = λ j k lt f. elim (push-cases limits (length marks) j k f) [ inl c ↦ omega (arith, h.within j k c.1, b.0) | inr c ↦ omega (arith, c.1, b.0) ];
                  later = λ j k le f. absurd (omega (arith, slice_get_within (limits ++ length marks ∷ []) j k f, nl, lx, le));
                }
          ];
    }

-- ---- an implied literal

pub levels-implied : (limits : List ℕ) (marks : List Mark) (m : Mark) (r : ℕ) → m.level ≡ length limits → m.reason ≡ Some r → AreLevels limits marks → AreLevels limits (marks ++ m ∷ [])
levels-implied limits marks m r level reason h =
    let nm = length_push marks m in
    record {
      within = λ j k g. omega (arith, h.within j k g, nm);
      rising = h.rising;
      decided = λ j k x f g.
          elim (push-cases marks m k x g) [
            | inl c ↦ h.decided j k x f c.1
            | inr c ↦ absurd (omega (arith, h.within j k f, c.0))
          ];
      others = λ i x g n.
          elim (push-cases marks m i x g) [
            | inl a ↦ h.others i x a.1 n
            | inr b ↦ let f : Some r ≡ None = sym reason ∙ (ap (λ (y : Mark). y.reason) b.1 ∙ n) in absurd cc
          ];
      levels = λ i x g.
          elim (push-cases marks m i x g) [
            | inl a ↦ h.levels i x a.1
            | inr b ↦
                let lx : x.level ≡ length limits = rw b.1 at level in
                record {
                  few = omega (arith, lx);
                  begun = λ j k lt f. omega (arith, h.within j k f, b.0);
                  later = λ j k le f. absurd (omega (arith, slice_get_within limits j k f, lx, le));
                }
          ];
    }

-- ---- the way back

pub levels-back : (limits : List ℕ) (marks : List Mark) (j0 k0 : ℕ) → slice_get limits j0 ≡ Some k0 → AreLevels limits marks → AreLevels (take j0 limits) (take k0 marks)
levels-back limits marks j0 k0 e h =
    let up = slice_get_within limits j0 k0 e in
    let inside = h.within j0 k0 e in
    let nl : length (take j0 limits) ≡ j0 = length-take-le j0 limits (omega (arith, up)) in
    let nm : length (take k0 marks) ≡ k0 = length-take-le k0 marks (omega (arith, inside)) in
    record {
      within = λ j k g. let x = take-cases j0 limits j k g in omega (arith, h.rising j j0 k k0 x.0 x.1 e, nm);
      rising = λ i j a b lt f g. h.rising i j a b lt (take-cases j0 limits i a f).1 (take-cases j0 limits j b g).1;
      decided = λ j k x f g. h.decided j k x (take-cases j0 limits j k f).1 (take-cases k0 marks k x g).1;
      others = λ i x g n.
          let t = take-cases k0 marks i x g in
          let l = h.others i x t.1 n in
          elim (cases_lt l.number j0) [
            | inl lt ↦ record { number = l.number; at = take-left j0 limits l.number i lt l.at }
            | inr ge ↦
                elim (cases_eq l.number j0) [
                  | inl same ↦ let s : k0 ≡ i = some-inside k0 i (sym e ∙ (ap (slice_get limits) (sym same) ∙ l.at)) in absurd (omega (arith, s, t.0))
                  | inr other ↦ absurd (omega (arith, h.rising j0 l.number k0 i (omega (arith, ge, other)) e l.at, t.0))
                ]
          ];
      levels = λ i x g.
          let t = take-cases k0 marks i x g in
          let l = h.levels i x t.1 in
          record {
            few = elim (cases_lt j0 x.level) [
              | inl lt ↦ absurd (omega (arith, l.begun j0 k0 lt e, t.0))
              | inr ge ↦ omega (arith, ge, nl)
            ];
            begun = λ j k lt f. l.begun j k lt (take-cases j0 limits j k f).1;
            later = λ j k le f. l.later j k le (take-cases j0 limits j k f).1;
          };
    }

-- ---- there are at most as many levels as literals

limit-exists : (xs : List ℕ) (i : ℕ) → i < length xs → (k : ℕ) × (slice_get xs i ≡ Some k)
limit-exists [] i lt = absurd (omega (arith, lt))
limit-exists (x ∷ xs) zero lt = (x, refl)
limit-exists (x ∷ xs) (suc i) lt = limit-exists xs i (omega (arith, lt))

limit-high : (limits : List ℕ) (marks : List Mark) (j k : ℕ) → AreLevels limits marks → slice_get limits j ≡ Some k → j ≤ k
limit-high limits marks zero k h e = omega arith
limit-high limits marks (suc j) k h e =
    let x = limit-exists limits j (omega (arith, slice_get_within limits (suc j) k e)) in
    omega (arith, limit-high limits marks j x.0 h x.1, h.rising j (suc j) x.0 k (omega arith) x.1 e)

last-below : (limits : List ℕ) (marks : List Mark) (n : ℕ) → AreLevels limits marks → length limits ≡ suc n → length limits ≤ length marks
last-below limits marks n h e =
    let x = limit-exists limits n (omega (arith, e)) in
    omega (arith, e, limit-high limits marks n x.0 h x.1, h.within n x.0 x.1)

count-cases : (n : ℕ) → (n ≡ 0) ⊎ ((k : ℕ) × (n ≡ suc k))
count-cases zero = inl refl
count-cases (suc n) = inr (n, refl)

pub few-levels : (limits : List ℕ) (marks : List Mark) → AreLevels limits marks → length limits ≤ length marks
few-levels limits marks h = elim (count-cases (length limits)) [ inl z ↦ omega (arith, z) | inr s ↦ last-below limits marks s.0 h s.1 ]
