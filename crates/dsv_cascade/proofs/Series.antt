-- Systems in series: the output of the first is the input of the second.
use Rattle.std.proofs.Common.{◌≡◌, ◌+◌, List, [], ◌∷◌, ◌++◌, length, take, drop, map, refl, sym, ap, ◌∙◌, arith, length-drop}
use Rattle.std.proofs.Math.IntN.{ℤ}
use Rattle.std.proofs.lemmas.List.{length-take-le}
use Rattle.dsv_system.specs.Runs.{Sampled, SampleRow, row_at, rows_from, past_after}
use Rattle.dsv_system.specs.Systems.{System, rows, registers_after, behaviour_of, Agree}

abbrev pub series_sample : {P Q : Type 0} → (P → ℤ → Sampled P) → (Q → ℤ → Sampled Q) → P × Q → ℤ → Sampled (P × Q)
series_sample m n past x = let s = m past.0 x in let t = n past.1 s.y in
    record { y = t.y; exact = s.exact ++ t.exact; past = (s.past, t.past) }

-- no register is feed-forward; the registers of the first stand first
abbrev pub series : {P Q : Type 0} → System P → System Q → System (P × Q)
series m n = record {
  start = λ words. (m.start (take m.many words), n.start (drop m.many words));
  sample = series_sample m.sample n.sample;
  registers = λ past. m.registers past.0 ++ n.registers past.1;
  many = m.many + n.many;
  forward = 0;
  format = m.format;
}

-- ---- runs
abbrev outputs : List SampleRow → List ℤ
outputs rs = map (λ (r : SampleRow). r.y) rs

-- the rows of both, in one
abbrev series_rows : List SampleRow → List SampleRow → List SampleRow
series_rows (r ∷ rs) (s ∷ ss) = record { x = r.x; y = s.y; exact = r.exact ++ s.exact } ∷ series_rows rs ss
series_rows _ _ = []

rows_from-series : (P Q : Type 0) (m : P → ℤ → Sampled P) (n : Q → ℤ → Sampled Q) (p : P) (q : Q) (xs : List ℤ)
    → rows_from (series_sample m n) (p, q) xs ≡ series_rows (rows_from m p xs) (rows_from n q (outputs (rows_from m p xs)))
rows_from-series P Q m n p q [] = refl
rows_from-series P Q m n p q (x ∷ xs) =
    ap (λ (rs : List SampleRow). row_at (series_sample m n (p, q) x) x ∷ rs) (rows_from-series P Q m n (m p x).past (n q (m p x).y).past xs)

past_after-series : (P Q : Type 0) (m : P → ℤ → Sampled P) (n : Q → ℤ → Sampled Q) (p : P) (q : Q) (xs : List ℤ)
    → past_after (series_sample m n) (p, q) xs ≡ (past_after m p xs, past_after n q (outputs (rows_from m p xs)))
past_after-series P Q m n p q [] = refl
past_after-series P Q m n p q (x ∷ xs) = past_after-series P Q m n (m p x).past (n q (m p x).y).past xs

rows-series : (P Q : Type 0) (m : System P) (n : System Q) (start xs : List ℤ) → rows (series m n) start xs ≡ series_rows (rows m (take m.many start) xs) (rows n (drop m.many start) (outputs (rows m (take m.many start) xs)))
rows-series P Q m n start xs = rows_from-series P Q m.sample n.sample (m.start (take m.many start)) (n.start (drop m.many start)) xs

registers_after-series : (P Q : Type 0) (m : System P) (n : System Q) (start xs : List ℤ)
    → registers_after (series m n) start xs ≡ registers_after m (take m.many start) xs ++ registers_after n (drop m.many start) (outputs (rows m (take m.many start) xs))
registers_after-series P Q m n start xs = ap (series m n).registers (past_after-series P Q m.sample n.sample (m.start (take m.many start)) (n.start (drop m.many start)) xs)

-- ---- series of systems that run alike do so
pub series_alike : (P Q R S : Type 0) (m : System P) (n : System Q) (o : System R) (r : System S) → Agree (behaviour_of m) (behaviour_of n) → Agree (behaviour_of o) (behaviour_of r) → Agree (behaviour_of (series m o)) (behaviour_of (series n r))
series_alike P Q R S m n o r h g = record {
  many = rw (h.many, g.many) refl;
  forward = refl;
  format = h.format;
  rows = λ start xs l. rows-series P R m o start xs ∙ rw (h.many, first start xs l, g.rows (drop n.many start) (outputs (rows n (take n.many start) xs)) (later start l)) refl ∙ sym (rows-series Q S n r start xs);
  registers = λ start xs l. registers_after-series P R m o start xs
      ∙ rw (h.many, first start xs l, h.registers (take n.many start) xs (early start l), g.registers (drop n.many start) (outputs (rows n (take n.many start) xs)) (later start l)) refl
      ∙ sym (registers_after-series Q S n r start xs);
}
  where
    early : (start : List ℤ) → length start ≡ n.many + r.many → length (take n.many start) ≡ n.many
    early start l = length-take-le n.many start (omega arith)

    later : (start : List ℤ) → length start ≡ n.many + r.many → length (drop n.many start) ≡ r.many
    later start l = omega (arith, length-drop n.many start)

    first : (start xs : List ℤ) → length start ≡ n.many + r.many → rows m (take n.many start) xs ≡ rows n (take n.many start) xs
    first start xs l = h.rows (take n.many start) xs (early start l)

-- ---- steps that correspond
-- a sample whose past is seen as that of another system
abbrev pub sampled_as : {P Q : Type 0} → (P → Q) → Sampled P → Sampled Q
sampled_as g s = record { y = s.y; exact = s.exact; past = g s.past }

-- the pasts of the first system that are good correspond to pasts of the second, from the start on and with each sample
pub record MapsTo (P Q : Type 0) (m : System P) (n : System Q) (g : P → Q) (IsGood : P → Type 0) : Type 0 where
  pub many : m.many ≡ n.many
  pub forward : m.forward ≡ n.forward
  pub format : m.format ≡ n.format
  pub start : (words : List ℤ) → length words ≡ n.many → n.start words ≡ g (m.start words)
  pub begins : (words : List ℤ) → length words ≡ n.many → IsGood (m.start words)
  pub sample : (p : P) (x : ℤ) → IsGood p → n.sample (g p) x ≡ sampled_as g (m.sample p x)
  pub stays : (p : P) (x : ℤ) → IsGood p → IsGood (m.sample p x).past
  pub registers : (p : P) → IsGood p → n.registers (g p) ≡ m.registers p

rows_from-mapped : (P Q : Type 0) (m : System P) (n : System Q) (g : P → Q) (IsGood : P → Type 0) (p : P) (xs : List ℤ) → MapsTo P Q m n g IsGood → IsGood p → rows_from n.sample (g p) xs ≡ rows_from m.sample p xs
rows_from-mapped P Q m n g IsGood p [] h i = refl
rows_from-mapped P Q m n g IsGood p (x ∷ xs) h i =
    ap (λ (s : Sampled Q). row_at s x ∷ rows_from n.sample s.past xs) (h.sample p x i)
    ∙ ap (λ (rs : List SampleRow). row_at (m.sample p x) x ∷ rs) (rows_from-mapped P Q m n g IsGood (m.sample p x).past xs h (h.stays p x i))

registers-mapped : (P Q : Type 0) (m : System P) (n : System Q) (g : P → Q) (IsGood : P → Type 0) (p : P) (xs : List ℤ) → MapsTo P Q m n g IsGood → IsGood p
    → n.registers (past_after n.sample (g p) xs) ≡ m.registers (past_after m.sample p xs)
registers-mapped P Q m n g IsGood p [] h i = h.registers p i
registers-mapped P Q m n g IsGood p (x ∷ xs) h i =
    ap (λ (s : Sampled Q). n.registers (past_after n.sample s.past xs)) (h.sample p x i) ∙ registers-mapped P Q m n g IsGood (m.sample p x).past xs h (h.stays p x i)

pub maps_alike : (P Q : Type 0) (m : System P) (n : System Q) (g : P → Q) (IsGood : P → Type 0) → MapsTo P Q m n g IsGood → Agree (behaviour_of m) (behaviour_of n)
maps_alike P Q m n g IsGood h = record {
  many = h.many;
  forward = h.forward;
  format = h.format;
  rows = λ start xs l. sym (ap (λ (q : Q). rows_from n.sample q xs) (h.start start l) ∙ rows_from-mapped P Q m n g IsGood (m.start start) xs h (h.begins start l));
  registers = λ start xs l. sym (ap (λ (q : Q). n.registers (past_after n.sample q xs)) (h.start start l) ∙ registers-mapped P Q m n g IsGood (m.start start) xs h (h.begins start l));
}

pub alike_through : (P Q R : Type 0) (m : System P) (n : System Q) (o : System R) → Agree (behaviour_of m) (behaviour_of n) → Agree (behaviour_of n) (behaviour_of o) → Agree (behaviour_of m) (behaviour_of o)
alike_through P Q R m n o h g = record {
  many = h.many ∙ g.many;
  forward = h.forward ∙ g.forward;
  format = h.format ∙ g.format;
  rows = λ start xs l. h.rows start xs (l ∙ sym g.many) ∙ g.rows start xs l;
  registers = λ start xs l. h.registers start xs (l ∙ sym g.many) ∙ g.registers start xs l;
}
