-- Bytes of a class at the beginning, and comments.
use Rattle.std.proofs.Common.{◌≡◌, ℕ, suc, ◌+◌, ◌≤◌, Bool, true, false, ◌&&◌, ◌==◌, List, [], ◌∷◌, ◌++◌, length, take, drop, refl, sym, ap, ◌∙◌, arith}
use Rattle.std.specs.Prelude.{Some}
use Rattle.std.specs.List.{list_all}
use Rattle.std.proofs.lemmas.Bool.{and_parts, or_parts, or_from, eqb-true}
use Rattle.dsv_token.specs.Lexing.{run_len, close_len}
use Rattle.dsv_token.specs.Pieces.{BeginsOther, has_close}

-- either way of a test
pub either : {A : Type 0} (t : Bool) (x y : A) (P : A → Type 0) → (t ≡ true → P x) → (t ≡ false → P y) → P (elim t [ true ↦ x | false ↦ y ])
either true x y P f g = f refl
either false x y P f g = g refl

-- bytes of a class before another byte are a run
pub run_again : (class : ℕ → Bool) (xs rest : List ℕ) → list_all class xs ≡ true → BeginsOther class rest → run_len class (xs ++ rest) ≡ length xs
run_again class [] [] p q = refl
run_again class [] (b ∷ bs) p q = rw q refl
run_again class (x ∷ xs) rest p q =
    let h = and_parts (class x) (list_all class xs) p in
    rw h.0 (ap suc (run_again class xs rest h.1 q))

-- a run is bytes of the class
pub run_all : (class : ℕ → Bool) (text : List ℕ) → list_all class (take (run_len class text) text) ≡ true
run_all class [] = refl
run_all class (b ∷ bs) =
    either (class b) (suc (run_len class bs)) 0 (λ n. list_all class (take n (b ∷ bs)) ≡ true) (λ e. rw e (run_all class bs)) (λ e. refl)

-- another byte stands after a run
pub run_ends : (class : ℕ → Bool) (text : List ℕ) → BeginsOther class (drop (run_len class text) text)
run_ends class [] = tt
run_ends class (b ∷ bs) =
    either (class b) (suc (run_len class bs)) 0 (λ n. BeginsOther class (drop n (b ∷ bs))) (λ e. run_ends class bs) (λ e. e)

pub run_within : (class : ℕ → Bool) (text : List ℕ) → run_len class text ≤ length text
run_within class [] = omega arith
run_within class (b ∷ bs) =
    let i : run_len class bs ≤ length bs = run_within class bs in
    either (class b) (suc (run_len class bs)) 0 (λ n. n ≤ suc (length bs)) (λ e. omega (arith, i)) (λ e. omega arith)

-- what has no `*/` is closed by the first after it
pub close_again : (inside rest : List ℕ) (before : ℕ) (star : Bool) → has_close star inside ≡ false →
    close_len before star ((inside ++ (42 ∷ 47 ∷ [])) ++ rest) ≡ Some (before + length (inside ++ (42 ∷ 47 ∷ [])))
close_again [] rest before true h = let e : before + 1 + 1 ≡ before + 2 = omega arith in rw e refl
close_again [] rest before false h = let e : before + 1 + 1 ≡ before + 2 = omega arith in rw e refl
close_again (b ∷ bs) rest before star h =
    let p = or_parts (star && b == 47) (has_close (b == 42) bs) h in
    let next : List ℕ = (bs ++ (42 ∷ 47 ∷ [])) ++ rest in
    let e : before + 1 + length (bs ++ (42 ∷ 47 ∷ [])) ≡ before + suc (length (bs ++ (42 ∷ 47 ∷ []))) = omega arith in
    ap (λ t. elim t [ true ↦ Some (before + 1) | false ↦ close_len (before + 1) (b == 42) next ]) p.0 ∙ close_again bs rest (before + 1) (b == 42) p.1 ∙ ap (λ k. Some k) e

-- how a text is closed, after so many bytes, the last of them a star or not
pub data Closes (before : ℕ) (star : Bool) (text : List ℕ) (n : ℕ) : Type 0 where
  at_once : (rest : List ℕ) → star ≡ true → text ≡ 47 ∷ rest → n ≡ before + 1 → Closes before star text n
  later : (inside rest : List ℕ) → has_close star inside ≡ false → text ≡ (inside ++ (42 ∷ 47 ∷ [])) ++ rest → n ≡ before + length (inside ++ (42 ∷ 47 ∷ [])) → Closes before star text n

closes_later : (before n b : ℕ) (star : Bool) (bs : List ℕ) → (star && b == 47) ≡ false → Closes (before + 1) (b == 42) bs n → Closes before star (b ∷ bs) n
closes_later before n b star bs e (Closes.at_once rest f g h) =
    let c : b ≡ 42 = eqb-true b 42 f in
    Closes.later [] rest refl (rw (c, g) refl) (omega (arith, h))
closes_later before n b star bs e (Closes.later inside rest f g h) =
    Closes.later (b ∷ inside) rest (or_from (star && b == 47) (has_close (b == 42) inside) e f) (ap (λ t. b ∷ t) g) (omega (arith, h))

pub closes : (text : List ℕ) (before : ℕ) (star : Bool) (n : ℕ) → close_len before star text ≡ Some n → Closes before star text n
closes [] before star n = λ h. absurd (cc)
closes (b ∷ bs) before star n =
    either (star && b == 47) (Some (before + 1)) (close_len (before + 1) (b == 42) bs) (λ o. o ≡ Some n → Closes before star (b ∷ bs) n)
    (λ e h.
    let p = and_parts star (b == 47) e in
    let c : b ≡ 47 = eqb-true b 47 p.1 in
    let k : before + 1 ≡ n = cc in
    Closes.at_once bs p.0 (rw c refl) (sym k))
    (λ e h. closes_later before n b star bs e (closes bs (before + 1) (b == 42) n h))
