-- Where a text breaks off before its body, it is refused.
use Rattle.std.proofs.Common.{◌≡◌, ℕ, ◌-◌, ◌^◌, ◌<◌, ◌≤◌, false, List, [], ◌∷◌, ◌++◌, ◌⊎◌, inl, inr, Ok, Err, length, codes, decimal, refl, arith, ap, sym, subst, ◌∙◌, append_assoc, append-nil, length-append}
use Rattle.std.specs.Prelude.{Result}
use Rattle.std.specs.List.{flat_map}
use Rattle.dsv_cnf.specs.Dimacs.{header_text}
use Rattle.dsv_cnf.specs.Reading.{comments_end}
use Rattle.dsv_cnf.specs.TextFaults.{BreaksOff, IsBroken, IsBeforeVars, IsBeforeClauses, IsOverLimit, IsHeaderFault}
use Rattle.dsv_cnf.specs.Texts.{comment_line}
use Rattle.dsv_cnf.specs.declared.reader.CnfRefusal.{CnfRefusal}
use Rattle.dsv_cnf.specs.declared.reader.CnfRefusal.TheVariants as refusal
use Rattle.dsv_cnf.specs.declared.reader.Header.{Header}
use Rattle.dsv_cnf.proofs.HeaderFaults.{IsHeadWithin, goes_on, head_on, header-fault, vars-over, clauses-over}
use Rattle.dsv_cnf.proofs.HeaderLines.{most}
use Rattle.dsv_cnf.proofs.HeaderOutcomes.{header_within}
use Rattle.dsv_cnf.proofs.Heads.{SaidHead, said_head, head-taken}
use Rattle.dsv_cnf.proofs.ListLemmas.{first_same, rest_same}

-- ---- two ways to split a text

-- The first begins with the second and a byte.
record IsLonger (xs ys zs ws : List ℕ) : Type 0 where
  byte : ℕ
  more : List ℕ
  longer : xs ≡ zs ++ byte ∷ more
  rest : ws ≡ byte ∷ more ++ ys

abbrev Compared : List ℕ → List ℕ → List ℕ → List ℕ → Type 0
Compared xs ys zs ws = (xs ≡ zs) ⊎ (IsLonger xs ys zs ws ⊎ IsLonger zs ws xs ys)

longer-cons : (a b : ℕ) (xs ys zs ws : List ℕ) → a ≡ b → IsLonger xs ys zs ws → IsLonger (a ∷ xs) ys (b ∷ zs) ws
longer-cons a b xs ys zs ws e l = record { byte = l.byte; more = l.more; longer = ap (λ t. a ∷ t) l.longer ∙ ap (λ n. n ∷ zs ++ l.byte ∷ l.more) e; rest = l.rest }

compared-cons : (a b : ℕ) (xs ys zs ws : List ℕ) → a ≡ b → Compared xs ys zs ws → Compared (a ∷ xs) ys (b ∷ zs) ws
compared-cons a b xs ys zs ws e (inl f) = inl (ap (λ t. a ∷ t) f ∙ ap (λ n. n ∷ zs) e)
compared-cons a b xs ys zs ws e (inr (inl l)) = inr (inl (longer-cons a b xs ys zs ws e l))
compared-cons a b xs ys zs ws e (inr (inr l)) = inr (inr (longer-cons b a zs ws xs ys (sym e) l))

compared : (xs ys zs ws : List ℕ) → xs ++ ys ≡ zs ++ ws → Compared xs ys zs ws
compared [] ys [] ws e = inl refl
compared [] ys (c ∷ zs) ws e = inr (inr (record { byte = c; more = zs; longer = refl; rest = e }))
compared (a ∷ xs) ys [] ws e = inr (inl (record { byte = a; more = xs; longer = refl; rest = sym e }))
compared (a ∷ xs) ys (c ∷ zs) ws e =
    compared-cons a c xs ys zs ws (first_same a c (xs ++ ys) (zs ++ ws) e) (compared xs ys zs ws (rest_same a c (xs ++ ys) (zs ++ ws) e))

-- ---- heads

pub head-read : (few limit : ℕ) (text body : List ℕ) (h : IsHeadWithin few limit text) → few < 2 ^ 64 → limit < 2 ^ 64
    → header_within few limit (text ++ body) (comments_end false (text ++ body) 0) ≡ Ok (record { vars = h.vars; clauses = h.clauses; end = length text })
head-read few limit text body h small wide =
    let whole = flat_map comment_line h.head.comments ++ header_text h.vars h.clauses in
    let P : List ℕ → Type 0 = λ t. header_within few limit (t ++ body) (comments_end false (t ++ body) 0) ≡ Ok (record { vars = h.vars; clauses = h.clauses; end = length t }) in
    subst P (sym h.head.text_is) (head-taken few limit h.head.comments h.vars h.clauses body small wide h.head.lines h.few_vars h.few_clauses)

head-alone : (few limit : ℕ) (text : List ℕ) (h : IsHeadWithin few limit text) → few < 2 ^ 64 → limit < 2 ^ 64
    → header_within few limit text (comments_end false text 0) ≡ Ok (record { vars = h.vars; clauses = h.clauses; end = length text })
head-alone few limit text h small wide =
    ap (λ t. header_within few limit t (comments_end false t 0)) (sym (append-nil text)) ∙ head-read few limit text [] h small wide

wider : (few limit : ℕ) (text : List ℕ) → few ≤ most → limit ≤ most → IsHeadWithin few limit text → IsHeadWithin most most text
wider few limit text small wide h =
    let v = h.few_vars in
    let c = h.few_clauses in
    record { vars = h.vars; clauses = h.clauses; head = h.head; few_vars = omega (arith, v, small); few_clauses = omega (arith, c, wide) }

head-at : (few limit : ℕ) (a b : List ℕ) → a ≡ b → IsHeadWithin few limit a → IsHeadWithin few limit b
head-at few limit a b e h = subst (IsHeadWithin few limit) e h

ends_same : (a b : Header) → ◌≡◌ {A = Result Header CnfRefusal} (Ok a) (Ok b) → a.end ≡ b.end
ends_same a b e = ap end_in e
  where
    end_in : Result Header CnfRefusal → ℕ
    end_in (Ok h) = h.end
    end_in (Err r) = 0

-- no head begins with another
head-ends : (text more : List ℕ) (c : ℕ) → IsHeadWithin most most text → IsHeadWithin most most (text ++ c ∷ more) → ⊥
head-ends text more c h k =
    let a = head-read most most text (c ∷ more) h (omega arith) (omega arith) in
    let b = head-alone most most (text ++ c ∷ more) k (omega arith) (omega arith) in
    let e : length text ≡ length (text ++ c ∷ more) = ends_same (record { vars = h.vars; clauses = h.clauses; end = length text }) (record { vars = k.vars; clauses = k.clauses; end = length (text ++ c ∷ more) }) (sym a ∙ b) in
    absurd (omega (arith, e, length-append text (c ∷ more)))

-- ---- where a text breaks off

breaks-at : (front rest : List ℕ) (c : ℕ) (cs more : List ℕ) → BreaksOff front rest → rest ≡ c ∷ cs → IsHeadWithin most most (front ++ c ∷ more) → ⊥
breaks-at front rest c cs more b e h = (subst (BreaksOff front) e b) (goes_on most most front more c h)

broken-head : (bytes : List ℕ) (at : ℕ) (b : IsBroken bytes at) → IsHeadWithin most most (b.front ++ b.next ∷ b.begins.more)
broken-head bytes at b = wider (2 ^ 31) (2 ^ 32 - 1) (b.front ++ b.next ∷ b.begins.more) (omega arith) (omega arith) (head_on (2 ^ 31) (2 ^ 32 - 1) b.front b.next b.begins)

-- no head stands before the body
broken-no_head : (bytes : List ℕ) (at : ℕ) (b : IsBroken bytes at) (head body : List ℕ) → IsHeadWithin most most head → bytes ≡ head ++ body → ⊥
broken-no_head bytes at b head body h e =
    let front = b.front in
    let more = b.begins.more in
    let begins = broken-head bytes at b in
    elim (compared head body front b.rest (sym e ∙ b.split)) [
      | inl f ↦ head-ends head more b.next h (head-at most most (front ++ b.next ∷ more) (head ++ b.next ∷ more) (ap (λ t. t ++ b.next ∷ more) (sym f)) begins)
      | inr s ↦ elim s [
        | inl l ↦ breaks-at front b.rest l.byte (l.more ++ body) l.more b.breaks l.rest (head-at most most head (front ++ l.byte ∷ l.more) l.longer h)
        | inr l ↦
            let f : front ++ b.next ∷ more ≡ head ++ l.byte ∷ (l.more ++ b.next ∷ more) = ap (λ t. t ++ b.next ∷ more) l.longer ∙ append_assoc head (l.byte ∷ l.more) (b.next ∷ more) in
            head-ends head (l.more ++ b.next ∷ more) l.byte h (head-at most most (front ++ b.next ∷ more) (head ++ l.byte ∷ (l.more ++ b.next ∷ more)) f begins)
      ]
    ]

broken-longer : (bytes : List ℕ) (at k : ℕ) (a : IsBroken bytes at) (b : IsBroken bytes k) → IsLonger a.front a.rest b.front b.rest → ⊥
broken-longer bytes at k a b l =
    let more = a.begins.more in
    let f : a.front ++ a.next ∷ more ≡ b.front ++ l.byte ∷ (l.more ++ a.next ∷ more) = ap (λ t. t ++ a.next ∷ more) l.longer ∙ append_assoc b.front (l.byte ∷ l.more) (a.next ∷ more) in
    breaks-at b.front b.rest l.byte (l.more ++ a.rest) (l.more ++ a.next ∷ more) b.breaks l.rest
    (head-at most most (a.front ++ a.next ∷ more) (b.front ++ l.byte ∷ (l.more ++ a.next ∷ more)) f (broken-head bytes at a))

-- a text breaks off at one place
broken-same : (bytes : List ℕ) (at k : ℕ) → IsBroken bytes at → IsBroken bytes k → k ≡ at
broken-same bytes at k a b =
    elim (compared a.front a.rest b.front b.rest (sym a.split ∙ b.split)) [
      | inl f ↦ b.place ∙ ap (λ t. length t) (sym f) ∙ sym a.place
      | inr s ↦ elim s [ inl l ↦ absurd (broken-longer bytes at k a b l) | inr l ↦ absurd (broken-longer bytes k at b a l) ]
    ]

-- where a number is too large, that begins no head within the limits, but a head beyond them
broken-no_number : (bytes : List ℕ) (at : ℕ) (b : IsBroken bytes at) (front rest more : List ℕ) → bytes ≡ front ++ rest → IsHeadWithin most most (front ++ more)
    → ((x : List ℕ) → IsHeadWithin (2 ^ 31) (2 ^ 32 - 1) (front ++ x) → ⊥) → ⊥
broken-no_number bytes at b front rest more e h none =
    let begins = head_on (2 ^ 31) (2 ^ 32 - 1) b.front b.next b.begins in
    let tail = b.next ∷ b.begins.more in
    elim (compared front rest b.front b.rest (sym e ∙ b.split)) [
      | inl f ↦ none tail (head-at (2 ^ 31) (2 ^ 32 - 1) (b.front ++ tail) (front ++ tail) (ap (λ t. t ++ tail) (sym f)) begins)
      | inr s ↦ elim s [
        | inl l ↦
            let f : front ++ more ≡ b.front ++ l.byte ∷ (l.more ++ more) = ap (λ t. t ++ more) l.longer ∙ append_assoc b.front (l.byte ∷ l.more) more in
            breaks-at b.front b.rest l.byte (l.more ++ rest) (l.more ++ more) b.breaks l.rest (head-at most most (front ++ more) (b.front ++ l.byte ∷ (l.more ++ more)) f h)
        | inr l ↦ none (l.byte ∷ l.more ++ tail) (head-at (2 ^ 31) (2 ^ 32 - 1) (b.front ++ tail) (front ++ (l.byte ∷ l.more ++ tail)) (ap (λ t. t ++ tail) l.longer ∙ append_assoc front (l.byte ∷ l.more) tail) begins)
      ]
    ]

refused-no_head : (text : List ℕ) (k : ℕ) → header_within (2 ^ 31) (2 ^ 32 - 1) text (comments_end false text 0) ≡ Err (refusal.Header k) → IsHeadWithin (2 ^ 31) (2 ^ 32 - 1) text → ⊥
refused-no_head text k e h =
    let f = head-alone (2 ^ 31) (2 ^ 32 - 1) text h (omega arith) (omega arith) in
    cc

broken-no_vars : (bytes : List ℕ) (at k : ℕ) → IsBroken bytes at → IsOverLimit (2 ^ 31) IsBeforeVars bytes k → ⊥
broken-no_vars bytes at k b o =
    let small = o.small in
    let cs = o.before.comments in
    let lines = flat_map comment_line cs in
    let front = o.front ++ decimal o.number in
    let more : List ℕ = codes " " ++ decimal 0 ++ codes "\n" in
    let shape : front ++ more ≡ lines ++ header_text o.number 0 =
    ap (λ t. t ++ decimal o.number ++ more) o.before.text_is ∙ simp append_assoc in
    broken-no_number bytes at b front o.rest more o.split
    (record { vars = o.number; clauses = 0; head = record { comments = cs; lines = o.before.lines; text_is = shape }; few_vars = omega (arith, small); few_clauses = omega arith })
    (λ x. refused-no_head (front ++ x) (length o.front) (vars-over (front ++ x) (length o.front)
    (record { front = o.front; before = o.before; number = o.number; over = o.over; small = o.small; rest = x; split = refl; place = refl })))

broken-no_clauses : (bytes : List ℕ) (at k : ℕ) → IsBroken bytes at → IsOverLimit (2 ^ 32 - 1) IsBeforeClauses bytes k → ⊥
broken-no_clauses bytes at k b o =
    let small = o.small in
    let vars = o.before.few_vars in
    let cs = o.before.comments in
    let lines = flat_map comment_line cs in
    let front = o.front ++ decimal o.number in
    let more : List ℕ = codes "\n" in
    let shape : front ++ more ≡ lines ++ header_text o.before.vars o.number =
    ap (λ t. t ++ decimal o.number ++ more) o.before.text_is ∙ simp append_assoc in
    broken-no_number bytes at b front o.rest more o.split
    (record { vars = o.before.vars; clauses = o.number; head = record { comments = cs; lines = o.before.lines; text_is = shape }; few_vars = omega (arith, vars); few_clauses = omega (arith, small) })
    (λ x. refused-no_head (front ++ x) (length o.front) (clauses-over (front ++ x) (length o.front)
    (record { front = o.front; before = o.before; number = o.number; over = o.over; small = o.small; rest = x; split = refl; place = refl })))

-- ---- the refusal

broken-place : (bytes : List ℕ) (at k : ℕ) → IsBroken bytes at → IsHeaderFault bytes k → k ≡ at
broken-place bytes at k b (inl c) = broken-same bytes at k b c
broken-place bytes at k b (inr (inl o)) = absurd (broken-no_vars bytes at k b o)
broken-place bytes at k b (inr (inr o)) = absurd (broken-no_clauses bytes at k b o)

broken-by : (bytes : List ℕ) (at : ℕ) (a : Result Header CnfRefusal) → IsBroken bytes at → SaidHead (2 ^ 31) (2 ^ 32 - 1) bytes a → a ≡ Err (refusal.Header at)
broken-by bytes at (Ok h) b s =
    let v = s.few_vars in
    let c = s.few_clauses in
    let head = flat_map comment_line s.comments ++ header_text h.vars h.clauses in
    absurd (broken-no_head bytes at b head s.body
    (record { vars = h.vars; clauses = h.clauses; head = record { comments = s.comments; lines = s.lines; text_is = refl }; few_vars = omega (arith, v); few_clauses = omega (arith, c) }) s.text)
broken-by bytes at (Err e) b s =
    ap Err (s.1 ∙ ap refusal.Header (broken-place bytes at s.0 b (header-fault bytes s.0 s.2)))

pub header-refused : (bytes : List ℕ) (at : ℕ) → IsHeaderFault bytes at → header_within (2 ^ 31) (2 ^ 32 - 1) bytes (comments_end false bytes 0) ≡ Err (refusal.Header at)
header-refused bytes at (inl b) = broken-by bytes at (header_within (2 ^ 31) (2 ^ 32 - 1) bytes (comments_end false bytes 0)) b (said_head (2 ^ 31) (2 ^ 32 - 1) bytes (omega arith) (omega arith))
header-refused bytes at (inr (inl o)) = vars-over bytes at o
header-refused bytes at (inr (inr o)) = clauses-over bytes at o
