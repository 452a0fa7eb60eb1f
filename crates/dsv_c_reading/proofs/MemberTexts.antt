-- Names of registers that differ have texts that differ, and lists of such names are joined.
use Rattle.std.proofs.Common.{◌≡◌, ℕ, ◌^◌, ◌<◌, true, false, Option, Some, List, [], ◌∷◌, ◌++◌, map, refl, sym, ap, ◌∙◌, subst, arith, append_assoc}
use Rattle.std.specs.List.{All, list_all, list_any}
use Rattle.std.specs.Str.{bytes_eq}
use Rattle.std.specs.Fmt.{decimal}
use Rattle.std.proofs.lemmas.Bool.{and_parts, or_from, both_ways, false_from_ne_true}
use Rattle.std.proofs.lemmas.Fmt.{decimal_injective}
use Rattle.std.proofs.lemmas.List.{append_cancel_left, append-nil, map-append}
use Rattle.std.proofs.lemmas.List.Elements.{All-head, All-tail, All-map, All-weaker}
use Rattle.std.proofs.lemmas.List.Folds.{list_any-append, list_any_none}
use Rattle.std.proofs.lemmas.Slice.Eq.{bytes_eq-Decides}
use Rattle.dsv_text.specs.Bytes.{is_digit}
use Rattle.dsv_lines.proofs.WrittenNumerals.{decimal_is}
use Rattle.dsv_ctext.specs.Texts.{section_text, member_text}
use Rattle.dsv_ctext.specs.declared.names.MemberName.{MemberName}
use Rattle.dsv_c_reading.specs.Labels.{AreNew}

-- ---- two texts
-- digits before a `_`, which is no digit
same_digits : (ds es xs ys : List ℕ) → list_all is_digit ds ≡ true → list_all is_digit es ≡ true → ds ++ 95 ∷ xs ≡ es ++ 95 ∷ ys → ds ≡ es
same_digits [] [] xs ys h k e = refl
same_digits [] (d ∷ es) xs ys h k e =
    let p = and_parts (is_digit d) (list_all is_digit es) k in
    let same : 95 ≡ d = cc in
    absurd (both_ways (is_digit 95) refl (ap is_digit same ∙ p.0))
same_digits (d ∷ ds) [] xs ys h k e =
    let p = and_parts (is_digit d) (list_all is_digit ds) h in
    let same : 95 ≡ d = cc in
    absurd (both_ways (is_digit 95) refl (ap is_digit same ∙ p.0))
same_digits (d ∷ ds) (b ∷ es) xs ys h k e =
    let p = and_parts (is_digit d) (list_all is_digit ds) h in
    let q = and_parts (is_digit b) (list_all is_digit es) k in
    let rest : ds ≡ es = same_digits ds es xs ys p.1 q.1 (cc) in
    cc

-- the text of a section's number, and what stands after it
section_split : (k : ℕ) (xs : List ℕ) → section_text (Some k) ++ xs ≡ 115 ∷ (decimal k ++ 95 ∷ xs)
section_split k xs = ap (λ (t : List ℕ). 115 ∷ t) (append_assoc (decimal k) (95 ∷ []) xs)

same_section : (j k : ℕ) (xs ys : List ℕ) → j < 2 ^ 32 → k < 2 ^ 32 → section_text (Some j) ++ xs ≡ section_text (Some k) ++ ys → j ≡ k
same_section j k xs ys g h e =
    let split : 115 ∷ (decimal j ++ 95 ∷ xs) ≡ 115 ∷ (decimal k ++ 95 ∷ ys) = sym (section_split j xs) ∙ (e ∙ section_split k ys) in
    let digits : decimal j ≡ decimal k = same_digits (decimal j) (decimal k) xs ys (decimal_is j (omega arith)).digits (decimal_is k (omega arith)).digits (cc) in
    decimal_injective j k (omega arith) (omega arith) digits

-- ---- two names
abbrev pub Differ : MemberName → MemberName → Type 0
Differ m n = member_text m ≡ member_text n → ⊥

-- what stands after one section's text
same_rest : (m n : MemberName) → m.section ≡ n.section → member_text m ≡ member_text n → m.letter ∷ 95 ∷ decimal m.number ≡ n.letter ∷ 95 ∷ decimal n.number
same_rest m n s e =
    let there : section_text n.section ++ (m.letter ∷ 95 ∷ decimal m.number) ≡ section_text n.section ++ (n.letter ∷ 95 ∷ decimal n.number) =
    ap (λ (o : Option ℕ). section_text o ++ (m.letter ∷ 95 ∷ decimal m.number)) (sym s) ∙ e in
    append_cancel_left (section_text n.section) (m.letter ∷ 95 ∷ decimal m.number) (n.letter ∷ 95 ∷ decimal n.number) there

pub letters_differ : (m n : MemberName) → m.section ≡ n.section → (m.letter ≡ n.letter → ⊥) → Differ m n
letters_differ m n s h e = let rest = same_rest m n s e in h (cc)

pub numbers_differ : (m n : MemberName) → m.section ≡ n.section → m.number < n.number → n.number < 2 ^ 32 → Differ m n
numbers_differ m n s h k e =
    let rest = same_rest m n s e in
    let digits : decimal m.number ≡ decimal n.number = cc in
    let same = decimal_injective m.number n.number (omega arith) (omega arith) digits in
    omega arith

pub sections_differ : (m n : MemberName) (j k : ℕ) → m.section ≡ Some j → n.section ≡ Some k → j < k → k < 2 ^ 32 → Differ m n
sections_differ m n j k p q h l e =
    let xs = m.letter ∷ 95 ∷ decimal m.number in
    let ys = n.letter ∷ 95 ∷ decimal n.number in
    let there : section_text (Some j) ++ xs ≡ section_text (Some k) ++ ys =
    ap (λ (o : Option ℕ). section_text o ++ xs) (sym p) ∙ (e ∙ ap (λ (o : Option ℕ). section_text o ++ ys) q) in
    let same = same_section j k xs ys (omega arith) l there in
    omega arith

-- ---- lists of texts
abbrev pub IsFresh : List (List ℕ) → List ℕ → Type 0
IsFresh before n = list_any (λ m. bytes_eq m n) before ≡ false

fresh_joined : (xs ys : List (List ℕ)) (n : List ℕ) → IsFresh xs n → IsFresh ys n → IsFresh (xs ++ ys) n
fresh_joined xs ys n h k = list_any-append (λ m. bytes_eq m n) xs ys ∙ or_from (list_any (λ m. bytes_eq m n) xs) (list_any (λ m. bytes_eq m n) ys) h k

-- other texts may stand before
new_behind : (before middle ns : List (List ℕ)) → AreNew middle ns → All (IsFresh before) ns → AreNew (before ++ middle) ns
new_behind before middle [] h k = tt
new_behind before middle (n ∷ ns) h k = (
  fresh_joined before middle n (All-head (IsFresh before) n ns k) h.0,
  subst (λ (ms : List (List ℕ)). AreNew ms ns) (sym (append_assoc before middle (n ∷ []))) (new_behind before (middle ++ n ∷ []) ns h.1 (All-tail (IsFresh before) n ns k)),
)

new_joined : (before xs ys : List (List ℕ)) → AreNew before xs → AreNew (before ++ xs) ys → AreNew before (xs ++ ys)
new_joined before [] ys h k = subst (λ (ms : List (List ℕ)). AreNew ms ys) (append-nil before) k
new_joined before (x ∷ xs) ys h k = (
  h.0,
  new_joined (before ++ x ∷ []) xs ys h.1 (subst (λ (ms : List (List ℕ)). AreNew ms ys) (sym (append_assoc before (x ∷ []) xs)) k),
)

-- ---- lists of names
abbrev pub DiffersFrom : List MemberName → MemberName → Type 0
DiffersFrom ms n = All (λ m. Differ m n) ms

abbrev pub AreDifferent : List MemberName → Type 0
AreDifferent ms = AreNew [] (map member_text ms)

other_text : (m n : MemberName) → Differ m n → bytes_eq (member_text m) (member_text n) ≡ false
other_text m n h = false_from_ne_true (bytes_eq (member_text m) (member_text n)) (λ e. h ((bytes_eq-Decides (member_text m) (member_text n)).0 e))

fresh_from : (ms : List MemberName) (n : MemberName) → DiffersFrom ms n → IsFresh (map member_text ms) (member_text n)
fresh_from ms n h =
    list_any_none (λ t. bytes_eq t (member_text n)) (map member_text ms)
    (All-map (λ t. bytes_eq t (member_text n) ≡ false) member_text ms (All-weaker (λ m. Differ m n) (λ m. bytes_eq (member_text m) (member_text n) ≡ false) (λ m d. other_text m n d) ms h))

pub different_joined : (ms ns : List MemberName) → AreDifferent ms → AreDifferent ns → All (DiffersFrom ms) ns → AreDifferent (ms ++ ns)
different_joined ms ns h k a =
    let xs = map member_text ms in
    let ys = map member_text ns in
    let fresh : All (IsFresh xs) ys = All-map (IsFresh xs) member_text ns (All-weaker (DiffersFrom ms) (λ n. IsFresh xs (member_text n)) (λ n d. fresh_from ms n d) ns a) in
    let later : AreNew xs ys = subst (λ (ts : List (List ℕ)). AreNew ts ys) (append-nil xs) (new_behind xs [] ys k fresh) in
    subst (AreNew []) (sym (map-append member_text ms ns)) (new_joined [] xs ys h later)
