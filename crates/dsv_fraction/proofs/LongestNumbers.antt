-- Each number at the front of a text is within the length that is measured.
use Rattle.std.proofs.Common.{◌≡◌, ℕ, zero, suc, ◌+◌, ◌<◌, ◌≤◌, true, false, not, ◌&&◌, ◌==◌, cond, inl, inr, List, [], ◌∷◌, ◌++◌, length, take, drop, refl, sym, ap, ◌∙◌, subst, arith, append_assoc, length-append}
use Rattle.std.proofs.lemmas.Bool.{cond_both, and_parts, both_ways, ne_eqb, eqb-true, eq-eqb}
use Rattle.std.proofs.lemmas.List.{length-take-le, take-append-drop, drop-drop}
use Rattle.std.proofs.Math.Seq.{drop-append_seam, drop-append-add, take-length}
use Rattle.std.specs.List.{list_all}
use Rattle.std.specs.Prelude.{◌⊎◌, ◌↔◌, codes}
use Rattle.dsv_text.specs.Bytes.{is_digit}
use Rattle.dsv_text.specs.Digits.{digits_len}
use Rattle.dsv_text.proofs.DigitLemmas.{digits_append}
use Rattle.dsv_fraction.specs.Number.{sign_len, point_len, suffix_len, whole_len, has_mark, exponent_len, number_len, is_number}
use Rattle.dsv_fraction.specs.NumberText.{AreDigits, IsSign, IsBody, IsMark, IsExponent, IsSuffix, IsNumberText, IsLongestNumber}
use Rattle.dsv_fraction.proofs.NumberFronts.{number_prefix, number_within, by_point}

not_none : (n : ℕ) → 0 < n → (n == 0) ≡ false
not_none n h = ne_eqb n 0 (λ e. omega (arith, h, e))

-- ---- the sign

digit_apart : (d c : ℕ) → is_digit d ≡ true → is_digit c ≡ false → (d == c) ≡ false
digit_apart d c h k = ne_eqb d c (λ e. both_ways (is_digit d) (ap is_digit e ∙ k) h)

digit_no_sign : (d : ℕ) (rest : List ℕ) → is_digit d ≡ true → sign_len (d ∷ rest) ≡ 0
digit_no_sign d rest h =
    let p : (d == 43) ≡ false = digit_apart d 43 h refl in
    let q : (d == 45) ≡ false = digit_apart d 45 h refl in
    rw (p, q) refl

digits_no_sign : (ds rest : List ℕ) → AreDigits ds → 0 < length ds → sign_len (ds ++ rest) ≡ 0
digits_no_sign [] rest h k = absurd (omega (arith, k))
digits_no_sign (d ∷ ds) rest h k = digit_no_sign d (ds ++ rest) (and_parts (is_digit d) (list_all is_digit ds) h).0

pointed_no_sign : (before after rest : List ℕ) → AreDigits before → sign_len ((before ++ (codes "." ++ after)) ++ rest) ≡ 0
pointed_no_sign [] after rest h = refl
pointed_no_sign (d ∷ ds) after rest h = digit_no_sign d ((ds ++ (codes "." ++ after)) ++ rest) (and_parts (is_digit d) (list_all is_digit ds) h).0

body_no_sign : (body rest : List ℕ) → IsBody body → sign_len (body ++ rest) ≡ 0
body_no_sign body rest (IsBody.whole ds h k) = digits_no_sign ds rest h k
body_no_sign body rest (IsBody.pointed before after h i k) = pointed_no_sign before after rest h

sign_again : (sign rest : List ℕ) → IsSign sign → sign_len rest ≡ 0 → sign_len (sign ++ rest) ≡ length sign
sign_again sign rest IsSign.none h = h
sign_again sign rest IsSign.plus h = refl
sign_again sign rest IsSign.minus h = refl

-- ---- an exponent and a suffix

suffix_long : (suffix rest : List ℕ) → IsSuffix suffix → length suffix ≤ suffix_len (suffix ++ rest)
suffix_long suffix rest IsSuffix.none = omega arith
suffix_long suffix rest IsSuffix.small_f = omega arith
suffix_long suffix rest IsSuffix.large_f = omega arith
suffix_long suffix rest IsSuffix.small_l = omega arith
suffix_long suffix rest IsSuffix.large_l = omega arith

suffix_short : (suffix : List ℕ) → IsSuffix suffix → length suffix ≤ 1
suffix_short suffix IsSuffix.none = omega arith
suffix_short suffix IsSuffix.small_f = omega arith
suffix_short suffix IsSuffix.large_f = omega arith
suffix_short suffix IsSuffix.small_l = omega arith
suffix_short suffix IsSuffix.large_l = omega arith

mark_is : (mark rest : List ℕ) → IsMark mark → (has_mark (mark ++ rest) ≡ true) × (length mark ≡ 1) × (drop 1 (mark ++ rest) ≡ rest)
mark_is mark rest IsMark.small = (refl, refl, refl)
mark_is mark rest IsMark.large = (refl, refl, refl)

-- an exponent's length by its sign
abbrev by_sign : List ℕ → ℕ → ℕ
by_sign text s = let n = digits_len (drop (1 + s) text) in cond (has_mark text && not (n == 0)) (1 + s + n) 0

exponent_is : (text : List ℕ) (s n : ℕ) → has_mark text ≡ true → sign_len (drop 1 text) ≡ s → digits_len (drop (1 + s) text) ≡ n → 0 < n → exponent_len text ≡ 1 + s + n
exponent_is text s n h i j k =
    ap (by_sign text) i ∙ ap (λ x. cond (has_mark text && not (x == 0)) (1 + s + x) 0) j
    ∙ ap (λ t. cond (t && not (n == 0)) (1 + s + n) 0) h ∙ ap (λ t. cond (not t) (1 + s + n) 0) (not_none n k)

power_is : (mark sign ds rest : List ℕ) → IsMark mark → IsSign sign → AreDigits ds → 0 < length ds →
    exponent_len (mark ++ (sign ++ (ds ++ rest))) ≡ 1 + length sign + (length ds + digits_len rest)
power_is mark sign ds rest m s h k =
    let text = mark ++ (sign ++ (ds ++ rest)) in
    let p = mark_is mark (sign ++ (ds ++ rest)) m in
    let i : sign_len (drop 1 text) ≡ length sign = ap sign_len p.2 ∙ sign_again sign (ds ++ rest) s (digits_no_sign ds rest h k) in
    let d : drop (1 + length sign) text ≡ ds ++ rest =
    sym (drop-drop (length sign) 1 text) ∙ ap (drop (length sign)) p.2 ∙ drop-append_seam sign (ds ++ rest) in
    let j : digits_len (drop (1 + length sign) text) ≡ length ds + digits_len rest = ap digits_len d ∙ digits_append ds rest h in
    exponent_is text (length sign) (length ds + digits_len rest) p.0 i j (omega (arith, k))

-- of an exponent or none and a suffix or none
abbrev tail_len : List ℕ → ℕ
tail_len text = let e = exponent_len text in e + suffix_len (drop e text)

tail_by : (text : List ℕ) (k e : ℕ) → k ≤ suffix_len text → k ≤ 1 → k ≤ e + suffix_len (drop e text)
tail_by text k zero h i = omega (arith, h)
tail_by text k (suc e) h i = omega (arith, i)

power_by : (text rest : List ℕ) (k len d : ℕ) → k ≤ suffix_len rest → k ≤ 1 → drop len text ≡ rest → len + k ≤ (len + d) + suffix_len (drop (len + d) text)
power_by text rest k len zero h i e =
    let z : len + zero ≡ len = omega arith in
    let w : suffix_len (drop (len + zero) text) ≡ suffix_len rest = ap (λ n. suffix_len (drop n text)) z ∙ ap suffix_len e in
    omega (arith, h, w)
power_by text rest k len (suc d) h i e = omega (arith, i)

power_long : (mark sign ds suffix rest : List ℕ) → IsMark mark → IsSign sign → AreDigits ds → 0 < length ds → IsSuffix suffix →
    length (mark ++ (sign ++ ds)) + length suffix ≤ tail_len ((mark ++ (sign ++ ds)) ++ (suffix ++ rest))
power_long mark sign ds suffix rest m s h k x =
    let others = suffix ++ rest in
    let power = mark ++ (sign ++ ds) in
    let text = power ++ others in
    let d = digits_len others in
    let l : length power ≡ 1 + length sign + length ds =
    omega (arith, (mark_is mark [] m).1, length-append mark (sign ++ ds), length-append sign ds) in
    let split : text ≡ mark ++ (sign ++ (ds ++ others)) = append_assoc mark (sign ++ ds) others ∙ ap (λ t. mark ++ t) (append_assoc sign ds others) in
    let long : 1 + length sign + (length ds + d) ≡ length power + d = omega (arith, l) in
    let e : exponent_len text ≡ length power + d = ap exponent_len split ∙ power_is mark sign ds others m s h k ∙ long in
    let by : length power + length suffix ≤ (length power + d) + suffix_len (drop (length power + d) text) =
    power_by text others (length suffix) (length power) d (suffix_long suffix rest x) (suffix_short suffix x) (drop-append_seam power others) in
    subst (λ n. length power + length suffix ≤ n + suffix_len (drop n text)) (sym e) by

tail_long : (exponent suffix rest : List ℕ) → IsExponent exponent → IsSuffix suffix → length exponent + length suffix ≤ tail_len (exponent ++ (suffix ++ rest))
tail_long exponent suffix rest IsExponent.none x =
    let text = suffix ++ rest in
    let h : length suffix ≤ tail_len text = tail_by text (length suffix) (exponent_len text) (suffix_long suffix rest x) (suffix_short suffix x) in
    omega (arith, h)
tail_long exponent suffix rest (IsExponent.power mark sign ds m s h k) x = power_long mark sign ds suffix rest m s h k x

-- ---- the body

-- no digit and no point is first
abbrev EndsBody : List ℕ → Type 0
EndsBody rest = (digits_len rest ≡ 0) × (point_len rest ≡ 0)

by_point_least : (text : List ℕ) (n p : ℕ) → 0 < n → n ≤ by_point text n p
by_point_least text n p h =
    let m = cond (p == 0) 0 (digits_len (drop (n + p) text)) in
    cond_both (n + m == 0) 0 (n + p + m) (λ k. n ≤ k) (λ e. let z : n + m ≡ 0 = eqb-true (n + m) 0 e in omega (arith, h, z)) (λ e. omega arith)

-- what is measured of a body before a text: no less, and the same where the body ends there
record Spans (body rest : List ℕ) : Type 0 where
  least : length body ≤ whole_len (body ++ rest)
  same : EndsBody rest → whole_len (body ++ rest) ≡ length body

whole_spans : (ds rest : List ℕ) → AreDigits ds → 0 < length ds → Spans ds rest
whole_spans ds rest h k =
    let text = ds ++ rest in
    let n = digits_len text in
    let e : n ≡ length ds + digits_len rest = digits_append ds rest h in
    let some : 0 < n = omega (arith, e, k) in
    let least : n ≤ whole_len text = by_point_least text n (point_len (drop n text)) some in
    record {
      least = omega (arith, e, least);
      same = λ ends.
          let f : n ≡ length ds = omega (arith, e, ends.0) in
          let p : point_len (drop (length ds) text) ≡ 0 = ap point_len (drop-append_seam ds rest) ∙ ends.1 in
          let z : (length ds + 0 == 0) ≡ false = not_none (length ds + 0) (omega (arith, k)) in
          ap (λ x. by_point text x (point_len (drop x text))) f ∙ ap (by_point text (length ds)) p
          ∙ ap (λ t. cond t 0 (length ds + 0 + 0)) z ∙ omega arith;
    }

pointed_is : (before after rest : List ℕ) → AreDigits before → AreDigits after → 0 < length before + length after →
    whole_len ((before ++ (codes "." ++ after)) ++ rest) ≡ length before + 1 + (length after + digits_len rest)
pointed_is before after rest h i k =
    let text = (before ++ (codes "." ++ after)) ++ rest in
    let b = length before in
    let m = length after + digits_len rest in
    let split : text ≡ before ++ (46 ∷ (after ++ rest)) = append_assoc before (codes "." ++ after) rest in
    let n : digits_len text ≡ b = ap digits_len split ∙ digits_append before (46 ∷ (after ++ rest)) h ∙ omega arith in
    let p : point_len (drop b text) ≡ 1 = ap (λ t. point_len (drop b t)) split ∙ ap point_len (drop-append_seam before (46 ∷ (after ++ rest))) in
    let d : drop (b + 1) text ≡ after ++ rest = ap (drop (b + 1)) split ∙ drop-append-add before (46 ∷ (after ++ rest)) 1 in
    let e : digits_len (drop (b + 1) text) ≡ m = ap digits_len d ∙ digits_append after rest i in
    let z : (b + m == 0) ≡ false = not_none (b + m) (omega (arith, k)) in
    ap (λ x. by_point text x (point_len (drop x text))) n ∙ ap (by_point text b) p
    ∙ ap (λ x. cond (b + x == 0) 0 (b + 1 + x)) e ∙ ap (λ t. cond t 0 (b + 1 + m)) z

body_spans : (body rest : List ℕ) → IsBody body → Spans body rest
body_spans body rest (IsBody.whole ds h k) = whole_spans ds rest h k
body_spans body rest (IsBody.pointed before after h i k) =
    let pointed = before ++ (codes "." ++ after) in
    let e = pointed_is before after rest h i k in
    let l : length pointed ≡ length before + (1 + length after) = length-append before (codes "." ++ after) ∙ omega arith in
    record {
      least = omega (arith, e, l);
      same = λ ends. e ∙ omega (arith, l, ends.0);
    }

-- ---- the number

suffix_ends : (suffix rest : List ℕ) → IsSuffix suffix → (length suffix ≡ 0) ⊎ EndsBody (suffix ++ rest)
suffix_ends suffix rest IsSuffix.none = inl refl
suffix_ends suffix rest IsSuffix.small_f = inr (refl, refl)
suffix_ends suffix rest IsSuffix.large_f = inr (refl, refl)
suffix_ends suffix rest IsSuffix.small_l = inr (refl, refl)
suffix_ends suffix rest IsSuffix.large_l = inr (refl, refl)

mark_ends : (mark rest : List ℕ) → IsMark mark → EndsBody (mark ++ rest)
mark_ends mark rest IsMark.small = (refl, refl)
mark_ends mark rest IsMark.large = (refl, refl)

tail_ends : (exponent suffix rest : List ℕ) → IsExponent exponent → IsSuffix suffix → (length exponent + length suffix ≡ 0) ⊎ EndsBody (exponent ++ (suffix ++ rest))
tail_ends exponent suffix rest IsExponent.none x = elim (suffix_ends suffix rest x) [ inl e ↦ inl (omega (arith, e)) | inr e ↦ inr e ]
tail_ends exponent suffix rest (IsExponent.power mark sign ds m s h k) x =
    inr (subst EndsBody (sym (append_assoc mark (sign ++ ds) (suffix ++ rest))) (mark_ends mark ((sign ++ ds) ++ (suffix ++ rest)) m))

-- a body and what may stand after it are within what is measured
body_long : (body exponent suffix rest : List ℕ) → IsBody body → IsExponent exponent → IsSuffix suffix →
    let text = body ++ (exponent ++ (suffix ++ rest)) in
    length body + (length exponent + length suffix) ≤ whole_len text + tail_len (drop (whole_len text) text)
body_long body exponent suffix rest b e x =
    let others = exponent ++ (suffix ++ rest) in
    let text = body ++ others in
    let spans = body_spans body others b in
    elim (tail_ends exponent suffix rest e x) [
      | inl z ↦ omega (arith, z, spans.least)
      | inr ends ↦
          let long : length exponent + length suffix ≤ tail_len others = tail_long exponent suffix rest e x in
          let d : drop (length body) text ≡ others = drop-append_seam body others in
          let at : length body + (length exponent + length suffix) ≤ length body + tail_len (drop (length body) text) = rw d (omega (arith, long)) in
          subst (λ n. length body + (length exponent + length suffix) ≤ n + tail_len (drop n text)) (sym (spans.same ends)) at
    ]

-- a number's length by its sign and its body
abbrev by_body : List ℕ → ℕ → ℕ → ℕ
by_body text s n =
    let e = exponent_len (drop (s + n) text) in
    cond (n == 0) 0 (s + n + e + suffix_len (drop (s + n + e) text))

number_is : (text rest : List ℕ) (s : ℕ) → sign_len text ≡ s → drop s text ≡ rest → 0 < whole_len rest →
    number_len text ≡ s + (whole_len rest + tail_len (drop (whole_len rest) rest))
number_is text rest s i d k =
    let n = whole_len rest in
    let v = drop n rest in
    let dv : drop (s + n) text ≡ v = sym (drop-drop n s text) ∙ ap (drop n) d in
    let e = exponent_len (drop (s + n) text) in
    let de : drop (s + n + e) text ≡ drop e (drop (s + n) text) = sym (drop-drop e (s + n) text) in
    ap (λ x. by_body text x (whole_len (drop x text))) i ∙ ap (λ t. by_body text s (whole_len t)) d
    ∙ ap (λ t. cond t 0 (s + n + e + suffix_len (drop (s + n + e) text))) (not_none n k)
    ∙ ap (λ t. s + n + e + suffix_len t) de ∙ ap (λ t. s + n + exponent_len t + suffix_len (drop (exponent_len t) t)) dv ∙ omega arith

body_some : (body : List ℕ) → IsBody body → 0 < length body
body_some body (IsBody.whole ds h k) = k
body_some body (IsBody.pointed before after h i k) = omega (arith, length-append before (codes "." ++ after))

parts_text : (s b e f rest : List ℕ) → (s ++ (b ++ (e ++ f))) ++ rest ≡ s ++ (b ++ (e ++ (f ++ rest)))
parts_text s b e f rest =
    append_assoc s (b ++ (e ++ f)) rest ∙ ap (λ t. s ++ t) (append_assoc b (e ++ f) rest ∙ ap (λ t. b ++ t) (append_assoc e f rest))

parts_long : (s b e f rest : List ℕ) → IsSign s → IsBody b → IsExponent e → IsSuffix f →
    length s + (length b + (length e + length f)) ≤ number_len (s ++ (b ++ (e ++ (f ++ rest))))
parts_long s b e f rest is_s is_b is_e is_f =
    let others = b ++ (e ++ (f ++ rest)) in
    let text = s ++ others in
    let i : sign_len text ≡ length s = sign_again s others is_s (body_no_sign b (e ++ (f ++ rest)) is_b) in
    let least : length b ≤ whole_len others = (body_spans b (e ++ (f ++ rest)) is_b).least in
    let some : 0 < whole_len others = omega (arith, least, body_some b is_b) in
    let n = number_is text others (length s) i (drop-append_seam s others) some in
    let long = body_long b e f rest is_b is_e is_f in
    omega (arith, n, long)

parts_length : (s b e f : List ℕ) → length (s ++ (b ++ (e ++ f))) ≡ length s + (length b + (length e + length f))
parts_length s b e f = omega (arith, length-append s (b ++ (e ++ f)), length-append b (e ++ f), length-append e f)

number_long : (text rest : List ℕ) → IsNumberText text → length text ≤ number_len (text ++ rest)
number_long text rest t =
    let l : length text ≡ length t.sign + (length t.body + (length t.exponent + length t.suffix)) =
    ap length t.split ∙ parts_length t.sign t.body t.exponent t.suffix in
    let whole : text ++ rest ≡ t.sign ++ (t.body ++ (t.exponent ++ (t.suffix ++ rest))) =
    ap (λ x. x ++ rest) t.split ∙ parts_text t.sign t.body t.exponent t.suffix rest in
    let long = parts_long t.sign t.body t.exponent t.suffix rest t.is_sign t.is_body t.is_exponent t.is_suffix in
    rw whole (omega (arith, l, long))

-- ---- the law

longest : (text : List ℕ) (m : ℕ) → m ≤ length text → IsNumberText (take m text) → m ≤ number_len text
longest text m h t =
    let l : length (take m text) ≡ m = length-take-le m text h in
    let long : length (take m text) ≤ number_len text = subst (λ x. length (take m text) ≤ number_len x) (take-append-drop m text) (number_long (take m text) (drop m text) t) in
    omega (arith, l, long)

pub longest_law : (text : List ℕ) → IsLongestNumber text (number_len text)
longest_law text = record { within = number_within text; is = number_prefix text; longest = longest text }

whole_number : (text : List ℕ) → is_number text ≡ true → IsNumberText text
whole_number text h =
    let p = and_parts (not (length text == 0)) (number_len text == length text) h in
    let e : number_len text ≡ length text = eqb-true (number_len text) (length text) p.1 in
    let some : 0 < number_len text = grind (arith, p.0, e) in
    subst IsNumberText (ap (λ n. take n text) e ∙ take-length text) (number_prefix text some)

number_whole : (text : List ℕ) → IsNumberText text → is_number text ≡ true
number_whole text t =
    let long : length text ≤ number_len text = longest text (length text) (omega arith) (subst IsNumberText (sym (take-length text)) t) in
    let e : number_len text ≡ length text = omega (arith, long, number_within text) in
    let l : length text ≡ length t.sign + (length t.body + (length t.exponent + length t.suffix)) =
    ap length t.split ∙ parts_length t.sign t.body t.exponent t.suffix in
    let some : 0 < length text = omega (arith, l, body_some t.body t.is_body) in
    rw (not_none (length text) some, e) (eq-eqb (length text) (length text) refl)

pub whole_law : (text : List ℕ) → (is_number text ≡ true) ↔ IsNumberText text
whole_law text = (whole_number text, number_whole text)
