use Rattle.std.proofs.Common.{◌≡◌, ◌≢◌, ℕ, ◌+◌, ◌-◌, ◌<◌, List, [], ◌∷◌, ◌++◌, refl, arith, ap, sym, ◌∙◌, inl, inr, ◌⊎◌, length, length-append, length-set, get_or, set, get_or-set_other, get_or-set_same, slice_get, slice_index_or, slice_index, Some}
use Rattle.std.proofs.lemmas.Bool.{cases_eq, cases_lt}
use Rattle.std.proofs.Math.ListN.{get_or-append}
use Rattle.std.proofs.Math.Seq.{get_or-append_seam}
use Rattle.std.proofs.lemmas.Option.{slice_get_within, get_or_from_slice_get, slice_get-get_or}
use Rattle.dsv_cnf.specs.Literal.{Literal, code_of}
use Rattle.dsv_cnf.specs.LiteralCode.{literal_of, literal-code_of}
use Rattle.dsv_solver.specs.declared.watches.Pair.{Pair}
use Rattle.dsv_solver.specs.Watched.{IsAt, IsListed, IsPairOver, list_of}

pub IsAt-swapped : (xs ys : List ℕ) (j i i' : ℕ) → length ys + 1 ≡ length xs → (j + 1 < length xs → slice_index ys j ≡ slice_index xs (length xs - 1)) → ((k : ℕ) → k ≢ j → k + 1 < length xs → slice_index ys k ≡ slice_index xs k) → slice_index xs j ≡ i → i' ≢ i → j < length xs → IsAt xs i' → IsAt ys i'
IsAt-swapped xs ys j i i' len moved others at apart lt h =
    let n : h.place ≢ j = λ e. apart (sym h.is ∙ (ap (λ x. slice_index xs x) e ∙ at)) in
    elim (cases_lt (h.place + 1) (length xs)) [
      | inl in_front ↦ record { place = h.place; inside = omega arith; is = others h.place n in_front ∙ h.is }
      | inr last ↦
          let e : h.place ≡ length xs - 1 = omega (arith, h.inside) in
          let lower : j + 1 < length xs = omega (arith, h.inside, lt) in
          record { place = j; inside = omega arith; is = moved lower ∙ (ap (λ x. slice_index xs x) (sym e) ∙ h.is) }
    ]

pub IsAt-pushed : (xs : List ℕ) (y i : ℕ) → IsAt xs i → IsAt (xs ++ y ∷ []) i
IsAt-pushed xs y i h = record { place = h.place; inside = omega (arith, h.inside, length-append xs (y ∷ [])); is = get_or-append xs (y ∷ []) 0 h.place h.inside ∙ h.is }

pub IsAt-new : (xs : List ℕ) (y : ℕ) → IsAt (xs ++ y ∷ []) y
IsAt-new xs y = record { place = length xs; inside = omega (arith, length-append xs (y ∷ [])); is = get_or-append_seam xs y [] 0 }

pub code-apart : (a b : Literal) → a ≢ b → code_of a ≢ code_of b
code-apart a b n e = n (sym (literal-code_of a) ∙ (ap literal_of e ∙ literal-code_of b))

-- lists after a push to one and a swap_remove from another
pub record Rewatched (before behind : List (List ℕ)) (a f i j : ℕ) : Type 0 where
  pub middle : List (List ℕ)
  pub pushed : middle ≡ set before a (get_or before a [] ++ i ∷ [])
  pub swapped : List ℕ
  pub put : behind ≡ set middle f swapped
  pub len : length swapped + 1 ≡ length (get_or middle f [])
  pub moved : j + 1 < length (get_or middle f []) → slice_index swapped j ≡ slice_index (get_or middle f []) (length (get_or middle f []) - 1)
  pub others : (k : ℕ) → k ≢ j → k + 1 < length (get_or middle f []) → slice_index swapped k ≡ slice_index (get_or middle f []) k
  pub at : slice_index (get_or before f []) j ≡ i
  pub inside : j < length (get_or before f [])
  pub apart : a ≢ f
  pub room_a : a < length before
  pub room_f : f < length before

middle-f : (before behind : List (List ℕ)) (a f i j : ℕ) → (r : Rewatched before behind a f i j) → get_or r.middle f [] ≡ get_or before f []
middle-f before behind a f i j r = rw r.pushed (get_or-set_other before a f (get_or before a [] ++ i ∷ []) [] (λ e. r.apart (sym e)))

behind-f : (before behind : List (List ℕ)) (a f i j : ℕ) → (r : Rewatched before behind a f i j) → get_or behind f [] ≡ r.swapped
behind-f before behind a f i j r = rw r.put (get_or-set_same r.middle f r.swapped [] (omega (arith, r.room_f, ap length r.pushed, length-set before a (get_or before a [] ++ i ∷ []))))

behind-a : (before behind : List (List ℕ)) (a f i j : ℕ) → (r : Rewatched before behind a f i j) → get_or behind a [] ≡ get_or before a [] ++ i ∷ []
behind-a before behind a f i j r = rw (r.put, get_or-set_other r.middle f a r.swapped [] r.apart, r.pushed, get_or-set_same before a (get_or before a [] ++ i ∷ []) [] r.room_a) refl

behind-other : (before behind : List (List ℕ)) (a f i j x : ℕ) → (r : Rewatched before behind a f i j) → x ≢ a → x ≢ f → get_or behind x [] ≡ get_or before x []
behind-other before behind a f i j x r n m = rw (r.put, get_or-set_other r.middle f x r.swapped [] m, r.pushed, get_or-set_other before a x (get_or before a [] ++ i ∷ []) [] n) refl

pub kept : (before behind : List (List ℕ)) (a f i j x i' : ℕ) → Rewatched before behind a f i j → (x ≢ f) ⊎ (i' ≢ i) → IsAt (get_or before x []) i' → IsAt (get_or behind x []) i'
kept before behind a f i j x i' r o h =
    elim (cases_eq x f) [
      | inl e ↦
          let n : i' ≢ i = elim o [ inl d ↦ absurd (d e) | inr d ↦ d ] in
          let m = middle-f before behind a f i j r in
          rw (e, behind-f before behind a f i j r)
          (IsAt-swapped (get_or before f []) r.swapped j i i' (r.len ∙ ap length m) (rw m at r.moved) (rw m at r.others) r.at n r.inside (rw e at h))
      | inr d ↦
          elim (cases_eq x a) [
            | inl e ↦ rw (e, behind-a before behind a f i j r) (IsAt-pushed (get_or before a []) i i' (rw e at h))
            | inr g ↦ rw (behind-other before behind a f i j x r g d) h
          ]
    ]

pub kept-new : (before behind : List (List ℕ)) (a f i j : ℕ) → Rewatched before behind a f i j → IsAt (get_or behind a []) i
kept-new before behind a f i j r = rw (behind-a before behind a f i j r) (IsAt-new (get_or before a []) i)

-- a pair after a write
pub pair-cases : (ps : List Pair) (i k : ℕ) (p q : Pair) → slice_get (set ps i p) k ≡ Some q → ((k ≡ i) × (q ≡ p)) ⊎ ((k ≢ i) × (slice_get ps k ≡ Some q))
pair-cases ps i k p q h =
    let lt : k < length ps = omega (arith, slice_get_within (set ps i p) k q h, length-set ps i p) in
    let e : get_or (set ps i p) k p ≡ q = get_or_from_slice_get (set ps i p) k q p h in
    elim (cases_eq k i) [
      | inl same ↦ inl (same, sym (sym (rw same (get_or-set_same ps i p p (omega (arith, lt, same)))) ∙ e))
      | inr other ↦ inr (other, slice_get-get_or ps k p lt ∙ ap Some (sym (get_or-set_other ps i k p p other) ∙ e))
    ]

pub listed-kept : (before behind : List (List ℕ)) (f i j : ℕ) (ps : List Pair) (old new : Pair) → Rewatched before behind (code_of new.one) f i j → code_of new.other ≢ f → (new.other ≡ old.one) ⊎ (new.other ≡ old.other) → slice_get ps i ≡ Some old → ((k : ℕ) (p : Pair) → slice_get ps k ≡ Some p → IsListed before k p) → (k : ℕ) (q : Pair) → slice_get (set ps i new) k ≡ Some q → IsListed behind k q
listed-kept before behind f i j ps old new r n o was h k q e =
    elim (pair-cases ps i k new q e) [
      | inl s ↦
          let was_in : IsAt (list_of before new.other) i = elim o [ inl a ↦ rw a (h i old was).one | inr b ↦ rw b (h i old was).other ] in
          rw (s.0, s.1) (record { one = kept-new before behind (code_of new.one) f i j r; other = kept before behind (code_of new.one) f i j (code_of new.other) i r (inl n) was_in })
      | inr s ↦
          let l = h k q s.1 in
          record { one = kept before behind (code_of new.one) f i j (code_of q.one) k r (inr s.0) l.one; other = kept before behind (code_of new.one) f i j (code_of q.other) k r (inr s.0) l.other }
    ]

pub over-kept : (vars i : ℕ) (ps : List Pair) (new : Pair) → IsPairOver vars new → ((k : ℕ) (p : Pair) → slice_get ps k ≡ Some p → IsPairOver vars p) → (k : ℕ) (q : Pair) → slice_get (set ps i new) k ≡ Some q → IsPairOver vars q
over-kept vars i ps new o h k q e = elim (pair-cases ps i k new q e) [ inl s ↦ rw s.1 o | inr s ↦ h k q s.1 ]

below-swapped : (n j : ℕ) (xs ys : List ℕ) → length ys + 1 ≡ length xs → (j + 1 < length xs → slice_index ys j ≡ slice_index xs (length xs - 1)) → ((k : ℕ) → k ≢ j → k + 1 < length xs → slice_index ys k ≡ slice_index xs k) → ((l : ℕ) → l < length xs → slice_index xs l < n) → (l : ℕ) → l < length ys → slice_index ys l < n
below-swapped n j xs ys len moved others h l lt =
    elim (cases_eq l j) [
      | inl e ↦ let up : j + 1 < length xs = omega (arith, lt, len, e) in let v : slice_index ys l ≡ slice_index xs (length xs - 1) = ap (λ x. slice_index ys x) e ∙ moved up in rw v (h (length xs - 1) (omega (arith, up)))
      | inr d ↦ let up : l + 1 < length xs = omega (arith, lt, len) in let v : slice_index ys l ≡ slice_index xs l = others l d up in rw v (h l (omega (arith, up)))
    ]

below-pushed : (n i : ℕ) (xs : List ℕ) → i < n → ((l : ℕ) → l < length xs → slice_index xs l < n) → (l : ℕ) → l < length (xs ++ i ∷ []) → slice_index (xs ++ i ∷ []) l < n
below-pushed n i xs lt h l in_l =
    elim (cases_lt l (length xs)) [
      | inl a ↦ let v : slice_index (xs ++ i ∷ []) l ≡ slice_index xs l = get_or-append xs (i ∷ []) 0 l a in rw v (h l a)
      | inr b ↦ let e : l ≡ length xs = omega (arith, b, in_l, length-append xs (i ∷ [])) in let v : slice_index (xs ++ i ∷ []) l ≡ i = ap (λ x. slice_index (xs ++ i ∷ []) x) e ∙ get_or-append_seam xs i [] 0 in rw v lt
    ]

pub below-kept : (n : ℕ) (before behind : List (List ℕ)) (a f i j : ℕ) → Rewatched before behind a f i j → i < n → ((k l : ℕ) → l < length (slice_index_or before k []) → slice_index (slice_index_or before k []) l < n) → (k l : ℕ) → l < length (slice_index_or behind k []) → slice_index (slice_index_or behind k []) l < n
below-kept n before behind a f i j r lt h k l in_l =
    elim (cases_eq k f) [
      | inl e ↦
          let m = middle-f before behind a f i j r in
          let b : get_or behind k [] ≡ r.swapped = ap (λ x. get_or behind x []) e ∙ behind-f before behind a f i j r in
          rw b (below-swapped n j (get_or before f []) r.swapped (r.len ∙ ap length m) (rw m at r.moved) (rw m at r.others) (h f) l (rw b at in_l))
      | inr d ↦
          elim (cases_eq k a) [
            | inl e ↦ let b : get_or behind k [] ≡ get_or before a [] ++ i ∷ [] = ap (λ x. get_or behind x []) e ∙ behind-a before behind a f i j r in rw b (below-pushed n i (get_or before a []) lt (h a) l (rw b at in_l))
            | inr g ↦ let b = behind-other before behind a f i j k r g d in rw b (h k l (rw b at in_l))
          ]
    ]

pub get_or-any : (xs : List (List ℕ)) (k : ℕ) (d e : List ℕ) → k < length xs → get_or xs k d ≡ get_or xs k e
get_or-any xs k d e lt = sym (get_or_from_slice_get xs k (get_or xs k d) e (slice_get-get_or xs k d lt))

-- from what the calls say
pub rewatched : (before : List (List ℕ)) (a f i j ra rf : ℕ) (was pushed taken swapped : List ℕ) → ra ≡ a → rf ≡ f → was ≡ get_or before ra was → pushed ≡ was ++ i ∷ [] → taken ≡ get_or (set before ra pushed) rf taken → length swapped + 1 ≡ length taken → (j + 1 < length taken → slice_index swapped j ≡ slice_index taken (length taken - 1)) → ((k : ℕ) → k ≢ j → k + 1 < length taken → slice_index swapped k ≡ slice_index taken k) → slice_index (get_or before f []) j ≡ i → j < length (get_or before f []) → a ≢ f → a < length before → f < length before → Rewatched before (set (set before ra pushed) rf swapped) a f i j
rewatched before a f i j ra rf was pushed taken swapped ea ef w p t len moved others at inside apart la lf =
    let wa : was ≡ get_or before a [] = w ∙ (ap (λ x. get_or before x was) ea ∙ get_or-any before a was [] la) in
    let room : f < length (set before ra pushed) = omega (arith, lf, length-set before ra pushed) in
    let ta : taken ≡ get_or (set before ra pushed) f [] = t ∙ (ap (λ x. get_or (set before ra pushed) x taken) ef ∙ get_or-any (set before ra pushed) f taken [] room) in
    record {
      middle = set before ra pushed;
      pushed = rw (ea, p, wa) refl;
      swapped = swapped;
      put = rw ef refl;
      len = rw ta at len;
      moved = rw ta at moved;
      others = rw ta at others;
      at = at;
      inside = inside;
      apart = apart;
      room_a = la;
      room_f = lf;
    }
