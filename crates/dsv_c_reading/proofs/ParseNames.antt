-- The places of names that differ from each other.
use Rattle.std.proofs.Common.{◌≡◌, ℕ, zero, suc, ◌<◌, Bool, true, false, inl, inr, List, [], ◌∷◌, ◌++◌, length, map, refl, sym, ap, ◌∙◌, arith, length-append}
use Rattle.std.specs.Prelude.{codes, Option, Some, None, option_map, slice_index_or, not, ◌&&◌, ◌||◌, if◌then◌else◌}
use Rattle.std.specs.List.{list_any}
use Rattle.std.specs.Option.{option_and_then}
use Rattle.std.specs.Str.{bytes_eq}
use Rattle.std.proofs.lemmas.Bool.{cases_lt, or_parts}
use Rattle.std.proofs.lemmas.Slice.Eq.{bytes_eq-Decides}
use Rattle.std.proofs.lemmas.List.Folds.{list_any-append}
use Rattle.dsv_ctext.specs.Tokens.{Name}
use Rattle.dsv_c_reading.specs.Bodies.{is_free, is_new}
use Rattle.dsv_c_reading.specs.Expressions.{Scope, place_of, type_named, helper_named, operand, gives, wanted_word, word_or_name}
use Rattle.dsv_c_reading.specs.Labels.{AreNew}
use Rattle.dsv_c_reading.proofs.ParseExpressions.{AreNamesOf}

-- ---- lists of names
-- the names of 0 .. n - 1
abbrev pub first_names : (ℕ → List ℕ) → ℕ → List (List ℕ)
first_names f zero = []
first_names f (suc n) = first_names f n ++ f n ∷ []

-- no two of the first n have one text
pub record AreDifferent (f : ℕ → List ℕ) (n : ℕ) : Type 0 where
  pub is : (i k : ℕ) → i < k → k < n → bytes_eq (f i) (f k) ≡ false

pub length-first_names : (f : ℕ → List ℕ) (n : ℕ) → length (first_names f n) ≡ n
length-first_names f zero = refl
length-first_names f (suc n) = omega (arith, length-append (first_names f n) (f n ∷ []), length-first_names f n)

first_names-cons : (f : ℕ → List ℕ) (n : ℕ) → first_names f (suc n) ≡ f 0 ∷ first_names (λ k. f (suc k)) n
first_names-cons f zero = refl
first_names-cons f (suc n) = ap (λ (names : List (List ℕ)). names ++ f (suc n) ∷ []) (first_names-cons f n)

pub first_names-map : {A : Type 0} (g : A → List ℕ) (xs : List A) (d : A) → map g xs ≡ first_names (λ k. g (slice_index_or xs k d)) (length xs)
first_names-map g [] d = refl
first_names-map g (x ∷ xs) d = ap (λ (names : List (List ℕ)). g x ∷ names) (first_names-map g xs d) ∙ sym (first_names-cons (λ k. g (slice_index_or (x ∷ xs) k d)) (length xs))

-- ---- names that no other has
pub both_false : (a b : Bool) → a ≡ false → b ≡ false → (a || b) ≡ false
both_false a b h k = rw (h, k) refl

none_among : (f : ℕ → List ℕ) (name : List ℕ) (n : ℕ) → ((i : ℕ) → i < n → bytes_eq (f i) name ≡ false) → list_any (λ m. bytes_eq m name) (first_names f n) ≡ false
none_among f name zero h = refl
none_among f name (suc n) h =
    list_any-append (λ m. bytes_eq m name) (first_names f n) (f n ∷ [])
    ∙ both_false (list_any (λ m. bytes_eq m name) (first_names f n)) (bytes_eq (f n) name || false) (none_among f name n (λ i l. h i (omega arith))) (rw (h n (omega arith)) refl)

is_new_by : (a b : Bool) → a ≡ true → b ≡ false → (a && not b) ≡ true
is_new_by a b h k = rw (h, k) refl

pub is_new_from : (name : List ℕ) (names : List (List ℕ)) → is_free name ≡ true → list_any (λ n. bytes_eq n name) names ≡ false → is_new name names ≡ true
is_new_from name names h k = is_new_by (is_free name) (list_any (λ n. bytes_eq n name) names) h k

pub new_name : (f : ℕ → List ℕ) (n k : ℕ) → AreDifferent f n → k < n → list_any (λ m. bytes_eq m (f k)) (first_names f k) ≡ false
new_name f n k d h = none_among f (f k) k (λ i l. d.is i k l h)

-- ---- places
pub same_text : (name : List ℕ) → bytes_eq name name ≡ true
same_text name = (bytes_eq-Decides name name).1 refl

place_new : (name : List ℕ) (xs : List (List ℕ)) → list_any (λ n. bytes_eq n name) xs ≡ false → place_of name (xs ++ name ∷ []) ≡ Some (length xs)
place_new name [] h = rw (same_text name) refl
place_new name (x ∷ xs) h =
    let p = or_parts (bytes_eq x name) (list_any (λ n. bytes_eq n name) xs) h in
    rw p.0 (ap (option_map suc) (place_new name xs p.1))

-- what is found stays found with more names after it
one_later : (b : Bool) (o p : Option ℕ) (k : ℕ) → ((j : ℕ) → o ≡ Some j → p ≡ Some j) → (if b then Some 0 else option_map suc o) ≡ Some k → (if b then Some 0 else option_map suc p) ≡ Some k
one_later true o p k more h = h
one_later false None p k more h = absurd (cc)
one_later false (Some j) p k more h = ap (option_map suc) (more j refl) ∙ h

place_later : (name : List ℕ) (xs ys : List (List ℕ)) (k : ℕ) → place_of name xs ≡ Some k → place_of name (xs ++ ys) ≡ Some k
place_later name [] ys k h = absurd (cc)
place_later name (x ∷ xs) ys k h = one_later (bytes_eq x name) (place_of name xs) (place_of name (xs ++ ys)) k (place_later name xs ys) h

pub place_of_name : (f : ℕ → List ℕ) (n k : ℕ) → AreDifferent f n → k < n → place_of (f k) (first_names f n) ≡ Some k
place_of_name f zero k d h = absurd (omega arith)
place_of_name f (suc n) k d h = elim (cases_lt k n) [
  | inl less ↦ place_later (f k) (first_names f n) (f n ∷ []) k (place_of_name f n k (record { is = λ i j l m. d.is i j l (omega arith) }) less)
  | inr late ↦ (let s : k ≡ n = omega arith in rw s (place_new (f n) (first_names f n) (new_name f (suc n) n d (omega arith)) ∙ ap (λ (j : ℕ). Some j) (length-first_names f n)))
]

-- ---- the names of members
-- a name in the list isn't among those before it
not_before : {A : Type 0} (g : A → List ℕ) (before : List (List ℕ)) (x : A) (xs : List A) (k : ℕ) (d : A) → AreNew before (map g (x ∷ xs)) → k < length (x ∷ xs) → list_any (λ m. bytes_eq m (g (slice_index_or (x ∷ xs) k d))) before ≡ false
not_before g before x xs zero d h l = h.0
not_before g before x [] (suc k) d h l = absurd (omega arith)
not_before g before x (y ∷ ys) (suc k) d h l =
    let name = g (slice_index_or (y ∷ ys) k d) in
    (or_parts (list_any (λ m. bytes_eq m name) before) (bytes_eq (g x) name || false) (sym (list_any-append (λ m. bytes_eq m name) before (g x ∷ [])) ∙ not_before g (before ++ g x ∷ []) y ys k d h.1 (omega arith))).0

first_differs : {A : Type 0} (g : A → List ℕ) (before : List (List ℕ)) (x : A) (xs : List A) (k : ℕ) (d : A) → AreNew (before ++ g x ∷ []) (map g xs) → k < length xs → bytes_eq (g x) (g (slice_index_or xs k d)) ≡ false
first_differs g before x [] k d h l = absurd (omega arith)
first_differs g before x (y ∷ ys) k d h l =
    let name = g (slice_index_or (y ∷ ys) k d) in
    let p = or_parts (list_any (λ m. bytes_eq m name) before) (bytes_eq (g x) name || false) (sym (list_any-append (λ m. bytes_eq m name) before (g x ∷ [])) ∙ not_before g (before ++ g x ∷ []) y ys k d h l) in
    (or_parts (bytes_eq (g x) name) false p.1).0

differ_from : {A : Type 0} (g : A → List ℕ) (before : List (List ℕ)) (xs : List A) (d : A) (i k : ℕ) → AreNew before (map g xs) → i < k → k < length xs → bytes_eq (g (slice_index_or xs i d)) (g (slice_index_or xs k d)) ≡ false
differ_from g before [] d i k h l m = absurd (omega arith)
differ_from g before (x ∷ xs) d i zero h l m = absurd (omega arith)
differ_from g before (x ∷ xs) d zero (suc k) h l m = first_differs g before x xs k d h.1 (omega arith)
differ_from g before (x ∷ xs) d (suc i) (suc k) h l m = differ_from g (before ++ g x ∷ []) xs d i k h.1 (omega arith) (omega arith)

pub are_different : {A : Type 0} (g : A → List ℕ) (xs : List A) (d : A) → AreNew [] (map g xs) → AreDifferent (λ k. g (slice_index_or xs k d)) (length xs)
are_different g xs d h = record { is = λ i k l m. differ_from g [] xs d i k h l m }

-- ---- names of locals
pub record IsLocalName (name : List ℕ) : Type 0 where
  pub free : is_free name ≡ true
  pub no_type : type_named name ≡ None
  pub no_helper : helper_named name ≡ None
  pub not_state : bytes_eq name (codes "s") ≡ false

-- the word of a local's name is that local
name_read : (scope : Scope) (name : List ℕ) (k : ℕ) → IsLocalName name → place_of name scope.locals ≡ Some k → wanted_word scope name ≡ gives (Name k ∷ []) operand
name_read scope name k w h = ap (word_or_name scope name) w.no_helper ∙ (rw w.not_state (ap (option_and_then (λ (k : ℕ). gives (Name k ∷ []) operand)) h))

-- the first n locals and m members
pub names_are : (scope : Scope) (local member : ℕ → List ℕ) (n m : ℕ) → scope.locals ≡ first_names local n → scope.members ≡ first_names member m → AreDifferent local n → AreDifferent member m → ((k : ℕ) → k < n → IsLocalName (local k)) → AreNamesOf scope local member n m
names_are scope local member n m e f d b w = record {
  word = λ k h. name_read scope (local k) k (w k h) (ap (place_of (local k)) e ∙ place_of_name local n k d h);
  no_type = λ k h. (w k h).no_type;
  members = λ k h. ap (place_of (member k)) f ∙ place_of_name member m k b h;
}
