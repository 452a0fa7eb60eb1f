-- Elimination gives the same for forms that have the same entries in their places.
use Rattle.std.proofs.Common.{◌≡◌, ℕ, zero, suc, ◌<◌, ◌≤◌, Bool, int_lt, if◌then◌else◌, List, [], ◌∷◌, map, Option, Some, None, refl, sym, ap, ◌∙◌, arith}
use Rattle.std.proofs.Math.IntN.{ℤ, pos, ◌*ℤ◌}
use Rattle.std.specs.List.{list_all}
use Rattle.std.proofs.lemmas.List.{map-append}
use Rattle.std.proofs.lemmas.List.Folds.{list_all-append}
use Rattle.dsv_algebra.specs.Vectors.{Matrix}
use Rattle.dsv_forms.specs.declared.offers.Squares.{Squares}
use Rattle.dsv_forms.specs.Padded.{squares_with}
use Rattle.dsv_forms.specs.Refusals.{places}
use Rattle.dsv_sums.specs.Elimination.{multiple, greater_of, greatest_diagonal, margin, weight_at, row_at, left_after, weight, row, entries_of, rows_of, elimination}

-- the same entries in the first d places
abbrev pub Agree : ℕ → Matrix → Matrix → Type 0
Agree d T U = (i j : ℕ) → i < d → j < d → T i j ≡ U i j

greatest_same : (d : ℕ) (T U : Matrix) → ((i : ℕ) → i < d → T i i ≡ U i i) → greatest_diagonal d T ≡ greatest_diagonal d U
greatest_same zero T U h = refl
greatest_same (suc zero) T U h = h 0 (omega arith)
greatest_same (suc (suc d)) T U h =
    ap (λ g. greater_of g (T (suc d) (suc d))) (greatest_same (suc d) T U (λ i l. h i (omega arith)))
    ∙ ap (greater_of (greatest_diagonal (suc d) U)) (h (suc d) (omega arith))

margin_same : (d : ℕ) (T U : Matrix) → Agree d T U → margin d T ≡ margin d U
margin_same d T U h = rw (greatest_same d T U (λ i l. h i i l l)) refl

row_same : (v w : ℤ) (U V : Matrix) (k j : ℕ) → v ≡ w → U k j ≡ V k j → row_at v U k j ≡ row_at w V k j
row_same v w U V k j e f = rw (e, f) refl

left_same : (d : ℕ) (g : ℤ) (T U : Matrix) → Agree d T U → (k : ℕ) → k ≤ d → Agree d (left_after g T k) (left_after g U k)
left_same d g T U h zero q i j a b = ap (λ x. multiple *ℤ x) (h i j a b)
left_same d g T U h (suc k) q i j a b =
    let P = left_after g T k in
    let Q = left_after g U k in
    let is : Agree d P Q = left_same d g T U h k (omega arith) in
    let w : weight_at g P k ≡ weight_at g Q k = rw (is k k (omega arith) (omega arith)) refl in
    rw (
      is i j a b,
      row_same (weight_at g P k) (weight_at g Q k) P Q k i w (is k i (omega arith) a),
      row_same (weight_at g P k) (weight_at g Q k) P Q k j w (is k j (omega arith) b),
      w,
    ) refl

weight_same : (d : ℕ) (g : ℤ) (T U : Matrix) → Agree d T U → (k : ℕ) → k < d → weight g T k ≡ weight g U k
weight_same d g T U h k q = rw (left_same d g T U h k (omega arith) k k q q) refl

rows_same : (d : ℕ) (g : ℤ) (T U : Matrix) → Agree d T U → Agree d (row g T) (row g U)
rows_same d g T U h k j q b =
    row_same (weight g T k) (weight g U k) (left_after g T k) (left_after g U k) k j (weight_same d g T U h k q) (left_same d g T U h k (omega arith) k j q b)

-- ---- lists over places
same_map : {A : Type 0} (f g : ℕ → A) (d : ℕ) → ((k : ℕ) → k < d → f k ≡ g k) → map f (places d) ≡ map g (places d)
same_map f g zero h = refl
same_map f g (suc d) h =
    map-append f (places d) (d ∷ [])
    ∙ rw (same_map f g d (λ k l. h k (omega arith)), h d (omega arith)) refl
    ∙ sym (map-append g (places d) (d ∷ []))

same_matrix : (d : ℕ) (T U : Matrix) → Agree d T U → rows_of d T ≡ rows_of d U
same_matrix d T U h = same_map (λ i. entries_of d (T i)) (λ i. entries_of d (U i)) d (λ i a. same_map (T i) (U i) d (λ j b. h i j a b))

same_all : (p q : ℕ → Bool) (d : ℕ) → ((k : ℕ) → k < d → p k ≡ q k) → list_all p (places d) ≡ list_all q (places d)
same_all p q zero h = refl
same_all p q (suc d) h =
    list_all-append p (places d) (d ∷ [])
    ∙ rw (same_all p q d (λ k l. h k (omega arith)), h d (omega arith)) refl
    ∙ sym (list_all-append q (places d) (d ∷ []))

-- ---- all squares
abbrev built : Bool → List ℤ → List (List ℤ) → List (List ℤ) → Option Squares
built b ws rows rest = if b then Some (squares_with multiple ws rows rest) else None

built_same : (a b : Bool) (ws vs : List ℤ) (rs qs ls ms : List (List ℤ)) → a ≡ b → ws ≡ vs → rs ≡ qs → ls ≡ ms → built a ws rs ls ≡ built b vs qs ms
built_same a b ws vs rs qs ls ms e f g h = rw (e, f, g, h) refl

-- what elimination gives with another margin
abbrev built_with : ℕ → Matrix → ℤ → Option Squares
built_with d T g = built (list_all (λ k. int_lt (pos 0) (weight g T k)) (places d)) (entries_of d (weight g T)) (rows_of d (row g T)) (rows_of d (left_after g T d))

pub elimination_same : (d : ℕ) (T U : Matrix) → Agree d T U → elimination d T ≡ elimination d U
elimination_same d T U h =
    let g = margin d U in
    ap (built_with d T) (margin_same d T U h)
    ∙ built_same (list_all (λ k. int_lt (pos 0) (weight g T k)) (places d)) (list_all (λ k. int_lt (pos 0) (weight g U k)) (places d))
    (entries_of d (weight g T)) (entries_of d (weight g U)) (rows_of d (row g T)) (rows_of d (row g U)) (rows_of d (left_after g T d)) (rows_of d (left_after g U d))
    (same_all (λ k. int_lt (pos 0) (weight g T k)) (λ k. int_lt (pos 0) (weight g U k)) d (λ k q. ap (int_lt (pos 0)) (weight_same d g T U h k q)))
    (same_map (weight g T) (weight g U) d (weight_same d g T U h))
    (same_matrix d (row g T) (row g U) (rows_same d g T U h))
    (same_matrix d (left_after g T d) (left_after g U d) (left_same d g T U h d (omega arith)))
