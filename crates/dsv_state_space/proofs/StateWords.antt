-- The words of a state file's rows, one row after another.
use Rattle.std.proofs.Common.{◌≡◌, ℕ, suc, ◌+◌, ◌<◌, ◌≤◌, List, [], ◌∷◌, ◌++◌, length, take, drop, map, get_or, refl, sym, ap, subst, ◌∙◌, arith, zero-add, add-one, append_assoc, drop-cons, Result, Ok, Err}
use Rattle.std.proofs.Math.IntN.{ℤ, pos}
use Rattle.std.specs.Prelude.{slice_index_or}
use Rattle.std.specs.List.{All}
use Rattle.std.proofs.lemmas.List.{append-nil, map-append, take_more, take_all, drop_all}
use Rattle.std.proofs.lemmas.List.Elements.{All-nil, All-cons, All-head, All-tail, All-weaker, All-from_get_or}
use Rattle.dsv_fraction.specs.Ratio.{Ratio, zero as nought}
use Rattle.dsv_text.specs.Stages.{◌>>=◌}
use Rattle.dsv_word.specs.declared.format.Format.{Format}
use Rattle.dsv_word.specs.Words.{width, IsWord}
use Rattle.dsv_quantiser.specs.Meaning.{IsWordOf}
use Rattle.dsv_quantiser.specs.Parts as parts
use Rattle.dsv_state_file.specs.StateFiles.{StateFileView, IsStateFile}
use Rattle.dsv_state_space.specs.Meaning.{AreWordsOf, AreRowsOf, IsInStateWords}
use Rattle.dsv_state_space.specs.StateView.{StateView, most_states, states, AreWords, IsStateView}
use Rattle.dsv_state_space.specs.Quantising.{lane_words, rows_words}
use Rattle.dsv_state_space.specs.declared.lane.Lane.TheVariants as lane
use Rattle.dsv_state_space.specs.declared.refusal.StateQuantRefusal.{StateQuantRefusal}

-- words of a numerator, which stand after none
pub words_meant : (f : Format) (qs : List Ratio) (ws : List ℤ) → parts.AreWordsOf f qs [] ws → AreWordsOf f qs ws
words_meant f qs ws h = record {
  places = h.places ∙ zero-add (length qs);
  each = λ k l. subst (λ (j : ℕ). IsWordOf f (slice_index_or qs k nought) (slice_index_or ws j (pos 0))) (zero-add k) (h.each k l);
}

-- ---- a row more
-- what the words so far come to with those of the rows from row i on
abbrev pub rows_after : Format → ℕ → List (List Ratio) → List (List ℤ) → Result (List (List ℤ)) StateQuantRefusal
rows_after f i rows out = rows_words f i rows >>= λ more. Ok (out ++ more)

pub rows_after-none : (f : Format) (i : ℕ) (rows : List (List Ratio)) → rows_after f i rows [] ≡ rows_words f i rows
rows_after-none f i rows = itself (rows_words f i rows)
  where
    itself : (o : Result (List (List ℤ)) StateQuantRefusal) → (o >>= λ more. Ok ([] ++ more)) ≡ o
    itself (Ok more) = refl
    itself (Err why) = refl

rows_after-words : (f : Format) (i : ℕ) (rows : List (List Ratio)) (out : List (List ℤ)) (w : List ℤ)
    → ((rows_words f i rows >>= λ more. Ok (w ∷ more)) >>= λ more. Ok (out ++ more)) ≡ rows_after f i rows (out ++ w ∷ [])
rows_after-words f i rows out w = moved (rows_words f i rows) out w
  where
    moved : (o : Result (List (List ℤ)) StateQuantRefusal) (out : List (List ℤ)) (w : List ℤ) → ((o >>= λ more. Ok (w ∷ more)) >>= λ more. Ok (out ++ more)) ≡ (o >>= λ more. Ok ((out ++ w ∷ []) ++ more))
    moved (Ok more) out w = ap Ok (sym (append_assoc out (w ∷ []) more))
    moved (Err why) out w = refl

one_row : {R : Type 0} (g : R → List Ratio) (f : Format) (rows : List R) (i : ℕ) (row : R) (out : List (List ℤ)) → i < length rows → row ≡ get_or rows i row
    → rows_after f i (map g (drop i rows)) out ≡ ((lane_words f (lane.Row i) (g row) >>= λ words. rows_words f (i + 1) (map g (drop (i + 1) rows)) >>= λ more. Ok (words ∷ more)) >>= λ more. Ok (out ++ more))
one_row g f rows i row out h is =
    let split : drop i rows ≡ row ∷ drop (i + 1) rows = drop-cons rows i row h ∙ ap (λ x. x ∷ drop (suc i) rows) (sym is) ∙ ap (λ m. row ∷ drop m rows) (sym (add-one i)) in
    ap (λ rs. rows_after f i (map g rs) out) split

pub rows_step : {R : Type 0} (g : R → List Ratio) (f : Format) (rows : List R) (i : ℕ) (row : R) (out : List (List ℤ)) (w : List ℤ) (o : Result (List ℤ) StateQuantRefusal) → i < length rows → row ≡ get_or rows i row
    → o ≡ lane_words f (lane.Row i) (g row) → o ≡ Ok w → rows_after f (i + 1) (map g (drop (i + 1) rows)) (out ++ w ∷ []) ≡ rows_after f i (map g (drop i rows)) out
rows_step g f rows i row out w o h is given fine =
    let rest = map g (drop (i + 1) rows) in
    sym (one_row g f rows i row out h is ∙ ap (λ m. (m >>= λ words. rows_words f (i + 1) rest >>= λ more. Ok (words ∷ more)) >>= λ more. Ok (out ++ more)) (sym given ∙ fine) ∙ rows_after-words f (i + 1) rest out w)

pub rows_stop : {R : Type 0} (g : R → List Ratio) (f : Format) (rows : List R) (i : ℕ) (row : R) (out : List (List ℤ)) (why : StateQuantRefusal) (o : Result (List ℤ) StateQuantRefusal) → i < length rows → row ≡ get_or rows i row
    → o ≡ lane_words f (lane.Row i) (g row) → o ≡ Err why → rows_after f i (map g (drop i rows)) out ≡ Err why
rows_stop g f rows i row out why o h is given bad =
    let rest = map g (drop (i + 1) rows) in
    one_row g f rows i row out h is ∙ ap (λ m. (m >>= λ words. rows_words f (i + 1) rest >>= λ more. Ok (words ∷ more)) >>= λ more. Ok (out ++ more)) (sym given ∙ bad)

pub rows_end : {R : Type 0} (g : R → List Ratio) (f : Format) (rows : List R) (i : ℕ) (out : List (List ℤ)) → length rows ≤ i → rows_after f i (map g (drop i rows)) out ≡ Ok out
rows_end g f rows i out h = ap (λ rs. rows_after f i (map g rs) out) (drop_all i rows h) ∙ ap Ok (append-nil out)

-- ---- what they mean
meant_push : (f : Format) (ms : List (List Ratio)) (ws : List (List ℤ)) (m : List Ratio) (w : List ℤ) → AreRowsOf f ms ws → AreWordsOf f m w → AreRowsOf f (ms ++ m ∷ []) (ws ++ w ∷ [])
meant_push f [] [] m w h k = (k, tt)
meant_push f (n ∷ ms) (v ∷ ws) m w h k = (h.0, meant_push f ms ws m w h.1 k)
meant_push f [] (v ∷ ws) m w h k = absurd h
meant_push f (n ∷ ms) [] m w h k = absurd h

pub meant_more : {R : Type 0} (g : R → List Ratio) (f : Format) (rows : List R) (i : ℕ) (row : R) (out : List (List ℤ)) (w : List ℤ) → i < length rows → row ≡ get_or rows i row
    → AreRowsOf f (map g (take i rows)) out → AreWordsOf f (g row) w → AreRowsOf f (map g (take (i + 1) rows)) (out ++ w ∷ [])
meant_more g f rows i row out w h is meant word =
    let longer : map g (take (i + 1) rows) ≡ map g (take i rows) ++ g row ∷ [] =
    ap (map g) (take_more rows i row h) ∙ map-append g (take i rows) (get_or rows i row ∷ []) ∙ ap (λ r. map g (take i rows) ++ g r ∷ []) (sym is) in
    subst (λ (ms : List (List Ratio)). AreRowsOf f ms (out ++ w ∷ [])) (sym longer) (meant_push f (map g (take i rows)) out (g row) w meant word)

pub meant_all : {R : Type 0} (g : R → List Ratio) (f : Format) (rows : List R) (i : ℕ) (out : List (List ℤ)) → length rows ≤ i → AreRowsOf f (map g (take i rows)) out → AreRowsOf f (map g rows) out
meant_all g f rows i out h meant = subst (λ rs. AreRowsOf f (map g rs) out) (take_all i rows h) meant

-- ---- what stays true
words_are : (f : Format) (n : ℕ) (qs : List Ratio) (ws : List ℤ) → length qs ≡ n → AreWordsOf f qs ws → AreWords f n ws
words_are f n qs ws l h = record {
  many = h.places ∙ l;
  each = All-from_get_or (IsWord f) ws (pos 0) (λ i k. (h.each i (omega (arith, h.places))).word);
}

rows_are : (f : Format) (n : ℕ) (ms : List (List Ratio)) (ws : List (List ℤ)) → All (λ (m : List Ratio). length m ≡ n) ms → AreRowsOf f ms ws → All (AreWords f n) ws
rows_are f n [] [] l h = All-nil (AreWords f n)
rows_are f n (m ∷ ms) (w ∷ ws) l h =
    All-cons (AreWords f n) w ws (words_are f n m w (All-head (λ (m : List Ratio). length m ≡ n) m ms l) h.0) (rows_are f n ms ws (All-tail (λ (m : List Ratio). length m ≡ n) m ms l) h.1)
rows_are f n [] (w ∷ ws) l h = absurd h
rows_are f n (m ∷ ms) [] l h = absurd h

length-rows : (f : Format) (ms : List (List Ratio)) (ws : List (List ℤ)) → AreRowsOf f ms ws → length ws ≡ length ms
length-rows f [] [] h = refl
length-rows f (m ∷ ms) (w ∷ ws) h = ap suc (length-rows f ms ws h.1)
length-rows f [] (w ∷ ws) h = absurd h
length-rows f (m ∷ ms) [] h = absurd h

pub is_state_view : (file : StateFileView) (f : Format) (s : StateView) → IsStateFile file → IsInStateWords file f s → IsStateView s
is_state_view file f s lawful is =
    let n = file.states in
    let many : states s ≡ n = is.b.places ∙ lawful.inputs in
    let view : Format → ℕ → Type 0 = λ g m. (All (AreWords g m) s.a) × (AreWords g m s.b) × (AreWords g m s.c) × IsWord g s.d in
    let words : view f n = (rows_are f n file.a s.a lawful.square is.a, words_are f n file.b s.b lawful.inputs is.b, words_are f n file.c s.c lawful.outputs is.c, is.d.word) in
    let own : view s.format (states s) = subst (λ (m : ℕ). view s.format m) (sym many) (subst (λ (g : Format). view g n) (sym is.same_format) words) in
    let same : width s.format ≡ width f = ap width is.same_format in
    record {
      some = omega (arith, many, lawful.some);
      few = omega (arith, many, lawful.few);
      rows = length-rows f file.a s.a is.a ∙ lawful.rows ∙ sym many;
      a_words = own.0;
      b_words = own.1;
      c_words = own.2;
      d_word = own.3;
      low = rw same is.range.low;
      order = is.range.order;
      high = rw same is.range.high;
    }

-- the rows of a file are short
pub short_rows : {R : Type 0} (g : R → List Ratio) (rows : List R) (file : StateFileView) → map g rows ≡ file.a → IsStateFile file → All (λ (row : R). length (g row) ≤ most_states) rows
short_rows g rows file same lawful = All-of_map g (λ (m : List Ratio). length m ≤ most_states) rows
    (subst (λ (ms : List (List Ratio)). All (λ (m : List Ratio). length m ≤ most_states) ms) (sym same)
    (All-weaker (λ (m : List Ratio). length m ≡ file.states) (λ (m : List Ratio). length m ≤ most_states) (λ m l. omega (arith, l, lawful.few)) file.a lawful.square))
  where
    All-of_map : {X Y : Type 0} (g : X → Y) (P : Y → Type 0) (xs : List X) → All P (map g xs) → All (λ (x : X). P (g x)) xs
    All-of_map g P [] h = All-nil (λ x. P (g x))
    All-of_map g P (x ∷ xs) h = All-cons (λ x. P (g x)) x xs (All-head P (g x) (map g xs) h) (All-of_map g P xs (All-tail P (g x) (map g xs) h))
