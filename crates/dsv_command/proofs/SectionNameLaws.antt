-- The names of a cascade's later sections, by the rules and as they are found.
use Rattle.std.proofs.Common.{◌≡◌, ℕ, ◌≤◌, Bool, true, false, not, ◌&&◌, ◌||◌, List, [], ◌∷◌, length, Some, None, refl, sym, ap, subst, ◌∙◌, arith}
use Rattle.std.specs.Prelude.{nat_le, if◌then◌else◌}
use Rattle.std.specs.List.{All, list_any}
use Rattle.std.proofs.lemmas.Bool.{leb-true, le-leb}
use Rattle.std.proofs.lemmas.Bool.Decides.{nat_tests}
use Rattle.std.proofs.lemmas.List.Elements.{All-nil, All-cons, All-head, All-tail}
use Rattle.dsv_command.specs.SectionNames.{most_later, is_nameless, names_of}
use Rattle.dsv_command.specs.Inputs.{is_comma, comma, onto_first, pieces}
use Rattle.dsv_command.specs.Rules.{with_commas, IsName, AreNames}
use Rattle.dsv_command.proofs.InputLaws.{joined_pieces, one_piece, some_piece, same_byte, NoneFirst}

-- ---- from names to the pieces of their text
pieces_of_names : (name : List ℕ) (names : List (List ℕ)) → All IsName (name ∷ names) → pieces (with_commas (name ∷ names)) ≡ name ∷ names
pieces_of_names name [] h = one_piece name (All-head IsName name [] h).whole
pieces_of_names name (next ∷ names) h =
    joined_pieces name (with_commas (next ∷ names)) (All-head IsName name (next ∷ names) h).whole ∙ ap (λ ps. name ∷ ps) (pieces_of_names next names (All-tail IsName name (next ∷ names) h))

filled_name : (name : List ℕ) → (name ≡ [] → ⊥) → is_nameless name ≡ false
filled_name [] h = absurd (h refl)
filled_name (b ∷ bs) h = grind (arith, nat_tests)

no_or : (a b : Bool) → a ≡ false → b ≡ false → (a || b) ≡ false
no_or false false e f = refl
no_or true b e f = absurd cc
no_or false true e f = absurd cc

none_nameless : (names : List (List ℕ)) → All IsName names → list_any is_nameless names ≡ false
none_nameless [] h = refl
none_nameless (name ∷ names) h = no_or (is_nameless name) (list_any is_nameless names) (filled_name name (All-head IsName name names h).filled) (none_nameless names (All-tail IsName name names h))

pieces_are : (names : List (List ℕ)) → 1 ≤ length names → All IsName names → pieces (with_commas names) ≡ names
pieces_are [] some h = absurd (omega arith)
pieces_are (name ∷ names) some h = pieces_of_names name names h

pub names_read : (text : List ℕ) (names : List (List ℕ)) → AreNames text names → names_of text ≡ Some names
names_read text names h =
    let same : pieces text ≡ names = ap pieces h.joined ∙ pieces_are names h.some h.each in
    rw same (rw (le-leb (length names) most_later h.few, none_nameless names h.each) refl)

-- ---- from the pieces of a text to names
has_name : (name : List ℕ) (others : List (List ℕ)) (b : ℕ) → with_commas ((b ∷ name) ∷ others) ≡ b ∷ with_commas (name ∷ others)
has_name name [] b = refl
has_name name (next ∷ others) b = refl

rejoined_by : (b : ℕ) (bs : List ℕ) (c : Bool) (ps : List (List ℕ)) → is_comma b ≡ c → pieces bs ≡ ps → with_commas ps ≡ bs → with_commas (if c then [] ∷ ps else onto_first b ps) ≡ b ∷ bs
rejoined_by b bs c [] e f h = absurd (some_piece bs f)
rejoined_by b bs true (p ∷ ps) e f h = rw (same_byte b comma e) (ap (λ xs. comma ∷ xs) h)
rejoined_by b bs false (p ∷ ps) e f h = has_name p ps b ∙ ap (λ xs. b ∷ xs) h

rejoined : (text : List ℕ) → with_commas (pieces text) ≡ text
rejoined [] = refl
rejoined (b ∷ bs) = rejoined_by b bs (is_comma b) (pieces bs) refl refl (rejoined bs)

abbrev HasNoComma : List ℕ → Type 0
HasNoComma p = list_any is_comma p ≡ false

whole_by : (b : ℕ) (c : Bool) (ps : List (List ℕ)) → is_comma b ≡ c → All HasNoComma ps → All HasNoComma (if c then [] ∷ ps else onto_first b ps)
whole_by b true ps e h = All-cons HasNoComma [] ps refl h
whole_by b false [] e h = All-cons HasNoComma (b ∷ []) [] (no_or (is_comma b) false e refl) h
whole_by b false (p ∷ ps) e h = All-cons HasNoComma (b ∷ p) ps (no_or (is_comma b) (list_any is_comma p) e (All-head HasNoComma p ps h)) (All-tail HasNoComma p ps h)

whole : (text : List ℕ) → All HasNoComma (pieces text)
whole [] = All-cons HasNoComma [] [] refl (All-nil HasNoComma)
whole (b ∷ bs) = whole_by b (is_comma b) (pieces bs) refl (whole bs)

none_of : (a b : Bool) → (a || b) ≡ false → NoneFirst a b
none_of false b h = record { first = refl; others = h }
none_of true b h = absurd cc

empty_nameless : (name : List ℕ) → is_nameless name ≡ false → name ≡ [] → ⊥
empty_nameless [] h e = cc
empty_nameless (b ∷ bs) h e = cc

are_names : (ps : List (List ℕ)) → list_any is_nameless ps ≡ false → All HasNoComma ps → All IsName ps
are_names [] h w = All-nil IsName
are_names (p ∷ ps) h w =
    let n = none_of (is_nameless p) (list_any is_nameless ps) h in
    All-cons IsName p ps (record { filled = empty_nameless p n.first; whole = All-head HasNoComma p ps w }) (are_names ps n.others (All-tail HasNoComma p ps w))

some_pieces : (ps : List (List ℕ)) (text : List ℕ) → pieces text ≡ ps → 1 ≤ length ps
some_pieces [] text e = absurd (some_piece text e)
some_pieces (p ∷ ps) text e = omega arith

names_by : (text : List ℕ) (names : List (List ℕ)) (few none : Bool) → nat_le (length (pieces text)) most_later ≡ few → list_any is_nameless (pieces text) ≡ none
    → (if few && not none then Some (pieces text) else None) ≡ Some names → AreNames text names
names_by text names false none e f h = absurd cc
names_by text names true true e f h = absurd cc
names_by text names true false e f h =
    let same : pieces text ≡ names = cc in
    subst (AreNames text) same (record {
      joined = sym (rejoined text);
      each = are_names (pieces text) f (whole text);
      some = some_pieces (pieces text) text refl;
      few = leb-true (length (pieces text)) most_later e;
    })

pub names_found : (text : List ℕ) (names : List (List ℕ)) → names_of text ≡ Some names → AreNames text names
names_found text names h = names_by text names (nat_le (length (pieces text)) most_later) (list_any is_nameless (pieces text)) refl refl h
