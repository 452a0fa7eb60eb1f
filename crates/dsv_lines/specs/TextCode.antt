-- Scaffolding: how a proof tells what is left of texts apart.
use Rattle.std.specs.Prelude.{◌≡◌, ℕ, List, [], ◌∷◌, refl}
use Rattle.std.proofs.Common.{ap}
use Rattle.std.specs.Coded.{Coded, code_by, coded×, coded_ℕ, coded_list}
use Rattle.dsv_lines.specs.Pieces.{TextLines, unended, line, LinesLeft}

-- the lines, and what follows them
abbrev pub parts_of : TextLines → List (List ℕ) × List ℕ
parts_of (unended bytes) = ([], bytes)
parts_of (line bytes more) = (bytes ∷ (parts_of more).0, (parts_of more).1)

abbrev pub text_with : List (List ℕ) → List ℕ → TextLines
text_with [] bytes = unended bytes
text_with (l ∷ ls) bytes = line l (text_with ls bytes)

abbrev pub parts_back : (t : TextLines) → text_with (parts_of t).0 (parts_of t).1 ≡ t
parts_back (unended bytes) = refl
parts_back (line bytes more) = ap (line bytes) (parts_back more)

abbrev pub text_code : Coded TextLines
text_code = code_by (List (List ℕ) × List ℕ) (coded× (coded_list (coded_list coded_ℕ))
    (coded_list coded_ℕ)) parts_of (λ p. text_with p.0 p.1) parts_back

abbrev pub left_code : Coded LinesLeft
left_code = code_by (TextLines × ℕ) (coded× text_code coded_ℕ) (λ l. (l.lines, l.number))
    (λ p. record { lines = p.0; number = p.1 }) (λ _. refl)
