-- A formula's text reads back as the formula.
use Rattle.std.proofs.Common.{◌≡◌, ℕ, ◌^◌, ◌<◌, ◌≤◌, List, [], ◌∷◌, ◌++◌, Ok, length, codes, refl, arith, append_assoc}
use Rattle.std.specs.List.{flat_map}
use Rattle.dsv_cnf.specs.Dimacs.{literal_text, clause_text, dimacs_text}
use Rattle.dsv_cnf.specs.Formula.{AreOver}
use Rattle.dsv_cnf.specs.FormulaView.{FormulaView}
use Rattle.dsv_cnf.specs.Literal.{Literal}
use Rattle.dsv_cnf.specs.Reading.{reading}
use Rattle.dsv_cnf.specs.Texts.{literal_piece, clause_pieces, AreSpaced, IsTextOf}
use Rattle.dsv_cnf.proofs.Spacing.{spaced-blank}
use Rattle.dsv_cnf.proofs.TextLaws.{text_read}

-- a piece and a blank after it
spaced-first : (piece : List ℕ) (pieces : List (List ℕ)) (rest text : List ℕ) → text ≡ piece ++ 32 ∷ rest → AreSpaced pieces rest → AreSpaced (piece ∷ pieces) text
spaced-first piece pieces rest text e s = record {
  gap = [];
  blanks = refl;
  rest = 32 ∷ rest;
  split = e;
  apart = refl;
  goes_on = spaced-blank 32 pieces rest refl s;
}

spaced-clause : (c : List Literal) (pieces : List (List ℕ)) (rest : List ℕ) → AreSpaced pieces rest → AreSpaced (clause_pieces c ++ pieces) (clause_text c ++ rest)
spaced-clause [] pieces rest s = record {
  gap = [];
  blanks = refl;
  rest = 10 ∷ rest;
  split = refl;
  apart = refl;
  goes_on = spaced-blank 10 pieces rest refl s;
}
spaced-clause (l ∷ ls) pieces rest s =
    let more = flat_map literal_text ls in
    let e : literal_text l ++ more ++ codes "0\n" ++ rest ≡ literal_piece l ++ 32 ∷ (more ++ codes "0\n" ++ rest) = simp append_assoc in
    spaced-first (literal_piece l) (clause_pieces ls ++ pieces) (clause_text ls ++ rest) (clause_text (l ∷ ls) ++ rest) e (spaced-clause ls pieces rest s)

spaced-clauses : (cs : List (List Literal)) → AreSpaced (flat_map clause_pieces cs) (flat_map clause_text cs)
spaced-clauses [] = refl
spaced-clauses (c ∷ cs) = spaced-clause c (flat_map clause_pieces cs) (flat_map clause_text cs) (spaced-clauses cs)

-- what is written of a formula is a text of it
pub text_written : (f : FormulaView) → f.vars ≤ 2 ^ 31 → length f.clauses < 2 ^ 32 → AreOver f.vars f.clauses → IsTextOf f (dimacs_text f)
text_written f few small over = record {
  comments = [];
  lines = tt;
  body = flat_map clause_text f.clauses;
  text = refl;
  pieces = spaced-clauses f.clauses;
  over = over;
  few_vars = few;
  few_clauses = omega (arith, small);
}

-- what is written of a formula reads back as the formula
pub reads-back : (f : FormulaView) → f.vars ≤ 2 ^ 31 → length f.clauses < 2 ^ 32 → AreOver f.vars f.clauses → reading (dimacs_text f) ≡ Ok f
reads-back f few small over = text_read f (dimacs_text f) (text_written f few small over)
