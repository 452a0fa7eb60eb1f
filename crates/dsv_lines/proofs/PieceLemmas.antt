-- Pieces one after another.
use Rattle.std.proofs.Common.{◌≡◌, ◌∙◌, ap, ℕ, ◌+◌, List, [], drop, arith}
use Rattle.std.proofs.lemmas.List.{get_or-drop, drop-drop}
use Rattle.dsv_lines.specs.Pieces.{piece_at}

pub drop_more : {A : Type 0} (n : ℕ) (xs : List A) → drop 1 (drop n xs) ≡ drop (n + 1) xs
drop_more n xs = drop-drop 1 n xs

pub piece_from : (n : ℕ) (ps : List (List ℕ)) → piece_at (drop n ps) 0 ≡ piece_at ps n
piece_from n ps =
    let e : n + 0 ≡ n = omega arith in
    get_or-drop n ps 0 [] ∙ ap (piece_at ps) e
