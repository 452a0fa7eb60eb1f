-- What a clause does, where part of it was read.
use Rattle.std.proofs.Common.{Bool, Option, Some, None, List, ◌∷◌}
use Rattle.dsv_cnf.specs.Literal.{Literal}
use Rattle.dsv_hints.specs.Clauses.{outside}
use Rattle.dsv_hints.specs.declared.hints.Move.{Move}
use Rattle.dsv_hints.specs.Derivation.{move_of}

-- the move, where this literal was found open and the rest is to be read
abbrev pub move_from : (Literal → Bool) → Option Literal → List Literal → Move
move_from set None rest = move_of set (outside set rest)
move_from set (Some m) rest = move_of set (m ∷ outside set rest)
