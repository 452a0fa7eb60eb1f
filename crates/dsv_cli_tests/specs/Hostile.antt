-- What the tests' proposers offer.
use Rattle.std.specs.Prelude.{◌∷◌, [], pos, negsuc}
use Rattle.dsv_template.specs.declared.candidate.Candidate.{Candidate}

-- the set of all states of registers, at a depth
abbrev pub every_state : Candidate
every_state = record { inequalities = record { items = [] }; depth = 1 }

-- a depth that is too great
abbrev pub too_deep : Candidate
too_deep = record { inequalities = record { items = [] }; depth = 9 }

-- the set of no states of two registers: 0 is at most -1 in none
abbrev pub no_state : Candidate
no_state = record {
  inequalities = record {
    items = record {
      coefficients = record { items = pos 0 ∷ pos 0 ∷ [] };
      bound = negsuc 0;
    } ∷ [];
  };
  depth = 1;
}
