-- A text in memory that grows.
use Rattle.std.specs.Prelude.{ℕ, List, [], ◌++◌, Result, Ok, Err}
use Rattle.dsv_base.specs.Counts.{count_after}
use Rattle.dsv_base.specs.declared.sink.Failed.{Failed}

-- the bytes that were taken, and how many puts failed
pub record TextView : Type 0 where
  pub taken : List ℕ
  pub faults : ℕ

-- nothing was put in
abbrev pub empty_text : TextView
empty_text = record { taken = []; faults = 0 }

-- the text after a put with this answer: the whole piece is taken, or nothing of it
abbrev pub after_put : TextView → List ℕ → Result ℕ Failed → TextView
after_put s piece (Ok count) = record s { taken = s.taken ++ piece }
after_put s piece (Err end) = record s { faults = count_after s.faults 1 }
