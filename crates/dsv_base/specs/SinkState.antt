-- A sink in memory.
use Rattle.std.specs.Prelude.{ℕ, ◌-◌, ◌==◌, ◌||◌, List, [], ◌++◌, length}
use Rattle.std.specs.Prelude.{take, min, if◌then◌else◌, Result, Ok, Err}
use Rattle.std.specs.List.{list_any}
use Rattle.dsv_base.specs.Counts.{count_after}
use Rattle.dsv_base.specs.declared.sink.Failed.{Failed}

-- What a sink in memory is seen as: the bytes that it took, how many it can take in all, the
-- numbers of the puts that are told to fail, how many puts came, and how many of them failed.
pub record SinkState : Type 0 where
  pub taken : List ℕ
  pub room : ℕ
  pub failing : List ℕ
  pub calls : ℕ
  pub faults : ℕ

abbrev pub failure : Failed
failure = record {}

-- a sink that nothing was put in
abbrev pub new_sink : ℕ → SinkState
new_sink room = record { taken = []; room = room; failing = []; calls = 0; faults = 0 }

-- what a put answers: it fails where it is told to or no room is left, and else as many bytes are
-- taken as fit
abbrev pub put_answer : SinkState → List ℕ → Result ℕ Failed
put_answer s piece =
    if list_any (λ call. call == s.calls) s.failing || length s.taken == s.room
    then Err failure
    else Ok (min (length piece) (s.room - length s.taken))

-- the sink after a put with this answer
abbrev pub after_put : SinkState → List ℕ → Result ℕ Failed → SinkState
after_put s piece (Ok count) =
    record s { taken = s.taken ++ take count piece; calls = count_after s.calls 1 }
after_put s piece (Err end) =
    record s { calls = count_after s.calls 1; faults = count_after s.faults 1 }
