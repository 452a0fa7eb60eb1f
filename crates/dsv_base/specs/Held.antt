-- Files in memory.
use Rattle.std.specs.Prelude.{◌≡◌, ◌≢◌, ℕ, ◌==◌, ◌||◌, Bool, List, [], Option}
use Rattle.std.specs.Prelude.{Some, None, is_none, Result, Ok, Err, String, Vec}
use Rattle.std.specs.List.{list_any}
use Rattle.std.specs.BTreeMap.{BTreeMap, get_by_text}
use Rattle.std.specs.Option.{option_map}
use Rattle.std.specs.declared.alloc.Global.{Global}
use Rattle.dsv_base.specs.Counts.{count_after}
use Rattle.dsv_base.specs.Seen.{FilesSeen}
use Rattle.dsv_base.specs.declared.files.FetchEnd.{FetchEnd}
use Rattle.dsv_base.specs.declared.files.FetchEnd.TheVariants as fetch

-- the bytes of a name in a map
abbrev pub held_in : BTreeMap (String Global) (Vec ℕ Global) → List ℕ → Option (List ℕ)
held_in m name = option_map (λ v. v.items) (get_by_text m name)

-- What files in memory are seen as: the bytes of each name that is held, the numbers of the fetches
-- that are told to fail, how many fetches came, how many of them failed, how many bytes they gave,
-- and the name of the last that failed.
pub record FilesState : Type 0 where
  pub held : List ℕ → Option (List ℕ)
  pub failing : List ℕ
  pub calls : ℕ
  pub faults : ℕ
  pub came : ℕ
  pub blamed : Option (List ℕ)

-- what they tell
abbrev pub seen_of : FilesState → FilesSeen
seen_of s = record { held = s.held; faults = s.faults; blamed = s.blamed; came = s.came }

-- no files, and nothing fetched
abbrev pub no_files : FilesState
no_files = record {
  held = λ name. None;
  failing = [];
  calls = 0;
  faults = 0;
  came = 0;
  blamed = None;
}

-- The new files have these bytes under the name, and the same as before under each other name.
pub record HoldsToo (old new : List ℕ → Option (List ℕ)) (name bytes : List ℕ) : Type 0 where
  pub now : new name ≡ Some bytes
  pub others : (other : List ℕ) → other ≢ name → new other ≡ old other

-- a fetch fails where it is told to or no file of the name is held
abbrev pub fetch_fails : FilesState → List ℕ → Bool
fetch_fails s name = list_any (λ call. call == s.calls) s.failing || is_none (s.held name)

-- the files after a fetch of this name that gave no bytes
abbrev pub failed_fetch : FilesState → List ℕ → FetchEnd → FilesState
failed_fetch s name fetch.Failed = record s { faults = count_after s.faults 1; blamed = Some name }
failed_fetch s name fetch.NoMemory = s

-- the files after a fetch of this name with this answer
abbrev pub after_fetch : FilesState → List ℕ → Result ℕ FetchEnd → FilesState
after_fetch s name (Ok count) =
    record s { calls = count_after s.calls 1; came = count_after s.came count }
after_fetch s name (Err end) = failed_fetch (record s { calls = count_after s.calls 1 }) name end
