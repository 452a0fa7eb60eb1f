-- What clap's matches say of an id, by their rows.
use Rattle.std.proofs.Common.{Bool, true, false, ◌≡◌, ◌∙◌, refl, sym, ap, Option, Some, None, find, option_map, option_and_then}
use Rattle.clap.specs.Facts.{Entry}
use Rattle.clap.specs.Matches.{matched_of}
use Rattle.clap.specs.Walk.{Row, Text, row_of, rows_of}
use Rattle.clap.specs.declared.parser.matches.Found.{Found}
use Rattle.clap.specs.declared.parser.matches.MatchedArg.{MatchedArg}
use Rattle.clap.specs.declared.parser.matches.ValueSource.{ValueSource}
use Rattle.clap.specs.declared.parser.matches.ValueSource.TheVariants.{CommandLine, DefaultValue}
use Rattle.std.specs.Option.{option_eq}
use Rattle.std.specs.Str.{bytes_eq}
use Rattle.clap.proofs.WalkLemmas.{find_row}
use Rattle.dsv_command.specs.ClapRows.{is_given_source, is_in_rows}

-- where the value of an id comes from
pub source-rows : (found : Found) (id : Text) → option_and_then (λ (a : MatchedArg). a.source) (matched_of found id)
    ≡ option_and_then (λ (row : Row). row.source) (find (λ row. bytes_eq row.id id) (rows_of found))
source-rows found id = by_entry (find (λ (e : Entry). bytes_eq e.0.now id) found.entries.items) ∙ ap (option_and_then (λ (row : Row). row.source)) (sym (find_row found.entries.items id))
  where
    by_entry : (entry : Option Entry) → option_and_then (λ (a : MatchedArg). a.source) (option_map (λ (e : Entry). e.1) entry) ≡ option_and_then (λ (row : Row). row.source) (option_map row_of entry)
    by_entry None = refl
    by_entry (Some e) = refl

-- an id was given among the arguments
pub given-rows : (found : Found) (id : Text) (source : Option ValueSource) → source ≡ option_and_then (λ (a : MatchedArg). a.source) (matched_of found id) → is_given_source source ≡ is_in_rows id (rows_of found)
given-rows found id source e = ap is_given_source (e ∙ source-rows found id)

-- a source that equals the command line, by any equality of sources
pub from_command_line : (same : ValueSource → ValueSource → Bool) (source : Option ValueSource) → same CommandLine CommandLine ≡ true → same DefaultValue CommandLine ≡ false
    → option_eq same source (Some CommandLine) ≡ is_given_source source
from_command_line same None e f = refl
from_command_line same (Some CommandLine) e f = e
from_command_line same (Some DefaultValue) e f = f
