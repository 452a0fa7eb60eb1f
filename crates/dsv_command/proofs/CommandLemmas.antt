-- The command that is made option by option, and what clap says of it.
use Rattle.std.proofs.Common.{None, String, Global, string_bytes, subst, inl, inr, refl, true, [], ◌≡◌, ◌∙◌, ◌<◌, ◌+◌, ℕ, List, drop, get_or, length, map, sym, ap}
use Rattle.std.proofs.lemmas.List.{drop_more}
use Rattle.clap.specs.Words.{HasMatchesOf, found_of, rows_of, App, HasKind, Rule, Text, fault_of, is_simple, is_simple_and_free, kind_of, matches_of, with_rule}
use Rattle.clap.specs.declared.error.Error.{Error}
use Rattle.clap.specs.declared.parser.matches.ArgMatches.{ArgMatches}
use Rattle.clap.specs.declared.error.kind.ErrorKind.TheVariants.{OutOfMemory}
use Rattle.dsv_command.specs.ClapCommand.{command_app, command_faults, command_rows, filled_parts_of, option_rule}
use Rattle.dsv_command.specs.Options.{command_options}
use Rattle.dsv_command.specs.Views.{option_view, options_view}
use Rattle.dsv_command.specs.declared.options.CommandOption.{CommandOption}
use Rattle.dsv_command.proofs.ClapFound.{IsTable, Tell, refused, taken}
use Rattle.dsv_command.proofs.ClapLooks.{strings_have_characters}
use Rattle.dsv_command.proofs.ClapRules.{command_simple, command_simple_and_free, with_rules, with_rules_more}

-- once one more option's argument is added, the options after it are left
pub one_rule_more : (options : List CommandOption) (i : ℕ) (d : CommandOption) (app next : App) (rule : Rule) → i < length options → rule ≡ option_rule (option_view (get_or options i d)) → next ≡ with_rule app rule
    → with_rules next (map option_rule (options_view (drop (i + 1) options))) ≡ with_rules app (map option_rule (options_view (drop i options)))
one_rule_more options i d app next rule inside r e =
    ap (λ a. with_rules a (map option_rule (options_view (drop (i + 1) options)))) (e ∙ ap (with_rule app) r)
    ∙ (sym (with_rules_more app (option_rule (option_view (get_or options i d))) (map option_rule (options_view (drop (i + 1) options))))
    ∙ ap (λ os. with_rules app (map option_rule (options_view os))) (sym (drop_more options i d inside)))

-- the command's own options are a table
command_table : IsTable command_options
command_table = record { no_file = refl; flags = refl }

-- where clap has no other reason, memory ran out
only_memory : (error : Error) → HasKind [] error → kind_of error ≡ OutOfMemory
only_memory error has = elim has [
  | inl memory ↦ memory
  | inr none ↦ absurd none
]

-- ---- what clap's clauses say of the command that was made

module _ (app : App) (made : app ≡ command_app command_options) (strings : List (String Global)) where
  abbrev arguments : List Text
  arguments = map string_bytes strings

  pub simple : is_simple app ≡ true
  simple = ap is_simple made ∙ command_simple command_options

  pub simple_and_free : is_simple_and_free app ≡ true
  simple_and_free = ap is_simple_and_free made ∙ command_simple_and_free command_options

  faults_are : fault_of app arguments ≡ command_faults command_options arguments
  unfolding command_faults
  faults_are = ap (λ a. fault_of a arguments) made

  rows_are : matches_of app arguments ≡ command_rows command_options arguments
  unfolding command_rows
  rows_are = ap (λ a. matches_of a arguments) made

  -- matches tell the parts
  pub matches_tell : (matches : ArgMatches) → fault_of app arguments ≡ [] → HasMatchesOf app arguments matches → Tell command_options arguments (rows_of (found_of matches))
  matches_tell matches free has = subst (Tell command_options arguments) (sym ((has simple).0 ∙ rows_are)) (taken command_options arguments command_table (strings_have_characters strings) (sym faults_are ∙ free))

  -- clap's refusal, but for memory, is that of the rules
  pub refusal_is : (error : Error) → HasKind (fault_of app arguments) error → (kind_of error ≡ OutOfMemory → ⊥) → filled_parts_of command_options arguments ≡ None
  refusal_is error has other = refused command_options arguments command_table (strings_have_characters strings) (λ free. other (only_memory error (subst (λ kinds. HasKind kinds error) (faults_are ∙ free) has)))
