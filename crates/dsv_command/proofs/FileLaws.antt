-- What is asked about, by the rules and as it is found.
use Rattle.std.proofs.Common.{◌≡◌, ℕ, true, false, List, [], ◌∷◌, Option, Some, None, Ok, refl, subst}
use Rattle.std.specs.Prelude.{codes}
use Rattle.dsv_command.specs.declared.kind.Kind.{Kind}
use Rattle.dsv_command.specs.declared.kind.Kind.TheVariants as of_kind
use Rattle.dsv_command.specs.Finding.{kind_in, files_by, files_in, apart_from_states, check_states, unless_file, unless_given, first_other}
use Rattle.dsv_command.specs.Options.{command_options}
use Rattle.dsv_command.specs.Parts.{PartView, flag, is_given, file_of, value_of}
use Rattle.dsv_command.specs.Rules as rules
use Rattle.dsv_command.specs.Rules.{IsGivenAs, AreValues, HasOnly, AreFiles}
use Rattle.dsv_command.specs.Table.{JobFiles, controller, cascade, states, plant_loop, cascade_loop, kind_of, file_options, all_file_options, design_options, all_design_options}
use Rattle.dsv_command.specs.Values.{Values}
use Rattle.dsv_command.proofs.OnlyLaws.{off, unless, no_value, value_given, first_by_only, only_by_first, AreTyped, unvalued}
use Rattle.dsv_command.proofs.TaskLaws.{no_text, none_as}
use Rattle.dsv_command.proofs.ValueLaws.{passed}

-- ---- sections that are given
later_given : (parts : List PartView) (v : Values) (text : Option (List ℕ)) (later : List (List ℕ)) → value_of (codes "sections") parts ≡ text → IsGivenAs rules.AreNames text v.later → v.later ≡ Some later
    → is_given parts (codes "sections") ≡ true
later_given parts v (Some t) later e h k = value_given parts (codes "sections") t e
later_given parts v None later e h k = absurd (let n = none_as rules.AreNames None v.later h refl in cc)

no_later : (parts : List PartView) (v : Values) → AreValues parts v → is_given parts (codes "sections") ≡ false → v.later ≡ None
no_later parts v h e = none_as rules.AreNames (value_of (codes "sections") parts) v.later h.later (no_value parts (codes "sections") e)

-- ---- from the rules
pub record FilesRead (parts : List PartView) (v : Values) (found : JobFiles) : Type 0 where
  pub kind : kind_in parts ≡ kind_of found
  pub read : files_in parts v ≡ Ok found

pub files_read : (parts : List PartView) (v : Values) (found : JobFiles) → AreValues parts v → AreFiles parts v found → HasOnly parts (file_options found) all_file_options → FilesRead parts v found
files_read parts v found h (AreFiles.controllers ps w name f) only =
    let s = off ps [] (codes "state-space") only.0 refl in
    let l = off ps [] (codes "sections") only.1.0 refl in
    let p = off ps [] (codes "plant") only.1.1.0 refl in
    record {
      kind = rw (s, p, l) refl;
      read = rw (no_value ps (codes "state-space") s, no_value ps (codes "plant") p, no_later ps w h l, f) refl;
    }
files_read parts v found h (AreFiles.cascades ps w name later f e) only =
    let s = off ps (codes "sections" ∷ []) (codes "state-space") only.0 refl in
    let p = off ps (codes "sections" ∷ []) (codes "plant") only.1.1.0 refl in
    record {
      kind = rw (s, p, later_given ps w (value_of (codes "sections") ps) later refl h.later e) refl;
      read = rw (no_value ps (codes "state-space") s, no_value ps (codes "plant") p, e, f) refl;
    }
files_read parts v found h (AreFiles.state_spaces ps w name f s) only = record {
  kind = rw (value_given ps (codes "state-space") name s) refl;
  read = rw s refl;
}
files_read parts v found h (AreFiles.loops ps w name plant f p) only =
    let s = off ps (codes "plant" ∷ []) (codes "state-space") only.0 refl in
    let l = off ps (codes "plant" ∷ []) (codes "sections") only.1.0 refl in
    record {
      kind = rw (s, value_given ps (codes "plant") plant p, l) refl;
      read = rw (no_value ps (codes "state-space") s, p, no_later ps w h l, f) refl;
    }
files_read parts v found h (AreFiles.cascade_loops ps w name later plant f e p) only =
    let s = off ps (codes "sections" ∷ codes "plant" ∷ []) (codes "state-space") only.0 refl in
    record {
      kind = rw (s, value_given ps (codes "plant") plant p, later_given ps w (value_of (codes "sections") ps) later refl h.later e) refl;
      read = rw (no_value ps (codes "state-space") s, p, e, f) refl;
    }

-- nothing is given that state-space controllers don't have
states_checked : (parts : List PartView) (own : List (List ℕ)) → file_of parts ≡ None → HasOnly parts [] apart_from_states → check_states parts of_kind.States ≡ Ok tt
states_checked parts own f only = rw (f, first_by_only parts [] apart_from_states only) refl

pub kind_checked : (parts : List PartView) (v : Values) (found : JobFiles) → AreFiles parts v found → HasOnly parts (file_options found) all_file_options
    → HasOnly parts (design_options (kind_of found)) all_design_options → check_states parts (kind_of found) ≡ Ok tt
kind_checked parts v found (AreFiles.controllers ps w name f) files design = refl
kind_checked parts v found (AreFiles.cascades ps w name later f e) files design = refl
kind_checked parts v found (AreFiles.loops ps w name plant f p) files design = refl
kind_checked parts v found (AreFiles.cascade_loops ps w name later plant f e p) files design = refl
kind_checked parts v found (AreFiles.state_spaces ps w name f s) files design =
    states_checked ps [] f (
      unless ps (codes "sections") false (off ps (codes "state-space" ∷ []) (codes "sections") files.1.0 refl),
      (
        unless ps (codes "plant") false (off ps (codes "state-space" ∷ []) (codes "plant") files.1.1.0 refl),
        (unless ps (codes "realization") false (off ps (codes "rounding" ∷ codes "overflow-mode" ∷ []) (codes "realization") design.0 refl), tt),
      ),
    )

-- ---- to the rules
pub record FilesFound (parts : List PartView) (v : Values) (found : JobFiles) : Type 0 where
  pub files : AreFiles parts v found
  pub file_only : HasOnly parts (file_options found) all_file_options
  pub design_only : HasOnly parts (design_options (kind_of found)) all_design_options
  pub kind : kind_in parts ≡ kind_of found

all_design : (parts : List PartView) → HasOnly parts all_design_options all_design_options
all_design parts = ((λ k. refl), ((λ k. refl), ((λ k. refl), tt)))

pub no_file : (part : PartView) (file : Option (List ℕ)) → unless_file part file ≡ Ok tt → file ≡ None
no_file part None h = refl
no_file part (Some text) h = absurd (cc)

pub none_given : (part : PartView) (other : Option (List ℕ)) → unless_given part other ≡ Ok tt → other ≡ None
none_given part None h = refl
none_given part (Some name) h = absurd (cc)

files_by_found : (parts : List PartView) (v : Values) (found : JobFiles) (s p : Option (List ℕ)) (l : Option (List (List ℕ))) (f : Option (List ℕ)) → AreTyped command_options parts → AreValues parts v
    → value_of (codes "state-space") parts ≡ s → value_of (codes "plant") parts ≡ p → v.later ≡ l → file_of parts ≡ f → check_states parts (kind_in parts) ≡ Ok tt → files_by s p l f ≡ Ok found
    → FilesFound parts v found
files_by_found parts v found (Some own) p l f t h es ep el ef c k =
    let given = value_given parts (codes "state-space") own es in
    let kind : kind_in parts ≡ of_kind.States = rw given refl in
    let checked : check_states parts of_kind.States ≡ Ok tt = subst (λ (x : Kind). check_states parts x ≡ Ok tt) kind c in
    let a = passed (unless_file (flag (codes "state-space")) (file_of parts)) (λ u. unless_given (flag (codes "state-space")) (first_other parts [] apart_from_states)) tt checked in
    let only = only_by_first parts [] apart_from_states (none_given (flag (codes "state-space")) (first_other parts [] apart_from_states) a.second) in
    let same : states own ≡ found = cc in
    subst (FilesFound parts v) same (record {
      files = AreFiles.state_spaces parts v own (no_file (flag (codes "state-space")) (file_of parts) a.first) es;
      file_only = ((λ g. refl), (unless parts (codes "sections") _ (off parts [] (codes "sections") only.0 refl), (unless parts (codes "plant") _ (off parts [] (codes "plant") only.1.0 refl), tt)));
      design_only = (unless parts (codes "realization") _ (off parts [] (codes "realization") only.1.1.0 refl), ((λ g. refl), ((λ g. refl), tt)));
      kind = kind;
    })
files_by_found parts v found None p l None t h es ep el ef c k = absurd (cc)
files_by_found parts v found None (Some plant) (Some later) (Some name) t h es ep el ef c k =
    let s = unvalued command_options parts (codes "state-space") t refl es in
    let same : cascade_loop name later plant ≡ found = cc in
    subst (FilesFound parts v) same (record {
      files = AreFiles.cascade_loops parts v name later plant ef el ep;
      file_only = (unless parts (codes "state-space") _ s, ((λ g. refl), ((λ g. refl), tt)));
      design_only = all_design parts;
      kind = rw (s, value_given parts (codes "plant") plant ep, later_given parts v (value_of (codes "sections") parts) later refl h.later el) refl;
    })
files_by_found parts v found None (Some plant) None (Some name) t h es ep el ef c k =
    let s = unvalued command_options parts (codes "state-space") t refl es in
    let n = unvalued command_options parts (codes "sections") t refl (no_text rules.AreNames (value_of (codes "sections") parts) v.later h.later el) in
    let same : plant_loop name plant ≡ found = cc in
    subst (FilesFound parts v) same (record {
      files = AreFiles.loops parts v name plant ef ep;
      file_only = (unless parts (codes "state-space") _ s, (unless parts (codes "sections") _ n, ((λ g. refl), tt)));
      design_only = all_design parts;
      kind = rw (s, value_given parts (codes "plant") plant ep, n) refl;
    })
files_by_found parts v found None None (Some later) (Some name) t h es ep el ef c k =
    let s = unvalued command_options parts (codes "state-space") t refl es in
    let n = unvalued command_options parts (codes "plant") t refl ep in
    let same : cascade name later ≡ found = cc in
    subst (FilesFound parts v) same (record {
      files = AreFiles.cascades parts v name later ef el;
      file_only = (unless parts (codes "state-space") _ s, ((λ g. refl), (unless parts (codes "plant") _ n, tt)));
      design_only = all_design parts;
      kind = rw (s, n, later_given parts v (value_of (codes "sections") parts) later refl h.later el) refl;
    })
files_by_found parts v found None None None (Some name) t h es ep el ef c k =
    let s = unvalued command_options parts (codes "state-space") t refl es in
    let n = unvalued command_options parts (codes "sections") t refl (no_text rules.AreNames (value_of (codes "sections") parts) v.later h.later el) in
    let p = unvalued command_options parts (codes "plant") t refl ep in
    let same : controller name ≡ found = cc in
    subst (FilesFound parts v) same (record {
      files = AreFiles.controllers parts v name ef;
      file_only = (unless parts (codes "state-space") _ s, (unless parts (codes "sections") _ n, (unless parts (codes "plant") _ p, tt)));
      design_only = all_design parts;
      kind = rw (s, p, n) refl;
    })

pub files_found : (parts : List PartView) (v : Values) (found : JobFiles) → AreTyped command_options parts → AreValues parts v → check_states parts (kind_in parts) ≡ Ok tt → files_in parts v ≡ Ok found
    → FilesFound parts v found
files_found parts v found t h c k =
    files_by_found parts v found (value_of (codes "state-space") parts) (value_of (codes "plant") parts) v.later (file_of parts) t h refl refl refl refl c k
