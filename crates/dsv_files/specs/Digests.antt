-- The digests of the files that a request names, in the order in which they are read.
use Rattle.std.specs.Prelude.{◌≡◌, ℕ, ◌≤◌, List, [], ◌∷◌, ◌++◌, length, map}
use Rattle.sha2.specs.Sha256.{sha256}
use Rattle.dsv_base.specs.Lists.{Pairwise}
use Rattle.dsv_base.specs.Seen.{FilesSeen, CameOf}
use Rattle.dsv_command.specs.Table.{JobFiles, controller, cascade, states, plant_loop, cascade_loop}
use Rattle.dsv_command.specs.Table.{Task, checks_form, checks_ellipsoid, runs_file, emits_file_test}
use Rattle.dsv_files.specs.declared.digests.FileDigest.{FileDigest}
use Rattle.dsv_files.specs.Files.{FileKind, a_controller, a_state_controller, a_plant}
use Rattle.dsv_files.specs.Files.{a_certificate, an_ellipsoid, some_inputs, Content, IsText}
use Rattle.dsv_files.specs.Files.{limit_of, which_of}
use Rattle.dsv_files.specs.Titles.{title_for}

-- a file by what it has to be, and its name
pub record NamedFile : Type 0 where
  pub kind : FileKind
  pub name : List ℕ

abbrev pub section_named : List ℕ → NamedFile
section_named name = record { kind = a_controller; name = name }

abbrev pub plant_named : List ℕ → NamedFile
plant_named name = record { kind = a_plant; name = name }

abbrev pub certificate_named : List ℕ → NamedFile
certificate_named name = record { kind = a_certificate; name = name }

-- the files of what is asked about
abbrev pub named_by : JobFiles → List NamedFile
named_by (controller file) = section_named file ∷ []
named_by (cascade file later) = section_named file ∷ map section_named later
named_by (states file) = record { kind = a_state_controller; name = file } ∷ []
named_by (plant_loop file plant) = section_named file ∷ plant_named plant ∷ []
named_by (cascade_loop file later plant) =
    section_named file ∷ (map section_named later ++ plant_named plant ∷ [])

-- the file that a task names
abbrev pub named_by_task : Task → List NamedFile
named_by_task (checks_form name) = certificate_named name ∷ []
named_by_task (checks_ellipsoid name) = record { kind = an_ellipsoid; name = name } ∷ []
named_by_task (runs_file name outputs) = record { kind = some_inputs; name = name } ∷ []
named_by_task (emits_file_test prefix name) = record { kind = some_inputs; name = name } ∷ []
named_by_task task = []

-- a file's name, a digest, and the name of a controller
pub record DigestView : Type 0 where
  pub name : List ℕ
  pub digest : List ℕ
  pub title : List ℕ

abbrev pub digest_view : FileDigest → DigestView
digest_view d = record { name = d.name.now; digest = d.digest; title = d.title }

-- the file's name, and of the bytes that came of it, which are the text of its kind, the SHA-256
-- digest and the name that they give a controller
pub record IsDigestOf (old : FilesSeen) (file : NamedFile) (d : DigestView) : Type 0 where
  pub same : d.name ≡ file.name
  pub content : Content file.kind
  pub came : CameOf (old.held file.name) (λ bytes. (length bytes ≤ limit_of (which_of file.kind))
      × IsText file.kind bytes content × (d.digest ≡ sha256 bytes)
      × (d.title ≡ title_for file.kind bytes))

-- those of these files, in their order
abbrev pub AreDigests : FilesSeen → List NamedFile → List DigestView → Type 0
AreDigests old = Pairwise (IsDigestOf old)

-- they stand at the end of a list now
pub record AreLogged (old : FilesSeen) (files : List NamedFile) (before after : List FileDigest)
    : Type 0 where
  pub digests : List DigestView
  pub are_digests : AreDigests old files digests
  pub grown : map digest_view after ≡ map digest_view before ++ digests
