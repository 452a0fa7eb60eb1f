-- Names that texts may have.
use Rattle.std.specs.Prelude.{◌≡◌, ◌≤◌, ◌<◌, ◌^◌, ℕ, true, false, List, [], ◌∷◌, ◌++◌, map}
use Rattle.std.specs.Prelude.{Option, Some, None}
use Rattle.std.specs.Int.RustNames.{unsigned_abs}
use Rattle.std.specs.List.{All, list_any}
use Rattle.std.specs.Str.{bytes_eq}
use Rattle.dsv_command.specs.CodeNames.{are_name_bytes, starts_name}
use Rattle.dsv_word.specs.Words.{width}
use Rattle.dsv_ctext.specs.Texts.{member_text}
use Rattle.dsv_ctext.specs.declared.names.MemberName.{MemberName}
use Rattle.dsv_ctext.specs.declared.remarks.Origin.{Origin}
use Rattle.dsv_ctext.specs.declared.remarks.Origin.TheVariants as origin
use Rattle.dsv_ctext.specs.declared.remarks.Remarks.{Remarks}

-- an identifier (6.4.2)
pub record IsIdentifier (name : List ℕ) : Type 0 where
  pub starts : starts_name name ≡ true
  pub bytes : are_name_bytes name ≡ true

-- the section has a number of 32 bits
abbrev pub IsSection : Option ℕ → Type 0
IsSection None = Unit {0}
IsSection (Some section) = section < 2 ^ 32

-- a lower-case letter, and numbers of 32 bits
pub record IsMember (m : MemberName) : Type 0 where
  pub section : IsSection m.section
  pub least : 97 ≤ m.letter
  pub greatest : m.letter ≤ 122
  pub number : m.number < 2 ^ 32

-- no name stands twice, after these
abbrev pub AreNew : List (List ℕ) → List (List ℕ) → Type 0
AreNew before [] = Unit {0}
AreNew before (n ∷ ns) =
    (list_any (λ m. bytes_eq m n) before ≡ false) × AreNew (before ++ n ∷ []) ns

-- the names of a struct's members: no two have one text
pub record AreMembers (members : List MemberName) : Type 0 where
  pub each : All IsMember members
  pub different : AreNew [] (map member_text members)

-- ---- numbers in comments have their types
abbrev pub IsOrigin : Origin → Type 0
IsOrigin (origin.Controller realisation wide) = Unit {0}
IsOrigin (origin.Cascade sections realisation wide) = sections < 2 ^ 32
IsOrigin (origin.States states) = states < 2 ^ 32

pub record AreRemarks (r : Remarks) : Type 0 where
  pub origin : IsOrigin r.origin
  pub words : width r.format ≤ 64
  pub low : unsigned_abs r.low ≤ 2 ^ 63
  pub high : unsigned_abs r.high ≤ 2 ^ 63
