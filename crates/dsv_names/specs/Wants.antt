-- Names: What the grammar of controller files wants at a place.
use Rattle.std.specs.Prelude.{ℕ, List, [], ◌∷◌, codes}
use Rattle.dsv_names.specs.declared.want.Wanted.{Wanted}
use Rattle.dsv_names.specs.declared.want.Wanted.TheVariants as wanted

abbrev pub wanted_name : Wanted → List ℕ
wanted_name wanted.Declaration = codes "DECLARATION"
wanted_name wanted.Name = codes "NAME"
wanted_name wanted.Equals = codes "EQUALS"
wanted_name wanted.Open = codes "OPEN"
wanted_name wanted.FieldOrClose = codes "FIELD_OR_CLOSE"
wanted_name wanted.FieldName = codes "FIELD_NAME"
wanted_name wanted.Number = codes "NUMBER"
wanted_name wanted.NumberOrClose = codes "NUMBER_OR_CLOSE"
wanted_name wanted.CommaOrClose = codes "COMMA_OR_CLOSE"
wanted_name wanted.Value = codes "VALUE"
wanted_name wanted.Close = codes "CLOSE"
wanted_name wanted.Semicolon = codes "SEMICOLON"

abbrev pub wants : List Wanted
wants = wanted.Declaration ∷ wanted.Name ∷ wanted.Equals ∷ wanted.Open ∷ wanted.FieldOrClose
    ∷ wanted.FieldName ∷ wanted.Number ∷ wanted.NumberOrClose ∷ wanted.CommaOrClose ∷ wanted.Value
    ∷ wanted.Close ∷ wanted.Semicolon ∷ []
