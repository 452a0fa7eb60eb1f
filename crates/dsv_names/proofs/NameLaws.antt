-- What a name finds has the name, and each value is found by its own.
use Rattle.std.proofs.Common.{◌≡◌, ℕ, List, [], ◌∷◌, Some, Bool, true, false, if◌then◌else◌, refl, sym, ap, ◌∙◌, Decides}
use Rattle.std.specs.Str.{bytes_eq}
use Rattle.std.proofs.lemmas.Slice.Eq.{bytes_eq-Decides}
use Rattle.dsv_names.specs.Names.{value_named, AreNames}
use Rattle.dsv_names.specs.Blocks.{block_name, blocks}
use Rattle.dsv_names.specs.declared.block.Block.{Block}
use Rattle.dsv_names.specs.declared.block.Block.TheVariants as block
use Rattle.dsv_names.specs.Fields.{field_name, fields}
use Rattle.dsv_names.specs.declared.field.Field.{Field}
use Rattle.dsv_names.specs.declared.field.Field.TheVariants as field
use Rattle.dsv_names.specs.ListNames.{list_name, list_names}
use Rattle.dsv_names.specs.declared.list_name.ListName.{ListName}
use Rattle.dsv_names.specs.declared.list_name.ListName.TheVariants as list
use Rattle.dsv_names.specs.OverflowModes.{overflow_mode_name, overflow_modes}
use Rattle.dsv_names.specs.declared.overflow_mode.OverflowMode.{OverflowMode}
use Rattle.dsv_names.specs.declared.overflow_mode.OverflowMode.TheVariants as overflow_mode
use Rattle.dsv_names.specs.Properties.{property_name, properties}
use Rattle.dsv_names.specs.declared.property.RunProperty.TheVariants as run
use Rattle.dsv_names.specs.declared.property.RootProperty.TheVariants as root
use Rattle.dsv_names.specs.declared.property.Property.{Property}
use Rattle.dsv_names.specs.declared.property.Property.TheVariants as property
use Rattle.dsv_names.specs.Realisations.{realisation_name, realisations}
use Rattle.dsv_names.specs.declared.realisation.Realisation.{Realisation}
use Rattle.dsv_names.specs.declared.realisation.Realisation.TheVariants as realisation
use Rattle.dsv_names.specs.Roundings.{rounding_name, roundings}
use Rattle.dsv_names.specs.declared.rounding.Rounding.{Rounding}
use Rattle.dsv_names.specs.declared.rounding.Rounding.TheVariants as rounding
use Rattle.dsv_names.specs.Settings.{setting_name, settings}
use Rattle.dsv_names.specs.declared.setting.Setting.{Setting}
use Rattle.dsv_names.specs.declared.setting.Setting.TheVariants as setting
use Rattle.dsv_names.specs.Wants.{wanted_name, wants}
use Rattle.dsv_names.specs.declared.want.Wanted.{Wanted}
use Rattle.dsv_names.specs.declared.want.Wanted.TheVariants as wanted

-- the first value is found, or the others are searched
found_at : {A : Type 0} (name : A → List ℕ) (w : A) (ws : List A) (text : List ℕ) (v : A) →
    (value_named name ws text ≡ Some v → text ≡ name v) →
    (b : Bool) → Decides b (name w ≡ text) → (if b then Some w else value_named name ws text) ≡ Some v → text ≡ name v
found_at name w ws text v later true same found = let h : w ≡ v = cc in sym (same.0 refl) ∙ ap name h
found_at name w ws text v later false same found = later found

pub name-named : {A : Type 0} (name : A → List ℕ) (values : List A) (text : List ℕ) (v : A) → value_named name values text ≡ Some v → text ≡ name v
name-named name [] text v e = cc
name-named name (w ∷ ws) text v e =
    found_at name w ws text v (name-named name ws text v) (bytes_eq (name w) text) (bytes_eq-Decides (name w) text) e

named-realisation_name : (v : Realisation) → value_named realisation_name realisations (realisation_name v) ≡ Some v
named-realisation_name realisation.Dfi = refl
named-realisation_name realisation.Dfii = refl
named-realisation_name realisation.Tdfii = refl
named-realisation_name realisation.Ddfi = refl
named-realisation_name realisation.Ddfii = refl
named-realisation_name realisation.Tddfii = refl

pub are_names-realisations : AreNames realisation_name realisations
are_names-realisations = record { found = named-realisation_name; only = name-named realisation_name realisations }

named-rounding_name : (v : Rounding) → value_named rounding_name roundings (rounding_name v) ≡ Some v
named-rounding_name rounding.Floor = refl
named-rounding_name rounding.Ceil = refl
named-rounding_name rounding.Nearest = refl

pub are_names-roundings : AreNames rounding_name roundings
are_names-roundings = record { found = named-rounding_name; only = name-named rounding_name roundings }

named-overflow_mode_name : (v : OverflowMode) → value_named overflow_mode_name overflow_modes (overflow_mode_name v) ≡ Some v
named-overflow_mode_name overflow_mode.Wrap = refl
named-overflow_mode_name overflow_mode.Saturate = refl

pub are_names-overflow_modes : AreNames overflow_mode_name overflow_modes
are_names-overflow_modes = record { found = named-overflow_mode_name; only = name-named overflow_mode_name overflow_modes }

named-property_name : (v : Property) → value_named property_name properties (property_name v) ≡ Some v
named-property_name (property.OfRuns run.Overflow) = refl
named-property_name (property.OfRuns run.LimitCycle) = refl
named-property_name (property.OfRoots root.Stability) = refl
named-property_name (property.OfRoots root.MinimumPhase) = refl
named-property_name property.Timing = refl

pub are_names-properties : AreNames property_name properties
are_names-properties = record { found = named-property_name; only = name-named property_name properties }

named-block_name : (v : Block) → value_named block_name blocks (block_name v) ≡ Some v
named-block_name block.System = refl
named-block_name block.Implementation = refl
named-block_name block.Hardware = refl

pub are_names-blocks : AreNames block_name blocks
are_names-blocks = record { found = named-block_name; only = name-named block_name blocks }

named-field_name : (v : Field) → value_named field_name fields (field_name v) ≡ Some v
named-field_name field.B = refl
named-field_name field.A = refl
named-field_name field.BSize = refl
named-field_name field.ASize = refl
named-field_name field.SampleTime = refl
named-field_name field.IntBits = refl
named-field_name field.FracBits = refl
named-field_name field.Max = refl
named-field_name field.Min = refl
named-field_name field.Delta = refl
named-field_name field.Wide = refl

pub are_names-fields : AreNames field_name fields
are_names-fields = record { found = named-field_name; only = name-named field_name fields }

named-setting_name : (v : Setting) → value_named setting_name settings (setting_name v) ≡ Some v
named-setting_name setting.Clock = refl
named-setting_name setting.CostSample = refl
named-setting_name setting.CostMul = refl
named-setting_name setting.CostAdd = refl
named-setting_name setting.CostRound = refl
named-setting_name setting.CostFit = refl
named-setting_name setting.CostMoves = refl

pub are_names-settings : AreNames setting_name settings
are_names-settings = record { found = named-setting_name; only = name-named setting_name settings }

named-list_name : (v : ListName) → value_named list_name list_names (list_name v) ≡ Some v
named-list_name list.B = refl
named-list_name list.A = refl
named-list_name list.Delta = refl
named-list_name list.Min = refl
named-list_name list.Max = refl

pub are_names-list_names : AreNames list_name list_names
are_names-list_names = record { found = named-list_name; only = name-named list_name list_names }

named-wanted_name : (v : Wanted) → value_named wanted_name wants (wanted_name v) ≡ Some v
named-wanted_name wanted.Declaration = refl
named-wanted_name wanted.Name = refl
named-wanted_name wanted.Equals = refl
named-wanted_name wanted.Open = refl
named-wanted_name wanted.FieldOrClose = refl
named-wanted_name wanted.FieldName = refl
named-wanted_name wanted.Number = refl
named-wanted_name wanted.NumberOrClose = refl
named-wanted_name wanted.CommaOrClose = refl
named-wanted_name wanted.Value = refl
named-wanted_name wanted.Close = refl
named-wanted_name wanted.Semicolon = refl

pub are_names-wants : AreNames wanted_name wants
are_names-wants = record { found = named-wanted_name; only = name-named wanted_name wants }

pub ruleset name_laws = (are_names-realisations, are_names-roundings, are_names-overflow_modes, are_names-properties, are_names-blocks, are_names-fields, are_names-settings, are_names-list_names, are_names-wants)
