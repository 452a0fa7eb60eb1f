-- Types of the reader that no item of its crate hands on, named by definitions over them.
use Rattle.dsv_reader.specs.Fields.{no_values}
use Rattle.dsv_reader.specs.Reading.{controller_from, plant_from}

-- the type of a term
abbrev pub type_of : {A : Type 0} → A → Type 0
type_of {A} x = A

-- the type over which a function is
abbrev pub argument_of : {A B : Type 0} → (A → B) → Type 0
argument_of {A} f = A

-- the values of a file's fields
abbrev pub Values : Type 0
Values = type_of no_values

-- the block that a plant's file has, with the fields that it has to have
abbrev pub System : Type 0
System = argument_of plant_from

-- the blocks that a controller's file has, with those that they have to have
abbrev pub Blocks : Type 0
Blocks = argument_of controller_from
