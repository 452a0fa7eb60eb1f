-- Names: The blocks of a controller file.
use Rattle.std.specs.Prelude.{ℕ, List, [], ◌∷◌, codes}
use Rattle.dsv_names.specs.declared.block.Block.{Block}
use Rattle.dsv_names.specs.declared.block.Block.TheVariants as block

abbrev pub block_name : Block → List ℕ
block_name block.System = codes "digital_system"
block_name block.Implementation = codes "implementation"
block_name block.Hardware = codes "hardware"

abbrev pub blocks : List Block
blocks = block.System ∷ block.Implementation ∷ block.Hardware ∷ []
