-- Serves private contracts: what keeps a sentence from being shown.
use Rattle.dsv_template.specs.declared.verdict.Why.{Why}
use Rattle.dsv_invariant.specs.declared.parts.Obstacle.{Obstacle}
use Rattle.dsv_invariant.specs.declared.parts.Obstacle.TheVariants as obstacle

abbrev pub IfFound : (Why → Type 0) → Obstacle → Type 0
IfFound P (obstacle.Found why) = P why
IfFound P obstacle.NoMemory = Unit {0}
