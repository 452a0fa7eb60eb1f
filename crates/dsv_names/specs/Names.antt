-- Values that have names.
use Rattle.std.specs.Prelude.{◌≡◌, ℕ, List, Option, Some, find}
use Rattle.std.specs.Str.{bytes_eq}

-- the first of these values that has the name
abbrev pub value_named : {A : Type 0} → (A → List ℕ) → List A → List ℕ → Option A
value_named name values text = find (λ v. bytes_eq (name v) text) values

-- Each value is found by its name, and a text that finds a value is its name.
pub record AreNames {A : Type 0} (name : A → List ℕ) (values : List A) : Type 0 where
  pub found : (v : A) → value_named name values (name v) ≡ Some v
  pub only : (text : List ℕ) (v : A) → value_named name values text ≡ Some v → text ≡ name v
