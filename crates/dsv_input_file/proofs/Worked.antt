-- Texts, and the inputs that they give, worked by hand.
use Rattle.std.proofs.Common.{◌≡◌, [], ◌∷◌, Ok, Err, codes, refl}
use Rattle.std.specs.Prelude.{pos, negsuc}
use Rattle.dsv_input_file.specs.InputTexts.{inputs_in}
use Rattle.dsv_input_file.specs.declared.refusal.InputsRefusal.TheVariants as refusal

three_numbers : inputs_in (codes " ,1,,-2\r\n\t007") ≡ Ok (pos 1 ∷ negsuc 1 ∷ pos 7 ∷ [])
three_numbers = refl

blanks_alone : inputs_in (codes " ,\n") ≡ Err refusal.NoNumbers
blanks_alone = refl

third_line : inputs_in (codes "1\n2\n3-\nx") ≡ Err (refusal.Number 3)
third_line = refl

sixteen_digits : inputs_in (codes "1000000000000000 x") ≡ Err (refusal.Number 1)
sixteen_digits = refl
