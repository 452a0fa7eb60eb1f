-- The text of a program's test, which is no part of the program: a main, under #ifdef, that runs
-- the program over inputs and compares its outputs.
use Rattle.std.specs.Prelude.{ℕ, List, [], ◌∷◌, ◌++◌, length, codes, ℤ, pos}
use Rattle.std.specs.Fmt.{signed_decimal}
use Rattle.std.specs.List.{flat_map, concat}
use Rattle.dsv_word.specs.declared.format.Format.{Format}
use Rattle.dsv_system.specs.Runs.{SampleRow}
use Rattle.dsv_c.specs.declared.c_type.CType.{CType}
use Rattle.dsv_c.specs.Programs.{word_type}
use Rattle.dsv_ctext.specs.Texts.{type_name}

-- ---- tables
abbrev pub entry_end : List ℕ
entry_end = codes "," ++ 10 ∷ []

abbrev pub entry_line : ℤ → List ℕ
entry_line word = concat (codes "    " ∷ signed_decimal word ∷ entry_end ∷ [])

abbrev pub input_line : SampleRow → List ℕ
input_line r = entry_line r.x

abbrev pub output_line : SampleRow → List ℕ
output_line r = entry_line r.y

abbrev pub head_end : List ℕ
head_end = codes "] = {" ++ 10 ∷ []

abbrev pub table_head : CType → List ℕ → ℕ → List ℕ
table_head word name many = concat (codes "static const " ∷ type_name word ∷ codes " " ∷ name
    ∷ codes "[" ∷ signed_decimal (pos many) ∷ head_end ∷ [])

abbrev pub table_end : List ℕ
table_end = codes "};" ++ 10 ∷ []

abbrev pub test_start : List ℕ
test_start = 10 ∷ (codes "#ifdef CONTROLLER_TEST" ++ 10 ∷ (codes "#include <stdio.h>"
    ++ 10 ∷ 10 ∷ []))

abbrev pub tables_text : CType → ℕ → List SampleRow → List ℕ
tables_text word many rows = test_start ++ (table_head word (codes "inputs") many
    ++ (flat_map input_line rows ++ (table_end ++ (table_head word (codes "outputs") many
    ++ (flat_map output_line rows ++ table_end)))))

-- ---- main
abbrev pub main_open : List ℕ
main_open = 10 ∷ (codes "int main(void)" ++ 10 ∷ (codes "{" ++ 10 ∷ codes "    "))

abbrev pub state_end : List ℕ
state_end = codes "_state s;" ++ 10 ∷ (codes "    int32_t k;" ++ 10 ∷ 10 ∷ codes "    ")

abbrev pub main_start : List ℕ → List ℕ
main_start prefix = concat (main_open ∷ prefix ∷ state_end ∷ [])

abbrev pub loop_start : List ℕ
loop_start = codes "_init(&s);" ++ 10 ∷ codes "    for (k = 0; k < "

abbrev pub loop_end : List ℕ
loop_end = codes "; ++k) {" ++ 10 ∷ codes "        const "

abbrev pub main_loop : List ℕ → ℕ → List ℕ
main_loop prefix many =
    concat (prefix ∷ loop_start ∷ signed_decimal (pos many) ∷ loop_end ∷ [])

abbrev pub step_call : List ℕ
step_call = codes "_step(&s, inputs[k]);" ++ 10 ∷ 10 ∷ (codes "        if (y != outputs[k]) {"
    ++ 10 ∷ [])

abbrev pub main_step : List ℕ → CType → List ℕ
main_step prefix word = concat (type_name word ∷ codes " y = " ∷ prefix ∷ step_call ∷ [])

abbrev pub main_end : List ℕ
main_end = codes "            printf(\"sample %ld: %lld in place of %lld\\n\", "
    ++ (codes "(long)k, (long long)y," ++ 10 ∷ (codes "                (long long)outputs[k]);"
    ++ 10 ∷ (codes "            return 1;" ++ 10 ∷ (codes "        }" ++ 10 ∷ (codes "    }"
    ++ 10 ∷ (codes "    return 0;" ++ 10 ∷ (codes "}" ++ 10 ∷ (codes "#endif" ++ 10 ∷ []))))))))

abbrev pub main_text : List ℕ → CType → ℕ → List ℕ
main_text prefix word many =
    main_start prefix ++ (main_loop prefix many ++ (main_step prefix word ++ main_end))

-- ---- the test of a program in this format, whose names begin so
abbrev pub test_text : Format → List ℕ → List SampleRow → List ℕ
test_text format prefix rows = tables_text (word_type format) (length rows) rows
    ++ main_text prefix (word_type format) (length rows)
