-- The names in a program's text are words.
use Rattle.std.proofs.Common.{◌≡◌, ℕ, zero, suc, ◌-◌, ◌^◌, ◌<◌, ◌≤◌, Bool, true, false, List, [], ◌∷◌, ◌++◌, length, Option, Some, None, decimal, refl, ◌∙◌, arith}
use Rattle.std.specs.Prelude.{codes, slice_index_or, if◌then◌else◌, nat_lt}
use Rattle.std.specs.List.{list_all}
use Rattle.std.proofs.lemmas.Bool.{and_from}
use Rattle.std.proofs.lemmas.Bool.Decides.{nat_tests}
use Rattle.std.proofs.lemmas.List.Folds.{list_all-append}
use Rattle.dsv_text.specs.Bytes.{is_letter}
use Rattle.dsv_ctext.specs.Texts.{section_text, member_text, member_name, no_member, local_name}
use Rattle.dsv_ctext.specs.HelperTexts.{helper_local}
use Rattle.dsv_ctext.specs.declared.names.Labels.{Labels}
use Rattle.dsv_ctext.specs.declared.names.MemberName.{MemberName}
use Rattle.dsv_c_reading.specs.Labels.{IsIdentifier, IsSection, IsMember, AreMembers}
use Rattle.dsv_c_reading.specs.Lexemes.{is_word_byte}
use Rattle.dsv_c_reading.proofs.LexWords.{IsWord, word_is, longer_word, identifier_word, decimal_bytes}

-- ---- members
number_bytes : (n : ℕ) → n < 2 ^ 32 → list_all is_word_byte (decimal n) ≡ true
number_bytes n h = decimal_bytes n (omega arith)

lower_letter : (b : ℕ) → 97 ≤ b → b ≤ 122 → is_letter b ≡ true
lower_letter b h k = grind (arith, nat_tests)

-- a letter, `_` and a number
ending_word : (letter n : ℕ) → 97 ≤ letter → letter ≤ 122 → n < 2 ^ 32 → IsWord (letter ∷ codes "_" ++ decimal n)
ending_word letter n h k small = word_is letter (codes "_" ++ decimal n) (lower_letter letter h k) (number_bytes n small)

after_section : (section : Option ℕ) (w : List ℕ) → IsSection section → IsWord w → IsWord (section_text section ++ w)
after_section None w h t = t
after_section (Some n) w h t = longer_word (codes "s" ++ decimal n ++ codes "_") w (word_is 115 (decimal n ++ codes "_") refl (list_all-append is_word_byte (decimal n) (codes "_") ∙ and_from (list_all is_word_byte (decimal n)) true (number_bytes n h) refl)) t.bytes

member_word : (m : MemberName) → IsMember m → IsWord (member_text m)
member_word m h = after_section m.section (m.letter ∷ codes "_" ++ decimal m.number) h.section (ending_word m.letter m.number h.least h.greatest h.number)

pub member_name_word : (names : Labels) (k : ℕ) → AreMembers names.members.now → k < length names.members.now → IsWord (member_name names k)
member_name_word names k h l = member_word (slice_index_or names.members.now k no_member) (h.each k no_member l)

-- ---- locals
value_word : (n : ℕ) → n < 2 ^ 33 → IsWord (codes "value_" ++ decimal n)
value_word n h = word_is 118 (codes "alue_" ++ decimal n) refl (decimal_bytes n (omega arith))

local_after : (names : Labels) (k : ℕ) (b : Bool) → nat_lt k (length names.members.now) ≡ b → AreMembers names.members.now → k < 2 ^ 33 → IsWord (if b then member_name names k else codes "value_" ++ decimal (k - length names.members.now))
local_after names k true e h l = member_name_word names k h (grind (arith, nat_tests))
local_after names k false e h l = value_word (k - length names.members.now) (omega arith)

pub local_name_word : (names : Labels) (k : ℕ) → AreMembers names.members.now → k < 2 ^ 33 → IsWord (local_name names k)
local_name_word names zero h l = word_is 120 [] refl refl
local_name_word names (suc k) h l = local_after names k (nat_lt k (length names.members.now)) refl h (omega arith)

pub helper_local_word : (k : ℕ) → IsWord (helper_local k)
helper_local_word zero = word_is 118 [] refl refl
helper_local_word (suc k) = word_is 116 [] refl refl

-- ---- the prefix
pub prefixed : (names : Labels) (end : List ℕ) → IsIdentifier names.prefix.now → list_all is_word_byte end ≡ true → IsWord (names.prefix.now ++ end)
prefixed names end h e = longer_word names.prefix.now end (identifier_word names.prefix.now h) e
