-- Texts with labels of the same contents are the same.
use Rattle.std.proofs.Common.{◌≡◌, ℕ, zero, suc, ◌+◌, Bool, true, false, List, [], ◌∷◌, ◌++◌, refl, ap, ◌∙◌}
use Rattle.std.specs.List.{flat_map}
use Rattle.dsv_c.specs.declared.c_type.CType.{CType}
use Rattle.dsv_c.specs.Syntax.{Expr, Constant, Local, Member, Cast, Times, Plus, Minus, Over, Mask, Flip, Choice, Call, Declaration, Store, Program}
use Rattle.dsv_ctext.specs.declared.names.Labels.{Labels}
use Rattle.dsv_ctext.specs.Texts.{code_text, local_name, member_name}
use Rattle.dsv_ctext.specs.ProgramTexts.{declarations_text, declaration_line, store_line, lines_from, member_line, struct_text, init_text, step_text}
use Rattle.dsv_ctext.specs.declared.remarks.Remarks.{Remarks}
use Rattle.dsv_ctext.specs.Comments.{title_text, step_remark}
use Rattle.dsv_ctext.specs.UnitTexts.{functions_text, unit_text, labels_of}

record Same (l m : Labels) : Type 0 where
  prefix : l.prefix.now ≡ m.prefix.now
  members : l.members.now ≡ m.members.now
  remarks : l.remarks ≡ m.remarks

member_same : (l m : Labels) → Same l m → (k : ℕ) → member_name l k ≡ member_name m k
member_same l m s k = rw s.members refl

local_same : (l m : Labels) → Same l m → (k : ℕ) → local_name l k ≡ local_name m k
local_same l m s zero = refl
local_same l m s (suc k) = rw s.members refl

code_same : (l m : Labels) → Same l m → (inner : Bool) (e : Expr) → code_text l inner e ≡ code_text m inner e
code_same l m s inner (Constant c) = refl
code_same l m s inner (Local k) = local_same l m s k
code_same l m s inner (Member k) = rw (member_same l m s k) refl
code_same l m s inner (Cast t e) = rw (code_same l m s true e) refl
code_same l m s inner (Times a b) = rw (code_same l m s true a, code_same l m s true b) refl
code_same l m s inner (Plus a b) = rw (code_same l m s true a, code_same l m s true b) refl
code_same l m s inner (Minus a b) = rw (code_same l m s true a, code_same l m s true b) refl
code_same l m s inner (Over e k) = rw (code_same l m s true e) refl
code_same l m s inner (Mask e k) = rw (code_same l m s true e) refl
code_same l m s inner (Flip e k) = rw (code_same l m s true e) refl
code_same l m s inner (Choice a b c d) = rw (code_same l m s true a, code_same l m s true b, code_same l m s true c, code_same l m s true d) refl
code_same l m s inner (Call h e) = rw (code_same l m s false e) refl

line_same : (l m : Labels) → Same l m → (k : ℕ) (d : Declaration) → declaration_line l k d ≡ declaration_line m k d
line_same l m s k d = rw (local_same l m s k, code_same l m s false d.value, s.remarks) refl

declarations_same : (l m : Labels) → Same l m → (k : ℕ) (ds : List Declaration) → declarations_text l k ds ≡ declarations_text m k ds
declarations_same l m s k [] = refl
declarations_same l m s k (d ∷ ds) =
    ap (λ (t : List ℕ). t ++ declarations_text l (k + 1) ds) (line_same l m s k d) ∙ ap (λ (t : List ℕ). declaration_line m k d ++ t) (declarations_same l m s (k + 1) ds)

stores_same : (l m : Labels) → Same l m → (xs : List Store) → flat_map (store_line l) xs ≡ flat_map (store_line m) xs
stores_same l m s [] = refl
stores_same l m s (x ∷ xs) = rw (member_same l m s x.member, code_same l m s false x.value, stores_same l m s xs) refl

members_same : (l m : Labels) → Same l m → (word : CType) (k n : ℕ) → lines_from (member_line l word) k n ≡ lines_from (member_line m word) k n
members_same l m s word k zero = refl
members_same l m s word k (suc n) = rw (member_same l m s k, members_same l m s word (k + 1) n) refl

struct_same : (l m : Labels) → Same l m → (word : CType) (many : ℕ) → struct_text l word many ≡ struct_text m word many
struct_same l m s word many = rw (members_same l m s word 0 many, s.prefix) refl

init_same : (l m : Labels) → Same l m → (many : ℕ) (p : Program) → init_text l many p ≡ init_text m many p
init_same l m s many p = rw (stores_same l m s p.start, s.prefix) refl

step_same : (l m : Labels) → Same l m → (many : ℕ) (p : Program) → step_text l many p ≡ step_text m many p
step_same l m s many p = rw (declarations_same l m s 1 p.locals, stores_same l m s p.stores, code_same l m s false p.value, s.prefix) refl

unit_same : (l m : Labels) → Same l m → (many : ℕ) (p : Program) → unit_text l many p ≡ unit_text m many p
unit_same l m s many p =
    joined (title_text l.remarks) (title_text m.remarks) (struct_text l p.word many) (struct_text m p.word many) (functions_text p) (init_text l many p) (init_text m many p) (10 ∷ step_remark l.remarks) (10 ∷ step_remark m.remarks)
    (step_text l many p) (step_text m many p) (ap title_text s.remarks) (struct_same l m s p.word many) (init_same l m s many p) (ap (λ (r : Remarks). 10 ∷ step_remark r) s.remarks) (step_same l m s many p)
  where
    joined : (a b c d f g h i j v w : List ℕ) → a ≡ b → c ≡ d → g ≡ h → i ≡ j → v ≡ w → a ++ (c ++ (f ++ (g ++ (i ++ v)))) ≡ b ++ (d ++ (f ++ (h ++ (j ++ w))))
    joined a b c d f g h i j v w q r s t u = rw (q, r, s, t, u) refl

-- as if the labels lay elsewhere
pub unit_elsewhere : (l : Labels) (many : ℕ) (p : Program) → unit_text (labels_of l.prefix.now l.members.now l.remarks) many p ≡ unit_text l many p
unit_elsewhere l many p = unit_same (labels_of l.prefix.now l.members.now l.remarks) l (record { prefix = refl; members = refl; remarks = refl }) many p
