-- The lines of a function's body are read as that body.
use Rattle.std.proofs.Common.{◌≡◌, ℕ, ◌+◌, ◌<◌, ◌≤◌, Bool, true, List, [], ◌∷◌, ◌++◌, length, refl, sym, ap, ◌∙◌, arith}
use Rattle.std.specs.Prelude.{Some, None, option_map, if◌then◌else◌}
use Rattle.std.specs.List.{All}
use Rattle.std.specs.Option.{option_and_then}
use Rattle.std.proofs.lemmas.List.Elements.{All-head, All-tail}
use Rattle.std.proofs.Math.Numerals.{add-one}
use Rattle.dsv_c.specs.declared.c_type.CType.{CType}
use Rattle.dsv_c.specs.declared.c_type.CType.TheVariants.{Int, Int32, Int64}
use Rattle.dsv_c.specs.Syntax.{Expr, Declaration, Store}
use Rattle.dsv_ctext.specs.Texts.{type_name}
use Rattle.dsv_c_reading.specs.Bodies.{is_new, NamedLocal, declaration_of, store_of, Body, with_local, with_store, body_of, scope_with, stores_of}
use Rattle.dsv_c_reading.specs.Expressions.{Scope, type_named, expr_of}
use Rattle.dsv_c_reading.proofs.Readable.{AreReadable, IsReadableStore}
use Rattle.dsv_c_reading.proofs.Spelled.{expr_lexemes, local_line, local_lines, stored_line, stored_lines, return_line}
use Rattle.dsv_c_reading.proofs.ParseExpressions.{IsNamed, AreNamesOf}
use Rattle.dsv_c_reading.proofs.ReadExpressions.{named, expr_read}
use Rattle.dsv_c_reading.proofs.ParseNames.{first_names, AreDifferent, is_new_from, new_name, IsLocalName, names_are}

pub type_read : (t : CType) → type_named (type_name t) ≡ Some t
type_read Int = refl
type_read Int32 = refl
type_read Int64 = refl

-- the values of locals, before which n stand
abbrev pub AreNamed : ℕ → ℕ → List Declaration → Type 0
AreNamed n m [] = Unit {0}
AreNamed n m (d ∷ ds) = IsNamed n m d.value × AreNamed (n + 1) m ds

pub are_named : (n m : ℕ) (ds : List Declaration) → AreReadable n m ds → AreNamed n m ds
are_named n m [] h = tt
are_named n m (d ∷ ds) h = (named n m d.value h.0, are_named (n + 1) m ds h.1)

-- ---- the names in a body
-- names of n locals and of m members, which may be declared
pub record MayBeDeclared (local member : ℕ → List ℕ) (n m : ℕ) : Type 0 where
  pub locals : AreDifferent local n
  pub free : (k : ℕ) → k < n → IsLocalName (local k)
  pub members : AreDifferent member m

abbrev pub scope_of : (ℕ → List ℕ) → (ℕ → List ℕ) → ℕ → ℕ → Scope
scope_of local member k m = record { locals = first_names local k; members = first_names member m }

module _ (local member : ℕ → List ℕ) (n m : ℕ) (names : MayBeDeclared local member n m) where
  names_at : (k : ℕ) → k ≤ n → AreNamesOf (scope_of local member k m) local member k m
  names_at k h = names_are (scope_of local member k m) local member k m refl refl (record { is = λ i j l o. names.locals.is i j l (omega arith) }) names.members (λ j l. names.free j (omega arith))

  -- ---- stores
  abbrev record_of : ℕ → Expr → Store
  record_of j e = record { member = j; value = e }

  store_read : (k : ℕ) (s : Store) → k ≤ n → IsReadableStore k m s → store_of (scope_of local member k m) (stored_line local member s) ≡ Some s
  store_read k s h r =
      let scope = scope_of local member k m in
      ap (option_and_then (λ (j : ℕ). option_map (λ (e : Expr). record_of j e) (expr_of scope (expr_lexemes local member s.value)))) ((names_at k h).members s.member r.member)
      ∙ ap (option_map (λ (e : Expr). record_of s.member e)) (expr_read scope local member k m s.value (names_at k h) (named k m s.value r.value))

  pub stores_read : (k : ℕ) (ss : List Store) → k ≤ n → All (IsReadableStore k m) ss → stores_of (scope_of local member k m) (stored_lines local member ss) ≡ Some ss
  stores_read k [] h r = refl
  stores_read k (s ∷ ss) h r =
      let scope = scope_of local member k m in
      ap (option_and_then (λ (x : Store). option_map (λ (xs : List Store). x ∷ xs) (stores_of scope (stored_lines local member ss)))) (store_read k s h (All-head (IsReadableStore k m) s ss r))
      ∙ ap (option_map (λ (xs : List Store). s ∷ xs)) (stores_read k ss h (All-tail (IsReadableStore k m) s ss r))

  -- ---- bodies
  abbrev body : List Declaration → List Store → Expr → Body
  body ds ss e = record { locals = ds; stores = ss; value = e }

  -- stores, and then the value
  rest_read : (k : ℕ) (ss : List Store) (e : Expr) → k ≤ n → All (IsReadableStore k m) ss → IsNamed k m e → body_of (scope_of local member k m) (stored_lines local member ss ++ return_line local member e ∷ []) ≡ Some (body [] ss e)
  rest_read k [] e h r p = ap (option_map (λ (x : Expr). body [] [] x)) (expr_read (scope_of local member k m) local member k m e (names_at k h) p)
  rest_read k (s ∷ ss) e h r p =
      let scope = scope_of local member k m in
      let lines = stored_lines local member ss ++ return_line local member e ∷ [] in
      ap (option_and_then (λ (x : Store). option_and_then (with_store x) (body_of scope lines))) (store_read k s h (All-head (IsReadableStore k m) s ss r))
      ∙ ap (option_and_then (with_store s)) (rest_read k ss e h (All-tail (IsReadableStore k m) s ss r) p)

  new_local : (k : ℕ) → k < n → is_new (local k) (first_names local k) ≡ true
  new_local k h = is_new_from (local k) (first_names local k) (names.free k h).free (new_name local n k names.locals h)

  abbrev named_local : ℕ → CType → Expr → NamedLocal
  named_local k t e = record { name = local k; declaration = record { type = t; value = e } }

  declaration_read : (k : ℕ) (d : Declaration) → k < n → IsNamed k m d.value → declaration_of (scope_of local member k m) (local_line local member k d) ≡ Some (named_local k d.type d.value)
  declaration_read k d h p =
      let scope = scope_of local member k m in
      let value = expr_lexemes local member d.value in
      ap (λ (b : Bool). if b then option_and_then (λ (t : CType). option_map (named_local k t) (expr_of scope value)) (type_named (type_name d.type)) else None) (new_local k h)
      ∙ (ap (option_and_then (λ (t : CType). option_map (named_local k t) (expr_of scope value))) (type_read d.type)
      ∙ ap (option_map (named_local k d.type)) (expr_read scope local member k m d.value (names_at k (omega arith)) p))

  pub body_read : (k : ℕ) (ds : List Declaration) (ss : List Store) (e : Expr) → k + length ds ≡ n → AreNamed k m ds → All (IsReadableStore n m) ss → IsNamed n m e
      → body_of (scope_of local member k m) (local_lines local member k ds ++ (stored_lines local member ss ++ return_line local member e ∷ [])) ≡ Some (body ds ss e)
  body_read k [] ss e h a r p = let s : k ≡ n = omega arith in rw s (rest_read n ss e (omega arith) r p)
  body_read k (d ∷ ds) ss e h a r p =
      let lines = local_lines local member (k + 1) ds ++ (stored_lines local member ss ++ return_line local member e ∷ []) in
      ap (option_and_then (λ (x : NamedLocal). option_map (with_local x.declaration) (body_of (scope_with (scope_of local member k m) x.name) lines))) (declaration_read k d (omega arith) a.0)
      ∙ (ap (λ (j : ℕ). option_map (with_local d) (body_of (scope_of local member j m) lines)) (sym (add-one k))
      ∙ ap (option_map (with_local d)) (body_read (k + 1) ds ss e (omega arith) a.1 r p))
