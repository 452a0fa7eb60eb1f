-- The part of C99 that controllers are written in, as abstract syntax. Numbers in parentheses are
-- sections of ISO/IEC 9899:1999.
use Rattle.std.specs.Prelude.{ℕ, List, ℤ}
use Rattle.dsv_c.specs.declared.c_type.CType.{CType}

-- which helper function, for values of this type: the one that divides by 2^frac_bits and rounds,
-- or the one that gives a word
pub data Helper : Type 0 where
  Rounded : CType → Helper
  Fitted : CType → Helper

-- An expression. Locals are numbered in the order in which they are declared, and local 0 is the
-- function's parameter.
pub data Expr : Type 0 where
  -- a decimal constant (6.4.4.1), after a unary minus (6.5.3.3) if it is below 0
  Constant : ℤ → Expr
  Local : ℕ → Expr
  -- s->name (6.5.2.3)
  Member : ℕ → Expr
  -- (type)e (6.5.4)
  Cast : CType → Expr → Expr
  -- a * b (6.5.5), a + b and a - b (6.5.6)
  Times : Expr → Expr → Expr
  Plus : Expr → Expr → Expr
  Minus : Expr → Expr → Expr
  -- e / d, where d is 2^k (6.5.5)
  Over : Expr → ℕ → Expr
  -- e & m, where m is 2^k - 1 (6.5.10)
  Mask : Expr → ℕ → Expr
  -- e ^ d, where d is 2^k (6.5.11)
  Flip : Expr → ℕ → Expr
  -- a < b ? c : d (6.5.8, 6.5.15)
  Choice : Expr → Expr → Expr → Expr → Expr
  -- name(e) (6.5.2.2)
  Call : Helper → Expr → Expr

-- const type name = value; (6.7.8)
pub record Declaration : Type 0 where
  pub type : CType
  pub value : Expr

-- s->name = value; (6.5.16.1)
pub record Store : Type 0 where
  pub member : ℕ
  pub value : Expr

-- static result name(parameter v) { locals; return value; } (6.8.6.4, 6.9.1)
pub record Function : Type 0 where
  pub parameter : CType
  pub locals : List Declaration
  pub value : Expr
  pub result : CType

-- a helper function under its name
pub record NamedFunction : Type 0 where
  pub name : Helper
  pub function : Function

-- The members of a struct, all of type `word`; helper functions; and
-- void init(state *s) { start }
-- word step(state *s, word x) { locals; stores; return value; }
pub record Program : Type 0 where
  pub word : CType
  pub functions : List NamedFunction
  pub start : List Store
  pub locals : List Declaration
  pub stores : List Store
  pub value : Expr
