-- What some literals that were made true say of the other literals.
use Rattle.std.specs.Prelude.{◌≡◌, ℕ, ◌<◌, Bool, false, not, ◌==◌, if◌then◌else◌, Option, Some, None, List, [], ◌∷◌, length, slice_index_or, take}
use Rattle.std.specs.Bool.{beq}
use Rattle.cnf_base.specs.declared.lit.Lit.{Lit}

-- a partial assignment: the values of some variables
abbrev pub Partial : Type 0
Partial = ℕ → Option Bool

-- the values that make these literals true; of two literals of one variable the first counts
abbrev pub value_of : List Lit → Partial
value_of [] n = None
value_of (l ∷ ls) n = if l.var == n then Some l.positive else value_of ls n

-- whether a value is there and is this one
abbrev pub is_value : Option Bool → Bool → Bool
is_value None b = false
is_value (Some x) b = beq x b

abbrev pub is_true : Partial → Lit → Bool
is_true p l = is_value (p l.var) l.positive

abbrev pub is_false : Partial → Lit → Bool
is_false p l = is_value (p l.var) (not l.positive)

-- the partial assignment in which this literal is true too
abbrev pub made_true : Partial → Lit → Partial
made_true p l n = if l.var == n then Some l.positive else p n

-- what contracts see of a trail: the literals that were made true, in order, and how many variables it has room for
pub record Known : Type 0 where
  pub lits : List Lit
  pub size : ℕ

-- the table has the values that the literals give, and no two literals have one variable
pub record IsTold (values : List (Option Bool)) (lits : List Lit) : Type 0 where
  pub told : (n : ℕ) → n < length values → slice_index_or values n None ≡ value_of lits n
  pub fresh : (i : ℕ) (d : Lit) → i < length lits → value_of (take i lits) (slice_index_or lits i d).var ≡ None
  pub within : (i : ℕ) (d : Lit) → i < length lits → (slice_index_or lits i d).var < length values
