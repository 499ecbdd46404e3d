-- The free variables of terms.
use Rattle.std.specs.Prelude.{◌≡◌, ℕ, Bool as Truth, true, false, not, ◌&&◌, ◌||◌, nat_eq, List}
use Rattle.std.specs.List.{list_any}
use Rattle.asm_node.specs.declared.term.Binder.{Binder}
use Rattle.asm_node.specs.Tree.{Tree, Const, Var, Within, Get, Oper, Cond, Let, Quant, Trees, none, more}
use Rattle.asm_node.specs.Term.{Reads}

-- one of the binders has the variable
abbrev pub is_bound : ℕ → List Binder → Truth
is_bound y bs = list_any (λ b. nat_eq b.variable y) bs

abbrev mutual
  -- a variable is free where it stands outside the terms in which a `let` or a quantifier binds it
  pub is_free : ℕ → Tree → Truth
  is_free y (Const v) = false
  is_free y (Var x) = nat_eq x y
  is_free y (Within d t) = is_free y t
  is_free y (Get f ts) = is_free_in y ts
  is_free y (Oper o ts) = is_free_in y ts
  is_free y (Cond g t u) = is_free y g || (is_free y t || is_free y u)
  is_free y (Let x t u) = is_free y t || (not (nat_eq x y) && is_free y u)
  is_free y (Quant q bs g) = not (is_bound y bs) && is_free y g

  pub is_free_in : ℕ → Trees → Truth
  is_free_in y none = false
  is_free_in y (more t ts) = is_free y t || is_free_in y ts

-- the free variables of the term read alike
abbrev pub ReadAlike : Tree → Reads → Reads → Type 0
ReadAlike t reads other = (y : ℕ) → is_free y t ≡ true → reads y ≡ other y
