-- What a walk has to know of the groups in its order.
use Rattle.std.specs.Prelude.{◌≡◌, ℕ, ◌<◌, ◌≤◌, true, is_some, List}
use Rattle.std.specs.List.{list_all}
use Rattle.cnf_base.specs.declared.lit.Lit.{Lit}
use Rattle.cnf_base.specs.Clauses.{variables}
use Rattle.cnf_base.specs.Known.{Partial}
use Rattle.cnf_gate.specs.Built.{is_quiet, is_decided, is_filled}

-- where the formula is quiet each group is so as a clause, a literal of each then values every variable, each has a literal, and their variables are the formula's
pub record Guides (f gs : List (List Lit)) : Type 0 where
  pub stated : (p : Partial) → is_quiet p f ≡ true → is_quiet p gs ≡ true
  pub valued : (p : Partial) → is_decided p gs ≡ true → is_quiet p f ≡ true → (n : ℕ) → n < variables f → is_some (p n) ≡ true
  pub filled : list_all is_filled gs ≡ true
  pub within : variables gs ≤ variables f
