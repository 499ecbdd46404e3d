-- How much is left to do, where so many macro rules may be entered.
use Rattle.std.specs.Prelude.{ℕ, ◌+◌, ◌*◌, List, [], ◌∷◌}
use Rattle.asm_node.specs.Machine.{Machine, Macro}
use Rattle.asm_node.specs.RuleTree.{Rule, Rules, Skip, Update, Par, Seq, If, Let, Forall, Choose, Call, none, more}

abbrev mutual
  -- how many rules stand in a rule
  pub parts : Rule → ℕ
  parts (Skip place) = 1
  parts (Update place f ts t) = 1
  parts (Par place rs) = 1 + parts_all rs
  parts (Seq place p q) = 1 + parts p + parts q
  parts (If place g p q) = 1 + parts p + parts q
  parts (Let place x t p) = 1 + parts p
  parts (Forall place bs g p) = 1 + parts p
  parts (Choose place bs g p q) = 1 + parts p + parts q
  parts (Call place f ts) = 1

  pub parts_all : Rules → ℕ
  parts_all none = 0
  parts_all (more r rs) = parts r + parts_all rs

-- more than the body of any macro rule takes
abbrev pub macro_rooms : List Macro → ℕ
macro_rooms [] = 0
macro_rooms (m ∷ ms) = 4 + 8 * parts m.body + macro_rooms ms

abbrev pub taking : Machine → ℕ → ℕ → ℕ
taking m left n = left * macro_rooms m.rules + n
