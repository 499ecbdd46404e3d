-- How much stands in terms and in what variables stand for: evaluation ends since it falls.
use Rattle.std.specs.Prelude.{ℕ, ◌+◌, ◌*◌, ◌≤◌, ⊤, length}
use Rattle.asm_node.specs.declared.env.Env.{Env}
use Rattle.asm_node.specs.declared.env.Entries.{Entries}
use Rattle.asm_node.specs.declared.env.Entries as entries
use Rattle.asm_node.specs.declared.env.Binding.{Binding}
use Rattle.asm_node.specs.declared.env.Binding.TheVariants as bound
use Rattle.asm_node.specs.Tree.{Tree, Const, Var, Within, Get, Oper, Cond, Let, Quant, Trees, none, more, plain}

abbrev mutual
  -- the number of a term's nodes
  pub nodes : Tree → ℕ
  nodes (Const v) = 1
  nodes (Var x) = 1
  nodes (Within d t) = 1 + nodes t
  nodes (Get f ts) = 1 + nodes_all ts
  nodes (Oper o ts) = 1 + nodes_all ts
  nodes (Cond g t u) = 1 + nodes g + nodes t + nodes u
  nodes (Let x t u) = 1 + nodes t + nodes u
  nodes (Quant q bs g) = 1 + length bs + nodes g

  pub nodes_all : Trees → ℕ
  nodes_all none = 0
  nodes_all (more t ts) = nodes t + nodes_all ts

-- an entry, and the terms behind it
abbrev pub weight_in : Entries → ℕ
weight_in entries.Empty = 0
weight_in (entries.Value' x v _ rest) = 1 + weight_in rest
weight_in (entries.Node' x t _ rest) = 2 + 4 * nodes (plain t.value) + weight_in rest
weight_in (entries.Actual' x d t _ caller _ rest) = 2 + 4 * nodes (plain t.value) + weight_in caller + weight_in rest

abbrev pub weight_of : Env → ℕ
weight_of env = weight_in env.entries

-- what a variable stands for, with the terms behind it, weighs less than all entries
abbrev pub IsLighter : ℕ → Binding → Type 0
IsLighter weight bound.Free = ⊤
IsLighter weight (bound.Value v) = ⊤
IsLighter weight (bound.Node t) = 2 + 4 * nodes (plain t.value) ≤ weight
IsLighter weight (bound.Actual d t caller) = 2 + 4 * nodes (plain t.value) + weight_of caller ≤ weight
