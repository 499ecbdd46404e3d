-- The weight of an instance of a term: what its gates may cost at most, in units.
use Rattle.std.specs.Prelude.{ℕ, ◌+◌, ◌*◌, Option, Some, None, length, slice_get, if◌then◌else◌}
use Rattle.asm_sign.specs.declared.function.Function.{Function}
use Rattle.asm_sign.specs.Kind.{is_dynamic}
use Rattle.asm_sign.specs.Arguments.{elements_at}
use Rattle.asm_node.specs.Tree.{Tree, Const, Var, Within, Get, Oper, Cond, Let, Quant, Trees, none, more}
use Rattle.asm_node.specs.Machine.{Machine, tuples_of}
use Rattle.asm_node.specs.Term.{Places}
use Rattle.enc_term.specs.Can.{width}

-- how many combinations of values terms may have
abbrev pub widths : Machine → Places → Trees → ℕ
widths m e none = 1
widths m e (more t ts) = width m e t * widths m e ts

-- what a read costs for each combination of its arguments
abbrev pub read_weight : Machine → Option Function → ℕ → ℕ
read_weight m (Some f) w = if is_dynamic f.kind then length (elements_at m.signature.domains f.codomain) + 2 else w + 1
read_weight m None w = w + 1

-- the weight of the instance alone; its parts are instances of their own
abbrev pub term_weight : Machine → Places → Tree → ℕ
term_weight m e (Const v) = width m e (Const v)
term_weight m e (Var x) = width m e (Var x)
term_weight m e (Within d t) = width m e (Within d t)
term_weight m e (Get f ts) = widths m e ts * read_weight m (slice_get m.signature.functions f) (width m e (Get f ts))
term_weight m e (Oper o ts) = widths m e ts + width m e (Oper o ts)
term_weight m e (Cond g t u) = width m e g + width m e t + width m e u + width m e (Cond g t u)
term_weight m e (Let x t u) = width m e t * (width m e (Let x t u) + 1)
term_weight m e (Quant q bs g) = 4 * length (tuples_of m.signature bs)
