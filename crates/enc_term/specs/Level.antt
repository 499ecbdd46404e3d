-- What the groups of terms and reads mean at a level of the encoding.
use Rattle.std.specs.Prelude.{ℕ, List, slice_get}
use Rattle.asm_domain.specs.declared.value.Value.{Value}
use Rattle.asm_node.specs.Term.{World, Outcome, Places, read, calls_within}
use Rattle.asm_node.specs.Tree.{Tree}
use Rattle.asm_eval.specs.World.{value_by}
use Rattle.cnf_gate.specs.Built.{Built}
use Rattle.enc_group.specs.declared.group.Entry.{Entry}
use Rattle.enc_term.specs.declared.term.Level.{Level}
use Rattle.enc_term.specs.Can.{can_in, calls_can, read_can}
use Rattle.enc_term.specs.Small.{StaysSmallIn, IsOfCall, small_within}
use Rattle.enc_term.specs.Cycle.{TellsIn, IsGroupOf, machine_at}

-- which values a term may have
abbrev pub term_can : Level → Places → Tree → List Value
term_can level e t = can_in (machine_at level.context.now) level.left e t

-- the group means the term's value
abbrev pub TellsTerm : Built → Level → Places → Tree → List Entry → Type 0
TellsTerm b level e t g = TellsIn b level.context.now g (λ w. value_by w level.left e t)

-- the group has values that the term may have
abbrev pub IsGroupOfTerm : Built → Level → Places → Tree → List Entry → Type 0
IsGroupOfTerm b level e t g = IsGroupOf b (term_can level e t) g

-- operators stay small in the term
abbrev pub IsSmallTerm : Level → Places → Tree → Type 0
IsSmallTerm level e t = StaysSmallIn (machine_at level.context.now) level.left e t

-- what a function has at arguments
abbrev pub read_by : Level → ℕ → List Value → World → Outcome Value
read_by level f vs w = read w (calls_within w level.left) f (slice_get w.machine.signature.functions f) vs

-- which values a function may have at arguments of a list
abbrev pub reads_can : Level → ℕ → List (List Value) → List Value
reads_can level f vss = read_can (machine_at level.context.now) (calls_can (machine_at level.context.now) level.left) f (slice_get (machine_at level.context.now).signature.functions f) vss

-- the group means what the function has at arguments
abbrev pub TellsRead : Built → Level → ℕ → List Value → List Entry → Type 0
TellsRead b level f vs g = TellsIn b level.context.now g (read_by level f vs)

-- operators stay small in what the function has at arguments
abbrev pub IsSmallRead : Level → ℕ → List Value → Type 0
IsSmallRead level f vs = IsOfCall (machine_at level.context.now) (small_within (machine_at level.context.now) level.left) f (slice_get (machine_at level.context.now).signature.functions f) vs
