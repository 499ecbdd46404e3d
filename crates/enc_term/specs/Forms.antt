-- What the groups of the parts of a term mean.
use Rattle.std.specs.Prelude.{◌≡◌, ℕ, ◌<◌, Bool, List, length, get_or, slice_get}
use Rattle.asm_node.specs.Tree.{Tree, Const}
use Rattle.asm_node.specs.Term.{World, Places, put, read, calls_within}
use Rattle.asm_eval.specs.World.{value_by}
use Rattle.enc_group.specs.declared.group.Entry.{Entry}
use Rattle.enc_group.specs.declared.tuple.Tuple.{Tuple}
use Rattle.enc_group.specs.Group.{Means}
use Rattle.enc_group.specs.Binding.{group_at}

-- each body means its value where the variable has the value of the entry at its place
abbrev pub LetParts : (ℕ → Bool) → World → ℕ → ℕ → Places → Tree → List Entry → List (List Entry) → Type 0
LetParts v w n x e u bound bodies = (j : ℕ) (b : Entry) → j < length bound → b ≡ get_or bound j b → Means v (group_at bodies j) (value_by w n (put x (Const b.value) e) u)

-- each result means what the function has at the values of the tuple at its place
abbrev pub CallParts : (ℕ → Bool) → World → ℕ → ℕ → List Tuple → List (List Entry) → Type 0
CallParts v w n f arguments results = (j : ℕ) (t : Tuple) → j < length arguments → t ≡ get_or arguments j t
    → Means v (group_at results j) (read w (calls_within w n) f (slice_get w.machine.signature.functions f) t.values)
