-- What the variables of an environment stand for.
use Rattle.std.specs.Prelude.{◌≡◌}
use Rattle.asm_node.specs.declared.env.Env.{Env}
use Rattle.asm_node.specs.declared.env.Entries.{Entries}
use Rattle.asm_node.specs.declared.env.Entries as entries
use Rattle.asm_node.specs.declared.env.Binding.{Binding}
use Rattle.asm_node.specs.declared.env.Binding.TheVariants as bound
use Rattle.asm_domain.specs.declared.value.Value.TheVariants.{Undef}
use Rattle.asm_node.specs.Tree.{Tree, Const, Within, plain}
use Rattle.asm_node.specs.Term.{Places, nowhere, put, close}

-- the newest entry of a variable counts; the variables of a node stand for nothing, those of a parameter's term for what
-- they stand for where it is called, and it is inside its domain
abbrev pub places_in : Entries → Places
places_in entries.Empty = nowhere
places_in (entries.Value' x v _ rest) = put x (Const v) (places_in rest)
places_in (entries.Node' x t _ rest) = put x (close nowhere (plain t.value)) (places_in rest)
places_in (entries.Actual' x d t _ caller _ rest) = put x (Within d (close (places_in caller) (plain t.value))) (places_in rest)

abbrev pub places_of : Env → Places
places_of env = places_in env.entries

-- the closed term that a variable stands for, as it is held
abbrev pub Holds : Binding → Tree → Type 0
Holds bound.Free t = t ≡ Const Undef
Holds (bound.Value v) t = t ≡ Const v
Holds (bound.Node x) t = t ≡ close nowhere (plain x.value)
Holds (bound.Actual d x caller) t = t ≡ Within d (close (places_of caller) (plain x.value))
