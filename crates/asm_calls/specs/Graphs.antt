-- Nodes of graphs, and rows of truth values about them.
use Rattle.std.specs.Prelude.{◌≡◌, ℕ, ◌+◌, ◌≤◌, Bool as Truth, false, true, nat_eq, ◌&&◌, ◌||◌, if◌then◌else◌, List, [], ◌∷◌, ◌++◌, map, length, Option, Some, None, slice_get, slice_index_or}
use Rattle.std.specs.List.{list_any}
use Rattle.std.specs.Option.{option_map}
use Rattle.call_graph.specs.declared.graph.Node.{Node}
use Rattle.call_graph.specs.Calls.{is_in, has_chain, leads, touches}
use Rattle.call_graph.specs.Rows.{for_each}
use Rattle.asm_sign.specs.Vocabulary.{Vocabulary}
use Rattle.asm_faults.specs.declared.fault.ModelFault.{ModelFault}
use Rattle.asm_faults.specs.declared.fault.Fault.{Fault}
use Rattle.asm_faults.specs.declared.fault.ModelFault.TheVariants.{Cycle, CallsTooDeep, ForbiddenRead}
use Rattle.asm_faults.specs.At.{token}
use Rattle.asm_faults.specs.Terms.{function_place, function_named}
use Rattle.asm_faults.specs.Calls.{node_of}
use Rattle.asm_calls.specs.declared.caller.Caller.{Caller}
use Rattle.asm_calls.specs.declared.read.Reading.{Reading}
use Rattle.asm_calls.specs.Reads.{is_static, reads_itself}

-- ---- where definitions stand

abbrev pub is_number : Option ℕ → ℕ → Truth
is_number None n = false
is_number (Some m) n = nat_eq m n

-- how long a list has to be that has this number, if there is one
abbrev pub end_of : Option ℕ → ℕ
end_of None = 0
end_of (Some m) = m + 1

-- the place of the first definition whose function has this number, among definitions that are counted from here on
abbrev pub placed : Vocabulary → ℕ → List Caller → ℕ → Option ℕ
placed v k [] n = None
placed v k (c ∷ definitions) n = if is_number (function_place v c.name) n then Some k else placed v (k + 1) definitions n

-- for each function, the place of its first definition; past the end of the list there is none
pub record IsPlaced (v : Vocabulary) (definitions : List Caller) (places : List (Option ℕ)) : Type 0 where
  pub first : (n : ℕ) → slice_index_or places n None ≡ placed v 0 definitions n
  pub short : length places ≤ length v.functions

-- ---- nodes

-- the node of a definition at a place, if there is one
abbrev pub node_at : List Caller → Option ℕ → Node
node_at definitions None = node_of None
node_at definitions (Some place) = node_of (option_map (λ (c : Caller). c.calls) (slice_get definitions place))

abbrev pub if_reads : Reading → Option Caller → Truth
if_reads reading None = false
if_reads reading (Some c) = reads_itself reading c

-- whether the definition at a place, if there is one, reads such a function itself
abbrev pub reads_at : Reading → List Caller → Option ℕ → Truth
reads_at reading definitions None = false
reads_at reading definitions (Some place) = if_reads reading (slice_get definitions place)

-- for each function whether its definition reads such a function, itself or through at most 31 others
abbrev pub reads_row : Reading → List Caller → List (Option ℕ) → List Node → List Truth
reads_row reading definitions places g = for_each g (touches g (map (reads_at reading definitions) places) 31)

-- at a node that has `false` in the row no chain begins that is longer than some bound
abbrev pub AreBounded : List Node → List Truth → Type 0
AreBounded g row = (n : ℕ) → is_in row n ≡ false → (k : ℕ) × (has_chain g k n ≡ false)

-- ---- faults

-- whether a row has `true` at a number, if there is one
abbrev pub in_row : List Truth → Option ℕ → Truth
in_row row None = false
in_row row (Some number) = is_in row number

-- faults at those of the callers, numbered from here on, whose mark is `true`
abbrev pub marked_faults : ModelFault → List Truth → ℕ → List Caller → List Fault
marked_faults kind marks number [] = []
marked_faults kind marks number (c ∷ callers) = (if is_in marks number then token kind c.unit c.at c.name ∷ [] else []) ++ marked_faults kind marks (number + 1) callers

abbrev pub are_some : List Fault → Truth
are_some [] = false
are_some (f ∷ faults) = true

-- faults at the definitions of those functions, and at those rules, that have `true` in their rows
abbrev pub both_marked : Vocabulary → ModelFault → List Caller → List Truth → List Caller → List Truth → List Fault
both_marked v kind definitions row rules other =
    marked_faults kind (map (λ (c : Caller). in_row row (function_place v c.name)) definitions) 0 definitions ++ marked_faults kind other 0 rules

-- definitions that lead to themselves by so many calls, and rules that do, by their graphs
abbrev pub cycles_marked : Vocabulary → ℕ → List Caller → List Node → List Caller → List Node → List Fault
cycles_marked v far definitions reading rules calling =
    both_marked v Cycle definitions (for_each reading (λ n. leads reading far n n)) rules (for_each calling (λ n. leads calling (length calling) n n))

-- definitions and rules at which chains of 33 begin, by their graphs
abbrev pub chains_marked : Vocabulary → List Caller → List Node → List Caller → List Node → List Fault
chains_marked v definitions reading rules calling =
    both_marked v CallsTooDeep definitions (for_each reading (has_chain reading 33)) rules (for_each calling (has_chain calling 33))

-- whether a caller reads such a function itself, or calls one that is in the row
abbrev pub reads_by : Reading → List Truth → Caller → Truth
reads_by reading row c = reads_itself reading c || list_any (is_in row) c.calls

-- reads at the definitions of static functions
abbrev pub static_marked : Vocabulary → Reading → List Truth → List Caller → List Fault
static_marked v reading row definitions =
    marked_faults ForbiddenRead (map (λ (c : Caller). is_static (function_named v c.name) && reads_by reading row c) definitions) 0 definitions

-- reads at any callers
abbrev pub reading_marked : Reading → List Truth → List Caller → List Fault
reading_marked reading row callers = marked_faults ForbiddenRead (map (reads_by reading row) callers) 0 callers
