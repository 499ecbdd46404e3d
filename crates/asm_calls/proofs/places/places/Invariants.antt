use Rattle.std.proofs.Common.{◌≡◌, ℕ, ◌-◌, ◌≤◌, length, drop, get_or, None}
use Rattle.asm_calls.specs.Graphs.{placed}
use Rattle.asm_calls.proofs.places.places.Given as goal

abbrev pub invariant-definitions : goal.invariant-definitions
invariant-definitions l = ((n : ℕ) → get_or l.places.items n None ≡ placed l.known (l.count - l.behind) (drop (l.count - l.behind) l.definitions) n) × (length l.places.items ≤ length l.known.functions)
