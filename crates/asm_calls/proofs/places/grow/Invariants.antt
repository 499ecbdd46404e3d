use Rattle.std.proofs.Common.{◌≡◌, ℕ, ◌≤◌, length, get_or, None}
use Rattle.asm_calls.proofs.places.grow.Given as goal

abbrev pub invariant-empty : goal.invariant-empty
invariant-empty l = ((n : ℕ) → get_or l.places.items n None ≡ get_or l.initial.places.items n None) × (length l.places.items ≡ l.counter) × ((bound : ℕ) → length l.initial.places.items ≤ bound → l.needed ≤ bound → l.counter ≤ bound)
