use Rattle.std.proofs.Common.{◌≡◌, length}
use Rattle.std.specs.FinMap as finite
use Rattle.asm_sign.specs.Vocabulary.{locations, function_at}
use Rattle.asm_node.specs.Machine.{has_kind, is_shared}
use Rattle.asm_node.proofs.Shared.{stays}
use Rattle.asm_node.proofs.input.Input.drop_shared.Given as goal

-- the values of the shared slots before this one are gone
abbrev pub invariant-loop-slot : goal.invariant-loop-slot
invariant-loop-slot l =
    (l.slot-end ≡ length (locations l.fn.signature))
    × (l.self ≡ finite.retain_keys l.fn.self (stays (λ q. has_kind is_shared (function_at l.fn.signature q)) l.slot))
