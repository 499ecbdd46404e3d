use Rattle.std.proofs.Common.{◌-◌, length}
use Rattle.std.specs.List.{flat_map, range_with_len}
use Rattle.asm_source.specs.Appends.{AppendsFront}
use Rattle.asm_sign.specs.Vocabulary.{locations}
use Rattle.asm_text.specs.Texts.{kept_line, state_text}
use Rattle.asm_text.proofs.state.print_state.Given as goal

-- the slots from one on are left
abbrev pub invariant-loop-slot : goal.invariant-loop-slot
invariant-loop-slot g l = AppendsFront l.fn.out l.out (state_text l.signature (g.S.Store.state l.store)) (flat_map (kept_line l.signature (g.S.Store.state l.store)) (range_with_len l.slot (length (locations l.signature) - l.slot)))
