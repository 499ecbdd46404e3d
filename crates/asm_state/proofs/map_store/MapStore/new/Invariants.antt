use Rattle.asm_state.proofs.Filling.{AreFirstEntries}
use Rattle.asm_state.proofs.map_store.MapStore.new.Given as goal

abbrev pub invariant-loop-slot : goal.invariant-loop-slot
invariant-loop-slot l = AreFirstEntries l.signature l.slot l.entries.items
