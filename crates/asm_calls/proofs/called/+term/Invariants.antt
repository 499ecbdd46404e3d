use Rattle.std.proofs.Common.{◌≡◌, ◌++◌, drop}
use Rattle.std.specs.List.{flat_map}
use Rattle.asm_calls.specs.Called.{functions_in, functions_in_case, functions_in_bind}
use Rattle.asm_calls.proofs.called.+term.Given as goal

abbrev pub invariant-terms-items : goal.invariant-terms-items
invariant-terms-items l = l.reads ++ flat_map (functions_in l.known) (drop l.item-index l.items) ≡ l.initial.reads ++ flat_map (functions_in l.known) l.items

abbrev pub invariant-cases-items : goal.invariant-cases-items
invariant-cases-items l = l.reads ++ flat_map (functions_in_case l.known) (drop l.item-index l.items) ≡ l.initial.reads ++ flat_map (functions_in_case l.known) l.items

abbrev pub invariant-binds-items : goal.invariant-binds-items
invariant-binds-items l = l.reads ++ flat_map (functions_in_bind l.known) (drop l.item-index l.items) ≡ l.initial.reads ++ flat_map (functions_in_bind l.known) l.items
