use Rattle.asm_ranges.proofs.files.definition.Goals as goal

pub returns-in-Functions : goal.returns-in-Functions
returns-in-Functions c = rw c.in-Functions.is c.in_function.ensures

pub returns-in-Rules : goal.returns-in-Rules
returns-in-Rules c = rw c.in-Rules.is c.in_rule.ensures

pub returns-in-Invariants : goal.returns-in-Invariants
returns-in-Invariants c = rw c.in-Invariants.is c.in_invariant.ensures
