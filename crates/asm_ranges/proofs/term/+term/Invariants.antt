use Rattle.std.proofs.Common.{◌≡◌, drop}
use Rattle.asm_faults.specs.First.{noted}
use Rattle.asm_faults.specs.Ranges.{Measured, either, either_case, each, case_faults, bound, within_let, bind_faults}
use Rattle.asm_ranges.specs.Spreads.{bounds_of}
use Rattle.asm_ranges.specs.Pieces.{terms_measured, cases_measured}
use Rattle.asm_ranges.proofs.term.+term.Given as goal

abbrev pub invariant-terms-items : goal.invariant-terms-items
invariant-terms-items l = record {
  scope : l.scope ≡ l.initial.scope;
  faults : noted l.first (each l.initial.scope (terms_measured l.known l.unit (drop l.item-index l.items))) ≡ noted l.initial.first (each l.initial.scope (terms_measured l.known l.unit l.items));
}

abbrev pub invariant-cases-items : goal.invariant-cases-items
invariant-cases-items l = record {
  scope : l.scope ≡ l.initial.scope;
  faults : noted l.first (case_faults l.initial.scope (cases_measured l.known l.unit (drop l.item-index l.items))) ≡ noted l.initial.first (case_faults l.initial.scope (cases_measured l.known l.unit l.items));
  spread : (other : Measured) → either (bounds_of l.spread) (either_case l.initial.scope (cases_measured l.known l.unit (drop l.item-index l.items)) other) ≡ either_case l.initial.scope (cases_measured l.known l.unit l.items) other;
}

abbrev pub invariant-binds-items : goal.invariant-binds-items
invariant-binds-items l = record {
  scope : within_let (bound l.known l.unit (drop l.item-index l.items)) l.scope ≡ within_let (bound l.known l.unit l.items) l.initial.scope;
  faults : noted l.first (bind_faults (bound l.known l.unit (drop l.item-index l.items)) l.scope) ≡ noted l.initial.first (bind_faults (bound l.known l.unit l.items) l.initial.scope);
}
