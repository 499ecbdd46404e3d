use Rattle.std.proofs.Common.{◌≡◌, drop, None}
use Rattle.std.specs.Prelude.{map}
use Rattle.asm_faults.specs.First.{noted}
use Rattle.asm_faults.specs.Terms.{Judged, asked_each, first_type, or_else, within_let, bind_faults}
use Rattle.asm_typing.specs.Pieces.{terms_judged, binds_judged, cases_judged, cases_before}
use Rattle.asm_typing.proofs.term.+term.Given as goal

abbrev pub invariant-asked_each-items : goal.invariant-asked_each-items
invariant-asked_each-items l = record {
  scope_stays : l.scope ≡ l.initial.scope;
  rest : noted l.first (asked_each l.known l.unit (drop l.index l.types) l.initial.scope (terms_judged l.known l.unit (drop l.index l.items))) ≡ noted l.initial.first (asked_each l.known l.unit l.types l.initial.scope (terms_judged l.known l.unit l.items));
}

abbrev pub invariant-cases-items : goal.invariant-cases-items
invariant-cases-items l = record {
  scope_stays : l.scope ≡ l.initial.scope;
  kind_rest : or_else l.value (first_type l.initial.scope (map (λ (c : Judged × Judged). c.1) (cases_judged l.known l.unit (drop l.item-index l.items)))) ≡ first_type l.initial.scope (map (λ (c : Judged × Judged). c.1) (cases_judged l.known l.unit l.items));
  rest : noted l.first (cases_before l.known l.unit l.want l.value l.initial.scope (cases_judged l.known l.unit (drop l.item-index l.items))) ≡ noted l.initial.first (cases_before l.known l.unit l.fn.label None l.initial.scope (cases_judged l.known l.unit l.items));
}

abbrev pub invariant-bind_each-items : goal.invariant-bind_each-items
invariant-bind_each-items l = record {
  scope_rest : within_let l.known l.unit (binds_judged l.known l.unit (drop l.item-index l.items)) l.scope ≡ within_let l.known l.unit (binds_judged l.known l.unit l.items) l.initial.scope;
  rest : noted l.first (bind_faults l.known l.unit (binds_judged l.known l.unit (drop l.item-index l.items)) l.scope) ≡ noted l.initial.first (bind_faults l.known l.unit (binds_judged l.known l.unit l.items) l.initial.scope);
}
