use Rattle.std.proofs.Common.{◌≡◌, map, take, length}
use Rattle.asm_tree.specs.declared.term.RawCase.{RawCase}
use Rattle.asm_tree.specs.declared.term.RawBind.{RawBind}
use Rattle.asm_faults.specs.Model.{tree_of}
use Rattle.asm_build.specs.Made.{HasGrown, AreTerms, AreNumbers}
use Rattle.asm_build.proofs.nodes.+term.Given as goal

abbrev pub invariant-terms-raws : goal.invariant-terms-raws
invariant-terms-raws l = record {
  made : AreTerms l.maker (λ number. map (tree_of number l.fn.known) (take l.raw-index l.raws)) l.made;
  grown : HasGrown l.fn.maker l.maker;
}

abbrev pub invariant-cases_of-items : goal.invariant-cases_of-items
invariant-cases_of-items l = record {
  labels : AreTerms l.maker (λ number. map (λ (c : RawCase). tree_of number l.fn.known c.label) (take l.item-index l.items)) l.labels;
  values : AreTerms l.maker (λ number. map (λ (c : RawCase). tree_of number l.fn.known c.value) (take l.item-index l.items)) l.values;
  same : length l.labels ≡ length l.values;
  grown : HasGrown l.fn.maker l.maker;
}

abbrev pub invariant-bounds_of-items : goal.invariant-bounds_of-items
invariant-bounds_of-items l = record {
  variables : AreNumbers l.maker (λ number. map (λ (b : RawBind). number b.variable.text) (take l.item-index l.items)) l.variables;
  terms : AreTerms l.maker (λ number. map (λ (b : RawBind). tree_of number l.fn.known b.term) (take l.item-index l.items)) l.terms;
  same : length l.variables ≡ length l.terms;
  grown : HasGrown l.fn.maker l.maker;
}
