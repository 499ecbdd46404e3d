use Rattle.std.proofs.Common.{map, take}
use Rattle.asm_tree.specs.declared.term.RawBinder.{RawBinder}
use Rattle.asm_build.specs.Made.{HasGrown, AreNumbers}
use Rattle.asm_build.proofs.gather.variables_of.Given as goal

abbrev pub invariant-raws : goal.invariant-raws
invariant-raws l = record {
  made : AreNumbers l.maker (λ number. map (λ (b : RawBinder). number b.variable.text) (take l.raw-index l.raws)) l.variables;
  grown : HasGrown l.fn.maker l.maker;
}
