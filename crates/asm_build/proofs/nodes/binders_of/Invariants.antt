use Rattle.std.proofs.Common.{take}
use Rattle.asm_faults.specs.Model.{binders_of}
use Rattle.asm_build.specs.Made.{HasGrown, AreBinders}
use Rattle.asm_build.proofs.nodes.binders_of.Given as goal

abbrev pub invariant-raws : goal.invariant-raws
invariant-raws l = record {
  made : AreBinders l.maker (λ number. binders_of number l.known (take l.raw-index l.raws)) l.binders;
  grown : HasGrown l.fn.maker l.maker;
}
