use Rattle.std.proofs.Common.{◌-◌, drop, length}
use Rattle.asm_node.specs.Tree.{plain}
use Rattle.asm_build.specs.Made.{HasGrown, IsTerm, plains}
use Rattle.asm_build.specs.Forms.{bounds_from}
use Rattle.asm_build.proofs.nodes.nested_bounds.Given as goal

-- what stands behind the bounds that are done
abbrev pub invariant-done : goal.invariant-done
invariant-done l = record {
  made : IsTerm l.maker (λ number. bounds_from (drop (length l.fn.bounds.terms - l.done) l.fn.bounds.variables) (drop (length l.fn.bounds.terms - l.done) (plains l.fn.bounds.terms)) (plain l.fn.body.value)) l.rest.value;
  grown : HasGrown l.fn.maker l.maker;
}
