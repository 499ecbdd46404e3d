use Rattle.std.proofs.Common.{◌-◌, drop, length}
use Rattle.asm_node.specs.Tree.{plain}
use Rattle.asm_build.specs.Made.{HasGrown, IsTerm, plains}
use Rattle.asm_build.specs.Forms.{cases_from}
use Rattle.asm_build.proofs.nodes.nested_cases.Given as goal

-- what stands behind the cases that are done
abbrev pub invariant-done : goal.invariant-done
invariant-done l = record {
  made : IsTerm l.maker (λ number. cases_from (plain l.fn.subject.value) (drop (length l.fn.cases.labels - l.done) (plains l.fn.cases.labels)) (drop (length l.fn.cases.labels - l.done) (plains l.fn.cases.values)) (plain l.fn.other.value)) l.rest.value;
  grown : HasGrown l.fn.maker l.maker;
}
