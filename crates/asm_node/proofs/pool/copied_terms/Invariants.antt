use Rattle.std.proofs.Common.{◌≡◌, map, take}
use Rattle.std.specs.declared.rc.Rc.{Rc}
use Rattle.std.specs.declared.alloc.Global.{Global}
use Rattle.asm_node.specs.declared.term.Term.{Term}
use Rattle.asm_node.proofs.pool.copied_terms.Given as goal

-- the nodes so far were copied
abbrev pub invariant-terms : goal.invariant-terms
invariant-terms l = map (λ (x : Rc Term Global). x.value) l.copied ≡ map (λ (x : Rc Term Global). x.value) (take l.term-index l.terms)
