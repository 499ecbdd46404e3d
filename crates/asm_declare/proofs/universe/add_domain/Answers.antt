use Rattle.std.proofs.Common.{ap}
use Rattle.asm_tree.specs.declared.unit.RawDeclaration.{RawDeclaration}
use Rattle.asm_faults.specs.Files.{domain_in}
use Rattle.asm_faults.specs.FunctionFaults.{declared_domain}
use Rattle.asm_declare.proofs.Building.{none_put, enumeration_put, part_put, abstract_put}
use Rattle.asm_declare.proofs.universe.add_domain.Goals as goal

pub returns-in_ok-put-in-Enumeration : goal.returns-in_ok-put-in-Enumeration
returns-in_ok-put-in-Enumeration c = λ n.
    enumeration_put c.args.units.now c.args.list.now c.put.new.list n c.in_ok-number.number c.args.declaration.now c.in-Enumeration.name c.in-Enumeration.elements c.slice.result.now c.in_ok-domain-in-Enumeration.domain c.in-Enumeration.is c.slice.ensures c.in_ok-number.ensures (c.in_ok-domain-in-Enumeration).ensures (c.in_ok-put-in-Enumeration).ensures

pub returns-in_ok-put-in-Subset : goal.returns-in_ok-put-in-Subset
returns-in_ok-put-in-Subset c = λ n.
    part_put c.args.units.now c.args.list.now c.put-in-Subset.new.list n c.args.declaration.now c.in-Subset.name c.in-Subset.field-1 c.in_ok-domain-in-Subset.domain c.in-Subset.is (c.in_ok-domain-in-Subset).ensures (c.in_ok-put-in-Subset).ensures

pub returns-in_ok-put-in-Abstract : goal.returns-in_ok-put-in-Abstract
returns-in_ok-put-in-Abstract c = λ n.
    abstract_put c.args.units.now c.args.list.now c.put-in-Abstract.new.list n c.in_ok-number.number c.args.declaration.now c.in-Abstract.name c.in_ok-names-in-Abstract.names c.in_ok-domain-in-Abstract.domain c.in-Abstract.is c.in_ok-number.ensures (c.in_ok-names-in-Abstract).ensures (c.in_ok-domain-in-Abstract).ensures (c.in_ok-put-in-Abstract).ensures

pub returns-in-Function : goal.returns-in-Function
returns-in-Function c = λ n. none_put (declared_domain c.args.units.now) c.args.list.now (ap (λ (x : RawDeclaration). domain_in (n, x)) c.in-Function.is)
