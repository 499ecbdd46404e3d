use Rattle.asm_declare.proofs.Entering.{enumeration_entered}
use Rattle.asm_declare.proofs.naming.declaration_names.Goals as goal

pub returns-in_ok-enter_all-in-Enumeration : goal.returns-in_ok-enter_all-in-Enumeration
returns-in_ok-enter_all-in-Enumeration c =
    enumeration_entered c.args.number c.args.declaration.now c.in-Enumeration.name c.in-Enumeration.elements c.slice.result.now c.in-Enumeration.is c.slice.ensures c.in_ok-enter-in-Enumeration.ensures c.in_ok-enter_all-in-Enumeration.ensures
