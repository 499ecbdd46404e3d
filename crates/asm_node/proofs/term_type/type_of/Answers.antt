use Rattle.std.proofs.Common.{Some, ap, ◌∙◌}
use Rattle.asm_domain.specs.declared.value.Value.TheVariants.{Undef, Bool, Int, Elem}
use Rattle.asm_node.proofs.Firsts.{first_tells}
use Rattle.asm_node.proofs.term_type.type_of.Goals as goal

pub returns-in-Undef : goal.returns-in-Undef
returns-in-Undef c = absurd (first_tells c.args.domain.now Undef (c.element.ensures ∙ ap Some c.in-Undef.is))

pub returns-in-Bool : goal.returns-in-Bool
returns-in-Bool c = first_tells c.args.domain.now (Bool c.in-Bool.field-0) (c.element.ensures ∙ ap Some c.in-Bool.is)

pub returns-in-Int : goal.returns-in-Int
returns-in-Int c = first_tells c.args.domain.now (Int c.in-Int.field-0) (c.element.ensures ∙ ap Some c.in-Int.is)

pub returns-in-Elem : goal.returns-in-Elem
returns-in-Elem c = first_tells c.args.domain.now (Elem c.in-Elem.number c.in-Elem.field-1) (c.element.ensures ∙ ap Some c.in-Elem.is)
