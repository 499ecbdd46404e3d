use Rattle.std.proofs.Common.{◌∙◌, bytes_eq}
use Rattle.asm_declare.proofs.Counting.{constant_declared}
use Rattle.asm_declare.proofs.measure.is_constant.Goals as goal

pub returns-in-Function : goal.returns-in-Function
returns-in-Function c = λ number.
    constant_declared c.args.domain.now number c.args.declaration.now c.in-Function.kind c.in-Function.field-1 c.in-Function.domains c.in-Function.codomain c.is_static.result c.is_empty.result c.eq-same.result c.all_hold.result c.in-Function.is c.all_hold.ensures c.is_static.ensures c.is_empty.ensures
    (c.eq-same.ensures ∙ (λ j. bytes_eq (c.text.ensures j) (c.text-in-Function.ensures j)))
