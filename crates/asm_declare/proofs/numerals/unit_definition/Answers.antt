use Rattle.std.proofs.Common.{refl}
use Rattle.asm_declare.proofs.Seeking.{none_more, one_here, none_all}
use Rattle.asm_declare.proofs.numerals.unit_definition.Goals as goal

pub loop-definition-init : goal.loop-definition-init
loop-definition-init c = λ n. refl

pub loop-definition-preserved : goal.loop-definition-preserved
loop-definition-preserved c = λ n.
    none_more c.args.domain.now n c.args.definitions.now c.loop-definition.definition-index c.definition-item.result c.defines.result c.loop-definition-test.true c.definition-item.is (c.loop-definition.invariant n) (c.defines.ensures n) c.if-defines.false

pub returns-then-defines : goal.returns-then-defines
returns-then-defines c = λ n.
    one_here c.args.domain.now n c.args.definitions.now c.loop-definition.definition-index c.definition-item.result c.defines.result c.loop-definition-test.true c.definition-item.is (c.loop-definition.invariant n) (c.defines.ensures n) c.if-defines.true

pub returns : goal.returns
returns c = λ n. none_all c.args.domain.now n c.args.definitions.now c.loop-definition.definition-index c.loop-definition-test.false (c.loop-definition.invariant n)
