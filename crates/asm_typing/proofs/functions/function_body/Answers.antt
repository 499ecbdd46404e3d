use Rattle.std.proofs.Common.{◌≡◌, Option, Some, None, ap, subst, ◌∙◌}
use Rattle.std.specs.Prelude.{OnOk}
use Rattle.asm_sign.specs.declared.function.Function.{Function}
use Rattle.asm_faults.specs.First.{noted}
use Rattle.asm_faults.specs.Terms.{function_named}
use Rattle.asm_faults.specs.Bodies.{function_body_faults}
use Rattle.asm_typing.specs.Given.{may_be}
use Rattle.asm_typing.proofs.functions.function_body.Goals as goal

pub returns-in_ok-body_of-in-Some : goal.returns-in_ok-body_of-in-Some
returns-in_ok-body_of-in-Some c =
    let there : Some c.in-Some.function.now ≡ function_named c.args.known.now c.args.item.now.name.text = c.in-Some.ensures in
    c.in_ok-body_of-in-Some.ensures
    ∙ ap (λ (g : Option Function). noted c.args.first.now (function_body_faults c.args.known.now (may_be c.args.given) (c.args.unit, c.args.item.now) g)) there

pub returns-in-None : goal.returns-in-None
returns-in-None c =
    let there : None ≡ function_named c.args.known.now c.args.item.now.name.text = c.in-None.ensures in
    subst (λ (g : Option Function). OnOk c.note.result (c.note.new.self ≡ noted c.args.first.now (function_body_faults c.args.known.now (may_be c.args.given) (c.args.unit, c.args.item.now) g))) there c.note.ensures.ok
