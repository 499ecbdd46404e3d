use Rattle.std.proofs.Common.{◌≡◌, ℕ, List, [], Option, None, sym, ap, ◌∙◌}
use Rattle.asm_sign.specs.declared.function.Function.{Function}
use Rattle.asm_sign.specs.Vocabulary.{Vocabulary}
use Rattle.asm_tree.specs.declared.term.RawTerm.{RawTerm}
use Rattle.asm_faults.specs.declared.fault.Fault.{Fault}
use Rattle.asm_faults.specs.At.{Name}
use Rattle.asm_faults.specs.First.{noted}
use Rattle.asm_faults.specs.Terms as terms
use Rattle.asm_faults.specs.Terms.{Scope, judged, function_named}
use Rattle.asm_faults.specs.Bodies.{update_faults}
use Rattle.asm_typing.specs.Pieces.{terms_judged}
use Rattle.asm_typing.proofs.RuleSteps.{update_unknown}
use Rattle.asm_typing.proofs.rule.update.Goals as goal

pub returns-in_ok-asked-in-None-clause-faults : goal.returns-in_ok-asked-in-None-clause-faults
returns-in_ok-asked-in-None-clause-faults c =
    let v : Vocabulary = c.args.known.now in
    let n : ℕ = c.args.unit in
    let s : Scope = c.args.scope.now in
    let at : ℕ = c.args.at in
    let f : Name = c.args.name.now in
    let ts : List RawTerm = c.args.items.now in
    let t : RawTerm = c.args.value.now in
    let first : Option Fault = c.args.first.now in
    let there : None ≡ function_named v f = c.in-None.ensures in
    c.in_ok-asked-in-None.ensures.faults
    ∙ (λ j. noted c.asked_each.new.first (terms.asked v n None (c.in_ok-asked_each-in-None.ensures.scope j) (judged v n t)))
    ∙ ap (λ (x : Option Fault). noted x (terms.asked v n None s (judged v n t)))
    (c.in_ok-asked_each-in-None.ensures.faults ∙ ap (λ (x : Option Fault). noted x (terms.asked_each v n [] s (terms_judged v n ts))) c.in_ok-note-in-None.ensures.ok)
    ∙ sym (update_unknown v [] n first at f s ts t)
    ∙ ap (λ (g : Option Function). noted first (update_faults v [] n at f s ts t g)) there
