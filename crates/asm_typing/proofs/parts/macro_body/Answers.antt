use Rattle.std.proofs.Common.{ℕ, List, [], Option, ap, sym, ◌∙◌}
use Rattle.asm_sign.specs.Vocabulary.{Vocabulary}
use Rattle.asm_tree.specs.declared.term.RawBinder.{RawBinder}
use Rattle.asm_tree.specs.declared.rule.RawRule.{RawRule}
use Rattle.asm_faults.specs.declared.fault.Fault.{Fault}
use Rattle.asm_faults.specs.First.{noted}
use Rattle.asm_faults.specs.Terms as terms
use Rattle.asm_faults.specs.Terms.{Scope}
use Rattle.asm_faults.specs.Bodies.{RuleHead, rule_faults}
use Rattle.asm_faults.proofs.Noting.{noted_append}
use Rattle.asm_typing.proofs.parts.macro_body.Goals as goal

pub returns : goal.returns
returns c =
    let v : Vocabulary = c.args.known.now in
    let heads : List RuleHead = c.args.heads.now in
    let n : ℕ = c.args.unit in
    let bs : List RawBinder = c.args.parameters.now in
    let r : RawRule = c.args.body.now in
    c.in_ok-rule.ensures.faults
    ∙ ap (λ (s : Scope). noted c.binder_faults.new.first (rule_faults v heads n r s)) (c.in_ok-within.ensures n ∙ ap (λ (s : Scope). terms.within v n bs s) c.new-scope.ensures)
    ∙ ap (λ (x : Option Fault). noted x (rule_faults v heads n r (terms.within v n bs []))) c.in_ok-binder_faults.ensures
    ∙ sym (noted_append c.args.first.now (terms.binder_faults v n bs) (rule_faults v heads n r (terms.within v n bs [])))
