use Rattle.std.proofs.Common.{List, [], ◌∷◌, ◌++◌, map, sym, ap, ◌∙◌}
use Rattle.std.proofs.lemmas.List.{take_all}
use Rattle.asm_node.specs.declared.definition.MacroRule.{MacroRule}
use Rattle.asm_node.specs.Parts.{macro_by}
use Rattle.asm_faults.specs.Bodies.{RuleHead}
use Rattle.asm_typing.proofs.Walks.{map_more}
use Rattle.asm_script.specs.Script.{head_of}
use Rattle.asm_script.proofs.tables.heads_of.Goals as goal

pub rules-init : goal.rules-init
rules-init c = c.new-heads.ensures

pub rules-preserved : goal.rules-preserved
rules-preserved c =
    let head : MacroRule → RuleHead = λ r. head_of c.args.known.now (macro_by r) in
    let x : MacroRule = c.rule-item.result in
    c.in_ok-heads.ensures
    ∙ ap (λ (heads : List RuleHead). heads ++ head x ∷ []) c.rules.invariant
    ∙ sym (map_more head c.args.rules.now c.rules.rule-index x c.rules-test.true c.rule-item.is)

pub returns : goal.returns
returns c =
    let head : MacroRule → RuleHead = λ r. head_of c.args.known.now (macro_by r) in
    c.rules.invariant ∙ ap (map head) (take_all c.rules.rule-index c.args.rules.now c.rules-test.false)
