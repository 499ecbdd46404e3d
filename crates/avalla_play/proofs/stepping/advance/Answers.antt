use Rattle.std.proofs.Common.{sym, subst, option_map, unwrap_or}
use Rattle.std.specs.Prelude.{option_copied}
use Rattle.asm_node.specs.RuleTree.{plain_rule}
use Rattle.asm_node.specs.Step.{next}
use Rattle.asm_node.specs.Words.{left}
use Rattle.asm_run.specs.Session.{Answers, advanced}
use Rattle.avalla_play.proofs.stepping.advance.Goals as goal

pub returns-in-Some : goal.returns-in-Some
returns-in-Some c =
    let old = c.args.session.now in
    subst (λ r. Answers (advanced old (next old.machine old.state c.args.input.now (left c.args.words.now) (unwrap_or (option_map (λ x. plain_rule x.value) (option_copied r)) old.machine.main))) c.exec.result old c.exec.new.self c.args.words.now c.exec.new.words)
    (sym c.in-Some.is) c.exec.ensures.answers

pub returns-in-None : goal.returns-in-None
returns-in-None c =
    let old = c.args.session.now in
    subst (λ r. Answers (advanced old (next old.machine old.state c.args.input.now (left c.args.words.now) (unwrap_or (option_map (λ x. plain_rule x.value) (option_copied r)) old.machine.main))) c.step.result old c.step.new.self c.args.words.now c.step.new.words)
    (sym c.in-None.is) c.step.ensures.answers
