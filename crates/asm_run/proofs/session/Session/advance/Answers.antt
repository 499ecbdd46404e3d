use Rattle.std.proofs.Common.{◌≡◌, None, sym, ap, subst, ◌∙◌}
use Rattle.asm_fire.specs.Sound.{IsSound}
use Rattle.asm_node.specs.RuleTree.{plain_rule}
use Rattle.asm_node.specs.Step.{next}
use Rattle.asm_node.specs.Words.{left}
use Rattle.asm_run.specs.Session.{Shown}
use Rattle.asm_run.specs.Stepping.{Refuses}
use Rattle.asm_run.proofs.Entering.{answers-refused}
use Rattle.asm_run.proofs.session.Session.advance.Goals as goal

pub next_state-requires-clause-sound : goal.next_state-requires-clause-sound
next_state-requires-clause-sound c =
    subst (λ (s : Shown). IsSound s.machine c.args.input.now (plain_rule c.args.rule.now.value)) (sym c.self.view_is) (c.requires.sound c.self.inside.model.now (ap (λ (s : Shown). s.machine) c.self.view_is))

pub returns-in-Err-clause-answers : goal.returns-in-Err-clause-answers
returns-in-Err-clause-answers c =
    let old = c.args.self.now in
    let rule = plain_rule c.args.rule.now.value in
    let none : old.stopped ≡ None = sym (ap (λ (s : Shown). s.stopped) c.self.view_is) ∙ c.in_default.is in
    let refuses = subst (λ (s : Shown). Refuses c.in-Err.error (next s.machine s.state c.args.input.now (left c.args.words.now) rule)) c.self.view_is c.in-Err.ensures.leads in
    let words : c.back_to.new.self ≡ c.args.words.now = c.back_to.ensures ∙ (λ i. (c.in-Err.ensures.words i, c.taken-taken.ensures.value i)) in
    answers-refused old _ c.args.words.now c.back_to.new.self (next old.machine old.state c.args.input.now (left c.args.words.now) rule) c.in-Err.error none refuses c.self.view_is words
