use Rattle.std.proofs.Common.{◌≡◌, sym, ap, subst, ◌∙◌}
use Rattle.asm_fire.specs.Sound.{IsSound}
use Rattle.asm_fire.proofs.Sounding.{main_is_sound}
use Rattle.asm_node.specs.Machine.{Machine}
use Rattle.asm_node.specs.RuleTree.{plain_rule}
use Rattle.asm_node.specs.Step.{IsInput, next}
use Rattle.asm_node.specs.Words.{left}
use Rattle.asm_run.specs.Session.{Answers, Shown, advanced}
use Rattle.asm_run.proofs.session.Session.step.Goals as goal

pub advance-requires-clause-sound : goal.advance-requires-clause-sound
advance-requires-clause-sound c = λ model same.
    let i = c.args.input.now in
    let main : plain_rule c.main.result.now.value ≡ c.args.self.now.machine.main = c.main.ensures ∙ ap (λ (s : Shown). s.machine.main) c.self.view_is in
    subst (λ r. IsSound c.args.self.now.machine i r) (sym main)
    (subst (λ (m : Machine). IsSound m i m.main) same (main_is_sound model i (subst (λ m. IsInput m i) (sym same) c.requires)))

pub returns-clause-answers : goal.returns-clause-answers
returns-clause-answers c =
    let old = c.args.self.now in
    let main : plain_rule c.main.result.now.value ≡ old.machine.main = c.main.ensures ∙ ap (λ (s : Shown). s.machine.main) c.self.view_is in
    subst (λ r. Answers (advanced old (next old.machine old.state c.args.input.now (left c.args.words.now) r)) c.advance.result old c.advance.new.self c.args.words.now c.advance.new.words) main c.advance.ensures.answers
