use Rattle.std.proofs.Common.{◌≡◌, ◌++◌, ◌∙◌, subst}
use Rattle.std.specs.Prelude.{codes}
use Rattle.asm_text.specs.Texts.{state_text}
use Rattle.ref_report.specs.Texts.{after_text, choices_line, input_text}
use Rattle.ref_report.proofs.Rest.{four, from_left, worded}
use Rattle.ref_report.proofs.step.append_after.Goals as goal

pub returns : goal.returns
returns c =
    let given = input_text c.args.c.now c.args.step.now.input in
    let choices = choices_line c.args.step.now.words.0 in
    let next = codes "next concrete state\n" ++ state_text c.args.c.now c.args.step.now.next in
    worded c.append_state.result c.args.text.now c.append_state.new.text (codes "input\n" ++ (given ++ (choices ++ next))) (after_text c.args.c.now c.args.step.now) (from_left (codes "input\n") given choices next)
    (four c.append_state.result c.args.text.now c.append_str.new.text c.append_input.new.text c.append_choices.new.text c.append_state.new.text (codes "input\n") given choices next
    c.in_ok-append_str.ensures.ok c.in_ok-append_input.ensures
    (subst (λ words. c.append_choices.new.text ≡ c.append_input.new.text ++ choices_line words) (c.slice.ensures ∙ c.words.ensures) c.in_ok-append_choices.ensures) c.append_state.ensures)
