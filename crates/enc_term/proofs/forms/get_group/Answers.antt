use Rattle.std.proofs.Common.{◌≡◌, ◌∙◌, ap, List, length, arith, sym}
use Rattle.asm_domain.specs.declared.value.Value.{Value}
use Rattle.enc_group.specs.declared.group.Entry.{Entry}
use Rattle.enc_group.specs.Group.{once, values_in}
use Rattle.enc_group.specs.Binding.{entries_before, values_before}
use Rattle.enc_group.proofs.Places.{length_values, length_values_before}
use Rattle.enc_term.proofs.forms.get_group.Goals as goal

pub returns-in_err-group-clause-size : goal.returns-in_err-group-clause-size
returns-in_err-group-clause-size c =
    let long : length c.slice.result.now ≡ entries_before c.args.results.now (length c.args.arguments.now) = ap (λ (es : List Entry). length es) c.slice.ensures ∙ sym (length_values c.in_ok-bag.bag) ∙ ap (λ (xs : List Value). length xs) c.in_ok-bag.ensures.values ∙ length_values_before c.args.results.now (length c.args.arguments.now) in
    let same : length (once (values_in c.slice.result.now)) ≡ length (once (values_before c.args.results.now (length c.args.arguments.now))) = ap (λ (es : List Entry). length (once (values_in es))) c.slice.ensures ∙ ap (λ (xs : List Value). length (once xs)) c.in_ok-bag.ensures.values in
    omega (arith, c.bind_tuples.ensures.size, c.merged.ensures.size, long, same)

pub returns-clause-size : goal.returns-clause-size
returns-clause-size c =
    let long : length c.slice.result.now ≡ entries_before c.args.results.now (length c.args.arguments.now) = ap (λ (es : List Entry). length es) c.slice.ensures ∙ sym (length_values c.in_ok-bag.bag) ∙ ap (λ (xs : List Value). length xs) c.in_ok-bag.ensures.values ∙ length_values_before c.args.results.now (length c.args.arguments.now) in
    let same : length (once (values_in c.slice.result.now)) ≡ length (once (values_before c.args.results.now (length c.args.arguments.now))) = ap (λ (es : List Entry). length (once (values_in es))) c.slice.ensures ∙ ap (λ (xs : List Value). length (once xs)) c.in_ok-bag.ensures.values in
    omega (arith, c.bind_tuples.ensures.size, c.merged.ensures.size, long, same)
