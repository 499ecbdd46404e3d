use Rattle.std.proofs.Common.{◌≡◌, ◌∙◌, ap, List, length, subst, sym, arith}
use Rattle.asm_domain.specs.declared.value.Value.{Value}
use Rattle.asm_node.specs.Term.{Outcome, and_then, put, value_of, calls_within}
use Rattle.asm_node.specs.Tree.{Const}
use Rattle.asm_eval.specs.World.{value_by}
use Rattle.asm_eval.proofs.Worth.{reads-put}
use Rattle.enc_group.specs.declared.group.Entry.{Entry}
use Rattle.enc_group.specs.Group.{Means, once, values_in}
use Rattle.enc_group.specs.Binding.{entries_before, values_before}
use Rattle.enc_group.proofs.Places.{length_values, length_values_before}
use Rattle.enc_term.proofs.forms.let_group.Goals as goal

pub returns-clause-means : goal.returns-clause-means
returns-clause-means c = λ v h w n x e t u m parts.
    let f : Value → Outcome Value = λ y. value_by w n (put x (Const y) e) u in
    let kept = c.merged.ensures.grows.holds v h in
    let bag = c.in_ok-bag.ensures.means v kept f (value_by w n e t) m parts in
    subst (λ o. Means v c.in_ok-group.group o) (λ i. and_then (value_by w n e t) (λ y. value_of w (calls_within w n) (reads-put w n x y e i) u))
    (c.in_ok-group.ensures.means v h (and_then (value_by w n e t) f) (subst (λ (es : List Entry). Means v es (and_then (value_by w n e t) f)) (sym c.slice.ensures) bag))

pub returns-in_err-group-clause-size : goal.returns-in_err-group-clause-size
returns-in_err-group-clause-size c =
    let long : length c.slice.result.now ≡ entries_before c.args.bodies.now (length c.args.bound.now) = ap (λ (es : List Entry). length es) c.slice.ensures ∙ sym (length_values c.in_ok-bag.bag) ∙ ap (λ (xs : List Value). length xs) c.in_ok-bag.ensures.values ∙ length_values_before c.args.bodies.now (length c.args.bound.now) in
    let same : length (once (values_in c.slice.result.now)) ≡ length (once (values_before c.args.bodies.now (length c.args.bound.now))) = ap (λ (es : List Entry). length (once (values_in es))) c.slice.ensures ∙ ap (λ (xs : List Value). length (once xs)) c.in_ok-bag.ensures.values in
    omega (arith, c.bind.ensures.size, c.merged.ensures.size, long, same)

pub returns-clause-size : goal.returns-clause-size
returns-clause-size c =
    let long : length c.slice.result.now ≡ entries_before c.args.bodies.now (length c.args.bound.now) = ap (λ (es : List Entry). length es) c.slice.ensures ∙ sym (length_values c.in_ok-bag.bag) ∙ ap (λ (xs : List Value). length xs) c.in_ok-bag.ensures.values ∙ length_values_before c.args.bodies.now (length c.args.bound.now) in
    let same : length (once (values_in c.slice.result.now)) ≡ length (once (values_before c.args.bodies.now (length c.args.bound.now))) = ap (λ (es : List Entry). length (once (values_in es))) c.slice.ensures ∙ ap (λ (xs : List Value). length (once xs)) c.in_ok-bag.ensures.values in
    omega (arith, c.bind.ensures.size, c.merged.ensures.size, long, same)
