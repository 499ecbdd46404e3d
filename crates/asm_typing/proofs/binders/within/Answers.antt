use Rattle.std.proofs.Common.{◌≡◌, ℕ, ◌+◌, ◌-◌, ◌<◌, List, [], ◌∷◌, ◌++◌, length, drop, get_or, Option, ap, sym, ◌∙◌, arith}
use Rattle.asm_node.specs.declared.term_type.TermType.{TermType}
use Rattle.asm_tree.specs.declared.term.RawBinder.{RawBinder}
use Rattle.asm_faults.specs.Terms.{Scope, within, type_named}
use Rattle.asm_typing.proofs.Steps.{within_step}
use Rattle.asm_typing.proofs.binders.within.Goals as goal

pub items-preserved : goal.items-preserved
items-preserved c = λ n.
    let v = c.args.known.now in
    let bs : List RawBinder = c.args.items.now in
    let item : RawBinder = c.index-items-count.result in
    let inner : Scope = within v n (drop (length bs - c.items.index) bs) c.args.scope.now in
    let lt : length bs - (c.items.index + 1) < length bs = omega arith in
    let next : length bs - c.items.index ≡ (length bs - (c.items.index + 1)) + 1 = omega arith in
    let same : length bs - 1 - c.items.index ≡ length bs - (c.items.index + 1) = omega arith in
    c.in_ok-bind.ensures.ok
    ∙ ap (λ (scope : Scope). scope ++ record { name = item.variable.text; type = c.type_named.result } ∷ []) (c.items.invariant n)
    ∙ ap (λ (t : Option TermType). inner ++ record { name = item.variable.text; type = t } ∷ []) c.type_named.ensures
    ∙ ap (λ (b : RawBinder). inner ++ record { name = b.variable.text; type = type_named v b.domain.text } ∷ []) (c.index-items-count.is ∙ ap (λ (k : ℕ). get_or bs k item) same)
    ∙ sym (within_step v n bs c.args.scope.now (length bs - c.items.index) (length bs - (c.items.index + 1)) item lt next)

pub returns : goal.returns
returns c = λ n.
    let e : length c.args.items.now - c.items.index ≡ 0 = omega arith in
    c.items.invariant n ∙ ap (λ (k : ℕ). within c.args.known.now n (drop k c.args.items.now) c.args.scope.now) e
