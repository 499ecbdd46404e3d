use Rattle.std.proofs.Common.{length, get_or, ◌∙◌, sym, ap, arith}
use Rattle.std.specs.Ordering.{is_eq}
use Rattle.std.proofs.lemmas.Bool.{le-ltb}
use Rattle.asm_domain.specs.declared.value.Value.TheVariants.{Undef}
use Rattle.asm_update.proofs.Clashes.{not_there, at_place}
use Rattle.asm_update.proofs.Ordered.{get_or_any}
use Rattle.asm_update.proofs.clash.has.Goals as goal

pub returns-then-place-pairs : goal.returns-then-place-pairs
returns-then-place-pairs c =
    let ps = c.args.pairs.now in
    let place = c.place_of-place.result in
    let x = get_or ps place (0, Undef) in
    c.is_eq.ensures ∙ ap is_eq c.order.ensures
    ∙ at_place ps place c.args.pair x c.requires c.place_of-place.ensures.before c.place_of-place.ensures.after c.if-place-pairs.true (get_or_any ps place (0, Undef) x c.if-place-pairs.true)

pub returns-else-place-pairs : goal.returns-else-place-pairs
returns-else-place-pairs c =
    let ps = c.args.pairs.now in
    let place = c.place_of-place.result in
    le-ltb place (length ps) c.if-place-pairs.false
    ∙ sym (not_there ps place c.args.pair c.requires c.place_of-place.ensures.before c.place_of-place.ensures.after (λ d lt _. omega (arith, lt, c.if-place-pairs.false)))
