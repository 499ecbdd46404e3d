use Rattle.std.proofs.Common.{◌+◌, ◌∙◌, sym, arith, true≢false, eq-eqb, get_or}
use Rattle.asm_domain.specs.declared.value.Value.TheVariants.{Undef}
use Rattle.asm_update.proofs.Differing.{at_most_one}
use Rattle.asm_update.proofs.place.has_two.Goals as goal

pub returns-then-next-pairs : goal.returns-then-next-pairs
returns-then-next-pairs c isnt =
    at_most_one c.args.pairs.now c.args.slot c.first_of-next.result c.requires c.first_of-next.ensures.below c.first_of-next.ensures.not_below (0, Undef)
    (λ _ is. true≢false (sym (eq-eqb (get_or c.args.pairs.now (c.first_of-next.result + 1) (0, Undef)).0 c.args.slot is) ∙ isnt))

pub returns-else-next-pairs : goal.returns-else-next-pairs
returns-else-next-pairs c _ =
    at_most_one c.args.pairs.now c.args.slot c.first_of-next.result c.requires c.first_of-next.ensures.below c.first_of-next.ensures.not_below (0, Undef)
    (λ lt _. omega (arith, lt, c.if-next-pairs.false))
