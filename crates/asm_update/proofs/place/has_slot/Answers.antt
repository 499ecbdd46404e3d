use Rattle.std.proofs.Common.{length, ◌∙◌, sym, arith}
use Rattle.std.proofs.lemmas.Bool.{le-ltb}
use Rattle.asm_domain.specs.declared.value.Value.TheVariants.{Undef}
use Rattle.asm_update.proofs.Differing.{slot_here, no_slot}
use Rattle.asm_update.proofs.place.has_slot.Goals as goal

pub returns-then-place-pairs : goal.returns-then-place-pairs
returns-then-place-pairs c =
    slot_here c.args.pairs.now c.args.slot c.first_of-place.result c.requires c.first_of-place.ensures.below c.first_of-place.ensures.not_below (0, Undef) c.if-place-pairs.true

pub returns-else-place-pairs : goal.returns-else-place-pairs
returns-else-place-pairs c =
    le-ltb c.first_of-place.result (length c.args.pairs.now) c.if-place-pairs.false
    ∙ sym (no_slot c.args.pairs.now c.args.slot c.first_of-place.result c.requires c.first_of-place.ensures.below c.first_of-place.ensures.not_below (0, Undef) (λ lt _. omega (arith, lt, c.if-place-pairs.false)))
