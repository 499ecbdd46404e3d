use Rattle.asm_typing.proofs.BodyParts.{bodies_noted}
use Rattle.asm_typing.proofs.body_pass.each_body.Goals as goal

pub returns : goal.returns
returns c =
    bodies_noted c.args.known.now c.args.heads.now c.args.names.now c.args.units.now c.args.first.now c.repeated.new.first c.parts.new.first c.parts-2.new.first c.main_body.new.first c.parts-3.new.first c.initial_values.new.first
    c.requires.heads c.requires.names c.in_ok-repeated.ensures c.in_ok-parts.ensures c.in_ok-parts-2.ensures c.in_ok-main_body.ensures c.in_ok-parts-3.ensures c.in_ok-initial_values.ensures
