use Rattle.std.proofs.Common.{Option, ap, sym, ◌∙◌, flat_map}
use Rattle.asm_faults.specs.declared.fault.Fault.{Fault}
use Rattle.asm_faults.specs.First.{noted}
use Rattle.asm_typing.specs.BodyPieces.{body_in}
use Rattle.asm_typing.proofs.BodyParts.{functions_split}
use Rattle.asm_typing.proofs.functions.given_functions.Goals as goal

pub returns : goal.returns
returns c =
    c.in_ok-each_function.ensures
    ∙ ap (λ (x : Option Fault). noted x (flat_map (body_in c.args.known.now c.args.given c.args.unit) c.args.items.now)) c.in_ok-repeated.ensures
    ∙ sym (functions_split c.args.known.now c.args.given c.args.unit c.args.items.now c.args.first.now)
