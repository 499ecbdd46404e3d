use Rattle.std.proofs.Common.{◌≡◌, ℕ, Option, Some, None, ap}
use Rattle.std.specs.Option.{unwrap_or}
use Rattle.asm_node.specs.Values.{whole}
use Rattle.asm_faults.specs.FunctionFaults.{domain_number}
use Rattle.asm_typing.proofs.missing_pass.number_or_whole.Goals as goal

pub returns-in-Some : goal.returns-in-Some
returns-in-Some c =
    let own : Some c.in-Some.number ≡ domain_number c.args.known.now.domains c.args.name.now.text = c.in-Some.ensures in ap (λ (o : Option ℕ). unwrap_or o whole) own

pub returns-in-None : goal.returns-in-None
returns-in-None c =
    let own : None ≡ domain_number c.args.known.now.domains c.args.name.now.text = c.in-None.ensures in ap (λ (o : Option ℕ). unwrap_or o whole) own
