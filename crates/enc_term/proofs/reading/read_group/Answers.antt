use Rattle.std.proofs.Common.{◌≡◌, ◌∙◌, sym, ap}
use Rattle.asm_node.specs.Values.{are_arguments}
use Rattle.asm_node.specs.Model.{machine_of}
use Rattle.enc_term.proofs.Standing.{bad_group}
use Rattle.enc_term.proofs.reading.read_group.Goals as goal

pub returns-then-not-are_arguments-clause-group : goal.returns-then-not-are_arguments-clause-group
returns-then-not-are_arguments-clause-group c = λ b are vss at.
    let m = machine_of c.args.context.now.model.now in
    let told : c.are_arguments.result ≡ are_arguments m.signature.domains c.args.function.now.domains c.args.values.now =
    c.are_arguments.ensures ∙ ap (λ ds. are_arguments ds c.slice.result.now c.args.values.now) (c.domains-domains.ensures.value ∙ ap (λ s. s.domains) c.signature.ensures)
    ∙ ap (λ ns. are_arguments m.signature.domains ns c.args.values.now) c.slice.ensures in
    bad_group b m c.args.context.now.bits.now c.args.context.now.version are c.args.number c.args.function.now c.args.values.now vss at c.in_ok-constant.field-0
    (sym told ∙ c.if-not-are_arguments.true) c.in_ok-constant.ensures.values c.in_ok-constant.ensures.within
