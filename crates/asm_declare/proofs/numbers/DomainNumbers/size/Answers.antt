use Rattle.std.proofs.Common.{ap, sym, ◌∙◌}
use Rattle.asm_faults.specs.FunctionFaults.{size_of}
use Rattle.asm_declare.proofs.Making.{size_found}
use Rattle.asm_declare.proofs.numbers.DomainNumbers.size.Goals as goal

pub returns-in-Some-clause-value : goal.returns-in-Some-clause-value
returns-in-Some-clause-value c =
    size_found c.self.inside.domains.now c.args.number c.in-Some.declared.now c.size.result (sym c.in-Some.ensures.value) c.size.ensures.value ∙ ap (λ ds. size_of ds c.args.number) c.self.view_is
