use Rattle.std.proofs.Common.{ℕ, ap, ◌∙◌}
use Rattle.asm_sign.specs.Vocabulary.{Vocabulary}
use Rattle.asm_tree.specs.declared.unit.RawFunction.{RawFunction}
use Rattle.asm_faults.specs.First.{noted}
use Rattle.asm_faults.specs.Terms as terms
use Rattle.asm_faults.specs.Terms.{Scope, judged}
use Rattle.asm_typing.proofs.functions.given_term.Goals as goal

pub returns : goal.returns
returns c =
    let v : Vocabulary = c.args.known.now in
    let n : ℕ = c.args.unit in
    let f : RawFunction = c.args.item.now in
    c.in_ok-asked.ensures.faults
    ∙ ap (λ (s : Scope). noted c.args.first.now (terms.asked v n c.args.want s (judged v n f.term)))
    (c.in_ok-within.ensures n ∙ (λ j. terms.within v n (c.slice.ensures j) (c.new-scope.ensures j)))
