use Rattle.std.proofs.Common.{◌≡◌, ℕ, ◌+◌, List, drop, slice_get, Option, refl, ap, sym, ◌∙◌}
use Rattle.std.proofs.lemmas.List.{drop_all}
use Rattle.asm_sign.specs.declared.function.DeclaredDomain as sign
use Rattle.asm_tree.specs.declared.term.RawBinder.{RawBinder}
use Rattle.asm_faults.specs.declared.fault.Fault.{Fault}
use Rattle.asm_faults.specs.First.{noted}
use Rattle.asm_faults.specs.Bodies.{parameter_faults}
use Rattle.asm_typing.specs.BodyPieces.{parameter_at_faults}
use Rattle.asm_typing.proofs.BodyParts.{parameter_next, parameter_end}
use Rattle.asm_typing.proofs.functions.parameters.Goals as goal

pub items-init : goal.items-init
items-init c = refl

pub items-preserved : goal.items-preserved
items-preserved c =
    let domains : List sign.DeclaredDomain = c.args.known.now.domains in
    let n : ℕ = c.args.unit in
    let bs : List RawBinder = c.args.items.now in
    let ds : List ℕ = c.args.numbers.now in
    let i : ℕ = c.items.index in
    let x : RawBinder = c.index-items-index.result in
    let first : Option Fault = c.items.first in
    let number : c.number_at.result ≡ slice_get ds i = c.number_at.ensures in
    ap (λ (f : Option Fault). noted f (parameter_faults domains n (drop (i + 1) bs) (drop (i + 1) ds)))
    (c.in_ok-parameter.ensures ∙ ap (λ (d : Option ℕ). noted first (parameter_at_faults domains n x d)) number)
    ∙ parameter_next domains n bs ds i x first c.items-test.true c.index-items-index.is
    ∙ c.items.invariant

pub returns : goal.returns
returns c =
    sym (parameter_end c.args.known.now.domains c.args.unit (drop c.items.index c.args.items.now) (drop c.items.index c.args.numbers.now) c.items.first (drop_all c.items.index c.args.items.now c.items-test.false))
    ∙ c.items.invariant
