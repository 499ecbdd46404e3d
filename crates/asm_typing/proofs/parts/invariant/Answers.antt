use Rattle.std.proofs.Common.{ℕ, List, [], ◌∷◌, Option, Some, ap, sym, ◌∙◌, if◌then◌else◌, flat_map}
use Rattle.asm_sign.specs.Vocabulary.{Vocabulary}
use Rattle.asm_node.specs.declared.term_type.TermType.TheVariants.{Boolean}
use Rattle.asm_tree.specs.declared.term.RawName.{RawName}
use Rattle.asm_tree.specs.declared.term.RawTerm.{RawTerm}
use Rattle.asm_faults.specs.declared.fault.Fault.{Fault}
use Rattle.asm_faults.specs.declared.fault.ModelFault.TheVariants.{Unknown}
use Rattle.asm_faults.specs.At.{fault_at}
use Rattle.asm_faults.specs.First.{noted}
use Rattle.asm_faults.specs.DomainFaults.{is_listed}
use Rattle.asm_faults.specs.Terms as terms
use Rattle.asm_faults.specs.Terms.{Scope, judged}
use Rattle.asm_faults.proofs.Noting.{noted_append}
use Rattle.asm_typing.proofs.parts.invariant.Goals as goal

pub returns : goal.returns
returns c =
    let v : Vocabulary = c.args.known.now in
    let n : ℕ = c.args.unit in
    let t : RawTerm = c.args.item.now.term in
    let over : List RawName → List Fault = flat_map (λ (name : RawName). if is_listed c.args.names.now name.text then [] else fault_at Unknown n name ∷ []) in
    let truth : Scope → List Fault = λ s. terms.asked v n (Some Boolean) s (judged v n t) in
    c.in_ok-asked.ensures.faults
    ∙ ap (λ (s : Scope). noted c.undeclared.new.first (truth s)) c.new-scope.ensures
    ∙ ap (λ (x : Option Fault). noted x (truth [])) (c.in_ok-undeclared.ensures ∙ ap (λ (xs : List RawName). noted c.args.first.now (over xs)) c.slice.ensures)
    ∙ sym (noted_append c.args.first.now (over c.args.item.now.over) (truth []))
