use Rattle.std.proofs.Common.{◌≡◌, ℕ, Bool as Truth, List, [], ◌∷◌, length, Option, ap, sym, ◌∙◌, if◌then◌else◌}
use Rattle.std.specs.Prelude.{nat_eq}
use Rattle.asm_sign.specs.declared.function.DeclaredDomain as sign
use Rattle.asm_sign.specs.declared.function.Function.{Function}
use Rattle.asm_sign.specs.Vocabulary.{Vocabulary}
use Rattle.asm_node.specs.declared.term_type.TermType.{TermType}
use Rattle.asm_node.specs.Types.{domain_type}
use Rattle.asm_tree.specs.declared.term.RawBinder.{RawBinder}
use Rattle.asm_tree.specs.declared.unit.RawFunction.{RawFunction}
use Rattle.asm_faults.specs.declared.fault.Fault.{Fault}
use Rattle.asm_faults.specs.declared.fault.ModelFault.TheVariants.{WrongKind, WrongArity}
use Rattle.asm_faults.specs.At.{token, fault_at}
use Rattle.asm_faults.specs.First.{noted}
use Rattle.asm_faults.specs.Terms as terms
use Rattle.asm_faults.specs.Terms.{judged}
use Rattle.asm_faults.specs.Bodies.{parameter_faults}
use Rattle.asm_typing.specs.Given.{may_be}
use Rattle.asm_typing.proofs.BodyParts.{noted_five}
use Rattle.asm_typing.proofs.functions.body_of.Goals as goal

pub returns : goal.returns
returns c =
    let v : Vocabulary = c.args.known.now in
    let n : ℕ = c.args.unit in
    let g : Function = c.args.function.now in
    let f : RawFunction = c.args.item.now in
    let ps : List RawBinder = c.slice-items.result.now in
    let first : Option Fault = c.args.first.now in
    let kind : List Fault = if may_be c.args.given v.domains g then [] else fault_at WrongKind n f.name ∷ [] in
    let arity : List RawBinder → List Fault = λ bs. if nat_eq (length g.domains) (length bs) then [] else token WrongArity n f.name.at f.name.text ∷ [] in
    let own : List RawBinder → List Fault = λ bs. terms.binder_faults v n bs in
    let same : List RawBinder → List ℕ → List Fault = λ bs ds. parameter_faults v.domains n bs ds in
    let given : Option TermType → List Fault = λ want. terms.asked v n want (terms.within v n f.parameters []) (judged v n f.term) in
    let params : ps ≡ f.parameters = c.slice-items.ensures in
    let may : c.may_be-may.result ≡ may_be c.args.given v.domains g = c.may_be-may.ensures ∙ ap (λ (ds : List sign.DeclaredDomain). may_be c.args.given ds g) c.requires in
    let one : c.note_unless.new.first ≡ noted first kind = c.in_ok-note_unless.ensures ∙ ap (λ (b : Truth). noted first (if b then [] else fault_at WrongKind n f.name ∷ [])) may in
    let two : c.arity.new.first ≡ noted (noted first kind) (arity f.parameters) =
    c.in_ok-arity.ensures
    ∙ (λ j. noted c.note_unless.new.first (if nat_eq (c.len.ensures j) (length ps) then [] else token WrongArity n f.name.at f.name.text ∷ []))
    ∙ (λ j. noted (one j) (arity (params j))) in
    let three : c.binder_faults.new.first ≡ noted (noted (noted first kind) (arity f.parameters)) (own f.parameters) = c.in_ok-binder_faults.ensures ∙ (λ j. noted (two j) (own (params j))) in
    let four : c.parameters.new.first ≡ noted (noted (noted (noted first kind) (arity f.parameters)) (own f.parameters)) (same f.parameters g.domains) =
    c.in_ok-parameters.ensures ∙ (λ j. noted (three j) (same (params j) (c.slice.ensures j))) in
    c.in_ok-given_term.ensures
    ∙ (λ j. noted (four j) (given (c.domain_type.ensures j)))
    ∙ sym (noted_five first kind (arity f.parameters) (own f.parameters) (same f.parameters g.domains) (given (domain_type v.domains g.codomain)))
