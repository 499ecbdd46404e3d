use Rattle.std.proofs.Common.{◌≡◌, ℕ, Bool as Truth, List, [], ◌∷◌, length, Option, sym, ap, ◌∙◌, if◌then◌else◌}
use Rattle.std.specs.Prelude.{map, nat_eq}
use Rattle.asm_sign.specs.declared.function.Function.{Function}
use Rattle.asm_sign.specs.Kind.{is_kept}
use Rattle.asm_sign.specs.Vocabulary.{Vocabulary}
use Rattle.asm_node.specs.declared.term_type.TermType.{TermType}
use Rattle.asm_node.specs.Types.{domain_type}
use Rattle.asm_tree.specs.declared.term.RawTerm.{RawTerm}
use Rattle.asm_faults.specs.declared.fault.Fault.{Fault}
use Rattle.asm_faults.specs.declared.fault.ModelFault.TheVariants.{WrongKind, WrongArity}
use Rattle.asm_faults.specs.At.{Name, token}
use Rattle.asm_faults.specs.First.{noted}
use Rattle.asm_faults.specs.Terms as terms
use Rattle.asm_faults.specs.Terms.{Scope, judged, function_named}
use Rattle.asm_typing.specs.Pieces.{terms_judged}
use Rattle.asm_typing.proofs.RuleSteps.{update_known}
use Rattle.asm_typing.proofs.rule.update_of.Goals as goal

pub returns-clause-faults : goal.returns-clause-faults
returns-clause-faults c =
    let v : Vocabulary = c.args.known.now in
    let n : ℕ = c.args.unit in
    let s : Scope = c.args.scope.now in
    let at : ℕ = c.args.at in
    let f : Name = c.args.name.now in
    let ts : List RawTerm = c.args.items.now in
    let t : RawTerm = c.args.value.now in
    let first : Option Fault = c.args.first.now in
    let g : Function = c.args.function.now in
    let kind : List Fault = if is_kept g.kind then [] else token WrongKind n at f ∷ [] in
    let arity : List Fault = if nat_eq (length g.domains) (length ts) then [] else token WrongArity n at f ∷ [] in
    let args : Scope → List (Option TermType) → List Fault = λ scope types. terms.asked_each v n types scope (terms_judged v n ts) in
    let own : Scope → Option TermType → List Fault = λ scope want. terms.asked v n want scope (judged v n t) in
    let types : c.slice-2.result.now ≡ map (domain_type v.domains) g.domains = c.slice-2.ensures ∙ c.in_ok-types.ensures ∙ ap (map (domain_type v.domains)) c.slice.ensures in
    let one : c.note_unless.new.first ≡ noted first kind = c.in_ok-note_unless.ensures ∙ ap (λ (b : Truth). noted first (if b then [] else token WrongKind n at f ∷ [])) c.is_kept.ensures in
    let two : c.arity.new.first ≡ noted (noted first kind) arity = c.in_ok-arity.ensures ∙ (λ j. noted (one j) (if nat_eq (c.len.ensures j) (length ts) then [] else token WrongArity n at f ∷ [])) in
    let three : c.asked_each.new.first ≡ noted (noted (noted first kind) arity) (args s (map (domain_type v.domains) g.domains)) = c.in_ok-asked_each.ensures.faults ∙ (λ j. noted (two j) (args s (types j))) in
    c.in_ok-asked.ensures.faults
    ∙ (λ j. noted (three j) (own (c.in_ok-asked_each.ensures.scope j) (c.domain_type.ensures j)))
    ∙ sym (update_known v [] n first at f s ts t g)
