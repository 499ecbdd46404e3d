use Rattle.std.proofs.Common.{List, [], ◌∷◌, ◌++◌, map, Option, ap, sym, ◌∙◌}
use Rattle.std.proofs.lemmas.List.{append-nil}
use Rattle.asm_tree.specs.declared.unit.RawDefinition.{RawDefinition}
use Rattle.asm_sign.specs.Vocabulary.{Vocabulary}
use Rattle.asm_faults.specs.Bodies.{RuleHead}
use Rattle.asm_node.specs.declared.term_type.TermType.{TermType}
use Rattle.asm_tree.specs.declared.term.RawBinder.{RawBinder}
use Rattle.asm_faults.specs.Terms.{type_named}
use Rattle.asm_typing.specs.BodyPieces.{head_in}
use Rattle.asm_typing.proofs.collecting.add_head.Goals as goal

pub returns-in_ok-all-in-Rule : goal.returns-in_ok-all-in-Rule
returns-in_ok-all-in-Rule c =
    let v : Vocabulary = c.args.known.now in
    let head : List (Option TermType) → RuleHead = λ types. record { name = c.in-Rule.name.text; types = types } in
    let type : RawBinder → Option TermType = λ b. type_named v b.domain.text in
    c.in_ok-all-in-Rule.ensures
    ∙ ap (λ (types : List (Option TermType)). c.args.heads ++ head types ∷ []) (c.in_ok-types-in-Rule.ensures ∙ ap (map type) c.slice.ensures)
    ∙ ap (λ (d : RawDefinition). c.args.heads ++ head_in v d) (sym c.in-Rule.is)

pub returns-in-Range : goal.returns-in-Range
returns-in-Range c = sym (append-nil c.args.heads) ∙ ap (λ (d : RawDefinition). c.args.heads ++ head_in c.args.known.now d) (sym c.in-Range.is)

pub returns-in-List : goal.returns-in-List
returns-in-List c = sym (append-nil c.args.heads) ∙ ap (λ (d : RawDefinition). c.args.heads ++ head_in c.args.known.now d) (sym c.in-List.is)

pub returns-in-Function : goal.returns-in-Function
returns-in-Function c = sym (append-nil c.args.heads) ∙ ap (λ (d : RawDefinition). c.args.heads ++ head_in c.args.known.now d) (sym c.in-Function.is)

pub returns-in-Invariant : goal.returns-in-Invariant
returns-in-Invariant c = sym (append-nil c.args.heads) ∙ ap (λ (d : RawDefinition). c.args.heads ++ head_in c.args.known.now d) (sym c.in-Invariant.is)
