use Rattle.std.proofs.Common.{List, [], ◌∷◌, ◌++◌, take, ap, sym, ◌∙◌, append_assoc}
use Rattle.std.proofs.lemmas.List.{append-nil}
use Rattle.std.proofs.lemmas.List.{take_all}
use Rattle.asm_tree.specs.declared.term.RawName.{RawName}
use Rattle.asm_faults.specs.At.{Name}
use Rattle.asm_typing.specs.BodyPieces.{texts_of}
use Rattle.asm_typing.proofs.Walks.{map_more}
use Rattle.asm_typing.proofs.collecting.add_all.Goals as goal

pub items-init : goal.items-init
items-init c = sym (append-nil c.args.names.now)

pub items-preserved : goal.items-preserved
items-preserved c =
    let text : RawName → Name = λ x. x.text in
    let xs : List RawName = c.args.items.now in
    let x : RawName = c.item-item.result in
    c.in_ok-add.ensures.ok
    ∙ ap (λ (names : List Name). names ++ x.text ∷ []) c.items.invariant
    ∙ append_assoc c.args.names.now (texts_of (take c.items.item-index xs)) (x.text ∷ [])
    ∙ ap (λ (names : List Name). c.args.names.now ++ names) (sym (map_more text xs c.items.item-index x c.items-test.true c.item-item.is))

pub returns : goal.returns
returns c = c.items.invariant ∙ ap (λ (xs : List RawName). c.args.names.now ++ texts_of xs) (take_all c.items.item-index c.args.items.now c.items-test.false)
