use Rattle.std.proofs.Common.{List, ◌++◌, map, Option, ap, sym, ◌∙◌, arith}
use Rattle.std.proofs.lemmas.List.{append-nil}
use Rattle.std.proofs.Common.{◌-◌}
use Rattle.asm_tree.specs.declared.unit.RawMain.{RawMain}
use Rattle.asm_tree.specs.declared.unit.LoadedUnit.{LoadedUnit}
use Rattle.asm_faults.specs.Files.{Of, to_list}
use Rattle.asm_tree.specs.declared.term.RawName.{RawName}
use Rattle.asm_faults.specs.At.{Name}
use Rattle.asm_faults.specs.Files.{main_names}
use Rattle.asm_typing.specs.BodyPieces.{main_texts}
use Rattle.asm_typing.proofs.BodyParts.{no_units}
use Rattle.asm_typing.proofs.Walks.{named_last}
use Rattle.asm_typing.proofs.collecting.main_name.Goals as goal

pub returns-then-count-eq0 : goal.returns-then-count-eq0
returns-then-count-eq0 c = sym (append-nil c.args.names.now) ∙ ap (λ (us : List LoadedUnit). c.args.names.now ++ main_texts us) (sym (no_units c.args.units.now (omega arith)))

pub returns-in_ok-add-in-Some : goal.returns-in_ok-add-in-Some
returns-in_ok-add-in-Some c =
    let text : Of RawName → Name = λ p. p.1.text in
    let names : Option RawMain → List (Of RawName) = λ o. map (λ (x : RawName). (c.args.count - 1, x)) (map (λ (m : RawMain). m.name) (to_list o)) in
    c.in_ok-add-in-Some.ensures.ok ∙ ap (λ (xs : List (Of RawName)). c.args.names.now ++ map text xs) (sym (named_last main_names c.args.units.now (c.args.count - 1) c.index-units-last.result (omega arith) c.index-units-last.is ∙ ap (λ (u : LoadedUnit). names u.unit.main) c.index-units-last.is ∙ ap names c.in-Some.is))

pub returns-in-None : goal.returns-in-None
returns-in-None c =
    let text : Of RawName → Name = λ p. p.1.text in
    let names : Option RawMain → List (Of RawName) = λ o. map (λ (x : RawName). (c.args.count - 1, x)) (map (λ (m : RawMain). m.name) (to_list o)) in
    sym (append-nil c.args.names.now) ∙ ap (λ (xs : List (Of RawName)). c.args.names.now ++ map text xs) (sym (named_last main_names c.args.units.now (c.args.count - 1) c.index-units-last.result (omega arith) c.index-units-last.is ∙ ap (λ (u : LoadedUnit). names u.unit.main) c.index-units-last.is ∙ ap names c.in-None.is))
