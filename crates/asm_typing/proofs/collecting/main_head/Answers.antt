use Rattle.std.proofs.Common.{List, [], ◌∷◌, ◌++◌, map, Option, Some, None, ap, sym, ◌∙◌, arith}
use Rattle.std.proofs.lemmas.List.{append-nil}
use Rattle.std.proofs.Common.{◌-◌}
use Rattle.asm_tree.specs.declared.unit.RawMain.{RawMain}
use Rattle.asm_tree.specs.declared.unit.RawUnit.{RawUnit}
use Rattle.asm_tree.specs.declared.unit.LoadedUnit.{LoadedUnit}
use Rattle.asm_faults.specs.Files.{Of}
use Rattle.asm_faults.specs.Bodies.{RuleHead}
use Rattle.asm_node.specs.declared.term_type.TermType.{TermType}
use Rattle.asm_typing.specs.BodyPieces.{main_heads}
use Rattle.asm_typing.proofs.BodyParts.{listed_last, no_units}
use Rattle.asm_typing.proofs.collecting.main_head.Goals as goal

pub returns-then-count-eq0 : goal.returns-then-count-eq0
returns-then-count-eq0 c = sym (append-nil c.args.heads) ∙ ap (λ (us : List LoadedUnit). c.args.heads ++ main_heads us) (sym (no_units c.args.units.now (omega arith)))

pub returns-in_ok-all-in-Some : goal.returns-in_ok-all-in-Some
returns-in_ok-all-in-Some c =
    let head : Of RawMain → RuleHead = λ p. record { name = p.1.name.text; types = [] } in
    c.in_ok-all-in-Some.ensures
    ∙ ap (λ (types : List (Option TermType)). c.args.heads ++ record { name = c.in-Some.main.name.text; types = types } ∷ []) c.new-types.ensures
    ∙ ap (λ (ms : List (Of RawMain)). c.args.heads ++ map head ms) (sym (listed_last (λ (r : RawUnit). r.main) c.args.units.now (c.args.count - 1) c.index-units-last.result (Some c.in-Some.main) (omega arith) c.index-units-last.is c.in-Some.is))

pub returns-in-None : goal.returns-in-None
returns-in-None c =
    let head : Of RawMain → RuleHead = λ p. record { name = p.1.name.text; types = [] } in
    sym (append-nil c.args.heads) ∙ ap (λ (ms : List (Of RawMain)). c.args.heads ++ map head ms) (sym (listed_last (λ (r : RawUnit). r.main) c.args.units.now (c.args.count - 1) c.index-units-last.result None (omega arith) c.index-units-last.is c.in-None.is))
