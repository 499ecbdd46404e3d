use Rattle.std.proofs.Common.{List, ◌++◌, ap, sym, ◌∙◌, arith, flat_map}
use Rattle.asm_tree.specs.declared.unit.RawUnit.{RawUnit}
use Rattle.asm_faults.specs.Files.{Of}
use Rattle.asm_faults.specs.Bodies.{RuleHead}
use Rattle.asm_typing.specs.BodyPieces.{head_in, main_heads}
use Rattle.asm_typing.proofs.Acting.{list_files_more, list_files_all}
use Rattle.asm_typing.proofs.BodyParts.{heads_are}
use Rattle.asm_typing.proofs.collecting.all_heads.Goals as goal

pub units-init : goal.units-init
units-init c = c.new-heads.ensures

pub units-preserved : goal.units-preserved
units-preserved c =
    let g : Of RawUnit → List RuleHead = λ p. flat_map (head_in c.args.known.now) p.1.definitions in
    list_files_more g c.args.units.now c.units.number c.index-units-number.result (flat_map (head_in c.args.known.now) c.slice.result.now) c.units.heads c.in_ok-heads.heads (omega arith) c.index-units-number.is (ap (flat_map (head_in c.args.known.now)) c.slice.ensures) c.units.invariant c.in_ok-heads.ensures

pub returns : goal.returns
returns c =
    let g : Of RawUnit → List RuleHead = λ p. flat_map (head_in c.args.known.now) p.1.definitions in
    c.in_ok-all.ensures
    ∙ ap (λ (heads : List RuleHead). heads ++ main_heads c.args.units.now) (list_files_all g c.args.units.now c.units.number c.units.heads (omega arith) c.units.invariant)
    ∙ sym (heads_are c.args.known.now c.args.units.now)
