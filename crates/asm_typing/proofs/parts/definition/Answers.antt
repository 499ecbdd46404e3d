use Rattle.std.proofs.Common.{◌≡◌, subst, sym}
use Rattle.std.specs.Prelude.{OnOk}
use Rattle.asm_faults.specs.First.{noted}
use Rattle.asm_typing.specs.declared.parts.Part.{Part}
use Rattle.asm_typing.specs.BodyPieces.{part_faults}
use Rattle.asm_typing.proofs.parts.definition.Goals as goal

pub returns-in-Functions : goal.returns-in-Functions
returns-in-Functions c =
    subst (λ (p : Part). OnOk c.function_part.result (c.function_part.new.first ≡ noted c.args.first.now (part_faults p c.args.known.now c.args.heads.now c.args.names.now (c.args.unit, c.args.item.now)))) (sym c.in-Functions.is) c.function_part.ensures

pub returns-in-Rules : goal.returns-in-Rules
returns-in-Rules c =
    subst (λ (p : Part). OnOk c.rule_part.result (c.rule_part.new.first ≡ noted c.args.first.now (part_faults p c.args.known.now c.args.heads.now c.args.names.now (c.args.unit, c.args.item.now)))) (sym c.in-Rules.is) c.rule_part.ensures

pub returns-in-Invariants : goal.returns-in-Invariants
returns-in-Invariants c =
    subst (λ (p : Part). OnOk c.invariant_part.result (c.invariant_part.new.first ≡ noted c.args.first.now (part_faults p c.args.known.now c.args.heads.now c.args.names.now (c.args.unit, c.args.item.now)))) (sym c.in-Invariants.is) c.invariant_part.ensures
