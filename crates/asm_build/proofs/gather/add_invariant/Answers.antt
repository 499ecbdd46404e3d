use Rattle.std.proofs.Common.{map, sym, ap}
use Rattle.asm_tree.specs.declared.unit.RawDefinition.{RawDefinition}
use Rattle.asm_tree.specs.declared.unit.RawInvariant.{RawInvariant}
use Rattle.asm_faults.specs.Files.{Of, invariant_in}
use Rattle.asm_faults.specs.Model.{tree_of}
use Rattle.asm_build.proofs.Adding.{added_none, added_same, node_added}
use Rattle.asm_build.proofs.gather.add_invariant.Goals as goal

pub returns-in_ok-push-in-Invariant : goal.returns-in_ok-push-in-Invariant
returns-in_ok-push-in-Invariant c n = added_same _ _ (λ number. ap (λ (d : RawDefinition). map (λ (p : Of RawInvariant). tree_of number c.args.known.now p.1.term) (invariant_in (n, d))) (sym c.in-Invariant.is))
    (node_added _ c.in_ok-node-in-Invariant.node c.in_ok-node-in-Invariant.ensures.grown c.in_ok-node-in-Invariant.ensures.made c.in_ok-push-in-Invariant.ensures.ok)

pub returns-in-Range : goal.returns-in-Range
returns-in-Range c n = added_none c.args.maker.now _ c.args.invariants.now (λ number. ap (λ (d : RawDefinition). map (λ (p : Of RawInvariant). tree_of number c.args.known.now p.1.term) (invariant_in (n, d))) c.in-Range.is)

pub returns-in-List : goal.returns-in-List
returns-in-List c n = added_none c.args.maker.now _ c.args.invariants.now (λ number. ap (λ (d : RawDefinition). map (λ (p : Of RawInvariant). tree_of number c.args.known.now p.1.term) (invariant_in (n, d))) c.in-List.is)

pub returns-in-Function : goal.returns-in-Function
returns-in-Function c n = added_none c.args.maker.now _ c.args.invariants.now (λ number. ap (λ (d : RawDefinition). map (λ (p : Of RawInvariant). tree_of number c.args.known.now p.1.term) (invariant_in (n, d))) c.in-Function.is)

pub returns-in-Rule : goal.returns-in-Rule
returns-in-Rule c n = added_none c.args.maker.now _ c.args.invariants.now (λ number. ap (λ (d : RawDefinition). map (λ (p : Of RawInvariant). tree_of number c.args.known.now p.1.term) (invariant_in (n, d))) c.in-Rule.is)
