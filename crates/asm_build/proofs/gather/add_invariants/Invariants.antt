use Rattle.std.proofs.Common.{ℕ, map, take, flat_map}
use Rattle.asm_tree.specs.declared.unit.RawDefinition.{RawDefinition}
use Rattle.asm_tree.specs.declared.unit.RawInvariant.{RawInvariant}
use Rattle.asm_faults.specs.Files.{Of, invariant_in}
use Rattle.asm_faults.specs.Model.{tree_of}
use Rattle.asm_build.specs.Added.{AddsTerms}
use Rattle.asm_build.proofs.gather.add_invariants.Given as goal

abbrev pub invariant-raws : goal.invariant-raws
invariant-raws l = (n : ℕ) → AddsTerms l.fn.maker l.maker (λ number. map (λ (p : Of RawInvariant). tree_of number l.fn.known p.1.term) (flat_map (λ (d : RawDefinition). invariant_in (n, d)) (take l.raw-index l.raws))) l.fn.invariants l.invariants
