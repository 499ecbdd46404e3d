-- What the parts of a rule give together.
use Rattle.std.proofs.Common.{◌≡◌, ℕ, suc, refl}
use Rattle.std.specs.FinSet as set
use Rattle.asm_node.specs.declared.path.Step.TheVariants.{Part}
use Rattle.asm_node.specs.RuleTree.{Rules, none, more}
use Rattle.asm_node.specs.UpdateSet.{UpdateSet}
use Rattle.asm_node.specs.Taking.{Yields, Faults, taken_all, by_paths, and_then}
use Rattle.enc_update.specs.Updates.{union_of}
use Rattle.enc_rule.specs.Rules.{Setting, given_by, inside, parts_given}

-- the parts from number k on give the union of what each gives
pub parts_are_union : (s : Setting) (k : ℕ) (rs : Rules) (u : UpdateSet) → taken_all (by_paths s.choosing) s.bodies s.path k s.world s.places rs u tt ≡ union_of (parts_given s k rs) u
parts_are_union s k none u = refl
parts_are_union s k (more r rs) u =
    elim (given_by (inside s (Part k)) r) as (λ a. and_then a (λ w o. taken_all (by_paths s.choosing) s.bodies s.path (suc k) s.world s.places rs (set.union u w) o) ≡ and_then a (λ w o. union_of (parts_given s (suc k) rs) (set.union u w))) [
      | Yields w o ↦ parts_are_union s (suc k) rs (set.union u w)
      | Faults stop o ↦ refl
    ]
