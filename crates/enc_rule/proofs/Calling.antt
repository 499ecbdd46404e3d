-- The body of a macro rule is what its call gives.
use Rattle.std.proofs.Common.{◌≡◌, ℕ, suc, ◌∙◌, ap, sym, subst, Bool, Option, Some, [], ◌∷◌, ◌++◌, slice_get}
use Rattle.asm_source.specs.declared.sources.Place.{Place}
use Rattle.asm_node.specs.declared.path.Step.TheVariants.{Called}
use Rattle.asm_node.specs.Machine.{Macro}
use Rattle.asm_node.specs.RuleTree.{Call}
use Rattle.asm_node.specs.Taking.{Bodies, by_paths, bodies_within, body_taken}
use Rattle.asm_node.specs.Tree.{Trees}
use Rattle.enc_update.specs.declared.pair.UpdateBits.{UpdateBits}
use Rattle.enc_update.specs.Updates.{Takes}
use Rattle.enc_rule.specs.Rules.{Setting, MeansRule, given_by, called_in}

pub call_means : (v : ℕ → Bool) (r : UpdateBits) (s : Setting) (n : ℕ) (place : Place) (f : ℕ) (m : Macro) (ts : Trees) → s.bodies ≡ bodies_within (by_paths s.choosing) (suc n)
    → slice_get s.world.machine.rules f ≡ Some m → MeansRule v r (called_in s n f m ts) m.body → MeansRule v r s (Call place f ts)
call_means v r s n place f m ts is at h =
    let here : given_by s (Call place f ts) ≡ given_by (called_in s n f m ts) m.body =
    ap (λ (bodies : Bodies (Unit {0})). bodies f (s.path ++ Called f ∷ []) s.world s.places ts tt) is
    ∙ ap (λ (o : Option Macro). body_taken (by_paths s.choosing) (bodies_within (by_paths s.choosing) n) (s.path ++ Called f ∷ []) s.world s.places o ts tt) at in
    subst (Takes v r.pairs r.fault) (sym here) h
