use Rattle.std.proofs.Common.{◌≡◌, ◌<◌, ◌≤◌, List, [], ◌∷◌, ◌++◌, length, take, arith, subst, sym, ap, ◌∙◌, length-append, Option, None, Bool}
use Rattle.std.proofs.lemmas.List.{take-append-le}
use Rattle.std.proofs.Math.ListN.{length-set}
use Rattle.cnf_base.specs.declared.lit.Lit.{Lit}
use Rattle.cnf_base.specs.Known.{IsTold}
use Rattle.cnf_base.proofs.Told.{IsTold-pop}
use Rattle.cnf_base.proofs.trail.Trail.undo.Goals as goal

kept : (vs : List (Option Bool)) (ls all now : List Lit) (l : Lit) (n k : _) → ls ≡ now ++ l ∷ [] → n < length ls
    → IsTold vs ls → take n ls ≡ take n all → length vs ≡ k
    → IsTold (Rattle.std.proofs.Math.ListN.set vs l.var None) now × (take n now ≡ take n all) × (length (Rattle.std.proofs.Math.ListN.set vs l.var None) ≡ k)
kept vs ls all now l n k e more told same size =
    let long : n ≤ length now = omega (arith, ap length e, length-append now (l ∷ [])) in (
      IsTold-pop vs now l (subst (λ (x : List Lit). IsTold vs x) e told),
      sym (take-append-le n now (l ∷ []) long) ∙ (sym (ap (take n) e) ∙ same),
      rw length-set size,
    )

pub loop-self-preserved-in-Some : goal.loop-self-preserved-in-Some
loop-self-preserved-in-Some c =
    kept _ _ _ _ _ _ _ c.in-Some.ensures.items (omega arith) c.loop-self.invariant.0 c.loop-self.invariant.1 c.loop-self.invariant.2
