use Rattle.std.proofs.Common.{◌≡◌, ◌+◌, ◌++◌, ◌∷◌, [], List, arith, ap, sym, ◌∙◌, append_assoc, take, map, cond}
use Rattle.cnf_base.specs.declared.lit.Lit.{Lit}
use Rattle.cnf_base.specs.Clauses.{negate}
use Rattle.cnf_gate.specs.Gates.{flip_all, pair_clauses}
use Rattle.cnf_gate.proofs.Built.{pairs-take}
use Rattle.cnf_gate.proofs.gate.push_gate.Goals as goal

grown : (old now new ps qs : List (List Lit)) (long c : List Lit) → now ≡ old ++ long ∷ ps → qs ≡ ps ++ c ∷ [] → new ≡ now ++ c ∷ [] → new ≡ old ++ long ∷ qs
grown old now new ps qs long c h e n =
    n ∙ (ap (λ (z : List (List Lit)). z ++ c ∷ []) h ∙ (append_assoc old (long ∷ ps) (c ∷ []) ∙ ap (λ (z : List (List Lit)). old ++ long ∷ z) (sym e)))

pub loop-lit-preserved : goal.loop-lit-preserved
loop-lit-preserved c =
    let lits : List Lit = c.args.lits.now in
    let step : pair_clauses c.args.output (flip_all c.args.flip (take (c.loop-lit.lit-index + 1) lits))
    ≡ pair_clauses c.args.output (flip_all c.args.flip (take c.loop-lit.lit-index lits)) ++ (negate c.args.output ∷ cond c.args.flip (negate c.lit-item.result) c.lit-item.result ∷ []) ∷ [] =
    pairs-take c.args.output c.args.flip lits c.loop-lit.lit-index c.lit-item.result (omega arith) c.lit-item.is in
    let clause : c.in_ok-pair.field-0 ≡ negate c.args.output ∷ cond c.args.flip (negate c.lit-item.result) c.lit-item.result ∷ [] =
    c.in_ok-pair.ensures ∙ (λ i. c.negated.ensures.value i ∷ c.flipped.ensures i ∷ []) in
    grown c.args.clauses.now.items c.loop-lit.clauses.items c.push_clause-in-loop-lit.new.clauses.items
    (pair_clauses c.args.output (flip_all c.args.flip (take c.loop-lit.lit-index lits)))
    (pair_clauses c.args.output (flip_all c.args.flip (take (c.loop-lit.lit-index + 1) lits)))
    (c.args.output ∷ map negate (flip_all c.args.flip lits)) (negate c.args.output ∷ cond c.args.flip (negate c.lit-item.result) c.lit-item.result ∷ [])
    c.loop-lit.invariant step (c.in_ok-push_clause-2.ensures ∙ ap (λ (z : List Lit). c.loop-lit.clauses.items ++ z ∷ []) clause)
