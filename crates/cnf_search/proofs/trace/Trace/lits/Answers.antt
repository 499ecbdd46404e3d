use Rattle.std.proofs.Common.{ap, sym, ◌∙◌, map, arith}
use Rattle.cnf_base.specs.Clauses.{clause_variables}
use Rattle.cnf_search.specs.Trails.{Told, Entry}
use Rattle.cnf_search.proofs.Traces.{lits_of_entries}
use Rattle.cnf_search.proofs.trace.Trace.lits.Goals as goal

pub returns-clause-value : goal.returns-clause-value
returns-clause-value c =
    c.lits.ensures.value ∙ (sym (lits_of_entries c.self.inside.trail.lits c.self.inside.reasons.items c.self.invariant.paired)
    ∙ ap (λ (t : Told). map (λ (e : Entry). e.lit) t.entries) c.self.view_is)

pub returns-clause-within : goal.returns-clause-within
returns-clause-within c =
    omega (arith, ap clause_variables c.lits.ensures.value, c.lits.ensures.within, ap (λ (t : Told). t.size) c.self.view_is)
