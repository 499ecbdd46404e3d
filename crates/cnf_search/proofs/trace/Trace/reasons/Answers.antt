use Rattle.std.proofs.Common.{ap, sym, ◌∙◌, map}
use Rattle.cnf_search.specs.Trails.{Told, Entry}
use Rattle.cnf_search.proofs.Traces.{reasons_of_entries}
use Rattle.cnf_search.proofs.trace.Trace.reasons.Goals as goal

pub returns : goal.returns
returns c =
    c.deref.ensures.value ∙ (sym (reasons_of_entries c.self.inside.trail.lits c.self.inside.reasons.items c.self.invariant.paired)
    ∙ ap (λ (t : Told). map (λ (e : Entry). e.reason) t.entries) c.self.view_is)
