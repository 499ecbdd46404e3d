use Rattle.std.proofs.Common.{take, ap, ◌∙◌}
use Rattle.cnf_search.specs.Trails.{Told, entries_of}
use Rattle.cnf_search.proofs.Traces.{entries_of-front}
use Rattle.cnf_search.proofs.trace.Trace.undo.Goals as goal

pub returns-clause-entries : goal.returns-clause-entries
returns-clause-entries c =
    (λ i. entries_of (c.undo.ensures.lits i) (c.truncate.ensures.items i))
    ∙ (entries_of-front c.self.inside.trail.lits c.self.inside.reasons.items c.args.count ∙ ap (λ (t : Told). take c.args.count t.entries) c.self.view_is)
