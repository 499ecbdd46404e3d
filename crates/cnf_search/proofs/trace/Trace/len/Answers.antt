use Rattle.std.proofs.Common.{arith, ap, length, sym, ◌∙◌}
use Rattle.cnf_search.specs.Trails.{Told}
use Rattle.cnf_search.proofs.Traces.{length-entries_of}
use Rattle.cnf_search.proofs.trace.Trace.len.Goals as goal

pub returns-clause-value : goal.returns-clause-value
returns-clause-value c =
    ap length c.lits.ensures.value
    ∙ (sym (length-entries_of c.self.inside.trail.lits c.self.inside.reasons.items c.self.invariant.paired) ∙ ap (λ (t : Told). length t.entries) c.self.view_is)

pub returns-clause-short : goal.returns-clause-short
returns-clause-short c =
    omega (
      arith,
      length-entries_of c.self.inside.trail.lits c.self.inside.reasons.items c.self.invariant.paired,
      ap (λ (t : Told). length t.entries) c.self.view_is,
      ap (λ (t : Told). t.size) c.self.view_is,
      c.lits.ensures.short,
    )
