use Rattle.std.proofs.Common.{◌<◌, arith, ap, length, subst, ◌∙◌, get_or, List, rules}
use Rattle.cnf_base.specs.declared.lit.Lit.{Lit}
use Rattle.cnf_base.specs.Clauses.{clause_variables}
use Rattle.cnf_base.proofs.VariableBounds.{var_read}
use Rattle.cnf_search.specs.Trails.{Told}
use Rattle.cnf_search.specs.Queue.{IsLitAt}
use Rattle.cnf_search.proofs.Traces.{length-entries_of}
use Rattle.cnf_search.proofs.Visits.{entry_at}
use Rattle.cnf_search.proofs.trace.Trace.lit.Goals as goal

pub offset_bounds-lits-place : goal.offset_bounds-lits-place
offset_bounds-lits-place c =
    let here : c.args.place < length c.lits-lits.result.now =
    omega (
      arith,
      c.requires,
      ap length c.lits-lits.ensures.value,
      length-entries_of c.self.inside.trail.lits c.self.inside.reasons.items c.self.invariant.paired,
      ap (λ (t : Told). length t.entries) c.self.view_is,
    ) in
    search rules

pub bounds-lits-place : goal.bounds-lits-place
bounds-lits-place c =
    omega (
      arith,
      c.requires,
      ap length c.lits-lits.ensures.value,
      length-entries_of c.self.inside.trail.lits c.self.inside.reasons.items c.self.invariant.paired,
      ap (λ (t : Told). length t.entries) c.self.view_is,
    )

pub returns-clause-at : goal.returns-clause-at
returns-clause-at c =
    let P : Told → Type 0 = λ t. IsLitAt t.entries c.args.place c.index-lits-place.result in
    let here : c.args.place < length c.self.inside.trail.lits =
    omega (
      arith,
      c.requires,
      length-entries_of c.self.inside.trail.lits c.self.inside.reasons.items c.self.invariant.paired,
      ap (λ (t : Told). length t.entries) c.self.view_is,
    ) in
    subst P c.self.view_is
    (entry_at c.self.inside.trail.lits c.self.inside.reasons.items c.args.place c.index-lits-place.result c.self.invariant.paired here
    (c.index-lits-place.is ∙ ap (λ (z : List Lit). get_or z c.args.place c.index-lits-place.result) c.lits-lits.ensures.value))

pub returns-clause-room : goal.returns-clause-room
returns-clause-room c =
    omega (
      arith,
      var_read c.lits-lits.result.now c.args.place c.index-lits-place.result
          (omega (
            arith,
            c.requires,
            ap length c.lits-lits.ensures.value,
            length-entries_of c.self.inside.trail.lits c.self.inside.reasons.items c.self.invariant.paired,
            ap (λ (t : Told). length t.entries) c.self.view_is,
          ))
          c.index-lits-place.is,
      ap clause_variables c.lits-lits.ensures.value,
      c.lits-lits.ensures.within,
      ap (λ (t : Told). t.size) c.self.view_is,
    )
