use Rattle.std.proofs.Common.{◌≡◌, ◌+◌, List, ℕ, get_or, arith, sym, ◌∙◌, subst}
use Rattle.cnf_base.specs.declared.lit.Lit.{Lit}
use Rattle.cnf_base.proofs.VariableBounds.{variables-there}
use Rattle.cnf_search.specs.Lines.{known}
use Rattle.cnf_search.specs.Trails.{Entry, Told}
use Rattle.cnf_search.proofs.Traces.{has_below}
use Rattle.cnf_search.proofs.Visits.{Visits, Visits-quiet, Visits-forced}
use Rattle.cnf_search.proofs.unit.visit.Goals as goal
use Rattle.cnf_search.proofs.unit.visit.Goals.{in-Quiet, in-Forced+in_ok-push-in-Forced}

pub push-requires-clause-room : goal.push-requires-clause-room
push-requires-clause-room c =
    let r = c.in-Forced.ensures in
    omega (
      arith,
      variables-there (known c.args.checker.now) (get_or c.args.numbers.now c.loop-number.number-index 0) r.clause r.named,
      has_below r.clause c.in-Forced.lit r.reason.there,
      c.loop-number.invariant.1,
      c.requires.room,
    )

pub loop-number-preserved : goal.loop-number-preserved
loop-number-preserved c =
    let f : List (List Lit) = known c.args.checker.now in
    let old : List Entry = c.args.trace.now.entries in
    let now : List Entry = c.loop-number.trace.entries in
    let i : ℕ = c.loop-number.number-index in
    let P : Told → Type 0 = λ z. Visits f old z.entries c.args.numbers.now (i + 1) × (z.size ≡ c.args.trace.now.size) in
    elim c.match-task_at.branch [
      | in-Quiet w ↦
          subst P (sym w.trace-is) (
            Visits-quiet f old now c.args.numbers.now i c.loop-number.invariant.0 (omega arith)
                w.in-Quiet.ensures,
            c.loop-number.invariant.1,
          )
      | in-Forced+in_ok-push-in-Forced w ↦
          subst P (sym w.trace-is) (
            Visits-forced f old now w.push.new.self.entries c.args.numbers.now i w.in-Forced.lit c.loop-number.invariant.0 (omega arith)
                w.in-Forced.ensures w.in_ok-push-in-Forced.ensures.ok,
            w.in_ok-push-in-Forced.ensures.size ∙ c.loop-number.invariant.1,
          )
    ]
