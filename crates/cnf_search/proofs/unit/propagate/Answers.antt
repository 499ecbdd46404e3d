use Rattle.std.proofs.Common.{◌≡◌, ◌≤◌, ◌+◌, [], List, ℕ, length, drop, arith, ap, sym, ◌∙◌, subst, Option}
use Rattle.std.specs.Prelude.{IfNone}
use Rattle.cnf_base.specs.declared.lit.Lit.{Lit}
use Rattle.cnf_base.specs.Clauses.{negate}
use Rattle.cnf_search.specs.Trails.{Entry, values}
use Rattle.cnf_search.specs.Lines.{known}
use Rattle.cnf_search.specs.Queue.{AreSettled}
use Rattle.cnf_search.proofs.Settled.{settled_next}
use Rattle.cnf_search.proofs.Visits.{Grows-trans, late_quiet, none_is}
use Rattle.cnf_search.proofs.unit.propagate.Goals as goal

pub loop-head-preserved : goal.loop-head-preserved
loop-head-preserved c =
    let f : List (List Lit) = known c.args.checker.now in
    let now : List Entry = c.loop-head.trace.entries in
    let new : List Entry = c.visit.new.trace.entries in
    let negated : c.negated.result ≡ negate c.lit-lit.ensures.at.entry.lit = c.negated.ensures.value ∙ ap negate c.lit-lit.ensures.at.lit in
    let R : List ℕ → Type 0 = λ z. AreSettled f (values now) (drop (c.loop-head.head + 1) now) z in
    let before : AreSettled f (values now) (drop (c.loop-head.head + 1) now) c.clauses_with-numbers.result.now =
    subst R (sym c.clauses_with-numbers.ensures)
    (settled_next f c.args.index.now.items (values now) (drop c.loop-head.head now) (drop (c.loop-head.head + 1) now) c.lit-lit.ensures.at.entry c.negated.result c.requires.indexed c.lit-lit.ensures.at.split negated
    c.loop-head.invariant.settled) in
    let P : Option ℕ → Type 0 = λ o. IfNone o ((k : ℕ) → k ≤ length now → AreSettled f (values now) (drop k now) c.clauses_with-numbers.result.now → AreSettled f (values new) (drop k new) []) in
    let step = none_is c.in_ok-conflict.field-0 _ c.in_default.not-Some c.in_ok-conflict.ensures.settled in record {
      explained = c.in_ok-conflict.ensures.explained;
      grows = Grows-trans c.args.trace.now.entries now new c.loop-head.invariant.grows c.in_ok-conflict.ensures.grows;
      size = c.in_ok-conflict.ensures.size ∙ c.loop-head.invariant.size;
      settled = step (c.loop-head.head + 1) (omega (arith, c.len.ensures.value)) before;
    }

pub returns-clause-quiet : goal.returns-clause-quiet
returns-clause-quiet c =
    late_quiet (known c.args.checker.now) c.loop-head.trace.entries c.loop-head.head (omega (arith, c.len.ensures.value)) c.loop-head.invariant.settled
