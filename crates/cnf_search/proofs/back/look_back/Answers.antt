use Rattle.std.proofs.Common.{◌≡◌, ℕ, ◌+◌, ◌-◌, ◌<◌, ◌∙◌, List, length, drop, arith, ap, nat_lt, reverse, None}
use Rattle.cnf_base.proofs.VariableBounds.{var_read}
use Rattle.cnf_search.specs.Trails.{Entry, entries_of}
use Rattle.cnf_search.specs.Passes.{pass, begun}
use Rattle.cnf_search.specs.Backs.{told, late_at, marked}
use Rattle.cnf_search.proofs.Backs.{told_begun, back_begin, back_turn}
use Rattle.cnf_search.specs.Lines.{known}
use Rattle.cnf_search.proofs.back.look_back.Goals as goal

pub loop-place-init : goal.loop-place-init
loop-place-init c =
    let start = told_begun c.mark.new.seen.items c.in_ok-unmarked.field-0.items c.args.conflict.now c.new.result.items c.new-2.result.items c.mark.ensures.marked c.in_ok-unmarked.ensures.none c.new.ensures.items c.new-2.ensures.items in (
      c.mark.ensures.len ∙ c.in_ok-unmarked.ensures.long,
      omega arith,
      back_begin (known c.args.checker.now) c.args.lits.now c.args.reasons.now c.args.conflict.now
          (record { seen = marked c.mark.new.seen.items; found = None; clause = reverse c.new.result.items; hints = reverse c.new-2.result.items }) c.requires.paired start,
    )

pub take_entry-requires-clause-within : goal.take_entry-requires-clause-within
take_entry-requires-clause-within c =
    omega (
      arith,
      var_read c.args.lits.now (c.loop-place.place - 1) c.index-lits-place.result (omega (arith, c.loop-place.invariant.1, c.loop-place-test.true)) c.index-lits-place.is,
      c.requires.within,
      c.loop-place.invariant.0,
    )

pub loop-place-preserved : goal.loop-place-preserved
loop-place-preserved c =
    let es : List Entry = entries_of c.args.lits.now c.args.reasons.now in
    let same : c.loop-place.place ≡ c.loop-place.place - 1 + 1 = omega (arith, c.loop-place-test.true) in
    let within : c.loop-place.place - 1 < length c.args.lits.now = omega (arith, c.loop-place.invariant.1, c.loop-place-test.true) in (
      c.in_ok-take_entry.ensures.len ∙ c.loop-place.invariant.0,
      omega (arith, within),
      back_turn (known c.args.checker.now) c.args.lits.now c.args.reasons.now c.args.conflict.now (c.loop-place.place - 1) c.index-lits-place.result c.reason_at-reason.result
          (nat_lt c.args.base (c.loop-place.place - 1)) (told c.loop-place.learning) (told c.take_entry.new.learning) within c.requires.paired c.index-lits-place.is c.reason_at-reason.ensures
          (c.requires.base (c.loop-place.place - 1) within)
          (c.loop-place.invariant.2 ∙ ap (λ (k : ℕ). pass (known c.args.checker.now) (late_at es k) k (drop k es) (begun c.args.conflict.now)) same)
          c.in_ok-take_entry.ensures.step,
    )
