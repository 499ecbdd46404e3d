use Rattle.std.proofs.Common.{◌≡◌, ◌+◌, ◌++◌, ◌∷◌, [], List, ℕ, length, take, arith, refl, ap, ◌∙◌, Some}
use Rattle.cnf_base.specs.Clauses.{negate}
use Rattle.cnf_search.specs.Lines.{known}
use Rattle.cnf_search.specs.Levels.{refuted}
use Rattle.cnf_search.specs.Trails.{Entry, values}
use Rattle.cnf_search.proofs.Leveled.{lit_open}
use Rattle.cnf_search.proofs.Lists.{length_end}
use Rattle.cnf_search.proofs.Traces.{length_take}
use Rattle.cnf_search.proofs.walk.give_back.Goals as goal

pub push-requires-clause-room : goal.push-requires-clause-room
push-requires-clause-room c = omega (arith, c.negated.ensures.var, c.lit-lit.ensures.room, c.undo.ensures.size)

pub push-requires-clause-fresh : goal.push-requires-clause-fresh
push-requires-clause-fresh c =
    (λ i. values (c.undo.ensures.entries i) (c.negated.ensures.var i))
    ∙ lit_open (known c.args.walk.now.checker) c.args.walk.now.trace.entries c.args.start c.lit-lit.result c.requires.explained c.lit-lit.ensures.at

pub returns : goal.returns
returns c =
    let es : List Entry = c.args.walk.now.trace.entries in
    let entries : c.push.new.self.entries ≡ take c.args.start es ++ (record { lit = negate c.lit-lit.result; reason = Some c.args.number }) ∷ [] =
    c.in_ok-push.ensures.ok ∙ (λ i. c.undo.ensures.entries i ++ (record { lit = c.negated.ensures.value i; reason = Some c.args.number }) ∷ []) in
    let long : c.len-after.result ≡ c.args.start + 1 =
    omega (
      arith,
      c.len-after.ensures.value,
      ap length entries,
      length_end (take c.args.start es) (record { lit = negate c.lit-lit.result; reason = Some c.args.number }),
      length_take es c.args.start (omega (arith, c.requires.there)),
    ) in
    record {
      level = c.take_off-level.result;
      off = (
        c.take_off-level.new.levels.items,
        c.take_off-level.ensures.off,
        c.in_ok-push-2.ensures.items ∙ ap (λ (n : ℕ). c.take_off-level.new.levels.items ++ refuted c.take_off-level.result n ∷ []) long,
      );
      decided = c.take_off-level.ensures.decided;
      at = c.take_off-level.ensures.start;
      lit = c.lit-lit.result;
      entry = c.lit-lit.ensures.at;
      entries = entries;
      size = c.in_ok-push.ensures.size ∙ c.undo.ensures.size;
      head = refl;
      left = refl;
      checker = refl;
      lists = refl;
      budget = refl;
    }
