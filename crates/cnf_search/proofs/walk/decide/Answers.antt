use Rattle.std.proofs.Common.{ℕ, length, refl, subst, true}
use Rattle.cnf_search.specs.Moves.{Puts}
use Rattle.cnf_search.proofs.walk.decide.Goals as goal

pub returns : goal.returns
returns c =
    let P : ℕ → Type 0 = λ n. Puts c.args.walk.now.levels.items c.put.new.levels.items (record { depth = c.args.depth; value = c.args.value; start = n; known = c.next_number-known.result; decided = true }) in
    let Q : ℕ → Type 0 =
    λ n. Puts c.args.walk.now.levels.items c.put.new.levels.items (record { depth = c.args.depth; value = c.args.value; start = length c.args.walk.now.trace.entries; known = n; decided = true }) in
    record {
      entries = c.in_ok-push.ensures.ok;
      size = c.in_ok-push.ensures.size;
      short = c.len-count.ensures.short;
      levels = subst Q c.next_number-known.ensures (subst P c.len-start.ensures.value c.in_ok-put.ensures);
      head = c.len-start.ensures.value;
      left = c.next_number-known.ensures;
      checker = refl;
      lists = refl;
      budget = refl;
    }
