use Rattle.std.proofs.Common.{◌≡◌, ◌-◌, length, take, rules, true, false}
use Rattle.cnf_search.specs.Moves.{ends_refuted}
use Rattle.cnf_search.proofs.Lasts.{dropped}
use Rattle.cnf_search.proofs.level.drop_refuted.Goals as goal

pub returns-then-is_refuted : goal.returns-then-is_refuted
returns-then-is_refuted c =
    let yes : ends_refuted false c.args.levels.now.items c.args.depth ≡ true = search rules in
    let rest : c.pop.new.self.items ≡ take (length c.args.levels.now.items - 1) c.args.levels.now.items = search rules in
    dropped c.args.levels.now.items c.pop.new.self.items c.args.depth yes rest
