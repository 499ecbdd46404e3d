use Rattle.std.proofs.Common.{◌≡◌, Some}
use Rattle.asm_faults.proofs.Noting.{chosen}
use Rattle.asm_faults.proofs.first.First.gives_way.Goals as goal

pub returns-in-Some : goal.returns-in-Some
returns-in-Some c name = let e : c.args.self.now ≡ Some c.in-Some.first = cc in chosen c.args.self.now c.in-Some.first _ _ e (c.is_before.ensures name)
