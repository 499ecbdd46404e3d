use Rattle.std.proofs.Common.{◌≡◌, take}
use Rattle.asm_update.specs.Applied.{put_in}
use Rattle.asm_update.proofs.updates.put_in.Given as goal

abbrev pub invariant-loop-pair : goal.invariant-loop-pair
invariant-loop-pair g l = g.S.Store.state l.store ≡ put_in (g.S.Store.state l.initial.store) (take l.pair-index l.pairs)
