use Rattle.std.proofs.Common.{arith}
use Rattle.asm_calls.proofs.Placing.{grown_place}
use Rattle.asm_calls.proofs.places.grow.Goals as goal

pub empty-preserved : goal.empty-preserved
empty-preserved c =
    grown_place _ c.empty.places.items c.add_empty.new.places.items c.empty.counter c.args.needed (omega arith) c.in_ok-add_empty.ensures c.empty.invariant.0 c.empty.invariant.1 c.empty.invariant.2

pub returns-clause-short : goal.returns-clause-short
returns-clause-short c = λ bound a b. (let e = c.empty.invariant.1 in let le = c.empty.invariant.2 bound a b in omega arith)
