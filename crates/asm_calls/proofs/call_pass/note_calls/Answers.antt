use Rattle.asm_calls.specs.Graphs.{cycles_marked, chains_marked}
use Rattle.asm_calls.proofs.Calling.{stopped, passed}
use Rattle.asm_calls.proofs.call_pass.note_calls.Goals as goal

pub returns-then-found : goal.returns-then-found
returns-then-found c =
    λ far le. stopped _ _ (cycles_marked c.args.known.now far c.args.definitions.now c.args.reading.now c.args.rules.now c.args.calling.now)
    (chains_marked c.args.known.now c.args.definitions.now c.args.reading.now c.args.rules.now c.args.calling.now) _ (c.in_ok-found.ensures.faults far le) (c.in_ok-found.ensures.found far le) c.if-found.true

pub returns : goal.returns
returns c =
    λ far le. passed _ _ _ (cycles_marked c.args.known.now far c.args.definitions.now c.args.reading.now c.args.rules.now c.args.calling.now)
    (chains_marked c.args.known.now c.args.definitions.now c.args.reading.now c.args.rules.now c.args.calling.now) _ (c.in_ok-found.ensures.faults far le) (c.in_ok-found.ensures.found far le) c.if-found.false c.in_ok-note_chains.ensures
