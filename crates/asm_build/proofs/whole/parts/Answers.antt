use Rattle.asm_build.proofs.Assembling.{are_nodes, are_machine_of}
use Rattle.asm_build.proofs.whole.parts.Goals as goal

pub returns-clause-nodes : goal.returns-clause-nodes
returns-clause-nodes c = are_nodes c.args.known.now c.slice-files.result.now _ _ _ _ _ _ c.in_ok-main.main _ _ _ _ _ _ _ _ _
    c.in_ok-all_definitions.ensures c.in_ok-all_initials.ensures c.in_ok-all_invariants.ensures c.in_ok-all_macros.ensures c.in_ok-main.ensures.added c.in_ok-main.ensures.main
    c.new-definitions.ensures c.new-initial_terms.ensures c.new-invariants.ensures c.new-rules.ensures
    c.into_pool.result c.into_pool.ensures

pub returns-clause-machine : goal.returns-clause-machine
returns-clause-machine c = are_machine_of c.args.known.now c.slice-files.result.now _ _ _ _ _ _ c.in_ok-main.main _ _ _ _ _ _ _ _ _
    c.in_ok-all_definitions.ensures c.in_ok-all_initials.ensures c.in_ok-all_invariants.ensures c.in_ok-all_macros.ensures c.in_ok-main.ensures.added c.in_ok-main.ensures.main
    c.new-definitions.ensures c.new-initial_terms.ensures c.new-invariants.ensures c.new-rules.ensures
    c.args.units.now c.slice-files.ensures c.into_pool.result
