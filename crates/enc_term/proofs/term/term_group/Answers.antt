use Rattle.asm_node.specs.Env.{places_of}
use Rattle.asm_node.specs.Tree.{plain}
use Rattle.enc_term.specs.Can.{can, can_in}
use Rattle.enc_term.specs.Cycle.{machine_at}
use Rattle.enc_term.proofs.Cycles.{among_more}
use Rattle.enc_term.proofs.Members.{has_in_once}
use Rattle.enc_term.proofs.term.term_group.Goals as goal

pub returns-clause-group : goal.returns-clause-group
returns-clause-group c =
    let m = machine_at c.args.context.now in
    let all = can_in m 32 (places_of c.args.env.now) (plain c.args.term.now.value) in
    among_more c.encode_term.new.builder all (can m (places_of c.args.env.now) (plain c.args.term.now.value)) c.in_ok-encode_term.field-0 (λ y h. has_in_once all y h) c.in_ok-encode_term.ensures.group
