use Rattle.std.proofs.Common.{ap, ◌∙◌}
use Rattle.asm_node.specs.Env.{places_of}
use Rattle.asm_node.specs.Term.{calls_of, unbound, value_of}
use Rattle.asm_node.specs.Tree.{plain}
use Rattle.asm_node.proofs.Closed.{places-closed}
use Rattle.asm_node.proofs.ClosedExact.{closed_value}
use Rattle.asm_node.proofs.close_term.close.Goals as goal

pub returns-clause-value : goal.returns-clause-value
returns-clause-value c = λ w.
    ap (value_of w (calls_of w) unbound) c.in_ok-close_in.ensures.node.is_tree
    ∙ closed_value w (places_of c.args.env.now) (places-closed c.args.env.now.entries) (plain c.args.term.now.value)
