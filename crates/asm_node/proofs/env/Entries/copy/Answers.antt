use Rattle.std.proofs.Common.{◌+◌, ◌*◌, sym, ap, ◌∙◌}
use Rattle.asm_node.specs.Tree.{Const, Within, plain}
use Rattle.asm_node.specs.Term.{nowhere, put, close}
use Rattle.asm_node.specs.Env.{places_in}
use Rattle.asm_node.specs.Weight.{nodes, weight_in}
use Rattle.asm_node.proofs.env.Entries.copy.Goals as goal

pub returns-in_ok-clone-in-Value-clause-places : goal.returns-in_ok-clone-in-Value-clause-places
returns-in_ok-clone-in-Value-clause-places c =
    ap (λ rest. put c.in-Value.variable (Const c.in-Value.value) (places_in rest)) c.in_ok-clone-in-Value.ensures.cases ∙ sym (ap places_in c.in-Value.is)

pub returns-in_ok-clone-in-Value-clause-weight : goal.returns-in_ok-clone-in-Value-clause-weight
returns-in_ok-clone-in-Value-clause-weight c =
    ap (λ rest. 1 + weight_in rest) c.in_ok-clone-in-Value.ensures.cases ∙ sym (ap weight_in c.in-Value.is)

pub returns-in_ok-clone-in-Node-2-clause-places : goal.returns-in_ok-clone-in-Node-2-clause-places
returns-in_ok-clone-in-Node-2-clause-places c =
    (λ i. put c.in-Node.variable (close nowhere (plain (c.in_ok-clone-in-Node.ensures.cases i))) (places_in (c.in_ok-clone-in-Node-2.ensures.cases i)))
    ∙ sym (ap places_in c.in-Node.is)

pub returns-in_ok-clone-in-Node-2-clause-weight : goal.returns-in_ok-clone-in-Node-2-clause-weight
returns-in_ok-clone-in-Node-2-clause-weight c =
    (λ i. 2 + 4 * nodes (plain (c.in_ok-clone-in-Node.ensures.cases i)) + weight_in (c.in_ok-clone-in-Node-2.ensures.cases i))
    ∙ sym (ap weight_in c.in-Node.is)

pub returns-in_ok-clone-in-Actual-3-clause-places : goal.returns-in_ok-clone-in-Actual-3-clause-places
returns-in_ok-clone-in-Actual-3-clause-places c =
    (λ i. put c.in-Actual.variable
    (Within c.in-Actual.domain (close (places_in (c.in_ok-clone-in-Actual-2.ensures.cases i)) (plain (c.in_ok-clone-in-Actual.ensures.cases i))))
    (places_in (c.in_ok-clone-in-Actual-3.ensures.cases i)))
    ∙ sym (ap places_in c.in-Actual.is)

pub returns-in_ok-clone-in-Actual-3-clause-weight : goal.returns-in_ok-clone-in-Actual-3-clause-weight
returns-in_ok-clone-in-Actual-3-clause-weight c =
    (λ i. 2 + 4 * nodes (plain (c.in_ok-clone-in-Actual.ensures.cases i)) + weight_in (c.in_ok-clone-in-Actual-2.ensures.cases i) + weight_in (c.in_ok-clone-in-Actual-3.ensures.cases i))
    ∙ sym (ap weight_in c.in-Actual.is)
