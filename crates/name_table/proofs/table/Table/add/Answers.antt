use Rattle.std.proofs.Common.{◌≡◌, ◌∷◌, ◌++◌, [], length, ap, ◌∙◌, arith, rules}
use Rattle.name_table.proofs.Entering.{indexed-entered}
use Rattle.name_table.proofs.table.Table.add.Goals as goal

pub invariant_of-self-2 : goal.invariant_of-self-2
invariant_of-self-2 c =
    let pushed = c.in_ok-push.ensures.items ∙ ap (λ l. l ++ c.in_ok-place.place ∷ []) c.in_ok-reserve.ensures.items in
    let count : c.len-number.result ≡ length c.self.inside.places.items = search rules in
    (indexed-entered _ _ _ _ _ _ _ pushed count (omega arith) c.self.invariant c.in_ok-place.ensures.ok).0

pub returns-clause-ok : goal.returns-clause-ok
returns-clause-ok c =
    let pushed = c.in_ok-push.ensures.items ∙ ap (λ l. l ++ c.in_ok-place.place ∷ []) c.in_ok-reserve.ensures.items in
    let count : c.len-number.result ≡ length c.self.inside.places.items = search rules in
    (indexed-entered _ _ _ _ _ _ _ pushed count (omega arith) c.self.invariant c.in_ok-place.ensures.ok).1 ∙ (λ j. c.self.view_is j ++ c.text.ensures j ∷ [])
