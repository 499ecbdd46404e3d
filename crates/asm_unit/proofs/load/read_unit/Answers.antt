use Rattle.std.proofs.Common.{◌∙◌, ◌++◌, ◌∷◌, [], ℕ, List, length, ap, refl}
use Rattle.std.proofs.lemmas.Result.{err_from_is_err_and}
use Rattle.std.specs.FinMap.{get}
use Rattle.asm_unit.specs.Loading.{most_bytes}
use Rattle.asm_unit.specs.Spelled.{tree_of}
use Rattle.asm_unit.proofs.Faults.{judged_read, tree_in_file}
use Rattle.asm_unit.proofs.Sources.{adds_none, adds_one, last_read, last_fault, name_fault, one_at_fault, one_unread}
use Rattle.asm_unit.proofs.Outcomes.{judges_same, memory_fails, text_fails, text_follows, held_grows}
use Rattle.asm_unit.proofs.load.read_unit.Goals as goal

pub returns-in_err-text-clause-told : goal.returns-in_err-text-clause-told
returns-in_err-text-clause-told g c = λ files told.
    let p = err_from_is_err_and c.from_residual.result c.from_residual.ensures.1 in
    rw (p.1, p.2) (text_fails tree_of most_bytes c.args.name.now c.args.sources.now (get files c.args.name.now) c.in_err-text.field-0.0 (c.in_err-text.ensures.told files told))

pub returns-in_err-name-clause-told : goal.returns-in_err-name-clause-told
returns-in_err-name-clause-told g c = λ files told.
    let p = err_from_is_err_and c.from_residual-in_err-name.result c.from_residual-in_err-name.ensures.1 in
    rw (p.1, p.2) (held_grows tree_of most_bytes c.args.name.now c.args.sources.now (get files c.args.name.now))

pub returns-in_err-push-clause-told : goal.returns-in_err-push-clause-told
returns-in_err-push-clause-told g c = λ files told.
    let p = err_from_is_err_and c.from_residual-in_err-push.result c.from_residual-in_err-push.ensures.1 in
    rw (p.1, p.2) (memory_fails tree_of most_bytes c.args.name.now c.args.sources.now c.push.new.self (get files c.args.name.now) c.in_err-push.ensures.err)

pub returns-clause-told : goal.returns-clause-told
returns-clause-told g c = λ files told.
    text_follows tree_of most_bytes c.args.name.now c.in_ok-text.text c.args.sources.now (get files c.args.name.now) c.push.new.self c.boxed_tree_of-unit.result (c.in_ok-text.ensures.told files told) c.in_ok-text.ensures.short
    (c.in_ok-push.ensures.ok ∙ ap (λ (n : List ℕ). c.args.sources.now ++ record { name = n; text = c.in_ok-text.text } ∷ []) c.in_ok-name.ensures)
    (judges_same tree_of c.boxed_tree_of-unit.result c.len.result (length c.args.sources.now) c.slice.result.now c.in_ok-text.text c.len.ensures c.slice.ensures c.boxed_tree_of-unit.ensures)

pub returns-clause-failed : goal.returns-clause-failed
returns-clause-failed g c = judged_read c.len.result c.slice.result.now c.boxed_tree_of-unit.result _ c.boxed_tree_of-unit.ensures

pub returns-in_err-text-clause-added : goal.returns-in_err-text-clause-added
returns-in_err-text-clause-added g c = adds_none most_bytes c.args.sources.now c.args.sources.now refl

pub returns-in_err-name-clause-added : goal.returns-in_err-name-clause-added
returns-in_err-name-clause-added g c = adds_none most_bytes c.args.sources.now c.args.sources.now refl

pub returns-in_err-push-clause-added : goal.returns-in_err-push-clause-added
returns-in_err-push-clause-added g c = adds_none most_bytes c.args.sources.now c.push.new.self c.in_err-push.ensures.err

pub returns-in_err-text-clause-fault : goal.returns-in_err-text-clause-fault
returns-in_err-text-clause-fault g c =
    let p = err_from_is_err_and c.from_residual.result c.from_residual.ensures.1 in
    rw (p.1, p.2) (name_fault tree_of c.args.sources.now c.args.name.now c.in_err-text.field-0.0 c.in_err-text.ensures.named)

pub returns-clause-added : goal.returns-clause-added
returns-clause-added g c = adds_one most_bytes c.args.sources.now c.push.new.self (record { name = c.in_ok-name.name; text = c.in_ok-text.text }) c.in_ok-text.ensures.short c.in_ok-push.ensures.ok

pub returns-clause-read : goal.returns-clause-read
returns-clause-read g c = last_read tree_of c.args.sources.now c.push.new.self (record { name = c.in_ok-name.name; text = c.in_ok-text.text }) c.in_ok-push.ensures.ok c.boxed_tree_of-unit.result
    (judges_same tree_of c.boxed_tree_of-unit.result c.len.result (length c.args.sources.now) c.slice.result.now c.in_ok-text.text c.len.ensures c.slice.ensures c.boxed_tree_of-unit.ensures)

pub returns-clause-fault : goal.returns-clause-fault
returns-clause-fault g c = last_fault tree_of c.args.sources.now c.push.new.self (record { name = c.in_ok-name.name; text = c.in_ok-text.text }) c.in_ok-push.ensures.ok (λ e h. tree_in_file (length c.args.sources.now) c.in_ok-text.text e h) c.boxed_tree_of-unit.result
    (judges_same tree_of c.boxed_tree_of-unit.result c.len.result (length c.args.sources.now) c.slice.result.now c.in_ok-text.text c.len.ensures c.slice.ensures c.boxed_tree_of-unit.ensures)

pub returns-in_err-text-clause-named : goal.returns-in_err-text-clause-named
returns-in_err-text-clause-named g c =
    let p = err_from_is_err_and c.from_residual.result c.from_residual.ensures.1 in
    rw (p.1, p.2) (one_unread c.args.name.now c.in_err-text.field-0.0 c.in_err-text.ensures.named)

pub returns-clause-named : goal.returns-clause-named
returns-clause-named g c = one_at_fault tree_of c.args.name.now (length c.args.sources.now) c.in_ok-text.text (λ e h. tree_in_file (length c.args.sources.now) c.in_ok-text.text e h) c.boxed_tree_of-unit.result
    (judges_same tree_of c.boxed_tree_of-unit.result c.len.result (length c.args.sources.now) c.slice.result.now c.in_ok-text.text c.len.ensures c.slice.ensures c.boxed_tree_of-unit.ensures)
