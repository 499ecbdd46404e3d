use Rattle.std.proofs.Common.{[], ◌∷◌, Err, length, length-append, refl, ap, arith}
use Rattle.std.proofs.lemmas.Result.{err_from_is_err_and}
use Rattle.std.specs.FinMap.{get}
use Rattle.asm_unit.specs.Path.{normalised}
use Rattle.asm_unit.specs.Spelled.{tokens_of}
use Rattle.asm_unit.proofs.Outcomes.{held_grows, judges_same, memory_fails, renamed, text_fails, text_follows}
use Rattle.asm_unit.proofs.Faults.{tokens_in_file}
use Rattle.asm_unit.proofs.Sources.{adds_none, adds_one, last_read, last_fault, name_fault, one_at_fault, one_renamed}
use Rattle.asm_unit.proofs.one.load_one.Goals as goal

pub returns-in_err-name-clause-told : goal.returns-in_err-name-clause-told
returns-in_err-name-clause-told g c = λ files told.
    let p = err_from_is_err_and c.from_residual.result c.from_residual.ensures.1 in
    rw (p.1, p.2) (held_grows tokens_of c.args.limit (normalised c.args.name.now) c.args.sources.now (get files (normalised c.args.name.now)))

pub returns-in_err-text-clause-told : goal.returns-in_err-text-clause-told
returns-in_err-text-clause-told g c = λ files told.
    let p = err_from_is_err_and c.from_residual-in_err-text.result c.from_residual-in_err-text.ensures.1 in
    rw (p.1, p.2)
    (renamed tokens_of c.args.limit files c.args.sources.now c.args.sources.now c.in_ok-name.name (normalised c.args.name.now) (Err c.in_err-text.field-0.0) c.in_ok-name.ensures
    (text_fails tokens_of c.args.limit c.in_ok-name.name c.args.sources.now (get files c.in_ok-name.name) c.in_err-text.field-0.0 (c.in_err-text.ensures.told files told)))

pub returns-in_err-push-clause-told : goal.returns-in_err-push-clause-told
returns-in_err-push-clause-told g c = λ files told.
    let p = err_from_is_err_and c.from_residual-in_err-push.result c.from_residual-in_err-push.ensures.1 in
    rw (p.1, p.2) (memory_fails tokens_of c.args.limit (normalised c.args.name.now) c.args.sources.now c.push.new.self (get files (normalised c.args.name.now)) c.in_err-push.ensures.err)

pub returns-clause-told : goal.returns-clause-told
returns-clause-told g c = λ files told.
    renamed tokens_of c.args.limit files c.args.sources.now c.push.new.self c.in_ok-name.name (normalised c.args.name.now) c.tokens_of-tokens.result c.in_ok-name.ensures
    (text_follows tokens_of c.args.limit c.in_ok-name.name c.in_ok-text.text c.args.sources.now (get files c.in_ok-name.name) c.push.new.self c.tokens_of-tokens.result (c.in_ok-text.ensures.told files told) c.in_ok-text.ensures.short c.in_ok-push.ensures.ok
    (judges_same tokens_of c.tokens_of-tokens.result c.len.result (length c.args.sources.now) c.slice.result.now c.in_ok-text.text c.len.ensures c.slice.ensures c.tokens_of-tokens.ensures))

pub returns-in_err-name-clause-added : goal.returns-in_err-name-clause-added
returns-in_err-name-clause-added g c = adds_none c.args.limit c.args.sources.now c.args.sources.now refl

pub returns-in_err-text-clause-added : goal.returns-in_err-text-clause-added
returns-in_err-text-clause-added g c = adds_none c.args.limit c.args.sources.now c.args.sources.now refl

pub returns-in_err-push-clause-added : goal.returns-in_err-push-clause-added
returns-in_err-push-clause-added g c = adds_none c.args.limit c.args.sources.now c.push.new.self c.in_err-push.ensures.err

pub returns-clause-added : goal.returns-clause-added
returns-clause-added g c = adds_one c.args.limit c.args.sources.now c.push.new.self (record { name = c.in_ok-name.name; text = c.in_ok-text.text }) c.in_ok-text.ensures.short c.in_ok-push.ensures.ok

pub returns-clause-read : goal.returns-clause-read
returns-clause-read g c = last_read tokens_of c.args.sources.now c.push.new.self (record { name = c.in_ok-name.name; text = c.in_ok-text.text }) c.in_ok-push.ensures.ok c.tokens_of-tokens.result
    (judges_same tokens_of c.tokens_of-tokens.result c.len.result (length c.args.sources.now) c.slice.result.now c.in_ok-text.text c.len.ensures c.slice.ensures c.tokens_of-tokens.ensures)

pub returns-clause-fault : goal.returns-clause-fault
returns-clause-fault g c = last_fault tokens_of c.args.sources.now c.push.new.self (record { name = c.in_ok-name.name; text = c.in_ok-text.text }) c.in_ok-push.ensures.ok (λ e h. tokens_in_file (length c.args.sources.now) c.in_ok-text.text e h) c.tokens_of-tokens.result
    (judges_same tokens_of c.tokens_of-tokens.result c.len.result (length c.args.sources.now) c.slice.result.now c.in_ok-text.text c.len.ensures c.slice.ensures c.tokens_of-tokens.ensures)

pub returns-in_err-text-clause-fault : goal.returns-in_err-text-clause-fault
returns-in_err-text-clause-fault g c =
    let p = err_from_is_err_and c.from_residual-in_err-text.result c.from_residual-in_err-text.ensures.1 in
    rw (p.1, p.2) (name_fault tokens_of c.args.sources.now c.in_ok-name.name c.in_err-text.field-0.0 c.in_err-text.ensures.named)

pub returns-in_err-text-clause-named : goal.returns-in_err-text-clause-named
returns-in_err-text-clause-named g c =
    let p = err_from_is_err_and c.from_residual-in_err-text.result c.from_residual-in_err-text.ensures.1 in
    rw (p.1, p.2) (one_renamed c.in_ok-name.name (normalised c.args.name.now) c.in_err-text.field-0.0 c.in_ok-name.ensures c.in_err-text.ensures.named)

pub returns-clause-named : goal.returns-clause-named
returns-clause-named g c = one_at_fault tokens_of (normalised c.args.name.now) (length c.args.sources.now) c.in_ok-text.text (λ e h. tokens_in_file (length c.args.sources.now) c.in_ok-text.text e h) c.tokens_of-tokens.result
    (judges_same tokens_of c.tokens_of-tokens.result c.len.result (length c.args.sources.now) c.slice.result.now c.in_ok-text.text c.len.ensures c.slice.ensures c.tokens_of-tokens.ensures)

pub returns-clause-one : goal.returns-clause-one
returns-clause-one g c = omega (arith, ap length c.in_ok-push.ensures.ok, length-append c.args.sources.now (record { name = c.in_ok-name.name; text = c.in_ok-text.text } ∷ []))

pub returns-in_err-push-clause-one : goal.returns-in_err-push-clause-one
returns-in_err-push-clause-one g c = omega (arith, ap length c.in_err-push.ensures.err)
