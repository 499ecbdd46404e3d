use Rattle.std.proofs.Common.{◌∙◌, ◌-◌, ℕ, List, Ok, drop, length, refl, sym, ap, arith}
use Rattle.std.proofs.lemmas.Result.{err_from_is_err_and}
use Rattle.asm_unit.specs.declared.error.LoadError.TheVariants.{Memory}
use Rattle.asm_unit.specs.Loading.{Visit, visit_by, new_file, imports_by, ended, most_bytes}
use Rattle.asm_unit.specs.Import.{import_name}
use Rattle.asm_unit.specs.Spelled.{tree_of}
use Rattle.asm_tree.specs.declared.unit.RawUnit.{RawUnit}
use Rattle.asm_tree.specs.declared.unit.LoadedUnit.{LoadedUnit}
use Rattle.asm_unit.proofs.Outcomes.{imports_grow, visit_grows, new_file_grows, import_loaded, import_fails, fails_as, new_file_full, file_fails, imports_fail, all_loaded, memory_after, pushed}
use Rattle.asm_unit.proofs.Sources.{adds_none, adds_then, units_and, judged_stays}
use Rattle.asm_unit.proofs.load.+load.Goals as goal

pub imports-returns-in_err-name-clause-told : goal.imports-returns-in_err-name-clause-told
imports-returns-in_err-name-clause-told g t c = λ files told.
    let p = err_from_is_err_and c.from_residual.result c.from_residual.ensures.1 in
    let v : Visit = visit_by files c.args.room.first (new_file files c.args.room.first c.args.room.levels) in
    rw (p.1, p.2)
    (fails_as (imports_by v c.args.from.now (drop c.paths.path-index c.args.paths.now) c.paths.sources c.paths.units) (imports_by v c.args.from.now c.args.paths.now c.args.sources.now c.args.units) c.paths.sources Memory (c.paths.invariant.left files told)
    (imports_grow v (visit_grows files c.args.room.first (new_file files c.args.room.first c.args.room.levels) (new_file_grows files c.args.room.first c.args.room.levels)) c.args.from.now (drop c.paths.path-index c.args.paths.now) c.paths.sources c.paths.units))

pub imports-returns-in_err-units-clause-told : goal.imports-returns-in_err-units-clause-told
imports-returns-in_err-units-clause-told g t c = λ files told.
    let p = err_from_is_err_and c.from_residual-in_err-units.result c.from_residual-in_err-units.ensures.1 in
    let v : Visit = visit_by files c.args.room.first (new_file files c.args.room.first c.args.room.levels) in
    rw (p.1, p.2)
    (fails_as (imports_by v c.args.from.now (drop c.paths.path-index c.args.paths.now) c.paths.sources c.paths.units) (imports_by v c.args.from.now c.args.paths.now c.args.sources.now c.args.units) c.visit.new.sources c.in_err-units.field-0.0 (c.paths.invariant.left files told)
    (import_fails v c.args.from.now (visit_grows files c.args.room.first (new_file files c.args.room.first c.args.room.levels) (new_file_grows files c.args.room.first c.args.room.levels)) c.args.paths.now c.paths.path-index c.path-item.result c.path-item.result c.in_ok-name.name c.paths.sources c.visit.new.sources c.paths.units c.in_err-units.field-0.0
    c.paths-test.true c.path-item.is (sym c.reads_no_file.ensures ∙ c.if-reads_no_file.false) (c.in_ok-name.ensures ∙ ap (λ (n : List ℕ). import_name n c.path-item.result) c.text.ensures) (c.in_err-units.ensures.told files (c.paths.invariant.same ∙ told))))

pub imports-paths-preserved : goal.imports-paths-preserved
imports-paths-preserved g t c = record {
  left = λ files told.
      let v : Visit = visit_by files c.args.room.first (new_file files c.args.room.first c.args.room.levels) in
      import_loaded v c.args.from.now c.args.paths.now c.paths.path-index c.path-item.result c.path-item.result c.in_ok-name.name c.paths.sources c.visit.new.sources c.paths.units c.in_ok-units.units
      c.paths-test.true c.path-item.is (sym c.reads_no_file.ensures ∙ c.if-reads_no_file.false) (c.in_ok-name.ensures ∙ ap (λ (n : List ℕ). import_name n c.path-item.result) c.text.ensures) (c.in_ok-units.ensures.told files (c.paths.invariant.same ∙ told))
      ∙ c.paths.invariant.left files told;
  same = c.in_ok-units.ensures.files ∙ c.paths.invariant.same;
  later = omega (arith, c.in_ok-units.ensures.later);
  added = adds_then most_bytes c.args.sources.now c.paths.sources c.visit.new.sources c.paths.invariant.added c.in_ok-units.ensures.added;
  units = c.in_ok-units.ensures.units;
  more = omega (arith, c.in_ok-units.ensures.more);
  bounded = c.in_ok-units.ensures.bounded;
}

pub new_file-returns-then-is_full-clause-told : goal.new_file-returns-then-is_full-clause-told
new_file-returns-then-is_full-clause-told g t c = λ files told.
    new_file_full files c.args.room.first c.args.room.levels c.args.name c.args.sources.now c.args.units (c.len-file.result - c.args.room.first) (ap (λ (n : ℕ). n - c.args.room.first) c.len-file.ensures) (sym c.is_full.ensures ∙ c.if-is_full.true)

pub new_file-returns-in_err-unit-clause-told : goal.new_file-returns-in_err-unit-clause-told
new_file-returns-in_err-unit-clause-told g t c = λ files told.
    let p = err_from_is_err_and c.from_residual.result c.from_residual.ensures.1 in
    rw (p.1, p.2)
    (file_fails files c.args.room.first c.args.room.levels c.args.name c.args.sources.now c.args.units (c.len-file.result - c.args.room.first) (ap (λ (n : ℕ). n - c.args.room.first) c.len-file.ensures) (sym c.is_full.ensures ∙ c.if-is_full.false)
    c.read_unit.new.sources c.in_err-unit.field-0.0 (c.in_err-unit.ensures.told files told))

pub new_file-returns-in_err-units-clause-told : goal.new_file-returns-in_err-units-clause-told
new_file-returns-in_err-units-clause-told g t c = λ files told.
    let p = err_from_is_err_and c.from_residual-in_err-units.result c.from_residual-in_err-units.ensures.1 in
    rw (p.1, p.2)
    (imports_fail files c.args.room.first c.args.room.levels c.args.name c.args.sources.now c.args.units (c.len-file.result - c.args.room.first) (ap (λ (n : ℕ). n - c.args.room.first) c.len-file.ensures) (sym c.is_full.ensures ∙ c.if-is_full.false)
    c.read_unit.new.sources c.in_ok-unit.unit c.slice.result.now (c.in_ok-unit.ensures.told files told) (c.slice.ensures ∙ ap (λ (u : RawUnit). u.imports) c.get.ensures)
    c.imports.new.sources c.in_err-units.field-0.0 (c.in_err-units.ensures.told files (c.in_ok-unit.ensures.files ∙ told)))

pub new_file-returns-in_err-push-clause-told : goal.new_file-returns-in_err-push-clause-told
new_file-returns-in_err-push-clause-told g t c = λ files told.
    let p = err_from_is_err_and c.from_residual-in_err-push.result c.from_residual-in_err-push.ensures.1 in
    rw (p.1, p.2)
    (memory_after files c.args.room.first c.args.room.levels c.args.name c.args.sources.now c.args.units (c.len-file.result - c.args.room.first) (ap (λ (n : ℕ). n - c.args.room.first) c.len-file.ensures) (sym c.is_full.ensures ∙ c.if-is_full.false)
    c.read_unit.new.sources c.in_ok-unit.unit c.slice.result.now (c.in_ok-unit.ensures.told files told) (c.slice.ensures ∙ ap (λ (u : RawUnit). u.imports) c.get.ensures)
    c.imports.new.sources c.in_ok-units.units (c.in_ok-units.ensures.told files (c.in_ok-unit.ensures.files ∙ told)))

pub new_file-returns-clause-told : goal.new_file-returns-clause-told
new_file-returns-clause-told g t c = λ files told.
    all_loaded files c.args.room.first c.args.room.levels c.args.name c.args.sources.now c.args.units (c.len-file.result - c.args.room.first) (ap (λ (n : ℕ). n - c.args.room.first) c.len-file.ensures) (sym c.is_full.ensures ∙ c.if-is_full.false)
    c.read_unit.new.sources c.in_ok-unit.unit c.slice.result.now (c.in_ok-unit.ensures.told files told) (c.slice.ensures ∙ ap (λ (u : RawUnit). u.imports) c.get.ensures)
    c.imports.new.sources c.in_ok-units.units (c.in_ok-units.ensures.told files (c.in_ok-unit.ensures.files ∙ told))
    ∙ ap (λ (us : List LoadedUnit). ended c.imports.new.sources us) (pushed c.in_ok-units.units c.push.new.self c.len-file.result (length c.args.sources.now) c.into_inner-unit.result c.in_ok-unit.unit c.in_ok-push.ensures.ok c.len-file.ensures c.into_inner-unit.ensures)

pub imports-returns-in_err-units-clause-added : goal.imports-returns-in_err-units-clause-added
imports-returns-in_err-units-clause-added g t c = adds_then most_bytes c.args.sources.now c.paths.sources c.visit.new.sources c.paths.invariant.added c.in_err-units.ensures.added

pub imports-paths-init : goal.imports-paths-init
imports-paths-init g t c = record {
  left = λ files told. refl;
  same = refl;
  later = omega arith;
  added = adds_none most_bytes c.args.sources.now c.args.sources.now refl;
  units = c.requires.known;
  more = omega arith;
  bounded = c.requires.few;
}

pub new_file-returns-then-is_full-clause-added : goal.new_file-returns-then-is_full-clause-added
new_file-returns-then-is_full-clause-added g t c = adds_none most_bytes c.args.sources.now c.args.sources.now refl

pub new_file-returns-in_err-units-clause-added : goal.new_file-returns-in_err-units-clause-added
new_file-returns-in_err-units-clause-added g t c = adds_then most_bytes c.args.sources.now c.read_unit.new.sources c.imports.new.sources c.in_ok-unit.ensures.added c.in_err-units.ensures.added

pub new_file-returns-in_err-push-clause-added : goal.new_file-returns-in_err-push-clause-added
new_file-returns-in_err-push-clause-added g t c = adds_then most_bytes c.args.sources.now c.read_unit.new.sources c.imports.new.sources c.in_ok-unit.ensures.added c.in_ok-units.ensures.added

pub new_file-returns-clause-added : goal.new_file-returns-clause-added
new_file-returns-clause-added g t c = adds_then most_bytes c.args.sources.now c.read_unit.new.sources c.imports.new.sources c.in_ok-unit.ensures.added c.in_ok-units.ensures.added

pub new_file-returns-clause-units : goal.new_file-returns-clause-units
new_file-returns-clause-units g t c =
    units_and c.imports.new.sources c.in_ok-units.units c.push.new.self (record { file = length c.args.sources.now; unit = c.in_ok-unit.unit }) c.in_ok-units.ensures.units
    (judged_stays tree_of most_bytes c.read_unit.new.sources c.imports.new.sources (length c.args.sources.now) (Ok c.in_ok-unit.unit) c.in_ok-units.ensures.added c.in_ok-unit.ensures.read)
    (sym (pushed c.in_ok-units.units c.push.new.self c.len-file.result (length c.args.sources.now) c.into_inner-unit.result c.in_ok-unit.unit c.in_ok-push.ensures.ok c.len-file.ensures c.into_inner-unit.ensures))

pub visit-returns-in-Some-clause-added : goal.visit-returns-in-Some-clause-added
visit-returns-in-Some-clause-added g t c = adds_none most_bytes c.args.sources.now c.args.sources.now refl
