use Rattle.std.proofs.Common.{[], length}
use Rattle.std.proofs.lemmas.Result.{err_from_is_err_and}
use Rattle.asm_unit.specs.Path.{normalised}
use Rattle.asm_unit.specs.Loading.{most_files}
use Rattle.asm_unit.proofs.Outcomes.{new_file_grows, units_follow}
use Rattle.asm_unit.proofs.load.load_all.Goals as goal

pub returns-in_err-name-clause-told : goal.returns-in_err-name-clause-told
returns-in_err-name-clause-told g c = λ files told.
    let p = err_from_is_err_and c.from_residual.result c.from_residual.ensures.1 in
    rw (p.1, p.2) (new_file_grows files (length c.args.sources.now) most_files (normalised c.args.name.now) c.args.sources.now [])

pub returns-clause-told : goal.returns-clause-told
returns-clause-told g c = λ files told.
    units_follow files c.args.sources.now c.new_file.new.sources c.len.result c.in_ok-name.name (normalised c.args.name.now) c.new.result c.new_file.result c.len.ensures c.in_ok-name.ensures c.new.ensures (c.new_file.ensures.told files told)
