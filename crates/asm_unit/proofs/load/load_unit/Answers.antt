use Rattle.std.proofs.Common.{refl}
use Rattle.std.proofs.lemmas.Result.{err_from_is_err_and}
use Rattle.std.specs.FinMap.{get}
use Rattle.asm_unit.specs.Path.{normalised}
use Rattle.asm_unit.specs.Loading.{most_bytes}
use Rattle.asm_unit.specs.Spelled.{tree_of}
use Rattle.asm_unit.proofs.Outcomes.{held_grows, renamed}
use Rattle.asm_unit.proofs.Sources.{adds_none, one_by_name}
use Rattle.asm_unit.proofs.load.load_unit.Goals as goal

pub returns-in_err-name-clause-told : goal.returns-in_err-name-clause-told
returns-in_err-name-clause-told g c = λ files told.
    let p = err_from_is_err_and c.from_residual.result c.from_residual.ensures.1 in
    rw (p.1, p.2) (held_grows tree_of most_bytes (normalised c.args.name.now) c.args.sources.now (get files (normalised c.args.name.now)))

pub returns-in_err-name-clause-added : goal.returns-in_err-name-clause-added
returns-in_err-name-clause-added g c = adds_none most_bytes c.args.sources.now c.args.sources.now refl

pub returns-clause-told : goal.returns-clause-told
returns-clause-told g c = λ files told.
    renamed tree_of most_bytes files c.args.sources.now c.read_unit.new.sources c.in_ok-name.name (normalised c.args.name.now) c.read_unit.result c.in_ok-name.ensures (c.read_unit.ensures.told files told)

pub returns-clause-named : goal.returns-clause-named
returns-clause-named g c = one_by_name c.in_ok-name.name (normalised c.args.name.now) c.read_unit.result c.in_ok-name.ensures c.read_unit.ensures.named
