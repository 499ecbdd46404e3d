use Rattle.std.proofs.Common.{drop}
use Rattle.std.specs.Prelude.{map}
use Rattle.asm_source.specs.Appends.{AppendsFront}
use Rattle.asm_text.specs.Texts.{value_text, with_commas}
use Rattle.asm_text.proofs.Pieces.{rest_from}
use Rattle.asm_text.proofs.location.print_values.Given as goal

-- the values from a place on are left
abbrev pub invariant-items : goal.invariant-items
invariant-items l = AppendsFront l.fn.out l.out (with_commas (map (value_text l.signature) l.values)) (rest_from l.index (map (value_text l.signature) (drop l.index l.values)))
