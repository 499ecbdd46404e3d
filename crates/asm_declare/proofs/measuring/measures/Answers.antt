use Rattle.asm_declare.proofs.Sizing.{measures_known}
use Rattle.asm_declare.proofs.measuring.measures.Goals as goal

pub returns : goal.returns
returns c = record {
  noted = c.in_ok-all_measures.ensures.noted_is;
  measured = measures_known c.args.units.now c.new-measures.ensures.names c.new-measures.ensures.measures c.in_ok-all_measures.ensures;
}
