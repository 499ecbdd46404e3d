use Rattle.asm_declare.proofs.Sizing.{definitions_noted, definitions_known}
use Rattle.asm_declare.proofs.defining.definitions.Goals as goal

pub returns : goal.returns
returns c = record {
  noted = definitions_noted c.args.units.now c.new-definitions.ensures.names c.in_ok-all_definitions.ensures;
  defined = definitions_known c.args.units.now c.new-definitions.ensures.names c.new-definitions.ensures.sizes c.in_ok-all_definitions.ensures;
}
