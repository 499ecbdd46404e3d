use Rattle.std.proofs.Common.{◌∙◌, arith}
use Rattle.asm_lex.proofs.Small.{small}
use Rattle.asm_lex.proofs.Sound.{sound, count}
use Rattle.asm_tree.specs.Scripts as scripts
use Rattle.asm_tree.proofs.Wholes.{checked_inputs}
use Rattle.whole_file.proofs.Lexemes.{read_tree, read_stop, counts_in, as_many}
use Rattle.avalla_parse.proofs.parse.read_inputs.Goals as goal

pub lexemes-requires-clause-places : goal.lexemes-requires-clause-places
lexemes-requires-clause-places c = sound c.args.text.now c.args.tokens.now c.requires.together

pub lexemes-requires-clause-small : goal.lexemes-requires-clause-small
lexemes-requires-clause-small c = small c.args.text.now c.args.tokens.now c.requires.together

pub returns-in-Ok : goal.returns-in-Ok
returns-in-Ok c = read_tree scripts.inputs checked_inputs c.args.text.now c.args.tokens.now c.as_slice-listed.result.now (rw c.as_slice-listed.ensures.value c.in_ok-lexemes.ensures) c.in-Ok.inputs c.in-Ok.ensures

pub explained-requires-clause-counts : goal.explained-requires-clause-counts
explained-requires-clause-counts c = counts_in scripts.inputs checked_inputs c.args.text.now c.args.tokens.now c.as_slice-listed.result.now (rw c.as_slice-listed.ensures.value c.in_ok-lexemes.ensures) c.in-Err.stop c.in-Err.ensures

pub explained-requires-clause-few : goal.explained-requires-clause-few
explained-requires-clause-few c = omega (arith, count c.args.text.now c.args.tokens.now c.requires.together, as_many scripts.inputs checked_inputs c.args.text.now c.args.tokens.now c.as_slice-listed.result.now (rw c.as_slice-listed.ensures.value c.in_ok-lexemes.ensures))

pub returns : goal.returns
returns c = λ ne. rw c.explained.ensures (read_stop scripts.inputs checked_inputs c.args.text.now c.args.tokens.now c.as_slice-listed.result.now (rw c.as_slice-listed.ensures.value c.in_ok-lexemes.ensures) c.in-Err.stop c.in-Err.ensures (λ z. ne (c.explained.ensures ∙ z)))
