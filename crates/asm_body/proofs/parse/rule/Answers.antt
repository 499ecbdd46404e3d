use Rattle.std.proofs.Common.{arith, Ok, Err}
use Rattle.asm_lex.proofs.Sound.{count}
use Rattle.asm_tree.specs.Rules.{rule}
use Rattle.asm_body.proofs.CheckedFronts.{checked_rule}
use Rattle.asm_body.proofs.Verdicts.{few, is_within, is_found, is_only, only_memory, counts, explains, refuses_with}
use Rattle.asm_body.proofs.parse.rule.Goals as goal

pub overflow_sub-result : goal.overflow_sub-result
overflow_sub-result c = is_within c.args.script (rule c.args.script) (checked_rule c.args.script) c.args.text.now c.args.tokens.now c.args.from c.args.nest c.requires.place c.as_slice-listed.result.now (rw c.as_slice-listed.ensures.value c.in_ok-lexemes.ensures) c.in-Ok.rule c.in-Ok.rest.now c.in-Ok.ensures

pub overflow_cast-result : goal.overflow_cast-result
overflow_cast-result c = omega (arith, count c.args.text.now c.args.tokens.now c.requires.together, c.requires.small)

pub returns-in-Ok-clause-found : goal.returns-in-Ok-clause-found
returns-in-Ok-clause-found c = is_found c.args.script (rule c.args.script) (checked_rule c.args.script) c.args.text.now c.args.tokens.now c.args.from c.args.nest c.requires.place c.as_slice-listed.result.now (rw c.as_slice-listed.ensures.value c.in_ok-lexemes.ensures) c.in-Ok.rule c.in-Ok.rest.now c.in-Ok.ensures

pub returns-in-Ok-clause-only : goal.returns-in-Ok-clause-only
returns-in-Ok-clause-only c = λ y k i. is_only c.args.script (rule c.args.script) (checked_rule c.args.script) c.args.text.now c.args.tokens.now c.args.from c.args.nest c.requires.place c.as_slice-listed.result.now (rw c.as_slice-listed.ensures.value c.in_ok-lexemes.ensures) y k i c.in-Ok.rule c.in-Ok.rest.now c.in-Ok.ensures

pub returns-in-Ok-clause-refuses : goal.returns-in-Ok-clause-refuses
returns-in-Ok-clause-refuses c = λ e ne x. refuses_with c.args.script (rule c.args.script) (checked_rule c.args.script) c.args.text.now c.args.tokens.now c.args.from c.args.nest c.requires.place c.as_slice-listed.result.now (rw c.as_slice-listed.ensures.value c.in_ok-lexemes.ensures) (Ok (c.in-Ok.rule, c.in-Ok.rest.now)) c.in-Ok.ensures e ne x

pub explained-requires-clause-counts : goal.explained-requires-clause-counts
explained-requires-clause-counts c = counts c.args.script (rule c.args.script) (checked_rule c.args.script) c.args.text.now c.args.tokens.now c.args.from c.args.nest c.requires.place c.as_slice-listed.result.now (rw c.as_slice-listed.ensures.value c.in_ok-lexemes.ensures) c.in-Err.stop c.in-Err.ensures

pub explained-requires-clause-within : goal.explained-requires-clause-within
explained-requires-clause-within c = few c.args.script (rule c.args.script) (checked_rule c.args.script) c.args.text.now c.args.tokens.now c.args.from c.args.nest c.requires.place c.as_slice-listed.result.now (rw c.as_slice-listed.ensures.value c.in_ok-lexemes.ensures)

pub explained-requires-clause-few : goal.explained-requires-clause-few
explained-requires-clause-few c = omega (arith, count c.args.text.now c.args.tokens.now c.requires.together, c.requires.small)

pub returns-clause-only : goal.returns-clause-only
returns-clause-only c = λ y k i. rw c.explained.ensures (only_memory c.args.script (rule c.args.script) (checked_rule c.args.script) c.args.text.now c.args.tokens.now c.args.from c.args.nest c.requires.place c.as_slice-listed.result.now (rw c.as_slice-listed.ensures.value c.in_ok-lexemes.ensures) y k i c.in-Err.stop c.in-Err.ensures)

pub returns-clause-refused : goal.returns-clause-refused
returns-clause-refused c = rw c.explained.ensures (explains c.args.script (rule c.args.script) (checked_rule c.args.script) c.args.text.now c.args.tokens.now c.args.from c.args.nest c.requires.place c.as_slice-listed.result.now (rw c.as_slice-listed.ensures.value c.in_ok-lexemes.ensures) c.in-Err.stop c.in-Err.ensures)

pub returns-clause-refuses : goal.returns-clause-refuses
returns-clause-refuses c = λ e ne x. rw c.explained.ensures (refuses_with c.args.script (rule c.args.script) (checked_rule c.args.script) c.args.text.now c.args.tokens.now c.args.from c.args.nest c.requires.place c.as_slice-listed.result.now (rw c.as_slice-listed.ensures.value c.in_ok-lexemes.ensures) (Err c.in-Err.stop) c.in-Err.ensures e ne x)
