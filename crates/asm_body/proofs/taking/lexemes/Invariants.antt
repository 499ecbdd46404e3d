use Rattle.std.proofs.Common.{◌≡◌, take}
use Rattle.asm_body.specs.Seen.{all_seen}
use Rattle.asm_tree.specs.Spelling.{token_texts}
use Rattle.asm_body.proofs.taking.lexemes.Given as goal

abbrev pub invariant-tokens : goal.invariant-tokens
invariant-tokens l = all_seen l.lexemes.items ≡ token_texts l.text (take l.token-index l.tokens)
