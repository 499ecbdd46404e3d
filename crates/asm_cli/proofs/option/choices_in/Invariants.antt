use Rattle.std.proofs.Common.{◌≡◌, ◌++◌, List, drop, ℕ}
use Rattle.std.specs.Option.{option_map}
use Rattle.asm_cli.specs.Words.{numbers_among, most_choice, texts}
use Rattle.asm_cli.proofs.option.choices_in.Given as goal

-- the numbers so far, with those that are left, are the whole
abbrev pub invariant-pieces : goal.invariant-pieces
invariant-pieces l = option_map (λ (ns : List ℕ). l.choices ++ ns) (numbers_among most_choice (texts (drop l.piece-index l.pieces))) ≡ numbers_among most_choice (texts l.pieces)
