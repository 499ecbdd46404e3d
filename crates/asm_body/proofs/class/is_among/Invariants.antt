use Rattle.std.proofs.Common.{◌≡◌, drop, map}
use Rattle.asm_grammar.specs.Grammar.{has}
use Rattle.asm_tree.specs.Words.{kind_of}
use Rattle.asm_body.proofs.class.is_among.Given as goal

abbrev pub invariant-classes : goal.invariant-classes
invariant-classes l = has (kind_of l.class) (map kind_of l.wanted) ≡ has (kind_of l.class) (map kind_of (drop l.other-index l.wanted))
