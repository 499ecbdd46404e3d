-- The operands of operators, by their levels, and the operators that are read to the left.
use Rattle.std.specs.Prelude.{ℕ, List, [], ◌∷◌, ◌++◌, Bool, Ok}
use Rattle.asm_grammar.specs.Grammar.{Grammar, Outcome, and_then}
use Rattle.asm_tree.specs.Words.{kind_of}
use Rattle.asm_tree.specs.declared.class.Class.TheVariants as class
use Rattle.asm_tree.specs.Language.{TokenText, Phrase, Inside, models, Equivalent, Disjoined, Joined, Added, Multiplied}
use Rattle.asm_tree.specs.Terms.{chained, one_names, two_names, equivalence, equivalence_tail, implication, disjunction_tail, conjunction, conjunction_tail, negation, sum, sum_tail, product, product_tail, opposite}
use Rattle.asm_body.specs.declared.level.Level.{Level}
use Rattle.asm_body.specs.declared.level.Level.TheVariants as level
use Rattle.asm_body.specs.declared.chain.Chain.{Chain}
use Rattle.asm_body.specs.declared.chain.Chain.TheVariants as chain

-- what an operand of the level is
abbrev pub operand : Bool → Level → Grammar models Phrase
operand script level.Equivalence = equivalence script
operand script level.Implication = implication script
operand script level.Conjunction = conjunction script
operand script level.Negation = negation script
operand script level.Sum = sum script
operand script level.Product = product script
operand script level.Opposite = opposite script

-- the operators of a chain
abbrev pub operators : Chain → List ℕ
operators chain.Equivalence = kind_of class.Iff ∷ []
operators chain.Disjunction = kind_of class.Or ∷ kind_of class.Xor ∷ []
operators chain.Conjunction = kind_of class.And ∷ []
operators chain.Sum = kind_of class.Plus ∷ kind_of class.Minus ∷ []
operators chain.Product = kind_of class.Times ∷ kind_of class.Mod ∷ []

-- the level of its operands
abbrev pub inner_level : Chain → Level
inner_level chain.Equivalence = level.Implication
inner_level chain.Disjunction = level.Conjunction
inner_level chain.Conjunction = level.Negation
inner_level chain.Sum = level.Product
inner_level chain.Product = level.Opposite

-- the operators and operands behind the first operand
abbrev pub tail : Bool → Chain → Grammar models (List (TokenText × Phrase))
tail script chain.Equivalence = equivalence_tail script
tail script chain.Disjunction = disjunction_tail script
tail script chain.Conjunction = conjunction_tail script
tail script chain.Sum = sum_tail script
tail script chain.Product = product_tail script

-- what stands behind an operator of the chain
abbrev pub behind : Chain → Inside
behind chain.Equivalence = Equivalent
behind chain.Disjunction = Disjoined
behind chain.Conjunction = Joined
behind chain.Sum = Added
behind chain.Product = Multiplied

-- operators and operands joined to a first operand
abbrev pub joined_to : Phrase → Outcome models (List (TokenText × Phrase)) → Outcome models Phrase
joined_to x o = and_then models o (λ ys s. Ok (chained x ys, s))

-- what terms of one token are
abbrev pub leaves : List ℕ
leaves = kind_of class.Number ∷ kind_of class.True ∷ kind_of class.False ∷ kind_of class.Undef ∷ kind_of class.Variable ∷ kind_of class.ElementName ∷ []

-- the names of operators before their operands
abbrev pub names : List ℕ
names = one_names ++ (two_names ++ (kind_of class.MinusName ∷ []))
