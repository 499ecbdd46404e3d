-- What the grammar is over: tokens, and what stands behind a token that opens a level.
use Rattle.std.specs.Prelude.{ℕ, zero, suc, ◌-◌, List, ◌∷◌, [], Bool, true, false, Option}
use Rattle.asm_grammar.specs.Grammar.{Language, Grammar, word, both, shown}
use Rattle.asm_tree.specs.Words.{class_of, number, kind_of, sample_text}
use Rattle.asm_tree.specs.declared.class.Class.{Class}
use Rattle.asm_tree.specs.declared.class.Class.TheVariants as class
use Rattle.asm_tree.specs.declared.term.RawName.{RawName}
use Rattle.asm_tree.specs.declared.term.RawBinder.{RawBinder}
use Rattle.asm_tree.specs.declared.term.RawBind.{RawBind}
use Rattle.asm_tree.specs.declared.term.RawCase.{RawCase}
use Rattle.asm_tree.specs.declared.term.RawTerm.{RawTerm}
use Rattle.asm_tree.specs.declared.term.RawTermKind.{RawTermKind}
use Rattle.asm_tree.specs.declared.rule.RawRule.{RawRule}
use Rattle.asm_tree.specs.declared.rule.RawRuleCase.{RawRuleCase}
use Rattle.asm_tree.specs.declared.script.RawConstant.{RawConstant}

-- a token: the place of its first byte, and its bytes
pub record TokenText : Type 0 where
  pub at : ℕ
  pub text : List ℕ

-- a term with the token that it begins at, which is a parenthesis where one groups its front
pub record Phrase : Type 0 where
  pub begins : TokenText
  pub term : RawTerm

-- an operand, and the operators and operands that follow it on its level
abbrev pub Chain : Type 0
Chain = Phrase × List (TokenText × Phrase)

-- what parentheses group: a quantifier, which they belong to, or a term
pub data Grouping : Type 0 where
  Quantified : (kind : RawTermKind) → Grouping
  Plain : (term : RawTerm) → Grouping

-- what stands behind a token that opens a level
pub data Inside : Type 0 where
  -- operators of two operands, by their levels; and those before their one operand
  Equivalent Implied Disjoined Joined Compared Added Multiplied : Inside
  Negated Opposite : Inside
  -- an operator's name, and behind it the parenthesis with one, two, or one or two operands
  NamedOne NamedTwo NamedMinus : Inside
  OneOperand TwoOperands MinusOperands : Inside
  -- a parenthesis that groups, one with arguments, and a bracket with arguments
  Grouped Arguments Actuals : Inside
  ForallTerm ExistTerm ConditionalTerm SwitchTerm LetTerm : Inside
  -- the parenthesis of a `let`, of parameters, of a product, and of constants
  Binds Parameters Product Constants : Inside
  Parallel Sequence Conditional Switch Let Forall Choose : Inside

abbrev pub Value : Inside → Type 0
Value Equivalent = Chain
Value Implied = Phrase
Value Disjoined = Chain
Value Joined = Chain
Value Compared = Phrase
Value Added = Chain
Value Multiplied = Chain
Value Negated = Phrase
Value Opposite = Phrase
Value NamedOne = RawTerm
Value NamedTwo = RawTerm × RawTerm
Value NamedMinus = RawTerm × Option RawTerm
Value OneOperand = RawTerm
Value TwoOperands = RawTerm × RawTerm
Value MinusOperands = RawTerm × Option RawTerm
Value Grouped = Grouping
Value Arguments = List RawTerm
Value Actuals = List RawTerm
Value ForallTerm = List RawBinder × Option RawTerm
Value ExistTerm = Bool × (List RawBinder × Option RawTerm)
Value ConditionalTerm = RawTerm × (RawTerm × Option RawTerm)
Value SwitchTerm = RawTerm × (List RawCase × Option RawTerm)
Value LetTerm = List RawBind × RawTerm
Value Binds = List RawBind
Value Parameters = List RawBinder
Value Product = List RawName
Value Constants = List RawConstant
Value Parallel = List RawRule
Value Sequence = List RawRule
Value Conditional = RawTerm × (RawRule × Option RawRule)
Value Switch = RawTerm × (List RawRuleCase × Option RawRule)
Value Let = List RawBind × RawRule
Value Forall = List RawBinder × (Option RawTerm × RawRule)
Value Choose = List RawBinder × (Option RawTerm × (RawRule × Option RawRule))

abbrev pub models : Language
models = record {
  Token = TokenText;
  index = λ token. number (class_of token.text);
  sample = λ kind. record { at = 0; text = sample_text (kind - 1) };
  Inside = Inside;
  Value = Value;
}

-- ---- words and symbols

abbrev pub token : Class → Grammar models TokenText
token c = word (kind_of c ∷ [])

-- a word or symbol that stands for itself, and then g
abbrev pub after : Class → {A : Type 0} → Grammar models A → Grammar models A
after c g = shown (λ p. p.1) (both (token c) g)

-- g, and then a word or symbol that stands for itself
abbrev pub before : {A : Type 0} → Grammar models A → Class → Grammar models A
before g c = shown (λ p. p.0) (both g (token c))

-- the place and the text of a token
abbrev pub name_of : TokenText → RawName
name_of t = record { at = t.at; text = t.text }

abbrev pub name : List ℕ → Grammar models RawName
name kinds = shown name_of (word kinds)

-- ---- which tokens are names

abbrev pub script_words : List ℕ
script_words = kind_of class.Scenario ∷ kind_of class.Load ∷ kind_of class.Set ∷ kind_of class.Step ∷ kind_of class.Until ∷ kind_of class.Check ∷ kind_of class.Exec ∷ kind_of class.Begin ∷ kind_of class.End ∷ kind_of class.ExecBlock ∷ []

-- the words of scenarios name functions in models
abbrev pub functions : Bool → List ℕ
functions true = kind_of class.FunctionName ∷ []
functions false = kind_of class.FunctionName ∷ script_words

abbrev pub rules : List ℕ
rules = kind_of class.RuleName ∷ []

abbrev pub invariants : List ℕ
invariants = kind_of class.InvariantName ∷ []

abbrev pub elements : List ℕ
elements = kind_of class.ElementName ∷ []

abbrev pub domains : List ℕ
domains = kind_of class.CapitalName ∷ kind_of class.ElementName ∷ []

abbrev pub variables : List ℕ
variables = kind_of class.Variable ∷ []

-- words that aren't reserved in scenarios
abbrev pub plain_words : List ℕ
plain_words = kind_of class.RuleName ∷ kind_of class.InvariantName ∷ kind_of class.FunctionName ∷ kind_of class.ElementName ∷ kind_of class.CapitalName ∷ []

-- words that aren't reserved in models
abbrev pub free_words : List ℕ
free_words = kind_of class.RuleName ∷ kind_of class.InvariantName ∷ kind_of class.FunctionName ∷ kind_of class.ElementName ∷ kind_of class.CapitalName ∷ script_words

-- the kinds from 1 to n
abbrev pub up_to : ℕ → List ℕ → List ℕ
up_to zero ks = ks
up_to (suc n) ks = up_to n (suc n ∷ ks)

-- all words
abbrev pub words : List ℕ
words = up_to (kind_of class.CapitalName) []
