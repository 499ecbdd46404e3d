-- The grammar of terms, level by level and production by production. Where it is true of a text that it is a scenario or
-- an input file, the words of scenarios are reserved.
use Rattle.std.specs.Prelude.{ℕ, Bool, true, false, List, [], ◌∷◌, Option, Some, None, ◌==◌, if◌then◌else◌}
use Rattle.std.specs.Option.{unwrap_or}
use Rattle.std.specs.Str.Parse.{digits_value}
use Rattle.asm_grammar.specs.Grammar.{Grammar, word, nothing, both, either, many, shown, opening, kind}
use Rattle.asm_tree.specs.Words.{kind_of}
use Rattle.asm_tree.specs.declared.class.Class.TheVariants as class
use Rattle.asm_tree.specs.declared.operator.Op.{Op}
use Rattle.asm_tree.specs.declared.operator.Op.TheVariants as op
use Rattle.asm_tree.specs.declared.operator.UnaryOp.{UnaryOp}
use Rattle.asm_tree.specs.declared.operator.UnaryOp.TheVariants as unary
use Rattle.asm_tree.specs.declared.operator.Quantifier.TheVariants as quantifier
use Rattle.asm_tree.specs.declared.term.RawBinder.{RawBinder}
use Rattle.asm_tree.specs.declared.term.RawBind.{RawBind}
use Rattle.asm_tree.specs.declared.term.RawCase.{RawCase}
use Rattle.asm_tree.specs.declared.term.RawTerm.{RawTerm}
use Rattle.asm_tree.specs.declared.term.RawTermKind.{RawTermKind}
use Rattle.asm_tree.specs.declared.term.RawTermKind.TheVariants as term_kind
use Rattle.asm_tree.specs.Language.{TokenText, Phrase, Grouping, Quantified, Plain, models, token, after, name, functions, elements, domains, variables, Equivalent, Implied, Disjoined, Joined, Compared, Added, Multiplied, Negated, Opposite, NamedOne, NamedTwo, NamedMinus, Grouped, Arguments, ForallTerm, ExistTerm, ConditionalTerm, SwitchTerm, LetTerm}

-- ---- what is built

-- a term at its first token
abbrev pub term_at : TokenText → RawTermKind → RawTerm
term_at t k = record { at = t.at; first = t.text; kind = k }

-- a term that begins at its own first token
abbrev pub phrase_at : TokenText → RawTermKind → Phrase
phrase_at t k = record { begins = t; term = term_at t k }

abbrev pub number_at : TokenText → Phrase
number_at t = phrase_at t (term_kind.Number (digits_value 10 t.text))

-- the operator of a kind of token
abbrev pub op_at : ℕ → Op
op_at k =
    if k == kind_of class.Iff then op.Iff
    else (if k == kind_of class.Implies then op.Implies
    else (if k == kind_of class.Or then op.Or
    else (if k == kind_of class.Xor then op.Xor
    else (if k == kind_of class.And then op.And
    else (if (k == kind_of class.Equal) then op.Equal
    else (if (k == kind_of class.EqualName) then op.Equal
    else (if k == kind_of class.NotEqual then op.NotEqual
    else (if k == kind_of class.NotEqualName then op.NotEqual
    else (if k == kind_of class.Less then op.Less
    else (if k == kind_of class.LessName then op.Less
    else (if k == kind_of class.LessEqual then op.LessEqual
    else (if k == kind_of class.LessEqualName then op.LessEqual
    else (if k == kind_of class.Greater then op.Greater
    else (if k == kind_of class.GreaterName then op.Greater
    else (if k == kind_of class.GreaterEqual then op.GreaterEqual
    else (if k == kind_of class.GreaterEqualName then op.GreaterEqual
    else (if k == kind_of class.Plus then op.Plus
    else (if k == kind_of class.PlusName then op.Plus
    else (if k == kind_of class.Minus then op.Minus
    else (if k == kind_of class.MinusName then op.Minus
    else (if k == kind_of class.Times then op.Times
    else (if k == kind_of class.TimesName then op.Times
    else (if k == kind_of class.Mod then op.Mod
    else (if k == kind_of class.Idiv then op.Idiv
    else (if k == kind_of class.Min then op.Min
    else op.Max)))))))))))))))))))))))))

-- the operator of one operand that a kind of token names
abbrev pub unary_at : ℕ → UnaryOp
unary_at k =
    if k == kind_of class.Abs then unary.Abs
    else (if k == kind_of class.IsDef then unary.IsDefined
    else unary.IsUndefined)

-- an operator with its operands begins where its left operand does
abbrev pub joined : Phrase → TokenText → Phrase → Phrase
joined x o y = phrase_at x.begins (term_kind.Binary (op_at (kind models o)) x.term y.term)

-- operators to the left: the first one binds first
abbrev pub chained : Phrase → List (TokenText × Phrase) → Phrase
chained x [] = x
chained x ((o, y) ∷ rest) = chained (joined x o y) rest

abbrev pub chain_of : Phrase × List (TokenText × Phrase) → Phrase
chain_of p = chained p.0 p.1

-- an operator that may be there once
abbrev pub paired : Phrase × Option (TokenText × Phrase) → Phrase
paired (x, None) = x
paired (x, Some (o, y)) = joined x o y

abbrev pub before_operand : UnaryOp → TokenText × Phrase → Phrase
before_operand o p = phrase_at p.0 (term_kind.Unary o p.1.term)

-- a name before its operands
abbrev pub named_one : TokenText × RawTerm → Phrase
named_one p = phrase_at p.0 (term_kind.Unary (unary_at (kind models p.0)) p.1)

abbrev pub named_two : TokenText × (RawTerm × RawTerm) → Phrase
named_two p = phrase_at p.0 (term_kind.Binary (op_at (kind models p.0)) p.1.0 p.1.1)

abbrev pub named_minus : TokenText × (RawTerm × Option RawTerm) → Phrase
named_minus (t, (x, None)) = phrase_at t (term_kind.Unary unary.Negate x)
named_minus (t, (x, Some y)) = phrase_at t (term_kind.Binary op.Minus x y)

-- what a parenthesis groups keeps its own place; a quantifier begins at its parenthesis
abbrev pub grouped : TokenText × Grouping → Phrase
grouped (t, Quantified k) = phrase_at t k
grouped (t, Plain x) = record { begins = t; term = x }

-- a function and its arguments, of which there may be none
abbrev pub call_of : TokenText × List RawTerm → Phrase
call_of p = phrase_at p.0 (term_kind.Call p.0.text p.1)

-- where no guard is written it is `true`, and where no other branch is it is `undef`, at the word that the term begins with
abbrev pub guard_or : TokenText → Option RawTerm → RawTerm
guard_or t g = unwrap_or g (term_at t (term_kind.Truth true))

abbrev pub other_or : TokenText → Option RawTerm → RawTerm
other_or t x = unwrap_or x (term_at t term_kind.Undef)

abbrev pub forall_term : TokenText × (List RawBinder × Option RawTerm) → RawTermKind
forall_term p = term_kind.Quant quantifier.Forall p.1.0 (guard_or p.0 p.1.1)

abbrev pub exist_term : TokenText × (Bool × (List RawBinder × Option RawTerm)) → RawTermKind
exist_term p = term_kind.Quant (if p.1.0 then quantifier.ExistUnique else quantifier.Exist) p.1.1.0 (guard_or p.0 p.1.1.1)

abbrev pub conditional_term : TokenText × (RawTerm × (RawTerm × Option RawTerm)) → Phrase
conditional_term p = phrase_at p.0 (term_kind.Cond p.1.0 p.1.1.0 (other_or p.0 p.1.1.1))

abbrev pub switch_term : TokenText × (RawTerm × (List RawCase × Option RawTerm)) → Phrase
switch_term p = phrase_at p.0 (term_kind.Switch p.1.0 p.1.1.0 (other_or p.0 p.1.1.1))

abbrev pub let_term : TokenText × (List RawBind × RawTerm) → Phrase
let_term p = phrase_at p.0 (term_kind.Let p.1.0 p.1.1)

-- ---- operators

abbrev pub comparisons : List ℕ
comparisons = kind_of class.Equal ∷ kind_of class.NotEqual ∷ kind_of class.Less ∷ kind_of class.LessEqual ∷ kind_of class.Greater ∷ kind_of class.GreaterEqual ∷ []

-- names before one operand, and before two
abbrev pub one_names : List ℕ
one_names = kind_of class.Abs ∷ kind_of class.IsDef ∷ kind_of class.IsUndef ∷ []

abbrev pub two_names : List ℕ
two_names = kind_of class.Iff ∷ kind_of class.Implies ∷ kind_of class.Or ∷ kind_of class.Xor ∷ kind_of class.And ∷ kind_of class.EqualName ∷ kind_of class.NotEqualName ∷ kind_of class.LessName ∷ kind_of class.LessEqualName ∷ kind_of class.GreaterName ∷ kind_of class.GreaterEqualName
    ∷ kind_of class.PlusName ∷ kind_of class.TimesName ∷ kind_of class.Mod ∷ kind_of class.Idiv ∷ kind_of class.Min ∷ kind_of class.Max ∷ []

-- ---- productions

module _ (script : Bool) where
  -- args = "(" term { "," term } ")", where there are any
  unfoldable pub arguments : Grammar models (List RawTerm)
  arguments = either (shown (λ p. p.1) (opening (kind_of class.Open ∷ []) Arguments)) (nothing [] [])

  -- Fun [ args ]
  unfoldable pub call : Grammar models Phrase
  call = shown call_of (both (word (functions script)) arguments)

  -- Number | "true" | "false" | "undef" | Variable | Elem
  unfoldable pub leaf : Grammar models Phrase
  leaf =
      either (shown number_at (token class.Number))
      (either (shown (λ t. phrase_at t (term_kind.Truth true)) (token class.True))
      (either (shown (λ t. phrase_at t (term_kind.Truth false)) (token class.False))
      (either (shown (λ t. phrase_at t term_kind.Undef) (token class.Undef))
      (either (shown (λ (t : TokenText). phrase_at t (term_kind.Variable t.text)) (word variables))
      (shown (λ (t : TokenText). phrase_at t (term_kind.Element t.text)) (word elements))))))

  -- opname args
  unfoldable pub named : Grammar models Phrase
  named =
      either (shown named_one (opening one_names NamedOne))
      (either (shown named_two (opening two_names NamedTwo))
      (shown named_minus (opening (kind_of class.MinusName ∷ []) NamedMinus)))

  -- a term with words around it, or in parentheses
  unfoldable pub enclosed : Grammar models Phrase
  enclosed =
      either (shown grouped (opening (kind_of class.Open ∷ []) Grouped))
      (either (shown conditional_term (opening (kind_of class.If ∷ []) ConditionalTerm))
      (either (shown switch_term (opening (kind_of class.Switch ∷ []) SwitchTerm))
      (shown let_term (opening (kind_of class.Let ∷ []) LetTerm))))

  unfoldable pub primary : Grammar models Phrase
  primary = either leaf (either call (either named enclosed))

  -- level 9: "-" before its operand
  unfoldable pub opposite : Grammar models Phrase
  opposite = either (shown (before_operand unary.Negate) (opening (kind_of class.Minus ∷ []) Opposite)) primary

  -- level 8: { ("*" | "mod") operand }
  unfoldable pub product_tail : Grammar models (List (TokenText × Phrase))
  product_tail = either (shown (λ p. (p.0, p.1.0) ∷ p.1.1) (opening (kind_of class.Times ∷ kind_of class.Mod ∷ []) Multiplied)) (nothing [] [])

  unfoldable pub product : Grammar models Phrase
  product = shown chain_of (both opposite product_tail)

  -- level 7: { ("+" | "-") operand }
  unfoldable pub sum_tail : Grammar models (List (TokenText × Phrase))
  sum_tail = either (shown (λ p. (p.0, p.1.0) ∷ p.1.1) (opening (kind_of class.Plus ∷ kind_of class.Minus ∷ []) Added)) (nothing [] [])

  unfoldable pub sum : Grammar models Phrase
  sum = shown chain_of (both product sum_tail)

  -- level 6: [ comparison operand ]
  unfoldable pub comparison_tail : Grammar models (Option (TokenText × Phrase))
  comparison_tail = either (shown Some (opening comparisons Compared)) (nothing [] None)

  unfoldable pub comparison : Grammar models Phrase
  comparison = shown paired (both sum comparison_tail)

  -- level 5: "not" before its operand
  unfoldable pub negation : Grammar models Phrase
  negation = either (shown (before_operand unary.Not) (opening (kind_of class.Not ∷ []) Negated)) comparison

  -- level 4: { "and" operand }
  unfoldable pub conjunction_tail : Grammar models (List (TokenText × Phrase))
  conjunction_tail = either (shown (λ p. (p.0, p.1.0) ∷ p.1.1) (opening (kind_of class.And ∷ []) Joined)) (nothing [] [])

  unfoldable pub conjunction : Grammar models Phrase
  conjunction = shown chain_of (both negation conjunction_tail)

  -- level 3: { ("or" | "xor") operand }
  unfoldable pub disjunction_tail : Grammar models (List (TokenText × Phrase))
  disjunction_tail = either (shown (λ p. (p.0, p.1.0) ∷ p.1.1) (opening (kind_of class.Or ∷ kind_of class.Xor ∷ []) Disjoined)) (nothing [] [])

  unfoldable pub disjunction : Grammar models Phrase
  disjunction = shown chain_of (both conjunction disjunction_tail)

  -- level 2: [ "implies" operand ], where the operand is again of level 2
  unfoldable pub implication_tail : Grammar models (Option (TokenText × Phrase))
  implication_tail = either (shown Some (opening (kind_of class.Implies ∷ []) Implied)) (nothing [] None)

  unfoldable pub implication : Grammar models Phrase
  implication = shown paired (both disjunction implication_tail)

  -- level 1: { "iff" operand }
  unfoldable pub equivalence_tail : Grammar models (List (TokenText × Phrase))
  equivalence_tail = either (shown (λ p. (p.0, p.1.0) ∷ p.1.1) (opening (kind_of class.Iff ∷ []) Equivalent)) (nothing [] [])

  unfoldable pub equivalence : Grammar models Phrase
  equivalence = shown chain_of (both implication equivalence_tail)

  unfoldable pub term : Grammar models RawTerm
  term = shown (λ (p : Phrase). p.term) equivalence

  -- ---- the parts of terms

  -- Variable "in" Dom
  unfoldable pub binder : Grammar models RawBinder
  binder = shown (λ p. record { variable = p.0; domain = p.1 }) (both (name variables) (after class.In (name domains)))

  unfoldable pub more_binders : Grammar models (List RawBinder)
  more_binders = many (after class.Comma binder)

  -- binders = binder { "," binder }
  unfoldable pub binders : Grammar models (List RawBinder)
  binders = shown (λ p. p.0 ∷ p.1) (both binder more_binders)

  -- [ "with" term ]
  unfoldable pub guard : Grammar models (Option RawTerm)
  guard = either (shown Some (after class.With term)) (nothing [] None)

  -- bind = Variable "=" term
  unfoldable pub bind : Grammar models RawBind
  bind = shown (λ p. record { variable = p.0; term = p.1 }) (both (name variables) (after class.Equal term))

  unfoldable pub more_binds : Grammar models (List RawBind)
  more_binds = many (after class.Comma bind)

  unfoldable pub more_terms : Grammar models (List RawTerm)
  more_terms = many (after class.Comma term)

  -- term { "," term }
  unfoldable pub terms : Grammar models (List RawTerm)
  terms = shown (λ p. p.0 ∷ p.1) (both term more_terms)

  -- [ "else" term ], [ "otherwise" term ]
  unfoldable pub other_term : Grammar models (Option RawTerm)
  other_term = either (shown Some (after class.Else term)) (nothing [] None)

  unfoldable pub otherwise_term : Grammar models (Option RawTerm)
  otherwise_term = either (shown Some (after class.Otherwise term)) (nothing [] None)

  -- "case" term ":" term
  unfoldable pub case_term : Grammar models RawCase
  case_term = after class.Case (shown (λ p. record { label = p.0; value = p.1 }) (both term (after class.Colon term)))

  unfoldable pub more_case_terms : Grammar models (List RawCase)
  more_case_terms = many case_term

  -- [ "," term ]
  unfoldable pub second_operand : Grammar models (Option RawTerm)
  second_operand = either (shown Some (after class.Comma term)) (nothing [] None)

  -- [ "unique" ]
  unfoldable pub unique : Grammar models Bool
  unique = either (shown (λ t. true) (token class.Unique)) (nothing [] false)

  -- quant = ("forall" | "exist" [ "unique" ]) binders [ "with" term ]
  unfoldable pub quantifier_term : Grammar models RawTermKind
  quantifier_term =
      either (shown forall_term (opening (kind_of class.Forall ∷ []) ForallTerm))
      (shown exist_term (opening (kind_of class.Exist ∷ []) ExistTerm))

  -- quant | term
  unfoldable pub group : Grammar models Grouping
  group = either (shown Quantified quantifier_term) (shown Plain term)
