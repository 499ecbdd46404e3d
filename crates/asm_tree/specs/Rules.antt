-- The grammar of rules, production by production, and what stands behind each token that opens a level.
use Rattle.std.specs.Prelude.{Bool, true, false, List, [], ◌∷◌, Option, Some, None, pos, neg_ℤ}
use Rattle.std.specs.Option.{unwrap_or}
use Rattle.std.specs.Str.Parse.{digits_value}
use Rattle.asm_grammar.specs.Grammar.{Grammar, Bodies, word, nothing, both, either, many, shown, opening}
use Rattle.asm_tree.specs.Words.{kind_of}
use Rattle.asm_tree.specs.declared.class.Class.TheVariants as class
use Rattle.asm_tree.specs.declared.term.RawName.{RawName}
use Rattle.asm_tree.specs.declared.term.RawBinder.{RawBinder}
use Rattle.asm_tree.specs.declared.term.RawBind.{RawBind}
use Rattle.asm_tree.specs.declared.term.RawTerm.{RawTerm}
use Rattle.asm_tree.specs.declared.rule.RawRule.{RawRule}
use Rattle.asm_tree.specs.declared.rule.RawRuleCase.{RawRuleCase}
use Rattle.asm_tree.specs.declared.rule.RawRuleKind.{RawRuleKind}
use Rattle.asm_tree.specs.declared.rule.RawRuleKind.TheVariants as rule_kind
use Rattle.asm_tree.specs.declared.unit.RawInt.{RawInt}
use Rattle.asm_tree.specs.declared.script.RawConstant.{RawConstant}
use Rattle.asm_tree.specs.declared.script.RawConstant.TheVariants as constant_of
use Rattle.asm_tree.specs.Language.{TokenText, models, token, after, before, name, functions, rules, elements, domains, Equivalent, Implied, Disjoined, Joined, Compared, Added, Multiplied, Negated, Opposite, NamedOne, NamedTwo, NamedMinus, OneOperand, TwoOperands, MinusOperands, Grouped, Arguments, Actuals, ForallTerm, ExistTerm, ConditionalTerm, SwitchTerm, LetTerm, Binds, Parameters, Product, Constants, Parallel, Sequence, Conditional, Switch, Let, Forall, Choose}
use Rattle.asm_tree.specs.Terms.{opposite, product, product_tail, sum, sum_tail, negation, conjunction, conjunction_tail, disjunction_tail, implication, equivalence_tail, term, terms, binders, guard, guard_or, bind, more_binds, other_term, otherwise_term, case_term, more_case_terms, second_operand, unique, group, arguments}

-- ---- what is built

-- a rule at its first token
abbrev pub rule_at : TokenText → RawRuleKind → RawRule
rule_at t k = record { at = t.at; kind = k }

-- where no other rule is written it is `skip`, at the word that the rule begins with
abbrev pub skip_or : TokenText → Option RawRule → RawRule
skip_or t r = unwrap_or r (rule_at t rule_kind.Skip)

abbrev pub update_rule : TokenText × (List RawTerm × RawTerm) → RawRule
update_rule p = rule_at p.0 (rule_kind.Update p.0.text p.1.0 p.1.1)

abbrev pub par_rule : TokenText × List RawRule → RawRule
par_rule p = rule_at p.0 (rule_kind.Par p.1)

abbrev pub seq_rule : TokenText × List RawRule → RawRule
seq_rule p = rule_at p.0 (rule_kind.Seq p.1)

abbrev pub if_rule : TokenText × (RawTerm × (RawRule × Option RawRule)) → RawRule
if_rule p = rule_at p.0 (rule_kind.If p.1.0 p.1.1.0 (skip_or p.0 p.1.1.1))

abbrev pub switch_rule : TokenText × (RawTerm × (List RawRuleCase × Option RawRule)) → RawRule
switch_rule p = rule_at p.0 (rule_kind.Switch p.1.0 p.1.1.0 (skip_or p.0 p.1.1.1))

abbrev pub let_rule : TokenText × (List RawBind × RawRule) → RawRule
let_rule p = rule_at p.0 (rule_kind.Let p.1.0 p.1.1)

abbrev pub forall_rule : TokenText × (List RawBinder × (Option RawTerm × RawRule)) → RawRule
forall_rule p = rule_at p.0 (rule_kind.Forall p.1.0 (guard_or p.0 p.1.1.0) p.1.1.1)

abbrev pub choose_rule : TokenText × (List RawBinder × (Option RawTerm × (RawRule × Option RawRule))) → RawRule
choose_rule p = rule_at p.0 (rule_kind.Choose p.1.0 (guard_or p.0 p.1.1.0) p.1.1.1.0 (skip_or p.0 p.1.1.1.1))

abbrev pub call_rule : TokenText × List RawTerm → RawRule
call_rule p = rule_at p.0 (rule_kind.Call p.0.text p.1)

-- a whole number as it is written
abbrev pub plain_int : TokenText → RawInt
plain_int t = record { at = t.at; first = t.text; value = pos (digits_value 10 t.text) }

abbrev pub negative_int : TokenText × TokenText → RawInt
negative_int p = record { at = p.0.at; first = p.0.text; value = neg_ℤ (pos (digits_value 10 p.1.text)) }

-- int = [ "-" ] Number
unfoldable pub int : Grammar models RawInt
int = either (shown negative_int (both (token class.Minus) (token class.Number))) (shown plain_int (token class.Number))

module _ (script : Bool) where
  -- Fun [ args ] ":=" term
  unfoldable pub update : Grammar models RawRule
  update = shown update_rule (both (word (functions script)) (both (arguments script) (after class.Assign (term script))))

  -- Rule "[" [ term { "," term } ] "]"
  unfoldable pub macro_call : Grammar models RawRule
  macro_call = shown call_rule (both (word rules) (shown (λ p. p.1) (opening (kind_of class.OpenBracket ∷ []) Actuals)))

  -- a rule with words around it, or behind one
  unfoldable pub block : Grammar models RawRule
  block =
      either (shown par_rule (opening (kind_of class.Par ∷ []) Parallel))
      (either (shown seq_rule (opening (kind_of class.Seq ∷ []) Sequence))
      (either (shown if_rule (opening (kind_of class.If ∷ []) Conditional))
      (either (shown switch_rule (opening (kind_of class.Switch ∷ []) Switch))
      (either (shown let_rule (opening (kind_of class.Let ∷ []) Let))
      (either (shown forall_rule (opening (kind_of class.Forall ∷ []) Forall))
      (shown choose_rule (opening (kind_of class.Choose ∷ []) Choose)))))))

  -- rule = "skip" | update | macro_call | block
  unfoldable pub rule : Grammar models RawRule
  rule =
      either (shown (λ t. rule_at t rule_kind.Skip) (token class.Skip))
      (either update
      (either macro_call
      block))

  unfoldable pub more_rules : Grammar models (List RawRule)
  more_rules = many rule

  -- [ "else" rule ], [ "otherwise" rule ]
  unfoldable pub other_rule : Grammar models (Option RawRule)
  other_rule = either (shown Some (after class.Else rule)) (nothing [] None)

  unfoldable pub otherwise_rule : Grammar models (Option RawRule)
  otherwise_rule = either (shown Some (after class.Otherwise rule)) (nothing [] None)

  -- [ "ifnone" rule ], which belongs to the nearest `choose` that is open: without it no `ifnone` may follow
  unfoldable pub if_none : Grammar models (Option RawRule)
  if_none = either (shown Some (after class.IfNone rule)) (nothing (kind_of class.IfNone ∷ []) None)

  -- "case" term ":" rule
  unfoldable pub case_rule : Grammar models RawRuleCase
  case_rule = after class.Case (shown (λ p. record { label = p.0; rule = p.1 }) (both (term script) (after class.Colon rule)))

  unfoldable pub more_case_rules : Grammar models (List RawRuleCase)
  more_case_rules = many case_rule

  -- const = int | "true" | "false" | Elem | Fun
  unfoldable pub constant : Grammar models RawConstant
  constant =
      either (shown constant_of.Int int)
      (either (shown (λ t. constant_of.Truth true) (token class.True))
      (either (shown (λ t. constant_of.Truth false) (token class.False))
      (either (shown constant_of.Element (name elements))
      (shown constant_of.Constant (name (functions script))))))

  unfoldable pub more_constants : Grammar models (List RawConstant)
  more_constants = many (after class.Comma constant)

  unfoldable pub more_domains : Grammar models (List RawName)
  more_domains = many (after class.Comma (name domains))

  -- what stands behind each token that opens a level
  unfoldable pub body : Bodies models
  body Equivalent = both (implication script) (equivalence_tail script)
  body Implied = implication script
  body Disjoined = both (conjunction script) (disjunction_tail script)
  body Joined = both (negation script) (conjunction_tail script)
  body Compared = sum script
  body Added = both (product script) (sum_tail script)
  body Multiplied = both (opposite script) (product_tail script)
  body Negated = negation script
  body Opposite = opposite script
  body NamedOne = shown (λ p. p.1) (opening (kind_of class.Open ∷ []) OneOperand)
  body NamedTwo = shown (λ p. p.1) (opening (kind_of class.Open ∷ []) TwoOperands)
  body NamedMinus = shown (λ p. p.1) (opening (kind_of class.Open ∷ []) MinusOperands)
  body OneOperand = before (term script) class.Close
  body TwoOperands = both (term script) (after class.Comma (before (term script) class.Close))
  body MinusOperands = both (term script) (before (second_operand script) class.Close)
  body Grouped = before (group script) class.Close
  body Arguments = before (terms script) class.Close
  body Actuals = before (either (terms script) (nothing [] [])) class.CloseBracket
  body ForallTerm = both (binders script) (guard script)
  body ExistTerm = both (unique script) (both (binders script) (guard script))
  body ConditionalTerm = both (term script) (after class.Then (both (term script) (before (other_term script) class.EndIf)))
  body SwitchTerm = both (term script) (both (shown (λ p. p.0 ∷ p.1) (both (case_term script) (more_case_terms script))) (before (otherwise_term script) class.EndSwitch))
  body LetTerm = both (shown (λ p. p.1) (opening (kind_of class.Open ∷ []) Binds)) (after class.In (before (term script) class.EndLet))
  body Binds = before (shown (λ p. p.0 ∷ p.1) (both (bind script) (more_binds script))) class.Close
  body Parameters = before (binders script) class.Close
  body Product = before (shown (λ p. p.0 ∷ p.1) (both (name domains) more_domains)) class.Close
  body Constants = before (shown (λ p. p.0 ∷ p.1) (both constant more_constants)) class.Close
  body Parallel = before (shown (λ p. p.0 ∷ p.1) (both rule more_rules)) class.EndPar
  body Sequence = before (shown (λ p. p.0 ∷ p.1) (both rule more_rules)) class.EndSeq
  body Conditional = both (term script) (after class.Then (both rule (before other_rule class.EndIf)))
  body Switch = both (term script) (both (shown (λ p. p.0 ∷ p.1) (both case_rule more_case_rules)) (before otherwise_rule class.EndSwitch))
  body Let = both (shown (λ p. p.1) (opening (kind_of class.Open ∷ []) Binds)) (after class.In (before rule class.EndLet))
  body Forall = both (binders script) (both (guard script) (after class.Do rule))
  body Choose = both (binders script) (both (guard script) (after class.Do (both rule if_none)))
