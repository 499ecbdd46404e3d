-- Rules with the names of variables in place of their numbers.
use Rattle.std.proofs.Common.{ℕ, List}
use Rattle.asm_source.specs.declared.sources.Place.{Place}
use Rattle.asm_sign.specs.Vocabulary.{Vocabulary}
use Rattle.asm_node.specs.RuleTree as rule
use Rattle.asm_node.specs.RuleTree.{Rule, Rules}
use Rattle.asm_tree.specs.declared.term.RawBinder.{RawBinder}
use Rattle.asm_faults.specs.At.{Name}
use Rattle.asm_faults.specs.Model.{binders_of}
use Rattle.asm_renaming.proofs.NamedTerms.{NamedTerm, NamedTerms, term_in, terms_in}

mutual
  pub data NamedRule : Type 0 where
    Skip : (place : Place) → NamedRule
    Update : (place : Place) (function : ℕ) (arguments : NamedTerms) (value : NamedTerm) → NamedRule
    Par : (place : Place) (parts : NamedRules) → NamedRule
    Seq : (place : Place) (first second : NamedRule) → NamedRule
    If : (place : Place) (guard : NamedTerm) (then_part else_part : NamedRule) → NamedRule
    Let : (place : Place) (variable : Name) (term : NamedTerm) (body : NamedRule) → NamedRule
    Forall : (place : Place) (binders : List RawBinder) (guard : NamedTerm) (body : NamedRule) → NamedRule
    Choose : (place : Place) (binders : List RawBinder) (guard : NamedTerm) (body otherwise : NamedRule) → NamedRule
    Call : (place : Place) (rule : ℕ) (actuals : NamedTerms) → NamedRule

  pub data NamedRules : Type 0 where
    none : NamedRules
    more : (first : NamedRule) (others : NamedRules) → NamedRules

module _ (number : Name → ℕ) (v : Vocabulary) where
  abbrev mutual
    -- the rule under a numbering
    pub rule_in : NamedRule → Rule
    rule_in (Skip place) = rule.Skip place
    rule_in (Update place f ts t) = rule.Update place f (terms_in number v ts) (term_in number v t)
    rule_in (Par place rs) = rule.Par place (rules_in rs)
    rule_in (Seq place p q) = rule.Seq place (rule_in p) (rule_in q)
    rule_in (If place g p q) = rule.If place (term_in number v g) (rule_in p) (rule_in q)
    rule_in (Let place x t p) = rule.Let place (number x) (term_in number v t) (rule_in p)
    rule_in (Forall place bs g p) = rule.Forall place (binders_of number v bs) (term_in number v g) (rule_in p)
    rule_in (Choose place bs g p q) = rule.Choose place (binders_of number v bs) (term_in number v g) (rule_in p) (rule_in q)
    rule_in (Call place f ts) = rule.Call place f (terms_in number v ts)

    pub rules_in : NamedRules → Rules
    rules_in none = rule.none
    rules_in (more p ps) = rule.more (rule_in p) (rules_in ps)
