-- Faults of rules that are noted part by part.
use Rattle.std.proofs.Common.{◌≡◌, ℕ, suc, ◌+◌, ◌<◌, List, [], ◌∷◌, ◌++◌, length, drop, get_or, Option, Some, None, refl, ap, sym, ◌∙◌, drop-cons, add-one, append_assoc, if◌then◌else◌}
use Rattle.std.specs.Prelude.{map, nat_eq}
use Rattle.std.proofs.lemmas.List.{length-map}
use Rattle.asm_sign.specs.declared.function.Function.{Function}
use Rattle.asm_sign.specs.Kind.{is_kept}
use Rattle.asm_node.specs.Types.{domain_type}
use Rattle.asm_sign.specs.Vocabulary.{Vocabulary}
use Rattle.asm_node.specs.declared.term_type.TermType.{TermType}
use Rattle.asm_node.specs.declared.term_type.TermType.TheVariants.{Boolean}
use Rattle.asm_tree.specs.declared.term.RawBinder.{RawBinder}
use Rattle.asm_tree.specs.declared.term.RawTerm.{RawTerm}
use Rattle.asm_tree.specs.declared.rule.RawRule.{RawRule}
use Rattle.asm_tree.specs.declared.rule.RawRuleCase.{RawRuleCase}
use Rattle.asm_faults.specs.declared.fault.Fault.{Fault}
use Rattle.asm_faults.specs.declared.fault.ModelFault.TheVariants.{Unknown, WrongKind, WrongArity}
use Rattle.asm_faults.specs.At.{token}
use Rattle.asm_faults.specs.First.{noted, sooner}
use Rattle.asm_faults.specs.Terms.{Scope, judged, or_else, asked, asked_each, binder_faults, infinite_faults, within}
use Rattle.asm_faults.specs.Bodies.{RuleHead, rule_faults, update_faults}
use Rattle.asm_faults.proofs.Noting.{noted_append}
use Rattle.asm_typing.specs.Pieces.{terms_judged}
use Rattle.asm_typing.specs.RulePieces.{cases_faults, ranging_faults}
use Rattle.asm_typing.proofs.Steps.{noted_three}

module _ (v : Vocabulary) (heads : List RuleHead) (n : ℕ) where
  pub cases_step : (want : Option TermType) (s : Scope) (cs : List RawRuleCase) (i : ℕ) (d : RawRuleCase) (first : Option Fault) → i < length cs
      → noted first (cases_faults v heads n want s (drop i cs))
      ≡ noted (noted (noted first (asked v n want s (judged v n (get_or cs i d).label))) (rule_faults v heads n (get_or cs i d).rule s))
      (cases_faults v heads n (or_else want ((judged v n (get_or cs i d).label).type s)) s (drop (i + 1) cs))
  cases_step want s cs i d first h =
      rw (add-one, drop-cons cs i d)
      (noted_three first (asked v n want s (judged v n (get_or cs i d).label)) (rule_faults v heads n (get_or cs i d).rule s)
      (cases_faults v heads n (or_else want ((judged v n (get_or cs i d).label).type s)) s (drop (suc i) cs)))

  pub cases_next : (want : Option TermType) (s : Scope) (cs : List RawRuleCase) (i : ℕ) (x : RawRuleCase) (first : Option Fault) → i < length cs → x ≡ get_or cs i x
      → noted (noted (noted first (asked v n want s (judged v n x.label))) (rule_faults v heads n x.rule s))
      (cases_faults v heads n (or_else want ((judged v n x.label).type s)) s (drop (i + 1) cs)) ≡ noted first (cases_faults v heads n want s (drop i cs))
  cases_next want s cs i x first h e =
      ap (λ (y : RawRuleCase). noted (noted (noted first (asked v n want s (judged v n y.label))) (rule_faults v heads n y.rule s))
      (cases_faults v heads n (or_else want ((judged v n y.label).type s)) s (drop (i + 1) cs))) e
      ∙ sym (cases_step want s cs i x first h)

  pub ranging_noted : (first : Option Fault) (bs : List RawBinder) (g : RawTerm) (p : RawRule) (s : Scope)
      → noted first (ranging_faults v n bs g (rule_faults v heads n p) s)
      ≡ noted (noted (noted first (binder_faults v n bs ++ infinite_faults v n bs)) (asked v n (Some Boolean) (within v n bs s) (judged v n g))) (rule_faults v heads n p (within v n bs s))
  ranging_noted first bs g p s =
      ap (noted first) (sym (append_assoc (binder_faults v n bs) (infinite_faults v n bs) (asked v n (Some Boolean) (within v n bs s) (judged v n g) ++ rule_faults v heads n p (within v n bs s))))
      ∙ noted_three first (binder_faults v n bs ++ infinite_faults v n bs) (asked v n (Some Boolean) (within v n bs s) (judged v n g)) (rule_faults v heads n p (within v n bs s))

  -- what is done for each tuple, and otherwise
  pub choose_noted : (first : Option Fault) (bs : List RawBinder) (g : RawTerm) (p q : RawRule) (s : Scope)
      → noted first (binder_faults v n bs ++ (infinite_faults v n bs ++ (asked v n (Some Boolean) (within v n bs s) (judged v n g) ++ (rule_faults v heads n p (within v n bs s) ++ rule_faults v heads n q s))))
      ≡ noted (noted first (ranging_faults v n bs g (rule_faults v heads n p) s)) (rule_faults v heads n q s)
  choose_noted first bs g p q s =
      let a : List Fault = binder_faults v n bs in
      let b : List Fault = infinite_faults v n bs in
      let t : List Fault = asked v n (Some Boolean) (within v n bs s) (judged v n g) in
      let r : List Fault = rule_faults v heads n p (within v n bs s) in
      let o : List Fault = rule_faults v heads n q s in
      let grouped : (a ++ (b ++ (t ++ r))) ++ o ≡ a ++ (b ++ (t ++ (r ++ o))) =
      append_assoc a (b ++ (t ++ r)) o ∙ ap (λ (xs : List Fault). a ++ xs) (append_assoc b (t ++ r) o ∙ ap (λ (xs : List Fault). b ++ xs) (append_assoc t r o)) in
      ap (noted first) (sym grouped) ∙ noted_append first (a ++ (b ++ (t ++ r))) o

  -- what is wrong in an update depends on no rule
  pub no_heads : (at : ℕ) (f : List ℕ) (s : Scope) (ts : List RawTerm) (t : RawTerm) (g : Option Function) → update_faults v heads n at f s ts t g ≡ update_faults v [] n at f s ts t g
  no_heads at f s ts t None = refl
  no_heads at f s ts t (Some g) = refl

  pub update_unknown : (first : Option Fault) (at : ℕ) (f : List ℕ) (s : Scope) (ts : List RawTerm) (t : RawTerm)
      → noted first (update_faults v heads n at f s ts t None) ≡ noted (noted (sooner first (token Unknown n at f)) (asked_each v n [] s (terms_judged v n ts))) (asked v n None s (judged v n t))
  update_unknown first at f s ts t = noted_append (sooner first (token Unknown n at f)) (asked_each v n [] s (terms_judged v n ts)) (asked v n None s (judged v n t))

  pub update_known : (first : Option Fault) (at : ℕ) (f : List ℕ) (s : Scope) (ts : List RawTerm) (t : RawTerm) (g : Function)
      → noted first (update_faults v heads n at f s ts t (Some g))
      ≡ noted (noted (noted (noted first (if is_kept g.kind then [] else token WrongKind n at f ∷ [])) (if nat_eq (length g.domains) (length ts) then [] else token WrongArity n at f ∷ []))
      (asked_each v n (map (domain_type v.domains) g.domains) s (terms_judged v n ts))) (asked v n (domain_type v.domains g.codomain) s (judged v n t))
  update_known first at f s ts t g =
      ap (λ (k : ℕ). noted first ((if is_kept g.kind then [] else token WrongKind n at f ∷ []) ++ (((if nat_eq (length g.domains) k then [] else token WrongArity n at f ∷ []) ++ asked_each v n (map (domain_type v.domains) g.domains) s (terms_judged v n ts)) ++ asked v n (domain_type v.domains g.codomain) s (judged v n t)))) (length-map ts (judged v n))
      ∙ noted_three first (if is_kept g.kind then [] else token WrongKind n at f ∷ []) ((if nat_eq (length g.domains) (length ts) then [] else token WrongArity n at f ∷ []) ++ asked_each v n (map (domain_type v.domains) g.domains) s (terms_judged v n ts)) (asked v n (domain_type v.domains g.codomain) s (judged v n t))
      ∙ ap (λ (x : Option Fault). noted x (asked v n (domain_type v.domains g.codomain) s (judged v n t)))
      (noted_append (noted first (if is_kept g.kind then [] else token WrongKind n at f ∷ [])) (if nat_eq (length g.domains) (length ts) then [] else token WrongArity n at f ∷ []) (asked_each v n (map (domain_type v.domains) g.domains) s (terms_judged v n ts)))
