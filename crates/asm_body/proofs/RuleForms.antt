-- How the forms of rules are read.
use Rattle.std.proofs.Common.{◌≡◌, ℕ, Bool, true, false, if◌then◌else◌, List, [], ◌∷◌, Ok, Err, refl, ap, ◌∙◌}
use Rattle.asm_grammar.specs.Grammar.{Outcome, and_then, has, ahead, word_at}
use Rattle.asm_tree.specs.Words.{kind_of}
use Rattle.asm_tree.specs.declared.class.Class.{Class}
use Rattle.asm_tree.specs.declared.class.Class.TheVariants as class
use Rattle.asm_tree.specs.declared.rule.RawRuleKind.TheVariants as rule_kind
use Rattle.asm_tree.specs.Language.{TokenText, models, functions, after, before, Actuals, Binds, Parallel, Sequence, Conditional, Switch, Let, Forall, Choose}
use Rattle.asm_tree.specs.Rules.{body, update, macro_call, block, rule, rule_at, par_rule, seq_rule, if_rule, switch_rule, let_rule, forall_rule, choose_rule, call_rule}
use Rattle.asm_body.specs.Reading.{opened_in, read_in}
use Rattle.asm_body.proofs.Opening.{opens}
use Rattle.asm_body.proofs.Forms.{either_is}

abbrev pub one : Class → List ℕ
one c = kind_of c ∷ []

module _ (n : ℕ) (s : Bool) (w : List TokenText) where
  abbrev pub starts : List ℕ → Bool
  starts ks = has (ahead models w 0) ks

  pub let_rule_body : read_in n s (body s Let) w ≡ and_then models (opened_in n s (one class.Open) Binds (λ p. p.1) w) (λ bs r. and_then models (read_in n s (after class.In (before (rule s) class.EndLet)) r) (λ t z. Ok ((bs, t), z)))
  unfolding body
  let_rule_body = ap (λ o. and_then models o (λ bs r. and_then models (read_in n s (after class.In (before (rule s) class.EndLet)) r) (λ t z. Ok ((bs, t), z)))) (opens s Binds (one class.Open) (λ p. p.1) n w)

  pub block_is : read_in n s (block s) w ≡ (if starts (one class.Par) then opened_in n s (one class.Par) Parallel par_rule w
      else (if starts (one class.Seq) then opened_in n s (one class.Seq) Sequence seq_rule w
      else (if starts (one class.If) then opened_in n s (one class.If) Conditional if_rule w
      else (if starts (one class.Switch) then opened_in n s (one class.Switch) Switch switch_rule w
      else (if starts (one class.Let) then opened_in n s (one class.Let) Let let_rule w
      else (if starts (one class.Forall) then opened_in n s (one class.Forall) Forall forall_rule w
      else opened_in n s (one class.Choose) Choose choose_rule w))))))
  unfolding block
  block_is = either_is (starts (one class.Par)) _ _ _ _ (opens s Parallel (one class.Par) par_rule n w)
      (either_is (starts (one class.Seq)) _ _ _ _ (opens s Sequence (one class.Seq) seq_rule n w)
      (either_is (starts (one class.If)) _ _ _ _ (opens s Conditional (one class.If) if_rule n w)
      (either_is (starts (one class.Switch)) _ _ _ _ (opens s Switch (one class.Switch) switch_rule n w)
      (either_is (starts (one class.Let)) _ _ _ _ (opens s Let (one class.Let) let_rule n w)
      (either_is (starts (one class.Forall)) _ _ _ _ (opens s Forall (one class.Forall) forall_rule n w)
      (opens s Choose (one class.Choose) choose_rule n w))))))

then_is : {A B : Type 0} (o : Outcome models A) (f g : A → List TokenText → Outcome models B) → ((x : A) (r : List TokenText) → f x r ≡ g x r) → and_then models o f ≡ and_then models o g
then_is (Ok p) f g h = h p.0 p.1
then_is (Err e) f g h = refl

flat : {A B C : Type 0} (o : Outcome models A) (f : A → List TokenText → Outcome models B) (g : B → List TokenText → Outcome models C) → and_then models (and_then models o f) g ≡ and_then models o (λ x r. and_then models (f x r) g)
flat (Ok p) f g = refl
flat (Err e) f g = refl

pub macro_is : (n : ℕ) (s : Bool) (w : List TokenText) → read_in n s (macro_call s) w ≡ and_then models (word_at models (one class.RuleName) w) (λ t r. and_then models (opened_in n s (one class.OpenBracket) Actuals (λ p. p.1) r) (λ ts z. Ok (call_rule (t, ts), z)))
unfolding macro_call
macro_is n s w =
    ap (λ o. and_then models o (λ p r. Ok (call_rule p, r))) (then_is (word_at models (one class.RuleName) w) _ _ (λ t r. ap (λ o. and_then models o (λ ts z. Ok ((t, ts), z))) (opens s Actuals (one class.OpenBracket) (λ p. p.1) n r)))
    ∙ flat (word_at models (one class.RuleName) w) _ _
    ∙ then_is (word_at models (one class.RuleName) w) _ _ (λ t r. flat (opened_in n s (one class.OpenBracket) Actuals (λ p. p.1) r) (λ ts z. Ok ((t, ts), z)) (λ p z. Ok (call_rule p, z)))

pub rule_is : (n : ℕ) (s : Bool) (w : List TokenText) → read_in n s (rule s) w ≡ (if has (ahead models w 0) (kind_of class.Skip ∷ []) then and_then models (word_at models (kind_of class.Skip ∷ []) w) (λ t r. Ok (rule_at t rule_kind.Skip, r))
    else (if has (ahead models w 0) (functions s) then read_in n s (update s) w
    else (if has (ahead models w 0) (kind_of class.RuleName ∷ []) then read_in n s (macro_call s) w
    else read_in n s (block s) w)))
unfolding rule update macro_call
rule_is n true w = refl
rule_is n false w = refl
