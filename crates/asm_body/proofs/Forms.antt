-- How the forms of terms are read.
use Rattle.std.proofs.Common.{◌≡◌, ℕ, Bool, true, false, if◌then◌else◌, List, [], ◌∷◌, Ok, refl, ap}
use Rattle.asm_grammar.specs.Grammar.{Outcome, and_then, has, ahead}
use Rattle.asm_tree.specs.Words.{kind_of}
use Rattle.asm_tree.specs.declared.class.Class.TheVariants as class
use Rattle.asm_tree.specs.declared.class.Class.{Class}
use Rattle.asm_tree.specs.Language.{TokenText, after, before, Quantified, Plain, models, functions, NamedOne, NamedTwo, NamedMinus, OneOperand, TwoOperands, MinusOperands, Grouped, Arguments, ForallTerm, ExistTerm, ConditionalTerm, SwitchTerm, LetTerm, Binds}
use Rattle.asm_tree.specs.Terms.{arguments, call, leaf, named, enclosed, primary, quantifier_term, group, term, binder, more_binders, binders, unique, one_names, two_names, named_one, named_two, named_minus, grouped, conditional_term, switch_term, let_term, forall_term, exist_term}
use Rattle.asm_tree.specs.Rules.{body}
use Rattle.asm_body.specs.Reading.{opened_in, read_in, read_flat}
use Rattle.asm_body.specs.Levels.{leaves, names}
use Rattle.asm_body.proofs.Opening.{opens}

abbrev pub one : Class → List ℕ
one c = kind_of c ∷ []

-- either of two, by the first token
pub either_is : {A : Type 0} (b : Bool) (x y u v : Outcome models A) → x ≡ u → y ≡ v → (if b then x else y) ≡ (if b then u else v)
either_is true x y u v e f = e
either_is false x y u v e f = f

module _ (n : ℕ) (s : Bool) (w : List TokenText) where
  abbrev pub starts : List ℕ → Bool
  starts ks = has (ahead models w 0) ks

  pub arguments_is : read_in n s (arguments s) w ≡ (if starts (one class.Open) then opened_in n s (one class.Open) Arguments (λ p. p.1) w else Ok ([], w))
  unfolding arguments
  arguments_is = either_is (starts (one class.Open)) _ _ _ _ (opens s Arguments (one class.Open) (λ p. p.1) n w) refl

  pub one_inside : read_in n s (body s NamedOne) w ≡ opened_in n s (one class.Open) OneOperand (λ p. p.1) w
  unfolding body
  one_inside = opens s OneOperand (one class.Open) (λ p. p.1) n w

  pub two_inside : read_in n s (body s NamedTwo) w ≡ opened_in n s (one class.Open) TwoOperands (λ p. p.1) w
  unfolding body
  two_inside = opens s TwoOperands (one class.Open) (λ p. p.1) n w

  pub minus_inside : read_in n s (body s NamedMinus) w ≡ opened_in n s (one class.Open) MinusOperands (λ p. p.1) w
  unfolding body
  minus_inside = opens s MinusOperands (one class.Open) (λ p. p.1) n w

  pub named_is : read_in n s (named s) w ≡ (if starts one_names then opened_in n s one_names NamedOne named_one w else (if starts two_names then opened_in n s two_names NamedTwo named_two w else opened_in n s (one class.MinusName) NamedMinus named_minus w))
  unfolding named
  named_is = either_is (starts one_names) _ _ _ _ (opens s NamedOne one_names named_one n w)
      (either_is (starts two_names) _ _ _ _ (opens s NamedTwo two_names named_two n w) (opens s NamedMinus (one class.MinusName) named_minus n w))

  pub enclosed_is : read_in n s (enclosed s) w ≡ (if starts (one class.Open) then opened_in n s (one class.Open) Grouped grouped w
      else (if starts (one class.If) then opened_in n s (one class.If) ConditionalTerm conditional_term w
      else (if starts (one class.Switch) then opened_in n s (one class.Switch) SwitchTerm switch_term w
      else opened_in n s (one class.Let) LetTerm let_term w)))
  unfolding enclosed
  enclosed_is = either_is (starts (one class.Open)) _ _ _ _ (opens s Grouped (one class.Open) grouped n w)
      (either_is (starts (one class.If)) _ _ _ _ (opens s ConditionalTerm (one class.If) conditional_term n w)
      (either_is (starts (one class.Switch)) _ _ _ _ (opens s SwitchTerm (one class.Switch) switch_term n w) (opens s LetTerm (one class.Let) let_term n w)))

  pub quantifier_is : read_in n s (quantifier_term s) w ≡ (if starts (one class.Forall) then opened_in n s (one class.Forall) ForallTerm forall_term w else opened_in n s (one class.Exist) ExistTerm exist_term w)
  unfolding quantifier_term
  quantifier_is = either_is (starts (one class.Forall)) _ _ _ _ (opens s ForallTerm (one class.Forall) forall_term n w) (opens s ExistTerm (one class.Exist) exist_term n w)

  pub group_is : read_in n s (group s) w ≡ (if starts (kind_of class.Forall ∷ kind_of class.Exist ∷ []) then and_then models (read_in n s (quantifier_term s) w) (λ k r. Ok (Quantified k, r)) else and_then models (read_in n s (term s) w) (λ t r. Ok (Plain t, r)))
  unfolding group quantifier_term
  group_is = refl

  pub leaf_flat : read_in n s (leaf s) w ≡ read_flat (leaf false) w
  unfolding leaf
  leaf_flat = refl

  pub binders_flat : read_in n s (binders s) w ≡ read_flat (binders false) w
  unfolding binders more_binders binder
  binders_flat = refl

  pub unique_flat : read_in n s (unique s) w ≡ read_flat (unique false) w
  unfolding unique
  unique_flat = refl

  pub ruleset flats = (binders_flat, unique_flat)

  -- a `let` begins with its bindings
  pub let_body : read_in n s (body s LetTerm) w ≡ and_then models (opened_in n s (one class.Open) Binds (λ p. p.1) w) (λ bs r. and_then models (read_in n s (after class.In (before (term s) class.EndLet)) r) (λ t z. Ok ((bs, t), z)))
  unfolding body
  let_body = ap (λ o. and_then models o (λ bs r. and_then models (read_in n s (after class.In (before (term s) class.EndLet)) r) (λ t z. Ok ((bs, t), z)))) (opens s Binds (one class.Open) (λ p. p.1) n w)

pub primary_is : (n : ℕ) (s : Bool) (w : List TokenText) → read_in n s (primary s) w ≡ (if has (ahead models w 0) leaves then read_flat (leaf false) w else (if has (ahead models w 0) (functions s) then read_in n s (call s) w else (if has (ahead models w 0) names then read_in n s (named s) w else read_in n s (enclosed s) w)))
unfolding primary leaf call named
primary_is n true w = refl
primary_is n false w = refl
