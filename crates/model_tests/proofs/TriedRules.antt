-- The rule that the tests take, and that it is sound.
use Rattle.std.proofs.Common.{◌≡◌, ℕ, zero, suc, true, List, [], ◌∷◌, slice_get, Some, None, All, refl, sym, subst, arith}
use Rattle.asm_source.specs.declared.sources.Place.{Place}
use Rattle.asm_domain.specs.declared.value.Value.{Value}
use Rattle.asm_domain.specs.declared.value.Value.TheVariants.{Bool}
use Rattle.asm_sign.specs.declared.function.FunKind.TheVariants.{Controlled}
use Rattle.asm_sign.specs.declared.function.Function.{Function}
use Rattle.asm_sign.specs.Kind.{is_dynamic, is_kept}
use Rattle.asm_sign.specs.Vocabulary.{Vocabulary, IsDeclared}
use Rattle.asm_node.specs.declared.term.Binder.{Binder}
use Rattle.asm_node.specs.Machine.{Machine, Input, has_kind}
use Rattle.asm_node.specs.RuleTree.{Rule, Skip, Update, Par, Seq, Choose, none, more}
use Rattle.asm_node.specs.Term.{nowhere, put_tuple}
use Rattle.asm_node.specs.Tree.{Const, Var}
use Rattle.asm_node.specs.Tree as tree
use Rattle.asm_node.specs.WellFormed.{IsWellFormed}
use Rattle.model_tests.proofs.Declared.{of_truths, truths_declared}
use Rattle.model_tests.proofs.TriedModels.{plain_machine, plain_formed}
use Rattle.asm_fire.specs.Sound.{IsEverExact, IsKept, HasDomain, IsSound}

abbrev pub one_function : Vocabulary
one_function = of_truths

abbrev pub binders : List Binder
binders = record { variable = 0; domain = 0 } ∷ []

-- an update of the function 0 by each element of the domain 0
abbrev pub chosen : Place → Rule
chosen place = Choose place binders (Const (Bool true)) (Update place 0 tree.none (Var 0)) (Skip place)

-- two updates, and then that choice
abbrev pub both_then_chosen : Place → Value → Value → Rule
both_then_chosen place v w = Seq place (Par place (more (Update place 0 tree.none (Const v)) (more (Update place 0 tree.none (Const w)) none))) (chosen place)

-- a model of it is well formed
one_declared : All (IsDeclared one_function.domains) one_function.functions
one_declared zero f lt = record { few = omega arith; declared = λ k n below. absurd (omega (arith, below)); codomain = λ _. omega arith }
one_declared (suc k) f lt = absurd (omega (arith, lt))

one_dynamic : (f : ℕ) (function : Function) → slice_get one_function.functions f ≡ Some function → is_dynamic function.kind ≡ true
one_dynamic zero function is = let e : record { name = []; kind = Controlled; domains = []; codomain = 0 } ≡ function = cc is in subst (λ (g : Function). is_dynamic g.kind ≡ true) e refl
one_dynamic (suc f) function is = absurd (cc is)

pub one_formed : (place : Place) → IsWellFormed (plain_machine one_function [] (Skip place))
one_formed place =
    plain_formed one_function [] (Skip place) (omega arith) truths_declared one_declared one_dynamic (λ k d lt. absurd (omega (arith, lt))) (record { one_place = λ i j x is js. absurd (cc is) }) (record { typed = tt; ranged = tt })

module _ (m : Machine) (i : Input) (is : m.signature ≡ one_function) where
  kept : IsKept m 0
  kept = subst (λ (v : Vocabulary). (has_kind is_kept (slice_get v.functions 0) ≡ true) × HasDomain (slice_get v.functions 0)) (sym is) (refl, λ e. omega (arith, e))

  -- a variable that a tuple binds is exact
  bound : (vs : List Value) → IsEverExact m i (put_tuple binders vs nowhere) (Var 0)
  bound [] = λ s is_state. tt
  bound (v ∷ vs) = λ s is_state. tt

  pub both_then_chosen-sound : (place : Place) (v w : Value) → IsSound m i (both_then_chosen place v w)
  both_then_chosen-sound place v w = (
    ((λ s is_state. tt, λ s is_state. tt, kept), ((λ s is_state. tt, λ s is_state. tt, kept), tt)),
    (λ vs at. (λ s is_state. tt, (λ s is_state. tt, bound vs, kept)), tt),
  )
