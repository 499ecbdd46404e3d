-- There is at most one proof that a rule is sound.
use Rattle.std.proofs.Common.{ℕ, zero, suc, List, slice_get, Option, Some, None}
use Rattle.std.proofs.Props.{props}
use Rattle.std.specs.Coded.{Unit-prop}
use Rattle.asm_domain.specs.declared.value.Value.{Value}
use Rattle.asm_sign.specs.declared.function.Function.{Function}
use Rattle.asm_node.specs.Tree.{Tree, Const, Trees}
use Rattle.asm_node.specs.RuleTree.{Rule, Rules, Skip, Update, Par, Seq, If, Let as LetRule, Forall, Choose, Call, none as no_rule, more as more_rules}
use Rattle.asm_node.specs.Machine.{Machine, Macro, State, Input}
use Rattle.asm_node.specs.Term.{Places, nowhere, put, put_tuple, close, close_all, unbound, calls_of}
use Rattle.asm_node.specs.Taking.{stand_for}
use Rattle.asm_node.specs.Exact.{nothing, exact_within}
use Rattle.asm_eval.specs.World.{world_in}
use Rattle.asm_eval.proofs.Single.{exact_prop, all_exact_prop, nothing_prop, within_prop}
use Rattle.asm_fire.specs.Sound.{IsEverExact, AreEverExact, IsKept, HasDomain, OfBodies, IsSoundIn, AreSoundIn, IsSoundBody, sound_within, IsSound}

module _ (m : Machine) (i : Input) where
  pub ever_prop : (e : Places) (t : Tree) → IsProp (IsEverExact m i e t)
  ever_prop e t = hlevel (λ (s : State). exact_prop (world_in m s i) (calls_of (world_in m s i)) (exact_within (world_in m s i) 32) (within_prop (world_in m s i) 32) unbound nothing nothing_prop (close e t))

  all_ever_prop : (e : Places) (ts : Trees) → IsProp (AreEverExact m i e ts)
  all_ever_prop e ts = hlevel (λ (s : State). all_exact_prop (world_in m s i) (calls_of (world_in m s i)) (exact_within (world_in m s i) 32) (within_prop (world_in m s i) 32) unbound nothing nothing_prop (close_all e ts))

  has_domain_prop : (o : Option Function) → IsProp (HasDomain o)
  has_domain_prop None = Unit-prop
  has_domain_prop (Some f) = hlevel

  kept_prop : (f : ℕ) → IsProp (IsKept m f)
  kept_prop f = hlevel (props, has_domain_prop (slice_get m.signature.functions f))

  module _ (of_bodies : OfBodies) (single : (f : ℕ) (e : Places) (ts : Trees) → IsProp (of_bodies f e ts)) where
    mutual
      sound_prop : (e : Places) (r : Rule) → IsProp (IsSoundIn m i of_bodies e r)
      sound_prop e (Skip place) = Unit-prop
      sound_prop e (Update place f ts t) = hlevel (all_ever_prop e ts, ever_prop e t, kept_prop f)
      sound_prop e (Par place rs) = all_sound_prop e rs
      sound_prop e (Seq place p q) = hlevel (sound_prop e p, sound_prop e q)
      sound_prop e (If place g p q) = hlevel (ever_prop e g, sound_prop e p, sound_prop e q)
      sound_prop e (LetRule place x t p) = hlevel (ever_prop e t, λ (v : Value). sound_prop (put x (Const v) e) p)
      sound_prop e (Forall place bs g p) = hlevel (λ (vs : List Value). ever_prop (put_tuple bs vs e) g, λ (vs : List Value). sound_prop (put_tuple bs vs e) p)
      sound_prop e (Choose place bs g p q) = hlevel (λ (vs : List Value). ever_prop (put_tuple bs vs e) g, λ (vs : List Value). sound_prop (put_tuple bs vs e) p, sound_prop e q)
      sound_prop e (Call place f ts) = single f e ts

      all_sound_prop : (e : Places) (rs : Rules) → IsProp (AreSoundIn m i of_bodies e rs)
      all_sound_prop e no_rule = Unit-prop
      all_sound_prop e (more_rules r rs) = hlevel (sound_prop e r, all_sound_prop e rs)

  bodies_prop : (n : ℕ) (f : ℕ) (e : Places) (ts : Trees) → IsProp (sound_within m i n f e ts)
  bodies_prop zero f e ts = Unit-prop
  bodies_prop (suc n) f e ts = of_macro (bodies_prop n) (slice_get m.rules f)
    where
      of_macro : ((f : ℕ) (e : Places) (ts : Trees) → IsProp (sound_within m i n f e ts)) → (o : Option Macro) → IsProp (IsSoundBody m i (sound_within m i n) o e ts)
      of_macro single None = Unit-prop
      of_macro single (Some macro) = sound_prop (sound_within m i n) single (stand_for macro.parameters e ts) macro.body

  pub one_proof : (r : Rule) → IsProp (IsSound m i r)
  one_proof r = sound_prop (sound_within m i 32) (bodies_prop 32) nowhere r
