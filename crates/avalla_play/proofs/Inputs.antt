-- Pending inputs.
use Rattle.std.proofs.Common.{◌≡◌, ℕ, Bool as Truth, true, false, not, ◌&&◌, ◌||◌, cond, nat_eq, Option, Some, None, refl, sym, ap, ◌∙◌, subst, T, eqb→eq}
use Rattle.std.specs.Prelude.{IsTrue}
use Rattle.std.specs.Cmp.{nat_cmp_total, unsigned_tied}
use Rattle.std.specs.FinMap.{get, insert, get-insert, get-retain_keys, nat_cmp-IsAntisymmetric}
use Rattle.asm_domain.specs.declared.value.Value.{Value}
use Rattle.asm_sign.specs.Vocabulary.{Vocabulary, function_at}
use Rattle.asm_node.specs.Machine.{Machine, Input, has_kind, is_monitored, is_shared}
use Rattle.asm_node.specs.Step.{IsInput, may_have}
use Rattle.asm_node.specs.Values.{is_undef}
use Rattle.avalla_command.specs.Acts.{MayBeSet}
use Rattle.avalla_play.specs.Moves.{kept}

of_kept : (b : Truth) (o : Option Value) (v : Value) → cond b o None ≡ Some v → o ≡ Some v
of_kept true o v is = is
of_kept false o v is = absurd (cc is)

-- what is kept was there
kept-had : (w : Vocabulary) (i : Input) (l : ℕ) (v : Value) → get (kept w i) l ≡ Some v → get i l ≡ Some v
kept-had w i l v is =
    of_kept (not (has_kind is_shared (function_at w l))) (get i l) v
    (sym (get-retain_keys i (λ k. not (has_kind is_shared (function_at w k))) l (λ k tie. ap (λ k. not (has_kind is_shared (function_at w k))) (sym (nat_cmp-IsAntisymmetric l k tie)))) ∙ is)

-- an input stays one after a step
pub kept-is_input : (m : Machine) (i : Input) → IsInput m i → IsInput m (kept m.signature i)
kept-is_input m i input = record {
  is_asked = λ l v is. input.is_asked l v (kept-had m.signature i l v is);
  may_give = λ l v is. input.may_give l v (kept-had m.signature i l v is);
}

get-set : (i : Input) (slot l : ℕ) (x : Value) → get (insert i slot x) l ≡ cond (nat_eq l slot) (Some x) (get i l)
get-set i slot l x = get-insert nat_cmp_total i slot x l ∙ ap (λ b. cond b (Some x) (get i l)) (unsigned_tied l slot)

-- an input stays one where a value is set
module _ (m : Machine) (i : Input) (slot : ℕ) (x : Value) (input : IsInput m i) (may : MayBeSet m slot x) where
  abbrev Asked : ℕ → Type 0
  Asked l = IsTrue (has_kind is_monitored (function_at m.signature l) || has_kind is_shared (function_at m.signature l))

  abbrev Given : ℕ → Value → Type 0
  Given l v = IsTrue (not (is_undef v) && may_have m (function_at m.signature l) v)

  asked : (l : ℕ) (v : Value) (b : Truth) → nat_eq l slot ≡ b → cond b (Some x) (get i l) ≡ Some v → Asked l
  asked l v true same is = subst Asked (sym (eqb→eq l slot (subst T (sym same) tt))) may.is_asked
  asked l v false apart is = input.is_asked l v is

  given : (l : ℕ) (v : Value) (b : Truth) → nat_eq l slot ≡ b → cond b (Some x) (get i l) ≡ Some v → Given l v
  given l v true same is =
      let here : l ≡ slot = eqb→eq l slot (subst T (sym same) tt) in
      let value : x ≡ v = cc is in
      subst (λ k. Given k v) (sym here) (subst (Given slot) value may.may_give)
  given l v false apart is = input.may_give l v is

  pub set-is_input : IsInput m (insert i slot x)
  set-is_input = record {
    is_asked = λ l v is. asked l v (nat_eq l slot) refl (sym (get-set i slot l x) ∙ is);
    may_give = λ l v is. given l v (nat_eq l slot) refl (sym (get-set i slot l x) ∙ is);
  }
