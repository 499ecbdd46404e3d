-- The first false invariant, one invariant after the other.
use Rattle.std.proofs.Common.{◌≡◌, ℕ, zero, suc, ◌<◌, true, false, if◌then◌else◌, List, [], ◌∷◌, length, drop, get_or, map, slice_get, Some, option_map, refl, sym, ap, ◌∙◌, subst}
use Rattle.std.proofs.lemmas.Option.{slice_get-map, slice_get_read}
use Rattle.std.specs.declared.alloc.Global.{Global}
use Rattle.std.specs.declared.rc.Rc.{Rc}
use Rattle.std.specs.Ordering.{nat_cmp}
use Rattle.std.specs.FinMap.{get-empty}
use Rattle.asm_domain.specs.declared.value.Value.{Value}
use Rattle.asm_node.specs.Machine.{Input, Machine, State, no_input}
use Rattle.asm_node.specs.Step.{IsInput, first_false, holds}
use Rattle.asm_node.specs.Exact.{IsExact}
use Rattle.asm_node.specs.Term.{Places, close, nowhere, val}
use Rattle.asm_node.specs.Tree.{Tree, plain}
use Rattle.asm_node.specs.declared.term.Term.{Term}
use Rattle.asm_eval.specs.World.{world_in}

-- an input that gives nothing is one of each machine
pub no_input-is : (m : Machine) → IsInput m no_input
no_input-is m = record {
  is_asked = λ l v is. absurd (cc (get-empty {X = Value} nat_cmp l, is));
  may_give = λ l v is. absurd (cc (get-empty {X = Value} nat_cmp l, is));
}

abbrev tree_of : Rc Term Global → Tree
tree_of t = plain t.value

-- the tree at a place is that of the node there
pub tree-at : (terms nodes : List (Rc Term Global)) (trees : List Tree) (k : ℕ) (x : Rc Term Global) → terms ≡ nodes → map tree_of nodes ≡ trees → k < length terms → x ≡ get_or terms k x → slice_get trees k ≡ Some (plain x.value)
tree-at terms nodes trees k x same are lt is =
    ap (λ ts. slice_get ts k) (sym are) ∙ ap (λ ns. slice_get (map tree_of ns) k) (sym same) ∙ slice_get-map tree_of terms k ∙ ap (option_map tree_of) (slice_get_read terms (length terms) k x refl lt is)

module _ (m : Machine) (s : State) where
  -- an input that gives nothing, and variables that stand for nothing
  pub exact-at : (i : Input) (e : Places) (t : Tree) → i ≡ no_input → e ≡ nowhere → IsExact (world_in m s no_input) (close nowhere t) → IsExact (world_in m s i) (close e t)
  exact-at i e t none unbound exact =
      subst (λ (j : Input). IsExact (world_in m s j) (close e t)) (sym none) (subst (λ (f : Places). IsExact (world_in m s no_input) (close f t)) (sym unbound) exact)

  pub value-at : (i : Input) (e : Places) (t : Tree) → i ≡ no_input → e ≡ nowhere → val (world_in m s no_input) nowhere t ≡ val (world_in m s i) e t
  value-at i e t none unbound = ap (λ j. val (world_in m s j) nowhere t) (sym none) ∙ ap (λ f. val (world_in m s i) f t) (sym unbound)

  -- an invariant that holds is passed
  pub first_false-passed : (xs : List Tree) (k n : ℕ) (t : Tree) → slice_get xs k ≡ Some t → holds m s t ≡ true → first_false m s n (drop k xs) ≡ first_false m s (suc n) (drop (suc k) xs)
  first_false-passed [] k n t at is = absurd (cc at)
  first_false-passed (x ∷ xs) zero n t at is =
      let e : x ≡ t = cc at in
      ap (λ b. if b then first_false m s (suc n) xs else Some n) (ap (holds m s) e ∙ is)
  first_false-passed (x ∷ xs) (suc k) n t at is = first_false-passed xs k n t at is

  -- one that doesn't is the first
  pub first_false-found : (xs : List Tree) (k n : ℕ) (t : Tree) → slice_get xs k ≡ Some t → holds m s t ≡ false → first_false m s n (drop k xs) ≡ Some n
  first_false-found [] k n t at is = absurd (cc at)
  first_false-found (x ∷ xs) zero n t at is =
      let e : x ≡ t = cc at in
      ap (λ b. if b then first_false m s (suc n) xs else Some n) (ap (holds m s) e ∙ is)
  first_false-found (x ∷ xs) (suc k) n t at is = first_false-found xs k n t at is
