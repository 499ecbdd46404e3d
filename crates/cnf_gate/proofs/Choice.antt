-- Each choice of one literal per group has exactly one assignment.
use Rattle.std.proofs.Common.{◌≡◌, ℕ, ◌+◌, ◌-◌, ◌*◌, ◌<◌, ◌≤◌, suc, zero, List, [], ◌∷◌, ◌++◌, length, arith, subst, sym, ◌∙◌, Bool, true, refl}
use Rattle.cnf_base.specs.declared.lit.Lit.{Lit}
use Rattle.cnf_base.specs.Clauses.{clause_variables, variables, value_in}
use Rattle.cnf_base.proofs.VariableBounds.{variables-append}
use Rattle.cnf_gate.specs.Built.{is_agreed, IsDetermined, IsBuilt, AreGroups}
use Rattle.cnf_gate.specs.Ladder.{IsGroup}
use Rattle.cnf_gate.specs.Circuit.{Chooses, EachChoiceOnce, IsCircuit}
use Rattle.cnf_gate.proofs.Meaning.{formula_agrees}
use Rattle.cnf_gate.proofs.Built.{literals-append}
use Rattle.cnf_gate.proofs.Chosen.{chosen_choice, chosen_along, chosen_agree}
use Rattle.cnf_gate.proofs.Step.{agreed_below, agreed_trans}

-- the values of the variables below a number
pub tabulate : (ℕ → Bool) → ℕ → List Bool
tabulate v zero = []
tabulate v (suc n) = v 0 ∷ tabulate (λ m. v (suc m)) n

pub length-tabulate : (v : ℕ → Bool) (n : ℕ) → length (tabulate v n) ≡ n
unfolding tabulate
length-tabulate v zero = refl
length-tabulate v (suc n) = omega (arith, length-tabulate (λ m. v (suc m)) n)

pub value-tabulate : (v : ℕ → Bool) (n m : ℕ) → m < n → value_in (tabulate v n) m ≡ v m
unfolding tabulate
value-tabulate v zero m h = absurd (omega arith)
value-tabulate v (suc n) zero h = refl
value-tabulate v (suc n) (suc m) h = value-tabulate (λ m. v (suc m)) n m (omega arith)

same_list : (a b : List Bool) → length a ≡ length b → ((m : ℕ) → m < length a → value_in a m ≡ value_in b m) → a ≡ b
same_list [] [] e h = refl
same_list [] (y ∷ b) e h = absurd (omega arith)
same_list (x ∷ a) [] e h = absurd (omega arith)
same_list (x ∷ a) (y ∷ b) e h =
    let first : x ≡ y = h 0 (omega arith) in
    let rest : a ≡ b = same_list a b (omega arith) (λ m k. h (suc m) (omega arith)) in
    λ i. first i ∷ rest i

pub choice_law : (fixed groups : List (List Lit)) → IsDetermined fixed groups (variables fixed) → AreGroups fixed groups → EachChoiceOnce fixed groups
choice_law fixed groups d g places h =
    let made = g.free places h in
    let u : ℕ → Bool = made.0 in
    let e = d.exists u (chosen_choice u groups places made.1) in
    let a : List Bool = tabulate e.0 (variables fixed) in
    let same : (m : ℕ) → m < variables fixed → value_in a m ≡ e.0 m = value-tabulate e.0 (variables fixed) in
    let agree : is_agreed (value_in a) u groups ≡ true =
    agreed_trans (value_in a) e.0 u groups (agreed_below (value_in a) e.0 groups (λ m k. same m (omega (arith, d.grouped)))) e.2 in
    let it : Chooses fixed groups places a = record {
      whole = length-tabulate e.0 (variables fixed);
      holds = formula_agrees (value_in a) e.0 fixed same ∙ e.1;
      chosen = chosen_along (value_in a) u groups places agree ∙ made.1;
    } in (
      a,
      it,
      λ b k.
          let agree : is_agreed (value_in b) (value_in a) groups ≡ true = chosen_agree (value_in b) (value_in a) groups places k.chosen it.chosen in
          let values : (m : ℕ) → m < variables fixed → value_in b m ≡ value_in a m = d.unique (value_in b) (value_in a) k.holds it.holds agree in
          same_list b a (k.whole ∙ sym it.whole) (λ m h. values m (omega (arith, k.whole))),
    )

pub IsBuilt-group : (fixed more required groups : List (List Lit)) (count size n count_new size_new : ℕ) (g : List Lit) → IsBuilt fixed required groups count size
    → IsGroup more count n g → 0 < n → count_new ≡ count + 2 * n - 1 → size_new + 9 ≡ size + 10 * n → count_new ≤ 2000000 → size_new ≤ 30000000
    → IsBuilt (fixed ++ more) required (groups ++ g ∷ []) count_new size_new
IsBuilt-group fixed more required groups count size n count_new size_new g b d h e k few short =
    let both = d.determined fixed groups b.determined b.grouped in record {
      determined = let P : ℕ → Type 0 = λ m. IsDetermined (fixed ++ more) (groups ++ g ∷ []) m in subst P (sym e) both.0;
      grouped = both.1;
      posed = omega (arith, b.posed);
      sized = omega (arith, b.sized, d.sized, literals-append fixed more);
      few = few;
      short = short;
    }

pub IsCircuit-built : (fixed required groups : List (List Lit)) (count size : ℕ) → IsBuilt fixed required groups count size → IsCircuit fixed required groups
IsCircuit-built fixed required groups count size b = record {
  determined = let P : ℕ → Type 0 = λ m. IsDetermined fixed groups m in subst P (sym b.determined.counted) b.determined;
  grouped = b.grouped;
  posed = omega (arith, b.posed, b.determined.counted);
  limits = (omega (arith, b.few, b.determined.counted), omega (arith, b.short, b.sized));
}

pub group_within : (fixed more required groups : List (List Lit)) (count size n count_new : ℕ) (g : List Lit) → IsBuilt fixed required groups count size → IsGroup more count n g
    → count_new ≡ count + 2 * n - 1 → clause_variables g ≤ count_new
group_within fixed more required groups count size n count_new g b d e =
    let both = d.determined fixed groups b.determined b.grouped in
    omega (arith, both.0.grouped, variables-append groups (g ∷ []))
