-- Nodes at which only bounded chains begin.
use Rattle.std.proofs.Common.{◌≡◌, ℕ, zero, suc, ◌+◌, ◌≤◌, nat_eq, Bool, true, false, true≢false, ◌||◌, List, [], ◌∷◌, set, inl, inr, refl, sym, ap, ◌∙◌, arith}
use Rattle.std.specs.List.{list_any}
use Rattle.std.proofs.lemmas.Bool.{cases_lt, eqb-true as same_number, eq-eqb as number_same}
use Rattle.std.proofs.lemmas.List.{get_or-set_other}
use Rattle.call_graph.specs.declared.graph.Node.{Node}
use Rattle.call_graph.specs.Calls.{calls_at, is_in, has_chain, leads}
use Rattle.call_graph.specs.Rows.{for_each}
use Rattle.asm_calls.specs.Graphs.{AreBounded}
use Rattle.asm_calls.proofs.Chaining.{chain_less, no_cycle, chain_past}
use Rattle.asm_calls.proofs.Rows.{in_row_of}

-- a chain without its last nodes
chain_short : (g : List Node) (k m f : ℕ) → k ≤ m → has_chain g m f ≡ true → has_chain g k f ≡ true
chain_short g k zero f le h = let same : k ≡ 0 = omega (arith, le) in ap (λ (n : ℕ). has_chain g n f) same ∙ h
chain_short g k (suc m) f le h =
    elim (cases_lt k (suc m)) [
      | inl lt ↦ chain_short g k m f (omega (arith, lt)) (chain_less g m f h)
      | inr ge ↦ (let same : k ≡ suc m = omega (arith, le, ge) in ap (λ (n : ℕ). has_chain g n f) same ∙ h)
    ]

no_longer : (g : List Node) (k m f : ℕ) → k ≤ m → has_chain g k f ≡ false → has_chain g m f ≡ false
no_longer g k m f le e =
    elim (has_chain g m f) as (λ (b : Bool). has_chain g m f ≡ b → b ≡ false) [
      | true ↦ λ h. absurd (true≢false (sym (chain_short g k m f le h) ∙ e))
      | false ↦ λ h. refl
    ] refl

or_none : (a b : Bool) → a ≡ false → b ≡ false → a || b ≡ false
or_none true b p q = p
or_none false b p q = q

or_left : (a b : Bool) → a || b ≡ false → a ≡ false
or_left true b e = e
or_left false b e = refl

or_right_none : (a b : Bool) → a || b ≡ false → b ≡ false
or_right_none true b e = absurd (true≢false e)
or_right_none false b e = e

any_no_longer : (g : List Node) (k m : ℕ) → k ≤ m → (xs : List ℕ) → list_any (has_chain g k) xs ≡ false → list_any (has_chain g m) xs ≡ false
any_no_longer g k m le [] e = refl
any_no_longer g k m le (x ∷ xs) e =
    or_none (has_chain g m x) (list_any (has_chain g m) xs)
    (no_longer g k m x le (or_left (has_chain g k x) (list_any (has_chain g k) xs) e))
    (any_no_longer g k m le xs (or_right_none (has_chain g k x) (list_any (has_chain g k) xs) e))

-- one bound for all of some nodes
all_bounded : (g : List Node) (row : List Bool) → AreBounded g row → (xs : List ℕ) → list_any (is_in row) xs ≡ false → (k : ℕ) × (list_any (has_chain g (suc k)) xs ≡ false)
all_bounded g row bounded [] e = (0, refl)
all_bounded g row bounded (x ∷ xs) e =
    let own = bounded x (or_left (is_in row x) (list_any (is_in row) xs) e) in
    let rest = all_bounded g row bounded xs (or_right_none (is_in row x) (list_any (is_in row) xs) e) in (
      own.0 + rest.0,
      or_none (has_chain g (suc (own.0 + rest.0)) x) (list_any (has_chain g (suc (own.0 + rest.0))) xs)
          (no_longer g own.0 (suc (own.0 + rest.0)) x (omega arith) own.1)
          (any_no_longer g (suc rest.0) (suc (own.0 + rest.0)) (omega arith) xs rest.1),
    )

chain_on : (g : List Node) (k f : ℕ) → list_any (has_chain g (suc k)) (calls_at g f) ≡ false → has_chain g (suc (suc k)) f ≡ false
unfolding has_chain
chain_on g k f e = e

-- a node that calls none at which unbounded chains may begin
pub settled : (g : List Node) (row : List Bool) (number : ℕ) → AreBounded g row → list_any (is_in row) (calls_at g number) ≡ false → AreBounded g (set row number false)
settled g row number bounded e n is =
    elim (nat_eq number n) as (λ (b : Bool). nat_eq number n ≡ b → (k : ℕ) × (has_chain g k n ≡ false)) [
      | true ↦ λ s. (let calls = all_bounded g row bounded (calls_at g number) e in
          (suc (suc calls.0), ap (has_chain g (suc (suc calls.0))) (sym (same_number number n s)) ∙ chain_on g calls.0 number calls.1))
      | false ↦ λ s. bounded n (sym (get_or-set_other row number n false false (λ t. true≢false (sym (number_same number n (sym t)) ∙ s))) ∙ is)
    ] refl

-- where only bounded chains begin at a node, it doesn't lead to itself
pub not_looping : (g : List Node) (row : List Bool) (n m : ℕ) → AreBounded g row → is_in row n ≡ false → false ≡ leads g m n n
not_looping g row n m bounded e = let bound = bounded n e in no_cycle g bound.0 m n (leads g m n n) refl bound.1

-- chains of 33 are what is known at first
pub started : (g : List Node) (row : List Bool) → row ≡ for_each g (has_chain g 33) → AreBounded g row
started g row e n is =
    (33, sym (in_row_of g (has_chain g 33) (λ i le. chain_past g 33 i (omega arith) le) n) ∙ ap (λ (r : List Bool). is_in r n) (sym e) ∙ is)

pub bounded_same : (g : List Node) (row other : List Bool) → other ≡ row → AreBounded g row → AreBounded g other
bounded_same g row other same bounded n e = bounded n (ap (λ (r : List Bool). is_in r n) (sym same) ∙ e)
