-- Update sets: finite sets of pairs of a slot and a value.
use Rattle.std.specs.Prelude.{◌≡◌, ℕ, zero, suc, pos, negsuc, Bool as Truth, true, false, not, ◌||◌, nat_eq, List, [], ◌∷◌, Option, Some, None}
use mathlib.Core.Path.{refl}
use Rattle.std.specs.declared.cmp.Ordering.{Ordering}
use Rattle.std.specs.Ordering.{nat_cmp}
use Rattle.std.specs.List.{list_any, list_all, find, filter}
use Rattle.std.specs.Option.{option_map, unwrap_or}
use Rattle.std.specs.FinSet as set
use Rattle.std.specs.Coded.{Coded, code_by, coded_list, coded_ℕ}
use Rattle.std.specs.Cmp.Lexicographic.{slice_cmp}
use Rattle.asm_domain.specs.declared.value.Value.{Value}
use Rattle.asm_domain.specs.declared.value.Value.TheVariants.{Undef, Bool, Int, Elem}
use Rattle.asm_sign.specs.declared.function.Function.{Function}
use Rattle.asm_sign.specs.Arguments.{elements_at}
use Rattle.asm_sign.specs.Vocabulary.{Vocabulary, locations, function_at}
use Rattle.asm_node.specs.Values.{same}
use Rattle.asm_node.specs.Machine.{State, revised}

-- a pair as a list of numbers, by which sets are kept in order; no meaning depends on that order
abbrev pub value_key : Value → List ℕ
value_key Undef = 0 ∷ []
value_key (Bool false) = 1 ∷ []
value_key (Bool true) = 2 ∷ []
value_key (Int (pos n)) = 3 ∷ n ∷ []
value_key (Int (negsuc n)) = 4 ∷ n ∷ []
value_key (Elem d k) = 5 ∷ d ∷ k ∷ []

abbrev pub value_from : List ℕ → Value
value_from (suc zero ∷ _) = Bool false
value_from (suc (suc zero) ∷ _) = Bool true
value_from (suc (suc (suc zero)) ∷ n ∷ _) = Int (pos n)
value_from (suc (suc (suc (suc zero))) ∷ n ∷ _) = Int (negsuc n)
value_from (suc (suc (suc (suc (suc zero)))) ∷ d ∷ k ∷ _) = Elem d k
value_from _ = Undef

abbrev pub value_from-key : (v : Value) → value_from (value_key v) ≡ v
value_from-key Undef = refl
value_from-key (Bool false) = refl
value_from-key (Bool true) = refl
value_from-key (Int (pos n)) = refl
value_from-key (Int (negsuc n)) = refl
value_from-key (Elem d k) = refl

abbrev pub value_code : Coded Value
value_code = code_by (List ℕ) (coded_list coded_ℕ) value_key value_from value_from-key

abbrev pub Pair : Type 0
Pair = ℕ × Value

abbrev pub key : Pair → List ℕ
key p = p.0 ∷ value_key p.1

abbrev pub pair_from : List ℕ → Pair
pair_from [] = (0, Undef)
pair_from (l ∷ ks) = (l, value_from ks)

abbrev pub pair_from-key : (p : Pair) → pair_from (key p) ≡ p
pair_from-key p = λ i. (p.0, value_from-key p.1 i)

abbrev pub pair_cmp : Pair → Pair → Ordering
pair_cmp p q = slice_cmp nat_cmp (key p) (key q)

abbrev pub pair_code : Coded Pair
pair_code = code_by (List ℕ) (coded_list coded_ℕ) key pair_from pair_from-key

abbrev pub UpdateSet : Type 0
UpdateSet = set.FinSet pair_cmp

-- the set of one update
abbrev pub one : ℕ → Value → UpdateSet
one l v = set.insert set.empty (l, v)

-- two pairs of one slot have the same value
abbrev pub agree : Pair → Pair → Truth
agree p q = not (nat_eq p.0 q.0) || same p.1 q.1

-- no slot has two values
abbrev pub consistent : UpdateSet → Truth
consistent u = list_all (λ p. list_all (λ q. agree p q) (set.items u)) (set.items u)

-- whether the set has a pair of the slot
abbrev pub touches : UpdateSet → ℕ → Truth
touches u l = list_any (λ p. nat_eq p.0 l) (set.items u)

-- the later set, with the earlier set's pairs of slots that the later has none of
abbrev pub override : UpdateSet → UpdateSet → UpdateSet
override u v = set.union (set.retain u (λ p. not (touches v p.0))) v

-- a value that the set has at the slot: the only one, where the set is consistent
abbrev pub value_at : UpdateSet → ℕ → Option Value
value_at u l = option_map (λ p. p.1) (find (λ p. nat_eq p.0 l) (set.items u))

-- the state with the set's value at each slot of which the set has one
abbrev pub fire : State → UpdateSet → State
fire s u = revised (λ l v. unwrap_or (value_at u l) v) s

-- the values that the function's locations may have, by rank: `undef` before all elements
abbrev pub ranked_values : Vocabulary → Option Function → List Value
ranked_values signature (Some f) = Undef ∷ elements_at signature.domains f.codomain
ranked_values signature None = Undef ∷ []

-- the set's values at a slot, by rank
abbrev pub values_at : Vocabulary → UpdateSet → ℕ → List Value
values_at signature u l = filter (λ v. set.contains u (l, v)) (ranked_values signature (function_at signature l))

-- the slot with its two least values, or what a later slot has
abbrev pub first_two : ℕ → List Value → Option (ℕ × Value × Value) → Option (ℕ × Value × Value)
first_two l (v ∷ w ∷ _) later = Some (l, v, w)
first_two l _ later = later

abbrev pub clash_from : Vocabulary → UpdateSet → ℕ → List (ℕ × List Value) → Option (ℕ × Value × Value)
clash_from signature u l [] = None
clash_from signature u l (_ ∷ others) = first_two l (values_at signature u l) (clash_from signature u (suc l) others)

-- the least location with two values in the set, and its two least values
abbrev pub clash : Vocabulary → UpdateSet → Option (ℕ × Value × Value)
clash signature u = clash_from signature u 0 (locations signature)
