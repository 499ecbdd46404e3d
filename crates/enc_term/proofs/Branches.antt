-- What the part of a conditional is that its guard's value takes.
use Rattle.std.proofs.Common.{◌≡◌, ◌≤◌, ◌<◌, ◌+◌, ℕ, Bool, true, false, List, [], ◌∷◌, ◌++◌, length, take, get_or, refl, ap, ◌∙◌, append-nil}
use Rattle.std.specs.List.{flat_map}
use Rattle.std.proofs.lemmas.Grind.{flat_map-append}
use Rattle.asm_domain.specs.declared.value.Value.{Value}
use Rattle.asm_domain.specs.declared.value.Value.TheVariants.{Undef, Bool as Truth, Int, Elem}
use Rattle.asm_node.specs.Term.{Outcome, branch}
use Rattle.enc_group.specs.declared.group.Entry.{Entry}
use Rattle.enc_group.specs.Group.{Means, values_in, group_variables}
use Rattle.enc_group.proofs.Groups.{map_more}

pub branch_means : (v : ℕ → Bool) (x : Value) (first second other : List Entry) (p q r : Outcome Value) → Means v first p → Means v second q → Means v other r → Means v (branch x first second other) (branch x p q r)
branch_means v Undef first second other p q r mp mq mr = mr
branch_means v (Truth true) first second other p q r mp mq mr = mp
branch_means v (Truth false) first second other p q r mp mq mr = mq
branch_means v (Int i) first second other p q r mp mq mr = mr
branch_means v (Elem d k) first second other p q r mp mq mr = mr

pub branch_within : (x : Value) (first second other : List Entry) (n : ℕ) → group_variables first ≤ n → group_variables second ≤ n → group_variables other ≤ n → group_variables (branch x first second other) ≤ n
branch_within Undef first second other n a b c = c
branch_within (Truth true) first second other n a b c = a
branch_within (Truth false) first second other n a b c = b
branch_within (Int i) first second other n a b c = c
branch_within (Elem d k) first second other n a b c = c

pub branch_values : (x : Value) (first second other : List Entry) → values_in (branch x first second other) ≡ branch x (values_in first) (values_in second) (values_in other)
branch_values Undef first second other = refl
branch_values (Truth true) first second other = refl
branch_values (Truth false) first second other = refl
branch_values (Int i) first second other = refl
branch_values (Elem d k) first second other = refl

-- the values of the first keys, and of one more
pub flat_more : (f : Value → List Value) (keys : List Entry) (i : ℕ) (k : Entry) → i < length keys → k ≡ get_or keys i k
    → flat_map f (values_in (take (i + 1) keys)) ≡ flat_map f (values_in (take i keys)) ++ f k.value
flat_more f keys i k h is =
    ap (flat_map f) (map_more (λ (e : Entry). e.value) keys i k h is)
    ∙ flat_map-append f (values_in (take i keys)) (k.value ∷ [])
    ∙ ap (λ (xs : List Value). flat_map f (values_in (take i keys)) ++ xs) (append-nil (f k.value))
