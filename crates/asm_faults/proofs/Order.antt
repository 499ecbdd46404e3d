-- The first of some faults is one of them, and none of them comes before it.
use Rattle.std.proofs.Common.{◌≡◌, ℕ, zero, suc, ◌<◌, ◌⊎◌, inl, inr, Bool as Truth, true, false, ◌&&◌, ◌||◌, nat_eq, nat_lt, if◌then◌else◌, List, [], ◌∷◌, length, slice_index_or, Some, None, Contains, refl, subst, arith}
use Rattle.std.specs.Prelude.{⊤}
use Rattle.std.proofs.lemmas.Bool.Decides.{nat_tests}
use Rattle.asm_faults.specs.declared.fault.Fault.{Fault}
use Rattle.asm_faults.specs.First.{rank, is_before, noted, IsFirst}

-- by three numbers, one after the other
abbrev before : ℕ → ℕ → ℕ → ℕ → ℕ → ℕ → Truth
before a b c x y z = nat_lt a x || (nat_eq a x && (nat_lt b y || (nat_eq b y && nat_lt c z)))

not_before_itself : (a b c : ℕ) → before a b c a b c ≡ false
not_before_itself a b c = grind (arith, nat_tests)

behind_an_earlier : (a b c x y z u v w : ℕ) → before a b c x y z ≡ true → before a b c u v w ≡ false → before x y z u v w ≡ false
behind_an_earlier a b c x y z u v w first other = grind (arith, nat_tests)

behind_both : (a b c x y z u v w : ℕ) → before a b c x y z ≡ false → before x y z u v w ≡ false → before a b c u v w ≡ false
behind_both a b c x y z u v w first other = grind (arith, nat_tests)

itself : (a : Fault) → is_before a a ≡ false
itself a = not_before_itself a.unit a.at (rank a.kind)

later : (x b a : Fault) → is_before x b ≡ true → is_before x a ≡ false → is_before b a ≡ false
later x b a first other = behind_an_earlier x.unit x.at (rank x.kind) b.unit b.at (rank b.kind) a.unit a.at (rank a.kind) first other

still_later : (x b a : Fault) → is_before x b ≡ false → is_before b a ≡ false → is_before x a ≡ false
still_later x b a first other = behind_both x.unit x.at (rank x.kind) b.unit b.at (rank b.kind) a.unit a.at (rank a.kind) first other

abbrev NoneBefore : Fault → List Fault → Type 0
NoneBefore a [] = ⊤
NoneBefore a (x ∷ faults) = (is_before x a ≡ false) × NoneBefore a faults

abbrev IsAmong : Fault → List Fault → Type 0
IsAmong a [] = ⊥
IsAmong a (x ∷ faults) = (x ≡ a) ⊎ IsAmong a faults

-- what is kept of one fault and others
abbrev IsKept : Fault → List Fault → Fault → Type 0
IsKept b faults a = (is_before b a ≡ false) × NoneBefore a faults × ((b ≡ a) ⊎ IsAmong a faults)

kept : (b : Fault) (faults : List Fault) (a : Fault) → noted (Some b) faults ≡ Some a → IsKept b faults a
kept b [] a e = let same : b ≡ a = cc in (subst (λ (c : Fault). is_before b c ≡ false) same (itself b), tt, inl same)
kept b (x ∷ faults) a e =
    elim (is_before x b) as (λ (t : Truth). is_before x b ≡ t → noted (if t then Some x else Some b) faults ≡ Some a → IsKept b (x ∷ faults) a) [
      | true ↦ λ h f. let rest : IsKept x faults a = kept x faults a f in (later x b a h rest.0, (rest.0, rest.1), inr rest.2)
      | false ↦ λ h f. let rest : IsKept b faults a = kept b faults a f in (rest.0, (still_later x b a h rest.0, rest.1), behind rest.2)
    ] refl e
  where
    behind : (b ≡ a) ⊎ IsAmong a faults → (b ≡ a) ⊎ ((x ≡ a) ⊎ IsAmong a faults)
    behind (inl same) = inl same
    behind (inr among) = inr (inr among)

contained : (a : Fault) (faults : List Fault) → IsAmong a faults → Contains faults a
contained a [] among = absurd among
contained a (x ∷ faults) (inl same) = (0, omega arith, same)
contained a (x ∷ faults) (inr among) = let rest : Contains faults a = contained a faults among in let less = rest.1 in (suc rest.0, omega arith, rest.2)

not_before : (a : Fault) (faults : List Fault) (b : Fault) → NoneBefore a faults → (k : ℕ) → k < length faults → slice_index_or faults k b ≡ b → is_before b a ≡ false
not_before a [] b none k less e = absurd (omega arith)
not_before a (x ∷ faults) b none zero less e = subst (λ (c : Fault). is_before c a ≡ false) e none.0
not_before a (x ∷ faults) b none (suc k) less e = not_before a faults b none.1 k (omega arith) e

pub first_is : (faults : List Fault) (a : Fault) → noted None faults ≡ Some a → IsFirst faults a
first_is [] a e = absurd (cc (e))
first_is (x ∷ faults) a e =
    let all : IsKept x faults a = kept x faults a e in
    record { is_one = contained a (x ∷ faults) all.2; none_before = λ b has. not_before a (x ∷ faults) b (all.0, all.1) has.0 has.1 has.2 }

some_kept : (b : Fault) (faults : List Fault) → noted (Some b) faults ≡ None → ⊥
some_kept b [] e = cc (e)
some_kept b (x ∷ faults) e =
    elim (is_before x b) as (λ (t : Truth). noted (if t then Some x else Some b) faults ≡ None → ⊥) [ true ↦ λ f. some_kept x faults f | false ↦ λ f. some_kept b faults f ] e

-- without a first fault there is none
pub none_at_all : (faults : List Fault) → noted None faults ≡ None → faults ≡ []
none_at_all [] e = refl
none_at_all (x ∷ faults) e = absurd (some_kept x faults e)
