-- The value of a term depends on what its free variables read as.
use Rattle.std.proofs.Common.{◌≡◌, ℕ, Bool as Truth, true, false, not, ◌&&◌, ◌||◌, if◌then◌else◌, List, [], ◌∷◌, length, nat_eq, slice_get, refl, ap, arith}
use Rattle.std.proofs.lemmas.Bool.Decides.{nat_tests}
use Rattle.asm_domain.specs.declared.value.Value.{Value}
use Rattle.asm_domain.specs.declared.value.Value.TheVariants.{Undef}
use Rattle.asm_node.specs.declared.term.Binder.{Binder}
use Rattle.asm_node.specs.Tree.{Tree, Const, Var, Within, Get, Oper, Cond, Let, Quant, Trees, none, more}
use Rattle.asm_node.specs.Values.{result_of, quantified, within}
use Rattle.asm_node.specs.Machine.{tuples_of}
use Rattle.asm_node.specs.Term.{World, Outcome, Gives, and_then, Reads, Calls, with_value, with_tuple, read, branch, guard_values, value_of, values_of}
use Rattle.asm_node.proofs.Closing.{HaveLength, tuples-length}
use Rattle.asm_laws.specs.Free.{is_bound, is_free, is_free_in, ReadAlike}

left_true : (a b : Truth) → a ≡ true → (a || b) ≡ true
left_true true b is = refl
left_true false b is = absurd (cc (is))

right_true : (a b : Truth) → b ≡ true → (a || b) ≡ true
right_true true b is = refl
right_true false b is = is

both_true : (a b : Truth) → a ≡ false → b ≡ true → (not a && b) ≡ true
both_true true b isnt is = absurd (cc (isnt))
both_true false b isnt is = is

neither : (a b : Truth) → a ≡ false → b ≡ false → (a || b) ≡ false
neither true b isnt is = absurd (cc (isnt))
neither false b isnt is = is

self : (x : ℕ) → nat_eq x x ≡ true
self x = grind (arith, nat_tests)

guards_same : (n : ℕ) (guard other : List Value → Outcome Value) (ts : List (List Value)) → HaveLength n ts → ((vs : List Value) → length vs ≡ n → guard vs ≡ other vs) → guard_values guard ts ≡ guard_values other ts
guards_same n guard other [] have same = refl
guards_same n guard other (t ∷ ts) have same = λ i. and_then (same t have.0 i) (λ v. and_then (guards_same n guard other ts have.1 same i) (λ vs. Gives (v ∷ vs)))

value_read : (x : ℕ) (v : Value) (reads other : Reads) (y : ℕ) → (nat_eq x y ≡ false → reads y ≡ other y) → with_value x v reads y ≡ with_value x v other y
value_read x v reads other y same =
    elim (nat_eq x y) as (λ (b : Truth). nat_eq x y ≡ b → (if b then Gives v else reads y) ≡ (if b then Gives v else other y)) [ true ↦ λ _. refl | false ↦ λ apart. same apart ] refl

tuple_read : (bs : List Binder) (vs : List Value) (reads other : Reads) (y : ℕ) → length vs ≡ length bs → (is_bound y bs ≡ false → reads y ≡ other y) → with_tuple bs vs reads y ≡ with_tuple bs vs other y
tuple_read [] [] reads other y long same = same refl
tuple_read [] (v ∷ vs) reads other y long same = same refl
tuple_read (b ∷ bs) [] reads other y long same = absurd (omega (arith, long))
tuple_read (b ∷ bs) (v ∷ vs) reads other y long same =
    value_read b.variable v (with_tuple bs vs reads) (with_tuple bs vs other) y
    (λ apart. tuple_read bs vs reads other y (omega (arith, long)) (λ free. same (neither (nat_eq b.variable y) (is_bound y bs) apart free)))

module _ (w : World) (calls : Calls) where
  mutual
    pub value_alike : (t : Tree) (reads other : Reads) → ReadAlike t reads other → value_of w calls reads t ≡ value_of w calls other t
    value_alike (Const v) reads other same = refl
    value_alike (Var x) reads other same = same x (self x)
    value_alike (Within d t) reads other same = ap (λ o. and_then o (λ v. Gives (within w.machine.signature.domains d v))) (value_alike t reads other same)
    value_alike (Get f ts) reads other same = ap (λ o. and_then o (read w calls f (slice_get w.machine.signature.functions f))) (values_alike ts reads other same)
    value_alike (Oper o ts) reads other same = ap (λ p. and_then p (λ vs. Gives (result_of o vs))) (values_alike ts reads other same)
    value_alike (Cond g t u) reads other same = λ i.
        and_then (value_alike g reads other (λ y free. same y (left_true (is_free y g) (is_free y t || is_free y u) free)) i)
        (λ v. branch v
        (value_alike t reads other (λ y free. same y (right_true (is_free y g) (is_free y t || is_free y u) (left_true (is_free y t) (is_free y u) free))) i)
        (value_alike u reads other (λ y free. same y (right_true (is_free y g) (is_free y t || is_free y u) (right_true (is_free y t) (is_free y u) free))) i)
        (Gives Undef))
    value_alike (Let x t u) reads other same = λ i.
        and_then (value_alike t reads other (λ y free. same y (left_true (is_free y t) (not (nat_eq x y) && is_free y u) free)) i)
        (λ v. value_alike u (with_value x v reads) (with_value x v other)
        (λ y free. value_read x v reads other y (λ apart. same y (right_true (is_free y t) (not (nat_eq x y) && is_free y u) (both_true (nat_eq x y) (is_free y u) apart free)))) i)
    value_alike (Quant q bs g) reads other same =
        ap (λ p. and_then p (λ vs. Gives (quantified q vs)))
        (guards_same (length bs) (λ vs. value_of w calls (with_tuple bs vs reads) g) (λ vs. value_of w calls (with_tuple bs vs other) g) (tuples_of w.machine.signature bs) (tuples-length w bs)
        (λ vs long. value_alike g (with_tuple bs vs reads) (with_tuple bs vs other)
        (λ y free. tuple_read bs vs reads other y long (λ apart. same y (both_true (is_bound y bs) (is_free y g) apart free)))))

    pub values_alike : (ts : Trees) (reads other : Reads) → ((y : ℕ) → is_free_in y ts ≡ true → reads y ≡ other y) → values_of w calls reads ts ≡ values_of w calls other ts
    values_alike none reads other same = refl
    values_alike (more t ts) reads other same = λ i.
        and_then (value_alike t reads other (λ y free. same y (left_true (is_free y t) (is_free_in y ts) free)) i)
        (λ v. and_then (values_alike ts reads other (λ y free. same y (right_true (is_free y t) (is_free_in y ts) free)) i) (λ vs. Gives (v ∷ vs)))
