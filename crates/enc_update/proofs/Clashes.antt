-- The literal of a clash at one slot: two values of a merged group are there.
use Rattle.std.proofs.Common.{◌≡◌, ℕ, List, [], ◌∷◌, map, Bool, true, false, not, ◌&&◌, ◌||◌, refl, ap, sym, ◌∙◌}
use Rattle.std.specs.List.{list_any}
use Rattle.cnf_base.specs.Clauses.{lit_true}
use Rattle.cnf_base.specs.declared.lit.Lit.{Lit}
use Rattle.asm_domain.specs.declared.value.Value.{Value}
use Rattle.asm_node.specs.Values.{same}
use Rattle.enc_group.specs.declared.group.Entry.{Entry}
use Rattle.enc_group.specs.Group.{holds, has, values_in, are_distinct}
use Rattle.enc_update.specs.Updates.{two_true}
use Rattle.asm_node.proofs.Sameness.{same_is, same_itself}

abbrev pub lits_of : List Entry → List Lit
lits_of es = map (λ e. e.lit) es

or_false : (a b : Bool) → a || b ≡ false → (a ≡ false) × (b ≡ false)
or_false true b h = cc
or_false false b h = (refl, h)

and_true : (a b : Bool) → a && b ≡ true → (a ≡ true) × (b ≡ true)
and_true true b h = (refl, h)
and_true false b h = cc

none_holds : (v : ℕ → Bool) (es : List Entry) (x : Value) → list_any (lit_true v) (lits_of es) ≡ false → holds v es x ≡ false
none_holds v [] x h = refl
none_holds v (e ∷ es) x h =
    let p = or_false (lit_true v e.lit) (list_any (lit_true v) (lits_of es)) h in
    rw (p.0, none_holds v es x p.1) (ends (same e.value x))
  where
    ends : (a : Bool) → (a && false) || false ≡ false
    ends true = refl
    ends false = refl

-- where no two literals are true, at most one value is there
pub one_value : (v : ℕ → Bool) (es : List Entry) → two_true v (lits_of es) ≡ false → (x y : Value) → holds v es x ≡ true → holds v es y ≡ true → same x y ≡ true
one_value v [] h x y p q = cc
one_value v (e ∷ es) h x y p q =
    let k = or_false (lit_true v e.lit && list_any (lit_true v) (lits_of es)) (two_true v (lits_of es)) h in
    elim (lit_true v e.lit) as (λ b. lit_true v e.lit ≡ b → same x y ≡ true) [
      | true ↦ λ t.
          let rest : list_any (lit_true v) (lits_of es) ≡ false = sym (ap (λ b. b && list_any (lit_true v) (lits_of es)) t) ∙ k.0 in
          let ex = here (same e.value x) (lit_true v e.lit) (holds v es x) (none_holds v es x rest) p in
          let ey = here (same e.value y) (lit_true v e.lit) (holds v es y) (none_holds v es y rest) q in
          let ix : e.value ≡ x = same_is e.value x ex in
          ap (λ z. same z y) (sym ix) ∙ ey
      | false ↦ λ t. one_value v es k.1 x y (there (same e.value x) (lit_true v e.lit) (holds v es x) t p) (there (same e.value y) (lit_true v e.lit) (holds v es y) t q)
    ] refl
  where
    here : (s l r : Bool) → r ≡ false → (s && l) || r ≡ true → s ≡ true
    here true l r f h = refl
    here false true true f h = cc
    here false true false f h = cc
    here false false true f h = cc
    here false false false f h = cc

    there : (s l r : Bool) → l ≡ false → (s && l) || r ≡ true → r ≡ true
    there s l true f h = refl
    there true true false f h = cc
    there true false false f h = cc
    there false true false f h = cc
    there false false false f h = cc

-- a true literal has a value that is there
some_holds : (v : ℕ → Bool) (es : List Entry) → list_any (lit_true v) (lits_of es) ≡ true → (y : Value) × (holds v es y ≡ true) × (has (values_in es) y ≡ true)
some_holds v [] h = cc
some_holds v (e ∷ es) h =
    elim (lit_true v e.lit) as (λ b. lit_true v e.lit ≡ b → (y : Value) × (holds v (e ∷ es) y ≡ true) × (has (values_in (e ∷ es)) y ≡ true)) [
      | true ↦ λ t. (e.value, rw (same_itself e.value, t) refl, rw (same_itself e.value) refl)
      | false ↦ λ t.
          let rest : list_any (lit_true v) (lits_of es) ≡ true = sym (ap (λ b. b || list_any (lit_true v) (lits_of es)) t) ∙ h in
          let found = some_holds v es rest in
          (found.0, right (same e.value found.0 && lit_true v e.lit) (holds v es found.0) found.1, right (same e.value found.0) (has (values_in es) found.0) found.2)
    ] refl
  where
    right : (a b : Bool) → b ≡ true → a || b ≡ true
    right true b h = refl
    right false b h = h

-- where two literals of a merged group are true, two different values are there
pub two_values : (v : ℕ → Bool) (es : List Entry) → are_distinct (values_in es) ≡ true → two_true v (lits_of es) ≡ true
    → (x : Value) × (y : Value) × (holds v es x ≡ true) × (holds v es y ≡ true) × (same x y ≡ false)
two_values v [] d h = cc
two_values v (e ∷ es) d h =
    let k = and_true (not (has (values_in es) e.value)) (are_distinct (values_in es)) d in
    elim (lit_true v e.lit && list_any (lit_true v) (lits_of es)) as (λ b. (lit_true v e.lit && list_any (lit_true v) (lits_of es)) ≡ b → (x : Value) × (y : Value) × (holds v (e ∷ es) x ≡ true) × (holds v (e ∷ es) y ≡ true) × (same x y ≡ false)) [
      | true ↦ λ t.
          let p = and_true (lit_true v e.lit) (list_any (lit_true v) (lits_of es)) t in
          let found = some_holds v es p.1 in
          (e.value, found.0, rw (same_itself e.value, p.0) refl, right (same e.value found.0 && lit_true v e.lit) (holds v es found.0) found.1, apart e.value found.0 es k.0 found.2)
      | false ↦ λ t.
          let rest : two_true v (lits_of es) ≡ true = sym (ap (λ b. b || two_true v (lits_of es)) t) ∙ h in
          let found = two_values v es k.1 rest in
          (found.0, found.1, right (same e.value found.0 && lit_true v e.lit) (holds v es found.0) found.2, right (same e.value found.1 && lit_true v e.lit) (holds v es found.1) found.3, found.4)
    ] refl
  where
    right : (a b : Bool) → b ≡ true → a || b ≡ true
    right true b h = refl
    right false b h = h

    apart : (x y : Value) (es : List Entry) → not (has (values_in es) x) ≡ true → has (values_in es) y ≡ true → same x y ≡ false
    apart x y es n h =
        elim (same x y) as (λ b. same x y ≡ b → b ≡ false) [
          | true ↦ λ s. let there : has (values_in es) x ≡ true = ap (has (values_in es)) (same_is x y s) ∙ h in wrong (has (values_in es) x) n there
          | false ↦ λ s. refl
        ] refl
      where
        wrong : (a : Bool) → not a ≡ true → a ≡ true → true ≡ false
        wrong true n t = cc
        wrong false n t = cc
