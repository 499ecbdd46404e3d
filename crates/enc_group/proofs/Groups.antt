-- What groups of entries say, one entry after the other.
use Rattle.std.proofs.Common.{◌≡◌, ℕ, ◌+◌, ◌<◌, ◌≤◌, suc, zero, List, [], ◌∷◌, ◌++◌, length, map, filter, take, get_or, arith, sym, ◌∙◌, Bool, true, false, cond, ◌&&◌, ◌||◌, refl, ap, max, inl, inr, subst, Result, Err, IsErrAnd}
use Rattle.std.specs.List.{list_any}
use Rattle.std.proofs.lemmas.Result.{err_from_is_err_and}
use Rattle.std.proofs.lemmas.List.{take_more}
use Rattle.std.proofs.lemmas.List.Folds.{list_any-append}
use Rattle.cnf_base.specs.declared.lit.Lit.{Lit}
use Rattle.cnf_base.specs.Clauses.{lit_true, clause_variables}
use Rattle.cnf_gate.specs.declared.builder.GateError.{GateError}
use Rattle.cnf_gate.specs.declared.builder.GateError.TheVariants.{TooLarge, Memory}
use Rattle.cnf_gate.specs.Limits.{IsOverLimit, OnTooLarge}
use Rattle.asm_domain.specs.declared.value.Value.{Value}
use Rattle.asm_node.specs.Values.{same}
use Rattle.asm_node.specs.Term.{Outcome, Gives, Needs, and_then}
use Rattle.asm_node.proofs.Sameness.{same_is, same_itself}
use Rattle.enc_group.specs.declared.group.Entry.{Entry}
use Rattle.enc_group.specs.Group.{Means, is_gives, holds, has, values_in, group_variables, lits_with}

-- more variables and literals are over a limit too
pub over_more : (a b c d : ℕ) → a ≤ c → b ≤ d → IsOverLimit a b → IsOverLimit c d
over_more a b c d h k (inl m) = inl (omega (arith, h, m))
over_more a b c d h k (inr m) = inr (omega (arith, k, m))

-- what is so where a call refuses is so where its caller does
pub refused : {T U : Type 0} (r : Result T GateError) (s : Result U GateError) (e : GateError) {P Q : Type 0} → r ≡ Err e → IsErrAnd s (λ y. y ≡ e) → OnTooLarge r P → (P → Q) → OnTooLarge s Q
refused {T} {U} r s e {P} {Q} is k told up =
    let p = err_from_is_err_and s k in
    subst (λ (z : Result U GateError). OnTooLarge z Q) (sym (p.1 ∙ ap (λ (y : GateError). Err y) p.2)) (carry e (subst (λ (z : Result T GateError). OnTooLarge z P) is told))
  where
    carry : (e : GateError) → OnTooLarge {T = T} (Err e) P → OnTooLarge {T = U} (Err e) Q
    carry TooLarge h = up h
    carry Memory h = tt

-- ---- the first items of a list, and one more

pub take_all : {X : Type 0} (xs : List X) (i : ℕ) → length xs ≤ i → take i xs ≡ xs
take_all [] zero h = refl
take_all [] (suc i) h = refl
take_all (x ∷ xs) zero h = absurd (omega arith)
take_all {X} (x ∷ xs) (suc i) h = ap (λ (ys : List X). x ∷ ys) (take_all xs i (omega arith))

pub one_more : {X : Type 0} (xs : List X) (i : ℕ) (x : X) → i < length xs → x ≡ get_or xs i x → take (i + 1) xs ≡ take i xs ++ x ∷ []
one_more xs i x h k = rw (take_more xs i x h, sym k) refl

pub any_more : {X : Type 0} (q : X → Bool) (xs : List X) (i : ℕ) (x : X) → i < length xs → x ≡ get_or xs i x → list_any q (take (i + 1) xs) ≡ (list_any q (take i xs) || q x)
any_more {X} q xs i x h k =
    ap (list_any q) (one_more xs i x h k) ∙ list_any-append q (take i xs) (x ∷ []) ∙ last (list_any q (take i xs)) (q x)
  where
    last : (a b : Bool) → a || (b || false) ≡ a || b
    last true b = refl
    last false true = refl
    last false false = refl

pub any_whole : {X : Type 0} (q : X → Bool) (xs : List X) (i : ℕ) → length xs ≤ i → list_any q (take i xs) ≡ list_any q xs
any_whole q xs i h = ap (list_any q) (take_all xs i h)

pub map_push : {X Y : Type 0} (f : X → Y) (xs : List X) (x : X) → map f (xs ++ x ∷ []) ≡ map f xs ++ f x ∷ []
map_push f [] x = refl
map_push {X} {Y} f (y ∷ xs) x = ap (λ (zs : List Y). f y ∷ zs) (map_push f xs x)

pub map_more : {X Y : Type 0} (f : X → Y) (xs : List X) (i : ℕ) (x : X) → i < length xs → x ≡ get_or xs i x → map f (take (i + 1) xs) ≡ map f (take i xs) ++ f x ∷ []
map_more f xs i x h k = ap (map f) (one_more xs i x h k) ∙ map_push f (take i xs) x

pub length_push : {X : Type 0} (xs : List X) (x : X) → length (xs ++ x ∷ []) ≡ length xs + 1
length_push [] x = refl
length_push (y ∷ xs) x = omega (arith, length_push xs x)

-- ---- one entry more

pub variables_push : (es : List Entry) (e : Entry) → group_variables (es ++ e ∷ []) ≡ max (group_variables es) (e.lit.var + 1)
variables_push [] e = omega arith
variables_push (d ∷ es) e = omega (arith, variables_push es e)

pub variables_at : (es : List Entry) (i : ℕ) (e : Entry) → i < length es → e ≡ get_or es i e → e.lit.var < group_variables es
variables_at [] i e h k = absurd (omega arith)
variables_at (d ∷ es) zero e h k = let n : e.lit.var ≡ d.lit.var = ap (λ (x : Entry). x.lit.var) k in omega arith
variables_at (d ∷ es) (suc i) e h k = omega (arith, variables_at es i e (omega arith) k)

pub variables_more : (es : List Entry) (i : ℕ) (e : Entry) → i < length es → e ≡ get_or es i e → group_variables (take (i + 1) es) ≡ max (group_variables (take i es)) (e.lit.var + 1)
variables_more es i e h k = ap group_variables (one_more es i e h k) ∙ variables_push (take i es) e

pub holds_push : (v : ℕ → Bool) (es : List Entry) (e : Entry) (y : Value) → holds v (es ++ e ∷ []) y ≡ (holds v es y || (same e.value y && lit_true v e.lit))
holds_push v es e y = list_any-append (λ (d : Entry). same d.value y && lit_true v d.lit) es (e ∷ []) ∙ ends (holds v es y) (same e.value y && lit_true v e.lit)
  where
    ends : (a b : Bool) → a || (b || false) ≡ a || b
    ends true b = refl
    ends false true = refl
    ends false false = refl

-- what is held under a guard, and one entry more under it
pub share : (w g h s l : Bool) → (w || (g && h)) || (s && (g && l)) ≡ w || (g && (h || (s && l)))
share true g h s l = refl
share false true h s l = refl
share false false h true l = refl
share false false h false l = refl

-- whether an entry has a value, or its value is it
pub has_values : (es : List Entry) (x : Value) → list_any (λ e. same e.value x) es ≡ has (values_in es) x
has_values [] x = refl
has_values (e ∷ es) x = ap (λ b. same e.value x || b) (has_values es x)

-- ---- the literals of one value

pub any_lits_with : (v : ℕ → Bool) (es : List Entry) (x : Value) → list_any (lit_true v) (lits_with es x) ≡ holds v es x
any_lits_with v [] x = refl
any_lits_with v (e ∷ es) x =
    elim (same e.value x) as (λ b. list_any (lit_true v) (map (λ (d : Entry). d.lit) (cond b (e ∷ filter (λ d. same d.value x) es) (filter (λ d. same d.value x) es))) ≡ (b && lit_true v e.lit) || holds v es x) [
      | true ↦ rw (any_lits_with v es x) refl
      | false ↦ any_lits_with v es x
    ]

pub variables_lits_with : (es : List Entry) (x : Value) → clause_variables (lits_with es x) ≤ group_variables es
variables_lits_with [] x = omega arith
variables_lits_with (e ∷ es) x =
    elim (same e.value x) as (λ b. clause_variables (map (λ (d : Entry). d.lit) (cond b (e ∷ filter (λ d. same d.value x) es) (filter (λ d. same d.value x) es))) ≤ max (e.lit.var + 1) (group_variables es)) [
      | true ↦ omega (arith, variables_lits_with es x)
      | false ↦ omega (arith, variables_lits_with es x)
    ]

pub length_lits_with : (es : List Entry) (x : Value) → length (lits_with es x) ≤ length es
length_lits_with [] x = omega arith
length_lits_with (e ∷ es) x =
    elim (same e.value x) as (λ b. length (map (λ (d : Entry). d.lit) (cond b (e ∷ filter (λ d. same d.value x) es) (filter (λ d. same d.value x) es))) ≤ length (e ∷ es)) [
      | true ↦ omega (arith, length_lits_with es x)
      | false ↦ omega (arith, length_lits_with es x)
    ]

-- ---- the law of a group: what is asked of its value is asked of the entry whose literal is true

or_left : (a b : Bool) → a ≡ true → a || b ≡ true
or_left a b h = rw h refl

or_right : (a b : Bool) → b ≡ true → a || b ≡ true
or_right true b h = refl
or_right false b h = h

pick_within : (v : ℕ → Bool) (p : Value → Bool) (x : Value) (es : List Entry) → ((y : Value) → holds v es y ≡ true → same x y ≡ true)
    → list_any (λ e. p e.value && lit_true v e.lit) es ≡ (p x && holds v es x)
pick_within v p x [] only = none (p x)
  where
    none : (a : Bool) → false ≡ a && false
    none true = refl
    none false = refl
pick_within v p x (e ∷ es) only =
    let more = pick_within v p x es (λ y h. only y (or_right (same e.value y && lit_true v e.lit) (holds v es y) h)) in
    elim (lit_true v e.lit) as (λ b. lit_true v e.lit ≡ b → (p e.value && b) || list_any (λ d. p d.value && lit_true v d.lit) es ≡ p x && ((same e.value x && b) || holds v es x)) [
      | true ↦ λ t.
          let here : same e.value e.value && lit_true v e.lit ≡ true = rw (same_itself e.value, t) refl in
          let is : x ≡ e.value = same_is x e.value (only e.value (or_left _ (holds v es e.value) here)) in
          rw (more, sym is, same_itself x) (both_ways (p x) (holds v es x))
      | false ↦ λ t. rw more (neither (p e.value) (same e.value x) (p x) (holds v es x))
    ] refl
  where
    both_ways : (a h : Bool) → (a && true) || (a && h) ≡ a && true
    both_ways true h = refl
    both_ways false h = refl

    neither : (a s b h : Bool) → (a && false) || (b && h) ≡ b && ((s && false) || h)
    neither true true b h = refl
    neither true false b h = refl
    neither false true b h = refl
    neither false false b h = refl

-- a test of what an evaluation gives
abbrev pub passes : {A : Type 0} → (A → Bool) → Outcome A → Bool
passes p (Gives x) = p x
passes p (Needs l) = false

none_true : (v : ℕ → Bool) (p : Value → Bool) (es : List Entry) → ((y : Value) → holds v es y ≡ false) → list_any (λ e. p e.value && lit_true v e.lit) es ≡ false
none_true v p [] never = refl
none_true v p (e ∷ es) never =
    let here = never e.value in
    elim (lit_true v e.lit) as (λ b. lit_true v e.lit ≡ b → (p e.value && b) || list_any (λ d. p d.value && lit_true v d.lit) es ≡ false) [
      | true ↦ λ t. let there : same e.value e.value && lit_true v e.lit ≡ true = rw (same_itself e.value, t) refl in absurd (clash (same e.value e.value && lit_true v e.lit) (holds v es e.value) there here)
      | false ↦ λ t. both_false (p e.value) (list_any (λ d. p d.value && lit_true v d.lit) es) (none_true v p es (λ y. later (same e.value y && lit_true v e.lit) (holds v es y) (never y)))
    ] refl
  where
    clash : (a b : Bool) → a ≡ true → a || b ≡ false → ⊥
    clash true b h k = cc
    clash false b h k = cc

    later : (a b : Bool) → a || b ≡ false → b ≡ false
    later true b h = cc
    later false b h = h

    both_false : (a b : Bool) → b ≡ false → (a && false) || b ≡ false
    both_false true b h = h
    both_false false b h = h

-- what is asked of the value is asked of the entry whose literal is true
pub pick : (v : ℕ → Bool) (es : List Entry) (o : Outcome Value) (p : Value → Bool) → Means v es o → list_any (λ e. p e.value && lit_true v e.lit) es ≡ passes p o
pick v es (Gives x) p m =
    pick_within v p x es (λ y h. sym (m.at y) ∙ h) ∙ (rw (m.at x, same_itself x) (ends (p x)))
  where
    ends : (a : Bool) → a && true ≡ a
    ends true = refl
    ends false = refl
pick v es (Needs l) p m = none_true v p es (λ y. m.at y)

-- ---- a loop over the entries of a group, each with what follows from its value

pub record Follows (v : ℕ → Bool) (f : Value → Outcome Value) (bag seen : List Entry) : Type 0 where
  pub at : (y : Value) → holds v bag y ≡ list_any (λ e. is_gives y (f e.value) && lit_true v e.lit) seen

passes_then : (f : Value → Outcome Value) (y : Value) (o : Outcome Value) → passes (λ z. is_gives y (f z)) o ≡ is_gives y (and_then o f)
passes_then f y (Gives x) = refl
passes_then f y (Needs l) = refl

pub follows_end : (v : ℕ → Bool) (f : Value → Outcome Value) (bag group : List Entry) (i : ℕ) (o : Outcome Value) → length group ≤ i → Follows v f bag (take i group) → Means v group o → Means v bag (and_then o f)
follows_end v f bag group i o h k m = record {
  at = λ y.
      k.at y ∙ any_whole (λ (e : Entry). is_gives y (f e.value) && lit_true v e.lit) group i h ∙ pick v group o (λ z. is_gives y (f z)) m ∙ passes_then f y o;
}

pub follows_more : (v : ℕ → Bool) (f : Value → Outcome Value) (was now group : List Entry) (i : ℕ) (e : Entry) → i < length group → e ≡ get_or group i e → Follows v f was (take i group)
    → ((y : Value) → holds v now y ≡ (holds v was y || (is_gives y (f e.value) && lit_true v e.lit))) → Follows v f now (take (i + 1) group)
follows_more v f was now group i e h k x n = record {
  at = λ y.
      let q : Entry → Bool = λ d. is_gives y (f d.value) && lit_true v d.lit in
      n y ∙ ap (λ b. b || q e) (x.at y) ∙ sym (any_more q group i e h k);
}

-- what is added under a guard, of a group that means an outcome
pub under : (v : ℕ → Bool) (was now group : List Entry) (g : Bool) (o : Outcome Value) → ((y : Value) → holds v now y ≡ (holds v was y || (g && holds v group y))) → Means v group o
    → (y : Value) → holds v now y ≡ (holds v was y || (is_gives y o && g))
under v was now group g o x m y = x y ∙ ap (λ b. holds v was y || (g && b)) (m.at y) ∙ turn (holds v was y) g (is_gives y o)
  where
    turn : (a b c : Bool) → a || (b && c) ≡ a || (c && b)
    turn a true true = refl
    turn a true false = refl
    turn a false true = refl
    turn a false false = refl

-- one value alone
pub constant_means : (v : ℕ → Bool) (x : Value) (l : Lit) (es : List Entry) → (es ≡ (record { value = x; lit = l }) ∷ []) → lit_true v l ≡ true → Means v es (Gives x)
constant_means v x l es is t = record { at = λ y. rw (is, t) (ends (same x y)) }
  where
    ends : (a : Bool) → (a && true) || false ≡ a
    ends true = refl
    ends false = refl
