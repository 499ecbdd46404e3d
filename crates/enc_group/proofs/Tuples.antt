-- What tuples say, one after the other.
use Rattle.std.proofs.Common.{◌≡◌, ℕ, ◌+◌, ◌*◌, ◌<◌, ◌≤◌, suc, zero, List, [], ◌∷◌, ◌++◌, length, map, take, get_or, arith, rules, sym, ◌∙◌, Bool, true, false, ◌&&◌, ◌||◌, refl, ap, max, append_assoc, append-nil}
use Rattle.std.specs.List.{list_any}
use Rattle.std.proofs.lemmas.List.Folds.{list_any-append}
use Rattle.cnf_base.specs.declared.lit.Lit.{Lit}
use Rattle.cnf_base.specs.Clauses.{lit_true}
use Rattle.asm_domain.specs.declared.value.Value.{Value}
use Rattle.asm_node.specs.Values.{same, same_all}
use Rattle.asm_node.specs.Term.{Outcome, Gives, Needs, and_then}
use Rattle.asm_node.proofs.Sameness.{same_all_is, same_all_itself}
use Rattle.enc_group.specs.declared.group.Entry.{Entry}
use Rattle.enc_group.specs.declared.tuple.Tuple.{Tuple}
use Rattle.enc_group.specs.Group.{Means, is_gives}
use Rattle.enc_group.specs.Tuple.{MeansAll, holds_all, are_given, tuples_in, tuple_variables, products}
use Rattle.enc_group.proofs.Groups.{passes, pick, one_more, any_whole, map_more}

pub tuple_variables_push : (ts : List Tuple) (t : Tuple) → tuple_variables (ts ++ t ∷ []) ≡ max (tuple_variables ts) (t.lit.var + 1)
tuple_variables_push [] t = omega arith
tuple_variables_push (s ∷ ts) t = omega (arith, tuple_variables_push ts t)

pub tuple_variables_at : (ts : List Tuple) (i : ℕ) (t : Tuple) → i < length ts → t ≡ get_or ts i t → t.lit.var < tuple_variables ts
tuple_variables_at [] i t h k = absurd (omega arith)
tuple_variables_at (s ∷ ts) zero t h k = let n : t.lit.var ≡ s.lit.var = ap (λ (x : Tuple). x.lit.var) k in omega arith
tuple_variables_at (s ∷ ts) (suc i) t h k = omega (arith, tuple_variables_at ts i t (omega arith) k)

pub tuple_variables_more : (ts : List Tuple) (i : ℕ) (t : Tuple) → i < length ts → t ≡ get_or ts i t → tuple_variables (take (i + 1) ts) ≡ max (tuple_variables (take i ts)) (t.lit.var + 1)
tuple_variables_more ts i t h k = ap tuple_variables (one_more ts i t h k) ∙ tuple_variables_push (take i ts) t

pub holds_all_push : (v : ℕ → Bool) (ts : List Tuple) (t : Tuple) (ys : List Value) → holds_all v (ts ++ t ∷ []) ys ≡ (holds_all v ts ys || (same_all t.values ys && lit_true v t.lit))
holds_all_push v ts t ys = list_any-append (λ (s : Tuple). same_all s.values ys && lit_true v s.lit) ts (t ∷ []) ∙ ends (holds_all v ts ys) (same_all t.values ys && lit_true v t.lit)
  where
    ends : (a b : Bool) → a || (b || false) ≡ a || b
    ends true b = refl
    ends false true = refl
    ends false false = refl

-- ---- the law of tuples: what is asked of the values is asked of the tuple whose literal is true

or_left : (a b : Bool) → a ≡ true → a || b ≡ true
or_left a b h = rw h refl

or_right : (a b : Bool) → b ≡ true → a || b ≡ true
or_right true b h = refl
or_right false b h = h

pick_within : (v : ℕ → Bool) (p : List Value → Bool) (x : List Value) (es : List Tuple) → ((y : List Value) → holds_all v es y ≡ true → same_all x y ≡ true)
    → list_any (λ e. p e.values && lit_true v e.lit) es ≡ (p x && holds_all v es x)
pick_within v p x [] only = none (p x)
  where
    none : (a : Bool) → false ≡ a && false
    none true = refl
    none false = refl
pick_within v p x (e ∷ es) only =
    let more = pick_within v p x es (λ y h. only y (or_right (same_all e.values y && lit_true v e.lit) (holds_all v es y) h)) in
    elim (lit_true v e.lit) as (λ b. lit_true v e.lit ≡ b → (p e.values && b) || list_any (λ d. p d.values && lit_true v d.lit) es ≡ p x && ((same_all e.values x && b) || holds_all v es x)) [
      | true ↦ λ t.
          let here : same_all e.values e.values && lit_true v e.lit ≡ true = rw (same_all_itself e.values, t) refl in
          let is : x ≡ e.values = same_all_is x e.values (only e.values (or_left _ (holds_all v es e.values) here)) in
          rw (more, sym is, same_all_itself x) (both_ways (p x) (holds_all v es x))
      | false ↦ λ t. rw more (neither (p e.values) (same_all e.values x) (p x) (holds_all v es x))
    ] refl
  where
    both_ways : (a h : Bool) → (a && true) || (a && h) ≡ a && true
    both_ways true h = refl
    both_ways false h = refl

    neither : (a s b h : Bool) → (a && false) || (b && h) ≡ b && ((s && false) || h)
    neither true true b h = refl
    neither true false b h = refl
    neither false true b h = refl
    neither false false b h = refl

none_true : (v : ℕ → Bool) (p : List Value → Bool) (es : List Tuple) → ((y : List Value) → holds_all v es y ≡ false) → list_any (λ e. p e.values && lit_true v e.lit) es ≡ false
none_true v p [] never = refl
none_true v p (e ∷ es) never =
    let here = never e.values in
    elim (lit_true v e.lit) as (λ b. lit_true v e.lit ≡ b → (p e.values && b) || list_any (λ d. p d.values && lit_true v d.lit) es ≡ false) [
      | true ↦ λ t. let there : same_all e.values e.values && lit_true v e.lit ≡ true = rw (same_all_itself e.values, t) refl in absurd (clash (same_all e.values e.values && lit_true v e.lit) (holds_all v es e.values) there here)
      | false ↦ λ t. both_false (p e.values) (list_any (λ d. p d.values && lit_true v d.lit) es) (none_true v p es (λ y. later (same_all e.values y && lit_true v e.lit) (holds_all v es y) (never y)))
    ] refl
  where
    clash : (a b : Bool) → a ≡ true → a || b ≡ false → ⊥
    clash true b h k = cc
    clash false b h k = cc

    later : (a b : Bool) → a || b ≡ false → b ≡ false
    later true b h = cc
    later false b h = h

    both_false : (a b : Bool) → b ≡ false → (a && false) || b ≡ false
    both_false true b h = h
    both_false false b h = h

pub pick_all : (v : ℕ → Bool) (es : List Tuple) (o : Outcome (List Value)) (p : List Value → Bool) → MeansAll v es o → list_any (λ e. p e.values && lit_true v e.lit) es ≡ passes p o
pick_all v es (Gives x) p m =
    pick_within v p x es (λ y h. sym (m.at y) ∙ h) ∙ (rw (m.at x, same_all_itself x) (ends (p x)))
  where
    ends : (a : Bool) → a && true ≡ a
    ends true = refl
    ends false = refl
pick_all v es (Needs l) p m = none_true v p es (λ y. m.at y)

-- ---- one value more behind each tuple

-- what the values of a tuple and one more are
abbrev pub behind : Outcome Value → List Value → Outcome (List Value)
behind o vs = and_then o (λ x. Gives (vs ++ x ∷ []))

pub passes_behind : (ys vs : List Value) (o : Outcome Value) → passes (λ x. same_all (vs ++ x ∷ []) ys) o ≡ are_given ys (behind o vs)
passes_behind ys vs (Gives x) = refl
passes_behind ys vs (Needs l) = refl

given_then : (ys : List Value) (f : List Value → Outcome (List Value)) (os : Outcome (List Value)) → passes (λ vs. are_given ys (f vs)) os ≡ are_given ys (and_then os f)
given_then ys f (Gives xs) = refl
given_then ys f (Needs l) = refl

pub gives_then : (y : Value) (f : List Value → Outcome Value) (os : Outcome (List Value)) → passes (λ vs. is_gives y (f vs)) os ≡ is_gives y (and_then os f)
gives_then y f (Gives xs) = refl
gives_then y f (Needs l) = refl

-- all tuples together
pub times_end : (v : ℕ → Bool) (all tuples : List Tuple) (i : ℕ) (os : Outcome (List Value)) (o : Outcome Value) → length tuples ≤ i → MeansAll v tuples os
    → ((ys : List Value) → holds_all v all ys ≡ list_any (λ t. are_given ys (behind o t.values) && lit_true v t.lit) (take i tuples)) → MeansAll v all (and_then os (behind o))
times_end v all tuples i os o h m k = record {
  at = λ ys.
      k ys ∙ any_whole (λ (t : Tuple). are_given ys (behind o t.values) && lit_true v t.lit) tuples i h
      ∙ pick_all v tuples os (λ vs. are_given ys (behind o vs)) m ∙ given_then ys (behind o) os;
}

-- what follows from each tuple
pub tuples_end : (v : ℕ → Bool) (f : List Value → Outcome Value) (bag : List Entry) (tuples : List Tuple) (i : ℕ) (o : Outcome (List Value)) → length tuples ≤ i → MeansAll v tuples o
    → ((y : Value) → list_any (λ e. same e.value y && lit_true v e.lit) bag ≡ list_any (λ t. is_gives y (f t.values) && lit_true v t.lit) (take i tuples)) → Means v bag (and_then o f)
tuples_end v f bag tuples i o h m k = record {
  at = λ y.
      k y ∙ any_whole (λ (t : Tuple). is_gives y (f t.values) && lit_true v t.lit) tuples i h
      ∙ pick_all v tuples o (λ vs. is_gives y (f vs)) m ∙ gives_then y f o;
}

-- each value of a group alone
pub singles_end : (v : ℕ → Bool) (all : List Tuple) (group : List Entry) (i : ℕ) (o : Outcome Value) → length group ≤ i → Means v group o
    → ((ys : List Value) → holds_all v all ys ≡ list_any (λ e. same_all (e.value ∷ []) ys && lit_true v e.lit) (take i group)) → MeansAll v all (and_then o (λ x. Gives (x ∷ [])))
singles_end v all group i o h m k = record {
  at = λ ys.
      k ys ∙ any_whole (λ (e : Entry). same_all (e.value ∷ []) ys && lit_true v e.lit) group i h
      ∙ pick v group o (λ x. same_all (x ∷ []) ys) m ∙ passes_behind ys [] o;
}

-- the empty tuple
pub one_empty : (v : ℕ → Bool) (l : Lit) (ts : List Tuple) (vs : List Value) → (ts ≡ (record { values = vs; lit = l }) ∷ []) → vs ≡ [] → lit_true v l ≡ true → MeansAll v ts (Gives [])
one_empty v l ts vs is none t = record { at = λ ys. rw (is, t, none) (ends (same_all [] ys)) }
  where
    ends : (a : Bool) → (a && true) || false ≡ a
    ends true = refl
    ends false = refl

-- ---- the values of products

products_push : (vss : List (List Value)) (vs : List Value) (xs : List Value) → products (vss ++ vs ∷ []) xs ≡ products vss xs ++ map (λ x. vs ++ x ∷ []) xs
products_push [] vs xs = append-nil (map (λ x. vs ++ x ∷ []) xs)
products_push (us ∷ vss) vs xs =
    ap (λ (zs : List (List Value)). map (λ x. us ++ x ∷ []) xs ++ zs) (products_push vss vs xs)
    ∙ sym (append_assoc (map (λ x. us ++ x ∷ []) xs) (products vss xs) (map (λ x. vs ++ x ∷ []) xs))

pub products_more : (ts : List Tuple) (xs : List Value) (i : ℕ) (t : Tuple) → i < length ts → t ≡ get_or ts i t
    → products (tuples_in (take (i + 1) ts)) xs ≡ products (tuples_in (take i ts)) xs ++ map (λ x. t.values ++ x ∷ []) xs
products_more ts xs i t h k =
    ap (λ vss. products vss xs) (map_more (λ (s : Tuple). s.values) ts i t h k) ∙ products_push (tuples_in (take i ts)) t.values xs

length_append : {X : Type 0} (xs ys : List X) → length (xs ++ ys) ≡ length xs + length ys
length_append [] ys = omega arith
length_append (x ∷ xs) ys = omega (arith, length_append xs ys)

length_map : {X Y : Type 0} (f : X → Y) (xs : List X) → length (map f xs) ≡ length xs
length_map f [] = refl
length_map f (x ∷ xs) = omega (arith, length_map f xs)

rows : (n k : ℕ) → suc n * k ≡ k + n * k
rows n k = search (rules, arith)

-- there are as many as the product of both numbers
pub length_products : (vss : List (List Value)) (xs : List Value) → length (products vss xs) ≡ length vss * length xs
length_products [] xs = omega arith
length_products (vs ∷ vss) xs =
    length_append (map (λ x. vs ++ x ∷ []) xs) (products vss xs)
    ∙ omega (arith, length_map (λ (x : Value). vs ++ x ∷ []) xs, length_products vss xs, rows (length vss) (length xs))

pub more_rows : (i n : ℕ) → (i + 1) * n ≡ i * n + n
more_rows i n = search (rules, arith)

-- fewer rows are not more
pub rows_up : (i j n : ℕ) → i ≤ j → i * n ≤ j * n
rows_up i zero n h = let e : i ≡ 0 = omega (arith, h) in let f : i * n ≡ 0 * n = ap (λ k. k * n) e in omega (arith, f)
rows_up zero (suc j) n h = omega arith
rows_up (suc i) (suc j) n h = omega (arith, rows i n, rows j n, rows_up i j n (omega (arith, h)))
