-- One literal for each value of a bag, one value after the other.
use Rattle.std.proofs.Common.{◌≡◌, ℕ, zero, suc, ◌+◌, ◌*◌, ◌<◌, ◌≤◌, List, [], ◌∷◌, ◌++◌, length, take, get_or, arith, sym, ◌∙◌, Bool, true, false, not, ◌&&◌, ◌||◌, refl, ap, max, cond}
use Rattle.std.specs.List.{list_any}
use Rattle.cnf_base.specs.declared.lit.Lit.{Lit}
use Rattle.cnf_base.specs.Clauses.{lit_true}
use Rattle.cnf_gate.specs.Built.{Built}
use Rattle.asm_domain.specs.declared.value.Value.{Value}
use Rattle.asm_node.specs.Values.{same}
use Rattle.asm_node.specs.Term.{Outcome}
use Rattle.asm_node.proofs.Sameness.{same_is}
use Rattle.enc_group.specs.declared.group.Entry.{Entry}
use Rattle.enc_group.specs.Group.{Holds, Means, holds, has, once, values_in, group_variables, lits_with}
use Rattle.enc_group.specs.Merging.{Merges, added, fresh, covered}
use Rattle.enc_group.proofs.Groups.{holds_push, variables_push, any_lits_with, map_push, map_more, take_all}
use Rattle.enc_group.proofs.Onces.{has_once, has_push, once_push, length_added, covered_push}

-- ---- one value

or_none : (a b : Bool) → b ≡ false → a ≡ a || b
or_none true b h = refl
or_none false b h = sym h

-- where the value is there nothing is added
pub merges_there : (new : Built) (group bag : List Entry) (x : Value) → has (values_in group) x ≡ true → group_variables group ≤ new.count → Merges new group group bag x
merges_there new group bag x h k = record {
  means = λ v t y. or_none (holds v group y) _ (ap (λ b. not b && (same x y && holds v bag y)) h);
  values = ap (λ b. cond b (values_in group) (values_in group ++ x ∷ [])) (sym h);
  within = k;
}

pub merges_new : (new : Built) (group now bag : List Entry) (x : Value) (l : Lit) → has (values_in group) x ≡ false → group_variables group ≤ new.count → l.var < new.count
    → ((v : ℕ → Bool) → Holds v new → lit_true v l ≡ list_any (lit_true v) (lits_with bag x)) → (now ≡ group ++ (record { value = x; lit = l }) ∷ []) → Merges new group now bag x
merges_new new group now bag x l none w lw m is =
    let e : Entry = record { value = x; lit = l } in
    record {
      means = λ v t y.
          ap (λ es. holds v es y) is ∙ holds_push v group e y
          ∙ ap (λ b. holds v group y || (same x y && b)) (m v t ∙ any_lits_with v bag x)
          ∙ here v y
          ∙ ap (λ b. holds v group y || (not b && (same x y && holds v bag y))) (sym none);
      values = ap values_in is ∙ map_push (λ (d : Entry). d.value) group e ∙ ap (λ b. cond b (values_in group) (values_in group ++ x ∷ [])) (sym none);
      within = let is_max : group_variables now ≡ max (group_variables group) (l.var + 1) = ap group_variables is ∙ variables_push group e in omega (arith, is_max, w, lw);
    }
  where
    here : (v : ℕ → Bool) (y : Value) → holds v group y || (same x y && holds v bag x) ≡ holds v group y || (true && (same x y && holds v bag y))
    here v y =
        elim (same x y) as (λ b. same x y ≡ b → holds v group y || (b && holds v bag x) ≡ holds v group y || (true && (b && holds v bag y))) [
          | true ↦ λ q. ap (λ z. holds v group y || holds v bag z) (same_is x y q)
          | false ↦ λ q. refl
        ] refl

-- ---- the values of the first entries

-- what holds of the group after some entries of the bag
pub record Merged (b : Built) (group bag seen : List Entry) : Type 0 where
  pub means : (v : ℕ → Bool) → Holds v b → (y : Value) → holds v group y ≡ (has (values_in seen) y && holds v bag y)
  pub values : values_in group ≡ once (values_in seen)
  pub within : group_variables group ≤ b.count

values_more : (bag : List Entry) (i : ℕ) (e : Entry) → i < length bag → e ≡ get_or bag i e → values_in (take (i + 1) bag) ≡ values_in (take i bag) ++ e.value ∷ []
values_more bag i e h k = map_more (λ (d : Entry). d.value) bag i e h k

pub merged_more : (mid new : Built) (group now bag : List Entry) (i : ℕ) (e : Entry) → ((v : ℕ → Bool) → Holds v new → Holds v mid) → Merged mid group bag (take i bag) → i < length bag → e ≡ get_or bag i e
    → Merges new group now bag e.value → Merged new now bag (take (i + 1) bag)
merged_more mid new group now bag i e back x h k m =
    let seen = values_more bag i e h k in
    let told : has (values_in group) e.value ≡ has (values_in (take i bag)) e.value = ap (λ xs. has xs e.value) x.values ∙ has_once (values_in (take i bag)) e.value in
    record {
      means = λ v t y.
          m.means v t y
          ∙ ap (λ b. b || (not (has (values_in group) e.value) && (same e.value y && holds v bag y))) (x.means v (back v t) y)
          ∙ ap (λ b. (has (values_in (take i bag)) y && holds v bag y) || (not b && (same e.value y && holds v bag y))) told
          ∙ join v y
          ∙ ap (λ b. b && holds v bag y) (sym (ap (λ xs. has xs y) seen ∙ has_push (values_in (take i bag)) e.value y));
      values = m.values ∙ ap (λ xs. added xs e.value) x.values ∙ sym (once_push (values_in (take i bag)) e.value) ∙ ap once (sym seen);
      within = m.within;
    }
  where
    split : (h g : Bool) → (h && g) || (not h && (true && g)) ≡ (h || true) && g
    split true true = refl
    split true false = refl
    split false g = refl

    other : (h n g : Bool) → (h && g) || (n && (false && g)) ≡ (h || false) && g
    other true true true = refl
    other true true false = refl
    other true false true = refl
    other true false false = refl
    other false true g = refl
    other false false g = refl

    join : (v : ℕ → Bool) (y : Value) → (has (values_in (take i bag)) y && holds v bag y) || (not (has (values_in (take i bag)) e.value) && (same e.value y && holds v bag y)) ≡ (has (values_in (take i bag)) y || same e.value y) && holds v bag y
    join v y =
        elim (same e.value y) as (λ b. same e.value y ≡ b → (has (values_in (take i bag)) y && holds v bag y) || (not (has (values_in (take i bag)) e.value) && (b && holds v bag y)) ≡ (has (values_in (take i bag)) y || b) && holds v bag y) [
          | true ↦ λ q. ap (λ z. (has (values_in (take i bag)) y && holds v bag y) || (not (has (values_in (take i bag)) z) && (true && holds v bag y))) (same_is e.value y q) ∙ split (has (values_in (take i bag)) y) (holds v bag y)
          | false ↦ λ q. other (has (values_in (take i bag)) y) (not (has (values_in (take i bag)) e.value)) (holds v bag y)
        ] refl

held_value : (v : ℕ → Bool) (bag : List Entry) (y : Value) → has (values_in bag) y && holds v bag y ≡ holds v bag y
held_value v [] y = refl
held_value v (e ∷ es) y = join (same e.value y) (lit_true v e.lit) (has (values_in es) y) (holds v es y) (held_value v es y)
  where
    join : (s l a h : Bool) → a && h ≡ h → (s || a) && ((s && l) || h) ≡ (s && l) || h
    join true l a h k = refl
    join false l a h k = k

pub merged_means : (b : Built) (group bag : List Entry) (i : ℕ) → length bag ≤ i → Merged b group bag (take i bag) → (v : ℕ → Bool) → Holds v b → (o : Outcome Value) → Means v bag o → Means v group o
merged_means b group bag i h m v t o is = record {
  at = λ y. m.means v t y ∙ ap (λ es. has (values_in es) y && holds v bag y) (take_all bag i h) ∙ held_value v bag y ∙ is.at y;
}

-- ---- the numbers

-- the values of the first entries, and one more
pub once_more : (bag : List Entry) (i : ℕ) (e : Entry) → i < length bag → e ≡ get_or bag i e
    → length (once (values_in (take (i + 1) bag))) ≡ length (once (values_in (take i bag))) + fresh (once (values_in (take i bag))) e.value
once_more bag i e h k =
    ap (λ (xs : List Value). length (once xs)) (values_more bag i e h k)
    ∙ ap (λ (xs : List Value). length xs) (once_push (values_in (take i bag)) e.value)
    ∙ length_added (once (values_in (take i bag))) e.value

-- the values of the first entries are not more than those of all
pub once_fewer : (xs ys : List Value) → length (once xs) ≤ length (once (xs ++ ys))
once_fewer xs [] = let e : xs ++ [] ≡ xs = unit xs in let f : length (once (xs ++ [])) ≡ length (once xs) = ap (λ (zs : List Value). length (once zs)) e in omega (arith, f)
  where
    unit : (xs : List Value) → xs ++ [] ≡ xs
    unit [] = refl
    unit (x ∷ xs) = ap (λ (zs : List Value). x ∷ zs) (unit xs)
once_fewer xs (y ∷ ys) =
    let e : xs ++ y ∷ ys ≡ (xs ++ y ∷ []) ++ ys = assoc xs ys in
    let f : length (once (xs ++ y ∷ ys)) ≡ length (once ((xs ++ y ∷ []) ++ ys)) = ap (λ (zs : List Value). length (once zs)) e in
    let one : length (once (xs ++ y ∷ [])) ≡ length (once xs) + fresh (once xs) y = ap (λ (zs : List Value). length zs) (once_push xs y) ∙ length_added (once xs) y in
    omega (arith, f, one, once_fewer (xs ++ y ∷ []) ys)
  where
    assoc : (xs ys : List Value) → xs ++ y ∷ ys ≡ (xs ++ y ∷ []) ++ ys
    assoc [] ys = refl
    assoc (x ∷ xs) ys = ap (λ (zs : List Value). x ∷ zs) (assoc xs ys)

split_at : (bag : List Entry) (i : ℕ) → (rest : List Value) × (values_in bag ≡ values_in (take i bag) ++ rest)
split_at [] zero = ([], refl)
split_at [] (suc i) = ([], refl)
split_at (e ∷ bag) zero = (values_in (e ∷ bag), refl)
split_at (e ∷ bag) (suc i) = let s = split_at bag i in (s.0, ap (λ (zs : List Value). e.value ∷ zs) s.1)

pub once_few : (bag : List Entry) (i : ℕ) → length (once (values_in (take i bag))) ≤ length (once (values_in bag))
once_few bag i =
    let s = split_at bag i in
    let f : length (once (values_in bag)) ≡ length (once (values_in (take i bag) ++ s.0)) = ap (λ (zs : List Value). length (once zs)) s.1 in
    omega (arith, f, once_fewer (values_in (take i bag)) s.0)

-- the entries that one more value covers
pub covered_more : (bag : List Entry) (xs : List Value) (x : Value)
    → 3 * covered bag xs + fresh xs x * (3 * length (lits_with bag x) + 1) + length xs ≡ 3 * covered bag (added xs x) + length (added xs x)
covered_more bag xs x =
    elim (has xs x) as (λ b. has xs x ≡ b → 3 * covered bag xs + cond b 0 1 * (3 * length (lits_with bag x) + 1) + length xs ≡ 3 * covered bag (cond b xs (xs ++ x ∷ [])) + length (cond b xs (xs ++ x ∷ []))) [
      | true ↦ λ h. omega arith
      | false ↦ λ h. omega (arith, covered_push bag xs x h, length_push xs x)
    ] refl
  where
    length_push : (xs : List Value) (x : Value) → length (xs ++ x ∷ []) ≡ length xs + 1
    length_push [] x = refl
    length_push (y ∷ xs) x = omega (arith, length_push xs x)
