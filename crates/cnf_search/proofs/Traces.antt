-- One more entry of a trail.
use Rattle.std.proofs.Common.{◌≡◌, ℕ, ◌+◌, ◌<◌, ◌≤◌, suc, zero, List, [], ◌∷◌, ◌++◌, length, take, map, get_or, slice_get, arith, subst, sym, ◌∙◌, Option, Some, None, Bool, true, false, cond, eqb, not, ◌&&◌, ◌||◌, refl, ap, length-append, append_assoc}
use Rattle.std.specs.Prelude.{is_some}
use Rattle.std.specs.List.{list_all}
use Rattle.std.proofs.lemmas.Bool.Decides.{Decides-eqb}
use Rattle.cnf_base.specs.declared.lit.Lit.{Lit}
use Rattle.cnf_base.specs.Clauses.{is_same, has, clause_variables}
use Rattle.cnf_base.specs.Known.{Partial, is_true, is_false, made_true, value_of}
use Rattle.cnf_base.specs.Derivation.{rest, only, lone}
use Rattle.cnf_base.proofs.Sound.{and_true, beq_refl, some_same}
use Rattle.cnf_base.proofs.Told.{value_of-push_all}
use Rattle.cnf_check.proofs.Scan.{only_is}
use Rattle.cnf_search.proofs.Accepted.{same_parts}
use Rattle.cnf_search.specs.Trails.{Entry, IsReason, Why, Explained, after, values, nothing, entries_of, IsTrace, Grows}

pub explained_push : (cs : List (List Lit)) (p : Partial) (es : List Entry) (e : Entry) → Explained cs p es → Why cs (after p es) e.reason e.lit → Explained cs p (es ++ e ∷ [])
explained_push cs p [] e x w = (w, tt)
explained_push cs p (y ∷ es) e x w = (x.0, explained_push cs (made_true p y.lit) es e x.1 w)

pub after_push : (p : Partial) (es : List Entry) (e : Entry) → after p (es ++ e ∷ []) ≡ made_true (after p es) e.lit
after_push p [] e = refl
after_push p (y ∷ es) e = after_push (made_true p y.lit) es e

pub entries_of-push : (ls : List Lit) (rs : List (Option ℕ)) (l : Lit) (r : Option ℕ) → length rs ≡ length ls
    → entries_of (ls ++ l ∷ []) (rs ++ r ∷ []) ≡ entries_of ls rs ++ (record { lit = l; reason = r }) ∷ []
entries_of-push [] [] l r h = refl
entries_of-push [] (s ∷ rs) l r h = absurd (omega arith)
entries_of-push (m ∷ ls) [] l r h = absurd (omega arith)
entries_of-push (m ∷ ls) (s ∷ rs) l r h = ap (λ (z : List Entry). (record { lit = m; reason = s }) ∷ z) (entries_of-push ls rs l r (omega arith))

pub length-entries_of : (ls : List Lit) (rs : List (Option ℕ)) → length rs ≡ length ls → length (entries_of ls rs) ≡ length ls
length-entries_of [] rs h = refl
length-entries_of (m ∷ ls) [] h = absurd (omega arith)
length-entries_of (m ∷ ls) (s ∷ rs) h = omega (arith, length-entries_of ls rs (omega arith))

pub take_all : {X : Type 0} (xs : List X) (n : ℕ) → length xs ≤ n → take n xs ≡ xs
take_all [] zero h = refl
take_all [] (suc n) h = refl
take_all (x ∷ xs) zero h = absurd (omega arith)
take_all {X = X} (x ∷ xs) (suc n) h = ap (λ (z : List X). x ∷ z) (take_all xs n (omega arith))

pub take_front : {X : Type 0} (xs ys : List X) (n : ℕ) → n ≤ length xs → take n (xs ++ ys) ≡ take n xs
take_front [] [] zero h = refl
take_front [] (y ∷ ys) zero h = refl
take_front (x ∷ xs) ys zero h = refl
take_front [] ys (suc n) h = absurd (omega arith)
take_front {X = X} (x ∷ xs) ys (suc n) h = ap (λ (z : List X). x ∷ z) (take_front xs ys n (omega arith))

pub take_take : {X : Type 0} (xs : List X) (m n : ℕ) → m ≤ n → take m (take n xs) ≡ take m xs
take_take [] zero zero h = refl
take_take [] zero (suc n) h = refl
take_take [] (suc m) zero h = refl
take_take [] (suc m) (suc n) h = refl
take_take (x ∷ xs) zero zero h = refl
take_take (x ∷ xs) zero (suc n) h = refl
take_take (x ∷ xs) (suc m) zero h = absurd (omega arith)
take_take {X = X} (x ∷ xs) (suc m) (suc n) h = ap (λ (z : List X). x ∷ z) (take_take xs m n (omega arith))

pub length_take : {X : Type 0} (xs : List X) (n : ℕ) → n ≤ length xs → length (take n xs) ≡ n
length_take [] zero h = refl
length_take [] (suc n) h = absurd (omega arith)
length_take (x ∷ xs) zero h = refl
length_take (x ∷ xs) (suc n) h = omega (arith, length_take xs n (omega arith))

pub IsTrace-push : (ls : List Lit) (rs : List (Option ℕ)) (size : ℕ) (l : Lit) (r : Option ℕ) → IsTrace ls rs size → value_of ls l.var ≡ None
    → IsTrace (ls ++ l ∷ []) (rs ++ r ∷ []) size
IsTrace-push ls rs size l r t fresh = record {
  paired = omega (arith, t.paired, length-append ls (l ∷ []), length-append rs (r ∷ []));
  agree = whole;
  fronts = λ n k. elim (eqb n (length ls + 1)) as (λ b. eqb n (length ls + 1) ≡ b → values (entries_of (take n (ls ++ l ∷ [])) (take n (rs ++ r ∷ []))) ≡ value_of (take n (ls ++ l ∷ []))) [
    | true ↦ λ e.
        let all : n ≡ length ls + 1 = (Decides-eqb n (length ls + 1)).0 e in
        let a : take n (ls ++ l ∷ []) ≡ ls ++ l ∷ [] = take_all (ls ++ l ∷ []) n (omega (arith, length-append ls (l ∷ []))) in
        let b : take n (rs ++ r ∷ []) ≡ rs ++ r ∷ [] = take_all (rs ++ r ∷ []) n (omega (arith, t.paired, length-append rs (r ∷ []))) in
        (λ i. values (entries_of (a i) (b i))) ∙ (whole ∙ ap value_of (sym a))
    | false ↦ λ e.
        let less : n ≤ length ls = below n (length ls) e (omega (arith, length-append ls (l ∷ []))) in
        let a : take n (ls ++ l ∷ []) ≡ take n ls = take_front ls (l ∷ []) n less in
        let b : take n (rs ++ r ∷ []) ≡ take n rs = take_front rs (r ∷ []) n (omega (arith, t.paired)) in
        (λ i. values (entries_of (a i) (b i))) ∙ (t.fronts n less ∙ ap value_of (sym a))
  ] refl;
}
  where
    whole : values (entries_of (ls ++ l ∷ []) (rs ++ r ∷ [])) ≡ value_of (ls ++ l ∷ [])
    whole =
        ap values (entries_of-push ls rs l r t.paired)
        ∙ (after_push nothing (entries_of ls rs) (record { lit = l; reason = r })
        ∙ (ap (λ (p : Partial). made_true p l) t.agree ∙ sym (value_of-push_all ls l fresh)))

    below : (n m : ℕ) → eqb n (m + 1) ≡ false → n ≤ m + 1 → n ≤ m
    below n m e k = grind (arith, Decides-eqb)

pub IsTrace-take : (ls : List Lit) (rs : List (Option ℕ)) (size n : ℕ) → IsTrace ls rs size → n ≤ length ls → IsTrace (take n ls) (take n rs) size
IsTrace-take ls rs size n t h = record {
  paired = length_take rs n (omega (arith, t.paired)) ∙ sym (length_take ls n h);
  agree = t.fronts n h;
  fronts = λ m k.
      let a : take m (take n ls) ≡ take m ls = take_take ls m n (omega (arith, length_take ls n h)) in
      let b : take m (take n rs) ≡ take m rs = take_take rs m n (omega (arith, length_take ls n h)) in
      (λ i. values (entries_of (a i) (b i))) ∙ (t.fronts m (omega (arith, length_take ls n h)) ∙ ap value_of (sym a));
}

pub entries_of-front : (ls : List Lit) (rs : List (Option ℕ)) (n : ℕ) → entries_of (take n ls) (take n rs) ≡ take n (entries_of ls rs)
entries_of-front ls rs zero = none ls rs
  where
    none : (ls : List Lit) (rs : List (Option ℕ)) → entries_of (take 0 ls) (take 0 rs) ≡ take 0 (entries_of ls rs)
    none [] rs = refl
    none (m ∷ ls) [] = refl
    none (m ∷ ls) (s ∷ rs) = refl
entries_of-front [] rs (suc n) = refl
entries_of-front (m ∷ ls) [] (suc n) = refl
entries_of-front (m ∷ ls) (s ∷ rs) (suc n) = ap (λ (z : List Entry). (record { lit = m; reason = s }) ∷ z) (entries_of-front ls rs n)

pub Grows-none : (es : List Entry) → Grows es es
Grows-none es = record { more = []; joined = ends es; implied = refl }
  where
    ends : (xs : List Entry) → xs ≡ xs ++ []
    ends [] = refl
    ends (x ∷ xs) = ap (λ (z : List Entry). x ∷ z) (ends xs)

pub Grows-push : (old now new : List Entry) (l : Lit) (n : ℕ) → Grows old now → new ≡ now ++ (record { lit = l; reason = Some n }) ∷ [] → Grows old new
Grows-push old now new l n g e = record {
  more = g.more ++ (record { lit = l; reason = Some n }) ∷ [];
  joined = e ∙ (ap (λ (z : List Entry). z ++ (record { lit = l; reason = Some n }) ∷ []) g.joined ∙ append_assoc old g.more ((record { lit = l; reason = Some n }) ∷ []));
  implied = all_push g.more g.implied;
}
  where
    all_push : (xs : List Entry) → list_all (λ e. is_some e.reason) xs ≡ true → list_all (λ e. is_some e.reason) (xs ++ (record { lit = l; reason = Some n }) ∷ []) ≡ true
    all_push [] h = refl
    all_push (x ∷ xs) h =
        let s = and_true (is_some x.reason) (list_all (λ e. is_some e.reason) xs) h in
        rw s.0 (all_push xs s.1)

-- the lone literal of a clause has the clause as its reason
pub lone_is_reason : (p : Partial) (c : List Lit) (l : Lit) → lone p c ≡ Some l → IsReason p c l
lone_is_reason p c l h = record { others = others (rest p c) refl h; there = there; open_yet = (only_is p c l h).0 }
  where
    or_true : (b : Bool) → b || true ≡ true
    or_true true = refl
    or_true false = refl

    same_self : (m : Lit) → is_same m m ≡ true
    same_self m = rw ((Decides-eqb m.var m.var).1 refl) (beq_refl m.positive)

    -- the literal and those after it are the same
    all_same : (ls : List Lit) → only p ls ≡ Some l → list_all (is_same l) ls ≡ true
    all_same [] k = cc
    all_same (m ∷ ls) k =
        elim (not (is_true p m) && list_all (is_same m) ls) as (λ b. not (is_true p m) && list_all (is_same m) ls ≡ b → cond b (Some m) None ≡ Some l → list_all (is_same l) (m ∷ ls) ≡ true) [
          | true ↦ λ t e.
              let s = and_true (not (is_true p m)) (list_all (is_same m) ls) t in
              let same : m ≡ l = some_same m l e in
              let P : Lit → Type 0 = λ x. list_all (is_same x) (m ∷ ls) ≡ true in
              subst P same (rw (same_self m) s.1)
          | false ↦ λ _ e. cc
        ] refl k

    spread : (c : List Lit) → list_all (is_same l) (rest p c) ≡ true → list_all (λ m. is_same l m || is_false p m) c ≡ true
    spread [] k = refl
    spread (m ∷ c) k =
        elim (is_false p m) as (λ b. list_all (is_same l) (cond (not b) (m ∷ rest p c) (rest p c)) ≡ true → (is_same l m || b) && list_all (λ m. is_same l m || is_false p m) c ≡ true) [
          | true ↦ λ j. rw (or_true (is_same l m)) (spread c j)
          | false ↦ λ j.
              let s = and_true (is_same l m) (list_all (is_same l) (rest p c)) j in
              rw s.0 (spread c s.1)
        ] k

    others : (r : List Lit) → rest p c ≡ r → only p r ≡ Some l → list_all (λ m. is_same l m || is_false p m) c ≡ true
    others r e k = spread c (ap (list_all (is_same l)) e ∙ all_same r k)

    head_there : (ls : List Lit) → only p ls ≡ Some l → has ls l ≡ true
    head_there [] k = cc
    head_there (m ∷ ls) k =
        elim (not (is_true p m) && list_all (is_same m) ls) as (λ b. cond b (Some m) None ≡ Some l → has (m ∷ ls) l ≡ true) [
          | true ↦ λ e.
              let same : m ≡ l = some_same m l e in
              let P : Lit → Type 0 = λ x. is_same x m ≡ true in
              let here : is_same l m ≡ true = subst P same (same_self m) in
              rw here refl
          | false ↦ λ e. cc
        ] k

    lifted : (c : List Lit) → has (rest p c) l ≡ true → has c l ≡ true
    lifted [] k = k
    lifted (m ∷ c) k =
        elim (is_false p m) as (λ b. has (cond (not b) (m ∷ rest p c) (rest p c)) l ≡ true → is_same l m || has c l ≡ true) [
          | true ↦ λ j. rw (lifted c j) (or_true (is_same l m))
          | false ↦ λ j. elim (is_same l m) as (λ b. b || has (rest p c) l ≡ true → b || has c l ≡ true) [
            | true ↦ λ _. refl
            | false ↦ λ i. lifted c i
          ] j
        ] k

    there : has c l ≡ true
    there = lifted c (head_there (rest p c) h)

pub read_get : {X : Type 0} (f : List X) (i : ℕ) (c : X) → i < length f → c ≡ get_or f i c → slice_get f i ≡ Some c
read_get [] i c h e = absurd (omega arith)
read_get (d ∷ f) zero c h e = ap Some (sym e)
read_get (d ∷ f) (suc i) c h e = read_get f i c (omega arith) e

pub has_below : (c : List Lit) (l : Lit) → has c l ≡ true → l.var < clause_variables c
has_below [] l h = cc
has_below (m ∷ c) l h =
    elim (is_same l m) as (λ b. is_same l m ≡ b → b || has c l ≡ true → l.var < clause_variables (m ∷ c)) [
      | true ↦ λ e _. let same : l.var ≡ m.var = (same_parts l m e).0 in omega arith
      | false ↦ λ _ k. omega (arith, has_below c l k)
    ] refl h

pub not_some : {X : Type 0} (o : Option X) → ((x : X) → o ≡ Some x → ⊥) → o ≡ None
not_some None h = refl
not_some (Some x) h = absurd (h x refl)

pub lits_of_entries : (ls : List Lit) (rs : List (Option ℕ)) → length rs ≡ length ls → map (λ (e : Entry). e.lit) (entries_of ls rs) ≡ ls
lits_of_entries [] rs k = refl
lits_of_entries (l ∷ ls) [] k = absurd (omega (arith, k))
lits_of_entries (l ∷ ls) (r ∷ rs) k = ap (λ (z : List Lit). l ∷ z) (lits_of_entries ls rs (omega (arith, k)))

pub reasons_of_entries : (ls : List Lit) (rs : List (Option ℕ)) → length rs ≡ length ls → map (λ (e : Entry). e.reason) (entries_of ls rs) ≡ rs
reasons_of_entries [] [] k = refl
reasons_of_entries [] (r ∷ rs) k = absurd (omega (arith, k))
reasons_of_entries (l ∷ ls) [] k = absurd (omega (arith, k))
reasons_of_entries (l ∷ ls) (r ∷ rs) k = ap (λ (z : List (Option ℕ)). r ∷ z) (reasons_of_entries ls rs (omega (arith, k)))

pub entries_of_parts : (es : List Entry) → entries_of (map (λ (e : Entry). e.lit) es) (map (λ (e : Entry). e.reason) es) ≡ es
entries_of_parts [] = refl
entries_of_parts (e ∷ es) = ap (λ (z : List Entry). e ∷ z) (entries_of_parts es)

pub length_parts : (es : List Entry) → (length (map (λ (e : Entry). e.lit) es) ≡ length es) × (length (map (λ (e : Entry). e.reason) es) ≡ length es)
length_parts [] = (refl, refl)
length_parts (e ∷ es) = let r = length_parts es in (ap suc r.0, ap suc r.1)
