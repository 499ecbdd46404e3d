-- The line that a pass makes of a false clause.
use Rattle.std.proofs.Common.{◌≡◌, ℕ, ◌+◌, ◌<◌, ◌≤◌, suc, zero, List, [], ◌∷◌, ◌++◌, length, take, map, get_or, slice_get, arith, sym, ◌∙◌, subst, Option, Some, None, Bool, true, false, ◌&&◌, ◌||◌, nat_lt, refl, ap}
use Rattle.std.specs.Prelude.{is_some, is_none, IfSome, IfNone}
use Rattle.std.specs.List.{list_any}
use Rattle.std.proofs.lemmas.Bool.{lt-ltb, le-ltb}
use Rattle.std.proofs.lemmas.Bool.Decides.{nat_tests}
use Rattle.cnf_base.specs.declared.lit.Lit.{Lit}
use Rattle.cnf_base.specs.Clauses.{clause_variables}
use Rattle.cnf_base.specs.Derivation.{accepted, outcome, is_all_false}
use Rattle.cnf_search.specs.Trails.{Entry, Explained, values, nothing, entries_of}
use Rattle.cnf_search.specs.Passes.{Pass, step, late_after, pass, begun, IsLearned}
use Rattle.cnf_search.specs.Backs.{late_at}
use Rattle.cnf_search.proofs.Learned.{learned_line}
use Rattle.cnf_search.proofs.Targets.{Finds, pass_finds}
use Rattle.cnf_search.proofs.Traces.{entries_of_parts}

-- ---- the first entry without a reason

lt_both : (k i : ℕ) → nat_lt (suc k) (suc i) ≡ nat_lt k i
lt_both k i = grind (arith, nat_tests)

pub first_found : (rs : List (Option ℕ)) (k : ℕ) (r : Option ℕ) → list_any (λ o. is_none o) (take k rs) ≡ false → k < length rs → r ≡ get_or rs k r → is_none r ≡ true
    → (i : ℕ) → i < length rs → nat_lt k i ≡ list_any (λ o. is_none o) (take i rs)
first_found [] k r f h e n i j = absurd (omega (arith, h))
first_found (q ∷ rs) zero r f h e n zero j = refl
first_found (q ∷ rs) zero r f h e n (suc i) j =
    let here : is_none q ≡ true = ap (λ (o : Option ℕ). is_none o) (sym e) ∙ n in
    lt-ltb 0 (suc i) (omega arith) ∙ sym (rw here refl)
first_found (q ∷ rs) (suc k) r f h e n zero j = le-ltb (suc k) 0 (omega arith)
first_found (q ∷ rs) (suc k) r f h e n (suc i) j =
    let s = parts (is_none q) (list_any (λ (o : Option ℕ). is_none o) (take k rs)) f in
    lt_both k i ∙ (first_found rs k r s.1 (omega (arith, h)) e n i (omega (arith, j)) ∙ sym (rw s.0 refl))
  where
    parts : (a b : Bool) → a || b ≡ false → (a ≡ false) × (b ≡ false)
    parts true b h = cc
    parts false b h = (refl, h)

pub first_none : (rs : List (Option ℕ)) (k : ℕ) → list_any (λ o. is_none o) (take k rs) ≡ false → length rs ≤ k → (i : ℕ) → i < length rs
    → nat_lt (length rs) i ≡ list_any (λ o. is_none o) (take i rs)
first_none rs k f h i j = le-ltb (length rs) i (omega (arith, j)) ∙ sym (front rs i k (omega (arith, h, j)) f)
  where
    parts : (a b : Bool) → a || b ≡ false → (a ≡ false) × (b ≡ false)
    parts true b h = cc
    parts false b h = (refl, h)

    front : (rs : List (Option ℕ)) (i k : ℕ) → i ≤ k → list_any (λ o. is_none o) (take k rs) ≡ false → list_any (λ o. is_none o) (take i rs) ≡ false
    front [] zero k h f = refl
    front [] (suc i) k h f = refl
    front (r ∷ rs) zero k h f = refl
    front (r ∷ rs) (suc i) zero h f = absurd (omega (arith, h))
    front (r ∷ rs) (suc i) (suc k) h f =
        let s = parts (is_none r) (list_any (λ (o : Option ℕ). is_none o) (take k rs)) f in
        rw (s.0, front rs i k (omega (arith, h)) s.1) refl

pub late_reasons : (ls : List Lit) (rs : List (Option ℕ)) (i : ℕ) → length rs ≡ length ls → list_any (λ o. is_none o) (take i rs) ≡ late_at (entries_of ls rs) i
late_reasons [] [] zero h = refl
late_reasons [] [] (suc i) h = refl
late_reasons [] (r ∷ rs) i h = absurd (omega (arith, h))
late_reasons (l ∷ ls) [] i h = absurd (omega (arith, h))
late_reasons (l ∷ ls) (r ∷ rs) zero h = refl
late_reasons (l ∷ ls) (r ∷ rs) (suc i) h = ap (λ (b : Bool). is_none r || b) (late_reasons ls rs i (omega (arith, h)))

-- ---- the line

step_within : (cs : List (List Lit)) (i n : ℕ) (r : Option ℕ) (l : Lit) (s : Pass) (b t : Bool) → clause_variables s.clause ≤ n → l.var < n
    → clause_variables (step cs i r l s b t).clause ≤ n
step_within cs i n r l s false t h k = h
step_within cs i n None l s true t h k = omega (arith, h, k)
step_within cs i n (Some m) l s true true h k = omega (arith, h, k)
step_within cs i n (Some m) l s true false h k = h

pass_within : (cs : List (List Lit)) (late : Bool) (i n : ℕ) (es : List Entry) (c : List Lit) → clause_variables (map (λ (e : Entry). e.lit) es) ≤ n
    → clause_variables (pass cs late i es (begun c)).clause ≤ n
pass_within cs late i n [] c h = omega arith
pass_within cs late i n (e ∷ es) c h =
    let s : Pass = pass cs (late_after late e) (i + 1) es (begun c) in
    step_within cs i n e.reason e.lit s (s.seen e.lit.var) (late && is_some s.found) (pass_within cs (late_after late e) (i + 1) n es c (omega (arith, h))) (omega (arith, h))

pub told_pass : (cs : List (List Lit)) (es : List Entry) (c ls : List Lit) (rs : List (Option ℕ)) (s : Pass) → ls ≡ map (λ (e : Entry). e.lit) es → rs ≡ map (λ (e : Entry). e.reason) es
    → s ≡ pass cs false 0 (entries_of ls rs) (begun c) → s ≡ pass cs false 0 es (begun c)
told_pass cs es c ls rs s a b h = h ∙ ap (λ (z : List Entry). pass cs false 0 z (begun c)) ((λ i. entries_of (a i) (b i)) ∙ entries_of_parts es)

pub record IsTaught (cs : List (List Lit)) (es : List Entry) (n size : ℕ) (clause : List Lit) (hints : List ℕ) (found : Option ℕ) : Type 0 where
  pub accepts : outcome cs clause hints ≡ accepted
  pub within : clause_variables clause ≤ size
  pub some : IfSome found (λ k. IsLearned nothing 0 es clause k)
  pub none : IfNone found (clause ≡ [])

pub taught : (cs : List (List Lit)) (es : List Entry) (n size : ℕ) (c clause : List Lit) (hints : List ℕ) (found : Option ℕ) (s : Pass) → Explained cs nothing es → slice_get cs n ≡ Some c
    → is_all_false (values es) c ≡ true → clause_variables (map (λ (e : Entry). e.lit) es) ≤ size → s ≡ pass cs false 0 es (begun c) → clause ≡ s.clause → hints ≡ s.hints ++ n ∷ [] → found ≡ s.found
    → IsTaught cs es n size clause hints found
taught cs es n size c clause hints found s x g f w p a b d =
    let one : clause ≡ (pass cs false 0 es (begun c)).clause = a ∙ ap (λ (z : Pass). z.clause) p in
    let two : hints ≡ (pass cs false 0 es (begun c)).hints ++ n ∷ [] = b ∙ ap (λ (z : Pass). z.hints ++ n ∷ []) p in
    let three : found ≡ (pass cs false 0 es (begun c)).found = d ∙ ap (λ (z : Pass). z.found) p in
    let finds : Finds nothing 0 es (pass cs false 0 es (begun c)) = pass_finds cs false nothing 0 es c x in
    record {
      accepts = (λ i. outcome cs (one i) (two i)) ∙ learned_line cs es n c x g f;
      within = omega (arith, ap clause_variables one, pass_within cs false 0 size es c w);
      some = if_some found (λ k. IsLearned nothing 0 es clause k)
          (λ k e. let P : List Lit → Type 0 = λ z. IsLearned nothing 0 es z k in subst P (sym one) (finds.some k (sym three ∙ e)));
      none = if_none found (clause ≡ []) (λ e. one ∙ finds.none (sym three ∙ e));
    }
  where
    if_some : (o : Option ℕ) (P : ℕ → Type 0) → ((k : ℕ) → o ≡ Some k → P k) → IfSome o P
    if_some None P h = tt
    if_some (Some k) P h = h k refl

    if_none : (o : Option ℕ) (P : Type 0) → (o ≡ None → P) → IfNone o P
    if_none None P h = h refl
    if_none (Some k) P h = tt
