-- An accepted line is true wherever the clauses before it are, so a refuted formula is satisfied by nothing.
use Rattle.std.proofs.Common.{◌≡◌, ℕ, ◌+◌, ◌-◌, ◌<◌, ◌≤◌, suc, zero, List, [], ◌∷◌, ◌++◌, length, get_or, take, slice_get, arith, subst, sym, ◌∙◌, Option, Some, None, Bool, true, false, cond, eqb, not, ◌&&◌, ◌||◌, refl, ap}
use Rattle.std.proofs.lemmas.Bool.Decides.{Decides-eqb}
use Rattle.std.specs.Bool.{beq}
use Rattle.std.specs.List.{list_all}
use Rattle.cnf_base.specs.declared.lit.Lit.{Lit}
use Rattle.cnf_base.specs.declared.line.Line.{Line}
use Rattle.cnf_base.specs.Clauses.{is_same, lit_true, clause_true, formula_true}
use Rattle.cnf_base.specs.Known.{Partial, is_true, is_false, is_value, made_true}
use Rattle.cnf_base.specs.Derivation.{accepted, tautology, no_conflict, is_tautology, falsified, is_all_false, rest, only, lone, at_clause, at_lone, follow, outcome, clauses_of, AreAccepted, IsRefutation}

-- the values keep those of a partial assignment
pub record Agrees (p : Partial) (v : ℕ → Bool) : Type 0 where
  pub at : (n : ℕ) (b : Bool) → p n ≡ Some b → v n ≡ b

pub beq_same : (a b : Bool) → beq a b ≡ true → a ≡ b
beq_same true true h = refl
beq_same true false h = sym h
beq_same false true h = h
beq_same false false h = refl

pub beq_refl : (a : Bool) → beq a a ≡ true
beq_refl true = refl
beq_refl false = refl

pub beq_not : (a : Bool) → beq (not a) a ≡ false
beq_not true = refl
beq_not false = refl

pub eqb_same : (m n : ℕ) → eqb m n ≡ true → m ≡ n
eqb_same m n h = (Decides-eqb m n).0 h

pub and_true : (a b : Bool) → a && b ≡ true → (a ≡ true) × (b ≡ true)
and_true true b h = (refl, h)
and_true false b h = cc

pub some_same : {X : Type 0} (x y : X) → Some x ≡ Some y → x ≡ y
some_same x y h = cc

pub is_value_some : (o : Option Bool) (b : Bool) → is_value o b ≡ true → o ≡ Some b
is_value_some None b h = cc
is_value_some (Some x) b h = ap Some (beq_same x b h)

-- a literal that is false is false under values that agree
pub false_here : (p : Partial) (v : ℕ → Bool) (l : Lit) → Agrees p v → is_false p l ≡ true → lit_true v l ≡ false
false_here p v l agrees h =
    let e : v l.var ≡ not l.positive = agrees.at l.var (not l.positive) (is_value_some (p l.var) (not l.positive) h) in
    rw e (beq_not l.positive)

pub all_false_here : (p : Partial) (v : ℕ → Bool) (c : List Lit) → Agrees p v → is_all_false p c ≡ true → clause_true v c ≡ false
all_false_here p v [] agrees h = refl
all_false_here p v (l ∷ c) agrees h =
    let s : (is_false p l ≡ true) × (is_all_false p c ≡ true) = and_true (is_false p l) (is_all_false p c) h in
    rw (false_here p v l agrees s.0) (all_false_here p v c agrees s.1)

-- the literals that aren't false make a clause true that is true
pub rest_true : (p : Partial) (v : ℕ → Bool) (c : List Lit) → Agrees p v → clause_true v c ≡ true → clause_true v (rest p c) ≡ true
rest_true p v [] agrees h = h
rest_true p v (l ∷ c) agrees h =
    elim (is_false p l) as (λ b. is_false p l ≡ b → clause_true v (cond (not b) (l ∷ rest p c) (rest p c)) ≡ true) [
      | true ↦ λ e. rest_true p v c agrees (let f : lit_true v l ≡ false = false_here p v l agrees e in rw f at h)
      | false ↦ λ e. elim (lit_true v l) as (λ b. b || clause_true v c ≡ true → b || clause_true v (rest p c) ≡ true) [
        | true ↦ λ _. refl
        | false ↦ λ k. rest_true p v c agrees k
      ] h
    ] refl

pub same_true : (v : ℕ → Bool) (l m : Lit) → is_same l m ≡ true → lit_true v m ≡ lit_true v l
same_true v l m h =
    let s : (eqb l.var m.var ≡ true) × (beq l.positive m.positive ≡ true) = and_true (eqb l.var m.var) (beq l.positive m.positive) h in
    let n : l.var ≡ m.var = eqb_same l.var m.var s.0 in
    let b : l.positive ≡ m.positive = beq_same l.positive m.positive s.1 in
    cc

pub all_same_true : (v : ℕ → Bool) (l : Lit) (ls : List Lit) → list_all (is_same l) ls ≡ true → clause_true v ls ≡ true → lit_true v l ≡ true
all_same_true v l [] h k = cc
all_same_true v l (m ∷ ls) h k =
    let s : (is_same l m ≡ true) × (list_all (is_same l) ls ≡ true) = and_true (is_same l m) (list_all (is_same l) ls) h in
    let e : lit_true v m ≡ lit_true v l = same_true v l m s.0 in
    elim (lit_true v m) as (λ b. lit_true v m ≡ b → b || clause_true v ls ≡ true → lit_true v l ≡ true) [
      | true ↦ λ t _. sym e ∙ t
      | false ↦ λ _ t. all_same_true v l ls s.1 t
    ] refl k

pub only_holds : (p : Partial) (v : ℕ → Bool) (ls : List Lit) (l : Lit) → only p ls ≡ Some l → clause_true v ls ≡ true → lit_true v l ≡ true
only_holds p v [] l h k = cc
only_holds p v (m ∷ ls) l h k =
    elim (not (is_true p m) && list_all (is_same m) ls) as (λ b. not (is_true p m) && list_all (is_same m) ls ≡ b → cond b (Some m) None ≡ Some l → lit_true v l ≡ true) [
      | true ↦ λ t e.
          let s : list_all (is_same m) ls ≡ true = (and_true (not (is_true p m)) (list_all (is_same m) ls) t).1 in
          let d : m ≡ l = some_same m l e in
          let P : Lit → Type 0 = λ x. lit_true v x ≡ true in
          subst P d (elim (lit_true v m) as (λ b. lit_true v m ≡ b → b || clause_true v ls ≡ true → lit_true v m ≡ true) [
            | true ↦ λ u _. u
            | false ↦ λ _ u. all_same_true v m ls s u
          ] refl k)
      | false ↦ λ t e. cc
    ] refl h

-- the lone literal of a clause is true where the clause is
pub lone_holds : (p : Partial) (v : ℕ → Bool) (c : List Lit) (l : Lit) → Agrees p v → lone p c ≡ Some l → clause_true v c ≡ true → lit_true v l ≡ true
lone_holds p v c l agrees h k = only_holds p v (rest p c) l h (rest_true p v c agrees k)

pub agrees_more : (p : Partial) (v : ℕ → Bool) (l : Lit) → Agrees p v → lit_true v l ≡ true → Agrees (made_true p l) v
agrees_more p v l agrees h = record {
  at = λ n b.
      elim (eqb l.var n) as (λ t. eqb l.var n ≡ t → cond t (Some l.positive) (p n) ≡ Some b → v n ≡ b) [
        | true ↦ λ t e.
            let same : l.var ≡ n = eqb_same l.var n t in
            let is : v l.var ≡ l.positive = beq_same (v l.var) l.positive h in
            let ib : l.positive ≡ b = some_same l.positive b e in
            cc
        | false ↦ λ t e. agrees.at n b e
      ] refl;
}

pub falsified_agrees : (v : ℕ → Bool) (c : List Lit) → clause_true v c ≡ false → Agrees (falsified c) v
falsified_agrees v [] h = record { at = λ n b e. cc }
falsified_agrees v (l ∷ c) h =
    elim (lit_true v l) as (λ b. lit_true v l ≡ b → b || clause_true v c ≡ false → Agrees (falsified (l ∷ c)) v) [
      | true ↦ λ _ t. cc
      | false ↦ λ f t. record {
        at = λ n b.
            elim (eqb l.var n) as (λ t. eqb l.var n ≡ t → cond t (Some (not l.positive)) (falsified c n) ≡ Some b → v n ≡ b) [
              | true ↦ λ u e.
                  let same : l.var ≡ n = eqb_same l.var n u in
                  let is : v l.var ≡ not l.positive = beq_false (v l.var) l.positive f in
                  let ib : not l.positive ≡ b = some_same (not l.positive) b e in
                  cc
              | false ↦ λ _ e. (falsified_agrees v c t).at n b e
            ] refl;
      }
    ] refl h
  where
    beq_false : (a b : Bool) → beq a b ≡ false → a ≡ not b
    beq_false true true k = cc
    beq_false true false k = refl
    beq_false false true k = refl
    beq_false false false k = cc

pub clause_there : (v : ℕ → Bool) (cs : List (List Lit)) (h : ℕ) (c : List Lit) → formula_true v cs ≡ true → slice_get cs h ≡ Some c → clause_true v c ≡ true
clause_there v [] h c t e = cc
clause_there v (d ∷ cs) zero c t e =
    let same : d ≡ c = some_same d c e in
    let P : List Lit → Type 0 = λ x. clause_true v x ≡ true in
    subst P same (and_true (clause_true v d) (formula_true v cs) t).0
clause_there v (d ∷ cs) (suc h) c t e = clause_there v cs h c (and_true (clause_true v d) (formula_true v cs) t).1 e

-- no values agree where the hints lead to a false clause
pub follow_sound : (cs : List (List Lit)) (p : Partial) (i : ℕ) (hints : List ℕ) (v : ℕ → Bool)
    → follow cs p i hints ≡ accepted → formula_true v cs ≡ true → Agrees p v → ⊥
follow_sound cs p i [] v h t agrees = cc
follow_sound cs p i (n ∷ []) v h t agrees =
    elim (slice_get cs n) as (λ o. slice_get cs n ≡ o → at_clause o i (λ c. cond (is_all_false p c) accepted no_conflict) ≡ accepted → ⊥) [
      | None ↦ λ _ e. cc
      | Some c ↦ λ there e.
          let holds : clause_true v c ≡ true = clause_there v cs n c t there in
          elim (is_all_false p c) as (λ b. is_all_false p c ≡ b → cond b accepted no_conflict ≡ accepted → ⊥) [
            | true ↦ λ f _. let fails : clause_true v c ≡ false = all_false_here p v c agrees f in cc
            | false ↦ λ _ k. cc
          ] refl e
    ] refl h
follow_sound cs p i (n ∷ m ∷ hints) v h t agrees =
    elim (slice_get cs n) as (λ o. slice_get cs n ≡ o → at_clause o i (λ c. at_lone (lone p c) i (λ l. follow cs (made_true p l) (i + 1) (m ∷ hints))) ≡ accepted → ⊥) [
      | None ↦ λ _ e. cc
      | Some c ↦ λ there e.
          let holds : clause_true v c ≡ true = clause_there v cs n c t there in
          elim (lone p c) as (λ o. lone p c ≡ o → at_lone o i (λ l. follow cs (made_true p l) (i + 1) (m ∷ hints)) ≡ accepted → ⊥) [
            | None ↦ λ _ k. cc
            | Some l ↦ λ is k.
                follow_sound cs (made_true p l) (i + 1) (m ∷ hints) v k t
                (agrees_more p v l agrees (lone_holds p v c l agrees is holds))
          ] refl e
    ] refl h

-- an accepted line is true wherever the clauses before it are
pub outcome_sound : (cs : List (List Lit)) (c : List Lit) (hints : List ℕ) (v : ℕ → Bool)
    → outcome cs c hints ≡ accepted → formula_true v cs ≡ true → clause_true v c ≡ true
outcome_sound cs c hints v h t =
    elim (is_tautology c) as (λ b. cond b tautology (follow cs (falsified c) 0 hints) ≡ accepted → clause_true v c ≡ true) [
      | true ↦ λ e. cc
      | false ↦ λ e. elim (clause_true v c) as (λ b. clause_true v c ≡ b → b ≡ true) [
        | true ↦ λ _. refl
        | false ↦ λ f. absurd (follow_sound cs (falsified c) 0 hints v e t (falsified_agrees v c f))
      ] refl
    ] h

pub formula_true-append : (v : ℕ → Bool) (f g : List (List Lit)) → formula_true v f ≡ true → formula_true v g ≡ true → formula_true v (f ++ g) ≡ true
formula_true-append v [] g h k = k
formula_true-append v (c ∷ f) g h k =
    let s : (clause_true v c ≡ true) × (formula_true v f ≡ true) = and_true (clause_true v c) (formula_true v f) h in
    rw s.0 (formula_true-append v f g s.1 k)

-- the first lines of an accepted derivation are true wherever the formula is
pub lines_hold : (v : ℕ → Bool) (f : List (List Lit)) (steps : List Line) → AreAccepted f steps → formula_true v f ≡ true
    → (n : ℕ) → n ≤ length steps → formula_true v (clauses_of (take n steps)) ≡ true
lines_hold v f steps h t zero k = lines_none v steps
  where
    lines_none : (v : ℕ → Bool) (steps : List Line) → formula_true v (clauses_of (take 0 steps)) ≡ true
    lines_none v [] = refl
    lines_none v (s ∷ steps) = refl
lines_hold v f steps h t (suc n) k =
    let before : formula_true v (clauses_of (take n steps)) ≡ true = lines_hold v f steps h t n (omega arith) in
    one_more v steps n (λ d. outcome_sound (f ++ clauses_of (take n steps)) (get_or steps n d).clause (get_or steps n d).hints v (h n d (omega arith))
    (formula_true-append v f (clauses_of (take n steps)) t before)) before (omega arith)
  where
    one_more : (v : ℕ → Bool) (steps : List Line) (n : ℕ) → ((d : Line) → clause_true v (get_or steps n d).clause ≡ true)
        → formula_true v (clauses_of (take n steps)) ≡ true → n < length steps → formula_true v (clauses_of (take (suc n) steps)) ≡ true
    one_more v [] n h t k = absurd (omega arith)
    one_more v (s ∷ []) zero h t k = let e : clause_true v s.clause ≡ true = h s in rw e refl
    one_more v (s ∷ r ∷ steps) zero h t k = let e : clause_true v s.clause ≡ true = h s in rw e refl
    one_more v (s ∷ steps) (suc n) h t k =
        let w : (clause_true v s.clause ≡ true) × (formula_true v (clauses_of (take n steps)) ≡ true) = and_true (clause_true v s.clause) (formula_true v (clauses_of (take n steps))) t in
        rw w.0 (one_more v steps n h w.1 (omega arith))

-- nothing satisfies a formula that has an accepted derivation of the empty clause
pub refuted : (f : List (List Lit)) (steps : List Line) (v : ℕ → Bool) → IsRefutation f steps → formula_true v f ≡ true → ⊥
refuted f steps v r t =
    let n : ℕ = length steps - 1 in
    let d : Line = record { clause = []; hints = [] } in
    let holds : clause_true v (get_or steps n d).clause ≡ true =
    outcome_sound (f ++ clauses_of (take n steps)) (get_or steps n d).clause (get_or steps n d).hints v (r.lines n d (omega (arith, r.ends.some)))
    (formula_true-append v f (clauses_of (take n steps)) t (lines_hold v f steps r.lines t n (omega arith))) in
    let empty : (get_or steps n d).clause ≡ [] = r.ends.last d in
    let gone : clause_true v (get_or steps n d).clause ≡ clause_true v [] = ap (clause_true v) empty in
    let none : true ≡ false = sym holds ∙ gone in
    cc
