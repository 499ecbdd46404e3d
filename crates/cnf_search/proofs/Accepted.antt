-- What a hint does that is the reason of a literal, and the last hint.
use Rattle.std.proofs.Common.{◌≡◌, ℕ, ◌+◌, List, [], ◌∷◌, slice_get, sym, ◌∙◌, Option, Some, None, Bool, true, false, cond, eqb, not, ◌||◌, refl, ap}
use Rattle.std.specs.Bool.{beq}
use Rattle.std.specs.List.{list_all}
use Rattle.cnf_base.specs.declared.lit.Lit.{Lit}
use Rattle.cnf_base.specs.Clauses.{is_same, has}
use Rattle.cnf_base.specs.Known.{Partial, is_true, is_false, is_value, made_true}
use Rattle.cnf_base.specs.Derivation.{accepted, rest, only, lone, is_all_false, follow}
use Rattle.cnf_base.proofs.Sound.{and_true, eqb_same, beq_same}
use Rattle.cnf_search.specs.Trails.{IsReason, HasReason}

-- what two literals that are the same have in common
pub same_parts : (l m : Lit) → is_same l m ≡ true → (l.var ≡ m.var) × (l.positive ≡ m.positive)
same_parts l m h =
    let s = and_true (eqb l.var m.var) (beq l.positive m.positive) h in
    (eqb_same l.var m.var s.0, beq_same l.positive m.positive s.1)

same_by : (l m k : Lit) → is_same l m ≡ true → is_same l k ≡ true → is_same m k ≡ true
same_by l m k h j =
    let a = same_parts l m h in
    let v : eqb m.var k.var ≡ eqb l.var k.var = ap (λ (n : ℕ). eqb n k.var) (sym a.0) in
    let b : beq m.positive k.positive ≡ beq l.positive k.positive = ap (λ (x : Bool). beq x k.positive) (sym a.1) in
    rw (v, b) j

all_same_by : (l m : Lit) (ks : List Lit) → is_same l m ≡ true → list_all (is_same l) ks ≡ true → list_all (is_same m) ks ≡ true
all_same_by l m [] h j = refl
all_same_by l m (k ∷ ks) h j =
    let s = and_true (is_same l k) (list_all (is_same l) ks) j in
    rw (same_by l m k h s.0) (all_same_by l m ks h s.1)

-- what isn't false in a reason is its literal
rest_same : (p : Partial) (l : Lit) (c : List Lit) → list_all (λ m. is_same l m || is_false p m) c ≡ true → list_all (is_same l) (rest p c) ≡ true
rest_same p l [] h = refl
rest_same p l (m ∷ c) h =
    let s = and_true (is_same l m || is_false p m) (list_all (λ m. is_same l m || is_false p m) c) h in
    elim (is_false p m) as (λ b. is_same l m || b ≡ true → list_all (is_same l) (cond (not b) (m ∷ rest p c) (rest p c)) ≡ true) [
      | true ↦ λ _. rest_same p l c s.1
      | false ↦ λ e. rw (or_left (is_same l m) e) (rest_same p l c s.1)
    ] s.0
  where
    or_left : (b : Bool) → b || false ≡ true → b ≡ true
    or_left true e = refl
    or_left false e = e

rest_some : (p : Partial) (l : Lit) (c : List Lit) → p l.var ≡ None → has c l ≡ true → has (rest p c) l ≡ true
rest_some p l [] none h = h
rest_some p l (m ∷ c) none h =
    elim (is_same l m) as (λ b. is_same l m ≡ b → b || has c l ≡ true → has (cond (not (is_false p m)) (m ∷ rest p c) (rest p c)) l ≡ true) [
      | true ↦ λ e _.
          let v : p m.var ≡ None = ap p (sym (same_parts l m e).0) ∙ none in
          let f : is_false p m ≡ false = ap (λ (x : Option Bool). is_value x (not m.positive)) v in
          rw (f, e) refl
      | false ↦ λ e j. elim (is_false p m) as (λ b. has (cond (not b) (m ∷ rest p c) (rest p c)) l ≡ true) [
        | true ↦ rest_some p l c none j
        | false ↦ rw e (rest_some p l c none j)
      ]
    ] refl h

-- the lone literal of a reason is its literal
pub lone_of_reason : (p : Partial) (c : List Lit) (l : Lit) → IsReason p c l → (m : Lit) × (lone p c ≡ Some m) × (is_same l m ≡ true)
lone_of_reason p c l r = pick (rest p c) (rest_same p l c r.others) (rest_some p l c r.open_yet r.there)
  where
    pick : (ls : List Lit) → list_all (is_same l) ls ≡ true → has ls l ≡ true → (m : Lit) × (only p ls ≡ Some m) × (is_same l m ≡ true)
    pick [] h j = cc
    pick (m ∷ ls) h j =
        let s = and_true (is_same l m) (list_all (is_same l) ls) h in
        let v : p m.var ≡ None = ap p (sym (same_parts l m s.0).0) ∙ r.open_yet in
        let f : is_true p m ≡ false = ap (λ (x : Option Bool). is_value x m.positive) v in
        (m, rw (f, all_same_by l m ls s.0 s.1) refl, s.0)

made_true_same : (p : Partial) (l m : Lit) → is_same l m ≡ true → made_true p m ≡ made_true p l
made_true_same p l m h =
    let a = same_parts l m h in
    λ i. λ n. cond (eqb (sym a.0 i) n) (Some (sym a.1 i)) (p n)

-- one hint that is a reason
pub follow_reason : (cs : List (List Lit)) (p : Partial) (i h g : ℕ) (hs : List ℕ) (l : Lit) → HasReason cs p h l
    → follow cs p i (h ∷ g ∷ hs) ≡ follow cs (made_true p l) (i + 1) (g ∷ hs)
follow_reason cs p i h g hs l r =
    let m = lone_of_reason p r.clause l r.reason in
    rw (r.named, m.1) (ap (λ (q : Partial). follow cs q (i + 1) (g ∷ hs)) (made_true_same p l m.0 m.2))

-- the last hint
pub follow_last : (cs : List (List Lit)) (p : Partial) (i h : ℕ) (c : List Lit) → slice_get cs h ≡ Some c → is_all_false p c ≡ true → follow cs p i (h ∷ []) ≡ accepted
follow_last cs p i h c e f = rw (e, f) refl
