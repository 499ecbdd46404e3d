-- How the clauses that are still to be looked at follow the trail.
use Rattle.std.proofs.Common.{◌≡◌, ℕ, ◌<◌, suc, zero, List, [], ◌∷◌, ◌++◌, length, slice_get, arith, sym, ◌∙◌, Option, Some, None, Bool, true, false, cond, eqb, not, ◌&&◌, ◌||◌, refl, ap}
use Rattle.std.specs.Prelude.{is_none}
use Rattle.std.specs.Bool.{beq}
use Rattle.std.specs.List.{list_any, list_all}
use Rattle.std.proofs.lemmas.Bool.Decides.{Decides-eqb}
use Rattle.cnf_base.specs.declared.lit.Lit.{Lit}
use Rattle.cnf_base.specs.Clauses.{is_same, has, negate}
use Rattle.cnf_base.specs.Known.{Partial, is_true, is_false, is_value, made_true}
use Rattle.cnf_base.specs.Derivation.{rest, only, lone, is_all_false}
use Rattle.cnf_base.proofs.Sound.{and_true, eqb_same, beq_refl, some_same}
use Rattle.cnf_gate.specs.Built.{is_quiet}
use Rattle.cnf_search.specs.Trails.{Entry, HasReason}
use Rattle.cnf_search.specs.Queue.{is_calm, is_touched, AreSettled, IsIndex, numbers_at}
use Rattle.cnf_search.proofs.Accepted.{same_parts}

eqb_refl : (n : ℕ) → eqb n n ≡ true
eqb_refl n = (Decides-eqb n n).1 refl

or_true : (b : Bool) → b || true ≡ true
or_true true = refl
or_true false = refl

or_false_both : (a b : Bool) → a || b ≡ false → (a ≡ false) × (b ≡ false)
or_false_both true b h = cc
or_false_both false b h = (refl, h)

differ : true ≡ false → ⊥
differ h = cc

-- ---- a clause in which the negation of the new literal isn't

-- a literal that isn't the negation of the new one stays false or not false
false_kept : (p : Partial) (l m : Lit) → p l.var ≡ None → is_same (negate l) m ≡ false → is_false (made_true p l) m ≡ is_false p m
false_kept p l m none h =
    elim (eqb l.var m.var) as (λ b. eqb l.var m.var ≡ b → b && beq (not l.positive) m.positive ≡ false → is_value (cond b (Some l.positive) (p m.var)) (not m.positive) ≡ is_value (p m.var) (not m.positive)) [
      | true ↦ λ e k.
          let v : p m.var ≡ None = ap p (sym (eqb_same l.var m.var e)) ∙ none in
          rw v (turned l.positive m.positive k)
      | false ↦ λ _ k. refl
    ] refl h
  where
    turned : (a b : Bool) → beq (not a) b ≡ false → beq a (not b) ≡ false
    turned true true k = refl
    turned true false k = cc
    turned false true k = cc
    turned false false k = refl

rest_kept : (p : Partial) (l : Lit) (c : List Lit) → p l.var ≡ None → has c (negate l) ≡ false → rest (made_true p l) c ≡ rest p c
rest_kept p l [] none h = refl
rest_kept p l (m ∷ c) none h =
    let s = or_false_both (is_same (negate l) m) (has c (negate l)) h in
    let here : is_false (made_true p l) m ≡ is_false p m = false_kept p l m none s.0 in
    let more : rest (made_true p l) c ≡ rest p c = rest_kept p l c none s.1 in
    λ i. cond (not (here i)) (m ∷ more i) (more i)

all_kept : (p : Partial) (l : Lit) (c : List Lit) → p l.var ≡ None → has c (negate l) ≡ false → is_all_false (made_true p l) c ≡ is_all_false p c
all_kept p l [] none h = refl
all_kept p l (m ∷ c) none h =
    let s = or_false_both (is_same (negate l) m) (has c (negate l)) h in
    let here : is_false (made_true p l) m ≡ is_false p m = false_kept p l m none s.0 in
    let more : is_all_false (made_true p l) c ≡ is_all_false p c = all_kept p l c none s.1 in
    λ i. here i && more i

-- what is true stays true
true_kept : (p : Partial) (l m : Lit) → p l.var ≡ None → is_true p m ≡ true → is_true (made_true p l) m ≡ true
true_kept p l m none h =
    elim (eqb l.var m.var) as (λ b. eqb l.var m.var ≡ b → is_value (cond b (Some l.positive) (p m.var)) m.positive ≡ true) [
      | true ↦ λ e.
          let v : p m.var ≡ None = ap p (sym (eqb_same l.var m.var e)) ∙ none in
          let wrong : false ≡ true = ap (λ (x : Option Bool). is_value x m.positive) (sym v) ∙ h in
          cc
      | false ↦ λ _. h
    ] refl

-- where a list had no lone literal, it has none with more true
only_none : (p : Partial) (l : Lit) (r : List Lit) → p l.var ≡ None → is_none (only p r) ≡ true → is_none (only (made_true p l) r) ≡ true
only_none p l [] none h = refl
only_none p l (m ∷ r) none h =
    elim (list_all (is_same m) r) as (λ b. is_none (cond (not (is_true p m) && b) (Some m) None) ≡ true → is_none (cond (not (is_true (made_true p l) m) && b) (Some m) None) ≡ true) [
      | true ↦ λ k.
          let t : is_true p m ≡ true = was (is_true p m) k in
          rw (true_kept p l m none t) refl
      | false ↦ λ k. never (is_true (made_true p l) m)
    ] h
  where
    was : (b : Bool) → is_none (cond (not b && true) (Some m) None) ≡ true → b ≡ true
    was true k = refl
    was false k = cc

    never : (b : Bool) → is_none (cond {A = Option Lit} (not b && false) (Some m) None) ≡ true
    never true = refl
    never false = refl

calm_kept : (p : Partial) (l : Lit) (c : List Lit) → p l.var ≡ None → has c (negate l) ≡ false → is_calm p c ≡ true → is_calm (made_true p l) c ≡ true
calm_kept p l c none h k =
    let s = and_true (is_none (lone p c)) (not (is_all_false p c)) k in
    let one : is_none (lone (made_true p l) c) ≡ true =
    ap (λ (z : List Lit). is_none (only (made_true p l) z)) (rest_kept p l c none h) ∙ only_none p l (rest p c) none s.0 in
    let two : not (is_all_false (made_true p l) c) ≡ true = ap not (all_kept p l c none h) ∙ s.1 in
    rw (one, two) refl

-- ---- a clause with a true literal

true_not_false : (p : Partial) (m : Lit) → is_true p m ≡ true → is_false p m ≡ false
true_not_false p m h = go (p m.var) m.positive h
  where
    go : (x : Option Bool) (b : Bool) → is_value x b ≡ true → is_value x (not b) ≡ false
    go None b k = cc
    go (Some true) true k = refl
    go (Some true) false k = cc
    go (Some false) true k = cc
    go (Some false) false k = refl

same_true : (p : Partial) (m x : Lit) → is_same m x ≡ true → is_true p m ≡ is_true p x
same_true p m x h = let a = same_parts m x h in λ i. is_value (p (a.0 i)) (a.1 i)

rest_true : (p : Partial) (c : List Lit) → list_any (is_true p) c ≡ true → list_any (is_true p) (rest p c) ≡ true
rest_true p [] h = h
rest_true p (m ∷ c) h =
    elim (is_true p m) as (λ b. is_true p m ≡ b → b || list_any (is_true p) c ≡ true → list_any (is_true p) (cond (not (is_false p m)) (m ∷ rest p c) (rest p c)) ≡ true) [
      | true ↦ λ t _. rw (true_not_false p m t, t) refl
      | false ↦ λ t k. elim (is_false p m) as (λ b. list_any (is_true p) (cond (not b) (m ∷ rest p c) (rest p c)) ≡ true) [
        | true ↦ rest_true p c k
        | false ↦ rw (rest_true p c k) (or_true (is_true p m))
      ]
    ] refl h

not_all_same : (p : Partial) (m : Lit) (r : List Lit) → is_true p m ≡ false → list_any (is_true p) r ≡ true → list_all (is_same m) r ≡ false
not_all_same p m [] f h = cc
not_all_same p m (x ∷ r) f h =
    elim (is_same m x) as (λ b. is_same m x ≡ b → b && list_all (is_same m) r ≡ false) [
      | true ↦ λ e.
          let x_not : is_true p x ≡ false = sym (same_true p m x e) ∙ f in
          let later : list_any (is_true p) r ≡ true = ap (λ (b : Bool). b || list_any (is_true p) r) (sym x_not) ∙ h in
          not_all_same p m r f later
      | false ↦ λ _. refl
    ] refl

only_true : (p : Partial) (r : List Lit) → list_any (is_true p) r ≡ true → is_none (only p r) ≡ true
only_true p [] h = cc
only_true p (m ∷ r) h =
    elim (is_true p m) as (λ b. is_true p m ≡ b → b || list_any (is_true p) r ≡ true → is_none (cond (not b && list_all (is_same m) r) (Some m) None) ≡ true) [
      | true ↦ λ _ _. refl
      | false ↦ λ f k. rw (not_all_same p m r f k) refl
    ] refl h

true_not_all_false : (p : Partial) (c : List Lit) → list_any (is_true p) c ≡ true → is_all_false p c ≡ false
true_not_all_false p [] h = cc
true_not_all_false p (m ∷ c) h =
    elim (is_true p m) as (λ b. is_true p m ≡ b → b || list_any (is_true p) c ≡ true → is_false p m && is_all_false p c ≡ false) [
      | true ↦ λ t _. rw (true_not_false p m t) refl
      | false ↦ λ _ k. rw (true_not_all_false p c k) (and_false (is_false p m))
    ] refl h
  where
    and_false : (b : Bool) → b && false ≡ false
    and_false true = refl
    and_false false = refl

calm_true : (p : Partial) (c : List Lit) → list_any (is_true p) c ≡ true → is_calm p c ≡ true
calm_true p c h = rw (only_true p (rest p c) (rest_true p c h), true_not_all_false p c h) refl

-- a literal that was made true is true in each clause that has it
has_true : (p : Partial) (c : List Lit) (l : Lit) → has c l ≡ true → list_any (is_true (made_true p l)) c ≡ true
has_true p [] l h = cc
has_true p (m ∷ c) l h =
    elim (is_same l m) as (λ b. is_same l m ≡ b → b || has c l ≡ true → is_true (made_true p l) m || list_any (is_true (made_true p l)) c ≡ true) [
      | true ↦ λ e _.
          let here : is_true (made_true p l) m ≡ true = sym (same_true (made_true p l) l m e) ∙ (rw (eqb_refl l.var) (beq_refl l.positive)) in
          rw here refl
      | false ↦ λ _ k. rw (has_true p c l k) (or_true (is_true (made_true p l) m))
    ] refl h

-- ---- all clauses

touched_end : (late : List Entry) (e : Entry) (c : List Lit) → is_touched (late ++ e ∷ []) c ≡ is_touched late c || has c (negate e.lit)
touched_end [] e c = or_end (has c (negate e.lit))
  where
    or_end : (b : Bool) → b || false ≡ b
    or_end true = refl
    or_end false = refl
touched_end (x ∷ late) e c =
    ap (λ (b : Bool). has c (negate x.lit) || b) (touched_end late e c) ∙ sym (or_assoc (has c (negate x.lit)) (is_touched late c) (has c (negate e.lit)))
  where
    or_assoc : (a b c : Bool) → (a || b) || c ≡ a || (b || c)
    or_assoc true b c = refl
    or_assoc false b c = refl

-- one more entry
pub settled_push : (f : List (List Lit)) (p : Partial) (late : List Entry) (left : List ℕ) (e : Entry) → AreSettled f p late left → p e.lit.var ≡ None
    → AreSettled f (made_true p e.lit) (late ++ e ∷ []) left
settled_push f p late left e s none = record { at = λ n c g. one c (list_any (eqb n) left) (s.at n c g) }
  where
    one : (c : List Lit) (b : Bool) → is_calm p c || (is_touched late c || b) ≡ true → is_calm (made_true p e.lit) c || (is_touched (late ++ e ∷ []) c || b) ≡ true
    one c b h =
        elim (has c (negate e.lit)) as (λ t. has c (negate e.lit) ≡ t → is_calm (made_true p e.lit) c || (is_touched (late ++ e ∷ []) c || b) ≡ true) [
          | true ↦ λ t.
              let touched : is_touched (late ++ e ∷ []) c ≡ true = touched_end late e c ∙ (ap (λ (z : Bool). is_touched late c || z) t ∙ or_true (is_touched late c)) in
              rw touched (or_true (is_calm (made_true p e.lit) c))
          | false ↦ λ t.
              let same : is_touched (late ++ e ∷ []) c ≡ is_touched late c = touched_end late e c ∙ (ap (λ (z : Bool). is_touched late c || z) t ∙ or_none (is_touched late c)) in
              elim (is_calm p c) as (λ k. is_calm p c ≡ k → k || (is_touched late c || b) ≡ true → is_calm (made_true p e.lit) c || (is_touched (late ++ e ∷ []) c || b) ≡ true) [
                | true ↦ λ k _. rw (calm_kept p e.lit c none t k) refl
                | false ↦ λ _ j. rw (same, j) (or_true (is_calm (made_true p e.lit) c))
              ] refl h
        ] refl
      where
        or_none : (b : Bool) → b || false ≡ b
        or_none true = refl
        or_none false = refl

next_left : (n m : ℕ) (left : List ℕ) → eqb n m ≡ false → list_any (eqb n) (m ∷ left) ≡ list_any (eqb n) left
next_left n m left h = rw h refl

-- the next clause is calm
pub settled_calm : (f : List (List Lit)) (p : Partial) (late : List Entry) (number : ℕ) (left : List ℕ) → AreSettled f p late (number ∷ left)
    → ((c : List Lit) → slice_get f number ≡ Some c → is_calm p c ≡ true) → AreSettled f p late left
settled_calm f p late number left s calm = record {
  at = λ n c g.
      elim (eqb n number) as (λ b. eqb n number ≡ b → is_calm p c || (is_touched late c || list_any (eqb n) left) ≡ true) [
        | true ↦ λ e.
            let same : n ≡ number = eqb_same n number e in
            rw (calm c (ap (slice_get f) (sym same) ∙ g)) refl
        | false ↦ λ e.
            let was : is_calm p c || (is_touched late c || list_any (eqb n) (number ∷ left)) ≡ true = s.at n c g in
            ap (λ (b : Bool). is_calm p c || (is_touched late c || b)) (sym (next_left n number left e)) ∙ was
      ] refl;
}

-- the next clause leaves a literal, which is made true
pub settled_forced : (f : List (List Lit)) (p : Partial) (late : List Entry) (number : ℕ) (left : List ℕ) (e : Entry) → AreSettled f p late (number ∷ left)
    → HasReason f p number e.lit → AreSettled f (made_true p e.lit) (late ++ e ∷ []) left
settled_forced f p late number left e s r =
    settled_calm f (made_true p e.lit) (late ++ e ∷ []) number left (settled_push f p late (number ∷ left) e s r.reason.open_yet)
    (λ c g.
    let same : r.clause ≡ c = some_same r.clause c (sym r.named ∙ g) in
    let there : has c e.lit ≡ true = ap (λ (z : List Lit). has z e.lit) (sym same) ∙ r.reason.there in
    calm_true (made_true p e.lit) c (has_true p c e.lit there))

-- the clauses that the first late entry touches are named by the index
pub settled_next : (f : List (List Lit)) (lists : List (List ℕ)) (p : Partial) (now late : List Entry) (e : Entry) (l : Lit) → IsIndex f lists → now ≡ e ∷ late → l ≡ negate e.lit
    → AreSettled f p now [] → AreSettled f p late (numbers_at lists l)
settled_next f lists p now late e l index split is s = record {
  at = λ n c g.
      let was : is_calm p c || ((has c (negate e.lit) || is_touched late c) || false) ≡ true =
      ap (λ (z : List Entry). is_calm p c || (is_touched z c || false)) (sym split) ∙ s.at n c g in
      elim (has c (negate e.lit)) as (λ b. has c (negate e.lit) ≡ b → is_calm p c || ((b || is_touched late c) || false) ≡ true
      → is_calm p c || (is_touched late c || list_any (eqb n) (numbers_at lists l)) ≡ true) [
        | true ↦ λ t _.
            let named : list_any (eqb n) (numbers_at lists l) ≡ true = index.at n c l g (ap (has c) is ∙ t) in
            rw named (both (is_calm p c) (is_touched late c))
        | false ↦ λ _ k. shift (is_calm p c) (is_touched late c) (list_any (eqb n) (numbers_at lists l)) k
      ] refl was;
}
  where
    both : (a b : Bool) → a || (b || true) ≡ true
    both true b = refl
    both false true = refl
    both false false = refl

    shift : (a b x : Bool) → a || (b || false) ≡ true → a || (b || x) ≡ true
    shift true b x h = refl
    shift false true x h = refl
    shift false false x h = cc

-- nothing is left to look at exactly where all clauses are quiet
pub settled_quiet : (f : List (List Lit)) (p : Partial) → AreSettled f p [] [] → is_quiet p f ≡ true
settled_quiet [] p s = refl
settled_quiet (c ∷ f) p s =
    let first : is_calm p c ≡ true = plain (is_calm p c) (s.at 0 c refl) in
    rw first (settled_quiet f p (record { at = λ n d g. s.at (suc n) d g }))
  where
    plain : (b : Bool) → b || (false || false) ≡ true → b ≡ true
    plain true h = refl
    plain false h = cc

pub quiet_settled : (f : List (List Lit)) (p : Partial) → is_quiet p f ≡ true → AreSettled f p [] []
quiet_settled f p q = record { at = λ n c g. go f n c q g }
  where
    go : (f : List (List Lit)) (n : ℕ) (c : List Lit) → is_quiet p f ≡ true → slice_get f n ≡ Some c → is_calm p c || (false || false) ≡ true
    go [] n c q g = cc
    go (d ∷ f) zero c q g =
        let s = and_true (is_calm p d) (is_quiet p f) q in
        let same : d ≡ c = some_same d c g in
        let here : is_calm p c ≡ true = ap (is_calm p) (sym same) ∙ s.0 in
        rw here refl
    go (d ∷ f) (suc n) c q g = go f n c (and_true (is_calm p d) (is_quiet p f) q).1 g

-- at first each clause is left
pub settled_all : (f : List (List Lit)) (p : Partial) (numbers : List ℕ) → ((n : ℕ) → n < length f → list_any (eqb n) numbers ≡ true) → AreSettled f p [] numbers
settled_all f p numbers all = record { at = λ n c g. rw (all n (there f n c g)) (or_true (is_calm p c)) }
  where
    there : (f : List (List Lit)) (n : ℕ) (c : List Lit) → slice_get f n ≡ Some c → n < length f
    there [] n c g = cc
    there (d ∷ f) zero c g = omega arith
    there (d ∷ f) (suc n) c g = omega (arith, there f n c g)
