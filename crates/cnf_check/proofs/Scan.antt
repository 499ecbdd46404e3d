-- The lone literal of a clause, found in one pass.
use Rattle.std.proofs.Common.{◌≡◌, ℕ, ◌+◌, ◌<◌, ◌≤◌, suc, zero, List, [], ◌∷◌, length, get_or, drop, arith, sym, ◌∙◌, Option, Some, None, Bool, true, false, cond, eqb, not, ◌&&◌, refl, ap, add-one}
use Rattle.std.specs.Bool.{beq}
use Rattle.std.specs.List.{list_all}
use Rattle.cnf_base.specs.declared.lit.Lit.{Lit}
use Rattle.cnf_base.specs.Clauses.{is_same, clause_variables}
use Rattle.cnf_base.specs.Known.{Partial, is_true, is_false, is_value}
use Rattle.cnf_base.specs.Derivation.{rest, only, lone}
use Rattle.cnf_base.proofs.Sound.{and_true, eqb_same, beq_same, some_same}

-- the pass, with the literal that was found so far
abbrev pub scan : Partial → Option Lit → List Lit → Option Lit
scan p found [] = found
scan p None (l ∷ c) = cond (is_false p l) (scan p None c) (cond (is_true p l) None (scan p (Some l) c))
scan p (Some m) (l ∷ c) = cond (is_false p l) (scan p (Some m) c) (cond (is_true p l) None (cond (is_same m l) (scan p (Some m) c) None))

pub same_is_true : (p : Partial) (l m : Lit) → is_same l m ≡ true → is_true p m ≡ is_true p l
same_is_true p l m h =
    let s : (eqb l.var m.var ≡ true) × (beq l.positive m.positive ≡ true) = and_true (eqb l.var m.var) (beq l.positive m.positive) h in
    let n : l.var ≡ m.var = eqb_same l.var m.var s.0 in
    let b : l.positive ≡ m.positive = beq_same l.positive m.positive s.1 in
    cc

pub scan-Some : (p : Partial) (m : Lit) (c : List Lit) → is_true p m ≡ false → scan p (Some m) c ≡ cond (list_all (is_same m) (rest p c)) (Some m) None
scan-Some p m [] h = refl
scan-Some p m (l ∷ c) h =
    elim (is_false p l) as (λ b. cond b (scan p (Some m) c) (cond (is_true p l) None (cond (is_same m l) (scan p (Some m) c) None))
    ≡ cond (list_all (is_same m) (cond (not b) (l ∷ rest p c) (rest p c))) (Some m) None) [
      | true ↦ scan-Some p m c h
      | false ↦ elim (is_same m l) as (λ b. is_same m l ≡ b → cond (is_true p l) None (cond b (scan p (Some m) c) None) ≡ cond (b && list_all (is_same m) (rest p c)) (Some m) None) [
        | true ↦ λ e. let t : is_true p l ≡ false = same_is_true p m l e ∙ h in rw t (scan-Some p m c h)
        | false ↦ λ _. elim (is_true p l) as (λ b. cond {A = Option Lit} b None None ≡ None) [ true ↦ refl | false ↦ refl ]
      ] refl
    ]

pub scan-lone : (p : Partial) (c : List Lit) → scan p None c ≡ lone p c
scan-lone p [] = refl
scan-lone p (l ∷ c) =
    elim (is_false p l) as (λ b. cond b (scan p None c) (cond (is_true p l) None (scan p (Some l) c)) ≡ only p (cond (not b) (l ∷ rest p c) (rest p c))) [
      | true ↦ scan-lone p c
      | false ↦ elim (is_true p l) as (λ b. is_true p l ≡ b → cond b None (scan p (Some l) c) ≡ cond (not b && list_all (is_same l) (rest p c)) (Some l) None) [
        | true ↦ λ _. refl
        | false ↦ λ e. scan-Some p l c e
      ] refl
    ]

pub drop_read : {X : Type 0} (xs : List X) (i : ℕ) (x : X) → i < length xs → x ≡ get_or xs i x → drop i xs ≡ x ∷ drop (i + 1) xs
drop_read xs i x h e = rw add-one (go xs i x h e)
  where
    go : {X : Type 0} (xs : List X) (i : ℕ) (x : X) → i < length xs → x ≡ get_or xs i x → drop i xs ≡ x ∷ drop (suc i) xs
    go [] i x h e = absurd (omega arith)
    go (y ∷ xs) zero x h e = ap (λ z. z ∷ xs) (sym e)
    go (y ∷ xs) (suc i) x h e = go xs i x (omega arith) e

pub drop_end : {X : Type 0} (xs : List X) (i : ℕ) → length xs ≤ i → drop i xs ≡ []
drop_end [] zero h = refl
drop_end [] (suc i) h = refl
drop_end (y ∷ xs) zero h = absurd (omega arith)
drop_end (y ∷ xs) (suc i) h = drop_end xs i (omega arith)

-- the lone literal has no value, and is one of the clause's
pub unvalued : (o : Option Bool) (b : Bool) → is_value o b ≡ false → is_value o (not b) ≡ false → o ≡ None
unvalued None b h k = refl
unvalued (Some true) true h k = cc
unvalued (Some true) false h k = cc
unvalued (Some false) true h k = cc
unvalued (Some false) false h k = cc

pub only_is : (p : Partial) (c : List Lit) (l : Lit) → only p (rest p c) ≡ Some l → (p l.var ≡ None) × (l.var < clause_variables c)
only_is p [] l e = cc
only_is p (m ∷ c) l e =
    elim (is_false p m) as (λ b. is_false p m ≡ b → only p (cond (not b) (m ∷ rest p c) (rest p c)) ≡ Some l → (p l.var ≡ None) × (l.var < clause_variables (m ∷ c))) [
      | true ↦ λ _ e. let i = only_is p c l e in (i.0, omega (arith, i.1))
      | false ↦ λ f. elim (is_true p m) as (λ b. is_true p m ≡ b → cond (not b && list_all (is_same m) (rest p c)) (Some m) None ≡ Some l → (p l.var ≡ None) × (l.var < clause_variables (m ∷ c))) [
        | true ↦ λ _ e. cc
        | false ↦ λ t. elim (list_all (is_same m) (rest p c)) as (λ b. cond b (Some m) None ≡ Some l → (p l.var ≡ None) × (l.var < clause_variables (m ∷ c))) [
          | true ↦ λ e.
              let s : m ≡ l = some_same m l e in
              let v : m.var ≡ l.var = ap (λ (x : Lit). x.var) s in
              (ap p (sym v) ∙ unvalued (p m.var) m.positive t f, omega arith)
          | false ↦ λ e. cc
        ]
      ] refl
    ] refl e

-- one literal of the pass
pub scan_skip : (p : Partial) (found : Option Lit) (l : Lit) (c : List Lit) → is_false p l ≡ true → scan p found (l ∷ c) ≡ scan p found c
scan_skip p None l c h = rw h refl
scan_skip p (Some m) l c h = rw h refl

pub scan_true : (p : Partial) (found : Option Lit) (l : Lit) (c : List Lit) → is_false p l ≡ false → is_true p l ≡ true → scan p found (l ∷ c) ≡ None
scan_true p None l c h k = rw (h, k) refl
scan_true p (Some m) l c h k = rw (h, k) refl

pub scan_first : (p : Partial) (l : Lit) (c : List Lit) → is_false p l ≡ false → is_true p l ≡ false → scan p None (l ∷ c) ≡ scan p (Some l) c
scan_first p l c h k = rw (h, k) refl

pub scan_same : (p : Partial) (m l : Lit) (c : List Lit) → is_false p l ≡ false → is_true p l ≡ false → is_same m l ≡ true → scan p (Some m) (l ∷ c) ≡ scan p (Some m) c
scan_same p m l c h k s = rw (h, k, s) refl

pub scan_other : (p : Partial) (m l : Lit) (c : List Lit) → is_false p l ≡ false → is_true p l ≡ false → is_same m l ≡ false → scan p (Some m) (l ∷ c) ≡ None
scan_other p m l c h k s = rw (h, k, s) refl

-- the pass at the literal where it stops, and at its end
pub lone_at_true : (p : Partial) (found : Option Lit) (c d : List Lit) (i : ℕ) (l : Lit) → d ≡ c → i < length d → l ≡ get_or d i l
    → is_false p l ≡ false → is_true p l ≡ true → scan p None d ≡ scan p found (drop i d) → None ≡ lone p c
lone_at_true p found c d i l e n r h k so =
    sym (ap (lone p) (sym e) ∙ (sym (scan-lone p d) ∙ (so ∙ (ap (scan p found) (drop_read d i l n r) ∙ scan_true p found l (drop (i + 1) d) h k))))

pub lone_at_other : (p : Partial) (m : Lit) (c d : List Lit) (i : ℕ) (l : Lit) → d ≡ c → i < length d → l ≡ get_or d i l
    → is_false p l ≡ false → is_true p l ≡ false → is_same m l ≡ false → scan p None d ≡ scan p (Some m) (drop i d) → None ≡ lone p c
lone_at_other p m c d i l e n r h k s so =
    sym (ap (lone p) (sym e) ∙ (sym (scan-lone p d) ∙ (so ∙ (ap (scan p (Some m)) (drop_read d i l n r) ∙ scan_other p m l (drop (i + 1) d) h k s))))

pub lone_at_end : (p : Partial) (found : Option Lit) (c d : List Lit) (i : ℕ) → d ≡ c → length d ≤ i
    → scan p None d ≡ scan p found (drop i d) → found ≡ lone p c
lone_at_end p found c d i e n so =
    sym (ap (lone p) (sym e) ∙ (sym (scan-lone p d) ∙ (so ∙ (ap (scan p found) (drop_end d i n)))))
