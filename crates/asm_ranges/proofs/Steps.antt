-- Faults that are noted item by item.
use Rattle.std.proofs.Common.{◌≡◌, ℕ, suc, ◌+◌, ◌-◌, ◌<◌, List, [], ◌∷◌, ◌++◌, length, drop, take, get_or, Option, refl, ap, sym, ◌∙◌, drop-cons, add-one, append_assoc, append-nil, arith}
use Rattle.std.specs.List.{flat_map}
use Rattle.std.proofs.Math.Seq.{take-append_seam}
use Rattle.asm_sign.specs.Vocabulary.{Vocabulary}
use Rattle.asm_tree.specs.declared.term.RawBinder.{RawBinder}
use Rattle.asm_tree.specs.declared.term.RawBind.{RawBind}
use Rattle.asm_tree.specs.declared.term.RawCase.{RawCase}
use Rattle.asm_tree.specs.declared.term.RawTerm.{RawTerm}
use Rattle.asm_faults.specs.declared.fault.Fault.{Fault}
use Rattle.asm_faults.specs.First.{noted}
use Rattle.asm_faults.specs.Ranges.{Spread, either, Scope, Measured, measured, Bound, bound, each, case_faults, either_case, within, within_let, bind_faults, spread_named}
use Rattle.asm_faults.proofs.Noting.{noted_append}
use Rattle.asm_ranges.specs.Pieces.{terms_measured, cases_measured}
use Rattle.asm_ranges.proofs.Either.{either-assoc}

-- faults of each item
pub each_step : {X : Type 0} (f : X → List Fault) (xs : List X) (i : ℕ) (d : X) (first : Option Fault) → i < length xs
    → noted first (flat_map f (drop i xs)) ≡ noted (noted first (f (get_or xs i d))) (flat_map f (drop (i + 1) xs))
each_step f xs i d first h = rw (add-one, drop-cons xs i d) (noted_append first (f (get_or xs i d)) (flat_map f (drop (suc i) xs)))

pub each_next : {X : Type 0} (f : X → List Fault) (xs : List X) (i : ℕ) (x : X) (first : Option Fault) → i < length xs → x ≡ get_or xs i x
    → noted (noted first (f x)) (flat_map f (drop (i + 1) xs)) ≡ noted first (flat_map f (drop i xs))
each_next {X} f xs i x first h is = ap (λ (y : X). noted (noted first (f y)) (flat_map f (drop (i + 1) xs))) is ∙ sym (each_step f xs i x first h)

-- three lists, one after the other
pub noted_three : (first : Option Fault) (xs ys zs : List Fault) → noted first (xs ++ (ys ++ zs)) ≡ noted (noted (noted first xs) ys) zs
noted_three first xs ys zs = noted_append first xs (ys ++ zs) ∙ noted_append (noted first xs) ys zs

pub noted_pair : (first : Option Fault) (xs ys zs : List Fault) → noted first ((xs ++ ys) ++ zs) ≡ noted (noted (noted first xs) ys) zs
noted_pair first xs ys zs = noted_append first (xs ++ ys) zs ∙ ap (λ (f : Option Fault). noted f zs) (noted_append first xs ys)

module _ (v : Vocabulary) (n : ℕ) where
  -- ---- lists of terms

  pub terms_step : (s : Scope) (ts : List RawTerm) (i : ℕ) (d : RawTerm) (first : Option Fault) → i < length ts
      → noted first (each s (terms_measured v n (drop i ts))) ≡ noted (noted first ((measured v n (get_or ts i d)).faults s)) (each s (terms_measured v n (drop (i + 1) ts)))
  terms_step s ts i d first h =
      rw (add-one, drop-cons ts i d) (noted_append first ((measured v n (get_or ts i d)).faults s) (each s (terms_measured v n (drop (suc i) ts))))

  -- ---- cases

  pub cases_step : (s : Scope) (cs : List RawCase) (i : ℕ) (d : RawCase) (first : Option Fault) → i < length cs
      → noted first (case_faults s (cases_measured v n (drop i cs)))
      ≡ noted (noted (noted first ((measured v n (get_or cs i d).label).faults s)) ((measured v n (get_or cs i d).value).faults s)) (case_faults s (cases_measured v n (drop (i + 1) cs)))
  cases_step s cs i d first h =
      rw (add-one, drop-cons cs i d)
      (noted_pair first ((measured v n (get_or cs i d).label).faults s) ((measured v n (get_or cs i d).value).faults s) (case_faults s (cases_measured v n (drop (suc i) cs))))

  pub values_step : (s : Scope) (cs : List RawCase) (i : ℕ) (d : RawCase) (r : Spread) (other : Measured) → i < length cs
      → either r (either_case s (cases_measured v n (drop i cs)) other)
      ≡ either (either r ((measured v n (get_or cs i d).value).spread s)) (either_case s (cases_measured v n (drop (i + 1) cs)) other)
  values_step s cs i d r other h =
      rw (add-one, drop-cons cs i d) (sym (either-assoc r ((measured v n (get_or cs i d).value).spread s) (either_case s (cases_measured v n (drop (suc i) cs)) other)))

  -- ---- `let`

  pub let_scope : (bs : List RawBind) (i : ℕ) (d : RawBind) (s : Scope) → i < length bs
      → within_let (bound v n (drop i bs)) s ≡ within_let (bound v n (drop (i + 1) bs)) (s ++ record { name = (get_or bs i d).variable.text; spread = (measured v n (get_or bs i d).term).spread s } ∷ [])
  let_scope bs i d s h = rw (add-one, drop-cons bs i d) refl

  pub let_step : (bs : List RawBind) (i : ℕ) (d : RawBind) (s : Scope) (first : Option Fault) → i < length bs
      → noted first (bind_faults (bound v n (drop i bs)) s)
      ≡ noted (noted first ((measured v n (get_or bs i d).term).faults s)) (bind_faults (bound v n (drop (i + 1) bs)) (s ++ record { name = (get_or bs i d).variable.text; spread = (measured v n (get_or bs i d).term).spread s } ∷ []))
  let_step bs i d s first h =
      rw (add-one, drop-cons bs i d)
      (noted_append first ((measured v n (get_or bs i d).term).faults s) (bind_faults (bound v n (drop (suc i) bs)) (s ++ record { name = (get_or bs i d).variable.text; spread = (measured v n (get_or bs i d).term).spread s } ∷ [])))

let_tail : List Bound → Scope → Scope
let_tail [] s = []
let_tail ((x, m) ∷ bs) s = record { name = x; spread = m.spread s } ∷ let_tail bs (s ++ record { name = x; spread = m.spread s } ∷ [])

let_prefix : (bs : List Bound) (s : Scope) → within_let bs s ≡ s ++ let_tail bs s
unfolding let_tail
let_prefix [] s = sym (append-nil s)
let_prefix ((x, m) ∷ bs) s =
    let_prefix bs (s ++ record { name = x; spread = m.spread s } ∷ [])
    ∙ append_assoc s (record { name = x; spread = m.spread s } ∷ []) (let_tail bs (s ++ record { name = x; spread = m.spread s } ∷ []))

pub let_left : (bs : List Bound) (s : Scope) → take (length s) (within_let bs s) ≡ s
let_left bs s = ap (take (length s)) (let_prefix bs s) ∙ take-append_seam s (let_tail bs s)

module _ (v : Vocabulary) where
  -- ---- binders

  within_step : (bs : List RawBinder) (s : Scope) (k j : ℕ) (d : RawBinder) → j < length bs → k ≡ j + 1
      → within v (drop j bs) s ≡ within v (drop k bs) s ++ record { name = (get_or bs j d).variable.text; spread = spread_named v (get_or bs j d).domain.text } ∷ []
  within_step bs s k j d h e = rw (e, add-one, drop-cons bs j d) refl

  -- binders from the last to the first
  pub within_next : (bs : List RawBinder) (s : Scope) (i : ℕ) (d : RawBinder) → i < length bs
      → within v (drop (length bs - 1 - i) bs) s
      ≡ within v (drop (length bs - i) bs) s ++ record { name = (get_or bs (length bs - 1 - i) d).variable.text; spread = spread_named v (get_or bs (length bs - 1 - i) d).domain.text } ∷ []
  within_next bs s i d h = within_step bs s (length bs - i) (length bs - 1 - i) d (omega arith) (omega arith)

  within_tail : (bs : List RawBinder) (s : Scope) → within v bs s ≡ s ++ within v bs []
  within_tail [] s = sym (append-nil s)
  within_tail (b ∷ bs) s =
      ap (λ (t : Scope). t ++ record { name = b.variable.text; spread = spread_named v b.domain.text } ∷ []) (within_tail bs s)
      ∙ append_assoc s (within v bs []) (record { name = b.variable.text; spread = spread_named v b.domain.text } ∷ [])

  pub within_left : (bs : List RawBinder) (s : Scope) → take (length s) (within v bs s) ≡ s
  within_left bs s = ap (take (length s)) (within_tail bs s) ∙ take-append_seam s (within v bs [])

-- ---- the same at an item that is at hand

pub terms_next : (v : Vocabulary) (n : ℕ) (s : Scope) (ts : List RawTerm) (i : ℕ) (x : RawTerm) (first : Option Fault) → i < length ts → x ≡ get_or ts i x
    → noted (noted first ((measured v n x).faults s)) (each s (terms_measured v n (drop (i + 1) ts))) ≡ noted first (each s (terms_measured v n (drop i ts)))
terms_next v n s ts i x first h is =
    ap (λ (y : RawTerm). noted (noted first ((measured v n y).faults s)) (each s (terms_measured v n (drop (i + 1) ts)))) is ∙ sym (terms_step v n s ts i x first h)

pub cases_next : (v : Vocabulary) (n : ℕ) (s : Scope) (cs : List RawCase) (i : ℕ) (x : RawCase) (first : Option Fault) → i < length cs → x ≡ get_or cs i x
    → noted (noted (noted first ((measured v n x.label).faults s)) ((measured v n x.value).faults s)) (case_faults s (cases_measured v n (drop (i + 1) cs))) ≡ noted first (case_faults s (cases_measured v n (drop i cs)))
cases_next v n s cs i x first h is =
    ap (λ (y : RawCase). noted (noted (noted first ((measured v n y.label).faults s)) ((measured v n y.value).faults s)) (case_faults s (cases_measured v n (drop (i + 1) cs)))) is ∙ sym (cases_step v n s cs i x first h)

pub values_next : (v : Vocabulary) (n : ℕ) (s : Scope) (cs : List RawCase) (i : ℕ) (x : RawCase) (r : Spread) (other : Measured) → i < length cs → x ≡ get_or cs i x
    → either (either r ((measured v n x.value).spread s)) (either_case s (cases_measured v n (drop (i + 1) cs)) other) ≡ either r (either_case s (cases_measured v n (drop i cs)) other)
values_next v n s cs i x r other h is =
    ap (λ (y : RawCase). either (either r ((measured v n y.value).spread s)) (either_case s (cases_measured v n (drop (i + 1) cs)) other)) is ∙ sym (values_step v n s cs i x r other h)

abbrev pub with_bind : Vocabulary → ℕ → RawBind → Scope → Scope
with_bind v n b s = s ++ record { name = b.variable.text; spread = (measured v n b.term).spread s } ∷ []

pub scope_next : (v : Vocabulary) (n : ℕ) (bs : List RawBind) (i : ℕ) (x : RawBind) (s : Scope) → i < length bs → x ≡ get_or bs i x
    → within_let (bound v n (drop (i + 1) bs)) (with_bind v n x s) ≡ within_let (bound v n (drop i bs)) s
scope_next v n bs i x s h is = ap (λ (y : RawBind). within_let (bound v n (drop (i + 1) bs)) (with_bind v n y s)) is ∙ sym (let_scope v n bs i x s h)

pub let_next : (v : Vocabulary) (n : ℕ) (bs : List RawBind) (i : ℕ) (x : RawBind) (s : Scope) (first : Option Fault) → i < length bs → x ≡ get_or bs i x
    → noted (noted first ((measured v n x.term).faults s)) (bind_faults (bound v n (drop (i + 1) bs)) (with_bind v n x s)) ≡ noted first (bind_faults (bound v n (drop i bs)) s)
let_next v n bs i x s first h is =
    ap (λ (y : RawBind). noted (noted first ((measured v n y.term).faults s)) (bind_faults (bound v n (drop (i + 1) bs)) (with_bind v n y s))) is ∙ sym (let_step v n bs i x s first h)
