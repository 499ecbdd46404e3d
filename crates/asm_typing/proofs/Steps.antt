-- Faults that are noted item by item.
use Rattle.std.proofs.Common.{◌≡◌, ℕ, zero, suc, ◌+◌, ◌<◌, Bool as Truth, true, false, List, [], ◌∷◌, ◌++◌, length, drop, take, get_or, slice_get, Option, Some, None, refl, ap, sym, ◌∙◌, drop-cons, add-one, append_assoc, append-nil, if◌then◌else◌}
use Rattle.std.specs.Prelude.{map, not, nat_eq, is_none, Result, Ok, Err, OnOk}
use Rattle.std.specs.List.{flat_map}
use Rattle.std.proofs.Math.Seq.{take-append_seam}
use Rattle.std.proofs.lemmas.List.{length-map}
use Rattle.asm_sign.specs.declared.function.Function.{Function}
use Rattle.asm_sign.specs.Vocabulary.{Vocabulary}
use Rattle.asm_node.specs.Types.{domain_type}
use Rattle.asm_node.specs.declared.term_type.TermType.{TermType}
use Rattle.asm_node.specs.declared.term_type.TermType.TheVariants.{Boolean}
use Rattle.asm_tree.specs.declared.term.RawName.{RawName}
use Rattle.asm_tree.specs.declared.term.RawBinder.{RawBinder}
use Rattle.asm_tree.specs.declared.term.RawBind.{RawBind}
use Rattle.asm_tree.specs.declared.term.RawCase.{RawCase}
use Rattle.asm_tree.specs.declared.term.RawTerm.{RawTerm}
use Rattle.asm_faults.specs.declared.fault.Fault.{Fault}
use Rattle.asm_faults.specs.declared.fault.ModelFault.TheVariants.{Duplicate, WrongArity, WrongType, Unbound}
use Rattle.asm_faults.specs.At.{fault_at, token}
use Rattle.asm_faults.specs.First.{noted}
use Rattle.asm_faults.specs.Files.{Of}
use Rattle.asm_faults.specs.DomainFaults.{repeats, is_listed}
use Rattle.asm_faults.specs.Terms.{Scope, Judged, judged, or_else, joined, first_type, asked, asked_each, call_faults, alike, mismatch, case_faults, LetBound, within, within_let, bind_faults, let_faults, type_named, same_type, variable_faults}
use Rattle.asm_faults.proofs.Noting.{noted_append}
use Rattle.asm_typing.specs.Pieces.{terms_judged, binds_judged, cases_judged, cases_before, variables_bound, differ}
use Rattle.asm_typing.proofs.Forms.{term_at, term_first}

-- ---- lists

-- faults of each item
pub each_step : {X : Type 0} (f : X → List Fault) (xs : List X) (i : ℕ) (d : X) (first : Option Fault) → i < length xs
    → noted first (flat_map f (drop i xs)) ≡ noted (noted first (f (get_or xs i d))) (flat_map f (drop (i + 1) xs))
each_step f xs i d first h = rw (add-one, drop-cons xs i d) (noted_append first (f (get_or xs i d)) (flat_map f (drop (suc i) xs)))

-- the same step with the item as code has it
pub each_next : {X : Type 0} (f : X → List Fault) (xs : List X) (i : ℕ) (x : X) (first : Option Fault) → i < length xs → x ≡ get_or xs i x
    → noted (noted first (f x)) (flat_map f (drop (i + 1) xs)) ≡ noted first (flat_map f (drop i xs))
each_next {X} f xs i x first h e = ap (λ (y : X). noted (noted first (f y)) (flat_map f (drop (i + 1) xs))) e ∙ sym (each_step f xs i x first h)

pub repeats_step : {X : Type 0} (n : ℕ) (f : X → RawName) (xs : List X) (i : ℕ) (d : X) (seen : List (List ℕ)) (first : Option Fault) → i < length xs
    → noted first (repeats seen (map (λ x. (n, f x)) (drop i xs)))
    ≡ noted (noted first (if is_listed seen (f (get_or xs i d)).text then fault_at Duplicate n (f (get_or xs i d)) ∷ [] else [])) (repeats (seen ++ (f (get_or xs i d)).text ∷ []) (map (λ x. (n, f x)) (drop (i + 1) xs)))
repeats_step n f xs i d seen first h =
    rw (add-one, drop-cons xs i d)
    (noted_append first (if is_listed seen (f (get_or xs i d)).text then fault_at Duplicate n (f (get_or xs i d)) ∷ [] else []) (repeats (seen ++ (f (get_or xs i d)).text ∷ []) (map (λ x. (n, f x)) (drop (suc i) xs))))

-- three lists, one after the other
pub noted_three : (first : Option Fault) (xs ys zs : List Fault) → noted first (xs ++ (ys ++ zs)) ≡ noted (noted (noted first xs) ys) zs
noted_three first xs ys zs = noted_append first xs (ys ++ zs) ∙ noted_append (noted first xs) ys zs

-- two lists, and then a third one
pub noted_two : (first : Option Fault) (xs ys zs : List Fault) → noted first (xs ++ (ys ++ zs)) ≡ noted (noted first (xs ++ ys)) zs
noted_two first xs ys zs = ap (noted first) (sym (append_assoc xs ys zs)) ∙ noted_append first (xs ++ ys) zs

-- ---- results

-- what holds anyway holds where there is a result
pub on_ok : {A E : Type 0} (r : Result A E) (P : Type 0) → P → OnOk r P
on_ok (Ok a) P p = p
on_ok (Err e) P p = tt

-- ---- types

pub or_else-none : (t : Option TermType) → or_else t None ≡ t
or_else-none None = refl
or_else-none (Some t) = refl

or_else-assoc : (a b c : Option TermType) → or_else (or_else a b) c ≡ or_else a (or_else b c)
or_else-assoc None b c = refl
or_else-assoc (Some t) b c = refl

-- the first type of items, and then of others
first_type_append : (s : Scope) (js ks : List Judged) → first_type s (js ++ ks) ≡ or_else (first_type s js) (first_type s ks)
first_type_append s [] ks = refl
first_type_append s (j ∷ js) ks = ap (or_else (j.type s)) (first_type_append s js ks) ∙ sym (or_else-assoc (j.type s) (first_type s js) (first_type s ks))

pub first_type_last : (s : Scope) (js : List Judged) (k : Judged) → first_type s (js ++ k ∷ []) ≡ or_else (first_type s js) (k.type s)
first_type_last s js k = first_type_append s js (k ∷ []) ∙ ap (or_else (first_type s js)) (or_else-none (k.type s))

pub head_of : {X : Type 0} (xs : List X) (i : ℕ) → slice_get (drop i xs) 0 ≡ slice_get xs i
head_of [] zero = refl
head_of [] (suc i) = refl
head_of (x ∷ xs) zero = refl
head_of (x ∷ xs) (suc i) = head_of xs i

pub tail_of : {X : Type 0} (xs : List X) (i : ℕ) → drop 1 (drop i xs) ≡ drop (suc i) xs
tail_of [] zero = refl
tail_of [] (suc i) = refl
tail_of (x ∷ xs) zero = refl
tail_of (x ∷ xs) (suc i) = tail_of xs i

module _ (v : Vocabulary) (n : ℕ) where
  -- ---- asked types

  asked_first : (types : List (Option TermType)) (s : Scope) (j : Judged) (js : List Judged) → asked_each v n types s (j ∷ js) ≡ asked v n (joined (slice_get types 0)) s j ++ asked_each v n (drop 1 types) s js
  asked_first [] s j js = refl
  asked_first (t ∷ ts) s j js = refl

  pub asked_step : (types : List (Option TermType)) (s : Scope) (ts : List RawTerm) (i : ℕ) (d : RawTerm) (first : Option Fault) → i < length ts
      → noted first (asked_each v n (drop i types) s (terms_judged v n (drop i ts)))
      ≡ noted (noted first (asked v n (joined (slice_get types i)) s (judged v n (get_or ts i d)))) (asked_each v n (drop (i + 1) types) s (terms_judged v n (drop (i + 1) ts)))
  asked_step types s ts i d first h =
      rw (add-one, drop-cons ts i d)
      (ap (noted first) (asked_first (drop i types) s (judged v n (get_or ts i d)) (terms_judged v n (drop (suc i) ts)))
      ∙ ap (λ (t : Option (Option TermType)). noted first (asked v n (joined t) s (judged v n (get_or ts i d)) ++ asked_each v n (drop 1 (drop i types)) s (terms_judged v n (drop (suc i) ts)))) (head_of types i)
      ∙ ap (λ (rest : List (Option TermType)). noted first (asked v n (joined (slice_get types i)) s (judged v n (get_or ts i d)) ++ asked_each v n rest s (terms_judged v n (drop (suc i) ts)))) (tail_of types i)
      ∙ noted_append first (asked v n (joined (slice_get types i)) s (judged v n (get_or ts i d))) (asked_each v n (drop (suc i) types) s (terms_judged v n (drop (suc i) ts))))

  asked_none : (types : List (Option TermType)) (s : Scope) → asked_each v n types s [] ≡ []
  asked_none [] s = refl
  asked_none (t ∷ ts) s = refl

  pub asked_end : (types : List (Option TermType)) (s : Scope) (first : Option Fault) → noted first (asked_each v n types s []) ≡ first
  asked_end types s first = ap (noted first) (asked_none types s)

  -- a term and a type that it is asked for
  mismatch_is : (want own : Option TermType) (at : ℕ) (name : List ℕ) → mismatch v n want own at name ≡ (if differ want own then token WrongType n at name ∷ [] else [])
  mismatch_is None own at name = refl
  mismatch_is (Some want) None at name = refl
  mismatch_is (Some want) (Some own) at name = by (same_type want own)
    where
      by : (b : Truth) → (if b then [] else token WrongType n at name ∷ []) ≡ (if not b then token WrongType n at name ∷ [] else [])
      by true = refl
      by false = refl

  pub asked_noted : (first : Option Fault) (want : Option TermType) (s : Scope) (t : RawTerm)
      → noted first (asked v n want s (judged v n t)) ≡ noted (noted first ((judged v n t).faults s)) (if differ want ((judged v n t).type s) then token WrongType n t.at t.first ∷ [] else [])
  asked_noted first want s t =
      ap (λ (at : ℕ). noted first ((judged v n t).faults s ++ mismatch v n want ((judged v n t).type s) at (judged v n t).first)) (term_at v n t)
      ∙ ap (λ (name : List ℕ). noted first ((judged v n t).faults s ++ mismatch v n want ((judged v n t).type s) t.at name)) (term_first v n t)
      ∙ ap (λ (xs : List Fault). noted first ((judged v n t).faults s ++ xs)) (mismatch_is want ((judged v n t).type s) t.at t.first)
      ∙ noted_append first ((judged v n t).faults s) (if differ want ((judged v n t).type s) then token WrongType n t.at t.first ∷ [] else [])

  pub unbound_is : (at : ℕ) (x : List ℕ) (bound : Option (Option TermType)) → variable_faults v n at x bound ≡ (if is_none bound then token Unbound n at x ∷ [] else [])
  unbound_is at x None = refl
  unbound_is at x (Some t) = refl

  -- ---- calls

  pub call_known : (first : Option Fault) (at : ℕ) (f : List ℕ) (s : Scope) (ts : List RawTerm) (g : Function)
      → noted first (call_faults v n at f s (terms_judged v n ts) (Some g))
      ≡ noted (noted first (if nat_eq (length g.domains) (length ts) then [] else token WrongArity n at f ∷ [])) (asked_each v n (map (domain_type v.domains) g.domains) s (terms_judged v n ts))
  call_known first at f s ts g =
      ap (λ (k : ℕ). noted first ((if nat_eq (length g.domains) k then [] else token WrongArity n at f ∷ []) ++ asked_each v n (map (domain_type v.domains) g.domains) s (terms_judged v n ts))) (length-map ts (judged v n))
      ∙ noted_append first (if nat_eq (length g.domains) (length ts) then [] else token WrongArity n at f ∷ []) (asked_each v n (map (domain_type v.domains) g.domains) s (terms_judged v n ts))

  -- ---- cases

  pub cases_step : (want value : Option TermType) (s : Scope) (cs : List RawCase) (i : ℕ) (d : RawCase) (first : Option Fault) → i < length cs
      → noted first (cases_before v n want value s (cases_judged v n (drop i cs)))
      ≡ noted (noted (noted first (asked v n want s (judged v n (get_or cs i d).label))) (asked v n value s (judged v n (get_or cs i d).value)))
      (cases_before v n (or_else want ((judged v n (get_or cs i d).label).type s)) (or_else value ((judged v n (get_or cs i d).value).type s)) s (cases_judged v n (drop (i + 1) cs)))
  cases_step want value s cs i d first h =
      rw (add-one, drop-cons cs i d)
      (noted_three first (asked v n want s (judged v n (get_or cs i d).label)) (asked v n value s (judged v n (get_or cs i d).value))
      (cases_before v n (or_else want ((judged v n (get_or cs i d).label).type s)) (or_else value ((judged v n (get_or cs i d).value).type s)) s (cases_judged v n (drop (suc i) cs))))

  pub values_step : (value : Option TermType) (s : Scope) (cs : List RawCase) (i : ℕ) (d : RawCase) → i < length cs
      → or_else value (first_type s (map (λ (c : Judged × Judged). c.1) (cases_judged v n (drop i cs))))
      ≡ or_else (or_else value ((judged v n (get_or cs i d).value).type s)) (first_type s (map (λ (c : Judged × Judged). c.1) (cases_judged v n (drop (i + 1) cs))))
  values_step value s cs i d h =
      rw (add-one, drop-cons cs i d) (sym (or_else-assoc value ((judged v n (get_or cs i d).value).type s) (first_type s (map (λ (c : Judged × Judged). c.1) (cases_judged v n (drop (suc i) cs))))))

  -- the cases of a `switch`, and then its last value
  cases_whole : (label value : Option TermType) (s : Scope) (cs : List (Judged × Judged)) (k : Judged)
      → case_faults v n label value s cs k ≡ cases_before v n label value s cs ++ asked v n (or_else value (first_type s (map (λ (c : Judged × Judged). c.1) cs))) s k
  cases_whole label value s [] k = ap (λ (t : Option TermType). asked v n t s k) (sym (or_else-none value))
  cases_whole label value s ((l, j) ∷ cs) k =
      ap (λ (rest : List Fault). asked v n label s l ++ (asked v n value s j ++ rest))
      (cases_whole (or_else label (l.type s)) (or_else value (j.type s)) s cs k
      ∙ ap (λ (t : Option TermType). cases_before v n (or_else label (l.type s)) (or_else value (j.type s)) s cs ++ asked v n t s k) (or_else-assoc value (j.type s) (first_type s (map (λ (c : Judged × Judged). c.1) cs))))
      ∙ simp append_assoc

  pub switch_noted : (first : Option Fault) (xs : List Fault) (label : Option TermType) (s : Scope) (cs : List (Judged × Judged)) (k : Judged)
      → noted first (xs ++ case_faults v n label None s cs k) ≡ noted (noted (noted first xs) (cases_before v n label None s cs)) (asked v n (first_type s (map (λ (c : Judged × Judged). c.1) cs)) s k)
  switch_noted first xs label s cs k =
      ap (λ (ys : List Fault). noted first (xs ++ ys)) (cases_whole label None s cs k)
      ∙ noted_three first xs (cases_before v n label None s cs) (asked v n (first_type s (map (λ (c : Judged × Judged). c.1) cs)) s k)

  -- two terms of one type
  pub alike_noted : (first : Option Fault) (want : Option TermType) (s : Scope) (j k : Judged)
      → noted first (alike v n want s (j ∷ k ∷ [])) ≡ noted (noted first (asked v n want s j)) (asked v n (or_else want (j.type s)) s k)
  alike_noted first want s j k = noted_three first (asked v n want s j) (asked v n (or_else want (j.type s)) s k) []

  pub cond_noted : (first : Option Fault) (s : Scope) (g j k : Judged)
      → noted first (asked v n (Some Boolean) s g ++ alike v n None s (j ∷ k ∷ [])) ≡ noted (noted (noted first (asked v n (Some Boolean) s g)) (asked v n None s j)) (asked v n (j.type s) s k)
  cond_noted first s g j k = noted_append first (asked v n (Some Boolean) s g) (alike v n None s (j ∷ k ∷ [])) ∙ alike_noted (noted first (asked v n (Some Boolean) s g)) None s j k

  pub alike_type : (s : Scope) (j k : Judged) → first_type s (j ∷ k ∷ []) ≡ or_else (j.type s) (k.type s)
  alike_type s j k = ap (or_else (j.type s)) (or_else-none (k.type s))

  -- ---- binders

  -- one more binder before others
  pub within_step : (bs : List RawBinder) (s : Scope) (k j : ℕ) (d : RawBinder) → j < length bs → k ≡ j + 1
      → within v n (drop j bs) s ≡ within v n (drop k bs) s ++ record { name = (get_or bs j d).variable.text; type = type_named v (get_or bs j d).domain.text } ∷ []
  within_step bs s k j d h e = rw (e, add-one, drop-cons bs j d) refl

  within_tail : (bs : List RawBinder) (s : Scope) → within v n bs s ≡ s ++ within v n bs []
  within_tail [] s = sym (append-nil s)
  within_tail (b ∷ bs) s =
      ap (λ (t : Scope). t ++ record { name = b.variable.text; type = type_named v b.domain.text } ∷ []) (within_tail bs s)
      ∙ append_assoc s (within v n bs []) (record { name = b.variable.text; type = type_named v b.domain.text } ∷ [])

  pub within_left : (bs : List RawBinder) (s : Scope) → take (length s) (within v n bs s) ≡ s
  within_left bs s = ap (take (length s)) (within_tail bs s) ∙ take-append_seam s (within v n bs [])

  -- ---- `let`

  pub let_scope : (bs : List RawBind) (i : ℕ) (d : RawBind) (s : Scope) → i < length bs
      → within_let v n (binds_judged v n (drop i bs)) s ≡ within_let v n (binds_judged v n (drop (i + 1) bs)) (s ++ record { name = (get_or bs i d).variable.text; type = (judged v n (get_or bs i d).term).type s } ∷ [])
  let_scope bs i d s h = rw (add-one, drop-cons bs i d) refl

  pub let_step : (bs : List RawBind) (i : ℕ) (d : RawBind) (s : Scope) (first : Option Fault) → i < length bs
      → noted first (bind_faults v n (binds_judged v n (drop i bs)) s)
      ≡ noted (noted first ((judged v n (get_or bs i d).term).faults s)) (bind_faults v n (binds_judged v n (drop (i + 1) bs)) (s ++ record { name = (get_or bs i d).variable.text; type = (judged v n (get_or bs i d).term).type s } ∷ []))
  let_step bs i d s first h =
      rw (add-one, drop-cons bs i d)
      (noted_append first ((judged v n (get_or bs i d).term).faults s) (bind_faults v n (binds_judged v n (drop (suc i) bs)) (s ++ record { name = (get_or bs i d).variable.text; type = (judged v n (get_or bs i d).term).type s } ∷ [])))

  variables_are : (bs : List RawBind) → map (λ (b : LetBound v n). (n, b.0)) (binds_judged v n bs) ≡ variables_bound n bs
  variables_are [] = refl
  variables_are (b ∷ bs) = ap (λ (xs : List (Of RawName)). (n, b.variable) ∷ xs) (variables_are bs)

  pub let_noted : (first : Option Fault) (bs : List RawBind) (s : Scope)
      → noted first (let_faults v n (binds_judged v n bs) s) ≡ noted (noted first (repeats [] (variables_bound n bs))) (bind_faults v n (binds_judged v n bs) s)
  let_noted first bs s =
      ap (λ (names : List (Of RawName)). noted first (repeats [] names ++ bind_faults v n (binds_judged v n bs) s)) (variables_are bs)
      ∙ noted_append first (repeats [] (variables_bound n bs)) (bind_faults v n (binds_judged v n bs) s)

  let_tail : List (LetBound v n) → Scope → Scope
  let_tail [] s = []
  let_tail ((x, j) ∷ bs) s = record { name = x.text; type = j.type s } ∷ let_tail bs (s ++ record { name = x.text; type = j.type s } ∷ [])

  let_prefix : (bs : List (LetBound v n)) (s : Scope) → within_let v n bs s ≡ s ++ let_tail bs s
  unfolding let_tail
  let_prefix [] s = sym (append-nil s)
  let_prefix ((x, j) ∷ bs) s =
      let_prefix bs (s ++ record { name = x.text; type = j.type s } ∷ [])
      ∙ append_assoc s (record { name = x.text; type = j.type s } ∷ []) (let_tail bs (s ++ record { name = x.text; type = j.type s } ∷ []))

  pub let_left : (bs : List (LetBound v n)) (s : Scope) → take (length s) (within_let v n bs s) ≡ s
  let_left bs s = ap (take (length s)) (let_prefix bs s) ∙ take-append_seam s (let_tail bs s)

  -- ---- the same steps with the item as code has it

  pub asked_next : (types : List (Option TermType)) (s : Scope) (ts : List RawTerm) (i : ℕ) (x : RawTerm) (first : Option Fault) → i < length ts → x ≡ get_or ts i x
      → noted (noted first (asked v n (joined (slice_get types i)) s (judged v n x))) (asked_each v n (drop (i + 1) types) s (terms_judged v n (drop (i + 1) ts)))
      ≡ noted first (asked_each v n (drop i types) s (terms_judged v n (drop i ts)))
  asked_next types s ts i x first h e =
      ap (λ (y : RawTerm). noted (noted first (asked v n (joined (slice_get types i)) s (judged v n y))) (asked_each v n (drop (i + 1) types) s (terms_judged v n (drop (i + 1) ts)))) e
      ∙ sym (asked_step types s ts i x first h)

  pub cases_next : (want value : Option TermType) (s : Scope) (cs : List RawCase) (i : ℕ) (x : RawCase) (first : Option Fault) → i < length cs → x ≡ get_or cs i x
      → noted (noted (noted first (asked v n want s (judged v n x.label))) (asked v n value s (judged v n x.value)))
      (cases_before v n (or_else want ((judged v n x.label).type s)) (or_else value ((judged v n x.value).type s)) s (cases_judged v n (drop (i + 1) cs)))
      ≡ noted first (cases_before v n want value s (cases_judged v n (drop i cs)))
  cases_next want value s cs i x first h e =
      ap (λ (y : RawCase). noted (noted (noted first (asked v n want s (judged v n y.label))) (asked v n value s (judged v n y.value)))
      (cases_before v n (or_else want ((judged v n y.label).type s)) (or_else value ((judged v n y.value).type s)) s (cases_judged v n (drop (i + 1) cs)))) e
      ∙ sym (cases_step want value s cs i x first h)

  pub values_next : (value : Option TermType) (s : Scope) (cs : List RawCase) (i : ℕ) (x : RawCase) → i < length cs → x ≡ get_or cs i x
      → or_else (or_else value ((judged v n x.value).type s)) (first_type s (map (λ (c : Judged × Judged). c.1) (cases_judged v n (drop (i + 1) cs))))
      ≡ or_else value (first_type s (map (λ (c : Judged × Judged). c.1) (cases_judged v n (drop i cs))))
  values_next value s cs i x h e =
      ap (λ (y : RawCase). or_else (or_else value ((judged v n y.value).type s)) (first_type s (map (λ (c : Judged × Judged). c.1) (cases_judged v n (drop (i + 1) cs))))) e
      ∙ sym (values_step value s cs i x h)

  pub scope_next : (bs : List RawBind) (i : ℕ) (x : RawBind) (s : Scope) → i < length bs → x ≡ get_or bs i x
      → within_let v n (binds_judged v n (drop (i + 1) bs)) (s ++ record { name = x.variable.text; type = (judged v n x.term).type s } ∷ []) ≡ within_let v n (binds_judged v n (drop i bs)) s
  scope_next bs i x s h e =
      ap (λ (y : RawBind). within_let v n (binds_judged v n (drop (i + 1) bs)) (s ++ record { name = y.variable.text; type = (judged v n y.term).type s } ∷ [])) e ∙ sym (let_scope bs i x s h)

  pub let_next : (bs : List RawBind) (i : ℕ) (x : RawBind) (s : Scope) (first : Option Fault) → i < length bs → x ≡ get_or bs i x
      → noted (noted first ((judged v n x.term).faults s)) (bind_faults v n (binds_judged v n (drop (i + 1) bs)) (s ++ record { name = x.variable.text; type = (judged v n x.term).type s } ∷ []))
      ≡ noted first (bind_faults v n (binds_judged v n (drop i bs)) s)
  let_next bs i x s first h e =
      ap (λ (y : RawBind). noted (noted first ((judged v n y.term).faults s)) (bind_faults v n (binds_judged v n (drop (i + 1) bs)) (s ++ record { name = y.variable.text; type = (judged v n y.term).type s } ∷ []))) e
      ∙ sym (let_step bs i x s first h)
