-- Names that are found in tables.
use Rattle.std.proofs.Common.{◌≡◌, ℕ, suc, ◌+◌, Bool as Truth, true, false, cond, List, [], ◌∷◌, ◌++◌, length, slice_get, Option, Some, None, refl, sym, ap, ◌∙◌, arith}
use Rattle.std.specs.Prelude.{bytes_eq, is_some}
use Rattle.std.specs.List.{position, position_from, list_any}
use Rattle.std.specs.Option.{option_map}
use Rattle.std.proofs.lemmas.Iterator.Adapters.{position_from-zero}
use Rattle.asm_node.specs.declared.term_type.TermType.{TermType}
use Rattle.asm_faults.specs.At.{Name}
use Rattle.asm_faults.specs.DomainFaults.{is_listed}
use Rattle.asm_faults.specs.Bodies.{RuleHead, head_named}
use Rattle.name_table.specs.Numbered.{number_of}
use Rattle.asm_typing.specs.Heads.{heads_from}

-- ---- places

any_from : {X : Type 0} (p : X → Truth) (i : ℕ) (xs : List X) → is_some (position_from p i xs) ≡ list_any p xs
any_from p i [] = refl
any_from p i (x ∷ xs) = by (p x) refl (any_from p (i + 1) xs)
  where
    by : (b : Truth) → p x ≡ b → is_some (position_from p (i + 1) xs) ≡ list_any p xs → is_some (position_from p i (x ∷ xs)) ≡ list_any p (x ∷ xs)
    by true e h = rw e refl
    by false e h = rw e h

pub is_some-position : {X : Type 0} (p : X → Truth) (xs : List X) → is_some (position p xs) ≡ list_any p xs
is_some-position p xs = ap is_some (position_from-zero p xs) ∙ any_from p 0 xs

pub is_some-number_of : (names : List Name) (name : Name) → is_some (number_of names name) ≡ is_listed names name
is_some-number_of names name = is_some-position (λ (other : Name). bytes_eq other name) names

shift : {X : Type 0} (p : X → Truth) (i : ℕ) (xs : List X) → position_from p (i + 1) xs ≡ option_map suc (position_from p i xs)
shift p i [] = refl
shift p i (x ∷ xs) = by (p x) (shift p (i + 1) xs)
  where
    by : (b : Truth) → position_from p (i + 1 + 1) xs ≡ option_map suc (position_from p (i + 1) xs) → cond b (Some (i + 1)) (position_from p (i + 1 + 1) xs) ≡ option_map suc (cond b (Some i) (position_from p (i + 1) xs))
    by true h = ap Some (omega arith)
    by false h = h

position-cons : {X : Type 0} (p : X → Truth) (x : X) (xs : List X) → position p (x ∷ xs) ≡ cond (p x) (Some 0) (option_map suc (position p xs))
position-cons p x xs =
    position_from-zero p (x ∷ xs)
    ∙ ap (λ (r : Option ℕ). cond (p x) (Some 0) r) (shift p 0 xs)
    ∙ ap (λ (r : Option ℕ). cond (p x) (Some 0) (option_map suc r)) (sym (position_from-zero p xs))

-- ---- what stands at a place

abbrev pub at : {X : Type 0} → Option ℕ → List X → Option X
at None xs = None
at (Some k) xs = slice_get xs k

at-suc : {X : Type 0} (k : Option ℕ) (x : X) (xs : List X) → at (option_map suc k) (x ∷ xs) ≡ at k xs
at-suc None x xs = refl
at-suc (Some k) x xs = refl

-- the item at the place of a name
abbrev pub paired : {X : Type 0} → Name → List Name → List X → Option X
paired e (name ∷ names) (x ∷ xs) = cond (bytes_eq name e) (Some x) (paired e names xs)
paired e _ _ = None

pub paired_at : {X : Type 0} (e : Name) (names : List Name) (xs : List X) → length names ≡ length xs → at (number_of names e) xs ≡ paired e names xs
paired_at e [] [] h = refl
paired_at e [] (x ∷ xs) h = refl
paired_at e (name ∷ names) [] h = absurd (omega (arith, h))
paired_at e (name ∷ names) (x ∷ xs) h =
    ap (λ (k : Option ℕ). at k (x ∷ xs)) (position-cons (λ (other : Name). bytes_eq other e) name names) ∙ by (bytes_eq name e) (at-suc (number_of names e) x xs ∙ paired_at e names xs (omega (arith, h)))
  where
    by : (b : Truth) → at (option_map suc (number_of names e)) (x ∷ xs) ≡ paired e names xs → at (cond b (Some 0) (option_map suc (number_of names e))) (x ∷ xs) ≡ cond b (Some x) (paired e names xs)
    by true g = refl
    by false g = g

-- ---- rules

heads_paired : (names : List Name) (lists : List (List (Option TermType))) (r : Name) → option_map (λ (h : RuleHead). h.types) (head_named (heads_from names lists) r) ≡ paired r names lists
heads_paired [] lists r = refl
heads_paired (name ∷ names) [] r = refl
heads_paired (name ∷ names) (types ∷ lists) r = by (bytes_eq name r) (heads_paired names lists r)
  where
    by : (b : Truth) → option_map (λ (h : RuleHead). h.types) (head_named (heads_from names lists) r) ≡ paired r names lists
        → option_map (λ (h : RuleHead). h.types) (cond b (Some (record { name = name; types = types })) (head_named (heads_from names lists) r)) ≡ cond b (Some types) (paired r names lists)
    by true g = refl
    by false g = g

pub head_at : (names : List Name) (lists : List (List (Option TermType))) (r : Name) → length names ≡ length lists → option_map (λ (h : RuleHead). h.types) (head_named (heads_from names lists) r) ≡ at (number_of names r) lists
head_at names lists r h = heads_paired names lists r ∙ sym (paired_at r names lists h)

pub heads_push : (names : List Name) (lists : List (List (Option TermType))) (name : Name) (types : List (Option TermType)) → length names ≡ length lists → heads_from (names ++ name ∷ []) (lists ++ types ∷ []) ≡ heads_from names lists ++ record { name = name; types = types } ∷ []
heads_push [] [] name types h = refl
heads_push [] (other ∷ lists) name types h = absurd (omega (arith, h))
heads_push (other ∷ names) [] name types h = absurd (omega (arith, h))
heads_push (other ∷ names) (list ∷ lists) name types h = ap (λ (xs : List RuleHead). record { name = other; types = list } ∷ xs) (heads_push names lists name types (omega (arith, h)))
