-- Nested terms from the last part on.
use Rattle.std.proofs.Common.{◌≡◌, ℕ, zero, suc, ◌+◌, ◌-◌, ◌<◌, List, [], ◌∷◌, ◌++◌, map, drop, length, Some, slice_get, refl, sym, ap, ◌∙◌, subst, arith}
use Rattle.std.specs.declared.rc.Rc.{Rc}
use Rattle.std.specs.declared.alloc.Global.{Global}
use Rattle.asm_node.specs.declared.term.Term.{Term}
use Rattle.asm_node.specs.Pool.{HasTerm, HasArguments}
use Rattle.asm_node.specs.Tree.{Tree, Let, Cond, plain}
use Rattle.asm_build.specs.declared.maker.Maker.{Maker}
use Rattle.asm_build.specs.Made.{IsTerm, plains}
use Rattle.asm_build.specs.Forms.{bounds_from, cases_from, test}

pub drop_at : {A : Type 0} (xs : List A) (j : ℕ) (x : A) → slice_get xs j ≡ Some x → drop j xs ≡ x ∷ drop (suc j) xs
drop_at [] j x e = absurd (cc (e))
drop_at (y ∷ xs) zero x e = let same : y ≡ x = cc in λ i. same i ∷ xs
drop_at (y ∷ xs) (suc j) x e = drop_at xs j x e

pub drop_all : {A : Type 0} (xs : List A) → drop (length xs) xs ≡ []
drop_all [] = refl
drop_all (x ∷ xs) = drop_all xs

pub get_map : {A B : Type 0} (f : A → B) (xs : List A) (j : ℕ) (x : A) → slice_get xs j ≡ Some x → slice_get (map f xs) j ≡ Some (f x)
get_map f [] j x e = absurd (cc (e))
get_map f (y ∷ xs) zero x e = let same : y ≡ x = cc in ap (λ z. Some (f z)) same
get_map f (y ∷ xs) (suc j) x e = get_map f xs j x e

pub length_map : {A B : Type 0} (f : A → B) (xs : List A) → length (map f xs) ≡ length xs
length_map f [] = refl
length_map f (x ∷ xs) = ap suc (length_map f xs)

-- at the end of lists of one length nothing is nested
none_behind : (xs : List ℕ) (ts : List Tree) (body : Tree) (n : ℕ) → n ≡ length ts → bounds_from (drop n xs) (drop n ts) body ≡ body
none_behind xs ts body n e = ap (λ us. bounds_from (drop n xs) us body) (ap (λ m. drop m ts) e ∙ drop_all ts) ∙ no_terms (drop n xs)
  where
    no_terms : (ys : List ℕ) → bounds_from ys [] body ≡ body
    no_terms [] = refl
    no_terms (y ∷ ys) = refl

module _ (xs : List ℕ) (ts : List (Rc Term Global)) (body : Tree) where
  pub from_last : (d : ℕ) → d ≡ 0 → bounds_from (drop (length ts - d) xs) (drop (length ts - d) (plains ts)) body ≡ body
  from_last d e = none_behind xs (plains ts) body (length ts - d) (let same : length (plains ts) ≡ length ts = length_map (λ (t : Rc Term Global). plain t.value) ts in omega (arith, same, e))

  pub one_more : (d j x : ℕ) (t : Rc Term Global) → d < length ts → j ≡ (length ts - 1) - d → slice_get xs j ≡ Some x → slice_get ts j ≡ Some t
      → Let x (plain t.value) (bounds_from (drop (length ts - d) xs) (drop (length ts - d) (plains ts)) body) ≡ bounds_from (drop (length ts - (d + 1)) xs) (drop (length ts - (d + 1)) (plains ts)) body
  one_more d j x t less e f g =
      let next : length ts - d ≡ suc j = omega arith in
      let this : length ts - (d + 1) ≡ j = omega arith in
      ap (λ n. Let x (plain t.value) (bounds_from (drop n xs) (drop n (plains ts)) body)) next
      ∙ sym (ap (λ us. bounds_from us (drop j (plains ts)) body) (drop_at xs j x f) ∙ ap (λ us. bounds_from (x ∷ drop (suc j) xs) us body) (drop_at (plains ts) j (plain t.value) (get_map (λ (t : Rc Term Global). plain t.value) ts j t g)))
      ∙ ap (λ n. bounds_from (drop n xs) (drop n (plains ts)) body) (sym this)

  -- when all bounds are done
  pub bounds_done : {m : Maker} (t : Term) (d : ℕ) → d ≡ length ts → IsTerm m (λ number. bounds_from (drop (length ts - d) xs) (drop (length ts - d) (plains ts)) body) t → IsTerm m (λ number. bounds_from xs (plains ts) body) t
  bounds_done {m = m} t d e is =
      let none : length ts - d ≡ 0 = omega arith in
      subst (λ (n : ℕ). IsTerm m (λ number. bounds_from (drop n xs) (drop n (plains ts)) body) t) none is

-- a node of a list of the pool's
pub held_at : (terms : List Term) (ts : List (Rc Term Global)) (j : ℕ) (t : Rc Term Global) → HasArguments terms ts → slice_get ts j ≡ Some t → HasTerm terms t.value
held_at terms [] j t has e = absurd (cc (e))
held_at terms (u ∷ ts) zero t has e = let same : u ≡ t = cc in subst (λ (v : Rc Term Global). HasTerm terms v.value) same (has 0 u (omega arith))
held_at terms (u ∷ ts) (suc j) t has e = held_at terms ts j t (λ k d lt. has (suc k) d (omega (arith, lt))) e

-- ---- cases

abbrev Nodes : Type 0
Nodes = List (Rc Term Global)

no_cases : (subject : Tree) (ls us : List Tree) (other : Tree) (n : ℕ) → n ≡ length ls → cases_from subject (drop n ls) (drop n us) other ≡ other
no_cases subject ls us other n e = ap (λ ts. cases_from subject ts (drop n us) other) (ap (λ m. drop m ls) e ∙ drop_all ls) ∙ none (drop n us)
  where
    none : (ys : List Tree) → cases_from subject [] ys other ≡ other
    none [] = refl
    none (y ∷ ys) = refl

module _ (subject : Tree) (ls us : Nodes) (other : Tree) where
  pub cases_from_last : (d : ℕ) → d ≡ 0 → cases_from subject (drop (length ls - d) (plains ls)) (drop (length ls - d) (plains us)) other ≡ other
  cases_from_last d e = no_cases subject (plains ls) (plains us) other (length ls - d) (let same : length (plains ls) ≡ length ls = length_map (λ (t : Rc Term Global). plain t.value) ls in omega (arith, same, e))

  pub one_more_case : (d j : ℕ) (l u : Rc Term Global) → d < length ls → j ≡ (length ls - 1) - d → slice_get ls j ≡ Some l → slice_get us j ≡ Some u
      → Cond (test subject (plain l.value)) (plain u.value) (cases_from subject (drop (length ls - d) (plains ls)) (drop (length ls - d) (plains us)) other)
      ≡ cases_from subject (drop (length ls - (d + 1)) (plains ls)) (drop (length ls - (d + 1)) (plains us)) other
  one_more_case d j l u less e f g =
      let next : length ls - d ≡ suc j = omega arith in
      let this : length ls - (d + 1) ≡ j = omega arith in
      let plain_of : Rc Term Global → Tree = λ t. plain t.value in
      ap (λ n. Cond (test subject (plain l.value)) (plain u.value) (cases_from subject (drop n (plains ls)) (drop n (plains us)) other)) next
      ∙ sym (ap (λ ts. cases_from subject ts (drop j (plains us)) other) (drop_at (plains ls) j (plain l.value) (get_map plain_of ls j l f))
      ∙ ap (λ ts. cases_from subject (plain l.value ∷ drop (suc j) (plains ls)) ts other) (drop_at (plains us) j (plain u.value) (get_map plain_of us j u g)))
      ∙ ap (λ n. cases_from subject (drop n (plains ls)) (drop n (plains us)) other) (sym this)

  pub cases_done : {m : Maker} (t : Term) (d : ℕ) → d ≡ length ls → IsTerm m (λ number. cases_from subject (drop (length ls - d) (plains ls)) (drop (length ls - d) (plains us)) other) t
      → IsTerm m (λ number. cases_from subject (plains ls) (plains us) other) t
  cases_done {m = m} t d e is =
      let none : length ls - d ≡ 0 = omega arith in
      subst (λ (n : ℕ). IsTerm m (λ number. cases_from subject (drop n (plains ls)) (drop n (plains us)) other) t) none is

-- ---- lists of one and of two nodes

pub one_held : (terms : List Term) (ts : Nodes) (t : Rc Term Global) → ts ≡ [] ++ t ∷ [] → HasTerm terms t.value → HasArguments terms ts
one_held terms ts t e has = subst (HasArguments terms) (sym e) (held has)
  where
    held : HasTerm terms t.value → HasArguments terms (t ∷ [])
    held has zero d lt = has
    held has (suc k) d lt = absurd (omega (arith, lt))

pub two_held : (terms : List Term) (ts us : Nodes) (t u : Rc Term Global) → ts ≡ [] ++ t ∷ [] → us ≡ ts ++ u ∷ [] → HasTerm terms t.value → HasTerm terms u.value → HasArguments terms us
two_held terms ts us t u e f has has' = subst (HasArguments terms) (sym (f ∙ ap (λ xs. xs ++ u ∷ []) e)) (held has has')
  where
    held : HasTerm terms t.value → HasTerm terms u.value → HasArguments terms (t ∷ u ∷ [])
    held has has' zero d lt = has
    held has has' (suc zero) d lt = has'
    held has has' (suc (suc k)) d lt = absurd (omega (arith, lt))
