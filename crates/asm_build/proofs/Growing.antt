-- What was made stays while more is made.
use Rattle.std.proofs.Common.{◌≡◌, ℕ, zero, suc, List, [], ◌∷◌, ◌++◌, ◌+◌, ◌≤◌, map, take, length, Some, None, slice_index_or, All, Bool as Truth, true, false, cond, refl, sym, ap, ◌∙◌, subst, append_assoc, arith}
use Rattle.std.specs.Str.{bytes_eq}
use Rattle.std.specs.List.{position_from}
use Rattle.std.specs.Option.{option_or}
use Rattle.std.proofs.lemmas.Iterator.Adapters.{position_from-zero}
use Rattle.std.proofs.lemmas.Cmp.{nat_list_eq_equiv}
use Rattle.std.proofs.lemmas.List.Elements.{All-append}
use Rattle.std.specs.declared.rc.Rc.{Rc}
use Rattle.std.specs.declared.alloc.Global.{Global}
use Rattle.name_table.specs.Numbered.{number_of}
use Rattle.name_table.proofs.Numbers.{number_of-push, alone}
use Rattle.asm_node.specs.declared.term.Term.{Term}
use Rattle.asm_node.specs.declared.term.Binder.{Binder}
use Rattle.asm_node.specs.Tree.{Tree, plain}
use Rattle.asm_node.specs.Pool.{terms_of, rules_of, HasTerm}
use Rattle.asm_node.proofs.Growing.{front_stays}
use Rattle.asm_faults.specs.At.{Name}
use Rattle.asm_build.specs.declared.maker.Maker.{Maker}
use Rattle.asm_build.specs.Made.{Agrees, HasGrown, Numbered, IsTerm, AreTerms, AreNumbers, AreBinders}

pub append_none : {A : Type 0} (xs : List A) → xs ≡ xs ++ []
append_none [] = refl
append_none (x ∷ xs) = λ i. x ∷ append_none xs i

pub same_maker : (m : Maker) → HasGrown m m
same_maker m = record {
  further_terms = [];
  terms = append_none (terms_of m.pool);
  further_rules = [];
  rules = append_none (rules_of m.pool);
  further_names = [];
  names = append_none m.variables;
}

-- further names alone
pub grown_names : (m n : Maker) (names : List Name) → n.pool ≡ m.pool → n.variables ≡ m.variables ++ names → HasGrown m n
grown_names m n names same grown = record {
  further_terms = [];
  terms = ap terms_of same ∙ append_none (terms_of m.pool);
  further_rules = [];
  rules = ap rules_of same ∙ append_none (rules_of m.pool);
  further_names = names;
  names = grown;
}

-- further terms alone
pub grown_terms : (m n : Maker) (ts : List Term) → terms_of n.pool ≡ terms_of m.pool ++ ts → rules_of n.pool ≡ rules_of m.pool → n.variables ≡ m.variables → HasGrown m n
grown_terms m n ts terms rules same = record {
  further_terms = ts;
  terms = terms;
  further_rules = [];
  rules = rules ∙ append_none (rules_of m.pool);
  further_names = [];
  names = same ∙ append_none m.variables;
}

more : {A : Type 0} (xs ys zs p q : List A) → ys ≡ xs ++ p → zs ≡ ys ++ q → zs ≡ xs ++ (p ++ q)
more xs ys zs p q e f = f ∙ ap (λ us. us ++ q) e ∙ append_assoc xs p q

pub grown_on : {l m n : Maker} → HasGrown l m → HasGrown m n → HasGrown l n
grown_on {l = l} {m = m} {n = n} one two = record {
  further_terms = one.further_terms ++ two.further_terms;
  terms = more (terms_of l.pool) (terms_of m.pool) (terms_of n.pool) one.further_terms two.further_terms one.terms two.terms;
  further_rules = one.further_rules ++ two.further_rules;
  rules = more (rules_of l.pool) (rules_of m.pool) (rules_of n.pool) one.further_rules two.further_rules one.rules two.rules;
  further_names = one.further_names ++ two.further_names;
  names = more l.variables m.variables n.variables one.further_names two.further_names one.names two.names;
}

pub term_stays : {m n : Maker} (t : Term) → HasGrown m n → HasTerm (terms_of m.pool) t → HasTerm (terms_of n.pool) t
term_stays {m = m} t grown has = subst (λ ts. HasTerm ts t) (sym grown.terms) (front_stays (terms_of m.pool) grown.further_terms t.id t has)

pub terms_stay : {m n : Maker} (ts : List (Rc Term Global)) → HasGrown m n → All (λ t. HasTerm (terms_of m.pool) t.value) ts → All (λ t. HasTerm (terms_of n.pool) t.value) ts
terms_stay ts grown has = λ k t lt. term_stays (slice_index_or ts k t).value grown (has k t lt)

-- ---- numbers

from_stays : {X : Type 0} (p : X → Truth) (i : ℕ) (xs ys : List X) (k : ℕ) → position_from p i xs ≡ Some k → position_from p i (xs ++ ys) ≡ Some k
from_stays p i [] ys k e = absurd (cc (e))
from_stays p i (x ∷ xs) ys k e =
    elim (p x) as (λ (b : Truth). cond b (Some i) (position_from p (i + 1) xs) ≡ Some k → cond b (Some i) (position_from p (i + 1) (xs ++ ys)) ≡ Some k) [
      | true ↦ λ f. f
      | false ↦ λ f. from_stays p (i + 1) xs ys k f
    ] e

-- a name keeps its first place
pub number_stays : (names others : List Name) (x : Name) (k : ℕ) → number_of names x ≡ Some k → number_of (names ++ others) x ≡ Some k
number_stays names others x k e =
    position_from-zero (λ (other : Name). bytes_eq other x) (names ++ others)
    ∙ from_stays (λ (other : Name). bytes_eq other x) 0 names others k (sym (position_from-zero (λ (other : Name). bytes_eq other x) names) ∙ e)

-- a name that is added has the last place, where it has no earlier one
pub number_added : (names : List Name) (x : Name) → number_of names x ≡ None → number_of (names ++ x ∷ []) x ≡ Some (length names)
number_added names x e =
    number_of-push names x x ∙ ap (λ o. option_or o (alone (bytes_eq x x) (length names))) e ∙ ap (λ b. option_or None (alone b (length names))) (nat_list_eq_equiv.refl x)

pub agrees_back : {m n : Maker} (number : Name → ℕ) → HasGrown m n → Agrees number n.variables → Agrees number m.variables
agrees_back {m = m} number grown agrees = record {
  at = λ x k e. agrees.at x k (subst (λ names. number_of names x ≡ Some k) (sym grown.names) (number_stays m.variables grown.further_names x k e));
}

-- ---- what was made

pub made_term : {m n : Maker} {tree : Numbered Tree} {t : Term} → HasGrown m n → IsTerm m tree t → IsTerm n tree t
made_term {t = t} grown is = record { is_of_pool = term_stays t grown is.is_of_pool; is_tree = λ number agrees. is.is_tree number (agrees_back number grown agrees) }

pub made_terms : {m n : Maker} {trees : Numbered (List Tree)} {ts : List (Rc Term Global)} → HasGrown m n → AreTerms m trees ts → AreTerms n trees ts
made_terms {ts = ts} grown are = record { are_of_pool = terms_stay ts grown are.are_of_pool; are_trees = λ number agrees. are.are_trees number (agrees_back number grown agrees) }

pub made_numbers : {m n : Maker} {numbers : Numbered (List ℕ)} {xs : List ℕ} → HasGrown m n → AreNumbers m numbers xs → AreNumbers n numbers xs
made_numbers grown are = record { are = λ number agrees. are.are number (agrees_back number grown agrees) }

pub made_binders : {m n : Maker} {binders : Numbered (List Binder)} {bs : List Binder} → HasGrown m n → AreBinders m binders bs → AreBinders n binders bs
made_binders grown are = record { are = λ number agrees. are.are number (agrees_back number grown agrees) }

-- the same node of another tree
pub same_tree : {m : Maker} (tree tree' : Numbered Tree) {t : Term} → ((number : Name → ℕ) → Agrees number m.variables → tree number ≡ tree' number) → IsTerm m tree t → IsTerm m tree' t
same_tree tree tree' same is = record { is_of_pool = is.is_of_pool; is_tree = λ number agrees. is.is_tree number agrees ∙ same number agrees }

push_one : (n : Maker) (t : Rc Term Global) → HasTerm (terms_of n.pool) t.value → All (λ t. HasTerm (terms_of n.pool) t.value) (t ∷ [])
push_one n t has zero d lt = has
push_one n t has (suc k) d lt = absurd (omega (arith, lt))

pub map_push : {A B : Type 0} (f : A → B) (xs : List A) (x : A) → map f (xs ++ x ∷ []) ≡ map f xs ++ f x ∷ []
map_push f [] x = refl
map_push f (y ∷ xs) x = ap (λ ys. f y ∷ ys) (map_push f xs x)

-- one more node
pub pushed_term : {m n : Maker} (trees : Numbered (List Tree)) (tree : Numbered Tree) (ts : List (Rc Term Global)) (t : Rc Term Global) → HasGrown m n → AreTerms m trees ts → IsTerm n tree t.value
    → AreTerms n (λ number. trees number ++ tree number ∷ []) (ts ++ t ∷ [])
pushed_term {m = m} {n = n} trees tree ts t grown are is = record {
  are_of_pool = All-append (λ (t : Rc Term Global). HasTerm (terms_of n.pool) t.value) ts (t ∷ []) (terms_stay ts grown are.are_of_pool) (push_one n t is.is_of_pool);
  are_trees = λ number agrees.
      map_push (λ (t : Rc Term Global). plain t.value) ts t
      ∙ ap (λ us. us ++ plain t.value ∷ []) (are.are_trees number (agrees_back number grown agrees)) ∙ ap (λ u. trees number ++ u ∷ []) (is.is_tree number agrees);
}

pub pushed_number : {m n : Maker} (numbers : Numbered (List ℕ)) (x : Name) (xs : List ℕ) (k : ℕ) → HasGrown m n → AreNumbers m numbers xs → number_of n.variables x ≡ Some k
    → AreNumbers n (λ number. numbers number ++ number x ∷ []) (xs ++ k ∷ [])
pushed_number numbers x xs k grown are is = record {
  are = λ number agrees. ap (λ ys. ys ++ k ∷ []) (are.are number (agrees_back number grown agrees)) ∙ ap (λ j. numbers number ++ j ∷ []) (sym (agrees.at x k is));
}

pub took_all : {A : Type 0} (xs : List A) (n : ℕ) → length xs ≤ n → take n xs ≡ xs
took_all [] zero le = refl
took_all [] (suc n) le = refl
took_all (x ∷ xs) zero le = absurd (omega (arith, le))
took_all (x ∷ xs) (suc n) le = ap (λ ys. x ∷ ys) (took_all xs n (omega (arith, le)))

pub length_push : {A : Type 0} (xs : List A) (x : A) → length (xs ++ x ∷ []) ≡ suc (length xs)
length_push [] x = refl
length_push (y ∷ xs) x = ap suc (length_push xs x)

-- no node and no number
pub no_terms : (m : Maker) (trees : Numbered (List Tree)) (ts : List (Rc Term Global)) → ts ≡ [] → ((number : Name → ℕ) → trees number ≡ []) → AreTerms m trees ts
no_terms m trees ts e none = record {
  are_of_pool = subst (λ (us : List (Rc Term Global)). All (λ t. HasTerm (terms_of m.pool) t.value) us) (sym e) (λ k d lt. absurd (omega (arith, lt)));
  are_trees = λ number agrees. ap (map (λ (t : Rc Term Global). plain t.value)) e ∙ sym (none number);
}

pub no_numbers : (m : Maker) (numbers : Numbered (List ℕ)) (xs : List ℕ) → xs ≡ [] → ((number : Name → ℕ) → numbers number ≡ []) → AreNumbers m numbers xs
no_numbers m numbers xs e none = record { are = λ number agrees. e ∙ sym (none number) }

-- the same nodes of other trees
pub same_trees : {m : Maker} (trees trees' : Numbered (List Tree)) (ts us : List (Rc Term Global)) → us ≡ ts → ((number : Name → ℕ) → trees number ≡ trees' number) → AreTerms m trees ts → AreTerms m trees' us
same_trees {m = m} trees trees' ts us e same are = record {
  are_of_pool = subst (λ (xs : List (Rc Term Global)). All (λ t. HasTerm (terms_of m.pool) t.value) xs) (sym e) are.are_of_pool;
  are_trees = λ number agrees. ap (map (λ (t : Rc Term Global). plain t.value)) e ∙ are.are_trees number agrees ∙ same number;
}

pub same_numbers : {m : Maker} (numbers numbers' : Numbered (List ℕ)) (xs ys : List ℕ) → ys ≡ xs → ((number : Name → ℕ) → numbers number ≡ numbers' number) → AreNumbers m numbers xs → AreNumbers m numbers' ys
same_numbers numbers numbers' xs ys e same are = record { are = λ number agrees. e ∙ are.are number agrees ∙ same number }

-- one more item of a list
pub mapped_more : {A B : Type 0} (f : A → B) (xs : List A) (i : ℕ) (x : A) → take (i + 1) xs ≡ take i xs ++ x ∷ [] → map f (take i xs) ++ f x ∷ [] ≡ map f (take (i + 1) xs)
mapped_more f xs i x e = sym (ap (map f) e ∙ map_push f (take i xs) x)
