-- More entries keep the values, and what follows for lines and groups.
use Rattle.std.proofs.Common.{◌≡◌, ℕ, suc, zero, List, [], ◌∷◌, ◌++◌, slice_get, subst, sym, ◌∙◌, Option, Some, None, Bool, true, false, cond, eqb, not, ◌||◌, refl, ap, append_assoc}
use Rattle.std.specs.List.{list_any}
use Rattle.cnf_base.specs.declared.lit.Lit.{Lit}
use Rattle.cnf_base.specs.declared.line.Line.{Line}
use Rattle.cnf_base.specs.Known.{Partial, is_true, is_false, is_value, made_true}
use Rattle.cnf_base.specs.Derivation.{is_all_false, clauses_of}
use Rattle.cnf_base.proofs.Sound.{and_true, eqb_same, beq_refl, is_value_some}
use Rattle.cnf_check.specs.Checked.{clauses_after}
use Rattle.cnf_gate.specs.Built.{is_decided}
use Rattle.cnf_search.specs.Trails.{Entry, Why, Explained, after, values, nothing}

-- every value of the first is one of the second
pub record Extends (p q : Partial) : Type 0 where
  pub keeps : (n : ℕ) (b : Bool) → p n ≡ Some b → q n ≡ Some b

differ : true ≡ false → ⊥
differ h = cc

why_open : (cs : List (List Lit)) (p : Partial) (o : Option ℕ) (l : Lit) → Why cs p o l → p l.var ≡ None
why_open cs p None l w = w
why_open cs p (Some h) l w = w.reason.open_yet

extends_made : (p : Partial) (l : Lit) → p l.var ≡ None → Extends p (made_true p l)
extends_made p l none = record {
  keeps = λ n b k. elim (eqb l.var n) as (λ t. eqb l.var n ≡ t → cond t (Some l.positive) (p n) ≡ Some b) [
    | true ↦ λ e. let v : None ≡ Some b = sym none ∙ (ap p (eqb_same l.var n e) ∙ k) in cc
    | false ↦ λ _. k
  ] refl;
}

pub extends_refl : (p : Partial) → Extends p p
extends_refl p = record { keeps = λ n b k. k }

pub extends_trans : (p q r : Partial) → Extends p q → Extends q r → Extends p r
extends_trans p q r h k = record { keeps = λ n b e. k.keeps n b (h.keeps n b e) }

pub extends_after : (cs : List (List Lit)) (p : Partial) (es : List Entry) → Explained cs p es → Extends p (after p es)
extends_after cs p [] x = extends_refl p
extends_after cs p (e ∷ es) x =
    extends_trans p (made_true p e.lit) (after (made_true p e.lit) es) (extends_made p e.lit (why_open cs p e.reason e.lit x.0)) (extends_after cs (made_true p e.lit) es x.1)

pub after_append : (p : Partial) (xs ys : List Entry) → after p (xs ++ ys) ≡ after (after p xs) ys
after_append p [] ys = refl
after_append p (x ∷ xs) ys = after_append (made_true p x.lit) xs ys

pub explained_split : (cs : List (List Lit)) (p : Partial) (xs ys : List Entry) → Explained cs p (xs ++ ys) → Explained cs p xs × Explained cs (after p xs) ys
explained_split cs p [] ys x = (tt, x)
explained_split cs p (e ∷ xs) ys x = let r = explained_split cs (made_true p e.lit) xs ys x.1 in ((x.0, r.0), r.1)

pub extends_grows : (cs : List (List Lit)) (old new more : List Entry) → new ≡ old ++ more → Explained cs nothing new → Extends (values old) (values new)
extends_grows cs old new more e x =
    let P : List Entry → Type 0 = λ z. Explained cs nothing z in
    let Q : Partial → Type 0 = λ z. Extends (values old) z in
    let parts = explained_split cs nothing old more (subst P e x) in
    subst Q (sym (ap values e ∙ after_append nothing old more)) (extends_after cs (values old) more parts.1)

keeps_value : (p q : Partial) (n : ℕ) (b : Bool) → Extends p q → is_value (p n) b ≡ true → is_value (q n) b ≡ true
keeps_value p q n b x h = ap (λ (o : Option Bool). is_value o b) (x.keeps n b (is_value_some (p n) b h)) ∙ beq_refl b

pub keeps_true : (p q : Partial) (l : Lit) → Extends p q → is_true p l ≡ true → is_true q l ≡ true
keeps_true p q l x h = keeps_value p q l.var l.positive x h

pub keeps_any : (p q : Partial) (c : List Lit) → Extends p q → list_any (is_true p) c ≡ true → list_any (is_true q) c ≡ true
keeps_any p q [] x h = h
keeps_any p q (l ∷ c) x h =
    elim (is_true p l) as (λ b. is_true p l ≡ b → b || list_any (is_true p) c ≡ true → is_true q l || list_any (is_true q) c ≡ true) [
      | true ↦ λ e _. rw (keeps_true p q l x e) refl
      | false ↦ λ _ k. rw (keeps_any p q c x k) (or_true (is_true q l))
    ] refl h
  where
    or_true : (b : Bool) → b || true ≡ true
    or_true true = refl
    or_true false = refl

pub keeps_false : (p q : Partial) (c : List Lit) → Extends p q → is_all_false p c ≡ true → is_all_false q c ≡ true
keeps_false p q [] x h = refl
keeps_false p q (l ∷ c) x h =
    let s = and_true (is_false p l) (is_all_false p c) h in
    rw (keeps_value p q l.var (not l.positive) x s.0) (keeps_false p q c x s.1)

pub keeps_decided : (p q : Partial) (gs : List (List Lit)) → Extends p q → is_decided p gs ≡ true → is_decided q gs ≡ true
keeps_decided p q [] x h = refl
keeps_decided p q (g ∷ gs) x h =
    let s = and_true (list_any (is_true p) g) (is_decided p gs) h in
    rw (keeps_any p q g x s.0) (keeps_decided p q gs x s.1)

-- ---- more clauses

pub get_more : {X : Type 0} (xs ys : List X) (n : ℕ) (x : X) → slice_get xs n ≡ Some x → slice_get (xs ++ ys) n ≡ Some x
get_more [] ys n x h = cc
get_more (y ∷ xs) ys zero x h = h
get_more (y ∷ xs) ys (suc n) x h = get_more xs ys n x h

pub explained_more : (cs ds : List (List Lit)) (p : Partial) (es : List Entry) → Explained cs p es → Explained (cs ++ ds) p es
explained_more cs ds p [] x = tt
explained_more cs ds p (e ∷ es) x = (on e.reason x.0, explained_more cs ds (made_true p e.lit) es x.1)
  where
    on : (o : Option ℕ) → Why cs p o e.lit → Why (cs ++ ds) p o e.lit
    on None w = w
    on (Some h) w = record { clause = w.clause; named = get_more cs ds h w.clause w.named; reason = w.reason }

clauses_of-append : (xs ys : List Line) → clauses_of (xs ++ ys) ≡ clauses_of xs ++ clauses_of ys
clauses_of-append [] ys = refl
clauses_of-append (x ∷ xs) ys = ap (λ (z : List (List Lit)). x.clause ∷ z) (clauses_of-append xs ys)

pub clauses_after-append : (f : List (List Lit)) (lines more : List Line) → clauses_after f (lines ++ more) ≡ clauses_after f lines ++ clauses_of more
clauses_after-append f lines more = ap (λ (z : List (List Lit)). f ++ z) (clauses_of-append lines more) ∙ sym (append_assoc f (clauses_of lines) (clauses_of more))
