-- What a rule gives once for each value that may come.
use Rattle.std.proofs.Common.{◌≡◌, ℕ, ◌∙◌, ap, sym, refl, Bool, true, false, not, ◌&&◌, ◌||◌, List, [], ◌∷◌, map}
use Rattle.std.specs.List.{list_any}
use Rattle.std.specs.FinSet as set
use Rattle.cnf_base.specs.declared.lit.Lit.{Lit}
use Rattle.cnf_base.specs.Clauses.{lit_true}
use Rattle.asm_domain.specs.declared.value.Value.{Value}
use Rattle.asm_node.specs.UpdateSet.{pair_cmp}
use Rattle.asm_node.specs.Term.{Outcome, Gives, Needs}
use Rattle.asm_node.specs.Taking.{evaluated}
use Rattle.enc_group.proofs.Groups.{passes}
use Rattle.enc_update.specs.declared.pair.Pair.{Pair}
use Rattle.enc_update.specs.Updates.{Taken, Takes, is_fault, yields_pair, has_pair, union_of}
use Rattle.enc_update.proofs.Unions.{union_faults, union_pairs}
use Rattle.enc_rule.specs.Rules.{taken_if}

and_true : (a : Bool) → a ≡ a && true
and_true true = refl
and_true false = refl

and_false : (a : Bool) → false ≡ a && false
and_false true = refl
and_false false = refl

if_fault : (b : Bool) (a : Taken) → is_fault (taken_if b a) ≡ is_fault a && b
if_fault true a = and_true (is_fault a)
if_fault false a = and_false (is_fault a)

if_pair : (l : ℕ) (x : Value) (b : Bool) (a : Taken) → yields_pair l x (taken_if b a) ≡ yields_pair l x a && b
if_pair l x true a = and_true (yields_pair l x a)
if_pair l x false a = set.contains-empty pair_cmp (l, x) ∙ and_false (yields_pair l x a)

pub case_takes : (v : ℕ → Bool) (ps rs : List Pair) (f fault : Lit) (key : Bool) (a : Taken) → Takes v ps f a
    → lit_true v fault ≡ (key && lit_true v f) → ((l : ℕ) (x : Value) → has_pair v rs l x ≡ (key && has_pair v ps l x)) → Takes v rs fault (taken_if key a)
case_takes v ps rs f fault true a t h k = record { faults = h ∙ t.faults; pairs = λ fine l x. k l x ∙ t.pairs fine l x }
case_takes v ps rs f fault false a t h k = record { faults = h; pairs = λ fine l x. k l x ∙ sym (set.contains-empty pair_cmp (l, x)) }

module _ {K A : Type 0} (v : ℕ → Bool) (value : K → A) (lit : K → Lit) (f : A → Taken) where
  abbrev pub cases_of : List K → List Taken
  cases_of ks = map (λ k. taken_if (lit_true v (lit k)) (f (value k))) ks

  cases_fault : (ks : List K) → list_any is_fault (cases_of ks) ≡ list_any (λ k. is_fault (f (value k)) && lit_true v (lit k)) ks
  cases_fault [] = refl
  cases_fault (k ∷ ks) = λ i. if_fault (lit_true v (lit k)) (f (value k)) i || cases_fault ks i

  cases_pair : (l : ℕ) (x : Value) (ks : List K) → list_any (yields_pair l x) (cases_of ks) ≡ list_any (λ k. yields_pair l x (f (value k)) && lit_true v (lit k)) ks
  cases_pair l x [] = refl
  cases_pair l x (k ∷ ks) = λ i. if_pair l x (lit_true v (lit k)) (f (value k)) i || cases_pair l x ks i

  -- the cases of the values that come give together what the rule gives for the value, where a fault is one as well where none
  -- comes
  pub cases_take : (ks : List K) (o : Outcome A) (ps : List Pair) (u fault : Lit)
      → ((p : A → Bool) → list_any (λ k. p (value k) && lit_true v (lit k)) ks ≡ passes p o)
      → Takes v ps u (union_of (cases_of ks) set.empty) → lit_true v fault ≡ (not (list_any (λ k. lit_true v (lit k)) ks) || lit_true v u)
      → Takes v ps fault (evaluated o tt f)
  cases_take ks (Gives y) ps u fault picked t h =
      let some : list_any is_fault (cases_of ks) ≡ is_fault (f y) = cases_fault ks ∙ picked (λ x. is_fault (f x)) in
      let united : is_fault (union_of (cases_of ks) set.empty) ≡ is_fault (f y) = union_faults (cases_of ks) set.empty ∙ some in
      record {
        faults = h ∙ ap (λ b. not b || lit_true v u) (picked (λ x. true)) ∙ t.faults ∙ united;
        pairs = λ fine l x.
            t.pairs (united ∙ fine) l x ∙ union_pairs (cases_of ks) set.empty (some ∙ fine) l x
            ∙ ap (λ b. b || list_any (yields_pair l x) (cases_of ks)) (set.contains-empty pair_cmp (l, x))
            ∙ cases_pair l x ks ∙ picked (λ x'. yields_pair l x (f x'));
      }
  cases_take ks (Needs l) ps u fault picked t h = record {
    faults = h ∙ ap (λ b. not b || lit_true v u) (picked (λ x. true));
    pairs = λ fine s x. cc;
  }
