-- One hint of a line, and one more line.
use Rattle.std.proofs.Common.{◌≡◌, ◌+◌, ◌<◌, ◌≤◌, ℕ, suc, Bool, true, false, not, List, [], ◌∷◌, ◌++◌, length, drop, get_or, slice_get, refl, sym, ◌∙◌, ap, arith, Some, subst, cond, drop-cons, append_assoc, false, ◌||◌, eqb}
use Rattle.cnf_base.specs.declared.lit.Lit.{Lit}
use Rattle.cnf_base.specs.declared.line.Line.{Line}
use Rattle.cnf_base.specs.Known.{Partial, made_true}
use Rattle.cnf_base.specs.Clauses.{clause_variables, variables}
use Rattle.cnf_base.specs.Derivation.{accepted, tautology, follow, lone, outcome, clauses_of, AreAccepted, is_tautology, falsified}
use Rattle.cnf_base.proofs.VariableBounds.{variables-append}
use Rattle.cnf_base.proofs.Told.{snoc_all}
use Rattle.cnf_check.specs.Checked.{clauses_after, IsReady, has_empty}
use Rattle.std.specs.Prelude.{Result}
use Rattle.cnf_check.specs.declared.bad.Bad.{Bad}
use Rattle.cnf_check.specs.Answer.{Answers}

follow_step : (cs : List (List Lit)) (p : Partial) (i h g : ℕ) (hs : List ℕ) (c : List Lit) (l : Lit) → slice_get cs h ≡ Some c → lone p c ≡ Some l
    → follow cs p i (h ∷ g ∷ hs) ≡ follow cs (made_true p l) (i + 1) (g ∷ hs)
follow_step cs p i h g hs c l e f = rw (e, f) refl

pub follow_on : (cs : List (List Lit)) (p : Partial) (i : ℕ) (hints : List ℕ) (c : List Lit) (l : Lit) → i + 1 < length hints
    → slice_get cs (get_or hints i 0) ≡ Some c → lone p c ≡ Some l
    → follow cs p i (drop i hints) ≡ follow cs (made_true p l) (i + 1) (drop (i + 1) hints)
follow_on cs p i hints c l h e f =
    let here : i < length hints = omega arith in
    let now : drop i hints ≡ get_or hints i 0 ∷ drop (suc i) hints = drop-cons hints i 0 here in
    let after : suc i < length hints = omega arith in
    let next : drop (suc i) hints ≡ get_or hints (suc i) 0 ∷ drop (suc (suc i)) hints = drop-cons hints (suc i) 0 after in
    let one : i + 1 ≡ suc i = omega arith in
    let left : follow cs p i (drop i hints) ≡ follow cs p i (get_or hints i 0 ∷ get_or hints (suc i) 0 ∷ drop (suc (suc i)) hints) =
    ap (follow cs p i) (now ∙ ap (λ (z : List ℕ). get_or hints i 0 ∷ z) next) in
    let right : follow cs (made_true p l) (i + 1) (drop (i + 1) hints) ≡ follow cs (made_true p l) (i + 1) (get_or hints (suc i) 0 ∷ drop (suc (suc i)) hints) =
    ap (λ (n : ℕ). follow cs (made_true p l) (i + 1) (drop n hints)) one ∙ ap (follow cs (made_true p l) (i + 1)) next in
    left ∙ (follow_step cs p i (get_or hints i 0) (get_or hints (suc i) 0) (drop (suc (suc i)) hints) c l e f ∙ sym right)

pub clauses_of-push : (f : List (List Lit)) (lines : List Line) (x : Line) → clauses_after f (lines ++ x ∷ []) ≡ clauses_after f lines ++ x.clause ∷ []
clauses_of-push f lines x = ap (λ (z : List (List Lit)). f ++ z) (go lines x) ∙ sym (append_assoc f (clauses_of lines) (x.clause ∷ []))
  where
    go : (lines : List Line) (x : Line) → clauses_of (lines ++ x ∷ []) ≡ clauses_of lines ++ x.clause ∷ []
    go [] x = refl
    go (y ∷ lines) x = ap (λ (z : List (List Lit)). y.clause ∷ z) (go lines x)

or_false : (a : Bool) → a || false ≡ a
or_false true = refl
or_false false = refl

or_assoc : (a b c : Bool) → (a || b) || c ≡ a || (b || c)
or_assoc true b c = refl
or_assoc false b c = refl

pub has_empty-push : (lines : List Line) (x : Line) → has_empty (lines ++ x ∷ []) ≡ has_empty lines || eqb (length x.clause) 0
has_empty-push [] x = or_false (eqb (length x.clause) 0)
has_empty-push (y ∷ lines) x =
    ap (λ (b : Bool). eqb (length y.clause) 0 || b) (has_empty-push lines x) ∙ sym (or_assoc (eqb (length y.clause) 0) (has_empty lines) (eqb (length x.clause) 0))

-- one more accepted line, in the room that the trail has
pub IsReady-push : (f : List (List Lit)) (lines : List Line) (x : Line) (size : ℕ) (idle : List Lit) (was now : Bool) → AreAccepted f lines
    → outcome (clauses_after f lines) x.clause x.hints ≡ accepted → variables (clauses_after f lines) ≤ size → clause_variables x.clause ≤ size → idle ≡ []
    → was ≡ has_empty lines → now ≡ was || eqb (length x.clause) 0
    → IsReady f (lines ++ x ∷ []) (record { lits = idle; size = size }) now
IsReady-push f lines x size idle was now before holds room new none ended flag = record {
  accepted = snoc_all (λ (front : List Line) (y : Line). outcome (clauses_after f front) y.clause y.hints ≡ accepted) lines x before holds;
  idle = none;
  room = rw (clauses_of-push f lines x, variables-append (clauses_after f lines) (x.clause ∷ [])) (omega arith);
  ended = flag ∙ (ap (λ (b : Bool). b || eqb (length x.clause) 0) ended ∙ sym (has_empty-push lines x));
}

pub outcome_follows : {T : Type 0} (cs : List (List Lit)) (c : List Lit) (hints : List ℕ) (p : Partial) (r : Result T Bad)
    → true ≡ not (is_tautology c) → p ≡ falsified c → Answers r (follow cs p 0 hints) → Answers r (outcome cs c hints)
outcome_follows {T} cs c hints p r h e a =
    elim (is_tautology c) as (λ b. true ≡ not b → Answers r (cond b tautology (follow cs (falsified c) 0 hints))) [
      | true ↦ λ k. cc
      | false ↦ λ _. let P : Partial → Type 0 = λ q. Answers r (follow cs q 0 hints) in subst P e a
    ] h
