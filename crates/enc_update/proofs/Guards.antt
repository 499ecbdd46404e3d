-- What a guard makes of a body's pairs and fault.
use Rattle.std.proofs.Common.{◌≡◌, ℕ, zero, suc, ◌<◌, ◌+◌, max, List, [], ◌∷◌, ◌++◌, length, get_or, arith, sym, ◌∙◌, Bool, true, false, not, ◌&&◌, ◌||◌, refl, ap, nat_eq}
use Rattle.std.specs.FinSet as set
use Rattle.std.proofs.lemmas.List.Folds.{list_any-append}
use Rattle.asm_source.specs.declared.sources.Place.{Place}
use Rattle.cnf_base.specs.Clauses.{lit_true}
use Rattle.cnf_base.specs.declared.lit.Lit.{Lit}
use Rattle.asm_domain.specs.declared.value.Value.{Value}
use Rattle.asm_domain.specs.declared.value.Value.TheVariants as value
use Rattle.asm_node.specs.Values.{same}
use Rattle.asm_node.specs.UpdateSet.{pair_cmp}
use Rattle.asm_node.specs.Term.{Outcome, Gives, Needs}
use Rattle.asm_node.specs.Taking.{guarded}
use Rattle.enc_update.specs.declared.pair.Pair.{Pair}
use Rattle.enc_group.specs.Group.{is_gives}
use Rattle.enc_update.specs.Updates.{Taken, has_pair, Takes, pair_variables}

pub pair_at : (ps : List Pair) (i : ℕ) (p : Pair) → i < length ps → p ≡ get_or ps i p → p.lit.var < pair_variables ps
pair_at [] i p h k = absurd (omega arith)
pair_at (q ∷ ps) zero p h k = let n : p.lit.var ≡ q.lit.var = ap (λ (x : Pair). x.lit.var) k in omega arith
pair_at (q ∷ ps) (suc i) p h k = omega (arith, pair_at ps i p (omega arith) k)

pub pair_variables_push : (ps : List Pair) (p : Pair) → pair_variables (ps ++ p ∷ []) ≡ max (pair_variables ps) (p.lit.var + 1)
pair_variables_push [] p = omega arith
pair_variables_push (q ∷ ps) p = omega (arith, pair_variables_push ps p)

pub has_pair_push : (v : ℕ → Bool) (ps : List Pair) (p : Pair) (l : ℕ) (x : Value) → has_pair v (ps ++ p ∷ []) l x ≡ (has_pair v ps l x || ((nat_eq p.slot l && same p.value x) && lit_true v p.lit))
has_pair_push v ps p l x = list_any-append (λ (q : Pair). (nat_eq q.slot l && same q.value x) && lit_true v q.lit) ps (p ∷ []) ∙ ends (has_pair v ps l x) ((nat_eq p.slot l && same p.value x) && lit_true v p.lit)
  where
    ends : (a b : Bool) → a || (b || false) ≡ a || b
    ends true b = refl
    ends false true = refl
    ends false false = refl

pub spread : (g a s e : Bool) → (g && a) || (s && (g && e)) ≡ g && (a || (s && e))
spread true a s e = refl
spread false a true e = refl
spread false a false e = refl

pub guarded_takes : (v : ℕ → Bool) (place : Place) (o : Outcome Value) (a : Taken) (ps rs : List Pair) (f fault : Lit) (y n : Bool) → y ≡ is_gives (value.Bool true) o → n ≡ is_gives (value.Bool false) o
    → Takes v ps f a → lit_true v fault ≡ (not (y || n) || (y && lit_true v f)) → ((l : ℕ) (x : Value) → has_pair v rs l x ≡ (y && has_pair v ps l x)) → Takes v rs fault (guarded place o a tt)
guarded_takes v place (Gives (value.Bool true)) a ps rs f fault y n yes_is no_is t h k = record {
  faults = h ∙ (λ i. not (yes_is i || no_is i) || (yes_is i && lit_true v f)) ∙ t.faults;
  pairs = λ fine l x. k l x ∙ (λ i. yes_is i && has_pair v ps l x) ∙ t.pairs fine l x;
}
guarded_takes v place (Gives (value.Bool false)) a ps rs f fault y n yes_is no_is t h k = record {
  faults = h ∙ (λ i. not (yes_is i || no_is i) || (yes_is i && lit_true v f));
  pairs = λ fine l x. k l x ∙ (λ i. yes_is i && has_pair v ps l x) ∙ sym (set.contains-empty pair_cmp (l, x));
}
guarded_takes v place (Gives value.Undef) a ps rs f fault y n yes_is no_is t h k = record { faults = h ∙ (λ i. not (yes_is i || no_is i) || (yes_is i && lit_true v f)); pairs = λ fine l x. cc }
guarded_takes v place (Gives (value.Int z)) a ps rs f fault y n yes_is no_is t h k = record { faults = h ∙ (λ i. not (yes_is i || no_is i) || (yes_is i && lit_true v f)); pairs = λ fine l x. cc }
guarded_takes v place (Gives (value.Elem d r)) a ps rs f fault y n yes_is no_is t h k = record { faults = h ∙ (λ i. not (yes_is i || no_is i) || (yes_is i && lit_true v f)); pairs = λ fine l x. cc }
guarded_takes v place (Needs s) a ps rs f fault y n yes_is no_is t h k = record { faults = h ∙ (λ i. not (yes_is i || no_is i) || (yes_is i && lit_true v f)); pairs = λ fine l x. cc }
