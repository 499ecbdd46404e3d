-- What a guard makes of two rules' pairs and faults.
use Rattle.std.proofs.Common.{◌≡◌, ℕ, List, ◌++◌, [], ◌∷◌, max, arith, ◌∙◌, Bool, true, false, not, ◌&&◌, ◌||◌, refl, nat_eq}
use Rattle.std.proofs.lemmas.List.Folds.{list_any-append}
use Rattle.asm_source.specs.declared.sources.Place.{Place}
use Rattle.cnf_base.specs.Clauses.{lit_true}
use Rattle.cnf_base.specs.declared.lit.Lit.{Lit}
use Rattle.asm_domain.specs.declared.value.Value.{Value}
use Rattle.asm_domain.specs.declared.value.Value.TheVariants as value
use Rattle.asm_node.specs.declared.stop.Stop.TheVariants.{UndefGuard}
use Rattle.asm_node.specs.Values.{same}
use Rattle.asm_node.specs.Term.{Outcome, Gives, Needs, branch}
use Rattle.asm_node.specs.Taking.{Faults, evaluated}
use Rattle.enc_update.specs.declared.pair.Pair.{Pair}
use Rattle.enc_group.specs.Group.{is_gives}
use Rattle.enc_update.specs.Updates.{Taken, has_pair, Takes, pair_variables}

or_none : (a : Bool) → a || false ≡ a
or_none true = refl
or_none false = refl

-- what a guard takes of two rules
abbrev pub branched : Place → Outcome Value → Taken → Taken → Taken
branched place o a b = evaluated o tt (λ x. branch x a b (Faults (UndefGuard place) tt))

abbrev pub branch_faults : Bool → Bool → Bool → Bool → Bool
branch_faults y n f g = not (y || n) || ((y && f) || (n && g))

pub branch_takes : (v : ℕ → Bool) (place : Place) (o : Outcome Value) (a b : Taken) (ps qs rs : List Pair) (f g fault : Lit) (y n : Bool) → y ≡ is_gives (value.Bool true) o → n ≡ is_gives (value.Bool false) o
    → Takes v ps f a → Takes v qs g b → lit_true v fault ≡ branch_faults y n (lit_true v f) (lit_true v g)
    → ((l : ℕ) (x : Value) → has_pair v rs l x ≡ ((y && has_pair v ps l x) || (n && has_pair v qs l x))) → Takes v rs fault (branched place o a b)
branch_takes v place (Gives (value.Bool true)) a b ps qs rs f g fault y n yes_is no_is t u h k = record {
  faults = h ∙ (λ i. branch_faults (yes_is i) (no_is i) (lit_true v f) (lit_true v g)) ∙ or_none (lit_true v f) ∙ t.faults;
  pairs = λ fine l x. k l x ∙ (λ i. (yes_is i && has_pair v ps l x) || (no_is i && has_pair v qs l x)) ∙ or_none (has_pair v ps l x) ∙ t.pairs fine l x;
}
branch_takes v place (Gives (value.Bool false)) a b ps qs rs f g fault y n yes_is no_is t u h k = record {
  faults = h ∙ (λ i. branch_faults (yes_is i) (no_is i) (lit_true v f) (lit_true v g)) ∙ u.faults;
  pairs = λ fine l x. k l x ∙ (λ i. (yes_is i && has_pair v ps l x) || (no_is i && has_pair v qs l x)) ∙ u.pairs fine l x;
}
branch_takes v place (Gives value.Undef) a b ps qs rs f g fault y n yes_is no_is t u h k = record { faults = h ∙ (λ i. branch_faults (yes_is i) (no_is i) (lit_true v f) (lit_true v g)); pairs = λ fine l x. cc }
branch_takes v place (Gives (value.Int z)) a b ps qs rs f g fault y n yes_is no_is t u h k = record { faults = h ∙ (λ i. branch_faults (yes_is i) (no_is i) (lit_true v f) (lit_true v g)); pairs = λ fine l x. cc }
branch_takes v place (Gives (value.Elem d r)) a b ps qs rs f g fault y n yes_is no_is t u h k = record { faults = h ∙ (λ i. branch_faults (yes_is i) (no_is i) (lit_true v f) (lit_true v g)); pairs = λ fine l x. cc }
branch_takes v place (Needs s) a b ps qs rs f g fault y n yes_is no_is t u h k = record { faults = h ∙ (λ i. branch_faults (yes_is i) (no_is i) (lit_true v f) (lit_true v g)); pairs = λ fine l x. cc }

-- the pairs of two lists, one behind the other
pub has_pair_both : (v : ℕ → Bool) (ps qs : List Pair) (l : ℕ) (x : Value) → has_pair v (ps ++ qs) l x ≡ (has_pair v ps l x || has_pair v qs l x)
has_pair_both v ps qs l x = list_any-append (λ (p : Pair). (nat_eq p.slot l && same p.value x) && lit_true v p.lit) ps qs

pub pair_variables_both : (ps qs : List Pair) → pair_variables (ps ++ qs) ≡ max (pair_variables ps) (pair_variables qs)
pair_variables_both [] qs = omega arith
pair_variables_both (p ∷ ps) qs = omega (arith, pair_variables_both ps qs)
