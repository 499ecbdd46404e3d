-- Which literals of a group are true.
use Rattle.std.proofs.Common.{true≢false, ◌≡◌, ◌∙◌, ℕ, Bool, true, false, not, ◌&&◌, ◌||◌, List, [], ◌∷◌, map, refl, sym, ap, subst, inl, inr}
use Rattle.cnf_base.specs.Clauses.{lit_true}
use Rattle.asm_domain.specs.declared.value.Value.{Value}
use Rattle.asm_node.specs.Term.{Outcome}
use Rattle.asm_node.specs.Values.{same}
use Rattle.asm_node.proofs.Exactly.{same_itself}
use Rattle.enc_group.specs.declared.group.Entry.{Entry}
use Rattle.enc_group.specs.Group.{Means, holds, has, is_gives, values_in, are_distinct}
use Rattle.enc_group.proofs.Onces.{same_swap}
use Rattle.enc_term.specs.Can.{Has}
use Rattle.enc_term.proofs.Members.{has_map}
use Rattle.enc_term.proofs.Standing.{any_has}

none_left : (a b : Bool) → (a || b) ≡ false → a ≡ false
none_left true b h = h
none_left false b h = refl

none_right : (a b : Bool) → (a || b) ≡ false → b ≡ false
none_right true b h = absurd (true≢false h)
none_right false b h = h

both_left : (a b : Bool) → (not a && b) ≡ true → a ≡ false
both_left true b h = absurd (true≢false (sym h))
both_left false b h = refl

both_right : (a b : Bool) → (not a && b) ≡ true → b ≡ true
both_right true b h = absurd (true≢false (sym h))
both_right false b h = h

or_none : (a : Bool) → (a || false) ≡ a
or_none true = refl
or_none false = refl

-- a value that a group hasn't has no true literal
absent : (v : ℕ → Bool) (es : List Entry) (y : Value) → has (values_in es) y ≡ false → holds v es y ≡ false
absent v [] y h = refl
absent v (e ∷ es) y h =
    ap (λ b. (b && lit_true v e.lit) || holds v es y) (none_left (same e.value y) (has (values_in es) y) h) ∙ absent v es y (none_right (same e.value y) (has (values_in es) y) h)

-- in a group without a value twice an entry's literal is the value's
alone : (v : ℕ → Bool) (es : List Entry) (e : Entry) → are_distinct (values_in es) ≡ true → Has es e → holds v es e.value ≡ lit_true v e.lit
alone v [] e d h = elim h [ ]
alone v (a ∷ es) e d (inl is) =
    subst (λ (x : Entry). holds v (a ∷ es) x.value ≡ lit_true v x.lit) is
    (ap (λ b. (b && lit_true v a.lit) || holds v es a.value) (same_itself a.value)
    ∙ ap (λ b. lit_true v a.lit || b) (absent v es a.value (both_left (has (values_in es) a.value) (are_distinct (values_in es)) d))
    ∙ or_none (lit_true v a.lit))
alone v (a ∷ es) e d (inr h) =
    elim (same a.value e.value) as (λ b. same a.value e.value ≡ b → (b && lit_true v a.lit) || holds v es e.value ≡ lit_true v e.lit) [
      | true ↦ λ is. absurd (true≢false (sym (any_has (λ x. same x a.value) (values_in es) e.value (has_map (λ (x : Entry). x.value) es e h) (same_swap e.value a.value ∙ is)) ∙ both_left (has (values_in es) a.value) (are_distinct (values_in es)) d))
      | false ↦ λ _. alone v es e (both_right (has (values_in es) a.value) (are_distinct (values_in es)) d) h
    ] refl

pub literal_tells : (v : ℕ → Bool) (es : List Entry) (o : Outcome Value) → are_distinct (values_in es) ≡ true → Means v es o → (e : Entry) → Has es e → lit_true v e.lit ≡ is_gives e.value o
literal_tells v es o d means e h = sym (alone v es e d h) ∙ means.at e.value
