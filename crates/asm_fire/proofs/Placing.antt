-- The first place of a tuple in a list, looked for from a place on.
use Rattle.std.proofs.Common.{◌≡◌, ℕ, zero, suc, ◌+◌, ◌<◌, ◌≤◌, Bool as Truth, true, false, true≢false, List, [], ◌∷◌, Option, Some, None, length, drop, get_or, if◌then◌else◌, refl, sym, ap, ◌∙◌, subst, arith, drop-cons, add-one}
use Rattle.std.specs.Prelude.{IsTrue, ◌↔◌}
use Rattle.std.specs.Option.{option_map}
use Rattle.asm_domain.specs.declared.value.Value.{Value}
use Rattle.asm_node.specs.Values.{same_all}
use Rattle.asm_node.proofs.Sameness.{same_all_is, same_all_itself}
use Rattle.asm_fire.specs.Drawing.{place_among}

-- a place that was counted from a place on
abbrev pub moved : ℕ → Option ℕ → Option ℕ
moved k (Some n) = Some (k + n)
moved k None = None

pub moved_none : (o : Option ℕ) → moved 0 o ≡ o
moved_none (Some n) = let e : 0 + n ≡ n = omega arith in ap Some e
moved_none None = refl

moved_more : (k : ℕ) (o : Option ℕ) → moved k (option_map suc o) ≡ moved (k + 1) o
moved_more k (Some n) = let e : k + suc n ≡ k + 1 + n = omega arith in ap Some e
moved_more k None = refl

-- whether tuples are equal, as the definition tests it
tests : (vs ws : List Value) (b : Truth) → IsTrue b ↔ (vs ≡ ws) → same_all vs ws ≡ b
tests vs ws true is = subst (λ (xs : List Value). same_all vs xs ≡ true) (is.0 refl) (same_all_itself vs)
tests vs ws false is = elim (same_all vs ws) as (λ (b : Truth). same_all vs ws ≡ b → b ≡ false) [ true ↦ λ e. absurd (true≢false (sym (is.1 (same_all_is vs ws e)))) | false ↦ λ e. refl ] refl

module _ (tuple : List Value) (found : List (List Value)) (k : ℕ) (t : List Value) (lt : k < length found) (at : t ≡ get_or found k t) where
  one_more : place_among tuple (drop k found) ≡ (if same_all tuple t then Some 0 else option_map suc (place_among tuple (drop (k + 1) found)))
  one_more = rw (drop-cons found k t, add-one, sym at) refl

  pub is_here : (b : Truth) → b ≡ true → IsTrue b ↔ (t ≡ tuple) → place_among tuple found ≡ moved k (place_among tuple (drop k found)) → place_among tuple found ≡ Some k
  is_here b is decides so_far =
      let same : same_all tuple t ≡ true = tests tuple t true (λ _. sym (decides.0 is), λ _. refl) in
      let e : k + 0 ≡ k = omega arith in
      so_far ∙ ap (moved k) (one_more ∙ ap (λ (c : Truth). if c then Some 0 else option_map suc (place_among tuple (drop (k + 1) found))) same) ∙ ap Some e

  pub is_later : (b : Truth) → b ≡ false → IsTrue b ↔ (t ≡ tuple) → place_among tuple found ≡ moved k (place_among tuple (drop k found)) → place_among tuple found ≡ moved (k + 1) (place_among tuple (drop (k + 1) found))
  is_later b is decides so_far =
      let same : same_all tuple t ≡ false = tests tuple t false (λ h. absurd (true≢false (sym h)), λ e. sym is ∙ decides.1 (sym e)) in
      so_far ∙ ap (moved k) (one_more ∙ ap (λ (c : Truth). if c then Some 0 else option_map suc (place_among tuple (drop (k + 1) found))) same) ∙ moved_more k (place_among tuple (drop (k + 1) found))

past : {A : Type 0} (vs : List A) (i : ℕ) → length vs ≤ i → drop i vs ≡ []
past [] zero h = refl
past [] (suc i) h = refl
past (v ∷ vs) zero h = absurd (omega arith)
past (v ∷ vs) (suc i) h = past vs i (omega arith)

pub is_nowhere : (tuple : List Value) (found : List (List Value)) (k : ℕ) → length found ≤ k → place_among tuple found ≡ moved k (place_among tuple (drop k found)) → place_among tuple found ≡ None
is_nowhere tuple found k end so_far = so_far ∙ ap (λ xs. moved k (place_among tuple xs)) (past found k end)
