-- What a value is made of that some tokens spell.
use Rattle.std.proofs.Common.{◌≡◌, ℕ, suc, true, false, List, [], ◌∷◌, ◌++◌, subst, inl, inr}
use Rattle.std.specs.Prelude.{◌⊎◌, nat_lt}
use Rattle.std.specs.Str.Parse.{digits_value}
use Rattle.asm_lex.specs.Cut.{is_number, greatest_number}
use Rattle.asm_grammar.specs.Grammar.{Grammar, word, nothing, both, either, many, shown, opening, Placed, Inner, Lang, has, kind, next_of, spelled, spelled_list}
use Rattle.asm_tree.specs.Language.{TokenText, models, Inside, Value}

-- its number, if it is one, is not above the greatest
pub record Fits (t : TokenText) : Type 0 where
  pub small : is_number t.text ≡ true → nat_lt greatest_number (digits_value 10 t.text) ≡ false

abbrev pub AllFit : List (Placed models) → Type 0
AllFit [] = Unit {0}
AllFit (p ∷ u) = Fits p.token × AllFit u

fit_left : (u v : List (Placed models)) → AllFit (u ++ v) → AllFit u
fit_left [] v f = tt
fit_left (p ∷ u) v f = (f.0, fit_left u v f.1)

fit_right : (u v : List (Placed models)) → AllFit (u ++ v) → AllFit v
fit_right [] v f = f
fit_right (p ∷ u) v f = fit_right u v f.1

abbrev pub Every : {A : Type 0} → (A → Type 0) → List A → Type 0
Every P [] = Unit {0}
Every P (x ∷ xs) = P x × Every P xs

module _ (I : (x : Inside) → Value x → Type 0) where
  abbrev pub Made : {A : Type 0} → Grammar models A → A → Type 0
  Made (word ks) y = Fits y × (has (kind models y) ks ≡ true)
  Made (nothing ks a) y = y ≡ a
  Made (both g h) y = Made g y.0 × Made h y.1
  Made (either g h) y = Made g y ⊎ Made h y
  Made (many g) ys = Every (Made g) ys
  Made (shown {A} f g) y = (x : A) × (y ≡ f x) × Made g x
  Made (opening ks x) y = Fits y.0 × (has (kind models y.0) ks ≡ true) × I x y.1

  module _ (inner : Inner models) (step : (x : Inside) (d : ℕ) (u : List (Placed models)) (y : Value x) (next : ℕ) → AllFit u → inner x d u y next → I x y) where
    made_list : {A : Type 0} (p : Lang models A) (M : A → Type 0) → ((u : List (Placed models)) (y : A) (next : ℕ) → AllFit u → p u y next → M y)
        → (u : List (Placed models)) (ys : List A) (next : ℕ) → AllFit u → spelled_list models p u ys next → Every M ys
    made_list p M f u [] next a s = tt
    made_list p M f u (y ∷ ys) next a s =
        let b = subst AllFit s.2 a in
        (f s.0 y (next_of models s.1 next) (fit_left s.0 s.1 b) s.3, made_list p M f s.1 ys next (fit_right s.0 s.1 b) s.4)

    pub made : {A : Type 0} (g : Grammar models A) (d : ℕ) (u : List (Placed models)) (y : A) (next : ℕ) → AllFit u → spelled models inner g d u y next → Made g y
    made (word ks) d u y next a s = let b = subst AllFit s.0 a in (b.0, s.1)
    made (nothing ks e) d u y next a s = s.1
    made (both g h) d u y next a s =
        let b = subst AllFit s.2 a in
        (made g d s.0 y.0 (next_of models s.1 next) (fit_left s.0 s.1 b) s.3, made h d s.1 y.1 next (fit_right s.0 s.1 b) s.4)
    made (either g h) d u y next a (inl s) = inl (made g d u y next a s)
    made (either g h) d u y next a (inr s) = inr (made h d u y next a s)
    made (many g) d u y next a s = made_list (spelled models inner g d) (Made g) (λ v x n b t. made g d v x n b t) u y next a s
    made (shown f g) d u y next a s = (s.0, s.1, made g d u s.0 next a s.2)
    made (opening ks x) d u y next a s = let b = subst AllFit s.1 a in (b.0, s.2, step x (suc d) s.0 y.1 next b.1 s.3)
