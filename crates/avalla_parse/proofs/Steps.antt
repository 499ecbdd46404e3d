-- What is read one part after another, where so many levels are left.
use Rattle.std.proofs.Common.{◌≡◌, ℕ, true, List, [], ◌∷◌, Ok, Err, refl, ◌∙◌}
use Rattle.asm_grammar.specs.Grammar.{Grammar, Outcome, and_then, word_at, shown, both}
use Rattle.asm_tree.specs.Words.{kind_of}
use Rattle.asm_tree.specs.declared.class.Class.{Class}
use Rattle.asm_tree.specs.Language.{TokenText, models, after}
use Rattle.asm_body.specs.Reading.{read_in}

-- what is made of what was made of a read value
made_again : {A B C : Type 0} (f : A → B) (g : B → C) (o : Outcome models A) → and_then models (and_then models o (λ x r. Ok (f x, r))) (λ y r. Ok (g y, r)) ≡ and_then models o (λ x r. Ok (g (f x), r))
made_again f g (Ok p) = refl
made_again f g (Err e) = refl

module _ (n : ℕ) where
  -- a part, and then what follows it
  pub shown_both : {A B C : Type 0} (f : A × B → C) (g : Grammar models A) (h : Grammar models B) (k : A → List TokenText → Outcome models C) → ((x : A) (r : List TokenText) → read_in n true (shown (λ y. f (x, y)) h) r ≡ k x r) → (w : List TokenText) → read_in n true (shown f (both g h)) w ≡ and_then models (read_in n true g w) k
  shown_both {A} {B} {C} f g h k e w = go (read_in n true g w)
    where
      go : (o : Outcome models A) → and_then models (and_then models {B = A × B} o (λ x r. and_then models (read_in n true h r) (λ y s. Ok ((x, y), s)))) (λ p r. Ok (f p, r)) ≡ and_then models o k
      go (Ok p) = made_again (λ y. (p.0, y)) f (read_in n true h p.1) ∙ e p.0 p.1
      go (Err s) = refl

  -- a word or symbol, and then what follows it
  pub after_is : {A : Type 0} (c : Class) (g : Grammar models A) (k : List TokenText → Outcome models A) → ((r : List TokenText) → read_in n true g r ≡ k r) → (w : List TokenText) → read_in n true (after c g) w ≡ and_then models (word_at models (kind_of c ∷ []) w) (λ t r. k r)
  after_is {A} c g k e w = go (word_at models (kind_of c ∷ []) w)
    where
      inner : (t : TokenText) (o : Outcome models A) → and_then models (and_then models {B = TokenText × A} o (λ y s. Ok ((t, y), s))) (λ p r. Ok (p.1, r)) ≡ o
      inner t (Ok p) = refl
      inner t (Err s) = refl

      go : (o : Outcome models TokenText) → and_then models (and_then models {B = TokenText × A} o (λ t r. and_then models (read_in n true g r) (λ y s. Ok ((t, y), s)))) (λ p r. Ok (p.1, r)) ≡ and_then models o (λ t r. k r)
      go (Ok p) = inner p.0 (read_in n true g p.1) ∙ e p.1
      go (Err s) = refl
