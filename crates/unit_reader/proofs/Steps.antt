-- What is read one part after another.
use Rattle.std.proofs.Common.{◌≡◌, List, [], ◌∷◌, Ok, Err, refl, ◌∙◌}
use Rattle.asm_grammar.specs.Grammar.{Grammar, Outcome, and_then, word_at, shown, both}
use Rattle.asm_tree.specs.Words.{kind_of}
use Rattle.asm_tree.specs.declared.class.Class.{Class}
use Rattle.asm_tree.specs.Language.{TokenText, models, after}
use Rattle.asm_body.specs.Reading.{read_flat}

-- what is made of what was made of a read value
pub made_again : {A B C : Type 0} (f : A → B) (g : B → C) (o : Outcome models A) → and_then models (and_then models o (λ x r. Ok (f x, r))) (λ y r. Ok (g y, r)) ≡ and_then models o (λ x r. Ok (g (f x), r))
made_again f g (Ok p) = refl
made_again f g (Err e) = refl

-- a part, and then what follows it
pub shown_both : {A B C : Type 0} (f : A × B → C) (g : Grammar models A) (h : Grammar models B) (k : A → List TokenText → Outcome models C) → ((x : A) (r : List TokenText) → read_flat (shown (λ y. f (x, y)) h) r ≡ k x r) → (w : List TokenText) → read_flat (shown f (both g h)) w ≡ and_then models (read_flat g w) k
shown_both {A} {B} {C} f g h k e w = go (read_flat g w)
  where
    go : (o : Outcome models A) → and_then models (and_then models {B = A × B} o (λ x r. and_then models (read_flat h r) (λ y s. Ok ((x, y), s)))) (λ p r. Ok (f p, r)) ≡ and_then models o k
    go (Ok p) = made_again (λ y. (p.0, y)) f (read_flat h p.1) ∙ e p.0 p.1
    go (Err s) = refl

-- a word or symbol, and then what follows it
pub after_is : {A : Type 0} (c : Class) (g : Grammar models A) (k : List TokenText → Outcome models A) → ((r : List TokenText) → read_flat g r ≡ k r) → (w : List TokenText) → read_flat (after c g) w ≡ and_then models (word_at models (kind_of c ∷ []) w) (λ t r. k r)
after_is {A} c g k e w = go (word_at models (kind_of c ∷ []) w)
  where
    inner : (t : TokenText) (o : Outcome models A) → and_then models (and_then models {B = TokenText × A} o (λ y s. Ok ((t, y), s))) (λ p r. Ok (p.1, r)) ≡ o
    inner t (Ok p) = refl
    inner t (Err s) = refl

    go : (o : Outcome models TokenText) → and_then models (and_then models {B = TokenText × A} o (λ t r. and_then models (read_flat g r) (λ y s. Ok ((t, y), s)))) (λ p r. Ok (p.1, r)) ≡ and_then models o (λ t r. k r)
    go (Ok p) = inner p.0 (read_flat g p.1) ∙ e p.1
    go (Err s) = refl

-- the same, where something is made of what follows
pub shown_after : {A B : Type 0} (f : A → B) (c : Class) (g : Grammar models A) (k : List TokenText → Outcome models B) → ((r : List TokenText) → read_flat (shown f g) r ≡ k r) → (w : List TokenText) → read_flat (shown f (after c g)) w ≡ and_then models (word_at models (kind_of c ∷ []) w) (λ t r. k r)
shown_after {A} {B} f c g k e w = go (word_at models (kind_of c ∷ []) w)
  where
    inner : (t : TokenText) (o : Outcome models A) → and_then models (and_then models (and_then models {B = TokenText × A} o (λ y s. Ok ((t, y), s))) (λ p r. Ok (p.1, r))) (λ y r. Ok (f y, r)) ≡ and_then models o (λ y r. Ok (f y, r))
    inner t (Ok p) = refl
    inner t (Err s) = refl

    go : (o : Outcome models TokenText) → and_then models (and_then models (and_then models {B = TokenText × A} o (λ t r. and_then models (read_flat g r) (λ y s. Ok ((t, y), s)))) (λ p r. Ok (p.1, r))) (λ y r. Ok (f y, r)) ≡ and_then models o (λ t r. k r)
    go (Ok p) = inner p.0 (read_flat g p.1) ∙ e p.1
    go (Err s) = refl
