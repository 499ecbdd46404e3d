-- Loops that read lists.
use Rattle.std.proofs.Common.{◌≡◌, ℕ, suc, true, false, List, [], ◌∷◌, ◌++◌, Ok, Err, refl, ap, sym, ◌∙◌, append_assoc, append-nil}
use Rattle.asm_grammar.specs.declared.Stop.{Stop}
use Rattle.asm_grammar.specs.Grammar.{Language, ahead, has, Outcome, and_then, many_at}

-- these items, and then those that are read
abbrev pub with_front : (l : Language) {A : Type 0} → List A → Outcome l (List A) → Outcome l (List A)
with_front l front o = and_then l o (λ ys s. Ok (front ++ ys, s))

pub front_nil : (l : Language) {A : Type 0} (o : Outcome l (List A)) → with_front l [] o ≡ o
front_nil l (Ok p) = refl
front_nil l (Err e) = refl

pub front_more : (l : Language) {A : Type 0} (xs : List A) (x : A) (o : Outcome l (List A)) → with_front l xs (and_then l o (λ ys s. Ok (x ∷ ys, s))) ≡ with_front l (xs ++ x ∷ []) o
front_more l xs x (Ok p) = ap (λ z. Ok (z, p.1)) (sym (append_assoc xs (x ∷ []) p.0))
front_more l xs x (Err e) = refl

-- a loop of so many turns, whose invariant says that the whole gives o
module _ (l : Language) {A : Type 0} (p : List l.Token → Outcome l A) (fs : List ℕ) (o : Outcome l (List A)) (n m : ℕ) (xs : List A) (w : List l.Token) (inv : with_front l xs (many_at l p fs n w) ≡ o) (one : n ≡ suc m) where
  pub turn_fails : has (ahead l w 0) fs ≡ true → (e : Stop) → p w ≡ Err e → o ≡ Err e
  turn_fails h e q = sym inv ∙ rw (one, h, q) refl

  pub turn_gives : has (ahead l w 0) fs ≡ true → (x : A) (r : List l.Token) → p w ≡ Ok (x, r) → with_front l (xs ++ x ∷ []) (many_at l p fs m r) ≡ o
  turn_gives h x r q = sym (front_more l xs x (many_at l p fs m r)) ∙ (rw (← inv) (rw (one, h, q) refl))

  pub turn_ends : has (ahead l w 0) fs ≡ false → o ≡ Ok (xs, w)
  turn_ends h = sym inv ∙ rw (one, h) (ap (λ z. Ok (z, w)) (append-nil xs))
