-- How operators are read, level by level.
use Rattle.std.proofs.Common.{◌≡◌, ℕ, Bool, true, false, if◌then◌else◌, List, [], ◌∷◌, Ok, Err, Some, None, refl, sym, ◌∙◌, subst}
use Rattle.asm_grammar.specs.declared.Stop.{Stop}
use Rattle.asm_grammar.specs.Grammar.{Outcome, and_then, has, ahead}
use Rattle.asm_tree.specs.Words.{kind_of}
use Rattle.asm_tree.specs.declared.class.Class.TheVariants as class
use Rattle.asm_tree.specs.declared.operator.UnaryOp.TheVariants as unary
use Rattle.asm_tree.specs.Language.{TokenText, Phrase, models, Opposite, Negated, Compared, Implied, Equivalent, Disjoined, Joined, Added, Multiplied}
use Rattle.asm_tree.specs.Terms.{primary, opposite, negation, comparison, comparison_tail, comparisons, implication, implication_tail, equivalence, equivalence_tail, disjunction, disjunction_tail, conjunction, conjunction_tail, sum, sum_tail, product, product_tail, before_operand, chained, joined}
use Rattle.asm_tree.specs.Rules.{body}
use Rattle.asm_body.specs.Reading.{opened, opened_in, read_in}
use Rattle.asm_body.specs.Levels.{operators, inner_level, tail, operand, joined_to}
use Rattle.asm_body.specs.declared.level.Level.{Level}
use Rattle.asm_body.specs.declared.chain.Chain.{Chain}
use Rattle.asm_body.specs.declared.chain.Chain.TheVariants as chain
use Rattle.asm_body.proofs.Opening.{opens}
use Rattle.asm_body.proofs.Forms.{either_is}

abbrev pub Tail : Type 0
Tail = List (TokenText × Phrase)

module _ (n : ℕ) (s : Bool) (w : List TokenText) where
  pub opposite_is : read_in n s (opposite s) w ≡ (if has (ahead models w 0) (kind_of class.Minus ∷ []) then opened_in n s (kind_of class.Minus ∷ []) Opposite (before_operand unary.Negate) w else read_in n s (primary s) w)
  unfolding opposite
  opposite_is = either_is (has (ahead models w 0) (kind_of class.Minus ∷ [])) _ _ _ _ (opens s Opposite (kind_of class.Minus ∷ []) (before_operand unary.Negate) n w) refl

  pub negation_is : read_in n s (negation s) w ≡ (if has (ahead models w 0) (kind_of class.Not ∷ []) then opened_in n s (kind_of class.Not ∷ []) Negated (before_operand unary.Not) w else read_in n s (comparison s) w)
  unfolding negation
  negation_is = either_is (has (ahead models w 0) (kind_of class.Not ∷ [])) _ _ _ _ (opens s Negated (kind_of class.Not ∷ []) (before_operand unary.Not) n w) refl

  pub comparison_tail_is : read_in n s (comparison_tail s) w ≡ (if has (ahead models w 0) comparisons then opened_in n s comparisons Compared Some w else Ok (None, w))
  unfolding comparison_tail
  comparison_tail_is = either_is (has (ahead models w 0) comparisons) _ _ _ _ (opens s Compared comparisons Some n w) refl

  pub implication_tail_is : read_in n s (implication_tail s) w ≡ (if has (ahead models w 0) (kind_of class.Implies ∷ []) then opened_in n s (kind_of class.Implies ∷ []) Implied Some w else Ok (None, w))
  unfolding implication_tail
  implication_tail_is = either_is (has (ahead models w 0) (kind_of class.Implies ∷ [])) _ _ _ _ (opens s Implied (kind_of class.Implies ∷ []) Some n w) refl

same_then : {A B : Type 0} (o : Outcome models A) (f g : A → List TokenText → Outcome models B) → ((x : A) (r : List TokenText) → f x r ≡ g x r) → and_then models o f ≡ and_then models o g
same_then (Ok p) f g e = e p.0 p.1
same_then (Err e) f g h = refl

-- an operand and what follows it, put together
regroup : (t : TokenText) (a : Outcome models Phrase) (b : List TokenText → Outcome models Tail)
    → and_then models {A = Phrase × Tail} (and_then models a (λ x r. and_then models (b r) (λ y z. Ok ((x, y), z)))) (λ q z. Ok ((t, q.0) ∷ q.1, z))
    ≡ and_then models a (λ y z. and_then models (b z) (λ ys v. Ok ((t, y) ∷ ys, v)))
regroup t (Err e) b = refl
regroup t (Ok p) b = go (b p.1)
  where
    go : (o : Outcome models Tail) → and_then models {A = Phrase × Tail} (and_then models o (λ y z. Ok ((p.0, y), z))) (λ q z. Ok ((t, q.0) ∷ q.1, z)) ≡ and_then models o (λ ys v. Ok ((t, p.0) ∷ ys, v))
    go (Ok q) = refl
    go (Err e) = refl

-- an operator of the chain, its operand, and what follows
abbrev pub turn_of : ℕ → Bool → Chain → List TokenText → Outcome models Tail
turn_of n s k w = and_then models (opened (operators k) n w) (λ p r. and_then models (read_in p.1 s (operand s (inner_level k)) r) (λ y z. and_then models (read_in p.1 s (tail s k) z) (λ ys v. Ok ((p.0, y) ∷ ys, v))))

abbrev pub tail_by : ℕ → Bool → List TokenText → Chain → Outcome models Tail
tail_by n s w k = if has (ahead models w 0) (operators k) then turn_of n s k w else Ok ([], w)

module _ (n : ℕ) (s : Bool) (w : List TokenText) where
  pub tail_is : (k : Chain) → read_in n s (tail s k) w ≡ tail_by n s w k
  unfolding equivalence_tail disjunction_tail conjunction_tail sum_tail product_tail body
  tail_is chain.Equivalence = either_is (has (ahead models w 0) (operators chain.Equivalence)) _ _ _ _
      (opens s Equivalent (operators chain.Equivalence) (λ p. (p.0, p.1.0) ∷ p.1.1) n w
      ∙ same_then (opened (operators chain.Equivalence) n w) _ _ (λ p r. regroup p.0 (read_in p.1 s (operand s (inner_level chain.Equivalence)) r) (λ z. read_in p.1 s (tail s chain.Equivalence) z))) refl
  tail_is chain.Disjunction = either_is (has (ahead models w 0) (operators chain.Disjunction)) _ _ _ _
      (opens s Disjoined (operators chain.Disjunction) (λ p. (p.0, p.1.0) ∷ p.1.1) n w
      ∙ same_then (opened (operators chain.Disjunction) n w) _ _ (λ p r. regroup p.0 (read_in p.1 s (operand s (inner_level chain.Disjunction)) r) (λ z. read_in p.1 s (tail s chain.Disjunction) z))) refl
  tail_is chain.Conjunction = either_is (has (ahead models w 0) (operators chain.Conjunction)) _ _ _ _
      (opens s Joined (operators chain.Conjunction) (λ p. (p.0, p.1.0) ∷ p.1.1) n w
      ∙ same_then (opened (operators chain.Conjunction) n w) _ _ (λ p r. regroup p.0 (read_in p.1 s (operand s (inner_level chain.Conjunction)) r) (λ z. read_in p.1 s (tail s chain.Conjunction) z))) refl
  tail_is chain.Sum = either_is (has (ahead models w 0) (operators chain.Sum)) _ _ _ _
      (opens s Added (operators chain.Sum) (λ p. (p.0, p.1.0) ∷ p.1.1) n w
      ∙ same_then (opened (operators chain.Sum) n w) _ _ (λ p r. regroup p.0 (read_in p.1 s (operand s (inner_level chain.Sum)) r) (λ z. read_in p.1 s (tail s chain.Sum) z))) refl
  tail_is chain.Product = either_is (has (ahead models w 0) (operators chain.Product)) _ _ _ _
      (opens s Multiplied (operators chain.Product) (λ p. (p.0, p.1.0) ∷ p.1.1) n w
      ∙ same_then (opened (operators chain.Product) n w) _ _ (λ p r. regroup p.0 (read_in p.1 s (operand s (inner_level chain.Product)) r) (λ z. read_in p.1 s (tail s chain.Product) z))) refl

-- ---- the loop over the operators of a chain

more_joined : (x y : Phrase) (t : TokenText) (o : Outcome models Tail) → joined_to x (and_then models o (λ ys v. Ok ((t, y) ∷ ys, v))) ≡ joined_to (joined x t y) o
more_joined x y t (Ok p) = refl
more_joined x y t (Err e) = refl

-- the loop, whose invariant says that the whole gives o
module _ (k : Chain) (s : Bool) (o : Outcome models Phrase) (n : ℕ) (x : Phrase) (w : List TokenText) (inv : joined_to x (read_in n s (tail s k) w) ≡ o) where
  pub loop_full : has (ahead models w 0) (operators k) ≡ true → (e : Stop) → opened (operators k) n w ≡ Err e → o ≡ Err e
  loop_full h e q = sym inv ∙ rw (tail_is n s w k, h, q) refl

  pub loop_stops : has (ahead models w 0) (operators k) ≡ true → (t : TokenText) (m : ℕ) (a : List TokenText) → opened (operators k) n w ≡ Ok ((t, m), a) → (e : Stop) → read_in m s (operand s (inner_level k)) a ≡ Err e → o ≡ Err e
  loop_stops h t m a i e q = sym inv ∙ rw (tail_is n s w k, h, i, q) refl

  pub loop_turn : has (ahead models w 0) (operators k) ≡ true → (t : TokenText) (m : ℕ) (a : List TokenText) → opened (operators k) n w ≡ Ok ((t, m), a) → (y : Phrase) (r : List TokenText) → read_in m s (operand s (inner_level k)) a ≡ Ok (y, r)
      → joined_to (joined x t y) (read_in m s (tail s k) r) ≡ o
  loop_turn h t m a i y r q = sym (more_joined x y t (read_in m s (tail s k) r)) ∙ (rw (← inv) (rw (tail_is n s w k, h, i, q) refl))

  pub loop_ends : has (ahead models w 0) (operators k) ≡ false → o ≡ Ok (x, w)
  loop_ends h = sym inv ∙ rw (tail_is n s w k, h) refl

-- the same, where the operators and the level of the operands were computed
module _ (k : Chain) (s : Bool) (o : Outcome models Phrase) (n : ℕ) (x : Phrase) (w : List TokenText) (inv : joined_to x (read_in n s (tail s k) w) ≡ o) (ks : List ℕ) (same : ks ≡ operators k) (inside : Level) (level : inside ≡ inner_level k) where
  pub turn_full : has (ahead models w 0) ks ≡ true → (e : Stop) → opened ks n w ≡ Err e → o ≡ Err e
  turn_full = subst (λ (z : List ℕ). has (ahead models w 0) z ≡ true → (e : Stop) → opened z n w ≡ Err e → o ≡ Err e) (sym same) (loop_full k s o n x w inv)

  pub turn_stops : has (ahead models w 0) ks ≡ true → (t : TokenText) (m : ℕ) (a : List TokenText) → opened ks n w ≡ Ok ((t, m), a) → (e : Stop) → read_in m s (operand s inside) a ≡ Err e → o ≡ Err e
  turn_stops = subst (λ (z : List ℕ). has (ahead models w 0) z ≡ true → (t : TokenText) (m : ℕ) (a : List TokenText) → opened z n w ≡ Ok ((t, m), a) → (e : Stop) → read_in m s (operand s inside) a ≡ Err e → o ≡ Err e) (sym same)
      (λ h t m a i e q. loop_stops k s o n x w inv h t m a i e (subst (λ (v : Level). read_in m s (operand s v) a ≡ Err e) level q))

  pub turn_gives : has (ahead models w 0) ks ≡ true → (t : TokenText) (m : ℕ) (a : List TokenText) → opened ks n w ≡ Ok ((t, m), a) → (y : Phrase) (r : List TokenText) → read_in m s (operand s inside) a ≡ Ok (y, r)
      → joined_to (joined x t y) (read_in m s (tail s k) r) ≡ o
  turn_gives = subst (λ (z : List ℕ). has (ahead models w 0) z ≡ true → (t : TokenText) (m : ℕ) (a : List TokenText) → opened z n w ≡ Ok ((t, m), a) → (y : Phrase) (r : List TokenText) → read_in m s (operand s inside) a ≡ Ok (y, r)
      → joined_to (joined x t y) (read_in m s (tail s k) r) ≡ o) (sym same)
      (λ h t m a i y r q. loop_turn k s o n x w inv h t m a i y r (subst (λ (v : Level). read_in m s (operand s v) a ≡ Ok (y, r)) level q))

  pub turn_ends : has (ahead models w 0) ks ≡ false → o ≡ Ok (x, w)
  turn_ends = subst (λ (z : List ℕ). has (ahead models w 0) z ≡ false → o ≡ Ok (x, w)) (sym same) (loop_ends k s o n x w inv)

-- a chain begins with its first operand
begin_chain : (x : Phrase) (t : Outcome models Tail) → and_then models {A = Phrase × Tail} (and_then models t (λ ys z. Ok ((x, ys), z))) (λ p z. Ok (chained p.0 p.1, z)) ≡ joined_to x t
begin_chain x (Ok q) = refl
begin_chain x (Err e) = refl

module _ (n : ℕ) (s : Bool) (w r : List TokenText) (x : Phrase) where
  pub product_begins : read_in n s (opposite s) w ≡ Ok (x, r) → read_in n s (product s) w ≡ joined_to x (read_in n s (tail s chain.Product) r)
  unfolding product
  product_begins e = rw e (begin_chain x (read_in n s (product_tail s) r))

  pub sum_begins : read_in n s (product s) w ≡ Ok (x, r) → read_in n s (sum s) w ≡ joined_to x (read_in n s (tail s chain.Sum) r)
  unfolding sum
  sum_begins e = rw e (begin_chain x (read_in n s (sum_tail s) r))

  pub conjunction_begins : read_in n s (negation s) w ≡ Ok (x, r) → read_in n s (conjunction s) w ≡ joined_to x (read_in n s (tail s chain.Conjunction) r)
  unfolding conjunction
  conjunction_begins e = rw e (begin_chain x (read_in n s (conjunction_tail s) r))

  pub disjunction_begins : read_in n s (conjunction s) w ≡ Ok (x, r) → read_in n s (disjunction s) w ≡ joined_to x (read_in n s (tail s chain.Disjunction) r)
  unfolding disjunction
  disjunction_begins e = rw e (begin_chain x (read_in n s (disjunction_tail s) r))

  pub equivalence_begins : read_in n s (implication s) w ≡ Ok (x, r) → read_in n s (equivalence s) w ≡ joined_to x (read_in n s (tail s chain.Equivalence) r)
  unfolding equivalence
  equivalence_begins e = rw e (begin_chain x (read_in n s (equivalence_tail s) r))
