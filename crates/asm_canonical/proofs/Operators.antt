-- The documents of operators with their operands.
use Rattle.std.proofs.Common.{◌≡◌, ℕ, suc, Bool, true, false, List, [], ◌∷◌, ◌++◌, Some, None, Option, refl, ap, sym, ◌∙◌, subst, append_assoc}
use Rattle.std.specs.Prelude.{nat_lt, codes, if◌then◌else◌}
use Rattle.asm_grammar.specs.Grammar.{both, spelled, kind, has}
use Rattle.asm_tree.specs.Words.{class_of, number, kind_of}
use Rattle.asm_tree.specs.declared.class.Class.TheVariants as class
use Rattle.asm_tree.specs.declared.operator.Op.{Op}
use Rattle.asm_tree.specs.declared.operator.Op.TheVariants as op
use Rattle.asm_tree.specs.declared.operator.UnaryOp.{UnaryOp}
use Rattle.asm_tree.specs.declared.operator.UnaryOp.TheVariants as unary
use Rattle.asm_tree.specs.declared.term.RawTerm.{RawTerm}
use Rattle.asm_tree.specs.declared.term.RawTermKind.TheVariants as term_kind
use Rattle.asm_tree.specs.Language.{TokenText, Phrase, Chain, models, Equivalent, Implied, Disjoined, Joined, Compared, Added, Multiplied, Negated, Opposite, NamedOne, NamedTwo, OneOperand, TwoOperands}
use Rattle.asm_tree.specs.Terms.{comparisons, one_names, two_names, op_at, unary_at, joined, chained, chain_of, paired, before_operand, named_one, named_two, arguments, call, leaf, named, enclosed, primary, opposite, product_tail, product, sum_tail, sum, comparison_tail, comparison, negation, conjunction_tail, conjunction, disjunction_tail, disjunction, implication_tail, implication, equivalence_tail, equivalence, term}
use Rattle.asm_tree.specs.Rules.{body}
use Rattle.asm_canonical.specs.Document.{Item, Gap, One, Doc, text_in, parenthesized}
use Rattle.asm_canonical.specs.Terms.{level, left_level, right_level, sign, is_infix, infixed, prefixed, unary_operation, term_doc, whole_term}
use Rattle.asm_canonical.specs.Placeless.{plain_term, plain_term_kind}
use Rattle.asm_lex.specs.Cut.{is_word}
use Rattle.asm_canonical.proofs.TermDocuments.{doc_unary, doc_binary}
use Rattle.asm_canonical.proofs.PlainTerms.{plain_unary, plain_binary}
use Rattle.asm_canonical.proofs.Ends.{Stops, minus_ends, stops, word_stops, free_open, free_close, free_comma, free_equal, free_plus, free_times, free_not_equal, free_less_equal, free_greater_equal, stops_less, stops_greater, stops_minus}
use Rattle.asm_canonical.proofs.Cutting.{Joins, leads_gap, leads_byte, joins_leads}
use Rattle.asm_canonical.proofs.Good.{Good, IsKind, good_left, good_right, good_shown, good_both, good_gap, good_opening}
use Rattle.asm_canonical.proofs.Chains.{IsLevel, good_grown}
use Rattle.asm_canonical.proofs.Phrases.{is_kind, Given, symbol_then, word_opens, free_opens, closed, symbol_alone}
use Rattle.asm_canonical.proofs.Levels.{at, Same, GoodKind, Fronts, fronts_append, fronts_byte, fronts_if, operation, looser, plain_from, child, child_fronts, whole}

-- ---- what a token says of its operator

op_of_sign : (o : Op) → op_at (suc (number (class_of (sign o)))) ≡ o
unfolding number class_of
op_of_sign op.Iff = refl
op_of_sign op.Implies = refl
op_of_sign op.Or = refl
op_of_sign op.Xor = refl
op_of_sign op.And = refl
op_of_sign op.Equal = refl
op_of_sign op.NotEqual = refl
op_of_sign op.Less = refl
op_of_sign op.LessEqual = refl
op_of_sign op.Greater = refl
op_of_sign op.GreaterEqual = refl
op_of_sign op.Plus = refl
op_of_sign op.Minus = refl
op_of_sign op.Times = refl
op_of_sign op.Mod = refl
op_of_sign op.Idiv = refl
op_of_sign op.Min = refl
op_of_sign op.Max = refl

sign_stops : (o : Op) → Stops (sign o)
sign_stops op.Iff = word_stops (codes "iff") refl
sign_stops op.Implies = word_stops (codes "implies") refl
sign_stops op.Or = word_stops (codes "or") refl
sign_stops op.Xor = word_stops (codes "xor") refl
sign_stops op.And = word_stops (codes "and") refl
sign_stops op.Equal = stops free_equal
sign_stops op.NotEqual = stops free_not_equal
sign_stops op.Less = stops_less
sign_stops op.LessEqual = stops free_less_equal
sign_stops op.Greater = stops_greater
sign_stops op.GreaterEqual = stops free_greater_equal
sign_stops op.Plus = stops free_plus
sign_stops op.Minus = stops_minus
sign_stops op.Times = stops free_times
sign_stops op.Mod = word_stops (codes "mod") refl
sign_stops op.Idiv = word_stops (codes "idiv") refl
sign_stops op.Min = word_stops (codes "min") refl
sign_stops op.Max = word_stops (codes "max") refl

-- an operation with the same operands
same_binary : (o : Op) (t : TokenText) (x y v w : RawTerm) → t.text ≡ sign o → plain_term v ≡ plain_term x → plain_term w ≡ plain_term y
    → plain_term_kind (term_kind.Binary (op_at (kind models t)) v w) ≡ plain_term_kind (term_kind.Binary o x y)
same_binary o t x y v w e f g =
    plain_binary (op_at (kind models t)) v w
    ∙ ap (λ (p : Op). term_kind.Binary p (plain_term v) (plain_term w)) (ap (λ z. op_at (suc (number (class_of z)))) e ∙ op_of_sign o)
    ∙ ap (λ (z : RawTerm). term_kind.Binary o z (plain_term w)) f ∙ ap (λ (z : RawTerm). term_kind.Binary o (plain_term x) z) g ∙ sym (plain_binary o x y)

joined_same : (o : Op) (x y : RawTerm) (t : TokenText) (v w : Phrase) → t.text ≡ sign o → Same x.kind v → Same y.kind w → Same (term_kind.Binary o x y) (joined v t w)
joined_same o x y t v w e f g = same_binary o t x y v.term w.term e (plain_from x v.term f) (plain_from y w.term g)

same_unary : (o : UnaryOp) (x v : RawTerm) → plain_term v ≡ plain_term x → plain_term_kind (term_kind.Unary o v) ≡ plain_term_kind (term_kind.Unary o x)
same_unary o x v e = plain_unary o v ∙ ap (λ (z : RawTerm). term_kind.Unary o z) e ∙ sym (plain_unary o x)

-- ---- the levels whose operators group to the left

chained-snoc : (x : Phrase) (xs : List (TokenText × Phrase)) (t : TokenText) (y : Phrase) → joined (chained x xs) t y ≡ chained x (xs ++ (t, y) ∷ [])
chained-snoc x [] t y = refl
chained-snoc x ((s, z) ∷ xs) t y = chained-snoc (joined x s z) xs t y

multiplied_level : IsLevel (kind_of class.Times ∷ kind_of class.Mod ∷ []) Multiplied (λ p. (p.0, p.1.0) ∷ p.1.1) (λ p. p) (opposite false)
unfolding number class_of body product_tail arguments call leaf named enclosed primary opposite
multiplied_level = record {
  puts = λ t z zs. refl;
  into = λ i d u y next s. subst (λ (z : Chain). spelled models i (both (opposite false) (product_tail false)) d u z next) (sym s.1) s.2;
  out = λ i d u y next s. (y, refl, s);
  settled = refl;
}

added_level : IsLevel (kind_of class.Plus ∷ kind_of class.Minus ∷ []) Added (λ p. (p.0, p.1.0) ∷ p.1.1) (λ p. p) (product false)
unfolding number class_of body sum_tail product product_tail arguments call leaf named enclosed primary opposite
added_level = record {
  puts = λ t z zs. refl;
  into = λ i d u y next s. subst (λ (z : Chain). spelled models i (both (product false) (sum_tail false)) d u z next) (sym s.1) s.2;
  out = λ i d u y next s. (y, refl, s);
  settled = refl;
}

joined_level : IsLevel (kind_of class.And ∷ []) Joined (λ p. (p.0, p.1.0) ∷ p.1.1) (λ p. p) (negation false)
unfolding number class_of body conjunction_tail negation comparison comparison_tail sum sum_tail product product_tail arguments call leaf named enclosed primary opposite
joined_level = record {
  puts = λ t z zs. refl;
  into = λ i d u y next s. subst (λ (z : Chain). spelled models i (both (negation false) (conjunction_tail false)) d u z next) (sym s.1) s.2;
  out = λ i d u y next s. (y, refl, s);
  settled = refl;
}

disjoined_level : IsLevel (kind_of class.Or ∷ kind_of class.Xor ∷ []) Disjoined (λ p. (p.0, p.1.0) ∷ p.1.1) (λ p. p) (conjunction false)
unfolding number class_of body disjunction_tail conjunction conjunction_tail negation comparison comparison_tail sum sum_tail product product_tail arguments call leaf named enclosed primary opposite
disjoined_level = record {
  puts = λ t z zs. refl;
  into = λ i d u y next s. subst (λ (z : Chain). spelled models i (both (conjunction false) (disjunction_tail false)) d u z next) (sym s.1) s.2;
  out = λ i d u y next s. (y, refl, s);
  settled = refl;
}

equivalent_level : IsLevel (kind_of class.Iff ∷ []) Equivalent (λ p. (p.0, p.1.0) ∷ p.1.1) (λ p. p) (implication false)
unfolding number class_of body equivalence_tail implication implication_tail disjunction disjunction_tail conjunction conjunction_tail negation comparison comparison_tail sum sum_tail product product_tail arguments call leaf named enclosed primary opposite
equivalent_level = record {
  puts = λ t z zs. refl;
  into = λ i d u y next s. subst (λ (z : Chain). spelled models i (both (implication false) (equivalence_tail false)) d u z next) (sym s.1) s.2;
  out = λ i d u y next s. (y, refl, s);
  settled = refl;
}

module _ (o : Op) (x y : RawTerm) where
  pair_same : (p : Phrase × Option (TokenText × Phrase)) → Same x.kind p.0 × Given (λ q. (q.0.text ≡ sign o) × Same y.kind q.1) p.1 → Same (term_kind.Binary o x y) (paired p)
  pair_same (v, None) h = absurd h.1
  pair_same (v, Some (t, w)) h = joined_same o x y t v w h.1.0 h.0 h.1.1

  prefix_same : (p : TokenText × (RawTerm × RawTerm)) → (p.0.text ≡ sign o) × ((plain_term p.1.0 ≡ plain_term x) × (plain_term p.1.1 ≡ plain_term y)) → Same (term_kind.Binary o x y) (named_two p)
  prefix_same p h = same_binary o p.0 x y p.1.0 p.1.1 h.0 h.1.0 h.1.1

module _ (o : Op) (x y : RawTerm) {a b : List Item} where
  multiplied : IsKind (sign o) (kind_of class.Times ∷ kind_of class.Mod ∷ []) → Good (product false) a (Same x.kind) → Good (opposite false) b (Same y.kind) → Good (product false) (a ++ (Gap ∷ One (sign o) ∷ Gap ∷ b)) (Same (term_kind.Binary o x y))
  unfolding product product_tail
  multiplied k p q = good_grown (kind_of class.Times ∷ kind_of class.Mod ∷ []) Multiplied (λ p. (p.0, p.1.0) ∷ p.1.1) (λ p. p) (opposite false) multiplied_level chain_of (λ t z y. joined z t y) chained-snoc a b (sign o) k (sign_stops o) p q (joined_same o x y)

  added : IsKind (sign o) (kind_of class.Plus ∷ kind_of class.Minus ∷ []) → Good (sum false) a (Same x.kind) → Good (product false) b (Same y.kind) → Good (sum false) (a ++ (Gap ∷ One (sign o) ∷ Gap ∷ b)) (Same (term_kind.Binary o x y))
  unfolding sum sum_tail
  added k p q = good_grown (kind_of class.Plus ∷ kind_of class.Minus ∷ []) Added (λ p. (p.0, p.1.0) ∷ p.1.1) (λ p. p) (product false) added_level chain_of (λ t z y. joined z t y) chained-snoc a b (sign o) k (sign_stops o) p q (joined_same o x y)

  conjoined : IsKind (sign o) (kind_of class.And ∷ []) → Good (conjunction false) a (Same x.kind) → Good (negation false) b (Same y.kind) → Good (conjunction false) (a ++ (Gap ∷ One (sign o) ∷ Gap ∷ b)) (Same (term_kind.Binary o x y))
  unfolding conjunction conjunction_tail
  conjoined k p q = good_grown (kind_of class.And ∷ []) Joined (λ p. (p.0, p.1.0) ∷ p.1.1) (λ p. p) (negation false) joined_level chain_of (λ t z y. joined z t y) chained-snoc a b (sign o) k (sign_stops o) p q (joined_same o x y)

  disjoined : IsKind (sign o) (kind_of class.Or ∷ kind_of class.Xor ∷ []) → Good (disjunction false) a (Same x.kind) → Good (conjunction false) b (Same y.kind) → Good (disjunction false) (a ++ (Gap ∷ One (sign o) ∷ Gap ∷ b)) (Same (term_kind.Binary o x y))
  unfolding disjunction disjunction_tail
  disjoined k p q = good_grown (kind_of class.Or ∷ kind_of class.Xor ∷ []) Disjoined (λ p. (p.0, p.1.0) ∷ p.1.1) (λ p. p) (conjunction false) disjoined_level chain_of (λ t z y. joined z t y) chained-snoc a b (sign o) k (sign_stops o) p q (joined_same o x y)

  equivalent : IsKind (sign o) (kind_of class.Iff ∷ []) → Good (equivalence false) a (Same x.kind) → Good (implication false) b (Same y.kind) → Good (equivalence false) (a ++ (Gap ∷ One (sign o) ∷ Gap ∷ b)) (Same (term_kind.Binary o x y))
  unfolding equivalence equivalence_tail
  equivalent k p q = good_grown (kind_of class.Iff ∷ []) Equivalent (λ p. (p.0, p.1.0) ∷ p.1.1) (λ p. p) (implication false) equivalent_level chain_of (λ t z y. joined z t y) chained-snoc a b (sign o) k (sign_stops o) p q (joined_same o x y)

  -- ---- the other levels

  implied : IsKind (sign o) (kind_of class.Implies ∷ []) → Good (disjunction false) a (Same x.kind) → Good (implication false) b (Same y.kind) → Good (implication false) (a ++ (Gap ∷ One (sign o) ∷ Gap ∷ b)) (Same (term_kind.Binary o x y))
  unfolding implication implication_tail body
  implied k p q = good_shown (good_both p leads_gap (good_gap (good_left (good_shown {Q = Given (λ q. (q.0.text ≡ sign o) × Same y.kind q.1)} (good_opening {x = Implied} k (joins_leads (sign_stops o) leads_gap) (good_gap q)) (λ z h. h))))) (pair_same o x y)

  compared : IsKind (sign o) comparisons → Good (sum false) a (Same x.kind) → Good (sum false) b (Same y.kind) → Good (comparison false) (a ++ (Gap ∷ One (sign o) ∷ Gap ∷ b)) (Same (term_kind.Binary o x y))
  unfolding comparison comparison_tail body
  compared k p q = good_shown (good_both p leads_gap (good_gap (good_left (good_shown {Q = Given (λ q. (q.0.text ≡ sign o) × Same y.kind q.1)} (good_opening {x = Compared} k (joins_leads (sign_stops o) leads_gap) (good_gap q)) (λ z h. h))))) (pair_same o x y)

  named_pair : IsKind (sign o) two_names → Good (term false) a (λ v. plain_term v ≡ plain_term x) → Good (term false) b (λ w. plain_term w ≡ plain_term y) → Good (primary false) (One (sign o) ∷ parenthesized (a ++ (One (codes ",") ∷ Gap ∷ b))) (Same (term_kind.Binary o x y))
  unfolding number class_of primary named body
  named_pair k p q =
      let inner : Good (body false TwoOperands) ((a ++ (One (codes ",") ∷ Gap ∷ b)) ++ One (codes ")") ∷ []) (λ v. (plain_term v.0 ≡ plain_term x) × (plain_term v.1 ≡ plain_term y)) =
      subst (λ (d : List Item). Good (body false TwoOperands) d (λ v. (plain_term v.0 ≡ plain_term x) × (plain_term v.1 ≡ plain_term y))) (sym (append_assoc a (One (codes ",") ∷ Gap ∷ b) (One (codes ")") ∷ [])))
      (good_both p (leads_byte refl) (symbol_then (stops free_comma) refl (closed q (leads_byte refl) (symbol_alone (stops free_close) refl)))) in
      good_right (good_right (good_left (good_right (good_left (good_shown (good_opening {x = NamedTwo} k (joins_leads (sign_stops o) (leads_byte refl))
      (good_shown {Q = λ v. (plain_term v.0 ≡ plain_term x) × (plain_term v.1 ≡ plain_term y)} (free_opens {x = TwoOperands} free_open refl inner) (λ v h. h.1))) (prefix_same o x y))))))

-- ---- any operator of two operands

module _ (x y : RawTerm) (g : GoodKind x.kind) (h : GoodKind y.kind) where
  between_operands : (o : Op) → is_infix o ≡ true → Good (at (level o)) (term_doc x (left_level o) ++ (Gap ∷ One (sign o) ∷ Gap ∷ term_doc y (right_level o))) (Same (term_kind.Binary o x y))
  unfolding number class_of
  between_operands op.Iff e = equivalent op.Iff x y (is_kind refl) (child x g 1) (child y h 2)
  between_operands op.Implies e = implied op.Implies x y (is_kind refl) (child x g 3) (child y h 2)
  between_operands op.Or e = disjoined op.Or x y (is_kind refl) (child x g 3) (child y h 4)
  between_operands op.Xor e = disjoined op.Xor x y (is_kind refl) (child x g 3) (child y h 4)
  between_operands op.And e = conjoined op.And x y (is_kind refl) (child x g 4) (child y h 5)
  between_operands op.Equal e = compared op.Equal x y (is_kind refl) (child x g 7) (child y h 7)
  between_operands op.NotEqual e = compared op.NotEqual x y (is_kind refl) (child x g 7) (child y h 7)
  between_operands op.Less e = compared op.Less x y (is_kind refl) (child x g 7) (child y h 7)
  between_operands op.LessEqual e = compared op.LessEqual x y (is_kind refl) (child x g 7) (child y h 7)
  between_operands op.Greater e = compared op.Greater x y (is_kind refl) (child x g 7) (child y h 7)
  between_operands op.GreaterEqual e = compared op.GreaterEqual x y (is_kind refl) (child x g 7) (child y h 7)
  between_operands op.Plus e = added op.Plus x y (is_kind refl) (child x g 7) (child y h 8)
  between_operands op.Minus e = added op.Minus x y (is_kind refl) (child x g 7) (child y h 8)
  between_operands op.Times e = multiplied op.Times x y (is_kind refl) (child x g 8) (child y h 9)
  between_operands op.Mod e = multiplied op.Mod x y (is_kind refl) (child x g 8) (child y h 9)
  between_operands op.Idiv e = absurd (cc)
  between_operands op.Min e = absurd (cc)
  between_operands op.Max e = absurd (cc)

  before_operands : (o : Op) → is_infix o ≡ false → Good (primary false) (prefixed o (term_doc x) (term_doc y)) (Same (term_kind.Binary o x y))
  unfolding number class_of
  before_operands op.Idiv e = named_pair op.Idiv x y (is_kind refl) (whole x g) (whole y h)
  before_operands op.Min e = named_pair op.Min x y (is_kind refl) (whole x g) (whole y h)
  before_operands op.Max e = named_pair op.Max x y (is_kind refl) (whole x g) (whole y h)
  before_operands op.Iff e = absurd (cc)
  before_operands op.Implies e = absurd (cc)
  before_operands op.Or e = absurd (cc)
  before_operands op.Xor e = absurd (cc)
  before_operands op.And e = absurd (cc)
  before_operands op.Equal e = absurd (cc)
  before_operands op.NotEqual e = absurd (cc)
  before_operands op.Less e = absurd (cc)
  before_operands op.LessEqual e = absurd (cc)
  before_operands op.Greater e = absurd (cc)
  before_operands op.GreaterEqual e = absurd (cc)
  before_operands op.Plus e = absurd (cc)
  before_operands op.Minus e = absurd (cc)
  before_operands op.Times e = absurd (cc)
  before_operands op.Mod e = absurd (cc)

  binary_good : (o : Op) (l : ℕ) (b : Bool) → is_infix o ≡ b → Good (at l) (if b then infixed o (term_doc x) (term_doc y) l else prefixed o (term_doc x) (term_doc y)) (Same (term_kind.Binary o x y))
  binary_good o l true e = operation (term_kind.Binary o x y) (level o) l (between_operands o e)
  binary_good o l false e = looser (term_kind.Binary o x y) l (before_operands o e)

  sign_fronts : (o : Op) (d : List Item) → is_infix o ≡ false → Fronts (One (sign o) ∷ d)
  sign_fronts op.Idiv d e = fronts_byte refl
  sign_fronts op.Min d e = fronts_byte refl
  sign_fronts op.Max d e = fronts_byte refl
  sign_fronts op.Iff d e = absurd (cc)
  sign_fronts op.Implies d e = absurd (cc)
  sign_fronts op.Or d e = absurd (cc)
  sign_fronts op.Xor d e = absurd (cc)
  sign_fronts op.And d e = absurd (cc)
  sign_fronts op.Equal d e = absurd (cc)
  sign_fronts op.NotEqual d e = absurd (cc)
  sign_fronts op.Less d e = absurd (cc)
  sign_fronts op.LessEqual d e = absurd (cc)
  sign_fronts op.Greater d e = absurd (cc)
  sign_fronts op.GreaterEqual d e = absurd (cc)
  sign_fronts op.Plus d e = absurd (cc)
  sign_fronts op.Minus d e = absurd (cc)
  sign_fronts op.Times d e = absurd (cc)
  sign_fronts op.Mod d e = absurd (cc)

  binary_fronts : (o : Op) (l : ℕ) (b : Bool) → is_infix o ≡ b → Fronts (if b then infixed o (term_doc x) (term_doc y) l else prefixed o (term_doc x) (term_doc y))
  binary_fronts o l true e = fronts_if (nat_lt (level o) l) (fronts_append (child_fronts x g (left_level o)) leads_gap)
  binary_fronts o l false e = sign_fronts o (parenthesized (term_doc x (left_level o) ++ (One (codes ",") ∷ Gap ∷ term_doc y (right_level o)))) e

pub good_binary : (o : Op) (x y : RawTerm) → GoodKind x.kind → GoodKind y.kind → GoodKind (term_kind.Binary o x y)
good_binary o x y g h = record {
  good = λ l. subst (λ (d : Doc). Good (at l) (d l) (Same (term_kind.Binary o x y))) (sym (doc_binary o x y)) (binary_good x y g h o l (is_infix o) refl);
  fronts = λ l. subst (λ (d : Doc). Fronts (d l)) (sym (doc_binary o x y)) (binary_fronts x y g h o l (is_infix o) refl);
}

-- ---- operators of one operand

before_same : (o : UnaryOp) (x : RawTerm) (w : List ℕ) (p : TokenText × Phrase) → (p.0.text ≡ w) × Same x.kind p.1 → Same (term_kind.Unary o x) (before_operand o p)
before_same o x w p h = same_unary o x p.1.term (plain_from x p.1.term h.1)

unary_of_sign : (o : UnaryOp) (w : List ℕ) (x : RawTerm) → unary_at (suc (number (class_of w))) ≡ o → (p : TokenText × RawTerm) → (p.0.text ≡ w) × (plain_term p.1 ≡ plain_term x) → Same (term_kind.Unary o x) (named_one p)
unary_of_sign o w x e p h =
    ap (λ z. plain_term_kind (term_kind.Unary z p.1)) (ap (λ z. unary_at (suc (number (class_of z)))) h.0 ∙ e) ∙ same_unary o x p.1 h.1

joins_minus : {d : List Item} → Fronts d → Joins (codes "-") d
joins_minus {d} f = record { ends = λ r h. minus_ends (text_in d ++ r) (f.front r h) }

module _ (x : RawTerm) (g : GoodKind x.kind) where
  named_single : (o : UnaryOp) (w : List ℕ) → is_word w ≡ true → has (suc (number (class_of w))) one_names ≡ true → unary_at (suc (number (class_of w))) ≡ o → Good (primary false) (One w ∷ parenthesized (whole_term x)) (Same (term_kind.Unary o x))
  unfolding number class_of primary named body
  named_single o w i k e =
      good_right (good_right (good_left (good_left (good_shown (good_opening {x = NamedOne} (is_kind k) (joins_leads (word_stops w i) (leads_byte refl))
      (good_shown {Q = λ v. plain_term v ≡ plain_term x} (free_opens {x = OneOperand} free_open refl (closed (whole x g) (leads_byte refl) (symbol_alone (stops free_close) refl))) (λ v h. h.1))) (unary_of_sign o w x e)))))

  unary_good : (o : UnaryOp) (l : ℕ) → Good (at l) (unary_operation o (term_doc x) l) (Same (term_kind.Unary o x))
  unfolding number class_of negation opposite body
  unary_good unary.Not l = operation (term_kind.Unary unary.Not x) 5 l (good_left (good_shown (word_opens {x = Negated} (codes "not") refl refl (child x g 5)) (before_same unary.Not x (codes "not"))))
  unary_good unary.Negate l = operation (term_kind.Unary unary.Negate x) 9 l (good_left (good_shown (good_opening {x = Opposite} (is_kind refl) (joins_minus (child_fronts x g 9)) (child x g 9)) (before_same unary.Negate x (codes "-"))))
  unary_good unary.Abs l = looser (term_kind.Unary unary.Abs x) l (named_single unary.Abs (codes "abs") refl refl refl)
  unary_good unary.IsDefined l = looser (term_kind.Unary unary.IsDefined x) l (named_single unary.IsDefined (codes "isDef") refl refl refl)
  unary_good unary.IsUndefined l = looser (term_kind.Unary unary.IsUndefined x) l (named_single unary.IsUndefined (codes "isUndef") refl refl refl)

  unary_fronts : (o : UnaryOp) (l : ℕ) → Fronts (unary_operation o (term_doc x) l)
  unary_fronts unary.Not l = fronts_if (nat_lt 5 l) (fronts_byte refl)
  unary_fronts unary.Negate l = fronts_if (nat_lt 9 l) (fronts_byte refl)
  unary_fronts unary.Abs l = fronts_byte refl
  unary_fronts unary.IsDefined l = fronts_byte refl
  unary_fronts unary.IsUndefined l = fronts_byte refl

pub good_unary : (o : UnaryOp) (x : RawTerm) → GoodKind x.kind → GoodKind (term_kind.Unary o x)
good_unary o x g = record {
  good = λ l. subst (λ (d : Doc). Good (at l) (d l) (Same (term_kind.Unary o x))) (sym (doc_unary o x)) (unary_good x g o l);
  fronts = λ l. subst (λ (d : Doc). Fronts (d l)) (sym (doc_unary o x)) (unary_fronts x g o l);
}
