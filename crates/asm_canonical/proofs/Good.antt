-- A document whose tokens, wherever they stand, spell a value with a property, and whose text is cut into these tokens.
use Rattle.std.proofs.Common.{◌≡◌, ℕ, suc, ◌+◌, true, false, List, [], ◌∷◌, ◌++◌, length, refl, ap, sym, ◌∙◌, subst, inl, inr, append-nil}
use Rattle.std.specs.Prelude.{map}
use Rattle.asm_grammar.specs.Grammar.{Grammar, word, nothing, both, either, many, shown, opening, Placed, tokens, has, next_of, spelled, inside}
use Rattle.asm_grammar.proofs.Theory.{tokens-append}
use Rattle.asm_grammar.proofs.Levels.{close}
use Rattle.asm_tree.specs.Words.{class_of, number}
use Rattle.asm_tree.specs.declared.term.RawName.{RawName}
use Rattle.asm_tree.specs.Language.{TokenText, models, Inside, Value, name}
use Rattle.asm_tree.specs.Rules.{body}
use Rattle.asm_canonical.specs.Document.{Item, Gap, Line, One, item_text}
use Rattle.asm_canonical.specs.Placeless.{plain_name}
use Rattle.asm_canonical.proofs.Ends.{Stops}
use Rattle.asm_canonical.proofs.Cutting.{Cuts, Leads, Joins, seen, end_of, seen-append, cuts_nil, cuts_then, cuts_one, cuts_gap, cuts_line, joins_leads, leads_nil}

pub record Printed {A : Type 0} (g : Grammar models A) (d : List Item) (P : A → Type 0) (at depth next : ℕ) : Type 0 where
  pub text : List (Placed models)
  pub value : A
  pub same : tokens models text ≡ seen at d
  pub spelling : spelled models (inside models (body false)) g depth text value next
  pub holds : P value

pub record Good {A : Type 0} (g : Grammar models A) (d : List Item) (P : A → Type 0) : Type 0 where
  pub prints : (at depth next : ℕ) → Printed g d P at depth next
  pub cuts : Cuts d

-- the bytes are of one of these kinds
pub record IsKind (w : List ℕ) (ks : List ℕ) : Type 0 where
  pub kind : has (suc (number (class_of w))) ks ≡ true

-- ---- the forms of grammar

pub good_word : {ks : List ℕ} {w : List ℕ} {P : TokenText → Type 0} → Stops w → IsKind w ks → ((t : TokenText) → t.text ≡ w → P t) → Good (word ks) (One w ∷ []) P
good_word {ks} {w} {P} s k f = record {
  prints = λ at depth next. record { text = record { token = record { at = at; text = w }; depth = depth } ∷ []; value = record { at = at; text = w }; same = refl; spelling = (refl, k.kind); holds = f (record { at = at; text = w }) refl };
  cuts = cuts_one w [] (joins_leads s leads_nil) cuts_nil;
}

pub good_nothing : {A : Type 0} {a : A} {P : A → Type 0} → P a → Good (nothing [] a) [] P
good_nothing {A} {a} {P} p = record { prints = λ at depth next. record { text = []; value = a; same = refl; spelling = (refl, refl, refl); holds = p }; cuts = cuts_nil }

pub good_gap : {A : Type 0} {g : Grammar models A} {d : List Item} {P : A → Type 0} → Good g d P → Good g (Gap ∷ d) P
good_gap {A} {g} {d} {P} p = record {
  prints = λ at depth next. (let q = p.prints (at + 1) depth next in record { text = q.text; value = q.value; same = q.same; spelling = q.spelling; holds = q.holds });
  cuts = cuts_gap d p.cuts;
}

pub good_line : {A : Type 0} {g : Grammar models A} {n : ℕ} {d : List Item} {P : A → Type 0} → Good g d P → Good g (Line n ∷ d) P
good_line {A} {g} {n} {d} {P} p = record {
  prints = λ at depth next. (let q = p.prints (at + length (item_text (Line n))) depth next in record { text = q.text; value = q.value; same = q.same; spelling = q.spelling; holds = q.holds });
  cuts = cuts_line n d p.cuts;
}

pub good_both : {A B : Type 0} {g : Grammar models A} {h : Grammar models B} {a b : List Item} {P : A → Type 0} {Q : B → Type 0} → Good g a P → Leads b → Good h b Q → Good (both g h) (a ++ b) (λ p. P p.0 × Q p.1)
good_both {A} {B} {g} {h} {a} {b} {P} {Q} p l q = record {
  prints = λ at depth next.
      (let y = q.prints (end_of at a) depth next in
      let x = p.prints at depth (next_of models y.text next) in record {
        text = x.text ++ y.text;
        value = (x.value, y.value);
        same = tokens-append models x.text y.text ∙ ap (λ z. z ++ tokens models y.text) x.same ∙ ap (λ z. seen at a ++ z) y.same ∙ sym (seen-append at a b);
        spelling = (x.text, y.text, refl, x.spelling, y.spelling);
        holds = (x.holds, y.holds);
      });
  cuts = cuts_then a b p.cuts l q.cuts;
}

pub good_left : {A : Type 0} {g h : Grammar models A} {d : List Item} {P : A → Type 0} → Good g d P → Good (either g h) d P
good_left {A} {g} {h} {d} {P} p = record {
  prints = λ at depth next. (let q = p.prints at depth next in record { text = q.text; value = q.value; same = q.same; spelling = inl q.spelling; holds = q.holds });
  cuts = p.cuts;
}

pub good_right : {A : Type 0} {g h : Grammar models A} {d : List Item} {P : A → Type 0} → Good h d P → Good (either g h) d P
good_right {A} {g} {h} {d} {P} p = record {
  prints = λ at depth next. (let q = p.prints at depth next in record { text = q.text; value = q.value; same = q.same; spelling = inr q.spelling; holds = q.holds });
  cuts = p.cuts;
}

pub good_shown : {A B : Type 0} {f : A → B} {g : Grammar models A} {d : List Item} {P : A → Type 0} {Q : B → Type 0} → Good g d P → ((x : A) → P x → Q (f x)) → Good (shown f g) d Q
good_shown {A} {B} {f} {g} {d} {P} {Q} p k = record {
  prints = λ at depth next. (let q = p.prints at depth next in record { text = q.text; value = f q.value; same = q.same; spelling = (q.value, refl, q.spelling); holds = k q.value q.holds });
  cuts = p.cuts;
}

pub good_where : {A : Type 0} {g : Grammar models A} {d : List Item} {P Q : A → Type 0} → Good g d P → ((x : A) → P x → Q x) → Good g d Q
good_where {A} {g} {d} {P} {Q} p k = record {
  prints = λ at depth next. (let q = p.prints at depth next in record { text = q.text; value = q.value; same = q.same; spelling = q.spelling; holds = k q.value q.holds });
  cuts = p.cuts;
}

pub good_opening : {ks : List ℕ} {x : Inside} {w : List ℕ} {d : List Item} {P : Value x → Type 0} → IsKind w ks → Joins w d → Good (body false x) d P → Good (opening ks x) (One w ∷ d) (λ p. (p.0.text ≡ w) × P p.1)
good_opening {ks} {x} {w} {d} {P} k j p = record {
  prints = λ at depth next.
      (let q = p.prints (at + length w) (suc depth) next in record {
        text = record { token = record { at = at; text = w }; depth = suc depth } ∷ q.text;
        value = (record { at = at; text = w }, q.value);
        same = ap (λ z. record { at = at; text = w } ∷ z) q.same;
        spelling = (q.text, refl, k.kind, close models (body false) x (suc depth) q.text q.value next q.spelling);
        holds = (refl, q.holds);
      });
  cuts = cuts_one w d j p.cuts;
}

-- a token, and then a phrase
pub good_first : {A : Type 0} {ks : List ℕ} {g : Grammar models A} {w : List ℕ} {d : List Item} {P : A → Type 0} → IsKind w ks → Joins w d → Good g d P → Good (both (word ks) g) (One w ∷ d) (λ p. (p.0.text ≡ w) × P p.1)
good_first {A} {ks} {g} {w} {d} {P} k j p = record {
  prints = λ at depth next.
      (let q = p.prints (at + length w) depth next in record {
        text = record { token = record { at = at; text = w }; depth = depth } ∷ q.text;
        value = (record { at = at; text = w }, q.value);
        same = ap (λ z. record { at = at; text = w } ∷ z) q.same;
        spelling = (record { token = record { at = at; text = w }; depth = depth } ∷ [], q.text, refl, (refl, k.kind), q.spelling);
        holds = (refl, q.holds);
      });
  cuts = cuts_one w d j p.cuts;
}

-- a token that stands for itself, and then a phrase
pub good_after : {A : Type 0} {ks : List ℕ} {g : Grammar models A} {w : List ℕ} {d : List Item} {P : A → Type 0} → IsKind w ks → Joins w d → Good g d P → Good (shown (λ (p : TokenText × A). p.1) (both (word ks) g)) (One w ∷ d) P
good_after {A} {ks} {g} {w} {d} {P} k j p = good_shown (good_first k j p) (λ x q. q.1)

pub good_before : {A : Type 0} {ks : List ℕ} {g : Grammar models A} {w : List ℕ} {a : List Item} {P : A → Type 0} → Good g a P → Leads (One w ∷ []) → Stops w → IsKind w ks → Good (shown (λ (p : A × TokenText). p.0) (both g (word ks))) (a ++ One w ∷ []) P
good_before {A} {ks} {g} {w} {a} {P} p l s k = good_shown (good_both p l (good_word {P = λ t. t.text ≡ w} s k (λ t e. e))) (λ x q. q.0)

pub good_none : {A B : Type 0} {f : A → B} {g : Grammar models A} → Good (many g) [] (λ ys. map f ys ≡ [])
good_none {A} {B} {f} {g} = record { prints = λ at depth next. record { text = []; value = []; same = refl; spelling = refl; holds = refl }; cuts = cuts_nil }

pub good_more : {A B : Type 0} {f : A → B} {g : Grammar models A} {a b : List Item} {x : A} (xs : List A)
    → Good g a (λ y. f y ≡ f x) → Leads b → Good (many g) b (λ ys. map f ys ≡ map f xs) → Good (many g) (a ++ b) (λ ys. map f ys ≡ map f (x ∷ xs))
good_more {A} {B} {f} {g} {a} {b} {x} xs p l q = record {
  prints = λ at depth next.
      (let y = q.prints (end_of at a) depth next in
      let z = p.prints at depth (next_of models y.text next) in record {
        text = z.text ++ y.text;
        value = z.value ∷ y.value;
        same = tokens-append models z.text y.text ∙ ap (λ v. v ++ tokens models y.text) z.same ∙ ap (λ v. seen at a ++ v) y.same ∙ sym (seen-append at a b);
        spelling = (z.text, y.text, refl, z.spelling, y.spelling);
        holds = ap (λ v. v ∷ map f y.value) z.holds ∙ ap (λ v. f x ∷ v) y.holds;
      });
  cuts = cuts_then a b p.cuts l q.cuts;
}

-- a phrase with an empty tail
pub good_alone : {A B C : Type 0} {f : A × B → C} {g : Grammar models A} {h : Grammar models B} {d : List Item} {P : A → Type 0} {Q : B → Type 0} {R : C → Type 0}
    → Good g d P → Good h [] Q → ((x : A × B) → P x.0 × Q x.1 → R (f x)) → Good (shown f (both g h)) d R
good_alone {A} {B} {C} {f} {g} {h} {d} {P} {Q} {R} p q k = subst (λ (e : List Item). Good (shown f (both g h)) e R) (append-nil d) (good_shown (good_both p leads_nil q) k)

-- ---- names

pub good_name : {ks : List ℕ} (n : RawName) → Stops n.text → IsKind n.text ks → Good (name ks) (One n.text ∷ []) (λ m. plain_name m ≡ plain_name n)
good_name n s k = good_shown (good_word {P = λ t. t.text ≡ n.text} s k (λ t e. e)) (λ t e. ap (λ z. plain_name (record { at = 0; text = z })) e)
