-- One more operand behind a chain of operators to the left.
use Rattle.std.proofs.Common.{◌≡◌, ℕ, suc, zero, ◌+◌, true, false, List, [], ◌∷◌, ◌++◌, length, refl, ap, sym, ◌∙◌, subst, inl, inr, append_assoc, append-nil}
use Rattle.asm_grammar.specs.Grammar.{Grammar, nothing, both, either, shown, opening, Placed, tokens, Inner, has, kind, next_of, spelled, inside, nested}
use Rattle.asm_grammar.proofs.Theory.{tokens-append, senses}
use Rattle.asm_grammar.proofs.Judged.{settle}
use Rattle.asm_grammar.proofs.Levels.{close, widen, bounded, inside_settles}
use Rattle.asm_tree.specs.Language.{TokenText, Phrase, models, Inside, Value}
use Rattle.asm_tree.specs.Rules.{body}
use Rattle.asm_tree.proofs.Checks.{table, late}
use Rattle.asm_tree.proofs.Wholes.{checked_unit}
use Rattle.asm_canonical.specs.Document.{Item, Gap, One}
use Rattle.asm_canonical.proofs.Ends.{Stops}
use Rattle.asm_canonical.proofs.Cutting.{seen, end_of, seen-append, cuts_then, cuts_one, cuts_gap, joins_leads, leads_gap}
use Rattle.asm_canonical.proofs.Good.{Good, IsKind}

abbrev Operand : Type 0
Operand = TokenText × Phrase

-- the operators of a level, each with its operand
abbrev pub tail : (ks : List ℕ) (x : Inside) → (TokenText × Value x → List Operand) → Grammar models (List Operand)
tail ks x all = either (shown all (opening ks x)) (nothing [] [])

-- behind an operator of the level stand an operand g and the level's tail
pub record IsLevel (ks : List ℕ) (x : Inside) (all : TokenText × Value x → List Operand) (put : Phrase × List Operand → Value x) (g : Grammar models Phrase) : Type 1 where
  pub puts : (t : TokenText) (z : Phrase) (zs : List Operand) → (t, z) ∷ zs ≡ all (t, put (z, zs))
  pub into : (i : Inner models) (d : ℕ) (u : List (Placed models)) (y : Value x) (next : ℕ) → spelled models i (shown put (both g (tail ks x all))) d u y next → spelled models i (body false x) d u y next
  pub out : (i : Inner models) (d : ℕ) (u : List (Placed models)) (y : Value x) (next : ℕ) → spelled models i (body false x) d u y next → spelled models i (shown put (both g (tail ks x all))) d u y next
  pub settled : senses models late g ≡ []

abbrev Within : Inner models
Within = inside models (body false)

settles : {A : Type 0} (g : Grammar models A) (d : ℕ) (u : List (Placed models)) (y : A) (a b : ℕ) → senses models late g ≡ [] → spelled models Within g d u y a → spelled models Within g d u y b
settles g d u y a b e s = settle models late Within (inside_settles models (body false) table late checked_unit.bodies) g d u y a b s (rw e refl)

module _ (ks : List ℕ) (x : Inside) (all : TokenText × Value x → List Operand) (put : Phrase × List Operand → Value x) (g : Grammar models Phrase) (lv : IsLevel ks x all put g) where
  -- a tail that is longer by one operator and its operand
  record Grown (d : ℕ) (w : List TokenText) (xs : List Operand) (t : TokenText) (at : ℕ) (e : List Item) (P : Phrase → Type 0) (next : ℕ) : Type 0 where
    text : List (Placed models)
    operand : Phrase
    same : tokens models text ≡ w ++ t ∷ seen at e
    spelling : spelled models Within (tail ks x all) d text (xs ++ (t, operand) ∷ []) next
    holds : P operand

  -- the tail of one operator and its operand
  last : (d : ℕ) (t : TokenText) (at : ℕ) (e : List Item) (P : Phrase → Type 0) (next : ℕ) → has (kind models t) ks ≡ true → Good g e P → Grown d [] [] t at e P next
  last d t at e P next h p =
      let a = p.prints at (suc d) next in
      let s : spelled models Within (shown put (both g (tail ks x all))) (suc d) a.text (put (a.value, [])) next = ((a.value, []), refl, (a.text, [], sym (append-nil a.text), a.spelling, inr (refl, refl, refl))) in record {
        text = record { token = t; depth = suc d } ∷ a.text;
        operand = a.value;
        same = ap (λ z. t ∷ z) a.same;
        spelling = inl ((t, put (a.value, [])), lv.puts t a.value [], (a.text, refl, h, close models (body false) x (suc d) a.text (put (a.value, [])) next (lv.into Within (suc d) a.text (put (a.value, [])) next s)));
        holds = a.holds;
      }

  grows : (m d : ℕ) (w : List (Placed models)) (xs : List Operand) (k : ℕ) → spelled models (nested models (body false) m) (tail ks x all) d w xs k → (t : TokenText) (at : ℕ) (e : List Item) (P : Phrase → Type 0) (next : ℕ) → has (kind models t) ks ≡ true → Good g e P
      → Grown d (tokens models w) xs t at e P next
  unfolding nested
  grows m d w xs k (inr s) t at e P next h p =
      let l = last d t at e P next h p in
      record { text = l.text; operand = l.operand; same = rw s.0 l.same; spelling = rw s.1 l.spelling; holds = l.holds }
  grows zero d w xs k (inl s) t at e P next h p = absurd s.2.3
  grows (suc m) d w xs k (inl s) t at e P next h p =
      let o = lv.out (nested models (body false) m) (suc d) s.2.0 s.0.1 k s.2.3 in
      let q = o.0 in
      let r = grows m (suc d) o.2.1 q.1 k o.2.4 t at e P next h p in
      let a : spelled models Within g (suc d) o.2.0 q.0 (next_of models r.text next) =
      settles g (suc d) o.2.0 q.0 (next_of models o.2.1 k) (next_of models r.text next) lv.settled (widen models (nested models (body false) m) Within (λ x d v y next s. (m, s)) g (suc d) o.2.0 q.0 (next_of models o.2.1 k) o.2.3) in
      let c : spelled models Within (shown put (both g (tail ks x all))) (suc d) (o.2.0 ++ r.text) (put (q.0, q.1 ++ (t, r.operand) ∷ [])) next =
      ((q.0, q.1 ++ (t, r.operand) ∷ []), refl, (o.2.0, r.text, refl, a, r.spelling)) in
      let f : xs ++ (t, r.operand) ∷ [] ≡ all (s.0.0, put (q.0, q.1 ++ (t, r.operand) ∷ [])) =
      ap (λ z. z ++ (t, r.operand) ∷ []) (s.1 ∙ ap (λ z. all (s.0.0, z)) o.1 ∙ sym (lv.puts s.0.0 q.0 q.1)) ∙ lv.puts s.0.0 q.0 (q.1 ++ (t, r.operand) ∷ []) in
      let i : tokens models (o.2.0 ++ r.text) ≡ tokens models s.2.0 ++ t ∷ seen at e =
      tokens-append models o.2.0 r.text ∙ ap (λ z. tokens models o.2.0 ++ z) r.same ∙ sym (append_assoc (tokens models o.2.0) (tokens models o.2.1) (t ∷ seen at e)) ∙ ap (λ z. z ++ t ∷ seen at e) (sym (tokens-append models o.2.0 o.2.1) ∙ ap (tokens models) (sym o.2.2)) in record {
        text = record { token = s.0.0; depth = suc d } ∷ (o.2.0 ++ r.text);
        operand = r.operand;
        same = ap (λ z. s.0.0 ∷ z) i ∙ ap (λ z. tokens models z ++ t ∷ seen at e) (sym s.2.1);
        spelling = inl ((s.0.0, put (q.0, q.1 ++ (t, r.operand) ∷ [])), f, (o.2.0 ++ r.text, refl, s.2.2, close models (body false) x (suc d) (o.2.0 ++ r.text) (put (q.0, q.1 ++ (t, r.operand) ∷ [])) next (lv.into Within (suc d) (o.2.0 ++ r.text) (put (q.0, q.1 ++ (t, r.operand) ∷ [])) next c)));
        holds = r.holds;
      }

  -- a phrase of the level, an operator and an operand
  pub good_grown : (f : Phrase × List Operand → Phrase) (join : TokenText → Phrase → Phrase → Phrase) → ((a : Phrase) (bs : List Operand) (t : TokenText) (y : Phrase) → join t (f (a, bs)) y ≡ f (a, bs ++ (t, y) ∷ []))
      → {P Q R : Phrase → Type 0} (a b : List Item) (w : List ℕ) → IsKind w ks → Stops w → Good (shown f (both g (tail ks x all))) a P → Good g b Q → ((t : TokenText) (z y : Phrase) → t.text ≡ w → P z → Q y → R (join t z y))
      → Good (shown f (both g (tail ks x all))) (a ++ (Gap ∷ One w ∷ Gap ∷ b)) R
  good_grown f join law {P} {Q} {R} a b w k stops p q holds = record {
    prints = λ at depth next.
        (let z = p.prints at depth 0 in
        let s = z.spelling.2 in
        let n = bounded models (body false) (tail ks x all) depth s.1 z.spelling.0.1 0 s.4 in
        let t : TokenText = record { at = end_of at a + 1; text = w } in
        let r = grows n.0 depth s.1 z.spelling.0.1 0 n.1 t (end_of at a + 1 + length w + 1) b Q next k.kind q in record {
          text = s.0 ++ r.text;
          value = f (z.spelling.0.0, z.spelling.0.1 ++ (t, r.operand) ∷ []);
          same = tokens-append models s.0 r.text ∙ ap (λ v. tokens models s.0 ++ v) r.same ∙ sym (append_assoc (tokens models s.0) (tokens models s.1) (t ∷ seen (end_of at a + 1 + length w + 1) b))
              ∙ ap (λ v. v ++ t ∷ seen (end_of at a + 1 + length w + 1) b) (sym (tokens-append models s.0 s.1) ∙ ap (tokens models) (sym s.2) ∙ z.same) ∙ sym (seen-append at a (Gap ∷ One w ∷ Gap ∷ b));
          spelling = ((z.spelling.0.0, z.spelling.0.1 ++ (t, r.operand) ∷ []), refl, (s.0, r.text, refl, settles g depth s.0 z.spelling.0.0 (next_of models s.1 0) (next_of models r.text next) lv.settled s.3, r.spelling));
          holds = subst R (ap (λ v. join t v r.operand) z.spelling.1 ∙ law z.spelling.0.0 z.spelling.0.1 t r.operand) (holds t z.value r.operand refl z.holds r.holds);
        });
    cuts = cuts_then a (Gap ∷ One w ∷ Gap ∷ b) p.cuts leads_gap (cuts_gap (One w ∷ Gap ∷ b) (cuts_one w (Gap ∷ b) (joins_leads stops leads_gap) (cuts_gap b q.cuts)));
  }
