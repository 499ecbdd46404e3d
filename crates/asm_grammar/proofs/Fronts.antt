-- Reading the front of tokens gives its tree, or why there is none.
use Rattle.std.proofs.Common.{◌≡◌, ℕ, ◌+◌, ◌-◌, suc, false, List, [], ◌∷◌, ◌++◌, length, refl, ap, arith, sym, ◌∙◌, subst, append-nil, length-append, Result, Ok, Err}
use Rattle.asm_grammar.specs.declared.Stop.{Stop}
use Rattle.asm_grammar.specs.declared.Stop.TheVariants.{Memory, Syntax, TooDeep}
use Rattle.asm_grammar.specs.Grammar.{Language, Grammar, Placed, tokens, Bodies, inside, ahead, Outcome, read, reader}
use Rattle.asm_grammar.specs.Text.{Spells, IsText, Begins, EndsThere, IsRefused, IsTooDeep}
use Rattle.asm_grammar.specs.Front.{CantGoOn, IsFront, IsNoFront}
use Rattle.asm_grammar.specs.Whole.{ended, whole_of, whole_at}
use Rattle.asm_grammar.proofs.Judged.{Got, Stops, Judge}
use Rattle.asm_grammar.proofs.Public.{IsFlat, agree, more_levels, whole_read, height, low_more, no_longer, one_tree}
use Rattle.asm_grammar.proofs.Whole.{CheckedWhole, length-tokens, judged_whole, settled_end, regroup, ends_syntax, only, too_deep, DeepAt}
use Rattle.asm_grammar.proofs.Exact.{same_tail, refused_is_read, deep_is_read}
use Rattle.asm_grammar.proofs.Counting.{not_refused}

-- what a whole answer came from
whole_ok : {T A : Type 0} (o : Result (A × List T) Stop) (y : A) → whole_of o ≡ Ok y → o ≡ Ok (y, [])
whole_ok {T} {A} (Ok p) y e = go p.0 p.1 e
  where
    go : (x : A) (r : List T) → ended x r ≡ Ok y → ◌≡◌ {A = Result (A × List T) Stop} (Ok (x, r)) (Ok (y, []))
    go x [] e = let f : x ≡ y = cc (e) in ap (λ (z : A). Ok (z, [])) f
    go x (t ∷ r) e = absurd (cc (e))
whole_ok (Err i) y e = absurd (cc (e))

whole_deep_of : {T A : Type 0} (o : Result (A × List T) Stop) (n : ℕ) → whole_of o ≡ Err (TooDeep n) → o ≡ Err (TooDeep n)
whole_deep_of {T} {A} (Ok p) n e = go p.0 p.1 e
  where
    go : (x : A) (r : List T) → ended x r ≡ Err (TooDeep n) → ◌≡◌ {A = Result (A × List T) Stop} (Ok (x, r)) (Err (TooDeep n))
    go x [] e = absurd (cc (e))
    go x (t ∷ r) e = absurd (cc (e))
whole_deep_of (Err i) n e = let f : i ≡ TooDeep n = cc (e) in ap (λ (z : Stop). Err z) f

module _ (l : Language) (body : Bodies l) {A : Type 0} (whole : Grammar l A) (table late : l.Inside → List ℕ) (c : CheckedWhole l body whole table late) where
  -- what the reader stops at ends no text
  unfinished_at : (limit : ℕ) (front rest : List l.Token) → read l (reader l body limit) whole (front ++ rest) ≡ Err (Syntax (length rest)) → EndsThere l body whole front rest → (u : List (Placed l)) (y : A) → tokens l u ≡ front → Spells l body whole u y → ⊥
  unfinished_at limit front [] e ends u y t s = ends u y t s
  unfinished_at limit front (b ∷ rest) e ends u y t s =
      let h = height l u in
      let a = whole_read l body table late c.bodies whole c.good c.closed (limit + h.0) u y s (low_more l h.0 (limit + h.0) u (omega arith) h.1) in
      let flat : IsFlat l (read l (reader l body limit) whole (front ++ b ∷ rest)) = rw e tt in
      let g : read l (reader l body (limit + h.0)) whole (front ++ b ∷ rest) ≡ Err (Syntax (suc (length rest))) =
      agree l (reader l body limit) (reader l body (limit + h.0)) (more_levels l body limit (limit + h.0) (omega arith)) whole (front ++ b ∷ rest) flat ∙ e in
      not_refused l body table late c.bodies.good (limit + h.0) whole c.good (tokens l u) y a b rest (subst (λ (w : List l.Token). read l (reader l body (limit + h.0)) whole (w ++ b ∷ rest) ≡ Err (Syntax (suc (length rest)))) (sym t) g)

  -- the front of so many tokens, where others are left
  pub record FrontAt (limit : ℕ) (ts : List l.Token) (y : A) (left : ℕ) : Type 0 where
    pub k : ℕ
    pub counted : k + left ≡ length ts
    pub front : IsFront l body whole limit ts y k

  pub record NoFrontAt (limit : ℕ) (ts : List l.Token) (left : ℕ) : Type 0 where
    pub k : ℕ
    pub counted : k + left ≡ length ts
    pub none : IsNoFront l body whole limit ts k

  sized : (ts : List l.Token) (u : List (Placed l)) (r : List l.Token) → ts ≡ tokens l u ++ r → length u + length r ≡ length ts
  sized ts u r e = ap (λ n. n + length r) (sym (length-tokens l u)) ∙ sym (length-append (tokens l u) r) ∙ ap length (sym e)

  got_front : (limit : ℕ) (ts : List l.Token) (y : A) (r : List l.Token) → Got l (inside l body) (reader l body limit) whole 0 limit ts y r → FrontAt limit ts y (length r)
  got_front limit ts y r i = record {
    k = length i.text;
    counted = sized ts i.text r i.whole;
    front = record {
      text = i.text;
      rest = r;
      same = i.whole;
      place = refl;
      low = i.low;
      spelling = settled_end l body whole table late c i.text y (ahead l r 0) i.found;
      ends = stops r i.again;
    };
  }
    where
      stops : (r : List l.Token) → ((s : List l.Token) → ahead l s 0 ≡ ahead l r 0 → read l (reader l body limit) whole (tokens l i.text ++ s) ≡ Ok (y, s)) → CantGoOn l body whole (tokens l i.text) r
      stops [] again = tt
      stops (t ∷ r) again = λ u e b.
          no_longer l body table late c.bodies whole c.good c.closed limit (tokens l i.text ++ (t ∷ tokens l b.more)) y (t ∷ tokens l b.more) (again (t ∷ tokens l b.more) refl) (λ z. (cc)) (u ++ b.more) b.tree
          (regroup l body whole table late c u b.more (tokens l i.text) t e) b.spelling

  -- what is read at the front is spelled so
  pub front_found : (limit : ℕ) (ts : List l.Token) (y : A) (r : List l.Token) → read l (reader l body limit) whole ts ≡ Ok (y, r) → FrontAt limit ts y (length r)
  front_found limit ts y r e = got_front limit ts y r (subst (λ (o : Outcome l A). Judge l (inside l body) (reader l body limit) whole 0 limit ts o) e (judged_whole l body whole table late c limit ts))

  goes_no_further : (front rest : List l.Token) → EndsThere l body whole front rest → CantGoOn l body whole front rest
  goes_no_further front [] e = tt
  goes_no_further front (t ∷ rest) e = e

  stopped : (limit : ℕ) (ts : List l.Token) (left : ℕ) → Stops l (inside l body) (reader l body limit) whole 0 limit ts false left → NoFrontAt limit ts left
  stopped limit ts left i =
      let q = i.goes_on 0 in
      let ends = ends_syntax l body whole table late c limit (tokens l i.text) i.rest i.again in record {
        k = length i.text;
        counted = ap (λ n. length i.text + n) i.count ∙ sized ts i.text i.rest i.whole;
        none = record {
          front = i.text;
          rest = i.rest;
          same = i.whole;
          place = refl;
          low = i.low;
          begins = record { more = q.0; tree = q.1; spelling = q.2 };
          ends = goes_no_further (tokens l i.text) i.rest ends;
          unfinished = unfinished_at limit (tokens l i.text) i.rest (i.again i.rest refl) ends;
        };
      }

  -- a syntax error is where no text goes on and none ends
  pub front_refused : (limit : ℕ) (ts : List l.Token) (left : ℕ) → read l (reader l body limit) whole ts ≡ Err (Syntax left) → NoFrontAt limit ts left
  front_refused limit ts left e = stopped limit ts left (subst (λ (o : Outcome l A). Judge l (inside l body) (reader l body limit) whole 0 limit ts o) e (judged_whole l body whole table late c limit ts))

  pub front_deep : (limit : ℕ) (ts : List l.Token) (left : ℕ) → read l (reader l body limit) whole ts ≡ Err (TooDeep left) → DeepAt l body whole table late c limit ts left
  unfolding whole_at
  front_deep limit ts left e = too_deep l body whole table late c limit ts left (ap whole_of e)

  -- ---- each of these is read so

  refusal_of : (limit : ℕ) (ts : List l.Token) (k : ℕ) → IsNoFront l body whole limit ts k → IsRefused l body whole limit ts k
  refusal_of limit ts k i = record { front = i.front; rest = i.rest; same = i.same; place = i.place; low = i.low; begins = i.begins; ends = ends_of i.rest i.ends }
    where
      ends_of : (rest : List l.Token) → CantGoOn l body whole (tokens l i.front) rest → EndsThere l body whole (tokens l i.front) rest
      ends_of [] e = i.unfinished
      ends_of (t ∷ rest) e = e

  begins_whole : (u : List (Placed l)) (y : A) → Spells l body whole u y → Begins l body whole u
  begins_whole u y s = record { more = []; tree = y; spelling = subst (λ (v : List (Placed l)). Spells l body whole v y) (sym (append-nil u)) s }

  same_front : (ts : List l.Token) (u v : List (Placed l)) (r s : List l.Token) → ts ≡ tokens l u ++ r → ts ≡ tokens l v ++ s → length r ≡ length s → tokens l u ≡ tokens l v
  same_front ts u v r s e f n = (same_tail (tokens l u) r (tokens l v) s (sym e ∙ f) n).0

  -- where the first k tokens are a text and no text goes on with the next, that is read
  pub front_is_read : (limit : ℕ) (ts : List l.Token) (y : A) (k : ℕ) → IsFront l body whole limit ts y k → (r : List l.Token) × (read l (reader l body limit) whole ts ≡ Ok (y, r)) × (k + length r ≡ length ts)
  unfolding whole_at
  front_is_read limit ts y k i = go i.rest i.same i.ends
    where
      size : (rest : List l.Token) → ts ≡ tokens l i.text ++ rest → k + length rest ≡ length ts
      size rest e = let n = sized ts i.text rest e in omega (arith, n, i.place)

      longer : (t : l.Token) (rest : List l.Token) → ts ≡ tokens l i.text ++ t ∷ rest → (o : Outcome l A) → read l (reader l body limit) whole ts ≡ o → whole_of o ≡ Err (Syntax (length ts - k)) → (r : List l.Token) × (o ≡ Ok (y, r)) × (k + length r ≡ length ts)
      longer t rest e (Ok p) q w = got p.0 p.1 q w
        where
          got : (x : A) (r : List l.Token) → read l (reader l body limit) whole ts ≡ Ok (x, r) → ended x r ≡ Err (Syntax (length ts - k)) → (s : List l.Token) × (◌≡◌ {A = Outcome l A} (Ok (x, r)) (Ok (y, s))) × (k + length s ≡ length ts)
          got x [] q w = absurd (cc (w))
          got x (u ∷ r) q w =
              let n : length (u ∷ r) ≡ length ts - k = (cc (w)) in
              let s = size (t ∷ rest) e in
              let f = front_found limit ts x (u ∷ r) q in
              let g = sized ts f.front.text f.front.rest f.front.same in
              let m : length (t ∷ rest) ≡ length f.front.rest = omega (arith, n, s, f.counted, g, f.front.place) in
              let v = one_tree l body table late c.bodies whole c.good c.closed f.front.text i.text x y (sym (same_front ts i.text f.front.text (t ∷ rest) f.front.rest e f.front.same m)) f.front.spelling i.spelling in
              (u ∷ r, ap (λ (z : A). Ok (z, u ∷ r)) v, omega (arith, n, s))
      longer t rest e (Err Memory) q w = absurd (cc (w))
      longer t rest e (Err (Syntax left)) q w =
          let n : left ≡ length ts - k = (cc (w)) in
          let s = size (t ∷ rest) e in
          let f = front_refused limit ts left q in
          let g = sized ts f.none.front f.none.rest f.none.same in
          let m : length (t ∷ rest) ≡ length f.none.rest = omega (arith, n, s, f.counted, g, f.none.place) in
          absurd (f.none.unfinished i.text y (same_front ts i.text f.none.front (t ∷ rest) f.none.rest e f.none.same m) i.spelling)
      longer t rest e (Err (TooDeep left)) q w = absurd (cc (w))

      go : (rest : List l.Token) → ts ≡ tokens l i.text ++ rest → CantGoOn l body whole (tokens l i.text) rest → (r : List l.Token) × (read l (reader l body limit) whole ts ≡ Ok (y, r)) × (k + length r ≡ length ts)
      go [] e ends =
          let t : IsText l body whole limit ts y = record { text = i.text; same = sym (e ∙ append-nil (tokens l i.text)); low = i.low; spelling = i.spelling } in
          ([], whole_ok (read l (reader l body limit) whole ts) y (only l body whole table late c limit ts y t), size [] e)
      go (t ∷ rest) e ends =
          let refused : IsRefused l body whole limit ts k = record { front = i.text; rest = t ∷ rest; same = e; place = i.place; low = i.low; begins = begins_whole i.text y i.spelling; ends = ends } in
          longer t rest e (read l (reader l body limit) whole ts) refl (refused_is_read l body whole table late c limit ts k refused)

  -- where they begin a text and are none, and no text goes on, the next token is refused
  pub no_front_is_read : (limit : ℕ) (ts : List l.Token) (k : ℕ) → IsNoFront l body whole limit ts k → read l (reader l body limit) whole ts ≡ Err (Syntax (length ts - k))
  unfolding whole_at
  no_front_is_read limit ts k i = go (read l (reader l body limit) whole ts) refl (refused_is_read l body whole table late c limit ts k (refusal_of limit ts k i))
    where
      go : (o : Outcome l A) → read l (reader l body limit) whole ts ≡ o → whole_of o ≡ Err (Syntax (length ts - k)) → o ≡ Err (Syntax (length ts - k))
      go (Ok p) q w = got p.0 p.1 q w
        where
          got : (x : A) (r : List l.Token) → read l (reader l body limit) whole ts ≡ Ok (x, r) → ended x r ≡ Err (Syntax (length ts - k)) → ◌≡◌ {A = Outcome l A} (Ok (x, r)) (Err (Syntax (length ts - k)))
          got x [] q w = absurd (cc (w))
          got x (u ∷ r) q w =
              let n : length (u ∷ r) ≡ length ts - k = (cc (w)) in
              let s = sized ts i.front i.rest i.same in
              let f = front_found limit ts x (u ∷ r) q in
              let g = sized ts f.front.text f.front.rest f.front.same in
              let m : length f.front.rest ≡ length i.rest = omega (arith, n, s, f.counted, g, f.front.place, i.place) in
              absurd (i.unfinished f.front.text x (same_front ts f.front.text i.front f.front.rest i.rest f.front.same i.same m) f.front.spelling)
      go (Err Memory) q w = absurd (cc (w))
      go (Err (Syntax left)) q w = let n : left ≡ length ts - k = (cc (w)) in ap (λ (m : ℕ). Err (Syntax m)) n
      go (Err (TooDeep left)) q w = absurd (cc (w))

  pub deep_front_is_read : (limit : ℕ) (ts : List l.Token) (k : ℕ) → IsTooDeep l body whole limit ts k → read l (reader l body limit) whole ts ≡ Err (TooDeep (length ts - k))
  unfolding whole_at
  deep_front_is_read limit ts k i = whole_deep_of (read l (reader l body limit) whole ts) (length ts - k) (deep_is_read l body whole table late c limit ts k i)
