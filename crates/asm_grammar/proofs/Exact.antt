-- Each cause of a refusal has its answer.
use Rattle.std.proofs.Common.{◌≡◌, ℕ, ◌+◌, ◌-◌, ◌<◌, ◌≤◌, suc, Bool, true, false, List, [], ◌∷◌, ◌++◌, length, refl, ap, arith, sym, ◌∙◌, ◌⊎◌, inl, inr, subst, append_assoc, append-nil, length-append, ltb, Result, Ok, Err}
use Rattle.std.proofs.lemmas.Bool.{ltb-true, ltb-false}
use Rattle.asm_grammar.specs.declared.Stop.{Stop}
use Rattle.asm_grammar.specs.declared.Stop.TheVariants.{Memory, Syntax, TooDeep}
use Rattle.asm_grammar.specs.Grammar.{Language, Grammar, Placed, tokens, Low, Bodies, inside, ahead, Outcome, read, reader}
use Rattle.asm_grammar.specs.Text.{Spells, IsText, Begins, EndsThere, IsRefused, IsTooDeep}
use Rattle.asm_grammar.specs.Whole.{ended, whole_of, whole_at}
use Rattle.asm_grammar.proofs.Theory.{tokens-append, low_both}
use Rattle.asm_grammar.proofs.Judged.{Stops, Judge}
use Rattle.asm_grammar.proofs.Public.{whole_read, not_both}
use Rattle.asm_grammar.proofs.Deep.{IsDeepIn, whole_deep}
use Rattle.asm_grammar.proofs.Whole.{CheckedWhole, length-tokens, judged_whole, found, refuses, too_deep}

pub same_tail : {T : Type 0} (a b c d : List T) → a ++ b ≡ c ++ d → length b ≡ length d → (a ≡ c) × (b ≡ d)
same_tail [] b [] d e n = (refl, e)
same_tail [] b (x ∷ c) d e n = let f : length b ≡ length ((x ∷ c) ++ d) = ap length e in absurd (omega (arith, n, f, length-append (x ∷ c) d))
same_tail (x ∷ a) b [] d e n = let f : length ((x ∷ a) ++ b) ≡ length d = ap length e in absurd (omega (arith, n, f, length-append (x ∷ a) b))
same_tail (x ∷ a) b (y ∷ c) d e n =
    let f : x ≡ y = cc (e) in
    let g : a ++ b ≡ c ++ d = cc (e) in
    let r = same_tail a b c d g n in
    let q : x ∷ a ≡ y ∷ c = cc (f, r.0) in
    (q, r.1)

true_or_false : (a : Bool) → (a ≡ true) ⊎ (a ≡ false)
true_or_false true = inl refl
true_or_false false = inr refl

module _ (l : Language) where
  cut_front : (u : List (Placed l)) (rest a b : List l.Token) → tokens l u ++ rest ≡ a ++ b → length a ≤ length u → (v : List (Placed l)) × (w : List (Placed l)) × (u ≡ v ++ w) × (tokens l v ≡ a)
  cut_front u rest [] b e le = ([], u, refl, refl)
  cut_front [] rest (t ∷ a) b e le = absurd (omega arith)
  cut_front (p ∷ u) rest (t ∷ a) b e le =
      let f : p.token ≡ t = cc (e) in
      let g : tokens l u ++ rest ≡ a ++ b = cc (e) in
      let r = cut_front u rest a b g (omega arith) in
      let q : p.token ∷ tokens l r.0 ≡ t ∷ a = cc (f, r.3) in
      (p ∷ r.0, r.1, ap (λ z. p ∷ z) r.2, q)

  deep_or_low : (limit : ℕ) (u : List (Placed l)) → Low l limit u ⊎ ((k : ℕ) × IsDeepIn l limit u k × (k ≤ length u))
  deep_or_low limit [] = inl tt
  deep_or_low limit (p ∷ u) = elim (true_or_false (ltb limit p.depth)) [
    | inl e ↦ (let lt = ltb-true limit p.depth e in inr (suc (length u), inl (lt, refl), omega arith))
    | inr e ↦ (let le = ltb-false limit p.depth e in elim (deep_or_low limit u) [ inl low ↦ inl (le, low) | inr q ↦ inr (q.0, inr (le, q.1), omega (arith, q.2)) ])
  ]

  deep_behind : (limit : ℕ) (v w : List (Placed l)) (k : ℕ) → Low l limit v → IsDeepIn l limit w k → IsDeepIn l limit (v ++ w) k
  deep_behind limit [] w k low h = h
  deep_behind limit (p ∷ v) w k low h = inr (low.0, deep_behind limit v w k low.1 h)

module _ (l : Language) (body : Bodies l) {A : Type 0} (whole : Grammar l A) (table late : l.Inside → List ℕ) (c : CheckedWhole l body whole table late) where
  -- what is read looks no further than the token that is too deep
  deep_again : (limit : ℕ) (front : List (Placed l)) (deep : Placed l) (more : List (Placed l)) (y : A) → Low l limit front → limit < deep.depth → Spells l body whole ((front ++ deep ∷ []) ++ more) y
      → (s : List l.Token) → read l (reader l body limit) whole (tokens l front ++ (deep.token ∷ s)) ≡ Err (TooDeep (suc (length s)))
  deep_again limit front deep more y low over sp s =
      let text : List (Placed l) = front ++ (deep ∷ more) in
      let sp2 : Spells l body whole text y = subst (λ (u : List (Placed l)). Spells l body whole u y) (append_assoc front (deep ∷ []) more) sp in
      let h : IsDeepIn l limit text (suc (length more)) = deep_behind l limit front (deep ∷ more) (suc (length more)) low (inl (over, refl)) in
      let e = whole_deep l body table late c.bodies whole c.good c.closed limit text y (suc (length more)) sp2 h in
      let st : Stops l (inside l body) (reader l body limit) whole 0 limit (tokens l text) true (suc (length more)) =
      subst (λ (o : Outcome l A). Judge l (inside l body) (reader l body limit) whole 0 limit (tokens l text) o) e (judged_whole l body whole table late c limit (tokens l text)) in
      let tails = same_tail (tokens l front) (deep.token ∷ tokens l more) (tokens l st.text) st.rest (sym (tokens-append l front (deep ∷ more)) ∙ st.whole) (ap suc (length-tokens l more) ∙ st.count) in
      let again = st.again (deep.token ∷ s) (ap (λ z. ahead l z 0) tails.1) in
      subst (λ (w : List l.Token). read l (reader l body limit) whole (w ++ (deep.token ∷ s)) ≡ Err (TooDeep (suc (length s)))) (sym tails.0) again

  -- where the tokens up to token k begin a text and it is the first that nests too deep, reading says so
  pub deep_is_read : (limit : ℕ) (ts : List l.Token) (k : ℕ) → IsTooDeep l body whole limit ts k → whole_at l body whole limit ts ≡ Err (TooDeep (length ts - k))
  unfolding whole_at
  deep_is_read limit ts k i =
      let e = deep_again limit i.front i.deep i.begins.more i.begins.tree i.low i.over i.begins.spelling i.rest in
      let n : length ts ≡ length i.front + suc (length i.rest) = ap length i.same ∙ length-append (tokens l i.front) (i.deep.token ∷ i.rest) ∙ ap (λ m. m + suc (length i.rest)) (length-tokens l i.front) in
      let left : suc (length i.rest) ≡ length ts - k = omega (arith, n, i.place) in
      subst (λ (w : List l.Token). whole_of (read l (reader l body limit) whole w) ≡ Err (TooDeep (length ts - k))) (sym i.same) (ap whole_of e ∙ ap (λ m. Err (TooDeep m)) left)

  -- no text begins with more than the tokens before the refused one
  no_further : (limit : ℕ) (ts : List l.Token) (k : ℕ) → IsRefused l body whole limit ts k → (u : List (Placed l)) (rest : List l.Token) → ts ≡ tokens l u ++ rest → Begins l body whole u → length u ≤ k
  no_further limit ts k i u rest e b = go i.rest i.same i.ends
    where
      size : length ts ≡ length u + length rest
      size = ap length e ∙ length-append (tokens l u) rest ∙ ap (λ m. m + length rest) (length-tokens l u)

      go : (after : List l.Token) → ts ≡ tokens l i.front ++ after → EndsThere l body whole (tokens l i.front) after → length u ≤ k
      go [] f n = let m : length ts ≡ length (tokens l i.front) = ap length f ∙ ap length (append-nil (tokens l i.front)) in omega (arith, size, m, length-tokens l i.front, i.place)
      go (t ∷ after) f n = elim (true_or_false (ltb k (length u))) [
        | inr q ↦ ltb-false k (length u) q
        | inl q ↦ (
            let lt = ltb-true k (length u) q in
            let parts : tokens l u ++ rest ≡ (tokens l i.front ++ t ∷ []) ++ after = sym e ∙ f ∙ sym (append_assoc (tokens l i.front) (t ∷ []) after) in
            let m : length (tokens l i.front ++ t ∷ []) ≤ length u = omega (arith, length-append (tokens l i.front) (t ∷ []), length-tokens l i.front, i.place, lt) in
            let r = cut_front l u rest (tokens l i.front ++ t ∷ []) after parts m in
            let s : Spells l body whole (r.0 ++ (r.1 ++ b.more)) b.tree =
            subst (λ (z : List (Placed l)). Spells l body whole z b.tree) (ap (λ z. z ++ b.more) r.2 ∙ append_assoc r.0 r.1 b.more) b.spelling in
            absurd (n r.0 r.3 (record { more = r.1 ++ b.more; tree = b.tree; spelling = s })))
      ]

  text_not_refused : (limit : ℕ) (ts : List l.Token) (y : A) (k : ℕ) → IsText l body whole limit ts y → IsRefused l body whole limit ts k → ⊥
  text_not_refused limit ts y k t i = go i.rest i.same i.ends
    where
      whole_text : Begins l body whole t.text
      whole_text = record { more = []; tree = y; spelling = subst (λ (u : List (Placed l)). Spells l body whole u y) (sym (append-nil t.text)) t.spelling }

      within : length t.text ≤ k
      within = no_further limit ts k i t.text [] (sym t.same ∙ sym (append-nil (tokens l t.text))) whole_text

      go : (after : List l.Token) → ts ≡ tokens l i.front ++ after → EndsThere l body whole (tokens l i.front) after → ⊥
      go [] f n = n t.text y (t.same ∙ f ∙ append-nil (tokens l i.front)) t.spelling
      go (x ∷ after) f n =
          let a : length (tokens l t.text) ≡ length (tokens l i.front ++ x ∷ after) = ap length (t.same ∙ f) in
          absurd (omega (arith, a, within, length-append (tokens l i.front) (x ∷ after), length-tokens l i.front, length-tokens l t.text, i.place))

  refused_not_deep : (limit : ℕ) (ts : List l.Token) (k j : ℕ) → IsRefused l body whole limit ts k → IsTooDeep l body whole limit ts j → ⊥
  refused_not_deep limit ts k j i d =
      let within : length (d.front ++ d.deep ∷ []) ≤ k = no_further limit ts k i (d.front ++ d.deep ∷ []) d.rest
      (d.same ∙ sym (append_assoc (tokens l d.front) (d.deep.token ∷ []) d.rest) ∙ ap (λ z. z ++ d.rest) (sym (tokens-append l d.front (d.deep ∷ [])))) d.begins in
      let before : length (tokens l d.front ++ d.deep.token ∷ []) ≤ length i.front =
      omega (arith, within, i.place, length-append (tokens l d.front) (d.deep.token ∷ []), length-append d.front (d.deep ∷ []), length-tokens l d.front) in
      let parts : tokens l i.front ++ i.rest ≡ (tokens l d.front ++ d.deep.token ∷ []) ++ d.rest = sym i.same ∙ d.same ∙ sym (append_assoc (tokens l d.front) (d.deep.token ∷ []) d.rest) in
      let r = cut_front l i.front i.rest (tokens l d.front ++ d.deep.token ∷ []) d.rest parts before in
      let behind : List l.Token = tokens l (r.1 ++ i.begins.more) in
      let text : List (Placed l) = i.front ++ i.begins.more in
      let same : tokens l text ≡ tokens l d.front ++ (d.deep.token ∷ behind) =
      ap (tokens l) (ap (λ z. z ++ i.begins.more) r.2 ∙ append_assoc r.0 r.1 i.begins.more) ∙ tokens-append l r.0 (r.1 ++ i.begins.more) ∙ ap (λ z. z ++ behind) r.3 ∙ append_assoc (tokens l d.front) (d.deep.token ∷ []) behind in
      let deep : read l (reader l body limit) whole (tokens l text) ≡ Err (TooDeep (suc (length behind))) =
      subst (λ (w : List l.Token). read l (reader l body limit) whole w ≡ Err (TooDeep (suc (length behind)))) (sym same)
      (deep_again limit d.front d.deep d.begins.more d.begins.tree d.low d.over d.begins.spelling behind) in
      elim (deep_or_low l limit i.begins.more) [
        | inl low ↦ not_both l _ _ _ (whole_read l body table late c.bodies whole c.good c.closed limit text i.begins.tree i.begins.spelling (low_both l limit i.front i.begins.more i.low low)) deep
        | inr q ↦ (
            let other = whole_deep l body table late c.bodies whole c.good c.closed limit text i.begins.tree q.0 i.begins.spelling (deep_behind l limit i.front i.begins.more q.0 i.low q.1) in
            let n : q.0 ≡ suc (length behind) = cc (other, deep) in
            absurd (omega (arith, n, q.2, length-tokens l (r.1 ++ i.begins.more), length-append r.1 i.begins.more)))
      ]

  no_memory : (limit : ℕ) (ts : List l.Token) (o : Outcome l A) → Judge l (inside l body) (reader l body limit) whole 0 limit ts o → whole_of o ≡ Err Memory → ⊥
  no_memory limit ts (Ok p) j e = go p.0 p.1 e
    where
      go : (x : A) (r : List l.Token) → ended x r ≡ Err Memory → ⊥
      go x [] e = absurd (cc (e))
      go x (t ∷ r) e = absurd (cc (e))
  no_memory limit ts (Err Memory) j e = j
  no_memory limit ts (Err (Syntax k)) j e = absurd (cc (e))
  no_memory limit ts (Err (TooDeep k)) j e = absurd (cc (e))

  reads_something : (limit : ℕ) (ts : List l.Token) → whole_at l body whole limit ts ≡ Err Memory → ⊥
  unfolding whole_at
  reads_something limit ts e = no_memory limit ts (read l (reader l body limit) whole ts) (judged_whole l body whole table late c limit ts) e

  -- where token k is the first with which no text goes on, and none before it is too deep, reading says so
  pub refused_is_read : (limit : ℕ) (ts : List l.Token) (k : ℕ) → IsRefused l body whole limit ts k → whole_at l body whole limit ts ≡ Err (Syntax (length ts - k))
  refused_is_read limit ts k i = go (whole_at l body whole limit ts) refl
    where
      go : (o : Result A Stop) → whole_at l body whole limit ts ≡ o → whole_at l body whole limit ts ≡ Err (Syntax (length ts - k))
      go (Ok y) e = absurd (text_not_refused limit ts y k (found l body whole table late c limit ts y e) i)
      go (Err Memory) e = absurd (reads_something limit ts e)
      go (Err (Syntax left)) e =
          let r = refuses l body whole table late c limit ts left e in
          let a = no_further limit ts r.k r.refused i.front i.rest i.same i.begins in
          let b = no_further limit ts k i r.refused.front r.refused.rest r.refused.same r.refused.begins in
          let n : left ≡ length ts - k = omega (arith, a, b, r.counted, i.place, r.refused.place) in
          e ∙ ap (λ m. Err (Syntax m)) n
      go (Err (TooDeep left)) e = let r = too_deep l body whole table late c limit ts left e in absurd (refused_not_deep limit ts k r.k i r.deep)
