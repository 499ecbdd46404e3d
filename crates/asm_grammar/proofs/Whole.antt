-- Reading a whole text gives its tree, or why the tokens are no text.
use Rattle.std.proofs.Common.{◌≡◌, ℕ, ◌+◌, suc, true, false, List, [], ◌∷◌, ◌++◌, length, refl, ap, sym, ◌∙◌, subst, append_assoc, append-nil, length-append, Ok, Err}
use Rattle.asm_grammar.specs.declared.Stop.TheVariants.{Memory, Syntax, TooDeep}
use Rattle.asm_grammar.specs.Grammar.{Language, has, Grammar, Placed, tokens, Low, Bodies, inside, spells, ahead, Outcome, read, reader, kind}
use Rattle.asm_grammar.specs.Text.{Spells, IsText, EndsThere, IsRefused, IsTooDeep, OneTree}
use Rattle.asm_grammar.specs.Whole.{ended, whole_of, whole_at}
use Rattle.asm_grammar.proofs.Sets.{subset, not_held}
use Rattle.asm_grammar.proofs.Theory.{is_good, ends, senses, barred, tokens-append}
use Rattle.asm_grammar.proofs.Judged.{Got, Stops, Judge, GoesDeep, settle}
use Rattle.asm_grammar.proofs.Levels.{Checked, inside_settles}
use Rattle.asm_grammar.proofs.Depths.{one_depth}
use Rattle.asm_grammar.proofs.Public.{whole_read, one_tree, no_text, no_longer, judge}

-- What is checked of the grammar of whole texts.
pub record CheckedWhole (l : Language) (body : Bodies l) {A : Type 0} (whole : Grammar l A) (table late : l.Inside → List ℕ) : Type 0 where
  pub bodies : Checked l body table late
  pub good : is_good l table late whole ≡ true
  pub closed : has 0 (ends l table whole) ≡ false
  pub settled : has 0 (senses l late whole) ≡ false
  pub unbarred : subset (barred l whole) [] ≡ true

-- what is left, of so many
pub record CountsFrom (k left all : ℕ) : Type 0 where
  pub sum : k + left ≡ all

module _ (l : Language) where
  pub length-tokens : (u : List (Placed l)) → length (tokens l u) ≡ length u
  length-tokens [] = refl
  length-tokens (p ∷ u) = ap suc (length-tokens u)

  pub counts : (ts : List l.Token) (u : List (Placed l)) (r : List l.Token) → ts ≡ tokens l u ++ r → length u + length r ≡ length ts
  counts ts u r e = ap (λ n. n + length r) (sym (length-tokens u)) ∙ sym (length-append (tokens l u) r) ∙ ap length (sym e)

module _ (l : Language) (body : Bodies l) {A : Type 0} (whole : Grammar l A) (table late : l.Inside → List ℕ) (c : CheckedWhole l body whole table late) where
  pub same_tree : OneTree l body whole
  same_tree u v y z e s t =
      (one_tree l body table late c.bodies whole c.good c.closed u v y z e s t, one_depth l body table late c.bodies whole c.good c.closed u v y z s t e)

  pub judged_whole : (limit : ℕ) (ts : List l.Token) → Judge l (inside l body) (reader l body limit) whole 0 limit ts (read l (reader l body limit) whole ts)
  judged_whole limit ts = judge l body table late c.bodies whole c.good c.closed limit ts (not_held (ahead l ts 0) (barred l whole) [] c.unbarred refl)

  -- what is spelled is read
  pub only : (limit : ℕ) (ts : List l.Token) (y : A) → IsText l body whole limit ts y → whole_at l body whole limit ts ≡ Ok y
  unfolding whole_at
  only limit ts y s = rw (← s.same) (ap whole_of (whole_read l body table late c.bodies whole c.good c.closed limit s.text y s.spelling s.low))

  -- what a text's end is followed by doesn't matter
  pub settled_end : (u : List (Placed l)) (y : A) (next : ℕ) → spells l body whole 0 u y next → Spells l body whole u y
  settled_end u y next s = settle l late (inside l body) (inside_settles l body table late c.bodies) whole 0 u y next 0 s c.settled

  found_got : (limit : ℕ) (ts : List l.Token) (y : A) → Got l (inside l body) (reader l body limit) whole 0 limit ts y [] → IsText l body whole limit ts y
  found_got limit ts y i = record { text = i.text; same = sym (i.whole ∙ append-nil (tokens l i.text)); low = i.low; spelling = i.found }

  found_of : (limit : ℕ) (ts : List l.Token) (o : Outcome l A) → Judge l (inside l body) (reader l body limit) whole 0 limit ts o → (y : A) → whole_of o ≡ Ok y → IsText l body whole limit ts y
  found_of limit ts (Ok p) j y e = go p.0 p.1 j e
    where
      go : (x : A) (r : List l.Token) → Got l (inside l body) (reader l body limit) whole 0 limit ts x r → ended x r ≡ Ok y → IsText l body whole limit ts y
      go x [] i e = let f : x ≡ y = (cc) in subst (λ (z : A). IsText l body whole limit ts z) f (found_got limit ts x i)
      go x (t ∷ r) i e = absurd (cc)
  found_of limit ts (Err e) j y f = absurd (cc)

  -- what is read is spelled so
  pub found : (limit : ℕ) (ts : List l.Token) (y : A) → whole_at l body whole limit ts ≡ Ok y → IsText l body whole limit ts y
  unfolding whole_at
  found limit ts y e = found_of limit ts (read l (reader l body limit) whole ts) (judged_whole limit ts) y e

  pub regroup : (u more : List (Placed l)) (front : List l.Token) (t : l.Token) → tokens l u ≡ front ++ t ∷ [] → tokens l (u ++ more) ≡ front ++ (t ∷ tokens l more)
  regroup u more front t e = tokens-append l u more ∙ ap (λ z. z ++ tokens l more) e ∙ append_assoc front (t ∷ []) (tokens l more)

  pub ends_syntax : (limit : ℕ) (front rest : List l.Token) → ((s : List l.Token) → ahead l s 0 ≡ ahead l rest 0 → read l (reader l body limit) whole (front ++ s) ≡ Err (Syntax (length s))) → EndsThere l body whole front rest
  ends_syntax limit front [] again = λ u y e s. no_text l body table late c.bodies whole c.good c.closed limit (front ++ []) 0 (again [] refl) u y (e ∙ sym (append-nil front)) s
  ends_syntax limit front (t ∷ rest) again = λ u e b.
      no_text l body table late c.bodies whole c.good c.closed limit (front ++ (t ∷ tokens l b.more)) (length (t ∷ tokens l b.more)) (again (t ∷ tokens l b.more) refl) (u ++ b.more) b.tree (regroup u b.more front t e) b.spelling

  -- token k is refused, where so many tokens are left
  pub record RefusesAt (limit : ℕ) (ts : List l.Token) (left : ℕ) : Type 0 where
    pub k : ℕ
    pub counted : k + left ≡ length ts
    pub refused : IsRefused l body whole limit ts k

  pub record DeepAt (limit : ℕ) (ts : List l.Token) (left : ℕ) : Type 0 where
    pub k : ℕ
    pub counted : k + left ≡ length ts
    pub deep : IsTooDeep l body whole limit ts k

  refused_stop : (limit : ℕ) (ts : List l.Token) (left : ℕ) → Stops l (inside l body) (reader l body limit) whole 0 limit ts false left → RefusesAt limit ts left
  refused_stop limit ts left i = let q = i.goes_on 0 in record {
    k = length i.text;
    counted = ap (λ n. length i.text + n) i.count ∙ counts l ts i.text i.rest i.whole;
    refused = record {
      front = i.text;
      rest = i.rest;
      same = i.whole;
      place = refl;
      low = i.low;
      begins = record { more = q.0; tree = q.1; spelling = q.2 };
      ends = ends_syntax limit (tokens l i.text) i.rest i.again;
    };
  }

  deep_of : (limit : ℕ) (ts : List l.Token) (left : ℕ) (front : List (Placed l)) (rest : List l.Token) → ts ≡ tokens l front ++ rest → left ≡ length rest → Low l limit front
      → (more : List (Placed l)) (y : A) → Spells l body whole (front ++ more) y → GoesDeep l true limit rest more → DeepAt limit ts left
  deep_of limit ts left front [] e n low [] y s g = absurd g
  deep_of limit ts left front (t ∷ rest) e n low [] y s g = absurd g
  deep_of limit ts left front [] e n low (p ∷ more) y s g = absurd (cc (g.1))
  deep_of limit ts left front (t ∷ rest) e n low (p ∷ more) y s g =
      let f : p.token ≡ t = cc (g.1) in record {
        k = length front;
        counted = ap (λ i. length front + i) n ∙ counts l ts front (t ∷ rest) e;
        deep = record {
          front = front;
          deep = p;
          rest = rest;
          same = e ∙ ap (λ z. tokens l front ++ z ∷ rest) (sym f);
          place = refl;
          low = low;
          over = g.0;
          begins = record { more = more; tree = y; spelling = subst (λ (u : List (Placed l)). Spells l body whole u y) (sym (append_assoc front (p ∷ []) more)) s };
        };
      }

  refused_deep : (limit : ℕ) (ts : List l.Token) (left : ℕ) → Stops l (inside l body) (reader l body limit) whole 0 limit ts true left → DeepAt limit ts left
  refused_deep limit ts left i = let q = i.goes_on 0 in deep_of limit ts left i.text i.rest i.whole i.count i.low q.0 q.1 q.2 q.3

  refused_longer : (limit : ℕ) (ts : List l.Token) (x : A) (t : l.Token) (r : List l.Token) → Got l (inside l body) (reader l body limit) whole 0 limit ts x (t ∷ r) → RefusesAt limit ts (length (t ∷ r))
  refused_longer limit ts x t r i = record {
    k = length i.text;
    counted = counts l ts i.text (t ∷ r) i.whole;
    refused = record {
      front = i.text;
      rest = t ∷ r;
      same = i.whole;
      place = refl;
      low = i.low;
      begins = record { more = []; tree = x; spelling = subst (λ (u : List (Placed l)). Spells l body whole u x) (sym (append-nil i.text)) (settled_end i.text x (kind l t) i.found) };
      ends = λ u e b. no_longer l body table late c.bodies whole c.good c.closed limit (tokens l i.text ++ (t ∷ tokens l b.more)) x (t ∷ tokens l b.more) (i.again (t ∷ tokens l b.more) refl) (λ z. (cc)) (u ++ b.more) b.tree
          (regroup u b.more (tokens l i.text) t e) b.spelling;
    };
  }

  refused_of : (limit : ℕ) (ts : List l.Token) (o : Outcome l A) → Judge l (inside l body) (reader l body limit) whole 0 limit ts o → (left : ℕ) → whole_of o ≡ Err (Syntax left) → RefusesAt limit ts left
  refused_of limit ts (Ok p) j left f = go p.0 p.1 j f
    where
      go : (x : A) (r : List l.Token) → Got l (inside l body) (reader l body limit) whole 0 limit ts x r → ended x r ≡ Err (Syntax left) → RefusesAt limit ts left
      go x [] i f = absurd (cc)
      go x (t ∷ r) i f = let g : length (t ∷ r) ≡ left = (cc) in subst (λ (n : ℕ). RefusesAt limit ts n) g (refused_longer limit ts x t r i)
  refused_of limit ts (Err Memory) j left f = absurd j
  refused_of limit ts (Err (Syntax k)) j left f = let g : k ≡ left = (cc) in subst (λ (n : ℕ). RefusesAt limit ts n) g (refused_stop limit ts k j)
  refused_of limit ts (Err (TooDeep k)) j left f = absurd (cc)

  too_deep_of : (limit : ℕ) (ts : List l.Token) (o : Outcome l A) → Judge l (inside l body) (reader l body limit) whole 0 limit ts o → (left : ℕ) → whole_of o ≡ Err (TooDeep left) → DeepAt limit ts left
  too_deep_of limit ts (Ok p) j left f = go p.0 p.1 f
    where
      go : (x : A) (r : List l.Token) → ended x r ≡ Err (TooDeep left) → DeepAt limit ts left
      go x [] f = absurd (cc)
      go x (t ∷ r) f = absurd (cc)
  too_deep_of limit ts (Err Memory) j left f = absurd j
  too_deep_of limit ts (Err (Syntax k)) j left f = absurd (cc)
  too_deep_of limit ts (Err (TooDeep k)) j left f = let g : k ≡ left = (cc) in subst (λ (n : ℕ). DeepAt limit ts n) g (refused_deep limit ts k j)

  -- a syntax error is at the token that is refused
  pub refuses : (limit : ℕ) (ts : List l.Token) (left : ℕ) → whole_at l body whole limit ts ≡ Err (Syntax left) → RefusesAt limit ts left
  unfolding whole_at
  refuses limit ts left e = refused_of limit ts (read l (reader l body limit) whole ts) (judged_whole limit ts) left e

  -- and the other one at the first that nests too deep
  pub too_deep : (limit : ℕ) (ts : List l.Token) (left : ℕ) → whole_at l body whole limit ts ≡ Err (TooDeep left) → DeepAt limit ts left
  unfolding whole_at
  too_deep limit ts left e = too_deep_of limit ts (read l (reader l body limit) whole ts) (judged_whole limit ts) left e
