-- What a reader answers: a text and its value, or the first token with which no text goes on.
use Rattle.std.proofs.Common.{◌≡◌, ℕ, ◌<◌, ◌≤◌, zero, suc, ◌==◌, Bool, true, false, not, ◌&&◌, ◌||◌, if◌then◌else◌, List, [], ◌∷◌, ◌++◌, length, refl, ap, arith, sym, ◌∙◌, ◌⊎◌, inl, inr, subst, append_assoc, Ok, Err}
use Rattle.asm_grammar.specs.declared.Stop.{Stop}
use Rattle.asm_grammar.specs.declared.Stop.TheVariants.{Memory, Syntax, TooDeep}
use Rattle.asm_grammar.specs.Grammar.{Language, has, word, nothing, both, either, many, shown, opening, Grammar, Inner, Lang, Low, Outcome, Placed, Readers, ahead, and_then, behind, firsts, is_empty, kind, many_at, next_of, opening_at, read, some_of, spelled, spelled_list, tokens, word_at}
use Rattle.asm_grammar.proofs.Sets.{and_left, and_right, not_true, or_left, or_right, or_true, none_left, none_right, disjoint, subset, apart, true_or_false, not_held}
use Rattle.asm_grammar.proofs.Theory.{Begins, Shrinks, ahead-append, barred, begins, ends, if_false, if_true, is_calm, is_good, is_live, is_nil, is_safe, low_both, many_err, many_stays, many_step, nonempty, senses, starts, tokens-append}

abbrev pub stop : Bool → ℕ → Stop
stop false k = Syntax k
stop true k = TooDeep k

pub never_zero : (k : List ℕ) → not (has 0 k) ≡ true → has 0 k ≡ true → ⊥
never_zero k p h = let g = not_true (has 0 k) p in absurd (cc)

pub both_ways : (b : Bool) → b ≡ false → b ≡ true → ⊥
both_ways true e h = absurd (cc)
both_ways false e h = absurd (cc)

pub neither : (k : ℕ) (xs ys : List ℕ) → has k xs ≡ false → has k ys ≡ false → has k (xs ++ ys) ≡ true → ⊥
neither k [] ys p q h = absurd (cc)
neither k (x ∷ xs) ys p q h = elim (or_true (k == x) (has k (xs ++ ys)) h) [
  | inl e ↦ (let f = or_left (k == x) (has k xs) p in absurd (cc))
  | inr e ↦ neither k xs ys (or_right (k == x) (has k xs) p) q e
]

pub started_left : (a : Bool) (k : ℕ) (ks ls : List ℕ) → not a ≡ true → has k (ks ++ (if a then ls else [])) ≡ true → has k ks ≡ true
started_left true k ks ls p h = absurd (cc)
started_left false k ks ls p h = elim (true_or_false (has k ks)) [ inl e ↦ e | inr e ↦ absurd (neither k ks [] e refl h) ]

module _ (l : Language) where
  -- ---- some text of a grammar

  abbrev pub Lives : Inner l → Type 0
  Lives inner = (x : l.Inside) (d next : ℕ) → (v : List (Placed l)) × (y : l.Value x) × inner x d v y next

  -- some text of each body of which the test is true
  abbrev pub LivesWhere : (l.Inside → Bool) → Inner l → Type 0
  LivesWhere o inner = (x : l.Inside) → o x ≡ true → (d next : ℕ) → (v : List (Placed l)) × (y : l.Value x) × inner x d v y next

  abbrev pub OneOf : {A : Type 0} → Inner l → Grammar l A → ℕ → ℕ → Type 0
  OneOf {A} inner g d next = (v : List (Placed l)) × (y : A) × spelled l inner g d v y next

  abbrev pub AreKinds : {A : Type 0} → Grammar l A → Type 0
  AreKinds (word k) = has (kind l (some_of l k)) k ≡ true
  AreKinds (nothing ks a) = Unit {0}
  AreKinds (both g h) = AreKinds g × AreKinds h
  AreKinds (either g h) = AreKinds g × AreKinds h
  AreKinds (many g) = AreKinds g
  AreKinds (shown f g) = AreKinds g
  AreKinds (opening k x) = has (kind l (some_of l k)) k ≡ true

  pub are_kinds : (table late : l.Inside → List ℕ) → {A : Type 0} → (g : Grammar l A) → is_good l table late g ≡ true → AreKinds g
  are_kinds table late (word k) good = good
  are_kinds table late (nothing ks a) good = tt
  are_kinds table late (both g h) good = (are_kinds table late g (and_left _ _ good), are_kinds table late h (and_left _ _ (and_right (is_good l table late g) _ good)))
  are_kinds table late (either g h) good = (are_kinds table late g (and_left _ _ good), are_kinds table late h (and_left _ _ (and_right (is_good l table late g) _ good)))
  are_kinds table late (many g) good = are_kinds table late g (and_left _ _ good)
  are_kinds table late (shown f g) good = are_kinds table late g good
  are_kinds table late (opening k x) good = good

  pub lives : (inner : Inner l) (o : l.Inside → Bool) → LivesWhere o inner → {A : Type 0} → (g : Grammar l A) → AreKinds g → is_live l o g ≡ true → (d next : ℕ) → OneOf inner g d next
  lives inner o li (word k) ks live d next = (record { token = some_of l k; depth = d } ∷ [], some_of l k, (refl, ks))
  lives inner o li (nothing [] a) ks live d next = ([], a, (refl, refl, refl))
  lives inner o li (nothing (k ∷ l) a) ks live d next = absurd (cc)
  lives inner o li (both g h) ks live d next =
      let q = lives inner o li h ks.1 (and_right (is_live l o g) _ live) d next in
      let p = lives inner o li g ks.0 (and_left (is_live l o g) _ live) d (next_of l q.0 next) in
      (p.0 ++ q.0, (p.1, q.1), (p.0, q.0, refl, p.2, q.2))
  lives inner o li (either g h) ks live d next = elim (or_true (is_live l o g) (is_live l o h) live) [
    | inl e ↦ (let p = lives inner o li g ks.0 e d next in (p.0, p.1, inl p.2))
    | inr e ↦ (let p = lives inner o li h ks.1 e d next in (p.0, p.1, inr p.2))
  ]
  lives inner o li (many g) ks live d next = ([], [], refl)
  lives inner o li (shown f g) ks live d next = let p = lives inner o li g ks live d next in (p.0, f p.1, (p.1, refl, p.2))
  lives inner o li (opening k x) ks live d next = let p = li x live (suc d) next in (record { token = some_of l k; depth = suc d } ∷ p.0, (some_of l k, p.1), (p.0, refl, ks, p.2))

  -- ---- another follower

  abbrev pub Settles : (l.Inside → List ℕ) → Inner l → Type 0
  Settles late inner = (x : l.Inside) (d : ℕ) (v : List (Placed l)) (y : l.Value x) (a b : ℕ) → inner x d v y a → has b (late x) ≡ false → inner x d v y b

  pub follower : (s : Bool) (gs hs : List ℕ) (fs : List ℕ) (w : List (Placed l)) (b : ℕ) → Begins l s fs w → has b (hs ++ (if s then gs else [])) ≡ false → (w ≡ [] → has b gs ≡ false)
  follower s gs hs fs [] b p o e = none_right b hs gs (subst (λ (z : Bool). has b (hs ++ (if z then gs else [])) ≡ false) p o)
  follower s gs hs fs (t ∷ w) b p o e = absurd (cc)

  pub settle_part : (P : ℕ → Type 0) (w : List (Placed l)) (a b : ℕ) → (w ≡ [] → P a → P b) → P (next_of l w a) → P (next_of l w b)
  settle_part P [] a b f p = f refl p
  settle_part P (t ∷ w) a b f p = p

  pub settle_list : {A : Type 0} (ks : List ℕ) (item : Lang l A) → ((v : List (Placed l)) (x : A) (a b : ℕ) → item v x a → has b ks ≡ false → item v x b)
      → (u : List (Placed l)) (ys : List A) (a b : ℕ) → spelled_list l item u ys a → has b ks ≡ false → spelled_list l item u ys b
  settle_list ks item f u [] a b s o = s
  settle_list ks item f u (y ∷ ys) a b s o =
      (s.0, s.1, s.2, settle_part (λ (next : ℕ). item s.0 y next) s.1 a b (λ e p. f s.0 y a b p o) s.3, settle_list ks item f s.1 ys a b s.4 o)

  pub settle : (late : l.Inside → List ℕ) (inner : Inner l) → Settles late inner → {A : Type 0} → (g : Grammar l A) (d : ℕ) (u : List (Placed l)) (y : A) (a b : ℕ)
      → spelled l inner g d u y a → has b (senses l late g) ≡ false → spelled l inner g d u y b
  settle late inner si (word k) d u y a b s o = s
  settle late inner si (nothing ks z) d u y a b s o = (s.0, s.1, o)
  settle late inner si (both g h) d u y a b s o = (
    s.0,
    s.1,
    s.2,
    settle_part (λ (next : ℕ). spelled l inner g d s.0 y.0 next) s.1 a b
        (λ (e : s.1 ≡ []) (p : spelled l inner g d s.0 y.0 a). settle late inner si g d s.0 y.0 a b p (follower (is_empty l h) (senses l late g) (senses l late h) (firsts l h) s.1 b (begins l inner h d s.1 y.1 a s.4) o e)) s.3,
    settle late inner si h d s.1 y.1 a b s.4 (none_left b (senses l late h) _ o),
  )
  settle late inner si (either g h) d u y a b s o = elim s [ inl p ↦ inl (settle late inner si g d u y a b p (none_left b (senses l late g) _ o)) | inr p ↦ inr (settle late inner si h d u y a b p (none_right b (senses l late g) _ o)) ]
  settle late inner si (many g) d u y a b s o = settle_list (senses l late g) (spelled l inner g d) (λ v x a b p o. settle late inner si g d v x a b p o) u y a b s o
  settle late inner si (shown f g) d u y a b s o = (s.0, s.1, settle late inner si g d u s.0 a b s.2 o)
  settle late inner si (opening k x) d u y a b s o = (s.0, s.1, s.2, si x (suc d) s.0 y.1 a b s.3 o)

  -- ---- what a reader answers

  pub record Got {A : Type 0} (inner : Inner l) (readers : Readers l) (g : Grammar l A) (d limit : ℕ) (w : List l.Token) (y : A) (r : List l.Token) : Type 0 where
    pub text : List (Placed l)
    pub whole : w ≡ tokens l text ++ r
    pub low : Low l limit text
    pub found : spelled l inner g d text y (ahead l r 0)
    pub again : (s : List l.Token) → ahead l s 0 ≡ ahead l r 0 → read l readers g (tokens l text ++ s) ≡ Ok (y, s)

  -- what follows a text that is too deep: its first token is the one that is refused, and it is too deep
  abbrev pub GoesDeep : Bool → ℕ → List l.Token → List (Placed l) → Type 0
  GoesDeep false limit rest more = Unit {0}
  GoesDeep true limit rest [] = ⊥
  GoesDeep true limit rest (p ∷ more) = (limit < p.depth) × (rest ≡ p.token ∷ behind l rest)

  pub record Stops {A : Type 0} (inner : Inner l) (readers : Readers l) (g : Grammar l A) (d limit : ℕ) (w : List l.Token) (deep : Bool) (k : ℕ) : Type 0 where
    pub text : List (Placed l)
    pub rest : List l.Token
    pub whole : w ≡ tokens l text ++ rest
    pub count : k ≡ length rest
    pub low : Low l limit text
    pub goes_on : (next : ℕ) → (more : List (Placed l)) × (y : A) × spelled l inner g d (text ++ more) y next × GoesDeep deep limit rest more
    pub again : (s : List l.Token) → ahead l s 0 ≡ ahead l rest 0 → read l readers g (tokens l text ++ s) ≡ Err (stop deep (length s))
    pub started : deep ≡ false → starts l g ≡ true → has (ahead l w 0) (firsts l g) ≡ true → text ≡ [] → ⊥
    pub calm : deep ≡ false → is_calm l g ≡ true → text ≡ [] → ⊥

  abbrev pub Judge : {A : Type 0} → Inner l → Readers l → Grammar l A → ℕ → ℕ → List l.Token → Outcome l A → Type 0
  Judge inner readers g d limit w (Ok p) = Got inner readers g d limit w p.0 p.1
  Judge inner readers g d limit w (Err Memory) = ⊥
  Judge inner readers g d limit w (Err (Syntax k)) = Stops inner readers g d limit w false k
  Judge inner readers g d limit w (Err (TooDeep k)) = Stops inner readers g d limit w true k

  pub judge_stop : {A : Type 0} (inner : Inner l) (readers : Readers l) (g : Grammar l A) (d limit : ℕ) (w : List l.Token) (deep : Bool) (k : ℕ)
      → Stops inner readers g d limit w deep k → Judge inner readers g d limit w (Err (stop deep k))
  judge_stop inner readers g d limit w false k s = s
  judge_stop inner readers g d limit w true k s = s

  -- ---- one token

  pub no_token : (s : List l.Token) → ahead l s 0 ≡ 0 → s ≡ []
  no_token [] e = refl
  no_token (t ∷ s) e = absurd (cc)

  pub same_token : (t : l.Token) (s : List l.Token) → ahead l s 0 ≡ kind l t → (u : l.Token) × (r : List l.Token) × (s ≡ u ∷ r) × (kind l u ≡ kind l t)
  same_token t [] e = absurd (cc)
  same_token t (u ∷ r) e = (u, r, refl, e)

  pub word_refused : (k : List ℕ) (t : l.Token) (s : List l.Token) → (has (kind l t) k) ≡ false → ahead l s 0 ≡ kind l t → word_at l k s ≡ Err (Syntax (length s))
  word_refused k t s e f = let q = same_token t s f in
      let g : (has (kind l q.0) k) ≡ false = rw q.3 e in
      rw q.2 (if_false (has (kind l q.0) k) _ _ g)

  pub judged_word : (inner : Inner l) (readers : Readers l) (k : List ℕ) (d limit : ℕ) → has (kind l (some_of l k)) k ≡ true → d ≤ limit → (w : List l.Token) → Judge inner readers (word k) d limit w (word_at l k w)
  judged_word inner readers k d limit kk le [] = record {
    text = [];
    rest = [];
    whole = refl;
    count = refl;
    low = tt;
    goes_on = λ next. (record { token = some_of l k; depth = d } ∷ [], some_of l k, (refl, kk), tt);
    again = λ s e. rw (no_token s e) refl;
    started = λ z p h n. never_zero k p h;
    calm = λ z p n. absurd (cc);
  }
  judged_word inner readers k d limit kk le (t ∷ r) = go (has (kind l t) k) refl
    where
      go : (b : Bool) → (has (kind l t) k) ≡ b → Judge inner readers (word k) d limit (t ∷ r) (if b then Ok (t, r) else Err (Syntax (suc (length r))))
      go true e = record {
        text = record { token = t; depth = d } ∷ [];
        whole = refl;
        low = (le, tt);
        found = (refl, e);
        again = λ s f. if_true (has (kind l t) k) _ _ e;
      }
      go false e = record {
        text = [];
        rest = t ∷ r;
        whole = refl;
        count = refl;
        low = tt;
        goes_on = λ next. (record { token = some_of l k; depth = d } ∷ [], some_of l k, (refl, kk), tt);
        again = λ s f. word_refused k t s e f;
        started = λ z p h n. both_ways (has (kind l t) k) e h;
        calm = λ z p n. absurd (cc);
      }

  -- ---- one after the other

  pub goes_further : (deep : Bool) (limit : ℕ) (rest : List l.Token) (more w : List (Placed l)) → GoesDeep deep limit rest more → GoesDeep deep limit rest (more ++ w)
  goes_further false limit rest more w p = p
  goes_further true limit rest [] w p = absurd p
  goes_further true limit rest (t ∷ more) w p = p

  pub nil_append : (v w : List (Placed l)) → v ++ w ≡ [] → v ≡ []
  nil_append [] w e = refl
  nil_append (t ∷ v) w e = absurd (cc)

  pub nil_append_right : (v w : List (Placed l)) → v ++ w ≡ [] → w ≡ []
  nil_append_right [] w e = e
  nil_append_right (t ∷ v) w e = absurd (cc)

  pub stops_left : {A B : Type 0} (inner : Inner l) (readers : Readers l) → Lives inner → (g : Grammar l A) (h : Grammar l B) (d limit : ℕ) (w : List l.Token) (deep : Bool) (k : ℕ)
      → AreKinds h → is_live l (λ x. true) h ≡ true → Stops inner readers g d limit w deep k → Stops inner readers (both g h) d limit w deep k
  stops_left inner readers li g h d limit w deep k ks live j = record {
    text = j.text;
    rest = j.rest;
    whole = j.whole;
    count = j.count;
    low = j.low;
    goes_on = λ next.
        (let q = lives inner (λ x. true) (λ x e. li x) h ks live d next in
        let p = j.goes_on (next_of l q.0 next) in
        (p.0 ++ q.0, (p.1, q.1), (j.text ++ p.0, q.0, sym (append_assoc j.text p.0 q.0), p.2, q.2), goes_further deep limit j.rest p.0 q.0 p.3));
    again = λ s e. rw (j.again s e) refl;
    started = λ z p o n. j.started z (and_left (starts l g) _ p) (started_left (is_empty l g) (ahead l w 0) (firsts l g) (firsts l h) (and_right (starts l g) _ p) o) n;
    calm = λ z p n. absurd (cc);
  }

  -- the follower that comes where the second part is refused at once
  pub safe_begins : (empty : Bool) (fs sens : List ℕ) (w : List (Placed l)) (next : ℕ) → not empty ≡ true → disjoint fs sens ≡ true → Begins l empty fs w → has (next_of l w next) sens ≡ false
  safe_begins empty fs sens [] next p e b = (let f : empty ≡ false = not_true empty p in absurd (cc))
  safe_begins empty fs sens (t ∷ w) next p e b = apart (kind l t.token) fs sens e b

  pub safe_follower : (sens : List ℕ) (empty : Bool) (fs : List ℕ) (calm : Bool) (w : List (Placed l)) (next : ℕ) → is_safe sens empty fs calm ≡ true → (calm ≡ true → ⊥) → Begins l empty fs w → has (next_of l w next) sens ≡ false
  safe_follower [] empty fs calm w next safe nc b = refl
  safe_follower (k ∷ ks) empty fs calm w next safe nc b = elim (or_true (not empty && disjoint fs (k ∷ ks)) calm safe) [
    | inl e ↦ safe_begins empty fs (k ∷ ks) w next (and_left (not empty) _ e) (and_right (not empty) _ e) b
    | inr e ↦ absurd (nc e)
  ]

  pub second_found : {A : Type 0} (late : l.Inside → List ℕ) (inner : Inner l) → Settles late inner → (g : Grammar l A) (d : ℕ) (v u more : List (Placed l)) (x : A) (rest : List l.Token) (next : ℕ)
      → spelled l inner g d v x (ahead l (tokens l u ++ rest) 0) → (u ≡ [] → (has (next_of l more next) (senses l late g) ≡ false) ⊎ (next_of l more next ≡ ahead l rest 0)) → spelled l inner g d v x (next_of l (u ++ more) next)
  second_found late inner si g d v [] more x rest next s f = elim (f refl) [
    | inl e ↦ settle late inner si g d v x (ahead l rest 0) (next_of l more next) s e
    | inr e ↦ subst (λ (n : ℕ). spelled l inner g d v x n) (sym e) s
  ]
  second_found late inner si g d v (t ∷ u) more x rest next s f = s

  -- a first token that is too deep is the one that stands there
  pub deep_same : (limit : ℕ) (rest : List l.Token) (more : List (Placed l)) (next : ℕ) → GoesDeep true limit rest more → next_of l more next ≡ ahead l rest 0
  deep_same limit rest [] next p = absurd p
  deep_same limit rest (t ∷ more) next p = sym (ap (λ z. ahead l z 0) p.1)

  pub either_way : (deep : Bool) (limit : ℕ) (rest : List l.Token) (more : List (Placed l)) (next : ℕ) (sens : List ℕ) → GoesDeep deep limit rest more
      → (deep ≡ false → has (next_of l more next) sens ≡ false) → (has (next_of l more next) sens ≡ false) ⊎ (next_of l more next ≡ ahead l rest 0)
  either_way false limit rest more next sens p f = inl (f refl)
  either_way true limit rest more next sens p f = inr (deep_same limit rest more next p)

  pub stops_right : {A B : Type 0} (late : l.Inside → List ℕ) (inner : Inner l) (readers : Readers l) → Settles late inner → (g : Grammar l A) (h : Grammar l B) (d limit : ℕ) (w : List l.Token) (x : A) (r : List l.Token) (deep : Bool) (k : ℕ)
      → is_safe (senses l late g) (is_empty l h) (firsts l h) (is_calm l h) ≡ true → Got inner readers g d limit w x r → Stops inner readers h d limit r deep k → Stops inner readers (both g h) d limit w deep k
  stops_right late inner readers si g h d limit w x r deep k safe i j = record {
    text = i.text ++ j.text;
    rest = j.rest;
    whole = i.whole ∙ ap (λ z. tokens l i.text ++ z) j.whole ∙ sym (append_assoc (tokens l i.text) (tokens l j.text) j.rest) ∙ ap (λ z. z ++ j.rest) (sym (tokens-append l i.text j.text));
    count = j.count;
    low = low_both l limit i.text j.text i.low j.low;
    goes_on = λ next.
        (let q = j.goes_on next in
        let f : spelled l inner g d i.text x (ahead l (tokens l j.text ++ j.rest) 0) = subst (λ (z : List l.Token). spelled l inner g d i.text x (ahead l z 0)) j.whole i.found in (
          q.0,
          (x, q.1),
          (
            i.text,
            j.text ++ q.0,
            append_assoc i.text j.text q.0,
            second_found late inner si g d i.text j.text q.0 x j.rest next f (λ (n : j.text ≡ []). either_way deep limit j.rest q.0 next (senses l late g) q.3 (λ z. safe_follower (senses l late g) (is_empty l h) (firsts l h) (is_calm l h) q.0 next safe (λ c. j.calm z c n)
                (begins l inner h d q.0 q.1 next (subst (λ (z : List (Placed l)). spelled l inner h d (z ++ q.0) q.1 next) n q.2)))),
            q.2,
          ),
          q.3,
        ));
    again = λ s e.
        (let same : ahead l (tokens l j.text ++ s) 0 ≡ ahead l r 0 = rw (j.whole, ahead-append l j.text s 0, ahead-append l j.text j.rest 0, e) refl in
        rw (tokens-append l i.text j.text, append_assoc, i.again (tokens l j.text ++ s) same, j.again s e) refl);
    started = λ z p o n. no_start (is_empty l g) (firsts l g) i.text (and_right (starts l g) _ p) (nil_append i.text j.text n) (begins l inner g d i.text x (ahead l r 0) i.found);
    calm = λ z p n. absurd (cc);
  }
    where
      no_start : (b : Bool) (fs : List ℕ) (u : List (Placed l)) → not b ≡ true → u ≡ [] → Begins l b fs u → ⊥
      no_start b fs [] p n q = (let f : b ≡ false = not_true b p in absurd (cc))
      no_start b fs (t ∷ u) p n q = absurd (cc)

  pub got_both : {A B : Type 0} (inner : Inner l) (readers : Readers l) (g : Grammar l A) (h : Grammar l B) (d limit : ℕ) (w : List l.Token) (x : A) (r : List l.Token) (y : B) (z : List l.Token)
      → Got inner readers g d limit w x r → Got inner readers h d limit r y z → Got inner readers (both g h) d limit w (x, y) z
  got_both inner readers g h d limit w x r y z i j = record {
    text = i.text ++ j.text;
    whole = i.whole ∙ ap (λ z. tokens l i.text ++ z) j.whole ∙ sym (append_assoc (tokens l i.text) (tokens l j.text) z) ∙ ap (λ u. u ++ z) (sym (tokens-append l i.text j.text));
    low = low_both l limit i.text j.text i.low j.low;
    found = (i.text, j.text, refl, subst (λ (n : ℕ). spelled l inner g d i.text x n) (ap (λ u. ahead l u 0) j.whole ∙ ahead-append l j.text z 0) i.found, j.found);
    again = λ s e.
        (let same : ahead l (tokens l j.text ++ s) 0 ≡ ahead l r 0 = rw (j.whole, ahead-append l j.text s 0, ahead-append l j.text z 0, e) refl in
        rw (tokens-append l i.text j.text, append_assoc, i.again (tokens l j.text ++ s) same, j.again s e) refl);
  }

  pub judge_second : {A B : Type 0} (late : l.Inside → List ℕ) (inner : Inner l) (readers : Readers l) → Settles late inner → (g : Grammar l A) (h : Grammar l B) (d limit : ℕ) (w : List l.Token) (x : A) (r : List l.Token)
      → is_safe (senses l late g) (is_empty l h) (firsts l h) (is_calm l h) ≡ true → Got inner readers g d limit w x r → (o : Outcome l B) → Judge inner readers h d limit r o
      → Judge inner readers (both g h) d limit w (and_then l o (λ y s. Ok ((x, y), s)))
  judge_second late inner readers si g h d limit w x r safe i (Ok p) j = got_both inner readers g h d limit w x r p.0 p.1 i j
  judge_second late inner readers si g h d limit w x r safe i (Err Memory) j = j
  judge_second late inner readers si g h d limit w x r safe i (Err (Syntax k)) j = stops_right late inner readers si g h d limit w x r false k safe i j
  judge_second late inner readers si g h d limit w x r safe i (Err (TooDeep k)) j = stops_right late inner readers si g h d limit w x r true k safe i j

  pub judge_both : {A B : Type 0} (late : l.Inside → List ℕ) (inner : Inner l) (readers : Readers l) → Settles late inner → Lives inner → (g : Grammar l A) (h : Grammar l B) (d limit : ℕ) (w : List l.Token)
      → AreKinds h → is_live l (λ x. true) h ≡ true → is_safe (senses l late g) (is_empty l h) (firsts l h) (is_calm l h) ≡ true → ((r : List l.Token) → Judge inner readers h d limit r (read l readers h r))
      → (o : Outcome l A) → Judge inner readers g d limit w o → Judge inner readers (both g h) d limit w (and_then l o (λ x r. and_then l (read l readers h r) (λ y s. Ok ((x, y), s))))
  judge_both late inner readers si li g h d limit w ks live safe jh (Ok p) i = judge_second late inner readers si g h d limit w p.0 p.1 safe i (read l readers h p.1) (jh p.1)
  judge_both late inner readers si li g h d limit w ks live safe jh (Err Memory) i = i
  judge_both late inner readers si li g h d limit w ks live safe jh (Err (Syntax k)) i = stops_left inner readers li g h d limit w false k ks live i
  judge_both late inner readers si li g h d limit w ks live safe jh (Err (TooDeep k)) i = stops_left inner readers li g h d limit w true k ks live i

  -- ---- one or the other

  pub same_choice : (ks : List ℕ) (w : List l.Token) (u : List (Placed l)) (r s : List l.Token) → w ≡ tokens l u ++ r → ahead l s 0 ≡ ahead l r 0 → (b : Bool) → has (ahead l w 0) ks ≡ b → has (ahead l (tokens l u ++ s) 0) ks ≡ b
  same_choice ks w u r s whole e b c =
      let same : ahead l w 0 ≡ ahead l (tokens l u ++ s) 0 = rw (whole, ahead-append l u r 0, ahead-append l u s 0, e) refl in
      rw (← same) c

  pub stops_first : {A : Type 0} (inner : Inner l) (readers : Readers l) (g h : Grammar l A) (d limit : ℕ) (w : List l.Token) → has (ahead l w 0) (firsts l g) ≡ true
      → (deep : Bool) (k : ℕ) → Stops inner readers g d limit w deep k → Stops inner readers (either g h) d limit w deep k
  stops_first inner readers g h d limit w c deep k i = record {
    text = i.text;
    rest = i.rest;
    whole = i.whole;
    count = i.count;
    low = i.low;
    goes_on = λ next. (let q = i.goes_on next in (q.0, q.1, inl q.2, q.3));
    again = λ s e. rw (if_true (has (ahead l (tokens l i.text ++ s) 0) (firsts l g)) (read l readers g (tokens l i.text ++ s)) (read l readers h (tokens l i.text ++ s)) (same_choice (firsts l g) w i.text i.rest s i.whole e true c)) (i.again s e);
    started = λ z p o n. i.started z (and_left (starts l g) _ p) c n;
    calm = λ z p n. i.started z (and_left (starts l g) _ p) c n;
  }

  pub only_second : (k : ℕ) (xs ys : List ℕ) → has k xs ≡ false → has k (xs ++ ys) ≡ true → has k ys ≡ true
  only_second k xs ys p h = elim (true_or_false (has k ys)) [ inl e ↦ e | inr e ↦ absurd (neither k xs ys p e h) ]

  pub stops_other : {A : Type 0} (inner : Inner l) (readers : Readers l) (g h : Grammar l A) (d limit : ℕ) (w : List l.Token) → has (ahead l w 0) (firsts l g) ≡ false
      → (deep : Bool) (k : ℕ) → Stops inner readers h d limit w deep k → Stops inner readers (either g h) d limit w deep k
  stops_other inner readers g h d limit w c deep k i = record {
    text = i.text;
    rest = i.rest;
    whole = i.whole;
    count = i.count;
    low = i.low;
    goes_on = λ next. (let q = i.goes_on next in (q.0, q.1, inr q.2, q.3));
    again = λ s e. rw (if_false (has (ahead l (tokens l i.text ++ s) 0) (firsts l g)) (read l readers g (tokens l i.text ++ s)) (read l readers h (tokens l i.text ++ s)) (same_choice (firsts l g) w i.text i.rest s i.whole e false c)) (i.again s e);
    started = λ z p o n. i.started z (and_right (starts l g) _ p) (only_second (ahead l w 0) (firsts l g) (firsts l h) c o) n;
    calm = λ z p n. i.calm z (and_right (starts l g) _ p) n;
  }

  pub judge_other : {A : Type 0} (inner : Inner l) (readers : Readers l) (g h : Grammar l A) (d limit : ℕ) (w : List l.Token) → has (ahead l w 0) (firsts l g) ≡ false
      → (o : Outcome l A) → Judge inner readers h d limit w o → Judge inner readers (either g h) d limit w o
  judge_other inner readers g h d limit w c (Ok p) i = record {
    text = i.text;
    whole = i.whole;
    low = i.low;
    found = inr i.found;
    again = λ s e. rw (if_false (has (ahead l (tokens l i.text ++ s) 0) (firsts l g)) (read l readers g (tokens l i.text ++ s)) (read l readers h (tokens l i.text ++ s)) (same_choice (firsts l g) w i.text p.1 s i.whole e false c)) (i.again s e);
  }
  judge_other inner readers g h d limit w c (Err Memory) i = i
  judge_other inner readers g h d limit w c (Err (Syntax k)) i = stops_other inner readers g h d limit w c false k i
  judge_other inner readers g h d limit w c (Err (TooDeep k)) i = stops_other inner readers g h d limit w c true k i

  pub judge_first : {A : Type 0} (inner : Inner l) (readers : Readers l) (g h : Grammar l A) (d limit : ℕ) (w : List l.Token) → has (ahead l w 0) (firsts l g) ≡ true
      → (o : Outcome l A) → Judge inner readers g d limit w o → Judge inner readers (either g h) d limit w o
  judge_first inner readers g h d limit w c (Ok p) i = record {
    text = i.text;
    whole = i.whole;
    low = i.low;
    found = inl i.found;
    again = λ s e. rw (if_true (has (ahead l (tokens l i.text ++ s) 0) (firsts l g)) (read l readers g (tokens l i.text ++ s)) (read l readers h (tokens l i.text ++ s)) (same_choice (firsts l g) w i.text p.1 s i.whole e true c)) (i.again s e);
  }
  judge_first inner readers g h d limit w c (Err Memory) i = i
  judge_first inner readers g h d limit w c (Err (Syntax k)) i = stops_first inner readers g h d limit w c false k i
  judge_first inner readers g h d limit w c (Err (TooDeep k)) i = stops_first inner readers g h d limit w c true k i

  -- ---- any number of times

  pub many_none : {A : Type 0} (inner : Inner l) (readers : Readers l) (g : Grammar l A) (d limit : ℕ) (w : List l.Token) → has (ahead l w 0) (firsts l g) ≡ false → Got inner readers (many g) d limit w [] w
  many_none inner readers g d limit w o = record {
    text = [];
    whole = refl;
    low = tt;
    found = refl;
    again = λ s e. many_stays l (read l readers g) (firsts l g) (length s) s (rw e o);
  }

  pub append_nil : (u : List (Placed l)) → u ++ [] ≡ u
  append_nil [] = refl
  append_nil (t ∷ u) = ap (λ z. t ∷ z) (append_nil u)

  pub stops_many : {A : Type 0} (inner : Inner l) (readers : Readers l) (g : Grammar l A) (d limit : ℕ) (w : List l.Token) → has 0 (firsts l g) ≡ false → has (ahead l w 0) (firsts l g) ≡ true
      → (deep : Bool) (k : ℕ) → Stops inner readers g d limit w deep k → Stops inner readers (many g) d limit w deep k
  stops_many inner readers g d limit w z c deep k i = record {
    text = i.text;
    rest = i.rest;
    whole = i.whole;
    count = i.count;
    low = i.low;
    goes_on = λ next. (let q = i.goes_on next in (q.0, q.1 ∷ [], (i.text ++ q.0, [], sym (append_nil (i.text ++ q.0)), q.2, refl), q.3));
    again = λ s e. many_err l (read l readers g) (firsts l g) z (tokens l i.text ++ s) (stop deep (length s)) (same_choice (firsts l g) w i.text i.rest s i.whole e true c) (i.again s e);
    started = λ z p o n. absurd (cc);
    calm = λ z p n. i.started z p c n;
  }

  pub got_many : {A : Type 0} (inner : Inner l) (readers : Readers l) (g : Grammar l A) (d limit : ℕ) (w : List l.Token) (x : A) (r : List l.Token) (ys : List A) (z : List l.Token) → has 0 (firsts l g) ≡ false
      → Shrinks l (read l readers g) (firsts l g) → has (ahead l w 0) (firsts l g) ≡ true → Got inner readers g d limit w x r → Got inner readers (many g) d limit r ys z → Got inner readers (many g) d limit w (x ∷ ys) z
  got_many inner readers g d limit w x r ys z fz sh c i j = record {
    text = i.text ++ j.text;
    whole = i.whole ∙ ap (λ z. tokens l i.text ++ z) j.whole ∙ sym (append_assoc (tokens l i.text) (tokens l j.text) z) ∙ ap (λ u. u ++ z) (sym (tokens-append l i.text j.text));
    low = low_both l limit i.text j.text i.low j.low;
    found = (i.text, j.text, refl, subst (λ (n : ℕ). spelled l inner g d i.text x n) (ap (λ u. ahead l u 0) j.whole ∙ ahead-append l j.text z 0) i.found, j.found);
    again = λ s e.
        (let same : ahead l (tokens l j.text ++ s) 0 ≡ ahead l r 0 = rw (j.whole, ahead-append l j.text s 0, ahead-append l j.text z 0, e) refl in
        let whole : w ≡ tokens l i.text ++ r = i.whole in
        rw (tokens-append l i.text j.text, append_assoc)
        (many_step l (read l readers g) (firsts l g) fz sh (tokens l i.text ++ (tokens l j.text ++ s)) x (tokens l j.text ++ s) (Ok (ys, s))
        (same_choice (firsts l g) w i.text r (tokens l j.text ++ s) whole same true c) (i.again (tokens l j.text ++ s) same) (j.again s e)));
  }

  pub stops_more : {A : Type 0} (late : l.Inside → List ℕ) (inner : Inner l) (readers : Readers l) → Settles late inner → (g : Grammar l A) (d limit : ℕ) (w : List l.Token) (x : A) (r : List l.Token) → is_empty l g ≡ false → has 0 (firsts l g) ≡ false
      → (is_nil (senses l late g) || starts l g) ≡ true → Shrinks l (read l readers g) (firsts l g) → has (ahead l w 0) (firsts l g) ≡ true → Got inner readers g d limit w x r → (deep : Bool) (k : ℕ)
      → Stops inner readers (many g) d limit r deep k → Stops inner readers (many g) d limit w deep k
  stops_more late inner readers si g d limit w x r ne fz safe sh c i deep k j = record {
    text = i.text ++ j.text;
    rest = j.rest;
    whole = i.whole ∙ ap (λ z. tokens l i.text ++ z) j.whole ∙ sym (append_assoc (tokens l i.text) (tokens l j.text) j.rest) ∙ ap (λ z. z ++ j.rest) (sym (tokens-append l i.text j.text));
    count = j.count;
    low = low_both l limit i.text j.text i.low j.low;
    goes_on = λ next.
        (let q = j.goes_on next in
        let f : spelled l inner g d i.text x (ahead l (tokens l j.text ++ j.rest) 0) = subst (λ (z : List l.Token). spelled l inner g d i.text x (ahead l z 0)) j.whole i.found in (
          q.0,
          x ∷ q.1,
          (
            i.text,
            j.text ++ q.0,
            append_assoc i.text j.text q.0,
            second_found late inner si g d i.text j.text q.0 x j.rest next f (λ (n : j.text ≡ []). either_way deep limit j.rest q.0 next (senses l late g) q.3 (λ z.
                elim (or_true (is_nil (senses l late g)) (starts l g) safe) [ inl e ↦ no_sense (senses l late g) (next_of l q.0 next) e | inr e ↦ absurd (j.calm z e n) ])),
            q.2,
          ),
          q.3,
        ));
    again = λ s e.
        (let same : ahead l (tokens l j.text ++ s) 0 ≡ ahead l r 0 = rw (j.whole, ahead-append l j.text s 0, ahead-append l j.text j.rest 0, e) refl in
        rw (tokens-append l i.text j.text, append_assoc)
        (many_step l (read l readers g) (firsts l g) fz sh (tokens l i.text ++ (tokens l j.text ++ s)) x (tokens l j.text ++ s) (Err (stop deep (length s)))
        (same_choice (firsts l g) w i.text r (tokens l j.text ++ s) i.whole same true c) (i.again (tokens l j.text ++ s) same) (j.again s e)));
    started = λ z p o n. absurd (cc);
    calm = λ z p n. first_there (is_empty l g) (firsts l g) i.text ne (nil_append i.text j.text n) (begins l inner g d i.text x (ahead l r 0) i.found);
  }
    where
      no_sense : (ks : List ℕ) (k : ℕ) → is_nil ks ≡ true → has k ks ≡ false
      no_sense [] k e = refl
      no_sense (l ∷ ks) k e = absurd (cc)

      first_there : (b : Bool) (fs : List ℕ) (u : List (Placed l)) → b ≡ false → u ≡ [] → Begins l b fs u → ⊥
      first_there b fs [] p n q = absurd (cc)
      first_there b fs (t ∷ u) p n q = absurd (cc)

  pub shrinks : {A : Type 0} (inner : Inner l) (readers : Readers l) (g : Grammar l A) (d limit : ℕ) → is_empty l g ≡ false → ((r : List l.Token) → Judge inner readers g d limit r (read l readers g r)) → Shrinks l (read l readers g) (firsts l g)
  shrinks inner readers g d limit ne jg w x r c e =
      let i = subst (λ o. Judge inner readers g d limit w o) e (jg w) in
      rw i.whole (nonempty l (is_empty l g) (firsts l g) i.text r ne (begins l inner g d i.text x (ahead l r 0) i.found))

  pub judge_more : {A : Type 0} (late : l.Inside → List ℕ) (inner : Inner l) (readers : Readers l) → Settles late inner → (g : Grammar l A) (d limit : ℕ) (w : List l.Token) (x : A) (r : List l.Token) → is_empty l g ≡ false → has 0 (firsts l g) ≡ false
      → (is_nil (senses l late g) || starts l g) ≡ true → Shrinks l (read l readers g) (firsts l g) → has (ahead l w 0) (firsts l g) ≡ true → Got inner readers g d limit w x r → (o : Outcome l (List A)) → Judge inner readers (many g) d limit r o
      → Judge inner readers (many g) d limit w (and_then l o (λ xs s. Ok (x ∷ xs, s)))
  judge_more late inner readers si g d limit w x r ne fz safe sh c i (Ok p) j = got_many inner readers g d limit w x r p.0 p.1 fz sh c i j
  judge_more late inner readers si g d limit w x r ne fz safe sh c i (Err Memory) j = j
  judge_more late inner readers si g d limit w x r ne fz safe sh c i (Err (Syntax k)) j = stops_more late inner readers si g d limit w x r ne fz safe sh c i false k j
  judge_more late inner readers si g d limit w x r ne fz safe sh c i (Err (TooDeep k)) j = stops_more late inner readers si g d limit w x r ne fz safe sh c i true k j

  pub judge_turn : {A : Type 0} (late : l.Inside → List ℕ) (inner : Inner l) (readers : Readers l) → Settles late inner → (g : Grammar l A) (d limit : ℕ) (w : List l.Token) → is_empty l g ≡ false → has 0 (firsts l g) ≡ false
      → (is_nil (senses l late g) || starts l g) ≡ true → Shrinks l (read l readers g) (firsts l g) → has (ahead l w 0) (firsts l g) ≡ true → (f : List l.Token → Outcome l (List A)) → (o : Outcome l A) → Judge inner readers g d limit w o
      → ((x : A) (r : List l.Token) → o ≡ Ok (x, r) → Judge inner readers (many g) d limit r (f r))
      → Judge inner readers (many g) d limit w (and_then l o (λ x r. and_then l (f r) (λ xs s. Ok (x ∷ xs, s))))
  judge_turn late inner readers si g d limit w ne fz safe sh c f (Ok p) i m = judge_more late inner readers si g d limit w p.0 p.1 ne fz safe sh c i (f p.1) (m p.0 p.1 refl)
  judge_turn late inner readers si g d limit w ne fz safe sh c f (Err Memory) i m = i
  judge_turn late inner readers si g d limit w ne fz safe sh c f (Err (Syntax k)) i m = stops_many inner readers g d limit w fz c false k i
  judge_turn late inner readers si g d limit w ne fz safe sh c f (Err (TooDeep k)) i m = stops_many inner readers g d limit w fz c true k i

  pub judge_many : {A : Type 0} (late : l.Inside → List ℕ) (inner : Inner l) (readers : Readers l) → Settles late inner → (g : Grammar l A) (d limit : ℕ) → is_empty l g ≡ false → has 0 (firsts l g) ≡ false
      → (is_nil (senses l late g) || starts l g) ≡ true → Shrinks l (read l readers g) (firsts l g) → ((r : List l.Token) → has (ahead l r 0) (firsts l g) ≡ true → Judge inner readers g d limit r (read l readers g r))
      → (n : ℕ) (w : List l.Token) → length w ≤ n → Judge inner readers (many g) d limit w (many_at l (read l readers g) (firsts l g) n w)
  judge_many late inner readers si g d limit ne fz safe sh jg zero w le = many_none inner readers g d limit w (short w le)
    where
      short : (w : List l.Token) → length w ≤ 0 → has (ahead l w 0) (firsts l g) ≡ false
      short [] le = fz
      short (t ∷ w) le = absurd (omega arith)
  judge_many late inner readers si g d limit ne fz safe sh jg (suc n) w le =
      elim (true_or_false (has (ahead l w 0) (firsts l g))) [
        | inl e ↦ rw e (judge_turn late inner readers si g d limit w ne fz safe sh e (λ r. many_at l (read l readers g) (firsts l g) n r) (read l readers g w) (jg w e)
            (λ x r f. judge_many late inner readers si g d limit ne fz safe sh jg n r (omega (arith, sh w x r e f))))
        | inr e ↦ rw e (many_none inner readers g d limit w e)
      ]

  -- ---- another value

  pub stops_shown : {A B : Type 0} (inner : Inner l) (readers : Readers l) (f : A → B) (g : Grammar l A) (d limit : ℕ) (w : List l.Token) (deep : Bool) (k : ℕ)
      → Stops inner readers g d limit w deep k → Stops inner readers (shown f g) d limit w deep k
  stops_shown inner readers f g d limit w deep k i = record {
    text = i.text;
    rest = i.rest;
    whole = i.whole;
    count = i.count;
    low = i.low;
    goes_on = λ next. (let q = i.goes_on next in (q.0, f q.1, (q.1, refl, q.2), q.3));
    again = λ s e. rw (i.again s e) refl;
    started = i.started;
    calm = i.calm;
  }

  pub judge_shown : {A B : Type 0} (inner : Inner l) (readers : Readers l) (f : A → B) (g : Grammar l A) (d limit : ℕ) (w : List l.Token)
      → (o : Outcome l A) → Judge inner readers g d limit w o → Judge inner readers (shown f g) d limit w (and_then l o (λ x r. Ok (f x, r)))
  judge_shown inner readers f g d limit w (Ok p) i = record { text = i.text; whole = i.whole; low = i.low; found = (p.0, refl, i.found); again = λ s e. rw (i.again s e) refl }
  judge_shown inner readers f g d limit w (Err Memory) i = i
  judge_shown inner readers f g d limit w (Err (Syntax k)) i = stops_shown inner readers f g d limit w false k i
  judge_shown inner readers f g d limit w (Err (TooDeep k)) i = stops_shown inner readers f g d limit w true k i

  -- ---- what opens

  -- what the readers answer behind an opening token, which they are given too
  abbrev pub InnerJudge : ℕ → ℕ → Inner l → Readers l → Type 0
  InnerJudge d limit inner readers = (x : l.Inside) (k : List ℕ) (t : l.Token) (r : List l.Token) → has (kind l t) k ≡ true → Judge inner readers (opening k x) d limit (t ∷ r) (and_then l (readers x (t ∷ r)) (λ y s. Ok ((t, y), s)))

  pub opening_refused : {A : Type 0} (k : List ℕ) (p : List l.Token → Outcome l A) (t : l.Token) (s : List l.Token) → (has (kind l t) k) ≡ false → ahead l s 0 ≡ kind l t → opening_at l k p s ≡ Err (Syntax (length s))
  opening_refused k p t s e f = let q = same_token t s f in
      let g : (has (kind l q.0) k) ≡ false = rw q.3 e in
      rw q.2 (if_false (has (kind l q.0) k) _ _ g)

  pub judged_opening : (inner : Inner l) (readers : Readers l) → Lives inner → (k : List ℕ) (x : l.Inside) (d limit : ℕ) → has (kind l (some_of l k)) k ≡ true → InnerJudge d limit inner readers
      → (w : List l.Token) → Judge inner readers (opening k x) d limit w (opening_at l k (readers x) w)
  judged_opening inner readers li k x d limit kk ij [] = record {
    text = [];
    rest = [];
    whole = refl;
    count = refl;
    low = tt;
    goes_on = λ next. (let p = li x (suc d) next in (record { token = some_of l k; depth = suc d } ∷ p.0, (some_of l k, p.1), (p.0, refl, kk, p.2), tt));
    again = λ s e. rw (no_token s e) refl;
    started = λ z p h n. never_zero k p h;
    calm = λ z p n. absurd (cc);
  }
  judged_opening inner readers li k x d limit kk ij (t ∷ r) = go (has (kind l t) k) refl
    where
      go : (b : Bool) → (has (kind l t) k) ≡ b → Judge inner readers (opening k x) d limit (t ∷ r) (if b then and_then l (readers x (t ∷ r)) (λ y s. Ok ((t, y), s)) else Err (Syntax (suc (length r))))
      go true e = ij x k t r e
      go false e = record {
        text = [];
        rest = t ∷ r;
        whole = refl;
        count = refl;
        low = tt;
        goes_on = λ next. (let p = li x (suc d) next in (record { token = some_of l k; depth = suc d } ∷ p.0, (some_of l k, p.1), (p.0, refl, kk, p.2), tt));
        again = λ s f. opening_refused k (readers x) t s e f;
        started = λ z p h n. both_ways (has (kind l t) k) e h;
        calm = λ z p n. absurd (cc);
      }

  -- ---- all of it

  pub judged : (table late : l.Inside → List ℕ) (inner : Inner l) (readers : Readers l) → Lives inner → Settles late inner → (d limit : ℕ) → d ≤ limit → InnerJudge d limit inner readers
      → {A : Type 0} → (g : Grammar l A) → is_good l table late g ≡ true → (w : List l.Token) → has (ahead l w 0) (barred l g) ≡ false → Judge inner readers g d limit w (read l readers g w)
  judged table late inner readers li si d limit le ij (word k) good w o = judged_word inner readers k d limit good le w
  judged table late inner readers li si d limit le ij (nothing ks a) good w o = record { text = []; whole = refl; low = tt; found = (refl, refl, o); again = λ s e. refl }
  judged table late inner readers li si d limit le ij (both g h) good w o =
      let rest = and_right (is_good l table late g) _ good in
      let rest2 = and_right (is_good l table late h) _ rest in
      let rest3 = and_right (disjoint (firsts l h) (ends l table g)) _ rest2 in
      let rest4 = and_right (is_live l (λ x. true) h) _ rest3 in
      judge_both late inner readers si li g h d limit w (are_kinds table late h (and_left (is_good l table late h) _ rest)) (and_left (is_live l (λ x. true) h) _ rest3) (and_right (subset (barred l h) []) _ rest4)
      (λ r. judged table late inner readers li si d limit le ij h (and_left (is_good l table late h) _ rest) r (not_held (ahead l r 0) (barred l h) [] (and_left (subset (barred l h) []) _ rest4) refl))
      (read l readers g w) (judged table late inner readers li si d limit le ij g (and_left (is_good l table late g) _ good) w o)
  judged table late inner readers li si d limit le ij (either g h) good w o =
      let rest = and_right (is_good l table late g) _ good in
      let rest2 = and_right (is_good l table late h) _ rest in
      let rest3 = and_right (disjoint (firsts l h) (firsts l g)) _ (and_right (not (is_empty l g)) _ rest2) in
      elim (true_or_false (has (ahead l w 0) (firsts l g))) [
        | inl e ↦ rw (if_true (has (ahead l w 0) (firsts l g)) (read l readers g w) (read l readers h w) e) (judge_first inner readers g h d limit w e (read l readers g w)
            (judged table late inner readers li si d limit le ij g (and_left (is_good l table late g) _ good) w (not_held (ahead l w 0) (barred l g) [] (and_right (subset (barred l h) (firsts l g)) _ rest3) refl)))
        | inr e ↦ rw (if_false (has (ahead l w 0) (firsts l g)) (read l readers g w) (read l readers h w) e) (judge_other inner readers g h d limit w e (read l readers h w)
            (judged table late inner readers li si d limit le ij h (and_left (is_good l table late h) _ rest) w (not_held (ahead l w 0) (barred l h) (firsts l g) (and_left (subset (barred l h) (firsts l g)) _ rest3) e)))
      ]
  judged table late inner readers li si d limit le ij (many g) good w o =
      let gg = and_left (is_good l table late g) _ good in
      let rest = and_right (is_good l table late g) _ good in
      let ne = not_true (is_empty l g) (and_left (not (is_empty l g)) _ rest) in
      let rest2 = and_right (disjoint (firsts l g) (ends l table g)) _ (and_right (not (is_empty l g)) _ rest) in
      let rest3 = and_right (subset (barred l g) []) _ rest2 in
      let fz = not_true (has 0 (firsts l g)) (and_right (is_nil (senses l late g) || starts l g) _ rest3) in
      let jg : (r : List l.Token) → Judge inner readers g d limit r (read l readers g r) = λ r. judged table late inner readers li si d limit le ij g gg r (not_held (ahead l r 0) (barred l g) [] (and_left (subset (barred l g) []) _ rest2) refl) in
      judge_many late inner readers si g d limit ne fz (and_left (is_nil (senses l late g) || starts l g) _ rest3) (shrinks inner readers g d limit ne jg) (λ r e. jg r) (length w) w (omega arith)
  judged table late inner readers li si d limit le ij (shown f g) good w o = judge_shown inner readers f g d limit w (read l readers g w) (judged table late inner readers li si d limit le ij g good w o)
  judged table late inner readers li si d limit le ij (opening k x) good w o = judged_opening inner readers li k x d limit good ij w
