-- The walk that looks whether a node leads to itself.
use Rattle.std.proofs.Common.{◌≡◌, ℕ, zero, suc, ◌+◌, ◌<◌, ◌≤◌, List, [], ◌∷◌, ◌++◌, length, get_or, set, replicate, Bool, true, false, cond, ◌⊎◌, inl, inr, refl, ap, sym, ◌∙◌, subst, arith, length-append}
use Rattle.std.proofs.lemmas.List.{get_or_default, get_or-set_other, length-replicate, length-set}
use Rattle.std.proofs.lemmas.Bool.{cases_eq}
use Rattle.call_graph.specs.declared.graph.Node.{Node}
use Rattle.call_graph.specs.Calls.{calls_of, calls_at, is_in, leads}
use Rattle.call_graph.proofs.Found.{In, in_left, in_right, in_either, in_pushed, is_false, not_both}
use Rattle.call_graph.proofs.Nodes.{calls_below}
use Rattle.call_graph.proofs.Leading.{leads_none, leads_by, leads_cases, leads_more, leads_on, leads_below}

-- whether there is nothing more to visit under a number: it was visited, or is past the end
abbrev pub is_done : List Bool → ℕ → Bool
is_done visited n = get_or visited n true

-- how many were visited
abbrev pub visits : List Bool → ℕ
visits [] = 0
visits (b ∷ v) = cond b (suc (visits v)) (visits v)

-- how many calls of nodes that weren't visited there are
abbrev pub unread : List Node → List Bool → ℕ
unread [] v = 0
unread (n ∷ g) [] = 0
unread (n ∷ g) (b ∷ v) = cond b 0 (length (calls_of n)) + unread g v

-- f wasn't visited; what was visited is led to by f, with at most one call each; and what f or a visited node calls
-- was visited, or lies ahead
pub record IsWalk (g : List Node) (f : ℕ) (visited : List Bool) (ahead : List ℕ) : Type 0 where
  pub sized : length visited ≡ length g
  pub new : is_in visited f ≡ false
  pub led : (h : ℕ) → is_in visited h ≡ true → leads g (visits visited) f h ≡ true
  pub near : (c : ℕ) → In ahead c → leads g (suc (visits visited)) f c ≡ true
  pub closed : (h c : ℕ) → (h ≡ f) ⊎ (is_done visited h ≡ true) → In (calls_at g h) c → (is_done visited c ≡ true) ⊎ In ahead c

-- ---- rows

none_in : (n i : ℕ) → is_in (replicate n false) i ≡ false
none_in zero i = refl
none_in (suc n) zero = refl
none_in (suc n) (suc i) = none_in n i

done_past : (n i : ℕ) → is_done (replicate n false) i ≡ true → n ≤ i
done_past zero i h = omega arith
done_past (suc n) zero h = let wrong : false ≡ true = h in cc
done_past (suc n) (suc i) h = let le = done_past n i h in omega arith

set_done : (v : List Bool) (c : ℕ) → is_done (set v c true) c ≡ true
set_done [] c = refl
set_done (b ∷ v) zero = refl
set_done (b ∷ v) (suc c) = set_done v c

-- a row with one more visited has what the row had
set_kept : (v : List Bool) (c n : ℕ) → is_done v n ≡ true → is_done (set v c true) n ≡ true
set_kept v c n h =
    elim (cases_eq n c) [
      | inl e ↦ subst (λ m. is_done (set v c true) m ≡ true) (sym e) (set_done v c)
      | inr ne ↦ get_or-set_other v c n true true ne ∙ h
    ]

visits_set : (v : List Bool) (c : ℕ) → is_done v c ≡ false → visits (set v c true) ≡ suc (visits v)
visits_set [] c h = let wrong : true ≡ false = h in cc
visits_set (b ∷ v) zero h = ap (λ (x : Bool). suc (visits v)) h ∙ ap (λ x. suc (cond x (suc (visits v)) (visits v))) (sym h)
visits_set (true ∷ v) (suc c) h = ap suc (visits_set v c h)
visits_set (false ∷ v) (suc c) h = visits_set v c h

-- where one wasn't visited, not all were
visits_below : (v : List Bool) (n : ℕ) → n < length v → is_in v n ≡ false → visits v < length v
visits_below [] n lt h = absurd (omega arith)
visits_below (true ∷ v) zero lt h = let wrong : true ≡ false = h in cc
visits_below (false ∷ v) zero lt h = let le = visits_most v in omega arith
  where
    visits_most : (w : List Bool) → visits w ≤ length w
    visits_most [] = omega arith
    visits_most (true ∷ w) = let le = visits_most w in omega arith
    visits_most (false ∷ w) = let le = visits_most w in omega arith
visits_below (true ∷ v) (suc n) lt h = let le = visits_below v n (omega arith) h in omega arith
visits_below (false ∷ v) (suc n) lt h = let le = visits_below v n (omega arith) h in omega arith

unread_set : (g : List Node) (v : List Bool) (c : ℕ) → is_done v c ≡ false → unread g v ≡ length (calls_at g c) + unread g (set v c true)
unread_set [] v c h = refl
unread_set (n ∷ g) [] c h = let wrong : true ≡ false = h in cc
unread_set (n ∷ g) (b ∷ v) zero h = ap (λ x. cond x 0 (length (calls_of n)) + unread g v) h ∙ omega arith
unread_set (n ∷ g) (b ∷ v) (suc c) h = let e = unread_set g v c h in omega arith

-- ---- the walk

walk_begins : (g : List Node) (f : ℕ) → IsWalk g f (replicate (length g) false) (calls_at g f)
walk_begins g f = record {
  sized = length-replicate (length g) false;
  new = none_in (length g) f;
  led = λ h t. absurd (not_both (is_in (replicate (length g) false) h) (none_in (length g) h) t);
  near = λ c m. leads_by g _ f c c m (inl refl);
  closed = λ h c e m. elim e [
    | inl s ↦ inr (subst (λ x. In (calls_at g x) c) s m)
    | inr d ↦ let lt = calls_below g h c m in let le = done_past (length g) h d in absurd (omega arith)
  ];
}

walk_skips : (g : List Node) (f : ℕ) (v : List Bool) (a : List ℕ) (c : ℕ) → IsWalk g f v (a ++ c ∷ []) → is_done v c ≡ true → IsWalk g f v a
walk_skips g f v a c w d = record {
  sized = w.sized;
  new = w.new;
  led = w.led;
  near = λ x m. w.near x (in_left a (c ∷ []) x m);
  closed = λ h x e m. elim (w.closed h x e m) [
    | inl t ↦ inl t
    | inr t ↦ elim (in_pushed a c x t) [ inl l ↦ inr l | inr s ↦ inl (subst (λ y. is_done v y ≡ true) s d) ]
  ];
}

near_last : (g : List Node) (f : ℕ) (v : List Bool) (a : List ℕ) (c : ℕ) → IsWalk g f v (a ++ c ∷ []) → leads g (suc (visits v)) f c ≡ true
near_last g f v a c w = w.near c (in_right a (c ∷ []) c (inl refl))

walk_visits : (g : List Node) (f : ℕ) (v : List Bool) (a : List ℕ) (c : ℕ) → IsWalk g f v (a ++ c ∷ []) → is_done v c ≡ false → (c ≡ f → ⊥) → IsWalk g f (set v c true) (a ++ calls_at g c)
walk_visits g f v a c w d ne = record {
  sized = length-set v c true ∙ w.sized;
  new = get_or-set_other v c f true false (λ e. ne (sym e)) ∙ w.new;
  led = λ h t. subst (λ k. leads g k f h ≡ true) (sym (visits_set v c d)) (led h t);
  near = λ x m. subst (λ k. leads g (suc k) f x ≡ true) (sym (visits_set v c d)) (near x m);
  closed = closed;
}
  where
    led : (h : ℕ) → is_in (set v c true) h ≡ true → leads g (suc (visits v)) f h ≡ true
    led h t =
        elim (cases_eq h c) [
          | inl e ↦ subst (λ x. leads g (suc (visits v)) f x ≡ true) (sym e) (near_last g f v a c w)
          | inr apart ↦ leads_more g (visits v) (suc (visits v)) f h (omega arith) (w.led h (sym (get_or-set_other v c h true false apart) ∙ t))
        ]

    near : (x : ℕ) → In (a ++ calls_at g c) x → leads g (suc (suc (visits v))) f x ≡ true
    near x m =
        elim (in_either a (calls_at g c) x m) [
          | inl l ↦ leads_more g (suc (visits v)) (suc (suc (visits v))) f x (omega arith) (w.near x (in_left a (c ∷ []) x l))
          | inr r ↦ leads_on g (suc (visits v)) f c x (near_last g f v a c w) r
        ]

    kept : (h x : ℕ) → (h ≡ f) ⊎ (is_done v h ≡ true) → In (calls_at g h) x → (is_done (set v c true) x ≡ true) ⊎ In (a ++ calls_at g c) x
    kept h x e m =
        elim (w.closed h x e m) [
          | inl t ↦ inl (set_kept v c x t)
          | inr t ↦ elim (in_pushed a c x t) [
            | inl l ↦ inr (in_left a (calls_at g c) x l)
            | inr s ↦ inl (subst (λ y. is_done (set v c true) y ≡ true) s (set_done v c))
          ]
        ]

    closed : (h x : ℕ) → (h ≡ f) ⊎ (is_done (set v c true) h ≡ true) → In (calls_at g h) x → (is_done (set v c true) x ≡ true) ⊎ In (a ++ calls_at g c) x
    closed h x e m =
        elim (cases_eq h c) [
          | inl s ↦ inr (in_right a (calls_at g c) x (subst (λ y. In (calls_at g y) x) s m))
          | inr apart ↦ kept h x (elim e [ inl s ↦ inl s | inr t ↦ inr (sym (get_or-set_other v c h true true apart) ∙ t) ]) m
        ]

walk_finds : (g : List Node) (f : ℕ) (v : List Bool) (a : List ℕ) → IsWalk g f v (a ++ f ∷ []) → leads g (length g) f f ≡ true
walk_finds g f v a w =
    let t = near_last g f v a f w in
    let lt = leads_below g (suc (visits v)) f f t in
    let s = w.sized in
    let below = visits_below v f (omega arith) w.new in
    leads_more g (suc (visits v)) (length g) f f (omega arith) t

-- at the end all that f leads to was visited
leads_done : (g : List Node) (f : ℕ) (v : List Bool) → IsWalk g f v [] → (k h : ℕ) → (h ≡ f) ⊎ (is_done v h ≡ true) → leads g k h f ≡ true → is_done v f ≡ true
leads_done g f v w zero h e t = absurd (leads_none g h f t)
leads_done g f v w (suc k) h e t =
    let r = leads_cases g k h f t in
    elim (w.closed h r.0 e r.1) [
      | inl d ↦ elim r.2 [ inl s ↦ subst (λ x. is_done v x ≡ true) s d | inr u ↦ leads_done g f v w k r.0 (inr d) u ]
      | inr none ↦ absurd none
    ]

walk_ends : (g : List Node) (f : ℕ) (v : List Bool) → IsWalk g f v [] → (k : ℕ) → leads g k f f ≡ false
walk_ends g f v w k =
    is_false (leads g k f f)
    (λ t.
    let lt = leads_below g k f f t in
    let s = w.sized in
    let d = leads_done g f v w k f (inl refl) t in
    not_both (is_in v f) w.new (get_or_default v f false true (omega arith) ∙ d))

-- ---- a turn of the loop, which takes the last number that lies ahead

pub starts : (g : List Node) (f : ℕ) (v : List Bool) (a : List ℕ) → v ≡ replicate (length g) false → a ≡ calls_at g f → IsWalk g f v a
starts g f v a none calls =
    subst (λ x. IsWalk g f x a) (sym none) (subst (λ x. IsWalk g f (replicate (length g) false) x) (sym calls) (walk_begins g f))

pub skips : (g : List Node) (f : ℕ) (v : List Bool) (old a : List ℕ) (c : ℕ) → old ≡ a ++ c ∷ [] → IsWalk g f v old → is_done v c ≡ true → IsWalk g f v a
skips g f v old a c last w d = walk_skips g f v a c (subst (IsWalk g f v) last w) d

pub visited : (g : List Node) (f : ℕ) (v : List Bool) (old a new : List ℕ) (c : ℕ) → old ≡ a ++ c ∷ [] → IsWalk g f v old → is_done v c ≡ false → (c ≡ f → ⊥) → new ≡ a ++ calls_at g c → IsWalk g f (set v c true) new
visited g f v old a new c last w d ne calls =
    subst (IsWalk g f (set v c true)) (sym calls) (walk_visits g f v a c (subst (IsWalk g f v) last w) d ne)

pub fewer : (g : List Node) (v : List Bool) (old a new : List ℕ) (c : ℕ) → old ≡ a ++ c ∷ [] → is_done v c ≡ false → new ≡ a ++ calls_at g c → unread g (set v c true) + length new < unread g v + length old
fewer g v old a new c last d calls =
    let read = unread_set g v c d in
    let before = ap length last ∙ length-append a (c ∷ []) in
    let after = ap length calls ∙ length-append a (calls_at g c) in
    omega arith

pub finds : (g : List Node) (f : ℕ) (v : List Bool) (old a : List ℕ) (c : ℕ) → old ≡ a ++ c ∷ [] → IsWalk g f v old → c ≡ f → true ≡ leads g (length g) f f
finds g f v old a c last w e =
    sym (walk_finds g f v a (subst (λ x. IsWalk g f v (a ++ x ∷ [])) e (subst (IsWalk g f v) last w)))

pub ends : (g : List Node) (f : ℕ) (v : List Bool) (a : List ℕ) → a ≡ [] → IsWalk g f v a → (k : ℕ) → leads g k f f ≡ false
ends g f v a none w = walk_ends g f v (subst (IsWalk g f v) none w)
