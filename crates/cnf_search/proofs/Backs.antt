-- The pass as a loop from the last entry to the first.
use Rattle.std.proofs.Common.{◌≡◌, ℕ, ◌+◌, ◌<◌, ◌≤◌, suc, zero, List, [], ◌∷◌, ◌++◌, length, take, drop, get_or, arith, sym, ◌∙◌, Option, Some, None, Bool, true, false, eqb, ◌&&◌, ◌||◌, refl, ap}
use Rattle.std.specs.Prelude.{is_some, is_none, reverse}
use Rattle.std.specs.List.{list_any}
use Rattle.cnf_base.specs.declared.lit.Lit.{Lit}
use Rattle.cnf_search.specs.Trails.{Entry, entries_of}
use Rattle.cnf_search.specs.Passes.{Pass, with_clause, step, late_after, pass, begun}
use Rattle.cnf_search.proofs.Traces.{length-entries_of}
use Rattle.cnf_search.specs.Backs.{late_at, marked}

any_push : (es : List Entry) (e : Entry) → list_any (λ e. is_none e.reason) (es ++ e ∷ []) ≡ list_any (λ e. is_none e.reason) es || is_none e.reason
any_push [] e = ends (is_none e.reason)
  where
    ends : (b : Bool) → b || false ≡ b
    ends true = refl
    ends false = refl
any_push (x ∷ es) e = ap (λ (t : Bool). is_none x.reason || t) (any_push es e) ∙ group (is_none x.reason) (list_any (λ e. is_none e.reason) es) (is_none e.reason)
  where
    group : (a b c : Bool) → a || (b || c) ≡ (a || b) || c
    group true b c = refl
    group false b c = refl

pub back_step : (cs : List (List Lit)) (es : List Entry) (c : List Lit) (place : ℕ) (e : Entry) (s new : Pass) → drop place es ≡ e ∷ drop (place + 1) es → take (place + 1) es ≡ take place es ++ e ∷ []
    → s ≡ pass cs (late_at es (place + 1)) (place + 1) (drop (place + 1) es) (begun c) → new ≡ step cs place e.reason e.lit s (s.seen e.lit.var) (late_at es place && is_some s.found)
    → new ≡ pass cs (late_at es place) place (drop place es) (begun c)
back_step cs es c place e s new d t h k =
    let late : late_at es (place + 1) ≡ late_after (late_at es place) e = ap (list_any (λ e. is_none e.reason)) t ∙ any_push (take place es) e in
    let same : s ≡ pass cs (late_after (late_at es place) e) (place + 1) (drop (place + 1) es) (begun c) = h ∙ ap (λ (b : Bool). pass cs b (place + 1) (drop (place + 1) es) (begun c)) late in
    k ∙ (ap (λ (z : Pass). step cs place e.reason e.lit z (z.seen e.lit.var) (late_at es place && is_some z.found)) same
    ∙ ap (λ (zs : List Entry). pass cs (late_at es place) place zs (begun c)) (sym d))

drop_entries : (ls : List Lit) (rs : List (Option ℕ)) (i : ℕ) (l : Lit) (r : Option ℕ) → i < length ls → length rs ≡ length ls → l ≡ get_or ls i l → r ≡ get_or rs i r
    → drop i (entries_of ls rs) ≡ (record { lit = l; reason = r }) ∷ drop (i + 1) (entries_of ls rs)
drop_entries [] rs i l r h k a b = absurd (omega (arith, h))
drop_entries (x ∷ ls) [] i l r h k a b = absurd (omega (arith, k))
drop_entries (x ∷ ls) (y ∷ rs) zero l r h k a b = λ j. (record { lit = sym a j; reason = sym b j }) ∷ entries_of ls rs
drop_entries (x ∷ ls) (y ∷ rs) (suc i) l r h k a b =
    let e : suc (i + 1) ≡ suc i + 1 = omega arith in
    drop_entries ls rs i l r (omega arith) (omega (arith, k)) a b ∙ ap (λ (j : ℕ). (record { lit = l; reason = r }) ∷ drop j ((record { lit = x; reason = y }) ∷ entries_of ls rs)) e

take_next : {X : Type 0} (xs : List X) (i : ℕ) (x : X) → drop i xs ≡ x ∷ drop (i + 1) xs → take (i + 1) xs ≡ take i xs ++ x ∷ []
take_next {X = X} [] i x h = let bad : [] ≡ x ∷ drop (i + 1) [] = sym (nothing i) ∙ h in cc
  where
    nothing : (i : ℕ) → drop {A = X} i [] ≡ []
    nothing zero = refl
    nothing (suc i) = refl
take_next {X = X} (y ∷ xs) zero x h = let e : y ≡ x = cc in ap (λ (z : X). z ∷ []) e
take_next {X = X} (y ∷ xs) (suc i) x h =
    let e : suc (i + 1) ≡ suc i + 1 = omega arith in
    ap (λ (j : ℕ). take j (y ∷ xs)) (sym e) ∙ ap (λ (zs : List X). y ∷ zs) (take_next xs i x (h ∙ ap (λ (j : ℕ). x ∷ drop j (y ∷ xs)) (sym e)))

-- one turn of the loop
pub back_turn : (cs : List (List Lit)) (ls : List Lit) (rs : List (Option ℕ)) (c : List Lit) (place : ℕ) (l : Lit) (r : Option ℕ) (late : Bool) (s new : Pass)
    → place < length ls → length rs ≡ length ls → l ≡ get_or ls place l → r ≡ get_or rs place r → late ≡ late_at (entries_of ls rs) place
    → s ≡ pass cs (late_at (entries_of ls rs) (place + 1)) (place + 1) (drop (place + 1) (entries_of ls rs)) (begun c)
    → new ≡ step cs place r l s (s.seen l.var) (late && is_some s.found)
    → new ≡ pass cs (late_at (entries_of ls rs) place) place (drop place (entries_of ls rs)) (begun c)
back_turn cs ls rs c place l r late s new h k a b t i j =
    let e : Entry = record { lit = l; reason = r } in
    let d : drop place (entries_of ls rs) ≡ e ∷ drop (place + 1) (entries_of ls rs) = drop_entries ls rs place l r h k a b in
    back_step cs (entries_of ls rs) c place e s new d (take_next (entries_of ls rs) place e d) i (j ∙ ap (λ (z : Bool). step cs place r l s (s.seen l.var) (z && is_some s.found)) t)

or_none : (b : Bool) → b || false ≡ b
or_none true = refl
or_none false = refl

-- the start of the loop
pub told_begun : (marks old : List Bool) (c cl : List Lit) (hs : List ℕ) → ((n : ℕ) → marked marks n ≡ with_clause (Some c) (marked old) n) → ((n : ℕ) → marked old n ≡ false) → cl ≡ [] → hs ≡ []
    → ◌≡◌ {A = Pass} (record { seen = marked marks; found = None; clause = reverse cl; hints = reverse hs }) (begun c)
told_begun marks old c cl hs m none a b =
    let at : (n : ℕ) → marked marks n ≡ list_any (λ (x : Lit). eqb x.var n) c =
    λ n. m n ∙ (ap (λ (t : Bool). list_any (λ (x : Lit). eqb x.var n) c || t) (none n) ∙ or_none (list_any (λ (x : Lit). eqb x.var n) c)) in
    λ i. record { seen = λ n. at n i; found = None; clause = reverse (a i); hints = reverse (b i) }

drop_all : {X : Type 0} (xs : List X) (n : ℕ) → length xs ≤ n → drop n xs ≡ []
drop_all [] zero h = refl
drop_all [] (suc n) h = refl
drop_all (x ∷ xs) zero h = absurd (omega (arith, h))
drop_all (x ∷ xs) (suc n) h = drop_all xs n (omega arith)

pub back_begin : (cs : List (List Lit)) (ls : List Lit) (rs : List (Option ℕ)) (c : List Lit) (s : Pass) → length rs ≡ length ls → s ≡ begun c
    → s ≡ pass cs (late_at (entries_of ls rs) (length ls)) (length ls) (drop (length ls) (entries_of ls rs)) (begun c)
back_begin cs ls rs c s k h =
    h ∙ ap (λ (es : List Entry). pass cs (late_at (entries_of ls rs) (length ls)) (length ls) es (begun c))
    (sym (drop_all (entries_of ls rs) (length ls) (omega (arith, length-entries_of ls rs k))))
