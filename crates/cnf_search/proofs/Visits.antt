-- The clauses of some numbers, looked at one after the other, and the queue of late entries.
use Rattle.std.proofs.Common.{◌≡◌, ℕ, ◌+◌, ◌<◌, ◌≤◌, suc, zero, List, [], ◌∷◌, ◌++◌, length, drop, get_or, slice_get, arith, subst, sym, ◌∙◌, Option, Some, None, true, false, refl, ap, append_assoc, drop-cons, add-one}
use Rattle.std.specs.Prelude.{is_some, IfNone}
use Rattle.cnf_base.specs.declared.lit.Lit.{Lit}
use Rattle.cnf_base.specs.Known.{Partial, made_true}
use Rattle.cnf_base.specs.Derivation.{lone, is_all_false}
use Rattle.cnf_base.proofs.Sound.{some_same}
use Rattle.cnf_check.proofs.Scan.{drop_end}
use Rattle.cnf_gate.proofs.Rungs.{all_join}
use Rattle.cnf_search.specs.Trails.{Entry, Explained, Grows, HasReason, nothing, values, entries_of}
use Rattle.cnf_gate.specs.Built.{is_quiet}
use Rattle.cnf_search.specs.Queue.{is_calm, AreSettled, IsIndex, IsLitAt}
use Rattle.cnf_search.proofs.Traces.{explained_push, after_push, Grows-none, Grows-push}
use Rattle.cnf_search.proofs.Settled.{settled_calm, settled_forced, settled_push, settled_quiet, quiet_settled}

pub drop_zero : {X : Type 0} (xs : List X) → drop 0 xs ≡ xs
drop_zero [] = refl
drop_zero (x ∷ xs) = refl

pub drop_front : {X : Type 0} (xs ys : List X) (n : ℕ) → n ≤ length xs → drop n (xs ++ ys) ≡ drop n xs ++ ys
drop_front [] [] zero h = refl
drop_front [] (y ∷ ys) zero h = refl
drop_front (x ∷ xs) ys zero h = refl
drop_front [] ys (suc n) h = absurd (omega arith)
drop_front (x ∷ xs) ys (suc n) h = drop_front xs ys n (omega arith)

pub length_more : {X : Type 0} (xs ys : List X) → length xs ≤ length (xs ++ ys)
length_more [] ys = omega arith
length_more (x ∷ xs) ys = omega (arith, length_more xs ys)

pub grows_long : (old new : List Entry) → Grows old new → length old ≤ length new
grows_long old new g = omega (arith, ap length g.joined, length_more old g.more)

pub Grows-trans : (a b c : List Entry) → Grows a b → Grows b c → Grows a c
Grows-trans a b c g h = record {
  more = g.more ++ h.more;
  joined = h.joined ∙ (ap (λ (z : List Entry). z ++ h.more) g.joined ∙ append_assoc a g.more h.more);
  implied = all_join (λ e. is_some e.reason) g.more h.more g.implied h.implied;
}

pub calm_here : (f : List (List Lit)) (p : Partial) (n : ℕ) (c : List Lit) → Some c ≡ slice_get f n → lone p c ≡ None → is_all_false p c ≡ false
    → (d : List Lit) → slice_get f n ≡ Some d → is_calm p d ≡ true
calm_here f p n c e none some d g =
    let same : c ≡ d = some_same c d (e ∙ g) in
    let P : List Lit → Type 0 = λ z. is_calm p z ≡ true in
    subst P same (rw (none, some) refl)

-- the clauses before a place were looked at: what was settled but for all numbers is settled but for those from there on
pub record Visits (f : List (List Lit)) (old now : List Entry) (numbers : List ℕ) (i : ℕ) : Type 0 where
  pub explained : Explained f nothing now
  pub grows : Grows old now
  pub settled : (k : ℕ) → k ≤ length old → AreSettled f (values old) (drop k old) numbers → AreSettled f (values now) (drop k now) (drop i numbers)

pub Visits-start : (f : List (List Lit)) (old : List Entry) (numbers : List ℕ) → Explained f nothing old → Visits f old old numbers 0
Visits-start f old numbers x = record {
  explained = x;
  grows = Grows-none old;
  settled = λ k b s. let P : List ℕ → Type 0 = λ z. AreSettled f (values old) (drop k old) z in subst P (sym (drop_zero numbers)) s;
}

next_of : (numbers : List ℕ) (i : ℕ) → i < length numbers → drop i numbers ≡ get_or numbers i 0 ∷ drop (i + 1) numbers
next_of numbers i h = rw add-one (drop-cons numbers i 0 h)

pub Visits-quiet : (f : List (List Lit)) (old now : List Entry) (numbers : List ℕ) (i : ℕ) → Visits f old now numbers i → i < length numbers
    → ((c : List Lit) → slice_get f (get_or numbers i 0) ≡ Some c → is_calm (values now) c ≡ true) → Visits f old now numbers (i + 1)
Visits-quiet f old now numbers i v h calm = record {
  explained = v.explained;
  grows = v.grows;
  settled = λ k b s.
      let P : List ℕ → Type 0 = λ z. AreSettled f (values now) (drop k now) z in
      settled_calm f (values now) (drop k now) (get_or numbers i 0) (drop (i + 1) numbers) (subst P (next_of numbers i h) (v.settled k b s)) calm;
}

pub Visits-forced : (f : List (List Lit)) (old now new : List Entry) (numbers : List ℕ) (i : ℕ) (l : Lit) → Visits f old now numbers i → i < length numbers
    → HasReason f (values now) (get_or numbers i 0) l → new ≡ now ++ (record { lit = l; reason = Some (get_or numbers i 0) }) ∷ [] → Visits f old new numbers (i + 1)
Visits-forced f old now new numbers i l v h r e =
    let entry : Entry = record { lit = l; reason = Some (get_or numbers i 0) } in
    let P : List Entry → Type 0 = λ z. Explained f nothing z in record {
      explained = subst P (sym e) (explained_push f nothing now entry v.explained r);
      grows = Grows-push old now new l (get_or numbers i 0) v.grows e;
      settled = λ k b s.
          let Q : List ℕ → Type 0 = λ z. AreSettled f (values now) (drop k now) z in
          let R : List Entry → Type 0 = λ z. AreSettled f (made_true (values now) l) z (drop (i + 1) numbers) in
          let S : Partial → Type 0 = λ z. AreSettled f z (drop k new) (drop (i + 1) numbers) in
          let long : k ≤ length now = omega (arith, grows_long old now v.grows) in
          let late : drop k now ++ entry ∷ [] ≡ drop k new = sym (ap (drop k) e ∙ drop_front now (entry ∷ []) k long) in
          let made : made_true (values now) l ≡ values new = sym (ap values e ∙ after_push nothing now entry) in
          subst S made (subst R late (settled_forced f (values now) (drop k now) (get_or numbers i 0) (drop (i + 1) numbers) entry (subst Q (next_of numbers i h) (v.settled k b s)) r));
    }

pub Visits-end : (f : List (List Lit)) (old now : List Entry) (numbers : List ℕ) (i : ℕ) → Visits f old now numbers i → length numbers ≤ i
    → (k : ℕ) → k ≤ length old → AreSettled f (values old) (drop k old) numbers → AreSettled f (values now) (drop k now) []
Visits-end f old now numbers i v h k b s =
    let P : List ℕ → Type 0 = λ z. AreSettled f (values now) (drop k now) z in
    subst P (drop_end numbers i h) (v.settled k b s)

-- the literal of an entry
pub entry_at : (ls : List Lit) (rs : List (Option ℕ)) (n : ℕ) (l : Lit) → length rs ≡ length ls → n < length ls → l ≡ get_or ls n l → IsLitAt (entries_of ls rs) n l
entry_at [] rs n l e h is = absurd (omega arith)
entry_at (m ∷ ls) [] n l e h is = absurd (omega arith)
entry_at (m ∷ ls) (r ∷ rs) zero l e h is = record { entry = record { lit = m; reason = r }; split = one (entries_of ls rs); lit = is }
  where
    one : (es : List Entry) → (record { lit = m; reason = r }) ∷ es ≡ (record { lit = m; reason = r }) ∷ drop 0 es
    one [] = refl
    one (x ∷ es) = refl
entry_at (m ∷ ls) (r ∷ rs) (suc n) l e h is =
    let s = entry_at ls rs n l (omega arith) (omega arith) is in
    let one : suc n + 1 ≡ suc (n + 1) = omega arith in
    record { entry = s.entry; split = s.split ∙ ap (λ (k : ℕ). s.entry ∷ drop k ((record { lit = m; reason = r }) ∷ entries_of ls rs)) (sym one); lit = s.lit }

pub index_along : (f g : List (List Lit)) (lists : List (List ℕ)) → g ≡ f → IsIndex f lists → IsIndex g lists
index_along f g lists e x = let P : List (List Lit) → Type 0 = λ z. IsIndex z lists in subst P (sym e) x

-- one more entry, and the formula is the same
pub settled_grown : (f g : List (List Lit)) (es new : List Entry) (e : Entry) (k : ℕ) → g ≡ f → AreSettled f (values es) (drop k es) [] → values es e.lit.var ≡ None
    → new ≡ es ++ e ∷ [] → k ≤ length es → AreSettled g (values new) (drop k new) []
settled_grown f g es new e k same s none j long =
    let P : List (List Lit) → Type 0 = λ z. AreSettled z (values new) (drop k new) [] in
    let R : List Entry → Type 0 = λ z. AreSettled f (made_true (values es) e.lit) z [] in
    let S : Partial → Type 0 = λ z. AreSettled f z (drop k new) [] in
    let late : drop k es ++ e ∷ [] ≡ drop k new = sym (ap (drop k) j ∙ drop_front es (e ∷ []) k long) in
    let made : made_true (values es) e.lit ≡ values new = sym (ap values j ∙ after_push nothing es e) in
    subst P (sym same) (subst S made (subst R late (settled_push f (values es) (drop k es) [] e s none)))

-- a quiet trail has nothing late
pub quiet_late : (f : List (List Lit)) (es : List Entry) (k : ℕ) → length es ≤ k → is_quiet (values es) f ≡ true → AreSettled f (values es) (drop k es) []
quiet_late f es k h q =
    let P : List Entry → Type 0 = λ z. AreSettled f (values es) z [] in
    subst P (sym (drop_end es k h)) (quiet_settled f (values es) q)

pub late_quiet : (f : List (List Lit)) (es : List Entry) (k : ℕ) → length es ≤ k → AreSettled f (values es) (drop k es) [] → is_quiet (values es) f ≡ true
late_quiet f es k h s =
    let P : List Entry → Type 0 = λ z. AreSettled f (values es) z [] in
    settled_quiet f (values es) (subst P (drop_end es k h) s)

pub none_is : {X : Type 0} (o : Option X) (P : Type 0) → ((x : X) → o ≡ Some x → ⊥) → IfNone o P → P
none_is None P h k = k
none_is (Some x) P h k = absurd (h x refl)
