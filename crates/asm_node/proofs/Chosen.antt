-- Choices at paths as a finite map.
use Rattle.std.proofs.Common.{◌≡◌, ℕ, zero, suc, Bool as Truth, true, false, cond, List, [], ◌∷◌, ◌++◌, map, length, Option, Some, None, refl, sym, ap, ◌∙◌, subst, arith}
use Rattle.std.specs.Ordering.{eq_by_cmp, is_eq}
use Rattle.std.specs.Cmp.{IsTotalOrder, tied_itself, Equal-is}
use Rattle.std.proofs.lemmas.Cmp.{on_total, lists_total, nat_list_cmp_total}
use Rattle.std.specs.Prelude.{slice_set}
use Rattle.std.specs.FinMap.{IsAntisymmetric, nat_cmp-IsAntisymmetric, slice_cmp-IsAntisymmetric, find, insert, from_entries, get, get-from_entries, get-insert, same_map, from_entries_push}
use Rattle.asm_domain.specs.declared.value.Value.{Value}
use Rattle.asm_node.specs.declared.choices.Choice.{Choice}
use Rattle.asm_node.specs.Taking.{Path}
use Rattle.asm_node.specs.Choices.{path_key, path_from, path_from-key, path_cmp, Chosen, StandsAt, NoneBefore}

pub path_total : IsTotalOrder path_cmp
path_total = on_total path_key (lists_total (lists_total nat_list_cmp_total))

pub path_apart : IsAntisymmetric path_cmp
path_apart p q is =
    sym (path_from-key p) ∙ ap path_from (slice_cmp-IsAntisymmetric (slice_cmp-IsAntisymmetric (slice_cmp-IsAntisymmetric nat_cmp-IsAntisymmetric)) (path_key p) (path_key q) is) ∙ path_from-key q

same_path : Path → Path → Truth
same_path = eq_by_cmp path_cmp

same-is : (p q : Path) → eq_by_cmp path_cmp p q ≡ true → p ≡ q
same-is p q is = path_apart p q ((Equal-is (path_cmp p q)).0 is)

itself : (p : Path) → eq_by_cmp path_cmp p p ≡ true
itself p = ap is_eq (tied_itself path_total p)

same-of : (p q : Path) → p ≡ q → eq_by_cmp path_cmp p q ≡ true
same-of p q e = subst (λ (r : Path). eq_by_cmp path_cmp p r ≡ true) e (itself p)

other-of : (p q : Path) → ¬ (p ≡ q) → eq_by_cmp path_cmp p q ≡ false
other-of p q differ =
    elim (eq_by_cmp path_cmp p q) as (λ (b : Truth). eq_by_cmp path_cmp p q ≡ b → b ≡ false) [ true ↦ λ is. absurd (differ (same-is p q is)) | false ↦ λ _. refl ] refl

abbrev pub entry : Choice → Path × List Value
entry choice = (choice.path, choice.tuple)

abbrev pub found : Path → List Choice → Option (List Value)
found q choices = find path_cmp q (map entry choices)

later : (c : Choice) (cs : List Choice) (path : Path) (n : ℕ) → NoneBefore (c ∷ cs) path (suc n) → NoneBefore cs path n
later c cs path n before k choice lt at = before (suc k) choice (omega (arith, lt)) at

-- a path without a choice
pub found-none : (cs : List Choice) (path : Path) → NoneBefore cs path (length cs) → found path cs ≡ None
found-none [] path before = refl
found-none (c ∷ cs) path before =
    ap (λ b. cond b (Some c.tuple) (found path cs)) (other-of path c.path (λ e. before 0 c (omega arith) refl (sym e)))
    ∙ found-none cs path (later c cs path (length cs) before)

-- the choice at the first place of a path
pub found-at : (cs : List Choice) (path : Path) (n : ℕ) (choice : Choice) → StandsAt cs n choice → choice.path ≡ path → NoneBefore cs path n → found path cs ≡ Some choice.tuple
found-at [] path n choice at is before = absurd (cc (at))
found-at (c ∷ cs) path zero choice at is before =
    let e : c ≡ choice = cc (at) in
    ap (λ b. cond b (Some c.tuple) (found path cs)) (same-of path c.path (sym (ap (λ (d : Choice). d.path) e ∙ is))) ∙ ap (λ (d : Choice). Some d.tuple) e
found-at (c ∷ cs) path (suc n) choice at is before =
    ap (λ b. cond b (Some c.tuple) (found path cs)) (other-of path c.path (λ e. before 0 c (omega arith) refl (sym e)))
    ∙ found-at cs path n choice at is (later c cs path n before)

-- the choices with another one at the first place of its path
found-set : (cs : List Choice) (n : ℕ) (old new : Choice) → StandsAt cs n old → old.path ≡ new.path → NoneBefore cs new.path n → (q : Path) → found q (slice_set cs n new) ≡ cond (eq_by_cmp path_cmp q new.path) (Some new.tuple) (found q cs)
found-set [] n old new at is before q = absurd (cc (at))
found-set (c ∷ cs) zero old new at is before q =
    elim (eq_by_cmp path_cmp q new.path) as (λ (b : Truth). eq_by_cmp path_cmp q new.path ≡ b → cond b (Some new.tuple) (found q cs) ≡ cond b (Some new.tuple) (cond (eq_by_cmp path_cmp q c.path) (Some c.tuple) (found q cs))) [
      | true ↦ λ _. refl
      | false ↦ λ apart. (let e : c ≡ old = cc (at) in ap (λ b. cond b (Some c.tuple) (found q cs)) (sym (ap (eq_by_cmp path_cmp q) (ap (λ (d : Choice). d.path) e ∙ is) ∙ apart)))
    ] refl
found-set (c ∷ cs) (suc n) old new at is before q =
    ap (cond (eq_by_cmp path_cmp q c.path) (Some c.tuple)) (found-set cs n old new at is (later c cs new.path n before) q)
    ∙ swapped (Some c.tuple) (Some new.tuple) (found q cs) (eq_by_cmp path_cmp q c.path) (eq_by_cmp path_cmp q new.path) (λ one two. before 0 c (omega arith) refl (sym (same-is q c.path one) ∙ same-is q new.path two))
  where
    swapped : (x y z : Option (List Value)) (a b : Truth) → (a ≡ true → b ≡ true → ⊥) → cond a x (cond b y z) ≡ cond b y (cond a x z)
    swapped x y z true true apart = absurd (apart refl refl)
    swapped x y z true false apart = refl
    swapped x y z false b apart = refl

abbrev pub map_of : List Choice → Chosen
map_of cs = from_entries {R = path_cmp} (map entry cs)

pub get-found : (cs : List Choice) (q : Path) → get (map_of cs) q ≡ found q cs
get-found cs q = get-from_entries path_total (map entry cs) q

pub replaced : (cs : List Choice) (n : ℕ) (old new : Choice) → StandsAt cs n old → old.path ≡ new.path → NoneBefore cs new.path n → map_of (slice_set cs n new) ≡ insert (map_of cs) new.path new.tuple
replaced cs n old new at is before =
    same_map path_total path_apart _ _ (λ q.
    get-found (slice_set cs n new) q ∙ found-set cs n old new at is before q
    ∙ sym (get-insert path_total (map_of cs) new.path new.tuple q ∙ ap (cond (eq_by_cmp path_cmp q new.path) (Some new.tuple)) (get-found cs q)))

map-push : (cs : List Choice) (new : Choice) → map entry (cs ++ new ∷ []) ≡ map entry cs ++ entry new ∷ []
map-push [] new = refl
map-push (c ∷ cs) new = ap (λ es. entry c ∷ es) (map-push cs new)

pub pushed : (cs : List Choice) (new : Choice) → NoneBefore cs new.path (length cs) → map_of (cs ++ new ∷ []) ≡ insert (map_of cs) new.path new.tuple
pushed cs new before =
    ap (from_entries {R = path_cmp}) (map-push cs new) ∙ from_entries_push path_total path_apart (map entry cs) new.path new.tuple (found-none cs new.path before)
