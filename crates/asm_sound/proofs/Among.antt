-- Names that files declare, each once.
use Rattle.std.proofs.Common.{◌≡◌, ℕ, suc, zero, cond, List, [], ◌∷◌, ◌++◌, Some, slice_get, append_assoc, sym, ap, subst, ◌∙◌, refl, arith}
use Rattle.std.specs.Prelude.{map}
use Rattle.std.specs.List.{flat_map}
use Rattle.asm_tree.specs.declared.term.RawName.{RawName}
use Rattle.asm_tree.specs.declared.unit.RawDeclaration.{RawDeclaration}
use Rattle.asm_tree.specs.declared.unit.RawUnit.{RawUnit}
use Rattle.asm_tree.specs.declared.unit.LoadedUnit.{LoadedUnit}
use Rattle.asm_faults.specs.declared.fault.ModelFault.TheVariants.{Duplicate}
use Rattle.asm_faults.specs.At.{Name, fault_at}
use Rattle.asm_faults.specs.DomainFaults.{is_listed, repeats}
use Rattle.asm_faults.specs.Files.{Of, all_of, numbered, names_in_declaration, names_in_definition, names_in, main_names, named_of, declared_names}
use Rattle.asm_sound.proofs.Scopes.{none_right}
use Rattle.asm_sound.proofs.TypedTerms.{no_some}
use Rattle.asm_sound.proofs.Definitions.{one_place_of}

-- names that a list of names has, in their order
pub data Among : List (Of RawName) → List (Of RawName) → Type 0 where
  Empty : Among [] []
  Without : (y : Of RawName) {xs ys : List (Of RawName)} → Among xs ys → Among xs (y ∷ ys)
  With : (x : Of RawName) {xs ys : List (Of RawName)} → Among xs ys → Among (x ∷ xs) (x ∷ ys)

pub among_none : (ys : List (Of RawName)) → Among [] ys
among_none [] = Empty
among_none (y ∷ ys) = Without y (among_none ys)

among_both : {xs ys zs ws : List (Of RawName)} → Among xs ys → Among zs ws → Among (xs ++ zs) (ys ++ ws)
among_both Empty b = b
among_both (Without y a) b = Without y (among_both a b)
among_both (With x a) b = With x (among_both a b)

-- the place of an item in the longer list
pub place_among : {xs ys : List (Of RawName)} → Among xs ys → (k : ℕ) (x : Of RawName) → slice_get xs k ≡ Some x → (j : ℕ) × (slice_get ys j ≡ Some x)
place_among Empty k x is = absurd (no_some x is)
place_among (Without y a) k x is = let p = place_among a k x is in (suc p.0, p.1)
place_among (With y a) zero x is = (0, is)
place_among (With y a) (suc k) x is = let p = place_among a k x is in (suc p.0, p.1)

never_zero : {k : ℕ} → 0 ≡ suc k → ⊥
never_zero e = omega (arith, e)

-- where the longer list has no name twice, the shorter has none
pub fresh_among : (earlier : List Name) {xs ys : List (Of RawName)} → Among xs ys → repeats earlier ys ≡ [] → (i j : ℕ) (p q : Of RawName) → slice_get xs i ≡ Some p → slice_get xs j ≡ Some q → p.1.text ≡ q.1.text → i ≡ j
fresh_among earlier Empty none i j p q at_i at_j same = absurd (no_some p at_i)
fresh_among earlier (Without y {xs = xs} {ys = ys} a) none i j p q at_i at_j same =
    fresh_among (earlier ++ y.1.text ∷ []) a (none_right (cond (is_listed earlier y.1.text) (fault_at Duplicate y.0 y.1 ∷ []) []) (repeats (earlier ++ y.1.text ∷ []) ys) none) i j p q at_i at_j same
fresh_among earlier (With x {xs = xs} {ys = ys} a) none zero zero p q at_i at_j same = refl
fresh_among earlier (With x {xs = xs} {ys = ys} a) none zero (suc j) p q at_i at_j same =
    let there = place_among a j q at_j in
    absurd (never_zero (one_place_of earlier (x ∷ ys) none 0 (suc there.0) p q at_i there.1 same))
fresh_among earlier (With x {xs = xs} {ys = ys} a) none (suc i) zero p q at_i at_j same =
    let there = place_among a i p at_i in
    absurd (never_zero (one_place_of earlier (x ∷ ys) none 0 (suc there.0) q p at_j there.1 (sym same)))
fresh_among earlier (With x {xs = xs} {ys = ys} a) none (suc i) (suc j) p q at_i at_j same =
    ap suc (fresh_among (earlier ++ x.1.text ∷ []) a (none_right (cond (is_listed earlier x.1.text) (fault_at Duplicate x.0 x.1 ∷ []) []) (repeats (earlier ++ x.1.text ∷ []) ys) none) i j p q at_i at_j same)

abbrev pub of_unit : {A : Type 0} → ℕ → List A → List (Of A)
of_unit n xs = map (λ a. (n, a)) xs

map_both : {A B : Type 0} (h : A → B) (xs ys : List A) → map h (xs ++ ys) ≡ map h xs ++ map h ys
map_both h [] ys = refl
map_both h (x ∷ xs) ys = ap (λ zs. h x ∷ zs) (map_both h xs ys)

flat_both : {A B : Type 0} (h : A → List B) (xs ys : List A) → flat_map h (xs ++ ys) ≡ flat_map h xs ++ flat_map h ys
flat_both h [] ys = refl
flat_both h (x ∷ xs) ys = ap (λ zs. h x ++ zs) (flat_both h xs ys) ∙ sym (append_assoc (h x) (flat_map h xs) (flat_map h ys))

-- ---- items that each declaration has, with names that it declares

append_nothing : {A : Type 0} (xs : List A) → xs ++ [] ≡ xs
append_nothing [] = refl
append_nothing (x ∷ xs) = ap (λ zs. x ∷ zs) (append_nothing xs)

abbrev declarations_of : ℕ × RawUnit → List (Of RawDeclaration)
declarations_of p = of_unit p.0 p.1.declarations

abbrev names_of : ℕ × RawUnit → List (Of RawName)
names_of p = of_unit p.0 (names_in p.1)

module _ {A : Type 0} (items : Of RawDeclaration → List A) (name_of : A → Of RawName) (own : (n : ℕ) (d : RawDeclaration) → Among (map name_of (items (n, d))) (of_unit n (names_in_declaration d))) where
  unit_among : (n : ℕ) (ds : List RawDeclaration) → Among (map name_of (flat_map items (of_unit n ds))) (of_unit n (flat_map names_in_declaration ds))
  unit_among n [] = Empty
  unit_among n (d ∷ ds) =
      subst (λ xs. Among xs (of_unit n (flat_map names_in_declaration (d ∷ ds)))) (sym (map_both name_of (items (n, d)) (flat_map items (of_unit n ds))))
      (subst (λ ys. Among (map name_of (items (n, d)) ++ map name_of (flat_map items (of_unit n ds))) ys) (sym (map_both (λ a. (n, a)) (names_in_declaration d) (flat_map names_in_declaration ds)))
      (among_both (own n d) (unit_among n ds)))

  names_among : (n : ℕ) (u : RawUnit) → Among (map name_of (flat_map items (of_unit n u.declarations))) (of_unit n (names_in u))
  names_among n u =
      subst (λ ys. Among (map name_of (flat_map items (of_unit n u.declarations))) ys) (sym (map_both (λ a. (n, a)) (flat_map names_in_declaration u.declarations) (flat_map names_in_definition u.definitions)))
      (subst (λ xs. Among xs (of_unit n (flat_map names_in_declaration u.declarations) ++ of_unit n (flat_map names_in_definition u.definitions))) (append_nothing (map name_of (flat_map items (of_unit n u.declarations))))
      (among_both (unit_among n u.declarations) (among_none (of_unit n (flat_map names_in_definition u.definitions)))))

  units_among : (us : List (ℕ × RawUnit)) → Among (map name_of (flat_map items (flat_map declarations_of us))) (flat_map names_of us)
  units_among [] = Empty
  units_among (u ∷ us) =
      subst (λ xs. Among xs (flat_map names_of (u ∷ us)))
      (sym (ap (map name_of) (flat_both items (declarations_of u) (flat_map declarations_of us)) ∙ map_both name_of (flat_map items (declarations_of u)) (flat_map items (flat_map declarations_of us))))
      (among_both (names_among u.0 u.1) (units_among us))

  -- the names of the items of all declarations are among the declared names
  pub items_among : (units : List LoadedUnit) → Among (map name_of (flat_map items (all_of (λ u. u.declarations) units))) (declared_names units)
  items_among units =
      subst (λ xs. Among xs (declared_names units)) (append_nothing (map name_of (flat_map items (all_of (λ u. u.declarations) units)))) (among_both (units_among (numbered units)) (among_none (named_of main_names units)))
