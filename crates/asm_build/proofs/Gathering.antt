-- What is added from the files, one after the other.
use Rattle.std.proofs.Common.{◌≡◌, ℕ, zero, suc, ◌+◌, ◌-◌, ◌<◌, true, false, true≢false, nat_eq, List, [], ◌∷◌, ◌++◌, map, take, length, get_or, slice_get, Option, Some, None, refl, sym, ap, ◌∙◌, arith, flat_map}
use Rattle.std.specs.Option.{option_map, unwrap_or}
use Rattle.std.proofs.lemmas.Bool.Decides.{nat_tests}
use Rattle.std.proofs.lemmas.List.{map-append, append-nil}
use Rattle.asm_sign.specs.Vocabulary.{Vocabulary}
use Rattle.asm_node.specs.RuleTree.{Rule, Skip}
use Rattle.asm_tree.specs.declared.unit.RawMain.{RawMain}
use Rattle.asm_tree.specs.declared.unit.RawInit.{RawInit}
use Rattle.asm_tree.specs.declared.unit.RawFunction.{RawFunction}
use Rattle.asm_tree.specs.declared.unit.RawUnit.{RawUnit}
use Rattle.asm_tree.specs.declared.unit.LoadedUnit.{LoadedUnit}
use Rattle.asm_faults.specs.At.{Name}
use Rattle.asm_faults.specs.Files.{Of, all_of, named_of, to_list, initials}
use Rattle.asm_faults.specs.Model.{rule_of, main_rules, first_or_skip}
use Rattle.asm_build.specs.Added.{file_at}
use Rattle.asm_build.proofs.Walks.{flat_more, of_all_more, named_last}

-- what one more item gives
pub mapped_flat : {X Y A : Type 0} (D : Y → A) (g : X → List Y) (xs : List X) (i : ℕ) (x : X) → i < length xs → x ≡ get_or xs i x → map D (flat_map g (take i xs)) ++ map D (g x) ≡ map D (flat_map g (take (i + 1) xs))
mapped_flat D g xs i x lt is = sym (ap (map D) (flat_more g xs i x lt is) ∙ map-append D (flat_map g (take i xs)) (g x))

-- what the items of one more file give
pub mapped_units : {X Y A : Type 0} (D : Y → A) (h : Of X → List Y) (f : RawUnit → List X) (units : List LoadedUnit) (i : ℕ) (u : LoadedUnit) (xs : List X) → i < length units → u ≡ get_or units i u → xs ≡ f u.unit
    → map D (flat_map h (all_of f (take i units))) ++ map D (flat_map (λ a. h (i, a)) xs) ≡ map D (flat_map h (all_of f (take (i + 1) units)))
mapped_units {X} {Y} D h f units i u xs lt is same =
    let g : X → List Y = λ a. h (i, a) in
    ap (λ (ys : List X). map D (flat_map h (all_of f (take i units))) ++ map D (flat_map g ys)) same
    ∙ sym (ap (map D) (of_all_more h f units i u lt is) ∙ map-append D (flat_map h (all_of f (take i units))) (flat_map g (f u.unit)))

pub file_is : (units : List LoadedUnit) (i : ℕ) (u : LoadedUnit) → i < length units → u ≡ get_or units i u → u.file ≡ file_at units i
file_is [] i u lt e = absurd (omega (arith, lt))
file_is (v ∷ units) zero u lt e = ap (λ (w : LoadedUnit). w.file) e
file_is (v ∷ units) (suc i) u lt e = file_is units i u (omega (arith, lt)) e

-- ---- the last file

pub none_named_of : {A : Type 0} (f : RawUnit → List A) (units : List LoadedUnit) → nat_eq (length units) 0 ≡ true → named_of f units ≡ []
none_named_of f [] e = refl
none_named_of f (u ∷ units) e = let some : nat_eq (suc (length units)) 0 ≡ false = grind (arith, nat_tests) in absurd (true≢false (sym e ∙ some))

pub last_place : (n : ℕ) → nat_eq n 0 ≡ false → (n - 1) + 1 ≡ n
last_place zero e = absurd (true≢false e)
last_place (suc n) e = omega arith

got : (units : List LoadedUnit) (i : ℕ) (u : LoadedUnit) → slice_get units i ≡ Some u → u ≡ get_or units i u
got [] i u e = absurd (cc (e))
got (v ∷ units) zero u e = let same : v ≡ u = cc in sym same
got (v ∷ units) (suc i) u e = got units i u e

named_is : {A : Type 0} (f : RawUnit → List A) (units : List LoadedUnit) (i : ℕ) (u : LoadedUnit) (xs : List A) → i + 1 ≡ length units → slice_get units i ≡ Some u → f u.unit ≡ xs → named_of f units ≡ map (λ a. (i, a)) xs
named_is {A} f units i u xs end at e = let pair : A → Of A = λ a. (i, a) in named_last f units i u end (got units i u at) ∙ ap (map pair) e

abbrev pub mains_of : RawUnit → List RawMain
mains_of u = to_list u.main

abbrev pub initials_of : RawUnit → List RawFunction
initials_of u = flat_map (λ (i : RawInit). i.functions) (to_list u.init)

pub main_named : (units : List LoadedUnit) (i : ℕ) (u : LoadedUnit) (m : RawMain) → i + 1 ≡ length units → slice_get units i ≡ Some u → u.unit.main ≡ Some m → named_of mains_of units ≡ (i, m) ∷ []
main_named units i u m end at e = named_is mains_of units i u (m ∷ []) end at (ap to_list e)

pub no_main_named : (units : List LoadedUnit) (i : ℕ) (u : LoadedUnit) → i + 1 ≡ length units → slice_get units i ≡ Some u → u.unit.main ≡ None → named_of mains_of units ≡ []
no_main_named units i u end at e = named_is mains_of units i u [] end at (ap to_list e)

pub initials_named : (units : List LoadedUnit) (i : ℕ) (u : LoadedUnit) (init : RawInit) (fs : List RawFunction) → i + 1 ≡ length units → slice_get units i ≡ Some u → u.unit.init ≡ Some init → fs ≡ init.functions → initials units ≡ map (λ f. (i, f)) fs
initials_named units i u init fs end at e same =
    let all : Option RawInit → List RawFunction = λ o. flat_map (λ (i : RawInit). i.functions) (to_list o) in
    named_is initials_of units i u fs end at (ap all e ∙ append-nil init.functions ∙ sym same)

pub no_initials_named : (units : List LoadedUnit) (i : ℕ) (u : LoadedUnit) → i + 1 ≡ length units → slice_get units i ≡ Some u → u.unit.init ≡ None → initials units ≡ []
no_initials_named units i u end at e =
    let all : Option RawInit → List RawFunction = λ o. flat_map (λ (i : RawInit). i.functions) (to_list o) in
    named_is initials_of units i u [] end at (ap all e)

pub last_file : (units : List LoadedUnit) (i : ℕ) (u : LoadedUnit) → slice_get units i ≡ Some u → u.file ≡ file_at units i
last_file units i u at = let file : Option LoadedUnit → ℕ = λ o. unwrap_or (option_map (λ (v : LoadedUnit). v.file) o) 0 in sym (ap file at)

module _ (number : Name → ℕ) (v : Vocabulary) (units : List LoadedUnit) where
  abbrev first_of : List (Of RawMain) → Rule
  first_of ms = first_or_skip number v units (map (λ (p : Of RawMain). rule_of number v units (file_at units p.0) p.1.rule) ms)

  pub main_is : (i file : ℕ) (m : RawMain) → named_of mains_of units ≡ (i, m) ∷ [] → file ≡ file_at units i → rule_of number v units file m.rule ≡ first_or_skip number v units (main_rules number v units)
  main_is i file m e place = ap (λ (n : ℕ). rule_of number v units n m.rule) place ∙ ap first_of (sym e)

  pub no_main_is : named_of mains_of units ≡ [] → Skip (record { file = 0; at = 0 }) ≡ first_or_skip number v units (main_rules number v units)
  no_main_is e = ap first_of (sym e)
