-- What a table of the names of functions finds.
use Rattle.std.proofs.Common.{◌≡◌, ◌∙◌, ℕ, ◌+◌, Bool as Truth, cond, ◌&&◌, nat_eq, List, [], ◌∷◌, map, Option, Some, slice_get, refl, sym, ap}
use Rattle.std.specs.Str.{bytes_eq}
use Rattle.std.specs.List.{position, position_from}
use Rattle.std.proofs.lemmas.Iterator.Adapters.{position_from-zero}
use Rattle.std.proofs.lemmas.Cmp.{nat_list_eq_equiv}
use Rattle.asm_sign.specs.declared.function.Function.{Function}
use Rattle.asm_sign.specs.Vocabulary.{Vocabulary}
use Rattle.asm_node.specs.Machine.{same_name}
use Rattle.asm_tree.specs.declared.script.RawSet.{RawSet}
use Rattle.name_table.specs.Numbered.{number_of}
use Rattle.asm_bind.specs.Given.{and_then, given, given_by, given_to}

same_names : (x y : List ℕ) → bytes_eq x y ≡ same_name x y
same_names [] [] = refl
same_names [] (d ∷ ds) = refl
same_names (c ∷ cs) [] = refl
same_names (c ∷ cs) (d ∷ ds) = ap (λ b. nat_eq c d && b) (same_names cs ds)

module _ (name : List ℕ) where
  from : (i : ℕ) (fs : List Function) → position_from (λ other. bytes_eq other name) i (map (λ (f : Function). f.name) fs) ≡ position_from (λ (f : Function). same_name name f.name) i fs
  from i [] = refl
  from i (f ∷ fs) =
      ap (λ (b : Truth). cond b (Some i) (position_from (λ other. bytes_eq other name) (i + 1) (map (λ (f : Function). f.name) fs))) (nat_list_eq_equiv.symm f.name name ∙ same_names name f.name)
      ∙ ap (cond (same_name name f.name) (Some i)) (from (i + 1) fs)

  pub number_is : (fs : List Function) → number_of (map (λ (f : Function). f.name) fs) name ≡ position (λ (f : Function). same_name name f.name) fs
  number_is fs =
      position_from-zero (λ other. bytes_eq other name) (map (λ (f : Function). f.name) fs)
      ∙ from 0 fs
      ∙ sym (position_from-zero (λ (f : Function). same_name name f.name) fs)

-- the table finds the function that a setting names
pub found_by : (v : Vocabulary) (set : RawSet) (names : List (List ℕ)) (o : Option ℕ) → names ≡ map (λ (f : Function). f.name) v.functions → o ≡ number_of names set.name.text → and_then o (λ n. given_by v set n) ≡ given v set
found_by v set names o are found =
    ap (λ (p : Option ℕ). and_then p (λ n. given_by v set n))
    (found ∙ ap (λ (texts : List (List ℕ)). number_of texts set.name.text) are ∙ number_is set.name.text v.functions)

-- the function of a number
pub at_number : (v w : Vocabulary) (set : RawSet) (n : ℕ) (o : Option Function) → v ≡ w → slice_get v.functions n ≡ o → and_then o (λ f. given_to v set n f) ≡ given_by w set n
at_number v w set n o same found =
    ap (λ (p : Option Function). and_then p (λ f. given_to v set n f)) (sym found) ∙ ap (λ (u : Vocabulary). given_by u set n) same
