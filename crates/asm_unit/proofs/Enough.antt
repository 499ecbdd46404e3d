-- More levels than there is room for files change nothing.
use Rattle.std.proofs.Common.{◌≡◌, ◌∙◌, ℕ, zero, suc, ◌+◌, ◌-◌, ◌≤◌, Bool, true, false, if◌then◌else◌, nat_lt, nat_le, List, [], ◌∷◌, ◌++◌, length, Option, Some, None, Result, Ok, Err, refl, ap, arith, length-append}
use Rattle.std.proofs.lemmas.Bool.Decides.{nat_tests}
use Rattle.std.specs.FinMap.{get}
use Rattle.asm_io.specs.Outside.{Files}
use Rattle.asm_source.specs.declared.sources.Source.{Source}
use Rattle.asm_tree.specs.declared.unit.RawPath.{RawPath}
use Rattle.asm_tree.specs.declared.unit.RawUnit.{RawUnit}
use Rattle.asm_unit.specs.declared.error.LoadError.{LoadError}
use Rattle.asm_unit.specs.declared.error.LoadError.TheVariants.{TooLong, TooManyFiles}
use Rattle.asm_unit.specs.Import.{import_name, reads_no_file}
use Rattle.asm_unit.specs.Spelled.{tree_of}
use Rattle.asm_unit.specs.Loading.{Outcome, ended, refused, onward, and_then, held_as, Visit, imports_by, unit_by, met, place_of, visit_by, new_file, most_bytes, most_files, IsFront}
use Rattle.asm_unit.proofs.Outcomes.{Units, VisitGrows, visit_grows, new_file_grows}

-- the same where so many files were read
abbrev AgreeFrom : ℕ → Visit → Visit → Type 0
AgreeFrom n v w = (name : List ℕ) (sources : List Source) (units : Units) → n ≤ length sources → v name sources units ≡ w name sources units

front_long : (xs ys : List Source) → IsFront xs ys → length xs ≤ length ys
front_long xs ys f = omega (arith, ap length f.whole_is, length-append xs f.rest)

-- what comes next may differ where too few files were read
then_same : {A B : Type 0} (n : ℕ) (o : Outcome A) (f g : List Source → A → Outcome B) → n ≤ length o.sources → ((sources : List Source) (value : A) → n ≤ length sources → f sources value ≡ g sources value) → and_then o f ≡ and_then o g
then_same {A} {B} n o f g le same = go o.sources o.end le
  where
    go : (sources : List Source) (end : Result A LoadError) → n ≤ length sources → onward sources end f ≡ onward sources end g
    go sources (Ok value) long = same sources value long
    go sources (Err e) long = refl

choice : (b : Bool) (p q x y : Outcome Units) → p ≡ q → x ≡ y → (if b then p else x) ≡ (if b then q else y)
choice true p q x y e f = e
choice false p q x y e f = f

module _ (n : ℕ) (v w : Visit) (agree : AgreeFrom n v w) (grows : VisitGrows v) where
  imports_same : (from : List ℕ) (paths : List RawPath) (sources : List Source) (units : Units) → n ≤ length sources → imports_by v from paths sources units ≡ imports_by w from paths sources units
  imports_same from [] sources units le = refl
  imports_same from (path ∷ paths) sources units le =
      choice (reads_no_file path) (imports_by v from paths sources units) (imports_by w from paths sources units)
      (and_then (v (import_name from path) sources units) (imports_by v from paths)) (and_then (w (import_name from path) sources units) (imports_by w from paths))
      (imports_same from paths sources units le)
      (then_same n (v (import_name from path) sources units) (imports_by v from paths) (imports_by w from paths)
      (let long : length sources ≤ length (v (import_name from path) sources units).sources = front_long sources (v (import_name from path) sources units).sources (grows (import_name from path) sources units) in omega arith)
      (λ read more le'. imports_same from paths read more le') ∙ ap (λ (o : Outcome Units). and_then o (imports_by w from paths)) (agree (import_name from path) sources units le))

  unit_same : (file : ℕ) (name : List ℕ) (units : Units) (sources : List Source) (unit : RawUnit) → n ≤ length sources → unit_by v file name units sources unit ≡ unit_by w file name units sources unit
  unit_same file name units sources unit le = ap (λ (o : Outcome Units). and_then o (λ read loaded. ended read (loaded ++ record { file = file; unit = unit } ∷ []))) (imports_same name unit.imports sources units le)

  -- one file more is read
  held_same : (name : List ℕ) (sources : List Source) (units : Units) (held : Option (List ℕ)) → n ≤ length sources + 1
      → and_then (held_as tree_of most_bytes name sources held) (unit_by v (length sources) name units) ≡ and_then (held_as tree_of most_bytes name sources held) (unit_by w (length sources) name units)
  held_same name sources units None le = refl
  held_same name sources units (Some text) le = go (nat_lt most_bytes (length text)) (tree_of (length sources) text)
    where
      now : List Source
      now = sources ++ record { name = name; text = text } ∷ []

      go : (b : Bool) (r : Result RawUnit LoadError)
          → and_then (if b then refused {A = RawUnit} sources (TooLong name) else record { sources = sources ++ record { name = name; text = text } ∷ []; end = r }) (unit_by v (length sources) name units)
          ≡ and_then (if b then refused {A = RawUnit} sources (TooLong name) else record { sources = sources ++ record { name = name; text = text } ∷ []; end = r }) (unit_by w (length sources) name units)
      go true r = refl
      go false (Err e) = refl
      go false (Ok unit) = unit_same (length sources) name units (sources ++ record { name = name; text = text } ∷ []) unit (omega (arith, length-append sources (record { name = name; text = text } ∷ [])))

module _ (files : Files) (first : ℕ) where
  visit_same : (n : ℕ) (v w : Visit) → AgreeFrom n v w → AgreeFrom n (visit_by files first v) (visit_by files first w)
  visit_same n v w agree name sources units le = ap (λ (o : Outcome Units). met first (place_of first name sources) name sources units o) (agree name sources units le)

  full : (m : ℕ) → most_files ≤ m → nat_le most_files m ≡ true
  full m le = grind (arith, nat_tests)

  pub enough : (levels : ℕ) → AgreeFrom (first + (most_files - levels)) (new_file files first (suc levels)) (new_file files first levels)
  unfolding new_file
  enough zero name sources units le = rw (full (length sources - first) (omega arith)) refl
  enough (suc levels) name sources units le =
      choice (nat_le most_files (length sources - first)) (refused sources (TooManyFiles name)) (refused sources (TooManyFiles name)) _ _ refl
      (held_same (first + (most_files - levels)) (visit_by files first (new_file files first (suc levels))) (visit_by files first (new_file files first levels))
      (visit_same (first + (most_files - levels)) (new_file files first (suc levels)) (new_file files first levels) (enough levels)) (visit_grows files first (new_file files first (suc levels)) (new_file_grows files first (suc levels)))
      name sources units (get files name) (omega arith))
