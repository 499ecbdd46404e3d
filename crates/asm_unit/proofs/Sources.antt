-- Files that were added to the sources.
use Rattle.std.proofs.Common.{◌≡◌, ◌∙◌, ℕ, zero, suc, ◌<◌, ◌≤◌, List, [], ◌∷◌, ◌++◌, length, Result, Ok, Err, refl, ap, sym, subst, append_assoc, append-nil, length-append, arith}
use Rattle.std.specs.Prelude.{All, IfErr, IfOk, slice_get, option_map, unwrap_or, Option, Some}
use Rattle.std.proofs.lemmas.List.Elements.{All-append}
use Rattle.asm_source.specs.declared.sources.Source.{Source}
use Rattle.asm_source.specs.Spots.{text_of}
use Rattle.asm_tree.specs.declared.unit.LoadedUnit.{LoadedUnit}
use Rattle.asm_unit.specs.declared.error.LoadError.{LoadError}
use Rattle.asm_unit.specs.declared.error.LoadError.TheVariants.{Absent, TooLong, Read, Lex, Parse, ImportCycle, TooManyFiles, Memory}
use Rattle.asm_unit.specs.Spelled.{tree_of}
use Rattle.asm_unit.proofs.Faults.{InFile}
use Rattle.asm_unit.specs.Loading.{AddsFiles, IsJudged, IsFault, IsOfFile, IsOfOne, AreUnits, Judges}

no_item : {X : Type 0} (P : X → Type 0) → All P []
no_item P = λ k d lt. absurd (omega arith)

one_item : {X : Type 0} (P : X → Type 0) (x : X) → P x → All P (x ∷ [])
one_item P x p zero d lt = p
one_item P x p (suc k) d lt = absurd (omega arith)

pub adds_none : (limit : ℕ) (before now : List Source) → now ≡ before → AddsFiles limit before now
adds_none limit before now same = record { added = []; now_is = same ∙ sym (append-nil before); short = no_item (λ (source : Source). length source.text ≤ limit) }

pub adds_one : (limit : ℕ) (before now : List Source) (source : Source) → length source.text ≤ limit → now ≡ before ++ source ∷ [] → AddsFiles limit before now
adds_one limit before now source short is = record { added = source ∷ []; now_is = is; short = one_item (λ (s : Source). length s.text ≤ limit) source short }

pub adds_then : (limit : ℕ) (before mid now : List Source) → AddsFiles limit before mid → AddsFiles limit mid now → AddsFiles limit before now
adds_then limit before mid now p q = record {
  added = p.added ++ q.added;
  now_is = q.now_is ∙ ap (λ (l : List Source). l ++ q.added) p.now_is ∙ append_assoc before p.added q.added;
  short = All-append (λ (source : Source). length source.text ≤ limit) p.added q.added p.short q.short;
}

-- ---- the text of a file stays

get_front : (xs ys : List Source) (k : ℕ) → k < length xs → slice_get (xs ++ ys) k ≡ slice_get xs k
get_front [] ys k lt = absurd (omega arith)
get_front (x ∷ xs) ys zero lt = refl
get_front (x ∷ xs) ys (suc k) lt = get_front xs ys k (omega arith)

get_last : (xs : List Source) (x : Source) → slice_get (xs ++ x ∷ []) (length xs) ≡ Some x
get_last [] x = refl
get_last (y ∷ xs) x = get_last xs x

pub text_stays : (limit : ℕ) (before now : List Source) (file : ℕ) → AddsFiles limit before now → file < length before → text_of now file ≡ text_of before file
text_stays limit before now file adds lt = ap (λ (l : List Source). text_of l file) adds.now_is ∙ ap (λ (o : Option Source). unwrap_or (option_map (λ (s : Source). s.text) o) []) (get_front before adds.added file lt)

text_last : (before now : List Source) (source : Source) → now ≡ before ++ source ∷ [] → text_of now (length before) ≡ source.text
text_last before now source is = ap (λ (l : List Source). text_of l (length before)) is ∙ ap (λ (o : Option Source). unwrap_or (option_map (λ (s : Source). s.text) o) []) (get_last before source)

more_listed : (limit : ℕ) (before now : List Source) → AddsFiles limit before now → length before ≤ length now
more_listed limit before now adds = omega (arith, ap length adds.now_is, length-append before adds.added)

pub judged_stays : {A : Type 0} (of : ℕ → List ℕ → Result A LoadError) (limit : ℕ) (before now : List Source) (file : ℕ) (r : Result A LoadError) → AddsFiles limit before now → IsJudged of before file r → IsJudged of now file r
judged_stays of limit before now file r adds j = record {
  listed = omega (arith, more_listed limit before now adds, j.listed);
  judged = ap (of file) (text_stays limit before now file adds j.listed) ∙ j.judged;
}

pub units_stay : (limit : ℕ) (before now : List Source) (units : List LoadedUnit) → AddsFiles limit before now → AreUnits before units → AreUnits now units
units_stay limit before now units adds are = λ k d lt. judged_stays tree_of limit before now _ _ adds (are k d lt)

pub units_and : (sources : List Source) (units now : List LoadedUnit) (loaded : LoadedUnit) → AreUnits sources units → IsJudged tree_of sources loaded.file (Ok loaded.unit) → now ≡ units ++ loaded ∷ [] → AreUnits sources now
units_and sources units now loaded are j is =
    subst (λ (us : List LoadedUnit). AreUnits sources us) (sym is)
    (All-append (λ (l : LoadedUnit). IsJudged tree_of sources l.file (Ok l.unit)) units (loaded ∷ []) are (one_item (λ (l : LoadedUnit). IsJudged tree_of sources l.file (Ok l.unit)) loaded j))

pub no_units : (sources : List Source) (units : List LoadedUnit) → units ≡ [] → AreUnits sources units
no_units sources units is = subst (λ (us : List LoadedUnit). AreUnits sources us) (sym is) (no_item (λ (l : LoadedUnit). IsJudged tree_of sources l.file (Ok l.unit)))

pub name_fault : {A : Type 0} (of : ℕ → List ℕ → Result A LoadError) (sources : List Source) (name : List ℕ) (e : LoadError) → IsOfFile name e → IsFault of sources e
name_fault of sources name (Absent n) is = tt
name_fault of sources name (TooLong n) is = tt
name_fault of sources name (Read n) is = tt
name_fault of sources name (Lex place e) is = absurd is
name_fault of sources name (Parse place e) is = absurd is
name_fault of sources name (ImportCycle n) is = absurd is
name_fault of sources name (TooManyFiles n) is = absurd is
name_fault of sources name Memory is = tt

-- a file that isn't read
pub one_unread : (name : List ℕ) (e : LoadError) → IsOfFile name e → IsOfOne name e
one_unread name (Absent n) is = is
one_unread name (TooLong n) is = is
one_unread name (Read n) is = is
one_unread name (Lex place e) is = tt
one_unread name (Parse place e) is = tt
one_unread name (ImportCycle n) is = is
one_unread name (TooManyFiles n) is = is
one_unread name Memory is = tt

-- by an equal name
pub one_renamed : (name full : List ℕ) (e : LoadError) → name ≡ full → IsOfFile name e → IsOfOne full e
one_renamed name full e same is = subst (λ (n : List ℕ). IsOfOne n e) same (one_unread name e is)

pub one_by_name : {A : Type 0} (name full : List ℕ) (r : Result A LoadError) → name ≡ full → IfErr r (IsOfOne name) → IfErr r (IsOfOne full)
one_by_name name full r same is = subst (λ (n : List ℕ). IfErr r (IsOfOne n)) same is

-- a file whose text is at fault
pub one_at_fault : {A : Type 0} (of : ℕ → List ℕ → Result A LoadError) (name : List ℕ) (file : ℕ) (text : List ℕ) → ((e : LoadError) → of file text ≡ Err e → InFile file e) → (r : Result A LoadError) → Judges r (of file text) → IfErr r (IsOfOne name)
one_at_fault of name file text inside (Ok value) j = tt
one_at_fault of name file text inside (Err (Absent n)) j = absurd (inside (Absent n) (j (λ z. cc)))
one_at_fault of name file text inside (Err (TooLong n)) j = absurd (inside (TooLong n) (j (λ z. cc)))
one_at_fault of name file text inside (Err (Read n)) j = absurd (inside (Read n) (j (λ z. cc)))
one_at_fault of name file text inside (Err (Lex place e)) j = tt
one_at_fault of name file text inside (Err (Parse place e)) j = tt
one_at_fault of name file text inside (Err (ImportCycle n)) j = absurd (inside (ImportCycle n) (j (λ z. cc)))
one_at_fault of name file text inside (Err (TooManyFiles n)) j = absurd (inside (TooManyFiles n) (j (λ z. cc)))
one_at_fault of name file text inside (Err Memory) j = tt

-- ---- the file that was read last

module _ {A : Type 0} (of : ℕ → List ℕ → Result A LoadError) (before now : List Source) (source : Source) (is : now ≡ before ++ source ∷ []) where
  last_judged : (r : Result A LoadError) → of (length before) source.text ≡ r → IsJudged of now (length before) r
  last_judged r j = record { listed = omega (arith, ap length is, length-append before (source ∷ [])); judged = ap (of (length before)) (text_last before now source is) ∙ j }

  fault_in : (r : LoadError) (file : ℕ) → file ≡ length before → of (length before) source.text ≡ Err r → IsJudged of now file (Err r)
  fault_in r file same j = subst (λ (n : ℕ). IsJudged of now n (Err r)) (sym same) (last_judged (Err r) j)

  pub last_fault : ((e : LoadError) → of (length before) source.text ≡ Err e → InFile (length before) e) → (r : Result A LoadError) → Judges r (of (length before) source.text) → IfErr r (IsFault of now)
  last_fault inside (Ok value) j = tt
  last_fault inside (Err (Absent name)) j = tt
  last_fault inside (Err (TooLong name)) j = tt
  last_fault inside (Err (Read name)) j = tt
  last_fault inside (Err (Lex place e)) j = let is_err : of (length before) source.text ≡ Err (Lex place e) = j (λ z. cc) in fault_in (Lex place e) place.file (inside (Lex place e) is_err) is_err
  last_fault inside (Err (Parse place e)) j = let is_err : of (length before) source.text ≡ Err (Parse place e) = j (λ z. cc) in fault_in (Parse place e) place.file (inside (Parse place e) is_err) is_err
  last_fault inside (Err (ImportCycle name)) j = tt
  last_fault inside (Err (TooManyFiles name)) j = tt
  last_fault inside (Err Memory) j = tt

  pub last_read : (r : Result A LoadError) → Judges r (of (length before) source.text) → IfOk r (λ value. IsJudged of now (length before) (Ok value))
  last_read (Ok value) j = last_judged (Ok value) j
  last_read (Err e) j = tt
