-- What comes of reading files, step by step.
use Rattle.std.proofs.Common.{◌≡◌, ◌∙◌, ℕ, zero, suc, ◌+◌, ◌-◌, ◌<◌, ◌≤◌, Bool, true, false, if◌then◌else◌, nat_lt, nat_le, List, [], ◌∷◌, ◌++◌, length, drop, slice_get, get_or, drop-cons, add-one, Option, Some, None, Result, Ok, Err, refl, ap, sym, subst, append_assoc, arith}
use Rattle.std.proofs.lemmas.List.{append-nil}
use Rattle.std.proofs.lemmas.Bool.Decides.{nat_tests}
use Rattle.std.specs.FinMap.{get}
use Rattle.asm_io.specs.Outside.{Files}
use Rattle.asm_source.specs.declared.sources.Source.{Source}
use Rattle.asm_tree.specs.declared.unit.RawPath.{RawPath}
use Rattle.asm_tree.specs.declared.unit.RawUnit.{RawUnit}
use Rattle.asm_tree.specs.declared.unit.LoadedUnit.{LoadedUnit}
use Rattle.asm_unit.specs.declared.error.LoadError.{LoadError}
use Rattle.asm_unit.specs.declared.error.LoadError.TheVariants.{Absent, TooLong, Read, Lex, Parse, ImportCycle, TooManyFiles, Memory}
use Rattle.asm_unit.specs.Import.{import_name, reads_no_file}
use Rattle.asm_unit.specs.Spelled.{tree_of}
use Rattle.asm_unit.specs.Loading.{Outcome, ended, refused, onward, and_then, held_as, Visit, imports_by, unit_by, met, place_of, visit_by, opened_by, new_file, most_bytes, most_files, IsFront, asked_by, of_end, Judges, ReadsText, Fails, Follows, OnRead, is_full}

-- ---- fronts

pub front_same : (xs : List Source) → IsFront xs xs
front_same xs = record { rest = []; whole_is = sym (append-nil xs) }

pub front_then : (xs ys zs : List Source) → IsFront xs ys → IsFront ys zs → IsFront xs zs
front_then xs ys zs p q = record { rest = p.rest ++ q.rest; whole_is = q.whole_is ∙ ap (λ l. l ++ q.rest) p.whole_is ∙ append_assoc xs p.rest q.rest }

front_push : (xs : List Source) (x : Source) → IsFront xs (xs ++ x ∷ [])
front_push xs x = record { rest = x ∷ []; whole_is = refl }

-- ---- no step takes files back

pub then_grows : {A B : Type 0} (o : Outcome A) (next : List Source → A → Outcome B) → ((sources : List Source) (value : A) → IsFront sources (next sources value).sources) → IsFront o.sources (and_then o next).sources
then_grows {A} {B} o next grows = go o.sources o.end
  where
    go : (sources : List Source) (end : Result A LoadError) → IsFront sources (onward sources end next).sources
    go sources (Ok value) = grows sources value
    go sources (Err e) = front_same sources

pub held_grows : {A : Type 0} (of : ℕ → List ℕ → Result A LoadError) (limit : ℕ) (name : List ℕ) (sources : List Source) (held : Option (List ℕ)) → IsFront sources (held_as of limit name sources held).sources
held_grows of limit name sources None = front_same sources
held_grows {A} of limit name sources (Some text) = go (nat_lt limit (length text))
  where
    go : (b : Bool) → IsFront sources (if b then refused {A = A} sources (TooLong name) else record { sources = sources ++ record { name = name; text = text } ∷ []; end = of (length sources) text }).sources
    go true = front_same sources
    go false = front_push sources (record { name = name; text = text })

abbrev pub VisitGrows : Visit → Type 0
VisitGrows visit = (name : List ℕ) (sources : List Source) (units : List LoadedUnit) → IsFront sources (visit name sources units).sources

abbrev pub Units : Type 0
Units = List LoadedUnit

import_grows : (b : Bool) (one : Outcome Units) (rest : List Source → Units → Outcome Units) (sources : List Source) (units : Units) → IsFront sources one.sources → ((read : List Source) (more : Units) → IsFront read (rest read more).sources)
    → IsFront sources (if b then rest sources units else and_then one rest).sources
import_grows true one rest sources units grows tail = tail sources units
import_grows false one rest sources units grows tail = front_then sources one.sources (and_then one rest).sources grows (then_grows one rest tail)

pub imports_grow : (visit : Visit) → VisitGrows visit → (from : List ℕ) (paths : List RawPath) (sources : List Source) (units : Units) → IsFront sources (imports_by visit from paths sources units).sources
imports_grow visit grows from [] sources units = front_same sources
imports_grow visit grows from (path ∷ paths) sources units = import_grows (reads_no_file path) (visit (import_name from path) sources units) (imports_by visit from paths) sources units (grows (import_name from path) sources units) (λ read more. imports_grow visit grows from paths read more)

pub unit_grows : (visit : Visit) → VisitGrows visit → (file : ℕ) (name : List ℕ) (units : Units) (sources : List Source) (unit : RawUnit) → IsFront sources (unit_by visit file name units sources unit).sources
unit_grows visit grows file name units sources unit =
    let inner : Outcome Units = imports_by visit name unit.imports sources units in
    let last : List Source → Units → Outcome Units = λ read loaded. ended read (loaded ++ record { file = file; unit = unit } ∷ []) in
    front_then sources inner.sources (and_then inner last).sources (imports_grow visit grows name unit.imports sources units) (then_grows inner last (λ read loaded. front_same read))

module _ (files : Files) (first : ℕ) where
  pub visit_grows : (new : Visit) → VisitGrows new → VisitGrows (visit_by files first new)
  visit_grows new grows name sources units = go (place_of first name sources)
    where
      go : (place : Option ℕ) → IsFront sources (met first place name sources units (new name sources units)).sources
      go (Some k) = front_same sources
      go None = grows name sources units

  opened_grows : (visit : Visit) → VisitGrows visit → VisitGrows (opened_by files first visit)
  opened_grows visit grows name sources units = go (nat_le most_files (length sources - first))
    where
      go : (b : Bool) → IsFront sources (if b then refused {A = Units} sources (TooManyFiles name) else and_then (held_as tree_of most_bytes name sources (get files name)) (unit_by visit (length sources) name units)).sources
      go true = front_same sources
      go false =
          front_then sources (held_as tree_of most_bytes name sources (get files name)).sources (and_then (held_as tree_of most_bytes name sources (get files name)) (unit_by visit (length sources) name units)).sources
          (held_grows tree_of most_bytes name sources (get files name))
          (then_grows (held_as tree_of most_bytes name sources (get files name)) (unit_by visit (length sources) name units) (λ read unit. unit_grows visit grows (length sources) name units read unit))

  pub new_file_grows : (levels : ℕ) → VisitGrows (new_file files first levels)
  unfolding new_file
  new_file_grows zero name sources units = front_same sources
  new_file_grows (suc levels) name sources units = opened_grows (visit_by files first (new_file files first levels)) (visit_grows (new_file files first levels) (new_file_grows levels)) name sources units

-- ---- how calls follow what is defined

-- the file after the last
get_past : (xs : List Source) → slice_get xs (length xs) ≡ None
get_past [] = refl
get_past (x ∷ xs) = get_past xs

get_next : (xs : List Source) (x : Source) → slice_get (xs ++ x ∷ []) (length xs) ≡ Some x
get_next [] x = refl
get_next (y ∷ xs) x = get_next xs x

get_within : (xs ys : List Source) (k : ℕ) (x : Source) → slice_get xs k ≡ Some x → slice_get (xs ++ ys) k ≡ Some x
get_within [] ys k x is = absurd (cc is)
get_within (y ∷ xs) ys zero x is = is
get_within (y ∷ xs) ys (suc k) x is = get_within xs ys k x is

-- what is asked for next is so also where more follows
still_asked : {A B : Type 0} (sources : List Source) (end : Result A LoadError) (next : List Source → A → Outcome B) (now : List Source) (name : List ℕ) → ((read : List Source) (value : A) → IsFront read (next read value).sources)
    → asked_by end (slice_get sources (length now)) ≡ Some name → asked_by (onward sources end next).end (slice_get (onward sources end next).sources (length now)) ≡ Some name
still_asked sources (Err e) next now name grows is = is
still_asked sources (Ok value) next now name grows is = by (slice_get sources (length now)) refl is
  where
    by : (o : Option Source) → slice_get sources (length now) ≡ o → asked_by (Ok value) o ≡ Some name → asked_by (next sources value).end (slice_get (next sources value).sources (length now)) ≡ Some name
    by None at is = absurd (cc is)
    by (Some s) at is =
        ap (λ (l : List Source). asked_by (next sources value).end (slice_get l (length now))) (grows sources value).whole_is
        ∙ ap (asked_by (next sources value).end) (get_within sources (grows sources value).rest (length now) s at) ∙ is

-- one file is asked for by its name
held_asked : {A : Type 0} (of : ℕ → List ℕ → Result A LoadError) (limit : ℕ) (name : List ℕ) (sources : List Source) (held : Option (List ℕ)) → asked_by (held_as of limit name sources held).end (slice_get (held_as of limit name sources held).sources (length sources)) ≡ Some name
held_asked {A} of limit name sources None = ap (asked_by {A = A} (Err (Absent name))) (get_past sources)
held_asked {A} of limit name sources (Some text) = by (nat_lt limit (length text))
  where
    file : Source
    file = record { name = name; text = text }

    both : Bool → Outcome A
    both b = if b then refused sources (TooLong name) else record { sources = sources ++ file ∷ []; end = of (length sources) text }

    by : (b : Bool) → asked_by {A = A} (both b).end (slice_get (both b).sources (length sources)) ≡ Some name
    by true = ap (asked_by {A = A} (Err (TooLong name))) (get_past sources)
    by false = ap (asked_by {A = A} (of (length sources) text)) (get_next sources file)

pub then_fails : {A B : Type 0} (o : Outcome A) (next : List Source → A → Outcome B) (now : List Source) (e : LoadError) → ((sources : List Source) (value : A) → IsFront sources (next sources value).sources) → Fails o now e → Fails (and_then o next) now e
then_fails o next now (Absent name) grows is = ap (λ x. and_then x next) is
then_fails o next now (TooLong name) grows is = ap (λ x. and_then x next) is
then_fails o next now (Read name) grows is = record { front = front_then now o.sources (and_then o next).sources is.front (then_grows o next grows); asked = still_asked o.sources o.end next now name grows is.asked }
then_fails o next now (Lex place e) grows is = ap (λ x. and_then x next) is
then_fails o next now (Parse place e) grows is = ap (λ x. and_then x next) is
then_fails o next now (ImportCycle name) grows is = ap (λ x. and_then x next) is
then_fails o next now (TooManyFiles name) grows is = ap (λ x. and_then x next) is
then_fails o next now Memory grows is = front_then now o.sources (and_then o next).sources is (then_grows o next grows)

pub then_follows : {A B : Type 0} (o : Outcome A) (next : List Source → A → Outcome B) (mid now : List Source) (value : A) (r : Result B LoadError) → o ≡ ended mid value → Follows (next mid value) now r → Follows (and_then o next) now r
then_follows o next mid now value r is f = subst (λ x. Follows x now r) (sym (ap (λ x. and_then x next) is)) f

within : (n m : ℕ) → m ≤ n → nat_lt n m ≡ false
within n m le = grind (arith, nat_tests)

over : (n m : ℕ) → n < m → nat_lt n m ≡ true
over n m lt = grind (arith, nat_tests)

-- a call that read no text
pub text_fails : {A : Type 0} (of : ℕ → List ℕ → Result A LoadError) (limit : ℕ) (name : List ℕ) (sources : List Source) (held : Option (List ℕ)) (e : LoadError) → ReadsText limit name held (Err e) → Fails (held_as of limit name sources held) sources e
text_fails of limit name sources held (Absent n) is = rw is.1 (ap (λ (x : List ℕ). refused sources (Absent x)) (sym is.0))
text_fails of limit name sources held (TooLong n) is =
    rw is.1.1 (rw (over limit (length is.1.0) is.1.2) (ap (λ (x : List ℕ). refused sources (TooLong x)) (sym is.0)))
text_fails of limit name sources held (Read n) is = record { front = held_grows of limit name sources held; asked = held_asked of limit name sources held ∙ ap Some (sym is) }
text_fails of limit name sources held (Lex place e) is = absurd is
text_fails of limit name sources held (Parse place e) is = absurd is
text_fails of limit name sources held (ImportCycle n) is = absurd is
text_fails of limit name sources held (TooManyFiles n) is = absurd is
text_fails of limit name sources held Memory is = held_grows of limit name sources held

module _ {A : Type 0} (of : ℕ → List ℕ → Result A LoadError) (limit : ℕ) (name text : List ℕ) (sources : List Source) where
  abbrev with_file : List Source
  with_file = sources ++ record { name = name; text = text } ∷ []

  abbrev judged_so : Outcome A
  judged_so = record { sources = with_file; end = of (length sources) text }

  judged : (r : Result A LoadError) → Judges r (of (length sources) text) → Follows judged_so with_file r
  judged (Ok value) j = ap (λ (x : Result A LoadError). record { sources = with_file; end = x }) j
  judged (Err (Absent n)) j = ap (λ (x : Result A LoadError). record { sources = with_file; end = x }) (j (λ z. cc))
  judged (Err (TooLong n)) j = ap (λ (x : Result A LoadError). record { sources = with_file; end = x }) (j (λ z. cc))
  judged (Err (Read n)) j = record { front = front_same with_file; asked = ap (λ (o : Option Source). asked_by (of (length sources) text) o) (get_past with_file) ∙ ap of_end (j (λ z. cc)) }
  judged (Err (Lex place e)) j = ap (λ (x : Result A LoadError). record { sources = with_file; end = x }) (j (λ z. cc))
  judged (Err (Parse place e)) j = ap (λ (x : Result A LoadError). record { sources = with_file; end = x }) (j (λ z. cc))
  judged (Err (ImportCycle n)) j = ap (λ (x : Result A LoadError). record { sources = with_file; end = x }) (j (λ z. cc))
  judged (Err (TooManyFiles n)) j = ap (λ (x : Result A LoadError). record { sources = with_file; end = x }) (j (λ z. cc))
  judged (Err Memory) j = front_same with_file

  -- a call that read a text
  pub text_follows : (held : Option (List ℕ)) (now : List Source) (r : Result A LoadError) → held ≡ Some text → length text ≤ limit → now ≡ with_file → Judges r (of (length sources) text) → Follows (held_as of limit name sources held) now r
  text_follows held now r is short added j = rw is (rw (within limit (length text) short) (subst (λ (s : List Source). Follows judged_so s r) (sym added) (judged r j)))

-- the same of an equal name
pub renamed : {A : Type 0} (of : ℕ → List ℕ → Result A LoadError) (limit : ℕ) (files : Files) (sources now : List Source) (name full : List ℕ) (r : Result A LoadError) → name ≡ full → Follows (held_as of limit name sources (get files name)) now r → Follows (held_as of limit full sources (get files full)) now r
renamed of limit files sources now name full r same f = subst (λ (n : List ℕ). Follows (held_as of limit n sources (get files n)) now r) same f

pub judges_same : {A : Type 0} (of : ℕ → List ℕ → Result A LoadError) (r : Result A LoadError) (number file : ℕ) (held text : List ℕ) → number ≡ file → held ≡ text → Judges r (of number held) → Judges r (of file text)
judges_same of r number file held text p q j = subst (λ (n : ℕ). Judges r (of n text)) p (subst (λ (t : List ℕ). Judges r (of number t)) q j)

-- a call that changed nothing before memory ran out
pub memory_fails : {A : Type 0} (of : ℕ → List ℕ → Result A LoadError) (limit : ℕ) (name : List ℕ) (sources now : List Source) (held : Option (List ℕ)) → now ≡ sources → Fails (held_as of limit name sources held) now Memory
memory_fails of limit name sources now held same = subst (λ (s : List Source). IsFront s (held_as of limit name sources held).sources) (sym same) (held_grows of limit name sources held)

-- ---- the imports that are left

module _ (visit : Visit) (from : List ℕ) where
  at_import : (paths : List RawPath) (i : ℕ) (path d : RawPath) (sources : List Source) (units : Units) → i < length paths → path ≡ get_or paths i d
      → imports_by visit from (drop i paths) sources units ≡ imports_by visit from (path ∷ drop (i + 1) paths) sources units
  at_import paths i path d sources units lt is =
      let whole : drop i paths ≡ get_or paths i d ∷ drop (i + 1) paths = rw add-one (drop-cons paths i d lt) in
      let same : drop i paths ≡ path ∷ drop (i + 1) paths = whole ∙ ap (λ (p : RawPath). p ∷ drop (i + 1) paths) (sym is) in
      ap (λ (ps : List RawPath). imports_by visit from ps sources units) same

  choice : (b t : Bool) (x y z : Outcome Units) → b ≡ t → (if t then x else y) ≡ z → (if b then x else y) ≡ z
  choice b t x y z is h = subst (λ (v : Bool). (if v then x else y) ≡ z) (sym is) h

  pub import_skipped : (paths : List RawPath) (i : ℕ) (path d : RawPath) (sources : List Source) (units : Units) → i < length paths → path ≡ get_or paths i d → reads_no_file path ≡ true
      → imports_by visit from (drop (i + 1) paths) sources units ≡ imports_by visit from (drop i paths) sources units
  import_skipped paths i path d sources units lt is test =
      sym (at_import paths i path d sources units lt is ∙ choice (reads_no_file path) true (imports_by visit from (drop (i + 1) paths) sources units) (and_then (visit (import_name from path) sources units) (imports_by visit from (drop (i + 1) paths))) (imports_by visit from (drop (i + 1) paths) sources units) test refl)

  after_import : (paths : List RawPath) (i : ℕ) (path d : RawPath) (sources : List Source) (units : Units) → i < length paths → path ≡ get_or paths i d → reads_no_file path ≡ false
      → imports_by visit from (drop i paths) sources units ≡ and_then (visit (import_name from path) sources units) (imports_by visit from (drop (i + 1) paths))
  after_import paths i path d sources units lt is test =
      at_import paths i path d sources units lt is ∙ choice (reads_no_file path) false (imports_by visit from (drop (i + 1) paths) sources units) (and_then (visit (import_name from path) sources units) (imports_by visit from (drop (i + 1) paths))) (and_then (visit (import_name from path) sources units) (imports_by visit from (drop (i + 1) paths))) test refl

  pub import_loaded : (paths : List RawPath) (i : ℕ) (path d : RawPath) (name : List ℕ) (sources now : List Source) (units more : Units) → i < length paths → path ≡ get_or paths i d → reads_no_file path ≡ false → name ≡ import_name from path
      → visit name sources units ≡ ended now more → imports_by visit from (drop (i + 1) paths) now more ≡ imports_by visit from (drop i paths) sources units
  import_loaded paths i path d name sources now units more lt is test named done =
      let there : visit (import_name from path) sources units ≡ ended now more = ap (λ (n : List ℕ). visit n sources units) (sym named) ∙ done in
      sym (after_import paths i path d sources units lt is test ∙ ap (λ (o : Outcome Units). and_then o (imports_by visit from (drop (i + 1) paths))) there)

  pub import_fails : VisitGrows visit → (paths : List RawPath) (i : ℕ) (path d : RawPath) (name : List ℕ) (sources now : List Source) (units : Units) (e : LoadError) → i < length paths → path ≡ get_or paths i d → reads_no_file path ≡ false → name ≡ import_name from path
      → Fails (visit name sources units) now e → Fails (imports_by visit from (drop i paths) sources units) now e
  import_fails grows paths i path d name sources now units e lt is test named f =
      let there : Fails (visit (import_name from path) sources units) now e = subst (λ (n : List ℕ). Fails (visit n sources units) now e) named f in
      subst (λ (o : Outcome Units). Fails o now e) (sym (after_import paths i path d sources units lt is test)) (then_fails (visit (import_name from path) sources units) (imports_by visit from (drop (i + 1) paths)) now e (λ read more. imports_grow visit grows from (drop (i + 1) paths) read more) there)

-- a failure of what is left is one of the whole
pub fails_as : {A : Type 0} (o p : Outcome A) (now : List Source) (e : LoadError) → o ≡ p → Fails o now e → Fails p now e
fails_as o p now e is f = subst (λ (x : Outcome _). Fails x now e) is f

-- ---- a new file

module _ (files : Files) (first : ℕ) where
  pub new_file_full : (levels : ℕ) (name : List ℕ) (sources : List Source) (units : Units) (count : ℕ) → count ≡ length sources - first → is_full levels count ≡ true → new_file files first levels name sources units ≡ refused sources (TooManyFiles name)
  unfolding new_file
  new_file_full zero name sources units count is full = refl
  new_file_full (suc levels) name sources units count is full = rw (ap (nat_le most_files) (sym is) ∙ full) refl

  pub new_file_opened : (levels : ℕ) (name : List ℕ) (sources : List Source) (units : Units) (count : ℕ) → count ≡ length sources - first → is_full levels count ≡ false
      → new_file files first levels name sources units ≡ and_then (held_as tree_of most_bytes name sources (get files name)) (unit_by (visit_by files first (new_file files first (levels - 1))) (length sources) name units)
  unfolding new_file
  new_file_opened zero name sources units count is free = absurd (cc)
  new_file_opened (suc levels) name sources units count is free =
      let less : levels ≡ suc levels - 1 = omega arith in
      rw (ap (nat_le most_files) (sym is) ∙ free) (ap (λ (n : ℕ). and_then (held_as tree_of most_bytes name sources (get files name)) (unit_by (visit_by files first (new_file files first n)) (length sources) name units)) less)

module _ (files : Files) (first levels : ℕ) (name : List ℕ) (sources : List Source) (units : Units) (count : ℕ) (counted : count ≡ length sources - first) (free : is_full levels count ≡ false) where
  abbrev inner : Visit
  inner = visit_by files first (new_file files first (levels - 1))

  inner_grows : VisitGrows inner
  inner_grows = visit_grows files first (new_file files first (levels - 1)) (new_file_grows files first (levels - 1))

  abbrev held : Outcome RawUnit
  held = held_as tree_of most_bytes name sources (get files name)

  opened : new_file files first levels name sources units ≡ and_then held (unit_by inner (length sources) name units)
  opened = new_file_opened files first levels name sources units count counted free

  -- the file has a fault
  pub file_fails : (now : List Source) (e : LoadError) → Fails held now e → Fails (new_file files first levels name sources units) now e
  file_fails now e f =
      fails_as (and_then held (unit_by inner (length sources) name units)) (new_file files first levels name sources units) now e (sym opened)
      (then_fails held (unit_by inner (length sources) name units) now e (λ read unit. unit_grows inner inner_grows (length sources) name units read unit) f)

  module _ (mid : List Source) (unit : RawUnit) (paths : List RawPath) (read : held ≡ ended mid unit) (are : paths ≡ unit.imports) where
    abbrev last : List Source → Units → Outcome Units
    last = λ now loaded. ended now (loaded ++ record { file = length sources; unit = unit } ∷ [])

    opened_then : new_file files first levels name sources units ≡ and_then (imports_by inner name paths mid units) last
    opened_then = opened ∙ ap (λ (o : Outcome RawUnit). and_then o (unit_by inner (length sources) name units)) read ∙ ap (λ (ps : List RawPath). and_then (imports_by inner name ps mid units) last) (sym are)

    -- its imports have a fault
    pub imports_fail : (now : List Source) (e : LoadError) → Fails (imports_by inner name paths mid units) now e → Fails (new_file files first levels name sources units) now e
    imports_fail now e f = fails_as (and_then (imports_by inner name paths mid units) last) (new_file files first levels name sources units) now e (sym opened_then) (then_fails (imports_by inner name paths mid units) last now e (λ read loaded. front_same read) f)

    -- all is loaded
    pub all_loaded : (now : List Source) (more : Units) → imports_by inner name paths mid units ≡ ended now more → new_file files first levels name sources units ≡ ended now (more ++ record { file = length sources; unit = unit } ∷ [])
    all_loaded now more done = opened_then ∙ ap (λ (o : Outcome Units). and_then o last) done

    pub memory_after : (now : List Source) (more : Units) → imports_by inner name paths mid units ≡ ended now more → Fails (new_file files first levels name sources units) now Memory
    memory_after now more done = subst (λ (o : Outcome Units). IsFront now o.sources) (sym (all_loaded now more done)) (front_same now)

pub pushed : (units now : Units) (file number : ℕ) (u v : RawUnit) → now ≡ units ++ record { file = file; unit = u } ∷ [] → file ≡ number → u ≡ v → units ++ record { file = number; unit = v } ∷ [] ≡ now
pushed units now file number u v is p q = sym (is ∙ ap (λ (n : ℕ). units ++ record { file = n; unit = u } ∷ []) p ∙ ap (λ (w : RawUnit). units ++ record { file = number; unit = w } ∷ []) q)

-- ---- the whole call

pub units_follow : (files : Files) (sources now : List Source) (count : ℕ) (name full : List ℕ) (units : Units) (r : Result Units LoadError) → count ≡ length sources → name ≡ full → units ≡ []
    → Follows (new_file files count most_files name sources units) now r → Follows (new_file files (length sources) most_files full sources []) now r
units_follow files sources now count name full units r p q n f =
    subst (λ (k : ℕ). Follows (new_file files k most_files full sources []) now r) p
    (subst (λ (m : List ℕ). Follows (new_file files count most_files m sources []) now r) q
    (subst (λ (us : Units). Follows (new_file files count most_files name sources us) now r) n f))

-- ---- faults of the shelf

pub on_read : (e : LoadError) (P Q : Type 0) → (P → Q) → OnRead e P → OnRead e Q
on_read (Absent name) P Q f p = tt
on_read (TooLong name) P Q f p = tt
on_read (Read name) P Q f p = f p
on_read (Lex place e) P Q f p = tt
on_read (Parse place e) P Q f p = tt
on_read (ImportCycle name) P Q f p = tt
on_read (TooManyFiles name) P Q f p = tt
on_read Memory P Q f p = tt
