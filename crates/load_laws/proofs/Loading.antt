-- What loading keeps, step by step.
use Rattle.std.proofs.Common.{◌≡◌, ◌≢◌, ◌∙◌, ◌⊎◌, inl, inr, ⊎_elim, ℕ, zero, suc, ◌+◌, ◌-◌, ◌<◌, ◌≤◌, Bool, true, false, ◌||◌, ◌==◌, if◌then◌else◌, nat_lt, nat_le, List, [], ◌∷◌, ◌++◌, length, drop, slice_get, get_or, get_or-drop, length-drop, length-append, append_assoc, All, bytes_eq, cond, Option, Some, None, Result, Ok, Err, refl, ap, sym, subst, arith, true≢false, position}
use Rattle.std.proofs.lemmas.List.{append-nil, get_or_push}
use Rattle.std.proofs.lemmas.List.Elements.{All-append}
use Rattle.std.proofs.lemmas.List.Folds.{list_any-append, list_any_none}
use Rattle.std.proofs.lemmas.List.Quantifiers.{position-Some}
use Rattle.std.proofs.lemmas.Bool.{eqb-true, cases_lt}
use Rattle.std.proofs.lemmas.Bool.Decides.{nat_tests}
use Rattle.std.proofs.lemmas.Slice.Eq.{bytes_eq-Decides}
use Rattle.std.specs.List.{list_any, position_from}
use Rattle.std.specs.FinMap.{get}
use Rattle.std.proofs.lemmas.Iterator.Adapters.{position_from-zero}
use Rattle.asm_io.specs.Outside.{Files}
use Rattle.asm_source.specs.declared.sources.Source.{Source}
use Rattle.asm_tree.specs.declared.unit.RawPath.{RawPath}
use Rattle.asm_tree.specs.declared.unit.RawUnit.{RawUnit}
use Rattle.asm_tree.specs.declared.unit.LoadedUnit.{LoadedUnit}
use Rattle.asm_unit.specs.declared.error.LoadError.{LoadError}
use Rattle.asm_unit.specs.declared.error.LoadError.TheVariants.{Absent, TooLong, Read, Lex, Parse, ImportCycle, TooManyFiles, Memory}
use Rattle.asm_unit.specs.Import.{import_name, reads_no_file}
use Rattle.asm_unit.specs.Path.{normalised}
use Rattle.asm_unit.specs.Spelled.{tree_of}
use Rattle.asm_unit.specs.Loading.{Outcome, ended, refused, onward, and_then, held_as, Visit, imports_by, unit_by, is_loaded, met, place_of, visit_by, new_file, units_in, most_bytes, most_files, IsFront}
use Rattle.asm_unit.proofs.Faults.{InFile, tree_in_file}
use Rattle.asm_unit.proofs.Outcomes.{Units, VisitGrows, visit_grows, new_file_grows, imports_grow, then_grows, front_same, front_then}
use Rattle.load_laws.specs.Importing.{Holds, Imports, Leads, Reaches, ImportsAtLast, name_at, has_unit, StandsBehind, StandInOrder, EndsWith, AreReached, IsOneTooMany, IsOnCycle}

-- ---- ways along imports

reaches_itself : (files : Files) (from name : List ℕ) → from ≡ name → Reaches files from name
unfolding Leads
reaches_itself files from name e = record { count = 0; leads = e }

one_more : (files : Files) (from mid name : List ℕ) → Reaches files from mid → Imports files mid name → ImportsAtLast files from name
unfolding Leads
one_more files from mid name r i = record { count = r.count; leads = (mid, r.leads, i) }

at_last_reaches : (files : Files) (from name : List ℕ) → ImportsAtLast files from name → Reaches files from name
at_last_reaches files from name r = record { count = suc r.count; leads = r.leads }

-- ---- what holds before and after

-- the files, how many were read for others, the name of the model, and the names of the files by their numbers
pub record Frame : Type 0 where
  pub files : Files
  pub first : ℕ
  pub start : List ℕ
  pub named : ℕ → List ℕ

-- the names are those of the sources
abbrev pub Agrees : Frame → List Source → Type 0
Agrees w sources = (k : ℕ) (d : Source) → k < length sources → (get_or sources k d).name ≡ w.named k

pub record Sound (w : Frame) (n : ℕ) : Type 0 where
  reached : (g : ℕ) → w.first ≤ g → g < n → Reaches w.files w.start (w.named g)
  apart : (g h : ℕ) → w.first ≤ g → g < h → h < n → w.named g ≢ w.named h

pub record InRange (w : Frame) (n : ℕ) (u : LoadedUnit) : Type 0 where
  from : w.first ≤ u.file
  below : u.file < n

pub record Listed (w : Frame) (n : ℕ) (units : Units) : Type 0 where
  within : All (InRange w n) units
  order : StandInOrder w.named [] units

-- no file that was read has this name
abbrev pub Fresh : Frame → ℕ → List ℕ → Type 0
Fresh w n name = (g : ℕ) → w.first ≤ g → g < n → w.named g ≢ name

pub record Before (w : Frame) (levels n : ℕ) (units : Units) : Type 0 where
  behind : w.first ≤ n
  room : most_files ≤ levels + (n - w.first)
  sound : Sound w n
  listed : Listed w n units

-- imports lead from each file that is being loaded to this name
abbrev pub Opens : Frame → ℕ → Units → List ℕ → Type 0
Opens w n units name = (g : ℕ) → w.first ≤ g → g < n → is_loaded g units ≡ false → ImportsAtLast w.files (w.named g) name

pub record Loads (w : Frame) (n m : ℕ) (units more : Units) : Type 0 where
  listed : Listed w m more
  kept : (p : LoadedUnit → Bool) → list_any p units ≡ true → list_any p more ≡ true
  calm : (g : ℕ) → g < n → is_loaded g units ≡ false → is_loaded g more ≡ false
  wholly : (g : ℕ) → n ≤ g → g < m → is_loaded g more ≡ true

pub record Fills (w : Frame) (m : ℕ) (name : List ℕ) : Type 0 where
  full : most_files ≤ m - w.first
  reached : Reaches w.files w.start name
  fresh : Fresh w m name

abbrev pub EndsBy : Frame → (Units → Type 0) → ℕ → ℕ → Units → Result Units LoadError → Type 0
EndsBy w P n m units (Ok more) = Loads w n m units more × P more
EndsBy w P n m units (Err (Absent name)) = Reaches w.files w.start name
EndsBy w P n m units (Err (TooLong name)) = Reaches w.files w.start name
EndsBy w P n m units (Err (Read name)) = Unit {0}
EndsBy w P n m units (Err (Lex place e)) = Unit {0}
EndsBy w P n m units (Err (Parse place e)) = Unit {0}
EndsBy w P n m units (Err (ImportCycle name)) = IsOnCycle w.files w.start name
EndsBy w P n m units (Err (TooManyFiles name)) = Fills w m name
EndsBy w P n m units (Err Memory) = Unit {0}

pub record Ends (w : Frame) (P : Units → Type 0) (n : ℕ) (units : Units) (o : Outcome Units) : Type 0 where
  longer : n ≤ length o.sources
  sound : Sound w (length o.sources)
  end : EndsBy w P n (length o.sources) units o.end

abbrev pub HasName : Frame → List ℕ → Units → Type 0
HasName w name more = has_unit w.named more name ≡ true

pub record IsLast (w : Frame) (n : ℕ) (name : List ℕ) (more : Units) : Type 0 where
  earlier : Units
  unit : RawUnit
  are : more ≡ earlier ++ record { file = n; unit = unit } ∷ []
  named : w.named n ≡ name

abbrev pub VisitEnds : Frame → ℕ → Visit → Type 0
VisitEnds w levels v = (name : List ℕ) (sources : List Source) (units : Units) → Agrees w (v name sources units).sources → Before w levels (length sources) units → Opens w (length sources) units name → Reaches w.files w.start name → Ends w (HasName w name) (length sources) units (v name sources units)

abbrev pub NewEnds : Frame → ℕ → Visit → Type 0
NewEnds w levels v = (name : List ℕ) (sources : List Source) (units : Units) → Agrees w (v name sources units).sources → Before w levels (length sources) units → Opens w (length sources) units name → Reaches w.files w.start name → Fresh w (length sources) name → Ends w (IsLast w (length sources) name) (length sources) units (v name sources units)

-- ---- lists

bool_case : (b : Bool) → (b ≡ true) ⊎ (b ≡ false)
bool_case true = inl refl
bool_case false = inr refl

both : (b : Bool) {A : Type 0} → b ≡ true → b ≡ false → A
both b t f = absurd (true≢false (sym t ∙ f))

or_left : (a b : Bool) → a ≡ true → (a || b) ≡ true
or_left true b e = refl
or_left false b e = absurd (true≢false (sym e))

or_right : (a b : Bool) → b ≡ true → (a || b) ≡ true
or_right true b e = refl
or_right false b e = e

or_none : (a b : Bool) → a ≡ false → b ≡ false → (a || b) ≡ false
or_none true b e f = e
or_none false b e f = f

no_item : {X : Type 0} (P : X → Type 0) → All P []
no_item P = λ k d lt. absurd (omega (arith, lt))

one_item : {X : Type 0} (P : X → Type 0) (x : X) → P x → All P (x ∷ [])
one_item P x p zero d lt = p
one_item P x p (suc k) d lt = absurd (omega (arith, lt))

first_item : {X : Type 0} (P : X → Type 0) (x : X) (xs : List X) → P x → All P xs → All P (x ∷ xs)
first_item P x xs p all zero d lt = p
first_item P x xs p all (suc k) d lt = all k d (omega (arith, lt))

any_implies : {X : Type 0} (p q : X → Bool) (xs : List X) → ((x : X) → p x ≡ true → q x ≡ true) → list_any p xs ≡ true → list_any q xs ≡ true
any_implies p q [] f e = e
any_implies p q (x ∷ xs) f e = by (any_implies p q xs f) (p x) refl e
  where
    by : (list_any p xs ≡ true → list_any q xs ≡ true) → (b : Bool) → p x ≡ b → (b || list_any p xs) ≡ true → (q x || list_any q xs) ≡ true
    by ih true t h = or_left (q x) (list_any q xs) (f x t)
    by ih false t h = or_right (q x) (list_any q xs) (ih h)

none_each : {X : Type 0} (p : X → Bool) (xs : List X) → list_any p xs ≡ false → All (λ x. p x ≡ false) xs
none_each p [] e = no_item (λ x. p x ≡ false)
none_each p (x ∷ xs) e = by (none_each p xs) (p x) refl e
  where
    by : (list_any p xs ≡ false → All (λ y. p y ≡ false) xs) → (b : Bool) → p x ≡ b → (b || list_any p xs) ≡ false → All (λ y. p y ≡ false) (x ∷ xs)
    by ih true t h = absurd (true≢false h)
    by ih false t h = first_item (λ y. p y ≡ false) x xs t (ih h)

none_from : {X : Type 0} (t : X → Bool) (i : ℕ) (xs : List X) → position_from t i xs ≡ None → All (λ x. t x ≡ false) xs
none_from t i [] e = no_item (λ x. t x ≡ false)
none_from t i (x ∷ xs) e = by (none_from t (i + 1) xs) (t x) refl e
  where
    by : (position_from t (i + 1) xs ≡ None → All (λ y. t y ≡ false) xs) → (b : Bool) → t x ≡ b → cond b (Some i) (position_from t (i + 1) xs) ≡ None → All (λ y. t y ≡ false) (x ∷ xs)
    by ih true is h = absurd (cc h)
    by ih false is h = first_item (λ y. t y ≡ false) x xs is (ih h)

loaded_not : (g : ℕ) (units more : Units) → ((p : LoadedUnit → Bool) → list_any p units ≡ true → list_any p more ≡ true) → is_loaded g more ≡ false → is_loaded g units ≡ false
loaded_not g units more kept e = ⊎_elim (λ t. both (is_loaded g more) (kept (λ (u : LoadedUnit). u.file == g) t) e) (λ f. f) (bool_case (is_loaded g units))

in_order_push : (named : ℕ → List ℕ) (earlier xs : Units) (y : LoadedUnit) → StandInOrder named earlier xs → StandsBehind named (earlier ++ xs) y → StandInOrder named earlier (xs ++ y ∷ [])
unfolding StandInOrder
in_order_push named earlier [] y h s = (subst (λ (us : Units). StandsBehind named us y) (append-nil earlier) s, tt)
in_order_push named earlier (x ∷ xs) y h s = (h.0, in_order_push named (earlier ++ x ∷ []) xs y h.1 (subst (λ (us : Units). StandsBehind named us y) (sym (append_assoc earlier (x ∷ []) xs)) s))

-- ---- sources

agrees_front : (w : Frame) (xs ys : List Source) → IsFront xs ys → Agrees w ys → Agrees w xs
agrees_front w xs ys f agree k d lt = sym (ap (λ (s : Source). s.name) (ap (λ (l : List Source). get_or l k d) f.whole_is ∙ in_front xs f.rest k d lt)) ∙ agree k d (omega (arith, lt, ap length f.whole_is, length-append xs f.rest))
  where
    in_front : (xs ys : List Source) (k : ℕ) (d : Source) → k < length xs → get_or (xs ++ ys) k d ≡ get_or xs k d
    in_front [] ys k d lt = absurd (omega (arith, lt))
    in_front (x ∷ xs) ys zero d lt = refl
    in_front (x ∷ xs) ys (suc k) d lt = in_front xs ys k d (omega (arith, lt))

agrees_last : (w : Frame) (xs : List Source) (x : Source) → Agrees w (xs ++ x ∷ []) → w.named (length xs) ≡ x.name
agrees_last w xs x agree = sym (agree (length xs) x (omega (arith, length-append xs (x ∷ [])))) ∙ ap (λ (s : Source). s.name) (get_or_push xs x x (length xs) refl)

front_long : (xs ys : List Source) → IsFront xs ys → length xs ≤ length ys
front_long xs ys f = omega (arith, ap length f.whole_is, length-append xs f.rest)

-- ---- one step after another

err_ends : (w : Frame) (P Q : Units → Type 0) (n k m : ℕ) (units more : Units) (e : LoadError) → EndsBy w P n m units (Err e) → EndsBy w Q k m more (Err e)
err_ends w P Q n k m units more (Absent name) h = h
err_ends w P Q n k m units more (TooLong name) h = h
err_ends w P Q n k m units more (Read name) h = h
err_ends w P Q n k m units more (Lex place e) h = h
err_ends w P Q n k m units more (Parse place e) h = h
err_ends w P Q n k m units more (ImportCycle name) h = h
err_ends w P Q n k m units more (TooManyFiles name) h = h
err_ends w P Q n k m units more Memory h = h

then_ends : (w : Frame) (P Q : Units → Type 0) (n k : ℕ) (units from : Units) (o : Outcome Units) (next : List Source → Units → Outcome Units) → k ≤ n → Agrees w (and_then o next).sources → Ends w P n units o
    → ((read : List Source) (more : Units) → Agrees w (next read more).sources → n ≤ length read → Sound w (length read) → Loads w n (length read) units more → P more → Ends w Q k from (next read more))
    → Ends w Q k from (and_then o next)
then_ends w P Q n k units from o next le agree e cont = go o.sources o.end agree e.longer e.sound e.end
  where
    go : (sources : List Source) (end : Result Units LoadError) → Agrees w (onward sources end next).sources → n ≤ length sources → Sound w (length sources) → EndsBy w P n (length sources) units end → Ends w Q k from (onward sources end next)
    go sources (Ok more) agree long sound h = cont sources more agree long sound h.0 h.1
    go sources (Err f) agree long sound h = record { longer = omega (arith, le, long); sound = sound; end = err_ends w P Q n k (length sources) units from f h }

loads_same : (w : Frame) (n : ℕ) (units : Units) → Listed w n units → Loads w n n units units
loads_same w n units l = record { listed = l; kept = λ p e. e; calm = λ g lt e. e; wholly = λ g le lt. absurd (omega (arith, le, lt)) }

loads_then : (w : Frame) (n m k : ℕ) (units more last : Units) → n ≤ m → Loads w n m units more → Loads w m k more last → Loads w n k units last
loads_then w n m k units more last le p q = record {
  listed = q.listed;
  kept = λ t e. q.kept t (p.kept t e);
  calm = λ g lt e. q.calm g (omega (arith, lt, le)) (p.calm g lt e);
  wholly = λ g low lt. by g low lt (cases_lt g m);
}
  where
    by : (g : ℕ) → n ≤ g → g < k → (g < m) ⊎ (m ≤ g) → is_loaded g last ≡ true
    by g low lt (inl a) = q.kept (λ (u : LoadedUnit). u.file == g) (p.wholly g low a)
    by g low lt (inr a) = q.wholly g a lt

-- ---- imports

-- the imports of a file of this name, whose unit has these paths
record Going (w : Frame) (levels n : ℕ) (units : Units) (from : List ℕ) (unit : RawUnit) (paths : List RawPath) : Type 0 where
  before : Before w levels n units
  opens : (g : ℕ) → w.first ≤ g → g < n → is_loaded g units ≡ false → Reaches w.files (w.named g) from
  reached : Reaches w.files w.start from
  holds : Holds w.files from unit
  listed : (k : ℕ) (path : RawPath) → slice_get paths k ≡ Some path → (place : ℕ) × (slice_get unit.imports place ≡ Some path)

abbrev AllHad : Frame → List ℕ → List RawPath → Units → Type 0
AllHad w from paths more = (k : ℕ) (path : RawPath) → slice_get paths k ≡ Some path → reads_no_file path ≡ false → has_unit w.named more (import_name from path) ≡ true

some_same : {X : Type 0} (x y : X) → Some x ≡ Some y → x ≡ y
some_same {X} x y e = ap (λ (o : Option X). get_some x o) e
  where
    get_some : X → Option X → X
    get_some d None = d
    get_some d (Some z) = z

module _ (w : Frame) (levels : ℕ) (v : Visit) (grows : VisitGrows v) (ends : VisitEnds w levels v) (from : List ℕ) (unit : RawUnit) where
  tail_listed : (path : RawPath) (paths : List RawPath) → ((k : ℕ) (p : RawPath) → slice_get (path ∷ paths) k ≡ Some p → (place : ℕ) × (slice_get unit.imports place ≡ Some p)) → (k : ℕ) (p : RawPath) → slice_get paths k ≡ Some p → (place : ℕ) × (slice_get unit.imports place ≡ Some p)
  tail_listed path paths h k p e = h (suc k) p e

  abbrev ImportsEnd : List RawPath → Type 0
  ImportsEnd paths = (sources : List Source) (units : Units) → Agrees w (imports_by v from paths sources units).sources → Going w levels (length sources) units from unit paths → Ends w (AllHad w from paths) (length sources) units (imports_by v from paths sources units)

  import_ends : (path : RawPath) (paths : List RawPath) → ImportsEnd paths → ImportsEnd (path ∷ paths)
  import_ends path paths ih sources units agree g = by (reads_no_file path) refl agree
    where
      one : Outcome Units
      one = v (import_name from path) sources units

      rest : List Source → Units → Outcome Units
      rest = imports_by v from paths

      imported : reads_no_file path ≡ false → Imports w.files from (import_name from path)
      imported e = let at : (place : ℕ) × (slice_get unit.imports place ≡ Some path) = g.listed 0 path refl in record { unit = unit; holds = g.holds; place = at.0; path = path; listed = at.1; reads = e; named = refl }

      skipped : reads_no_file path ≡ true → (more : Units) → AllHad w from paths more → AllHad w from (path ∷ paths) more
      skipped t more h zero p e f = both (reads_no_file path) t (ap reads_no_file (some_same path p e) ∙ f)
      skipped t more h (suc k) p e f = h k p e f

      taken : (more : Units) → has_unit w.named more (import_name from path) ≡ true → AllHad w from paths more → AllHad w from (path ∷ paths) more
      taken more here h zero p e f = ap (λ (q : RawPath). has_unit w.named more (import_name from q)) (sym (some_same path p e)) ∙ here
      taken more here h (suc k) p e f = h k p e f

      tail : (n : ℕ) (more : Units) → Ends w (AllHad w from paths) n more (rest sources units) → reads_no_file path ≡ true → Ends w (AllHad w from (path ∷ paths)) n more (rest sources units)
      tail n more h t = record { longer = h.longer; sound = h.sound; end = widen (rest sources units).end h.end }
        where
          widen : (end : Result Units LoadError) → EndsBy w (AllHad w from paths) n (length (rest sources units).sources) more end → EndsBy w (AllHad w from (path ∷ paths)) n (length (rest sources units).sources) more end
          widen (Ok last) x = (x.0, skipped t last x.1)
          widen (Err e) x = err_ends w (AllHad w from paths) (AllHad w from (path ∷ paths)) n n (length (rest sources units).sources) more more e x

      first_agrees : Agrees w (and_then one rest).sources → Agrees w one.sources
      first_agrees a = agrees_front w one.sources (and_then one rest).sources (then_grows one rest (λ read more. imports_grow v grows from paths read more)) a

      visited : reads_no_file path ≡ false → Agrees w (and_then one rest).sources → Ends w (HasName w (import_name from path)) (length sources) units one
      visited f a = ends (import_name from path) sources units (first_agrees a) g.before (λ k low lt e. one_more w.files (w.named k) from (import_name from path) (g.opens k low lt e) (imported f)) (at_last_reaches w.files w.start (import_name from path) (one_more w.files w.start from (import_name from path) g.reached (imported f)))

      going : (read : List Source) (more : Units) → length sources ≤ length read → Sound w (length read) → Loads w (length sources) (length read) units more → Going w levels (length read) more from unit paths
      going read more le sound loads = record {
        before = record { behind = omega (arith, g.before.behind, le); room = omega (arith, g.before.room, le, g.before.behind); sound = sound; listed = loads.listed };
        opens = λ k low lt e. ⊎_elim (λ a. g.opens k low a (loaded_not k units more loads.kept e)) (λ a. both (is_loaded k more) (loads.wholly k a lt) e) (cases_lt k (length sources));
        reached = g.reached;
        holds = g.holds;
        listed = tail_listed path paths g.listed;
      }

      onwards : (read : List Source) (more : Units) → Agrees w (rest read more).sources → length sources ≤ length read → Sound w (length read) → Loads w (length sources) (length read) units more → HasName w (import_name from path) more → Ends w (AllHad w from (path ∷ paths)) (length sources) units (rest read more)
      onwards read more a le sound loads has =
          let h : Ends w (AllHad w from paths) (length read) more (rest read more) = ih read more a (going read more le sound loads) in
          record { longer = omega (arith, le, h.longer); sound = h.sound; end = widen (rest read more).end h.end }
        where
          widen : (end : Result Units LoadError) → EndsBy w (AllHad w from paths) (length read) (length (rest read more).sources) more end → EndsBy w (AllHad w from (path ∷ paths)) (length sources) (length (rest read more).sources) units end
          widen (Ok last) x = (loads_then w (length sources) (length read) (length (rest read more).sources) units more last le loads x.0, taken last (x.0.kept (λ (u : LoadedUnit). bytes_eq (w.named u.file) (import_name from path)) has) x.1)
          widen (Err e) x = err_ends w (AllHad w from paths) (AllHad w from (path ∷ paths)) (length read) (length sources) (length (rest read more).sources) more units e x

      by : (b : Bool) → reads_no_file path ≡ b → Agrees w (if b then rest sources units else and_then one rest).sources → Ends w (AllHad w from (path ∷ paths)) (length sources) units (if b then rest sources units else and_then one rest)
      by true t a = tail (length sources) units (ih sources units a (record { before = g.before; opens = g.opens; reached = g.reached; holds = g.holds; listed = tail_listed path paths g.listed })) t
      by false f a = then_ends w (HasName w (import_name from path)) (AllHad w from (path ∷ paths)) (length sources) (length sources) units units one rest (omega arith) a (visited f a) onwards

  imports_end : (paths : List RawPath) → ImportsEnd paths
  imports_end [] sources units agree g = record { longer = omega arith; sound = g.before.sound; end = (loads_same w (length sources) units g.before.listed, λ k path e. absurd (cc e)) }
  imports_end (path ∷ paths) sources units agree g = import_ends path paths (imports_end paths) sources units agree g

-- ---- a name

position_none : {X : Type 0} (t : X → Bool) (xs : List X) → position t xs ≡ None → All (λ x. t x ≡ false) xs
position_none t xs e = none_from t 0 xs (sym (position_from-zero t xs) ∙ e)

module _ (w : Frame) (levels : ℕ) (new : Visit) (grows : VisitGrows new) (ends : NewEnds w levels new) where
  pub visit_ends : VisitEnds w levels (visit_by w.files w.first new)
  visit_ends name sources units agree b opens reached = by (place_of w.first name sources) refl agree
    where
      test : Source → Bool
      test source = bytes_eq source.name name

      at : (k : ℕ) (d : Source) → get_or (drop w.first sources) k d ≡ get_or sources (w.first + k) d
      at k d = get_or-drop w.first sources k d

      fresh : place_of w.first name sources ≡ None → Agrees w sources → Fresh w (length sources) name
      fresh none a g low lt same = nope (position_none test (drop w.first sources) none (g - w.first) (record { name = []; text = [] }) (omega (arith, low, lt, length-drop w.first sources)))
        where
          d : Source
          d = record { name = []; text = [] }

          here : (get_or (drop w.first sources) (g - w.first) d).name ≡ name
          here = ap (λ (s : Source). s.name) (at (g - w.first) d ∙ ap (λ (k : ℕ). get_or sources k d) (omega (arith, low))) ∙ a g d lt ∙ same

          nope : bytes_eq (get_or (drop w.first sources) (g - w.first) d).name name ≡ false → ⊥
          nope f = both (bytes_eq (get_or (drop w.first sources) (g - w.first) d).name name) ((bytes_eq-Decides (get_or (drop w.first sources) (g - w.first) d).name name).1 here) f

      met_at : (k : ℕ) → place_of w.first name sources ≡ Some k → Agrees w sources → (w.first + k < length sources) × (w.named (w.first + k) ≡ name)
      met_at k some a =
          let d : Source = record { name = []; text = [] } in
          let found = position-Some test (drop w.first sources) k d some in
          let inside : w.first + k < length sources = omega (arith, found.0, length-drop w.first sources) in
          (inside, sym (a (w.first + k) d inside) ∙ ap (λ (s : Source). s.name) (sym (at k d)) ∙ (bytes_eq-Decides (get_or (drop w.first sources) k d).name name).0 found.1)

      named_so : (file : ℕ) → w.named file ≡ name → (u : LoadedUnit) → (u.file == file) ≡ true → bytes_eq (w.named u.file) name ≡ true
      named_so file same u e = (bytes_eq-Decides (w.named u.file) name).1 (ap w.named (eqb-true u.file file e) ∙ same)

      again_ends : (file : ℕ) → w.first ≤ file → file < length sources → w.named file ≡ name → (l : Bool) → is_loaded file units ≡ l → EndsBy w (HasName w name) (length sources) (length sources) units (if l then Ok units else Err (ImportCycle name))
      again_ends file low lt same true e = (loads_same w (length sources) units b.listed, any_implies (λ (u : LoadedUnit). u.file == file) (λ (u : LoadedUnit). bytes_eq (w.named u.file) name) units (named_so file same) e)
      again_ends file low lt same false e = record { reached = reached; cycle = subst (λ (n : List ℕ). ImportsAtLast w.files n name) same (opens file low lt e) }

      by : (place : Option ℕ) → place_of w.first name sources ≡ place → Agrees w (met w.first place name sources units (new name sources units)).sources → Ends w (HasName w name) (length sources) units (met w.first place name sources units (new name sources units))
      by (Some k) some a =
          let m = met_at k some a in
          record { longer = omega arith; sound = b.sound; end = again_ends (w.first + k) (omega arith) m.0 m.1 (is_loaded (w.first + k) units) refl }
      by None none a = last_named (new name sources units) (ends name sources units a b opens reached (fresh none (agrees_front w sources (new name sources units).sources (grows name sources units) a)))
        where
          last_has : (more : Units) → IsLast w (length sources) name more → HasName w name more
          last_has more l = ap (λ (us : Units). has_unit w.named us name) l.are ∙ list_any-append (λ (u : LoadedUnit). bytes_eq (w.named u.file) name) l.earlier (record { file = length sources; unit = l.unit } ∷ []) ∙ or_right (has_unit w.named l.earlier name) (bytes_eq (w.named (length sources)) name || false) (or_left (bytes_eq (w.named (length sources)) name) false ((bytes_eq-Decides (w.named (length sources)) name).1 l.named))

          last_named : (o : Outcome Units) → Ends w (IsLast w (length sources) name) (length sources) units o → Ends w (HasName w name) (length sources) units o
          last_named o h = record { longer = h.longer; sound = h.sound; end = widen o.end h.end }
            where
              widen : (end : Result Units LoadError) → EndsBy w (IsLast w (length sources) name) (length sources) (length o.sources) units end → EndsBy w (HasName w name) (length sources) (length o.sources) units end
              widen (Ok more) x = (x.0, last_has more x.1)
              widen (Err e) x = err_ends w (IsLast w (length sources) name) (HasName w name) (length sources) (length sources) (length o.sources) units units e x

-- ---- a new file

is_full : (m : ℕ) → nat_le most_files m ≡ true → most_files ≤ m
is_full m e = grind (arith, nat_tests)

not_itself : (g n : ℕ) → g < n → (n == g) ≡ false
not_itself g n lt = grind (arith, nat_tests)

itself : (n : ℕ) → (n == n) ≡ true
itself n = grind (arith, nat_tests)

cases_below : (g n : ℕ) → g < n + 1 → (g < n) ⊎ (g ≡ n)
cases_below g n lt = ⊎_elim (λ a. inl a) (λ a. inr (omega (arith, a, lt))) (cases_lt g n)

-- no unit of a file that is being read is loaded
none_yet : (w : Frame) (n : ℕ) (units : Units) → All (InRange w n) units → is_loaded n units ≡ false
none_yet w n units within = list_any_none (λ (u : LoadedUnit). u.file == n) units (λ k d lt. let r : InRange w n (get_or units k d) = within k d lt in apart (get_or units k d).file n r.below)
  where
    apart : (f n : ℕ) → f < n → (f == n) ≡ false
    apart f n lt = grind (arith, nat_tests)

module _ (w : Frame) (levels : ℕ) (v : Visit) (grows : VisitGrows v) (ends : VisitEnds w levels v) (name : List ℕ) (sources : List Source) (units : Units) (b : Before w (suc levels) (length sources) units) (opens : Opens w (length sources) units name) (reached : Reaches w.files w.start name) (fresh : Fresh w (length sources) name) where
  abbrev n : ℕ
  n = length sources

  abbrev Wanted : Outcome Units → Type 0
  Wanted o = Ends w (IsLast w n name) n units o

  module _ (text : List ℕ) (held : get w.files name ≡ Some text) where
    abbrev file : Source
    file = record { name = name; text = text }

    abbrev with_file : List Source
    with_file = sources ++ file ∷ []

    counted : length with_file ≡ n + 1
    counted = length-append sources (file ∷ [])

    sound_now : w.named n ≡ name → Sound w (length with_file)
    sound_now named = record {
      reached = λ g low lt. ⊎_elim (λ a. b.sound.reached g low a) (λ e. subst (λ (x : List ℕ). Reaches w.files w.start x) (sym (ap w.named e ∙ named)) reached) (cases_below g n (omega (arith, lt, counted)));
      apart = λ g h low lt lh same. ⊎_elim (λ a. b.sound.apart g h low lt a same) (λ e. fresh g low (omega (arith, lt, e)) (same ∙ ap w.named e ∙ named)) (cases_below h n (omega (arith, lh, counted)));
    }

    module _ (unit : RawUnit) (spelled : tree_of n text ≡ Ok unit) (named : w.named n ≡ name) where
      abbrev one : LoadedUnit
      one = record { file = n; unit = unit }

      abbrev last : List Source → Units → Outcome Units
      last = λ read loaded. ended read (loaded ++ one ∷ [])

      going : Going w levels (length with_file) units name unit unit.imports
      going = record {
        before = record {
          behind = omega (arith, b.behind, counted);
          room = omega (arith, b.room, b.behind, counted);
          sound = sound_now named;
          listed = record { within = λ k d lt. let r : InRange w n (get_or units k d) = b.listed.within k d lt in record { from = r.from; below = omega (arith, r.below, counted) }; order = b.listed.order };
        };
        opens = λ g low lt e. ⊎_elim (λ a. at_last_reaches w.files (w.named g) name (opens g low a e)) (λ same. reaches_itself w.files (w.named g) name (ap w.named same ∙ named)) (cases_below g n (omega (arith, lt, counted)));
        reached = reached;
        holds = record { file = n; text = text; held = held; spelled = spelled };
        listed = λ k path e. (k, e);
      }

      -- no unit that was loaded meanwhile is of this file
      others : (m : ℕ) (more : Units) → Sound w m → n < m → Loads w (length with_file) m units more → has_unit w.named more (w.named n) ≡ false
      others m more sound lt loads = list_any_none (λ (u : LoadedUnit). bytes_eq (w.named u.file) (w.named n)) more (λ k d inside. apart (get_or more k d) (loads.listed.within k d inside) (none_each (λ (u : LoadedUnit). u.file == n) more (loads.calm n (omega (arith, counted)) (none_yet w n units b.listed.within)) k d inside))
        where
          differ : (f : ℕ) → w.first ≤ f → f < m → (f == n) ≡ false → w.named f ≢ w.named n
          differ f low below distinct same = ⊎_elim (λ a. sound.apart f n low a lt same) (λ a. ⊎_elim (λ c. sound.apart n f b.behind c below (sym same)) (λ c. both (f == n) (ap (λ (x : ℕ). x == n) (omega (arith, a, c)) ∙ itself n) distinct) (cases_lt n f)) (cases_lt f n)

          apart : (u : LoadedUnit) → InRange w m u → (u.file == n) ≡ false → bytes_eq (w.named u.file) (w.named n) ≡ false
          apart u r distinct = ⊎_elim (λ t. absurd (differ u.file r.from r.below distinct ((bytes_eq-Decides (w.named u.file) (w.named n)).0 t))) (λ f. f) (bool_case (bytes_eq (w.named u.file) (w.named n)))

      closed : (read : List Source) (more : Units) → Agrees w (last read more).sources → length with_file ≤ length read → Sound w (length read) → Loads w (length with_file) (length read) units more → AllHad w name unit.imports more → Wanted (last read more)
      closed read more agree long sound loads had = record { longer = omega (arith, long, counted); sound = sound; end = (all, record { earlier = more; unit = unit; are = refl; named = named }) }
        where
          all : Loads w n (length read) units (more ++ one ∷ [])
          all = record {
            listed = record {
              within = All-append (InRange w (length read)) more (one ∷ []) loads.listed.within (one_item (InRange w (length read)) one (record { from = b.behind; below = omega (arith, long, counted) }));
              order = in_order_push w.named [] more one loads.listed.order (record { imports = λ k path e f. subst (λ (x : List ℕ). has_unit w.named more (import_name x path) ≡ true) (sym named) (had k path e f); once = others (length read) more sound (omega (arith, long, counted)) loads });
            };
            kept = λ p e. list_any-append p more (one ∷ []) ∙ or_left (list_any p more) (list_any p (one ∷ [])) (loads.kept p e);
            calm = λ g lt e. list_any-append (λ (u : LoadedUnit). u.file == g) more (one ∷ []) ∙ or_none (is_loaded g more) (is_loaded g (one ∷ [])) (loads.calm g (omega (arith, lt, counted)) e) (or_none (n == g) false (not_itself g n lt) refl);
            wholly = λ g low lt. list_any-append (λ (u : LoadedUnit). u.file == g) more (one ∷ []) ∙ ⊎_elim (λ a. or_left (is_loaded g more) (is_loaded g (one ∷ [])) (loads.wholly g (omega (arith, a, counted)) lt)) (λ a. or_right (is_loaded g more) (is_loaded g (one ∷ [])) (or_left (n == g) false (ap (λ (x : ℕ). n == x) (omega (arith, a, low)) ∙ itself n))) (cases_lt n g);
          }

      unit_ends : Agrees w (unit_by v n name units with_file unit).sources → Wanted (unit_by v n name units with_file unit)
      unit_ends agree =
          let inner : Outcome Units = imports_by v name unit.imports with_file units in
          then_ends w (AllHad w name unit.imports) (IsLast w n name) (length with_file) n units units inner last (omega (arith, counted)) agree
          (imports_end w levels v grows ends name unit unit.imports with_file units (agrees_front w inner.sources (and_then inner last).sources (then_grows inner last (λ read loaded. front_same read)) agree) going) closed

    fault_ends : (e : LoadError) → tree_of n text ≡ Err e → w.named n ≡ name → Wanted (record { sources = with_file; end = Err e })
    fault_ends e is named = record { longer = omega (arith, counted); sound = sound_now named; end = by e (tree_in_file n text e is) }
      where
        by : (e : LoadError) → InFile n e → EndsBy w (IsLast w n name) n (length with_file) units (Err e)
        by (Absent x) h = absurd h
        by (TooLong x) h = absurd h
        by (Read x) h = tt
        by (Lex place x) h = tt
        by (Parse place x) h = tt
        by (ImportCycle x) h = absurd h
        by (TooManyFiles x) h = absurd h
        by Memory h = tt

    front_now : (o : Outcome Units) → IsFront with_file o.sources → Agrees w o.sources → w.named n ≡ name
    front_now o f a = agrees_last w sources file (agrees_front w with_file o.sources f a)

    abbrev next : List Source → RawUnit → Outcome Units
    next = unit_by v n name units

    unit_front : (unit : RawUnit) → IsFront with_file (next with_file unit).sources
    unit_front unit =
        let inner : Outcome Units = imports_by v name unit.imports with_file units in
        let last : List Source → Units → Outcome Units = λ read loaded. ended read (loaded ++ record { file = n; unit = unit } ∷ []) in
        front_then with_file inner.sources (and_then inner last).sources (imports_grow v grows name unit.imports with_file units) (then_grows inner last (λ read loaded. front_same read))

    read_ends : (r : Result RawUnit LoadError) → tree_of n text ≡ r → Agrees w (onward with_file r next).sources → Wanted (onward with_file r next)
    read_ends (Ok unit) is agree = unit_ends unit is (front_now (next with_file unit) (unit_front unit) agree) agree
    read_ends (Err e) is agree = fault_ends e is (front_now (refused with_file e) (front_same with_file) agree)

    text_ends : (t : Bool) → Agrees w (and_then (if t then refused {A = RawUnit} sources (TooLong name) else record { sources = with_file; end = tree_of n text }) next).sources → Wanted (and_then (if t then refused {A = RawUnit} sources (TooLong name) else record { sources = with_file; end = tree_of n text }) next)
    text_ends true agree = record { longer = omega arith; sound = b.sound; end = reached }
    text_ends false agree = read_ends (tree_of n text) refl agree

  held_ends : (held : Option (List ℕ)) → get w.files name ≡ held → Agrees w (and_then (held_as tree_of most_bytes name sources held) (unit_by v n name units)).sources → Wanted (and_then (held_as tree_of most_bytes name sources held) (unit_by v n name units))
  held_ends None is agree = record { longer = omega arith; sound = b.sound; end = reached }
  held_ends (Some text) is agree = text_ends text is (nat_lt most_bytes (length text)) agree

  room_ends : (t : Bool) → nat_le most_files (n - w.first) ≡ t → Agrees w (if t then refused sources (TooManyFiles name) else and_then (held_as tree_of most_bytes name sources (get w.files name)) (unit_by v n name units)).sources
      → Wanted (if t then refused sources (TooManyFiles name) else and_then (held_as tree_of most_bytes name sources (get w.files name)) (unit_by v n name units))
  room_ends true t agree = record { longer = omega arith; sound = b.sound; end = record { full = is_full (n - w.first) t; reached = reached; fresh = fresh } }
  room_ends false t agree = held_ends (get w.files name) refl agree

module _ (w : Frame) where
  pub new_ends : (levels : ℕ) → NewEnds w levels (new_file w.files w.first levels)
  unfolding new_file
  new_ends zero name sources units agree b opens reached fresh = record { longer = omega arith; sound = b.sound; end = record { full = omega (arith, b.room); reached = reached; fresh = fresh } }
  new_ends (suc levels) name sources units agree b opens reached fresh =
      room_ends w levels (visit_by w.files w.first (new_file w.files w.first levels)) (visit_grows w.files w.first (new_file w.files w.first levels) (new_file_grows w.files w.first levels))
      (visit_ends w levels (new_file w.files w.first levels) (new_file_grows w.files w.first levels) (new_ends levels))
      name sources units b opens reached fresh (nat_le most_files (length sources - w.first)) refl agree

-- ---- a model

name_read : (sources : List Source) (k : ℕ) (d : Source) → k < length sources → (get_or sources k d).name ≡ name_at sources k
name_read [] k d lt = absurd (omega (arith, lt))
name_read (x ∷ xs) zero d lt = refl
name_read (x ∷ xs) (suc k) d lt = name_read xs k d (omega (arith, lt))

no_order : (w : Frame) → StandInOrder w.named [] []
unfolding StandInOrder
no_order w = tt

module _ (files : Files) (name : List ℕ) (before : List Source) where
  abbrev framed : List Source → Frame
  framed now = record { files = files; first = length before; start = normalised name; named = name_at now }

  model_ends : let o : Outcome Units = units_in files name before in Ends (framed o.sources) (IsLast (framed o.sources) (length before) (normalised name)) (length before) [] o
  model_ends =
      let o : Outcome Units = units_in files name before in
      let w : Frame = framed o.sources in
      new_ends w most_files (normalised name) before [] (name_read o.sources)
      (record { behind = omega arith; room = omega arith; sound = record { reached = λ g low lt. absurd (omega (arith, low, lt)); apart = λ g h low lt lh same. absurd (omega (arith, low, lt, lh)) }; listed = record { within = no_item (InRange w (length before)); order = no_order w } })
      (λ g low lt e. absurd (omega (arith, low, lt))) (reaches_itself files (normalised name) (normalised name) refl) (λ g low lt same. absurd (omega (arith, low, lt)))

  abbrev Result_ends : List Source → Result Units LoadError → Type 0
  Result_ends now r = EndsBy (framed now) (IsLast (framed now) (length before) (normalised name)) (length before) (length now) [] r

  ends_so : (now : List Source) (r : Result Units LoadError) → units_in files name before ≡ record { sources = now; end = r } → Result_ends now r
  ends_so now r e = subst (λ (o : Outcome Units). Result_ends o.sources o.end) e model_ends.end

  pub in_order : (now : List Source) (units : Units) → units_in files name before ≡ ended now units → StandInOrder (name_at now) [] units
  in_order now units e = (ends_so now (Ok units) e).0.listed.order

  pub named_last : (now : List Source) (units : Units) → units_in files name before ≡ ended now units → EndsWith (normalised name) before now units
  named_last now units e = let l : IsLast (framed now) (length before) (normalised name) units = (ends_so now (Ok units) e).1 in record { earlier = l.earlier; unit = l.unit; units_are = l.are; file_is = l.named }

  pub all_loaded : (now : List Source) (units : Units) → units_in files name before ≡ ended now units → (file : ℕ) → length before ≤ file → file < length now → is_loaded file units ≡ true
  all_loaded now units e file low lt = (ends_so now (Ok units) e).0.wholly file low lt

  pub all_reached : AreReached files (normalised name) before (units_in files name before).sources
  all_reached = record { reached = model_ends.sound.reached; apart = model_ends.sound.apart }

  pub absent_reached : (now : List Source) (x : List ℕ) → units_in files name before ≡ refused now (Absent x) → Reaches files (normalised name) x
  absent_reached now x e = ends_so now (Err (Absent x)) e

  pub long_reached : (now : List Source) (x : List ℕ) → units_in files name before ≡ refused now (TooLong x) → Reaches files (normalised name) x
  long_reached now x e = ends_so now (Err (TooLong x)) e

  pub on_cycle : (now : List Source) (x : List ℕ) → units_in files name before ≡ refused now (ImportCycle x) → IsOnCycle files (normalised name) x
  on_cycle now x e = ends_so now (Err (ImportCycle x)) e

  pub one_too_many : (now : List Source) (x : List ℕ) → units_in files name before ≡ refused now (TooManyFiles x) → IsOneTooMany files (normalised name) before now x
  one_too_many now x e = let f : Fills (framed now) (length now) x = ends_so now (Err (TooManyFiles x)) e in record { full = f.full; reached = f.reached; unread = f.fresh }
