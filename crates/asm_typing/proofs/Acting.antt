-- Lists that act on what was kept so far, one part after the other.
use Rattle.std.proofs.Common.{◌≡◌, ℕ, ◌+◌, ◌<◌, ◌≤◌, List, [], ◌∷◌, ◌++◌, length, take, get_or, Option, sym, ap, ◌∙◌, append_assoc, flat_map, if◌then◌else◌}
use Rattle.std.proofs.lemmas.List.{append-nil, map-append, take_all}
use Rattle.asm_tree.specs.declared.term.RawName.{RawName}
use Rattle.asm_tree.specs.declared.unit.RawUnit.{RawUnit}
use Rattle.asm_tree.specs.declared.unit.LoadedUnit.{LoadedUnit}
use Rattle.asm_faults.specs.declared.fault.Fault.{Fault}
use Rattle.asm_faults.specs.declared.fault.ModelFault.TheVariants.{Duplicate}
use Rattle.asm_faults.specs.At.{Name, fault_at}
use Rattle.asm_faults.specs.First.{noted}
use Rattle.asm_faults.specs.Files.{Of, numbered}
use Rattle.asm_faults.specs.DomainFaults.{is_listed, repeats}
use Rattle.asm_faults.proofs.Noting.{noted_append}
use Rattle.asm_typing.specs.BodyPieces.{Met, met, texts}
use Rattle.asm_typing.proofs.Walks.{flat_more, units_more, units_all}

module _ {S A : Type 0} (act : S → List A → S) (more : (s : S) (xs ys : List A) → act s (xs ++ ys) ≡ act (act s xs) ys) where
  joined : (s now last : S) (xs ys zs : List A) → zs ≡ xs ++ ys → now ≡ act s xs → last ≡ act now ys → last ≡ act s zs
  joined s now last xs ys zs e a b = b ∙ ap (λ (t : S). act t ys) a ∙ sym (more s xs ys) ∙ ap (act s) (sym e)

  -- one more item of a list
  items_more : {X : Type 0} (f : X → List A) (xs : List X) (i : ℕ) (x : X) (s now last : S) → i < length xs → x ≡ get_or xs i x → now ≡ act s (flat_map f (take i xs)) → last ≡ act now (f x) → last ≡ act s (flat_map f (take (i + 1) xs))
  items_more f xs i x s now last lt is a b = joined s now last (flat_map f (take i xs)) (f x) (flat_map f (take (i + 1) xs)) (flat_more f xs i x lt is) a b

  items_all : {X : Type 0} (f : X → List A) (xs : List X) (i : ℕ) (s now : S) → length xs ≤ i → now ≡ act s (flat_map f (take i xs)) → now ≡ act s (flat_map f xs)
  items_all f xs i s now le a = a ∙ ap (λ ys. act s (flat_map f ys)) (take_all i xs le)

  -- one more file
  files_more : (g : ℕ × RawUnit → List A) (units : List LoadedUnit) (i : ℕ) (u : LoadedUnit) (xs : List A) (s now last : S) → i < length units → u ≡ get_or units i u → xs ≡ g (i, (get_or units i u).unit)
      → now ≡ act s (flat_map g (numbered (take i units))) → last ≡ act now xs → last ≡ act s (flat_map g (numbered (take (i + 1) units)))
  files_more g units i u xs s now last lt is e a b =
      joined s now last (flat_map g (numbered (take i units))) (g (i, u.unit)) (flat_map g (numbered (take (i + 1) units))) (units_more g units i u lt is) a
      (b ∙ ap (act now) (e ∙ ap (λ (v : LoadedUnit). g (i, v.unit)) (sym is)))

  files_all : (g : ℕ × RawUnit → List A) (units : List LoadedUnit) (i : ℕ) (s now : S) → length units ≤ i → now ≡ act s (flat_map g (numbered (take i units))) → now ≡ act s (flat_map g (numbered units))
  files_all g units i s now le a = a ∙ ap (act s) (units_all g units i le)

-- ---- faults that are noted

pub noted_items_more : {X : Type 0} (f : X → List Fault) (xs : List X) (i : ℕ) (x : X) (s now last : Option Fault) → i < length xs → x ≡ get_or xs i x → now ≡ noted s (flat_map f (take i xs)) → last ≡ noted now (f x) → last ≡ noted s (flat_map f (take (i + 1) xs))
noted_items_more f xs i x s now last = items_more noted noted_append f xs i x s now last

pub noted_items_all : {X : Type 0} (f : X → List Fault) (xs : List X) (i : ℕ) (s now : Option Fault) → length xs ≤ i → now ≡ noted s (flat_map f (take i xs)) → now ≡ noted s (flat_map f xs)
noted_items_all f xs i s now = items_all noted noted_append f xs i s now

pub noted_files_more : (g : ℕ × RawUnit → List Fault) (units : List LoadedUnit) (i : ℕ) (u : LoadedUnit) (xs : List Fault) (s now last : Option Fault) → i < length units → u ≡ get_or units i u → xs ≡ g (i, (get_or units i u).unit)
    → now ≡ noted s (flat_map g (numbered (take i units))) → last ≡ noted now xs → last ≡ noted s (flat_map g (numbered (take (i + 1) units)))
noted_files_more g units i u xs s now last = files_more noted noted_append g units i u xs s now last

pub noted_files_all : (g : ℕ × RawUnit → List Fault) (units : List LoadedUnit) (i : ℕ) (s now : Option Fault) → length units ≤ i → now ≡ noted s (flat_map g (numbered (take i units))) → now ≡ noted s (flat_map g (numbered units))
noted_files_all g units i s now = files_all noted noted_append g units i s now

-- ---- lists that grow

appended : {A : Type 0} (s xs ys : List A) → s ++ (xs ++ ys) ≡ (s ++ xs) ++ ys
appended s xs ys = sym (append_assoc s xs ys)

pub list_items_more : {X A : Type 0} (f : X → List A) (xs : List X) (i : ℕ) (x : X) (s now last : List A) → i < length xs → x ≡ get_or xs i x → now ≡ s ++ flat_map f (take i xs) → last ≡ now ++ f x → last ≡ s ++ flat_map f (take (i + 1) xs)
list_items_more {X} {A} f xs i x s now last = items_more (λ (t : List A) (ys : List A). t ++ ys) appended f xs i x s now last

pub list_items_all : {X A : Type 0} (f : X → List A) (xs : List X) (i : ℕ) (s now : List A) → length xs ≤ i → now ≡ s ++ flat_map f (take i xs) → now ≡ s ++ flat_map f xs
list_items_all {X} {A} f xs i s now = items_all (λ (t : List A) (ys : List A). t ++ ys) appended f xs i s now

pub list_files_more : {A : Type 0} (g : ℕ × RawUnit → List A) (units : List LoadedUnit) (i : ℕ) (u : LoadedUnit) (xs now last : List A) → i < length units → u ≡ get_or units i u → xs ≡ g (i, (get_or units i u).unit)
    → now ≡ flat_map g (numbered (take i units)) → last ≡ now ++ xs → last ≡ flat_map g (numbered (take (i + 1) units))
list_files_more {A} g units i u xs now last = files_more (λ (t : List A) (ys : List A). t ++ ys) appended g units i u xs [] now last

pub list_files_all : {A : Type 0} (g : ℕ × RawUnit → List A) (units : List LoadedUnit) (i : ℕ) (now : List A) → length units ≤ i → now ≡ flat_map g (numbered (take i units)) → now ≡ flat_map g (numbered units)
list_files_all {A} g units i now = files_all (λ (t : List A) (ys : List A). t ++ ys) appended g units i [] now

-- ---- names that are met

-- repeats among names one behind the other
repeats-append : (earlier : List Name) (xs ys : List (Of RawName)) → repeats earlier (xs ++ ys) ≡ repeats earlier xs ++ repeats (earlier ++ texts xs) ys
repeats-append earlier [] ys = ap (λ names. repeats names ys) (sym (append-nil earlier))
repeats-append earlier ((n, name) ∷ xs) ys =
    let here : List Fault = if is_listed earlier name.text then fault_at Duplicate n name ∷ [] else [] in
    let after : List Name = earlier ++ name.text ∷ [] in
    ap (λ faults. here ++ faults) (repeats-append after xs ys ∙ ap (λ names. repeats after xs ++ repeats names ys) (append_assoc earlier (name.text ∷ []) (texts xs)))
    ∙ sym (append_assoc here (repeats after xs) (repeats (earlier ++ name.text ∷ texts xs) ys))

met_append : (m : Met) (xs ys : List (Of RawName)) → met m (xs ++ ys) ≡ met (met m xs) ys
met_append m xs ys =
    let faults : noted m.first (repeats m.names (xs ++ ys)) ≡ noted (noted m.first (repeats m.names xs)) (repeats (m.names ++ texts xs) ys) =
    ap (noted m.first) (repeats-append m.names xs ys) ∙ noted_append m.first (repeats m.names xs) (repeats (m.names ++ texts xs) ys) in
    let names : m.names ++ texts (xs ++ ys) ≡ (m.names ++ texts xs) ++ texts ys =
    ap (λ more. m.names ++ more) (map-append (λ (p : Of RawName). p.1.text) xs ys) ∙ appended m.names (texts xs) (texts ys) in
    λ j. record { first = faults j; names = names j }

pub met_none : (m : Met) → m ≡ met m []
met_none m = λ j. record { first = m.first; names = sym (append-nil m.names) j }

pub met_items_more : {X : Type 0} (f : X → List (Of RawName)) (xs : List X) (i : ℕ) (x : X) (s now last : Met) → i < length xs → x ≡ get_or xs i x → now ≡ met s (flat_map f (take i xs)) → last ≡ met now (f x) → last ≡ met s (flat_map f (take (i + 1) xs))
met_items_more f xs i x s now last = items_more met met_append f xs i x s now last

pub met_items_all : {X : Type 0} (f : X → List (Of RawName)) (xs : List X) (i : ℕ) (s now : Met) → length xs ≤ i → now ≡ met s (flat_map f (take i xs)) → now ≡ met s (flat_map f xs)
met_items_all f xs i s now = items_all met met_append f xs i s now

pub met_files_more : (g : ℕ × RawUnit → List (Of RawName)) (units : List LoadedUnit) (i : ℕ) (u : LoadedUnit) (xs : List (Of RawName)) (s now last : Met) → i < length units → u ≡ get_or units i u → xs ≡ g (i, (get_or units i u).unit)
    → now ≡ met s (flat_map g (numbered (take i units))) → last ≡ met now xs → last ≡ met s (flat_map g (numbered (take (i + 1) units)))
met_files_more g units i u xs s now last = files_more met met_append g units i u xs s now last

pub met_files_all : (g : ℕ × RawUnit → List (Of RawName)) (units : List LoadedUnit) (i : ℕ) (s now : Met) → length units ≤ i → now ≡ met s (flat_map g (numbered (take i units))) → now ≡ met s (flat_map g (numbered units))
met_files_all g units i s now = files_all met met_append g units i s now
