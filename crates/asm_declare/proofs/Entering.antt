-- Names that are taken.
use Rattle.std.proofs.Common.{◌≡◌, ℕ, ◌+◌, ◌<◌, ◌≤◌, Bool, true, false, if◌then◌else◌, List, [], ◌∷◌, ◌++◌, length, map, take, get_or, Option, Some, None, is_some, cond, ◌||◌, refl, sym, ap, ◌∙◌, subst, arith, append_assoc, flat_map}
use Rattle.std.specs.Str.{bytes_eq}
use Rattle.std.specs.List.{list_any, position_from}
use Rattle.std.proofs.lemmas.Iterator.Adapters.{position_from-zero}
use Rattle.std.proofs.lemmas.List.{append-nil, map-append, take_all}
use Rattle.asm_tree.specs.declared.term.RawName.{RawName}
use Rattle.asm_tree.specs.declared.unit.RawDeclaration.{RawDeclaration}
use Rattle.asm_tree.specs.declared.unit.RawDeclaration.TheVariants as declaration
use Rattle.asm_tree.specs.declared.unit.RawDefinition.{RawDefinition}
use Rattle.asm_tree.specs.declared.unit.RawMain.{RawMain}
use Rattle.asm_tree.specs.declared.unit.RawUnit.{RawUnit}
use Rattle.asm_tree.specs.declared.unit.LoadedUnit.{LoadedUnit}
use Rattle.asm_faults.specs.declared.fault.Fault.{Fault}
use Rattle.asm_faults.specs.declared.fault.ModelFault.TheVariants.{Duplicate}
use Rattle.asm_faults.specs.At.{Name, fault_at}
use Rattle.asm_faults.specs.First.{noted}
use Rattle.asm_faults.specs.Files.{Of, to_list, all_of, named_of, main_names, declared_names, names_in, names_in_declaration, names_in_definition}
use Rattle.asm_faults.specs.DomainFaults.{boolean, integer, is_listed, repeats, name_faults}
use Rattle.asm_faults.proofs.Noting.{noted_append}
use Rattle.name_table.specs.Numbered.{number_of}
use Rattle.asm_declare.specs.Entered.{of_unit, texts, AreEntered}
use Rattle.asm_declare.proofs.Walks.{map_more, flat_more, units_more, units_all, named_last}

-- repeats among names one behind the other
pub repeats-append : (earlier : List Name) (xs ys : List (Of RawName)) → repeats earlier (xs ++ ys) ≡ repeats earlier xs ++ repeats (earlier ++ texts xs) ys
repeats-append earlier [] ys = ap (λ names. repeats names ys) (sym (append-nil earlier))
repeats-append earlier ((n, name) ∷ xs) ys =
    let here : List Fault = if is_listed earlier name.text then fault_at Duplicate n name ∷ [] else [] in
    let after : List Name = earlier ++ name.text ∷ [] in
    ap (λ faults. here ++ faults) (repeats-append after xs ys ∙ ap (λ names. repeats after xs ++ repeats names ys) (append_assoc earlier (name.text ∷ []) (texts xs)))
    ∙ sym (append_assoc here (repeats after xs) (repeats (earlier ++ name.text ∷ texts xs) ys))

pub none_entered : {first : Option Fault} {earlier : List Name} → AreEntered first earlier [] first earlier
none_entered {earlier = earlier} = record { noted_is = refl; names_are = sym (append-nil earlier) }

-- names, and others behind them
pub both_entered : {first now last : Option Fault} {earlier later all : List Name} {xs ys : List (Of RawName)} → AreEntered first earlier xs now later → AreEntered now later ys last all → AreEntered first earlier (xs ++ ys) last all
both_entered {first} {now} {last} {earlier} {later} {all} {xs} {ys} a b =
    let parts : repeats later ys ≡ repeats (earlier ++ texts xs) ys = ap (λ names. repeats names ys) a.names_are in
    record {
      noted_is = b.noted_is ∙ (λ j. noted (a.noted_is j) (parts j)) ∙ sym (noted_append first (repeats earlier xs) (repeats (earlier ++ texts xs) ys)) ∙ ap (noted first) (sym (repeats-append earlier xs ys));
      names_are = b.names_are ∙ ap (λ names. names ++ texts ys) a.names_are ∙ append_assoc earlier (texts xs) (texts ys) ∙ ap (λ names. earlier ++ names) (sym (map-append (λ (p : Of RawName). p.1.text) xs ys));
    }

-- the same names, told in another way
pub same_entered : {first now : Option Fault} {earlier later : List Name} {xs ys : List (Of RawName)} → xs ≡ ys → AreEntered first earlier xs now later → AreEntered first earlier ys now later
same_entered {first} {now} {earlier} {later} e a = subst (λ names. AreEntered first earlier names now later) e a

-- one name, which was found or not
pub one_entered : (first now : Option Fault) (earlier later : List Name) (n : ℕ) (name : RawName) → now ≡ noted first (if is_listed earlier name.text then fault_at Duplicate n name ∷ [] else []) → later ≡ earlier ++ name.text ∷ [] → AreEntered first earlier ((n, name) ∷ []) now later
one_entered first now earlier later n name a b = record {
  noted_is = a ∙ ap (noted first) (sym (append-nil (if is_listed earlier name.text then fault_at Duplicate n name ∷ [] else [])));
  names_are = b;
}

-- the first place of a name is there exactly where the name is listed
found_from : (p : Name → Bool) (i : ℕ) (names : List Name) → is_some (position_from p i names) ≡ list_any p names
found_from p i [] = refl
found_from p i (name ∷ names) = by (p name) (found_from p (i + 1) names)
  where
    by : (b : Bool) → is_some (position_from p (i + 1) names) ≡ list_any p names → is_some (cond b (Some i) (position_from p (i + 1) names)) ≡ (b || list_any p names)
    by true h = refl
    by false h = h

pub found_listed : (names : List Name) (name : Name) → is_some (number_of names name) ≡ is_listed names name
found_listed names name =
    let p : Name → Bool = λ other. bytes_eq other name in ap is_some (position_from-zero p names) ∙ found_from p 0 names

-- ---- names of a list, one further

pub entered_more : {first now last : Option Fault} {earlier later all : List Name} (n : ℕ) (xs : List RawName) (i : ℕ) (x : RawName) → i < length xs → x ≡ get_or xs i x
    → AreEntered first earlier (of_unit n (take i xs)) now later → AreEntered now later ((n, x) ∷ []) last all → AreEntered first earlier (of_unit n (take (i + 1) xs)) last all
entered_more n xs i x lt is a b =
    let pair : RawName → Of RawName = λ name. (n, name) in same_entered (sym (map_more pair xs i x lt is)) (both_entered a b)

pub entered_all : {first now : Option Fault} {earlier later : List Name} (n : ℕ) (xs : List RawName) (i : ℕ) → length xs ≤ i → AreEntered first earlier (of_unit n (take i xs)) now later → AreEntered first earlier (of_unit n xs) now later
entered_all n xs i le a = same_entered (ap (of_unit n) (take_all i xs le)) a

-- ---- the names that items of a file give

pub items_more : {X : Type 0} {first now last : Option Fault} {earlier later all : List Name} (f : X → List RawName) (n : ℕ) (xs : List X) (i : ℕ) (x : X) → i < length xs → x ≡ get_or xs i x
    → AreEntered first earlier (of_unit n (flat_map f (take i xs))) now later → AreEntered now later (of_unit n (f x)) last all → AreEntered first earlier (of_unit n (flat_map f (take (i + 1) xs))) last all
items_more f n xs i x lt is a b =
    let pair : RawName → Of RawName = λ name. (n, name) in
    same_entered (sym (ap (of_unit n) (flat_more f xs i x lt is) ∙ map-append pair (flat_map f (take i xs)) (f x))) (both_entered a b)

pub items_all : {X : Type 0} {first now : Option Fault} {earlier later : List Name} (f : X → List RawName) (n : ℕ) (xs : List X) (i : ℕ) → length xs ≤ i
    → AreEntered first earlier (of_unit n (flat_map f (take i xs))) now later → AreEntered first earlier (of_unit n (flat_map f xs)) now later
items_all f n xs i le a = same_entered (ap (λ ys. of_unit n (flat_map f ys)) (take_all i xs le)) a

-- ---- the names of all files

abbrev pub names_at : ℕ × RawUnit → List (Of RawName)
names_at p = of_unit p.0 (names_in p.1)

pub unit_names_more : {first now last : Option Fault} {earlier later all : List Name} (units : List LoadedUnit) (i : ℕ) (u : LoadedUnit) → i < length units → u ≡ get_or units i u
    → AreEntered first earlier (all_of names_in (take i units)) now later → AreEntered now later (of_unit i (names_in (get_or units i u).unit)) last all → AreEntered first earlier (all_of names_in (take (i + 1) units)) last all
unit_names_more units i u lt is a b =
    same_entered (sym (units_more names_at units i u lt is)) (both_entered a (same_entered (ap (λ (v : LoadedUnit). of_unit i (names_in v.unit)) (sym is)) b))

pub unit_names_all : {first now : Option Fault} {earlier later : List Name} (units : List LoadedUnit) (i : ℕ) → length units ≤ i → AreEntered first earlier (all_of names_in (take i units)) now later → AreEntered first earlier (all_of names_in units) now later
unit_names_all units i le a = same_entered (units_all names_at units i le) a

-- the names of a file are those of its declarations and those of its definitions
pub unit_entered : {first now last : Option Fault} {earlier later all : List Name} (n : ℕ) (u : RawUnit) (ds : List RawDeclaration) (es : List RawDefinition) → ds ≡ u.declarations → es ≡ u.definitions → AreEntered first earlier (of_unit n (flat_map names_in_declaration ds)) now later
    → AreEntered now later (of_unit n (flat_map names_in_definition es)) last all → AreEntered first earlier (of_unit n (names_in u)) last all
unit_entered n u ds es e f a b =
    let pair : RawName → Of RawName = λ name. (n, name) in
    same_entered (sym (map-append pair (flat_map names_in_declaration u.declarations) (flat_map names_in_definition u.definitions)))
    (both_entered (same_entered (ap (λ xs. of_unit n (flat_map names_in_declaration xs)) e) a) (same_entered (ap (λ xs. of_unit n (flat_map names_in_definition xs)) f) b))

pub enumeration_entered : {first now last : Option Fault} {earlier later all : List Name} (n : ℕ) (d : RawDeclaration) (name : RawName) (es fs : List RawName) → d ≡ declaration.Enumeration name es → fs ≡ es → AreEntered first earlier ((n, name) ∷ []) now later → AreEntered now later (of_unit n fs) last all
    → AreEntered first earlier (of_unit n (names_in_declaration d)) last all
enumeration_entered n d name es fs is e a b = same_entered (ap (λ (x : RawDeclaration). of_unit n (names_in_declaration x)) (sym is)) (both_entered a (same_entered (ap (of_unit n) e) b))

-- ---- the main rule's name, and all names

pub none_last : {first : Option Fault} {earlier : List Name} (units : List LoadedUnit) → length units ≡ 0 → AreEntered first earlier (named_of main_names units) first earlier
none_last [] e = none_entered
none_last (u ∷ units) e = absurd (omega (arith, e))

last_entered : {first now : Option Fault} {earlier later : List Name} (units : List LoadedUnit) (i : ℕ) (u : LoadedUnit) (xs : List (Of RawName)) → i + 1 ≡ length units → u ≡ get_or units i u → of_unit i (main_names u.unit) ≡ xs
    → AreEntered first earlier xs now later → AreEntered first earlier (named_of main_names units) now later
last_entered units i u xs end is e a = same_entered (sym (named_last main_names units i u end is ∙ e)) a

pub main_entered : {first now : Option Fault} {earlier later : List Name} (units : List LoadedUnit) (i : ℕ) (u : LoadedUnit) (m : RawMain) → i + 1 ≡ length units → u ≡ get_or units i u → (get_or units i u).unit.main ≡ Some m
    → AreEntered first earlier ((i, m.name) ∷ []) now later → AreEntered first earlier (named_of main_names units) now later
main_entered units i u m end is some a =
    let names : Option RawMain → List (Of RawName) = λ o. of_unit i (map (λ (main : RawMain). main.name) (to_list o)) in last_entered units i u ((i, m.name) ∷ []) end is (ap (λ (v : LoadedUnit). names v.unit.main) is ∙ ap names some) a

pub no_main_entered : {first : Option Fault} {earlier : List Name} (units : List LoadedUnit) (i : ℕ) (u : LoadedUnit) → i + 1 ≡ length units → u ≡ get_or units i u → (get_or units i u).unit.main ≡ None → AreEntered first earlier (named_of main_names units) first earlier
no_main_entered units i u end is none =
    let names : Option RawMain → List (Of RawName) = λ o. of_unit i (map (λ (main : RawMain). main.name) (to_list o)) in last_entered units i u [] end is (ap (λ (v : LoadedUnit). names v.unit.main) is ∙ ap names none) none_entered

pub names_noted : {first now last : Option Fault} {earlier later all : List Name} (units files : List LoadedUnit) → files ≡ units → earlier ≡ boolean ∷ integer ∷ [] → AreEntered first earlier (all_of names_in files) now later → AreEntered now later (named_of main_names files) last all
    → last ≡ noted first (name_faults units)
names_noted {first = first} units files same e a b = (both_entered a b).noted_is ∙ (λ j. noted first (repeats (e j) (declared_names (same j))))
