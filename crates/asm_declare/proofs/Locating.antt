-- How many locations functions have, one function after the other.
use Rattle.std.proofs.Common.{◌≡◌, ℕ, zero, suc, ◌+◌, ◌*◌, ◌<◌, ◌≤◌, Bool, true, false, if◌then◌else◌, nat_lt, List, [], ◌∷◌, ◌++◌, length, map, take, get_or, Option, Some, None, is_none, refl, sym, ap, ◌∙◌, subst, inl, inr, arith, flat_map}
use Rattle.std.proofs.Math.Nat.{mul_assoc}
use Rattle.std.proofs.lemmas.Bool.{cases_lt}
use Rattle.std.proofs.lemmas.Bool.Decides.{nat_tests}
use Rattle.std.proofs.lemmas.List.{append-nil, take_all}
use Rattle.asm_sign.specs.declared.function.DeclaredDomain.{DeclaredDomain}
use Rattle.asm_sign.specs.Kind.{is_dynamic}
use Rattle.asm_tree.specs.declared.term.RawName.{RawName}
use Rattle.asm_tree.specs.declared.unit.RawFunctionKind.{RawFunctionKind}
use Rattle.asm_tree.specs.declared.unit.RawDeclaration.{RawDeclaration}
use Rattle.asm_tree.specs.declared.unit.RawDeclaration.TheVariants as declaration
use Rattle.asm_tree.specs.declared.unit.RawUnit.{RawUnit}
use Rattle.asm_tree.specs.declared.unit.LoadedUnit.{LoadedUnit}
use Rattle.asm_faults.specs.declared.fault.Fault.{Fault}
use Rattle.asm_faults.specs.declared.fault.ModelFault.TheVariants.{TooManyLocations}
use Rattle.asm_faults.specs.At.{fault_at}
use Rattle.asm_faults.specs.First.{noted}
use Rattle.asm_faults.specs.Files.{DeclaredFunction, function_in, functions}
use Rattle.asm_faults.specs.FunctionFaults.{kind_of, number_or_whole, own_faults, size_of, product, location_count, location_faults, domains_of, function_faults}
use Rattle.asm_faults.proofs.Noting.{noted_append}
use Rattle.asm_faults.proofs.Order.{none_at_all}
use Rattle.asm_declare.specs.Measures.{capped, functions_in}
use Rattle.asm_declare.specs.Locations.{count_after, faults_after, AreCounted}
use Rattle.asm_declare.proofs.Walks.{map_more, flat_more, of_all_more}

-- ---- capped numbers

capped_few : (s : ℕ) → nat_lt 4096 s ≡ false → capped s ≡ s
capped_few s e = grind (arith, nat_tests)

capped_many : (s : ℕ) → nat_lt 4096 s ≡ true → capped s ≡ 4097
capped_many s e = grind (arith, nat_tests)

many_same : (s : ℕ) → nat_lt 4096 (capped s) ≡ nat_lt 4096 s
many_same s = by (nat_lt 4096 s) refl
  where
    by : (b : Bool) → nat_lt 4096 s ≡ b → nat_lt 4096 (capped s) ≡ b
    by true e = ap (λ (k : ℕ). nat_lt 4096 k) (capped_many s e)
    by false e = ap (λ (k : ℕ). nat_lt 4096 k) (capped_few s e) ∙ e

capped_le : (s : ℕ) → capped s ≤ 4097
capped_le s = omega arith

more_many : (s c : ℕ) → nat_lt 4096 s ≡ true → nat_lt 4096 (capped (s + c)) ≡ true
more_many s c e = many_same (s + c) ∙ still
  where
    still : nat_lt 4096 (s + c) ≡ true
    still = grind (arith, nat_tests)

-- ---- functions behind others

stays_many : (ds : List DeclaredDomain) (before : ℕ) (fs : List DeclaredFunction) → nat_lt 4096 before ≡ true → nat_lt 4096 (count_after ds before fs) ≡ true
stays_many ds before [] e = e
stays_many ds before (f ∷ fs) e = stays_many ds (capped (before + location_count ds f)) fs (more_many before (location_count ds f) e)

no_more : (ds : List DeclaredDomain) (before : ℕ) (fs : List DeclaredFunction) → nat_lt 4096 before ≡ true → faults_after ds before fs ≡ []
no_more ds before fs e = ap (λ (b : Bool). if b then [] else location_faults ds before fs) e

some_more : (ds : List DeclaredDomain) (before : ℕ) (fs : List DeclaredFunction) → nat_lt 4096 before ≡ false → faults_after ds before fs ≡ location_faults ds before fs
some_more ds before fs e = ap (λ (b : Bool). if b then [] else location_faults ds before fs) e

none_after : (ds : List DeclaredDomain) (before : ℕ) → faults_after ds before [] ≡ []
none_after ds before = by (nat_lt 4096 before)
  where
    by : (b : Bool) → (if b then [] else location_faults ds before []) ≡ []
    by true = refl
    by false = refl

count_both : (ds : List DeclaredDomain) (before : ℕ) (xs ys : List DeclaredFunction) → count_after ds before (xs ++ ys) ≡ count_after ds (count_after ds before xs) ys
count_both ds before [] ys = refl
count_both ds before (f ∷ xs) ys = count_both ds (capped (before + location_count ds f)) xs ys

-- the locations with those of one function are few or many
after_one : (ds : List DeclaredDomain) (s : ℕ) (f : DeclaredFunction) (xs ys : List DeclaredFunction) → (faults_after ds s (xs ++ ys) ≡ faults_after ds s xs ++ faults_after ds (count_after ds s xs) ys) → (b : Bool) → nat_lt 4096 s ≡ b
    → (if nat_lt 4096 s then fault_at TooManyLocations f.unit f.name ∷ [] else location_faults ds s (xs ++ ys)) ≡ (if nat_lt 4096 s then fault_at TooManyLocations f.unit f.name ∷ [] else location_faults ds s xs) ++ faults_after ds (count_after ds (capped s) xs) ys
after_one ds s f xs ys rest true e =
    let last : faults_after ds (count_after ds (capped s) xs) ys ≡ [] = no_more ds (count_after ds (capped s) xs) ys (stays_many ds (capped s) xs (many_same s ∙ e)) in
    let fault : List Fault = fault_at TooManyLocations f.unit f.name ∷ [] in
    ap (λ (b : Bool). if b then fault else location_faults ds s (xs ++ ys)) e ∙ (λ j. (if sym e j then fault else location_faults ds s xs) ++ sym last j)
after_one ds s f xs ys rest false e =
    let same : capped s ≡ s = capped_few s e in
    let fault : List Fault = fault_at TooManyLocations f.unit f.name ∷ [] in
    ap (λ (b : Bool). if b then fault else location_faults ds s (xs ++ ys)) e ∙ sym (some_more ds s (xs ++ ys) e) ∙ rest
    ∙ (λ j. some_more ds s xs e j ++ faults_after ds (count_after ds (sym same j) xs) ys) ∙ ap (λ (b : Bool). (if b then fault else location_faults ds s xs) ++ faults_after ds (count_after ds (capped s) xs) ys) (sym e)

after_both : (ds : List DeclaredDomain) (before : ℕ) (xs ys : List DeclaredFunction) → faults_after ds before (xs ++ ys) ≡ faults_after ds before xs ++ faults_after ds (count_after ds before xs) ys
after_both ds before [] ys = ap (λ l. l ++ faults_after ds before ys) (sym (none_after ds before))
after_both ds before (f ∷ xs) ys = by (nat_lt 4096 before) refl (after_one ds (before + location_count ds f) f xs ys (after_both ds (before + location_count ds f) xs ys) (nat_lt 4096 (before + location_count ds f)) refl)
  where
    by : (b : Bool) → nat_lt 4096 before ≡ b → location_faults ds before (f ∷ (xs ++ ys)) ≡ location_faults ds before (f ∷ xs) ++ faults_after ds (count_after ds (capped (before + location_count ds f)) xs) ys
        → faults_after ds before (f ∷ (xs ++ ys)) ≡ faults_after ds before (f ∷ xs) ++ faults_after ds (count_after ds (capped (before + location_count ds f)) xs) ys
    by true e few =
        let after : ℕ = capped (before + location_count ds f) in
        let last : faults_after ds (count_after ds after xs) ys ≡ [] = no_more ds (count_after ds after xs) ys (stays_many ds after xs (more_many before (location_count ds f) e)) in
        no_more ds before (f ∷ (xs ++ ys)) e ∙ (λ j. sym (no_more ds before (f ∷ xs) e) j ++ sym last j)
    by false e few = some_more ds before (f ∷ (xs ++ ys)) e ∙ few ∙ ap (λ l. l ++ faults_after ds (count_after ds (capped (before + location_count ds f)) xs) ys) (sym (some_more ds before (f ∷ xs) e))

pub none_counted : {domains : List DeclaredDomain} {first : Option Fault} {before : ℕ} → before ≤ 4097 → AreCounted domains first before [] first before
none_counted {domains} {first} {before} le = record { noted_is = ap (noted first) (sym (none_after domains before)); count_is = refl; few = le }

pub both_counted : {domains : List DeclaredDomain} {first middle now : Option Fault} {before between after : ℕ} {xs ys : List DeclaredFunction} → AreCounted domains first before xs middle between → AreCounted domains middle between ys now after → AreCounted domains first before (xs ++ ys) now after
both_counted {domains} {first} {middle} {now} {before} {between} {after} {xs} {ys} a b = record {
  noted_is = b.noted_is ∙ (λ j. noted (a.noted_is j) (faults_after domains (a.count_is j) ys)) ∙ sym (noted_append first (faults_after domains before xs) (faults_after domains (count_after domains before xs) ys)) ∙ ap (noted first) (sym (after_both domains before xs ys));
  count_is = b.count_is ∙ ap (λ (k : ℕ). count_after domains k ys) a.count_is ∙ sym (count_both domains before xs ys);
  few = b.few;
}

pub same_counted : {domains : List DeclaredDomain} {first now : Option Fault} {before after : ℕ} {xs ys : List DeclaredFunction} → xs ≡ ys → AreCounted domains first before xs now after → AreCounted domains first before ys now after
same_counted {domains} {first} {now} {before} {after} e a = subst (λ fs. AreCounted domains first before fs now after) e a

pub counted_more : {domains : List DeclaredDomain} {first middle now : Option Fault} {before between after : ℕ} (n : ℕ) (xs : List RawDeclaration) (i : ℕ) (x : RawDeclaration) → i < length xs → x ≡ get_or xs i x
    → AreCounted domains first before (functions_in n (take i xs)) middle between → AreCounted domains middle between (function_in (n, x)) now after → AreCounted domains first before (functions_in n (take (i + 1) xs)) now after
counted_more n xs i x lt is a b =
    let f : RawDeclaration → List DeclaredFunction = λ d. function_in (n, d) in same_counted (sym (flat_more f xs i x lt is)) (both_counted a b)

pub counted_all : {domains : List DeclaredDomain} {first now : Option Fault} {before after : ℕ} (n : ℕ) (xs : List RawDeclaration) (i : ℕ) → length xs ≤ i → AreCounted domains first before (functions_in n (take i xs)) now after → AreCounted domains first before (functions_in n xs) now after
counted_all n xs i le a = same_counted (ap (functions_in n) (take_all i xs le)) a

pub units_counted_more : {domains : List DeclaredDomain} {first middle now : Option Fault} {before between after : ℕ} (units : List LoadedUnit) (i : ℕ) (u : LoadedUnit) (ds : List RawDeclaration) → ds ≡ (get_or units i u).unit.declarations → i < length units → u ≡ get_or units i u
    → AreCounted domains first before (functions (take i units)) middle between → AreCounted domains middle between (functions_in i ds) now after → AreCounted domains first before (functions (take (i + 1) units)) now after
units_counted_more units i u ds e lt is a b =
    let f : RawUnit → List RawDeclaration = λ v. v.declarations in
    same_counted (sym (of_all_more function_in f units i u lt is)) (both_counted a (same_counted (ap (functions_in i) (e ∙ ap (λ (v : LoadedUnit). v.unit.declarations) (sym is))) b))

pub units_counted_all : {domains : List DeclaredDomain} {first now : Option Fault} {before after : ℕ} (units : List LoadedUnit) (i : ℕ) → length units ≤ i → AreCounted domains first before (functions (take i units)) now after → AreCounted domains first before (functions units) now after
units_counted_all units i le a = same_counted (ap functions (take_all i units le)) a

-- ---- one function

abbrev pub argument_size : List DeclaredDomain → RawName → ℕ
argument_size domains d = size_of domains (number_or_whole domains d)

-- the locations of a function, with which nothing is wrong or something is
abbrev pub chosen_count : List DeclaredDomain → Bool → Bool → List RawName → ℕ
chosen_count domains fine dynamic ds = if fine then (if dynamic then product (map (λ d. size_of domains (number_or_whole domains d)) ds) else 0) else 0

never : {a : Fault} {fs : List Fault} → (a ∷ fs) ≡ [] → ⊥
never e = absurd (cc (e))

some_noted : (a : Fault) (fs : List Fault) (o : Option Fault) → noted None (a ∷ fs) ≡ o → is_none o ≡ false
some_noted a fs (Some b) e = refl
some_noted a fs None e = absurd (never (none_at_all (a ∷ fs) e))

count_is : (domains : List DeclaredDomain) (f : DeclaredFunction) (fine : Bool) → fine ≡ is_none (noted None (flat_map (own_faults domains) (f ∷ []))) → chosen_count domains fine (is_dynamic (kind_of f.kind)) f.domains ≡ location_count domains f
count_is domains f fine e = by (own_faults domains f) refl (e ∙ ap (λ fs. is_none (noted None fs)) (append-nil (own_faults domains f)))
  where
    by : (fs : List Fault) → own_faults domains f ≡ fs → fine ≡ is_none (noted None fs) → chosen_count domains fine (is_dynamic (kind_of f.kind)) f.domains ≡ location_count domains f
    by [] none g = ap (λ (b : Bool). chosen_count domains b (is_dynamic (kind_of f.kind)) f.domains) g ∙ rw none refl
    by (a ∷ fs) some g = ap (λ (b : Bool). chosen_count domains b (is_dynamic (kind_of f.kind)) f.domains) (g ∙ some_noted a fs (noted None (a ∷ fs)) refl) ∙ rw some refl

pub function_counted : (domains : List DeclaredDomain) (first now : Option Fault) (before count after n : ℕ) (item : RawDeclaration) (kind : RawFunctionKind) (name : RawName) (ds ys : List RawName) (c : RawName) (fine dynamic : Bool) → item ≡ declaration.Function kind name ds c → ys ≡ ds
    → fine ≡ is_none (noted None (flat_map (own_faults domains) (function_in (n, item)))) → dynamic ≡ is_dynamic (kind_of kind) → count ≡ capped (chosen_count domains fine dynamic ys) → after ≡ capped (before + count)
    → now ≡ noted first (if nat_lt 4096 before then [] else (if nat_lt 4096 after then fault_at TooManyLocations n name ∷ [] else [])) → AreCounted domains first before (function_in (n, item)) now after
function_counted domains first now before count after n item kind name ds ys c fine dynamic told same told_fine told_kind told_count sum a =
    let f : DeclaredFunction = record { unit = n; kind = kind; name = name; domains = ds; codomain = c } in
    let fault : List Fault = fault_at TooManyLocations n name ∷ [] in
    let is_fine : fine ≡ is_none (noted None (flat_map (own_faults domains) (f ∷ []))) = told_fine ∙ ap (λ (x : RawDeclaration). is_none (noted None (flat_map (own_faults domains) (function_in (n, x))))) told in
    let own : count ≡ capped (location_count domains f) = told_count ∙ (λ j. capped (chosen_count domains fine (told_kind j) (same j))) ∙ ap capped (count_is domains f fine is_fine) in
    let whole : after ≡ capped (before + location_count domains f) = sum ∙ ap (λ (k : ℕ). capped (before + k)) own ∙ sum_capped before (location_count domains f) in
    same_counted (ap (λ (x : RawDeclaration). function_in (n, x)) (sym told)) (record {
      noted_is = a ∙ ap (λ (b : Bool). noted first (if nat_lt 4096 before then [] else (if b then fault else []))) (ap (λ (k : ℕ). nat_lt 4096 k) whole ∙ many_same (before + location_count domains f));
      count_is = whole;
      few = omega (arith, whole);
    })
  where
    sum_capped : (b k : ℕ) → capped (b + capped k) ≡ capped (b + k)
    sum_capped b k = omega arith

pub no_function : {domains : List DeclaredDomain} {first : Option Fault} {before : ℕ} {fs : List DeclaredFunction} → before ≤ 4097 → fs ≡ [] → AreCounted domains first before fs first before
no_function le e = same_counted (sym e) (none_counted le)

-- ---- products

product_more : (xs : List ℕ) (k : ℕ) → product (xs ++ k ∷ []) ≡ product xs * k
product_more [] k = omega arith
product_more (x ∷ xs) k = ap (λ (m : ℕ). x * m) (product_more xs k) ∙ sym (mul_assoc x (product xs) k)

times_suc : (a b : ℕ) → a * suc b ≡ a * b + a
times_suc a b = omega arith

times_many : (a b : ℕ) → 4097 ≤ a → 4097 ≤ a * suc b
times_many a b le = let e : a * suc b ≡ a * b + a = times_suc a b in omega (arith, e)

capped_times : (a b : ℕ) → capped (capped a * b) ≡ capped (a * b)
capped_times a zero = let e : capped a * 0 ≡ 0 = omega arith in let f : a * 0 ≡ 0 = omega arith in ap capped (e ∙ sym f)
capped_times a (suc b) =
    elim (cases_lt a 4097) [
      | inl lt ↦ let e : capped a ≡ a = omega arith in ap (λ (k : ℕ). capped (k * suc b)) e
      | inr le ↦
          let e : capped a ≡ 4097 = omega arith in
          let many : 4097 ≤ a * suc b = times_many a b le in
          let other : 4097 ≤ 4097 * suc b = times_many 4097 b (omega arith) in
          let here : capped (a * suc b) ≡ 4097 = cut (a * suc b) many in
          let there : capped (4097 * suc b) ≡ 4097 = cut (4097 * suc b) other in
          ap (λ (k : ℕ). capped (k * suc b)) e ∙ there ∙ sym here
    ]
  where
    cut : (s : ℕ) → 4097 ≤ s → capped s ≡ 4097
    cut s le = omega arith

pub tuples_more : (f : RawName → ℕ) (xs : List RawName) (i : ℕ) (x : RawName) (count size now : ℕ) → i < length xs → x ≡ get_or xs i x → count ≡ capped (product (map f (take i xs))) → size ≡ f x → now ≡ capped (count * size) → now ≡ capped (product (map f (take (i + 1) xs)))
tuples_more f xs i x count size now lt is a b e =
    e ∙ (λ j. capped (a j * b j)) ∙ capped_times (product (map f (take i xs))) (f x) ∙ ap capped (sym (product_more (map f (take i xs)) (f x)) ∙ ap product (sym (map_more f xs i x lt is)))

pub tuples_all : (f : RawName → ℕ) (xs : List RawName) (i count : ℕ) → length xs ≤ i → count ≡ capped (product (map f (take i xs))) → count ≡ capped (product (map f xs))
tuples_all f xs i count le a = a ∙ ap (λ ys. capped (product (map f ys))) (take_all i xs le)

-- ---- the whole

pub functions_noted : (units files : List LoadedUnit) (domains : List DeclaredDomain) (first middle last : Option Fault) (after : ℕ) → files ≡ units → domains ≡ domains_of units → middle ≡ noted first (flat_map (own_faults domains) (functions files)) → AreCounted domains middle 0 (functions files) last after
    → last ≡ noted first (function_faults units)
functions_noted units files domains first middle last after same known a b =
    b.noted_is ∙ ap (λ m. noted m (location_faults domains 0 (functions files))) a ∙ sym (noted_append first (flat_map (own_faults domains) (functions files)) (location_faults domains 0 (functions files)))
    ∙ (λ j. noted first (flat_map (own_faults (known j)) (functions (same j)) ++ location_faults (known j) 0 (functions (same j))))
