-- Functions and their definitions, by the numbers of functions.
use Rattle.std.proofs.Common.{◌≡◌, ℕ, zero, suc, ◌+◌, ◌-◌, ◌<◌, ◌≤◌, Bool, true, false, true≢false, ◌||◌, cond, nat_eq, List, [], ◌∷◌, ◌++◌, map, length, get_or, set, slice_get, drop, drop-cons, add-one, Option, Some, None, ◌⊎◌, inl, inr, refl, sym, ap, ◌∙◌, subst, arith}
use Rattle.std.specs.Str.{bytes_eq}
use Rattle.std.specs.List.{find, list_any, position_from}
use Rattle.std.specs.Option.{option_map}
use Rattle.std.proofs.lemmas.Bool.{eqb-true as same_number, eq-eqb as number_same}
use Rattle.std.proofs.lemmas.Iterator.Adapters.{position_from-zero}
use Rattle.std.proofs.lemmas.List.{length-map, length-append, length-set, get_or-set_same, get_or-set_other}
use Rattle.std.proofs.lemmas.Option.{get_or_from_slice_get, slice_get-map}
use Rattle.std.proofs.lemmas.Slice.Eq.{bytes_eq-Decides}
use Rattle.asm_sign.specs.declared.function.Function.{Function}
use Rattle.asm_sign.specs.declared.function.FunKind.{FunKind}
use Rattle.asm_sign.specs.Kind.{is_dynamic}
use Rattle.asm_sign.specs.Vocabulary.{Vocabulary}
use Rattle.asm_node.specs.Machine.{is_monitored}
use Rattle.asm_tree.specs.declared.unit.RawFunction.{RawFunction}
use Rattle.asm_tree.specs.declared.unit.LoadedUnit.{LoadedUnit}
use Rattle.call_graph.specs.declared.graph.Node.{Node}
use Rattle.call_graph.specs.Calls.{no_node, calls_of, is_in}
use Rattle.asm_faults.specs.At.{Name}
use Rattle.asm_faults.specs.Files.{Of, to_list, has_name, definitions}
use Rattle.asm_faults.specs.Terms.{function_place}
use Rattle.asm_faults.specs.Calls.{Names, node_of, numbers_of, called, definition_named, function_node, function_graph}
use Rattle.asm_calls.specs.declared.caller.Caller.{Caller}
use Rattle.asm_calls.specs.declared.read.Read.{Read}
use Rattle.asm_calls.specs.declared.read.Reading.{Reading}
use Rattle.asm_calls.specs.declared.read.Reading.TheVariants as reading
use Rattle.asm_calls.specs.Called.{found_of, read_at, read_of, functions_in}
use Rattle.asm_calls.specs.Callers.{reader, function_caller}
use Rattle.asm_calls.specs.Graphs.{is_number, end_of, placed, IsPlaced, node_at, if_reads, reads_at}
use Rattle.asm_calls.specs.Reads.{kinds_of, reads_itself}
use Rattle.asm_calls.proofs.Agreeing.{Agree}
use Rattle.asm_calls.proofs.Gathering.{drop_past}

-- ---- the function of a number

record IsAt {A : Type 0} (test : A → Bool) (k : ℕ) (xs : List A) (n : ℕ) : Type 0 where
  index : ℕ
  item : A
  place : n ≡ k + index
  below : index < length xs
  there : slice_get xs index ≡ Some item
  holds : test item ≡ true

at_position : {A : Type 0} (test : A → Bool) (k : ℕ) (xs : List A) (n : ℕ) → position_from test k xs ≡ Some n → IsAt test k xs n
at_position test k [] n e = absurd (cc (e))
at_position {A} test k (x ∷ xs) n e =
    elim (test x) as (λ (b : Bool). test x ≡ b → cond b (Some k) (position_from test (k + 1) xs) ≡ Some n → IsAt test k (x ∷ xs) n) [
      | true ↦ λ t s. (let same : k ≡ n = cc in record { index = 0; item = x; place = omega arith; below = omega arith; there = refl; holds = t })
      | false ↦ λ t s. (let rest = at_position test (k + 1) xs n s in
          let place = rest.place in let below = rest.below in
          record { index = suc rest.index; item = rest.item; place = omega arith; below = omega arith; there = rest.there; holds = rest.holds })
    ] refl e

-- the function of a name at a number
pub record IsFunction (v : Vocabulary) (x : Name) (n : ℕ) : Type 0 where
  pub function : Function
  pub there : slice_get v.functions n ≡ Some function
  pub name : function.name ≡ x
  pub below : n < length v.functions

pub number_is : (v : Vocabulary) (x : Name) (n : ℕ) → function_place v x ≡ Some n → IsFunction v x n
number_is v x n e =
    let test : Function → Bool = λ f. bytes_eq f.name x in
    let found : IsAt test 0 v.functions n = at_position test 0 v.functions n (sym (position_from-zero test v.functions) ∙ e) in
    let place = found.place in
    let below = found.below in
    let same : found.index ≡ n = omega arith in
    record {
      function = found.item;
      there = ap (slice_get v.functions) (sym same) ∙ found.there;
      name = (bytes_eq-Decides found.item.name x).0 found.holds;
      below = omega arith;
    }

-- ---- what the definition of a name reads

abbrev pub names_or_none : Option (Of RawFunction) → Names
names_or_none None = []
names_or_none (Some p) = called p.1.term

abbrev pub names_in : List LoadedUnit → Name → Names
names_in units x = names_or_none (definition_named units x)

abbrev pub node_by : Vocabulary → Option (Of RawFunction) → Node
node_by v o = node_of (option_map (λ (p : Of RawFunction). numbers_of (function_place v) (called p.1.term)) o)

node_calls : (v : Vocabulary) (o : Option (Of RawFunction)) → calls_of (node_by v o) ≡ numbers_of (function_place v) (names_or_none o)
node_calls v None = refl
node_calls v (Some p) = refl

node_named : (v : Vocabulary) (units : List LoadedUnit) (x : Name) (n : ℕ) → function_place v x ≡ Some n → get_or (function_graph v units) n no_node ≡ node_by v (definition_named units x)
node_named v units x n e =
    let is = number_is v x n e in
    get_or_from_slice_get (function_graph v units) n (function_node v units is.function) no_node (slice_get-map (function_node v units) v.functions n ∙ ap (option_map (function_node v units)) is.there)
    ∙ ap (λ (y : Name). node_by v (definition_named units y)) is.name

-- ---- the numbers and the kinds of what is read

abbrev function_at : Vocabulary → Option ℕ → Option Function
function_at v None = None
function_at v (Some f) = slice_get v.functions f

abbrev read_by : Vocabulary → Option ℕ → Option Read
read_by v o = read_at o (function_at v o)

number_one : (v : Vocabulary) (o : Option ℕ) → ((n : ℕ) → o ≡ Some n → (f : Function) × (slice_get v.functions n ≡ Some f)) → (rs : List Read) (ns : List ℕ) → map (λ (r : Read). r.number) rs ≡ ns
    → map (λ (r : Read). r.number) (to_list (read_by v o) ++ rs) ≡ to_list o ++ ns
number_one v None h rs ns e = e
number_one v (Some n) h rs ns e =
    let is = h n refl in
    ap (λ (f : Option Function). map (λ (r : Read). r.number) (to_list (read_at (Some n) f) ++ rs)) is.1 ∙ ap (λ (ms : List ℕ). n ∷ ms) e

pub numbers_read : (v : Vocabulary) (xs : Names) → map (λ (r : Read). r.number) (found_of (read_of v) xs) ≡ numbers_of (function_place v) xs
numbers_read v [] = refl
numbers_read v (x ∷ xs) =
    number_one v (function_place v x) (λ n e. (let is = number_is v x n e in (is.function, is.there))) (found_of (read_of v) xs) (numbers_of (function_place v) xs) (numbers_read v xs)

-- for each function whether it is of such a kind
abbrev pub marks : Vocabulary → (FunKind → Bool) → List Bool
marks v kinds = map (λ (f : Function). kinds f.kind) v.functions

kind_one : (v : Vocabulary) (kinds : FunKind → Bool) (o : Option ℕ) → ((n : ℕ) → o ≡ Some n → (f : Function) × (slice_get v.functions n ≡ Some f)) → (rs : List Read) (ns : List ℕ)
    → list_any (λ (r : Read). kinds r.kind) rs ≡ list_any (is_in (marks v kinds)) ns → list_any (λ (r : Read). kinds r.kind) (to_list (read_by v o) ++ rs) ≡ list_any (is_in (marks v kinds)) (to_list o ++ ns)
kind_one v kinds None h rs ns e = e
kind_one v kinds (Some n) h rs ns e =
    let is = h n refl in
    let mark : is_in (marks v kinds) n ≡ kinds is.0.kind = get_or_from_slice_get (marks v kinds) n (kinds is.0.kind) false (slice_get-map (λ (f : Function). kinds f.kind) v.functions n ∙ ap (option_map (λ (f : Function). kinds f.kind)) is.1) in
    ap (λ (f : Option Function). list_any (λ (r : Read). kinds r.kind) (to_list (read_at (Some n) f) ++ rs)) is.1 ∙ ap (λ (b : Bool). kinds is.0.kind || b) e ∙ ap (λ (b : Bool). b || list_any (is_in (marks v kinds)) ns) (sym mark)

kinds_read : (v : Vocabulary) (kinds : FunKind → Bool) (xs : Names) → list_any (λ (r : Read). kinds r.kind) (found_of (read_of v) xs) ≡ list_any (is_in (marks v kinds)) (numbers_of (function_place v) xs)
kinds_read v kinds [] = refl
kinds_read v kinds (x ∷ xs) =
    kind_one v kinds (function_place v x) (λ n e. (let is = number_is v x n e in (is.function, is.there))) (found_of (read_of v) xs) (numbers_of (function_place v) xs) (kinds_read v kinds xs)

-- what the reader of a term reads itself
pub reader_reads : (v : Vocabulary) (r : Reading) (n at : ℕ) (name : Name) (xs : Names) → reads_itself r (reader n at name (found_of (read_of v) xs)) ≡ list_any (is_in (marks v (kinds_of r))) (numbers_of (function_place v) xs)
reader_reads v reading.Dynamic n at name xs = kinds_read v is_dynamic xs
reader_reads v reading.Monitored n at name xs = kinds_read v is_monitored xs

-- ---- the places of definitions

is_number_some : (o : Option ℕ) (n : ℕ) → is_number o n ≡ true → o ≡ Some n
is_number_some None n e = absurd (cc (e))
is_number_some (Some m) n e = ap (λ (k : ℕ). Some k) (same_number m n e)

both_ways : (a b : Bool) → (a ≡ true → b ≡ true) → (b ≡ true → a ≡ true) → a ≡ b
both_ways true true f g = refl
both_ways true false f g = sym (f refl)
both_ways false true f g = g refl
both_ways false false f g = refl

name_number : (v : Vocabulary) (x y : Name) (n : ℕ) → function_place v x ≡ Some n → is_number (function_place v y) n ≡ bytes_eq y x
name_number v x y n e =
    both_ways (is_number (function_place v y) n) (bytes_eq y x)
    (λ s. (let own = number_is v x n e in
    let other = number_is v y n (is_number_some (function_place v y) n s) in
    let some : Some own.function ≡ Some other.function = sym own.there ∙ other.there in
    let same : own.function ≡ other.function = cc in
    (bytes_eq-Decides y x).1 (sym other.name ∙ ap (λ (f : Function). f.name) (sym same) ∙ own.name)))
    (λ s. (let same : y ≡ x = (bytes_eq-Decides y x).0 s in
    ap (λ (o : Option ℕ). is_number o n) (ap (function_place v) same ∙ e) ∙ number_same n n refl))

placed_found : (v : Vocabulary) (x : Name) (n : ℕ) → function_place v x ≡ Some n → (k : ℕ) (cs : List Caller) → placed v k cs n ≡ position_from (λ (c : Caller). bytes_eq c.name x) k cs
placed_found v x n e k [] = refl
placed_found v x n e k (c ∷ cs) = λ j. cond (name_number v x c.name n e j) (Some k) (placed_found v x n e (k + 1) cs j)

position_map : {A B : Type 0} (test : B → Bool) (f : A → B) (k : ℕ) (xs : List A) → position_from test k (map f xs) ≡ position_from (λ x. test (f x)) k xs
position_map test f k [] = refl
position_map test f k (x ∷ xs) = ap (λ o. cond (test (f x)) (Some k) o) (position_map test f (k + 1) xs)

-- what is found stands at the first place
found_from : {X : Type 0} (p : X → Bool) (k : ℕ) (xs : List X) → ((find p xs ≡ None) × (position_from p k xs ≡ None)) ⊎ ((i : ℕ) × (position_from p k xs ≡ Some (k + i)) × (slice_get xs i ≡ find p xs))
found_from p k [] = inl (refl, refl)
found_from {X} p k (x ∷ xs) =
    elim (p x) as (λ (b : Bool). ((cond b (Some x) (find p xs) ≡ None) × (cond b (Some k) (position_from p (k + 1) xs) ≡ None)) ⊎ ((i : ℕ) × (cond b (Some k) (position_from p (k + 1) xs) ≡ Some (k + i)) × (slice_get (x ∷ xs) i ≡ cond b (Some x) (find p xs)))) [
      | true ↦ inr (0, ap Some (omega arith), refl)
      | false ↦ elim (found_from p (k + 1) xs) [
        | inl none ↦ inl none
        | inr some ↦ inr (suc some.0, some.1 ∙ ap Some (omega arith), some.2)
      ]
    ]

-- what stands at a place is what is found
abbrev item_at : {X : Type 0} → List X → Option ℕ → Option X
item_at xs None = None
item_at xs (Some i) = slice_get xs i

item_found : {X : Type 0} (p : X → Bool) (xs : List X) → item_at xs (position_from p 0 xs) ≡ find p xs
item_found p xs =
    elim (found_from p 0 xs) [
      | inl none ↦ ap (item_at xs) none.1 ∙ sym none.0
      | inr some ↦ ap (item_at xs) some.1 ∙ ap (slice_get xs) (omega arith) ∙ some.2
    ]

node_item : (cs : List Caller) (o : Option ℕ) → node_at cs o ≡ node_of (option_map (λ (c : Caller). c.calls) (item_at cs o))
node_item cs None = refl
node_item cs (Some i) = refl

reads_item : (r : Reading) (cs : List Caller) (o : Option ℕ) → reads_at r cs o ≡ if_reads r (item_at cs o)
reads_item r cs None = refl
reads_item r cs (Some i) = refl

item_map : {X Y : Type 0} (f : X → Y) (xs : List X) (o : Option ℕ) → item_at (map f xs) o ≡ option_map f (item_at xs o)
item_map f xs None = refl
item_map f xs (Some i) = slice_get-map f xs i

get_or_map : {X Y : Type 0} (f : X → Y) (xs : List X) (n : ℕ) (d : X) → get_or (map f xs) n (f d) ≡ f (get_or xs n d)
get_or_map f [] n d = refl
get_or_map f (x ∷ xs) zero d = refl
get_or_map f (x ∷ xs) (suc n) d = get_or_map f xs n d

by_option : (v : Vocabulary) (o : Option (Of RawFunction)) → node_of (option_map (λ (c : Caller). c.calls) (option_map (function_caller v) o)) ≡ node_by v o
unfolding functions_in
by_option v None = refl
by_option v (Some p) = ap (λ (ns : List ℕ). node_of (Some ns)) (numbers_read v (called p.1.term))

reads_option : (v : Vocabulary) (r : Reading) (o : Option (Of RawFunction)) → if_reads r (option_map (function_caller v) o) ≡ list_any (is_in (marks v (kinds_of r))) (numbers_of (function_place v) (names_or_none o))
unfolding functions_in
reads_option v r None = refl
reads_option v r (Some p) = reader_reads v r p.0 p.1.name.at p.1.name.text (called p.1.term)

-- ---- the graph of the definitions that stand at places

module _ (v : Vocabulary) (units : List LoadedUnit) where
  abbrev pub readers : List Caller
  readers = map (function_caller v) (definitions units)

  item_named : (x : Name) → item_at readers (position_from (λ (c : Caller). bytes_eq c.name x) 0 readers) ≡ option_map (function_caller v) (definition_named units x)
  item_named x =
      let test : Of RawFunction → Bool = λ p. has_name x p.1.name in
      ap (item_at readers) (position_map (λ (c : Caller). bytes_eq c.name x) (function_caller v) 0 (definitions units))
      ∙ item_map (function_caller v) (definitions units) (position_from test 0 (definitions units))
      ∙ ap (option_map (function_caller v)) (item_found test (definitions units))

  module _ (places : List (Option ℕ)) (are : IsPlaced v readers places) where
    item_placed : (x : Name) (n : ℕ) → function_place v x ≡ Some n → item_at readers (get_or places n None) ≡ option_map (function_caller v) (definition_named units x)
    item_placed x n e = ap (item_at readers) (are.first n ∙ placed_found v x n e 0 readers) ∙ item_named x

    node_placed : (x : Name) (n : ℕ) → function_place v x ≡ Some n → get_or (map (node_at readers) places) n no_node ≡ get_or (function_graph v units) n no_node
    node_placed x n e =
        get_or_map (node_at readers) places n None
        ∙ node_item readers (get_or places n None)
        ∙ ap (λ (o : Option Caller). node_of (option_map (λ (c : Caller). c.calls) o)) (item_placed x n e)
        ∙ by_option v (definition_named units x)
        ∙ sym (node_named v units x n e)

    -- the graph that is made agrees with that of all functions
    pub agree : Agree (function_place v) (names_in units) (function_graph v units) (map (node_at readers) places)
    agree = record { same = node_placed; calls_are = λ x n e. ap calls_of (node_named v units x n e) ∙ node_calls v (definition_named units x) }

    -- which definitions read functions of such a kind themselves
    pub own_marks : (r : Reading) (x : Name) (n : ℕ) → function_place v x ≡ Some n
        → is_in (map (reads_at r readers) places) n ≡ list_any (is_in (marks v (kinds_of r))) (numbers_of (function_place v) (names_in units x))
    own_marks r x n e =
        get_or_map (reads_at r readers) places n None
        ∙ reads_item r readers (get_or places n None)
        ∙ ap (if_reads r) (item_placed x n e)
        ∙ reads_option v r (definition_named units x)

    pub graph_short : length (map (node_at readers) places) ≤ length (function_graph v units)
    graph_short =
        let one = length-map places (node_at readers) in
        let other = length-map v.functions (function_node v units) in
        let short = are.short in
        omega arith

-- ---- filling places

-- one more definition, from the last on
pub placed_next : (v : Vocabulary) (cs : List Caller) (i : ℕ) (c : Caller) (old new : List (Option ℕ)) (o : Option ℕ) → i < length cs → c ≡ get_or cs i c → o ≡ function_place v c.name
    → ((n : ℕ) → get_or old n None ≡ placed v (i + 1) (drop (i + 1) cs) n) → ((n : ℕ) → get_or new n None ≡ cond (is_number o n) (Some i) (get_or old n None)) → (n : ℕ) → get_or new n None ≡ placed v i (drop i cs) n
placed_next v cs i c old new o lt is number before put n =
    let front : drop i cs ≡ c ∷ drop (i + 1) cs = drop-cons cs i c lt ∙ ap (λ (x : Caller). x ∷ drop (suc i) cs) (sym is) ∙ ap (λ (k : ℕ). c ∷ drop k cs) (sym (add-one i)) in
    put n ∙ (λ j. cond (is_number (number j) n) (Some i) (before n j)) ∙ sym (ap (λ (xs : List Caller). placed v i xs n) front)

pub placed_none : (v : Vocabulary) (cs : List Caller) (k : ℕ) (n : ℕ) → length cs ≤ k → get_or [] n None ≡ placed v k (drop k cs) n
placed_none v cs k n le = sym (ap (λ (xs : List Caller). placed v k xs n) (drop_past cs k le))

pub placed_turn : (v : Vocabulary) (cs : List Caller) (count behind place : ℕ) (c : Caller) (old new : List (Option ℕ)) (o : Option ℕ) → count ≡ length cs → behind < count → place ≡ count - 1 - behind → c ≡ get_or cs place c → o ≡ function_place v c.name
    → ((n : ℕ) → get_or old n None ≡ placed v (count - behind) (drop (count - behind) cs) n) → ((n : ℕ) → get_or new n None ≡ cond (is_number o n) (Some place) (get_or old n None))
    → (n : ℕ) → get_or new n None ≡ placed v (count - (behind + 1)) (drop (count - (behind + 1)) cs) n
placed_turn v cs count behind place c old new o all lt here is number before put n =
    let next : count - behind ≡ place + 1 = omega arith in
    let same : place ≡ count - (behind + 1) = omega arith in
    placed_next v cs place c old new o (omega arith) is number (λ m. before m ∙ ap (λ (k : ℕ). placed v k (drop k cs) m) next) put n ∙ ap (λ (k : ℕ). placed v k (drop k cs) n) same

end_short : (v : Vocabulary) (o : Option ℕ) → ((n : ℕ) → o ≡ Some n → n < length v.functions) → end_of o ≤ length v.functions
end_short v None h = omega arith
end_short v (Some n) h = let lt = h n refl in omega arith

-- the number of a function is within all
pub number_short : (v : Vocabulary) (x : Name) (o : Option ℕ) → o ≡ function_place v x → end_of o ≤ length v.functions
number_short v x o e = end_short v o (λ n s. (number_is v x n (sym e ∙ s)).below)

pub placed_all : (v : Vocabulary) (cs : List Caller) (count behind : ℕ) (places items : List (Option ℕ)) → count ≤ behind → places ≡ items
    → ((n : ℕ) → get_or items n None ≡ placed v (count - behind) (drop (count - behind) cs) n) → length items ≤ length v.functions → IsPlaced v cs places
placed_all v cs count behind places items le same first short =
    let done : count - behind ≡ 0 = omega arith in
    record {
      first = λ n. ap (λ (xs : List (Option ℕ)). get_or xs n None) same ∙ first n ∙ ap (λ (k : ℕ). placed v k (drop k cs) n) done;
      short = subst (λ (xs : List (Option ℕ)). length xs ≤ length v.functions) (sym same) short;
    }

pub placed_begin : (v : Vocabulary) (cs : List Caller) (count : ℕ) (places : List (Option ℕ)) → count ≡ length cs → places ≡ []
    → ((n : ℕ) → get_or places n None ≡ placed v (count - 0) (drop (count - 0) cs) n) × (length places ≤ length v.functions)
placed_begin v cs count places all none =
    (λ n. ap (λ (xs : List (Option ℕ)). get_or xs n None) none ∙ placed_none v cs (count - 0) n (omega arith), subst (λ (xs : List (Option ℕ)). length xs ≤ length v.functions) (sym none) (omega arith))

none_last : (xs : List (Option ℕ)) (n : ℕ) → get_or (xs ++ None ∷ []) n None ≡ get_or xs n None
none_last [] zero = refl
none_last [] (suc n) = refl
none_last (x ∷ xs) zero = refl
none_last (x ∷ xs) (suc n) = none_last xs n

-- one more empty place
pub grown_place : (initial old new : List (Option ℕ)) (counter needed : ℕ) → counter < needed → new ≡ old ++ None ∷ []
    → ((n : ℕ) → get_or old n None ≡ get_or initial n None) → length old ≡ counter → ((bound : ℕ) → length initial ≤ bound → needed ≤ bound → counter ≤ bound)
    → ((n : ℕ) → get_or new n None ≡ get_or initial n None) × (length new ≡ counter + 1) × ((bound : ℕ) → length initial ≤ bound → needed ≤ bound → counter + 1 ≤ bound)
grown_place initial old new counter needed lt e same long short = (
  λ n. ap (λ (xs : List (Option ℕ)). get_or xs n None) e ∙ none_last old n ∙ same n,
  ap length e ∙ length-append old (None ∷ []) ∙ ap (λ (k : ℕ). k + 1) long,
  λ bound a b. omega arith,
)

-- a place that is put under a number
pub put_place : (old grown : List (Option ℕ)) (number place : ℕ) → number + 1 ≤ length grown → ((n : ℕ) → get_or grown n None ≡ get_or old n None)
    → (n : ℕ) → get_or (set grown number (Some place)) n None ≡ cond (nat_eq number n) (Some place) (get_or old n None)
put_place old grown number place enough same n =
    elim (nat_eq number n) as (λ (b : Bool). nat_eq number n ≡ b → get_or (set grown number (Some place)) n None ≡ cond b (Some place) (get_or old n None)) [
      | true ↦ λ e. (let here : number ≡ n = same_number number n e in ap (λ (m : ℕ). get_or (set grown number (Some place)) m None) (sym here) ∙ get_or-set_same grown number (Some place) None (omega arith))
      | false ↦ λ e. get_or-set_other grown number n (Some place) None (λ s. true≢false (sym (number_same number n (sym s)) ∙ e)) ∙ same n
    ] refl

pub put_short : (old grown : List (Option ℕ)) (number place : ℕ) → ((bound : ℕ) → length old ≤ bound → number + 1 ≤ bound → length grown ≤ bound) → (bound : ℕ) → length old ≤ bound → number + 1 ≤ bound → length (set grown number (Some place)) ≤ bound
put_short old grown number place short bound a b = subst (λ (k : ℕ). k ≤ bound) (sym (length-set grown number (Some place))) (short bound a b)
