-- What the groups of parts tell of a term.
use Rattle.std.proofs.Common.{true≢false, ◌≡◌, ◌≤◌, ◌<◌, ◌+◌, ℕ, zero, suc, Bool, true, false, not, ◌||◌, if◌then◌else◌, List, [], ◌∷◌, ◌++◌, length, map, take, arith, refl, sym, ap, subst, get_or, ◌∙◌, inl, inr, Some, None, slice_get}
use Rattle.std.specs.List.{flat_map, list_any}
use Rattle.std.specs.declared.rc.Rc.{Rc}
use Rattle.std.specs.declared.alloc.Global.{Global}
use Rattle.cnf_gate.specs.Built.{Built, Grows}
use Rattle.asm_domain.specs.declared.value.Value.{Value}
use Rattle.asm_domain.specs.declared.value.Value.TheVariants.{Undef, Bool as Truth, Int, Elem}
use Rattle.asm_sign.specs.Tuples.{tuples}
use Rattle.asm_node.specs.declared.term.Binder.{Binder}
use Rattle.asm_node.specs.declared.term.Term.{Term}
use Rattle.asm_node.specs.Tree.{Tree, Const, plain, plain_all}
use Rattle.asm_node.specs.Values.{is_truth, are_arguments}
use Rattle.asm_sign.specs.declared.function.Function.{Function}
use Rattle.asm_sign.specs.Kind.{is_dynamic, is_kept}
use Rattle.asm_node.specs.Exact.{Each, OfCalls}
use Rattle.asm_node.specs.Machine.{Machine, Definition, definition_of, constant_of, slot_at}
use Rattle.asm_node.specs.Term.{World, Outcome, Gives, Needs, and_then, branch, Places, put, put_tuple, Calls, Reads, value_of, values_of, calls_within, value_at_last, undefined_value, value_of_function, defined_value, read, state_value, input_value}
use Rattle.enc_group.specs.declared.group.Entry.{Entry}
use Rattle.enc_group.specs.declared.tuple.Tuple.{Tuple}
use Rattle.enc_group.specs.Group.{values_in, once, are_distinct, group_variables}
use Rattle.enc_group.specs.Tuple.{tuples_in, tuple_variables, products}
use Rattle.enc_group.specs.Binding.{group_at, values_before}
use Rattle.enc_group.proofs.Onces.{once_distinct}
use Rattle.enc_group.proofs.Groups.{one_more}
use Rattle.enc_term.specs.declared.bits.Bits.{Bits}
use Rattle.enc_term.specs.Bits.{AreBits}
use Rattle.enc_term.specs.Can.{Cans, CallCans, Has, AreAmong, ArePicked, undef_if, quantified_can, with_can, with_cans, can_by, cans_by, can_in, calls_can, cans_in, can_at_last, last_can, function_can, defined_can, read_can, dynamic_can, called_can}
use Rattle.enc_term.specs.Small.{StaysSmall, StayAllSmall}
use Rattle.enc_term.specs.Cycle.{Tells, TellsEach, IsGroupOf, AreTuplesOf}
use Rattle.enc_term.specs.Guards.{is_odd, are_odd, answer_values}
use Rattle.enc_term.proofs.Members.{has_map, map_has, has_flat, flat_has, has_at, once_has, before_has, picked_more, picked_tuple, products_has}
use Rattle.enc_term.proofs.Shapes.{cans_put, cans_tuple}
use Rattle.enc_term.proofs.Standing.{any_has}

-- ---- facts stay as the builder grows

pub bits_later : (a b : Built) (m : Machine) (bits : Bits) (n : ℕ) → Grows a b [] [] → AreBits a m bits n → AreBits b m bits n
bits_later a b m bits n grows x = record {
  states_long = x.states_long;
  inputs_long = x.inputs_long;
  states_within = λ l. omega (arith, grows.count, x.states_within l);
  inputs_within = λ l. omega (arith, grows.count, x.inputs_within l);
  states_among = x.states_among;
  inputs_among = x.inputs_among;
  states_distinct = x.states_distinct;
  inputs_distinct = x.inputs_distinct;
  always_within = omega (arith, grows.count, x.always_within);
  always_true = λ v h. x.always_true v (grows.holds v h);
}

pub group_later : (a b : Built) (can : List Value) (g : List Entry) → Grows a b [] [] → IsGroupOf a can g → IsGroupOf b can g
group_later a b can g grows x = record { within = omega (arith, grows.count, x.within); distinct = x.distinct; among = x.among }

-- ---- groups

-- a group whose values stand once
pub group_once : (b : Built) (can xs : List Value) (g : List Entry) → group_variables g ≤ b.count → values_in g ≡ once xs → AreAmong xs can → IsGroupOf b can g
group_once b can xs g low is among = record {
  within = low;
  distinct = ap are_distinct is ∙ once_distinct xs;
  among = λ x h. among x (once_has xs x (subst (λ ys. Has ys x) is h));
}

-- a group of one value
pub group_single : (b : Built) (can : List Value) (x : Value) (g : List Entry) → group_variables g ≤ b.count → values_in g ≡ x ∷ [] → Has can x → IsGroupOf b can g
group_single b can x g low is has = record {
  within = low;
  distinct = ap are_distinct is;
  among = λ y h. single y (subst (λ ys. Has ys y) is h);
}
  where
    single : (y : Value) → Has (x ∷ []) y → Has can y
    single y (inl e) = subst (Has can) e has
    single y (inr empty) = elim empty [ ]

pub map_among : (f : Value → Value) (xs can : List Value) → AreAmong xs can → AreAmong (map f xs) (map f can)
map_among f xs can among y h = let k = map_has f xs y h in subst (Has (map f can)) k.2 (has_map f can k.0 (among k.0 k.1))

-- the results of an operator
pub results_among : (f : List Value → Value) (vss : List (List Value)) (xss : List (List Value)) → ((vs : List Value) → Has vss vs → ArePicked xss vs) → AreAmong (map f vss) (map f (tuples xss))
results_among f vss xss picked y h = let k = map_has f vss y h in subst (Has (map f (tuples xss))) k.2 (has_map f (tuples xss) k.0 (picked_tuple xss k.0 (picked k.0 k.1)))

branch_among : (x y : Value) (a b c p q r : List Value) → AreAmong a p → AreAmong b q → AreAmong c r → Has (branch x a b c) y → Has (branch x p q r) y
branch_among Undef y a b c p q r i j k h = k y h
branch_among (Truth true) y a b c p q r i j k h = i y h
branch_among (Truth false) y a b c p q r i j k h = j y h
branch_among (Int z) y a b c p q r i j k h = k y h
branch_among (Elem d e) y a b c p q r i j k h = k y h

pub branches_among : (keys a b c guard p q r : List Value) → AreAmong keys guard → AreAmong a p → AreAmong b q → AreAmong c r → AreAmong (flat_map (λ x. branch x a b c) keys) (flat_map (λ x. branch x p q r) guard)
branches_among keys a b c guard p q r g i j k y h =
    let s = flat_has (λ x. branch x a b c) keys y h in
    has_flat (λ x. branch x p q r) guard s.0 y (g s.0 s.1) (branch_among s.0 y a b c p q r i j k s.2)

-- ---- a group for each key

group_before : (gs : List (List Entry)) (g : List Entry) (j : ℕ) → j < length gs → group_at (gs ++ g ∷ []) j ≡ group_at gs j
group_before [] g j lt = absurd (omega (arith, lt))
group_before (x ∷ gs) g zero lt = refl
group_before (x ∷ gs) g (suc j) lt = group_before gs g j (omega (arith, lt))

group_last : (gs : List (List Entry)) (g : List Entry) → group_at (gs ++ g ∷ []) (length gs) ≡ g
group_last [] g = refl
group_last (x ∷ gs) g = group_last gs g

groups_within : (gs : List (List Entry)) (g : List Entry) (n : ℕ) → ((j : ℕ) → group_variables (group_at gs j) ≤ n) → group_variables g ≤ n → (j : ℕ) → group_variables (group_at (gs ++ g ∷ []) j) ≤ n
groups_within [] g n all last zero = last
groups_within [] g n all last (suc j) = all 0
groups_within (x ∷ gs) g n all last zero = all 0
groups_within (x ∷ gs) g n all last (suc j) = groups_within gs g n (λ i. all (suc i)) last j

length_more : (gs : List (List Entry)) (g : List Entry) → length (gs ++ g ∷ []) ≡ length gs + 1
length_more [] g = refl
length_more (x ∷ gs) g = omega (arith, length_more gs g)

get_same : {K : Type 0} (xs : List K) (i : ℕ) (d e : K) → i < length xs → get_or xs i d ≡ get_or xs i e
get_same [] i d e lt = absurd (omega (arith, lt))
get_same (x ∷ xs) zero d e lt = refl
get_same (x ∷ xs) (suc i) d e lt = get_same xs i d e (omega (arith, lt))

last_or : (j i : ℕ) (A : Type 0) → j < i + 1 → (j < i → A) → (j ≡ i → A) → A
last_or zero zero A lt f g = g refl
last_or zero (suc i) A lt f g = f (omega arith)
last_or (suc j) zero A lt f g = absurd (omega (arith, lt))
last_or (suc j) (suc i) A lt f g = last_or j i A (omega (arith, lt)) (λ l. f (omega (arith, l))) (λ e. g (ap suc e))

-- before the first key
pub each_none : {K : Type 0} (b : Built) (m : Machine) (bits : Bits) (n : ℕ) (keys : List K) (gs : List (List Entry)) (o : K → World → Outcome Value) (can : K → List Value) → gs ≡ [] → TellsEach b m bits n keys 0 gs o can
each_none b m bits n keys gs o can is = record {
  long = ap (λ (xs : List (List Entry)). length xs) is;
  means = λ j k lt at. absurd (omega (arith, lt));
  groups = λ j k lt at. absurd (omega (arith, lt));
  within = λ j. subst (λ xs. group_variables (group_at xs j) ≤ b.count) (sym is) (omega arith);
}

-- one key more
pub each_more : {K : Type 0} (a b : Built) (m : Machine) (bits : Bits) (n : ℕ) (keys : List K) (i : ℕ) (k : K) (gs hs : List (List Entry)) (g : List Entry) (o : K → World → Outcome Value) (can : K → List Value)
    → i < length keys → Grows a b [] [] → k ≡ get_or keys i k → hs ≡ gs ++ g ∷ [] → Tells b m bits n g (o k) → IsGroupOf b (can k) g → TellsEach a m bits n keys i gs o can → TellsEach b m bits n keys (i + 1) hs o can
each_more a b m bits n keys i k gs hs g o can below grows is pushed tells group each = record {
  long = ap (λ (xs : List (List Entry)). length xs) pushed ∙ length_more gs g ∙ ap (λ x. x + 1) each.long;
  means = λ j k' lt is'.
      last_or j i (Tells b m bits n (group_at hs j) (o k')) lt
      (λ less. subst (λ xs. Tells b m bits n xs (o k')) (sym (before j less)) (λ v h. each.means j k' less is' v (grows.holds v h)))
      (λ e. subst (λ xs. Tells b m bits n xs (o k')) (sym (last j e)) (subst (λ x. Tells b m bits n g (o x)) (same j k' e is') tells));
  groups = λ j k' lt is'.
      last_or j i (IsGroupOf b (can k') (group_at hs j)) lt
      (λ less. subst (IsGroupOf b (can k')) (sym (before j less)) (group_later a b (can k') (group_at gs j) grows (each.groups j k' less is')))
      (λ e. subst (IsGroupOf b (can k')) (sym (last j e)) (subst (λ x. IsGroupOf b (can x) g) (same j k' e is') group));
  within = λ j. subst (λ xs. group_variables (group_at xs j) ≤ b.count) (sym pushed) (groups_within gs g b.count (λ l. omega (arith, each.within l, grows.count)) group.within j);
}
  where
    before : (j : ℕ) → j < i → group_at hs j ≡ group_at gs j
    before j less = ap (λ xs. group_at xs j) pushed ∙ group_before gs g j (subst (λ x. j < x) (sym each.long) less)

    last : (j : ℕ) → j ≡ i → group_at hs j ≡ g
    last j e = ap (λ xs. group_at xs j) pushed ∙ ap (group_at (gs ++ g ∷ [])) (e ∙ sym each.long) ∙ group_last gs g

    same : (j : ℕ) (k' : _) → j ≡ i → k' ≡ get_or keys j k' → k ≡ k'
    same j k' e is' = is ∙ get_same keys i k k' below ∙ ap (λ x. get_or keys x k') (sym e) ∙ sym is'

-- after the last one
pub each_whole : {K : Type 0} (b : Built) (m : Machine) (bits : Bits) (n : ℕ) (keys : List K) (i : ℕ) (gs : List (List Entry)) (o : K → World → Outcome Value) (can : K → List Value) → i ≡ length keys → TellsEach b m bits n keys i gs o can → TellsEach b m bits n keys (length keys) gs o can
each_whole b m bits n keys i gs o can e each = subst (λ k. TellsEach b m bits n keys k gs o can) e each

-- the values of all groups, where those of each key are within a list
pub each_among : {K : Type 0} (b : Built) (m : Machine) (bits : Bits) (n : ℕ) (keys : List K) (gs : List (List Entry)) (o : K → World → Outcome Value) (can : K → List Value) (all : List Value)
    → TellsEach b m bits n keys (length keys) gs o can → ((k : K) → Has keys k → AreAmong (can k) all) → AreAmong (values_before gs (length keys)) all
each_among {K} b m bits n keys gs o can all each within x h =
    let s = before_has gs (length keys) x h in
    let at = item keys s.0 s.1 in
    within at.0 (has_at keys s.0 at.0 s.1 at.1) x ((each.groups s.0 at.0 s.1 at.1).among x s.2)
  where
    item : (xs : List K) (j : ℕ) → j < length xs → (k : K) × (k ≡ get_or xs j k)
    item [] j lt = absurd (omega (arith, lt))
    item (y ∷ xs) zero lt = (y, refl)
    item (y ∷ xs) (suc j) lt = item xs j (omega (arith, lt))

-- the values of a `let`
pub let_among : (b : Built) (m : Machine) (bits : Bits) (version n x : ℕ) (e : Places) (t u : Tree) (keys : List Entry) (gs : List (List Entry)) (o : Entry → World → Outcome Value)
    → AreAmong (values_in keys) (can_in m n e t) → TellsEach b m bits version keys (length keys) gs o (λ k. can_in m n (put x (Const k.value) e) u)
    → AreAmong (values_before gs (length keys)) (flat_map (λ v. can_by m (calls_can m n) (with_can x v (cans_in m n e)) u) (can_in m n e t))
let_among b m bits version n x e t u keys gs o bound each =
    each_among b m bits version keys gs o (λ k. can_in m n (put x (Const k.value) e) u) _ each
    (λ k at y h. has_flat (λ v. can_by m (calls_can m n) (with_can x v (cans_in m n e)) u) (can_in m n e t) k.value y (bound k.value (has_map (λ (d : Entry). d.value) keys k at))
    (subst (λ cans. Has (can_by m (calls_can m n) cans u) y) (cans_put m n x k.value e) h))

-- ---- tuples of arguments

pub tuples_none : (b : Built) (ts : List Tuple) → tuple_variables ts ≤ b.count → tuples_in ts ≡ [] ∷ [] → AreTuplesOf b [] ts
tuples_none b ts low is = record { within = low; picked = λ vs h. none_picked vs (subst (λ xss. Has xss vs) is h) }
  where
    none_picked : (vs : List Value) → Has ([] ∷ []) vs → ArePicked [] vs
    none_picked vs (inl e) = subst (ArePicked []) e tt
    none_picked vs (inr empty) = elim empty [ ]

pub tuples_more : (a b : Built) (cans : List (List Value)) (can : List Value) (ts us : List Tuple) (g : List Entry) → AreTuplesOf a cans ts → AreAmong (values_in g) can → tuple_variables us ≤ b.count
    → tuples_in us ≡ products (tuples_in ts) (values_in g) → AreTuplesOf b (cans ++ can ∷ []) us
tuples_more a b cans can ts us g was among low is = record {
  within = low;
  picked = λ vs h.
      let s = products_has (tuples_in ts) (values_in g) vs (subst (λ xss. Has xss vs) is h) in
      subst (ArePicked (cans ++ can ∷ [])) s.4 (picked_more cans s.0 can s.1 (was.picked s.0 s.2) (among s.1 s.3));
}

pub cans_more : (m : Machine) (calls : CallCans) (cans : Cans) (ts : List (Rc Term Global)) (i : ℕ) (t : Rc Term Global) → i < length ts → t ≡ get_or ts i t
    → cans_by m calls cans (plain_all (take (i + 1) ts)) ≡ cans_by m calls cans (plain_all (take i ts)) ++ can_by m calls cans (plain t.value) ∷ []
cans_more m calls cans ts i t h is = ap (λ us. cans_by m calls cans (plain_all us)) (one_more ts i t h is) ∙ push (take i ts)
  where
    push : (us : List (Rc Term Global)) → cans_by m calls cans (plain_all (us ++ t ∷ [])) ≡ cans_by m calls cans (plain_all us) ++ can_by m calls cans (plain t.value) ∷ []
    push [] = refl
    push (u ∷ us) = ap (λ xss. can_by m calls cans (plain u.value) ∷ xss) (push us)

pub values_more : (w : World) (calls : Calls) (reads : Reads) (ts : List (Rc Term Global)) (i : ℕ) (t : Rc Term Global) → i < length ts → t ≡ get_or ts i t
    → values_of w calls reads (plain_all (take (i + 1) ts)) ≡ and_then (values_of w calls reads (plain_all (take i ts))) (λ vs. and_then (value_of w calls reads (plain t.value)) (λ x. Gives (vs ++ x ∷ [])))
values_more w calls reads ts i t h is = ap (λ us. values_of w calls reads (plain_all us)) (one_more ts i t h is) ∙ push (take i ts)
  where
    value : Outcome Value
    value = value_of w calls reads (plain t.value)

    last : (o : Outcome Value) → and_then o (λ v. and_then (Gives []) (λ vs. Gives (v ∷ vs))) ≡ and_then (Gives []) (λ vs. and_then o (λ x. Gives (vs ++ x ∷ [])))
    last (Gives x) = refl
    last (Needs l) = refl

    turn : (o : Outcome Value) (os : Outcome (List Value)) (p : Outcome Value)
        → and_then o (λ v. and_then (and_then os (λ vs. and_then p (λ x. Gives (vs ++ x ∷ [])))) (λ vs. Gives (v ∷ vs))) ≡ and_then (and_then o (λ v. and_then os (λ vs. Gives (v ∷ vs)))) (λ vs. and_then p (λ x. Gives (vs ++ x ∷ [])))
    turn (Needs l) os p = refl
    turn (Gives x) (Needs l) p = refl
    turn (Gives x) (Gives xs) (Needs l) = refl
    turn (Gives x) (Gives xs) (Gives y) = refl

    push : (us : List (Rc Term Global)) → values_of w calls reads (plain_all (us ++ t ∷ [])) ≡ and_then (values_of w calls reads (plain_all us)) (λ vs. and_then value (λ x. Gives (vs ++ x ∷ [])))
    push [] = last value
    push (u ∷ us) =
        ap (λ os. and_then (value_of w calls reads (plain u.value)) (λ v. and_then os (λ vs. Gives (v ∷ vs)))) (push us)
        ∙ turn (value_of w calls reads (plain u.value)) (values_of w calls reads (plain_all us)) value

-- ---- quantifiers

any_found : {A : Type 0} (p : A → Bool) (xs : List A) → list_any p xs ≡ true → (x : A) × Has xs x × (p x ≡ true)
any_found p [] h = absurd (true≢false (sym h))
any_found {A} p (x ∷ xs) h =
    elim (p x) as (λ b. p x ≡ b → b || list_any p xs ≡ true → (y : A) × Has (x ∷ xs) y × (p y ≡ true)) [
      | true ↦ λ e _. (x, inl refl, e)
      | false ↦ λ e k. let s = any_found p xs k in (s.0, inr s.1, s.2)
    ] refl h

place_of : (gs : List (List Entry)) (g : List Entry) → Has gs g → (j : ℕ) × (j < length gs) × (group_at gs j ≡ g)
place_of [] g h = elim h [ ]
place_of (x ∷ gs) g (inl e) = (0, omega arith, e)
place_of (x ∷ gs) g (inr h) = let s = place_of gs g h in (suc s.0, omega (arith, s.1), s.2)

item_at : {K : Type 0} (xs : List K) (j : ℕ) → j < length xs → (k : K) × (k ≡ get_or xs j k)
item_at [] j lt = absurd (omega (arith, lt))
item_at (y ∷ xs) zero lt = (y, refl)
item_at (y ∷ xs) (suc j) lt = item_at xs j (omega (arith, lt))

module _ (b : Built) (m : Machine) (bits : Bits) (version n : ℕ) (e : Places) (bs : List Binder) (t : Tree) (vss : List (List Value)) (gs : List (List Entry)) (o : List Value → World → Outcome Value)
    (each : TellsEach b m bits version vss (length vss) gs o (λ vs. can_in m n (put_tuple bs vs e) t)) where
  abbrev pub guards_can : List (List Value)
  guards_can = map (λ vs. can_by m (calls_can m n) (with_cans bs vs (cans_in m n e)) t) vss

  odd_guards : are_odd gs ≡ true → list_any (list_any (λ v. not (is_truth v))) guards_can ≡ true
  odd_guards odd =
      let g = any_found is_odd gs odd in
      let d = any_found (λ (d : Entry). not (is_truth d.value)) g.0 g.2 in
      let j = place_of gs g.0 g.1 in
      let k = item_at vss j.0 (subst (λ l. j.0 < l) each.long j.1) in
      let value : Has (values_in (group_at gs j.0)) d.0.value = subst (λ es. Has (values_in es) d.0.value) (sym j.2) (has_map (λ (x : Entry). x.value) g.0 d.0 d.1) in
      let can = (each.groups j.0 k.0 (subst (λ l. j.0 < l) each.long j.1) k.1).among d.0.value value in
      let there : Has (can_by m (calls_can m n) (with_cans bs k.0 (cans_in m n e)) t) d.0.value = subst (λ cans. Has (can_by m (calls_can m n) cans t) d.0.value) (cans_tuple m n bs k.0 e) can in
      any_has (list_any (λ v. not (is_truth v))) guards_can _
      (has_map (λ vs. can_by m (calls_can m n) (with_cans bs vs (cans_in m n e)) t) vss k.0 (has_at vss j.0 k.0 (subst (λ l. j.0 < l) each.long j.1) k.1))
      (any_has (λ v. not (is_truth v)) (can_by m (calls_can m n) (with_cans bs k.0 (cans_in m n e)) t) d.0.value there d.2)

  undef_among : (w : Bool) → are_odd gs ≡ w → (y : Value) → Has (if w then Undef ∷ [] else []) y → Has (undef_if (list_any (list_any (λ v. not (is_truth v))) guards_can)) y
  undef_among true is y h = subst (λ c. Has (undef_if c) y) (sym (odd_guards is)) h
  undef_among false is y h = elim h [ ]

  pub quant_among : AreAmong (answer_values (are_odd gs)) (quantified_can guards_can)
  quant_among y (inl is) = inl is
  quant_among y (inr (inl is)) = inr (inl is)
  quant_among y (inr (inr h)) = inr (inr (undef_among (are_odd gs) refl y h))

pub answer_distinct : (w : Bool) → are_distinct (answer_values w) ≡ true
answer_distinct true = refl
answer_distinct false = refl

-- ---- terms of a list

pub take_none : {A : Type 0} (xs : List A) → take 0 xs ≡ []
take_none [] = refl
take_none (x ∷ xs) = refl

pub small_item : (m : Machine) (calls : CallCans) (of_calls : OfCalls) (cans : Cans) (each : Each) (ts : List (Rc Term Global)) (k : ℕ) (t : Rc Term Global) → k < length ts → t ≡ get_or ts k t
    → StayAllSmall m calls of_calls cans each (plain_all ts) → StaysSmall m calls of_calls cans each (plain t.value)
small_item m calls of_calls cans each [] k t lt is small = absurd (omega (arith, lt))
small_item m calls of_calls cans each (x ∷ ts) zero t lt is small = subst (λ (y : Rc Term Global). StaysSmall m calls of_calls cans each (plain y.value)) (sym is) small.0
small_item m calls of_calls cans each (x ∷ ts) (suc k) t lt is small = small_item m calls of_calls cans each ts k t (omega (arith, lt)) is small.1

-- ---- calls

-- a function without a definition has the constant of its name
pub constant_call : (w : World) (n f : ℕ) (vs : List Value) (function : Function) → slice_get w.machine.signature.functions f ≡ Some function → None ≡ definition_of w.machine.definitions f
    → calls_within w n f vs ≡ Gives (constant_of w.machine.signature.domains function)
constant_call w zero f vs function is absent =
    ap (λ o. Gives (value_at_last w f o)) is ∙ ap (λ o. Gives (undefined_value w function o)) (sym absent)
constant_call w (suc n) f vs function is absent =
    ap (λ o. value_of_function w (calls_within w n) f o vs) is ∙ ap (λ o. defined_value w (calls_within w n) function o vs) (sym absent)

pub constant_can : (m : Machine) (n f : ℕ) (vs : List Value) (function : Function) → slice_get m.signature.functions f ≡ Some function → None ≡ definition_of m.definitions f
    → calls_can m n f vs ≡ constant_of m.signature.domains function ∷ []
constant_can m zero f vs function is absent = ap (λ o. can_at_last m f o) is ∙ ap (λ o. last_can m function o) (sym absent)
constant_can m (suc n) f vs function is absent = ap (λ o. function_can m (calls_can m n) f o vs) is ∙ ap (λ o. defined_can m (calls_can m n) function o vs) (sym absent)

-- what a dynamic function has
abbrev kept_or_input : World → ℕ → Function → List Value → Outcome Value
kept_or_input w f function vs = if is_kept function.kind then state_value w (slot_at w.machine.signature f vs) else input_value w (slot_at w.machine.signature f vs)

-- what a function has at arguments of its domains
abbrev given : World → Calls → ℕ → Function → List Value → Outcome Value
given w calls f function vs = if is_dynamic function.kind then kept_or_input w f function vs else calls f vs

-- where none may be entered, a defined one has no value
pub last_call : (w : World) (n f : ℕ) (vs : List Value) (function : Function) (d : Definition) → n ≡ 0 → slice_get w.machine.signature.functions f ≡ Some function → Some d ≡ definition_of w.machine.definitions f
    → calls_within w n f vs ≡ Gives Undef
last_call w n f vs function d none_left is defined =
    ap (λ k. calls_within w k f vs) none_left ∙ ap (λ o. Gives (value_at_last w f o)) is ∙ ap (λ o. Gives (undefined_value w function o)) (sym defined)

pub last_defined_can : (m : Machine) (n f : ℕ) (vs : List Value) (function : Function) (d : Definition) → n ≡ 0 → slice_get m.signature.functions f ≡ Some function → Some d ≡ definition_of m.definitions f
    → calls_can m n f vs ≡ Undef ∷ []
last_defined_can m n f vs function d none_left is defined =
    ap (λ k. calls_can m k f vs) none_left ∙ ap (λ o. can_at_last m f o) is ∙ ap (λ o. last_can m function o) (sym defined)

-- ---- reads

pub bad_value : (w : World) (calls : Calls) (f : ℕ) (function : Function) (vs : List Value) → slice_get w.machine.signature.functions f ≡ Some function → are_arguments w.machine.signature.domains function.domains vs ≡ false
    → read w calls f (slice_get w.machine.signature.functions f) vs ≡ Gives Undef
bad_value w calls f function vs is bad =
    ap (λ o. read w calls f o vs) is ∙ ap (λ b. if b then given w calls f function vs else Gives Undef) bad

pub static_value : (w : World) (calls : Calls) (f : ℕ) (function : Function) (vs : List Value) → slice_get w.machine.signature.functions f ≡ Some function → is_dynamic function.kind ≡ false
    → are_arguments w.machine.signature.domains function.domains vs ≡ true → read w calls f (slice_get w.machine.signature.functions f) vs ≡ calls f vs
static_value w calls f function vs is static good =
    ap (λ o. read w calls f o vs) is ∙ ap (λ b. if b then given w calls f function vs else Gives Undef) good ∙ ap (λ b. if b then kept_or_input w f function vs else calls f vs) static

pub dynamic_read : (m : Machine) (calls : CallCans) (f : ℕ) (function : Function) (vss : List (List Value)) → slice_get m.signature.functions f ≡ Some function → is_dynamic function.kind ≡ true
    → read_can m calls f (slice_get m.signature.functions f) vss ≡ dynamic_can m.signature f function vss
dynamic_read m calls f function vss is dynamic =
    ap (λ o. read_can m calls f o vss) is ∙ ap (λ b. if b then dynamic_can m.signature f function vss else flat_map (called_can m.signature.domains calls f function) vss) dynamic

pub static_read : (m : Machine) (calls : CallCans) (f : ℕ) (function : Function) (vss : List (List Value)) → slice_get m.signature.functions f ≡ Some function → is_dynamic function.kind ≡ false
    → read_can m calls f (slice_get m.signature.functions f) vss ≡ flat_map (called_can m.signature.domains calls f function) vss
static_read m calls f function vss is static =
    ap (λ o. read_can m calls f o vss) is ∙ ap (λ b. if b then dynamic_can m.signature f function vss else flat_map (called_can m.signature.domains calls f function) vss) static

pub bad_call : (m : Machine) (calls : CallCans) (f : ℕ) (function : Function) (vss : List (List Value)) (vs : List Value) → Has vss vs → are_arguments m.signature.domains function.domains vs ≡ false
    → Has (flat_map (called_can m.signature.domains calls f function) vss) Undef
bad_call m calls f function vss vs at bad =
    has_flat (called_can m.signature.domains calls f function) vss vs Undef at (subst (λ b. Has (if b then calls f vs else Undef ∷ []) Undef) (sym bad) (inl refl))

pub good_call : (m : Machine) (calls : CallCans) (f : ℕ) (function : Function) (vss : List (List Value)) (vs : List Value) → Has vss vs → are_arguments m.signature.domains function.domains vs ≡ true
    → AreAmong (calls f vs) (flat_map (called_can m.signature.domains calls f function) vss)
good_call m calls f function vss vs at good x h =
    has_flat (called_can m.signature.domains calls f function) vss vs x at (subst (λ b. Has (if b then calls f vs else Undef ∷ []) x) (sym good) h)

pub among_more : (b : Built) (can all : List Value) (g : List Entry) → AreAmong can all → IsGroupOf b can g → IsGroupOf b all g
among_more b can all g wider x = record { within = x.within; distinct = x.distinct; among = λ y h. wider y (x.among y h) }
