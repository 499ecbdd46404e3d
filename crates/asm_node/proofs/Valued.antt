-- In every world whose locations have values of their codomains, the value of a term is in its range.
use Rattle.std.proofs.Common.{◌≡◌, inl, inr, ℕ, zero, suc, Bool as Truth, true, false, ◌||◌, ◌&&◌, nat_eq, if◌then◌else◌, List, [], ◌∷◌, Option, Some, None, slice_get, get_or, refl, ap, sym, ◌∙◌, subst, IsTrue}
use Rattle.std.specs.Prelude.{⊤}
use Rattle.std.specs.List.{position, list_all}
use Rattle.std.specs.Option.{unwrap_or, option_map}
use Rattle.std.specs.FinMap as finite
use Rattle.std.proofs.lemmas.Bool.{eqb-true}
use Rattle.std.proofs.lemmas.Option.{slice_get-get_or}
use Rattle.std.proofs.lemmas.List.Quantifiers.{position-Some}
use Rattle.asm_domain.specs.declared.value.Value.{Value}
use Rattle.asm_domain.specs.declared.value.Value.TheVariants.{Undef, Bool, Int, Elem}
use Rattle.asm_domain.specs.Universe.{Universe, Truths, Numbers, Named}
use Rattle.asm_sign.specs.declared.function.DeclaredDomain.{DeclaredDomain}
use Rattle.asm_sign.specs.declared.function.Function.{Function}
use Rattle.asm_sign.specs.Kind.{is_dynamic, is_kept}
use Rattle.asm_sign.specs.Vocabulary.{Vocabulary, locations, function_of, function_at}
use Rattle.asm_node.specs.declared.operator.Quantifier.{Quantifier}
use Rattle.asm_node.specs.Tree.{Tree, Const, Var, Within, Get, Oper, Cond, Let, Quant, Trees, none, more}
use Rattle.asm_node.specs.Values.{quantified, decided, is_truth, are_arguments, is_undef}
use Rattle.asm_node.specs.Machine.{Machine, Definition, definition_of, same_location, slot_at, tuples_of, constant_of, element_named, same_name}
use Rattle.asm_node.specs.Step.{may_have}
use Rattle.asm_node.specs.Term.{World, Outcome, Gives, Needs, and_then, Reads, Calls, with_value, with_tuple, parameters_have, state_value, input_value, given, read, branch, guard_values, value_of, values_of, defined_value, value_of_function, undefined_value, value_at_last, calls_within}
use Rattle.asm_node.specs.Filled.{IsFilled}
use Rattle.asm_node.specs.Ranges.{Range, NoNumber, IsRangeOf, IsIn, IsConstantRange, numbers_in_either, Ranges, put_range, IsDomainRange, IsCodomainRange, HasRange, HaveRanges}
use Rattle.asm_node.proofs.Ranging.{range_in, element_in, within_in, AreIn, result_in}

-- ---- what holds of the answer of an evaluation that doesn't end with a need

abbrev pub Answers : {A : Type 0} → (A → Type 0) → Outcome A → Type 0
Answers P (Gives a) = P a
Answers P (Needs l) = ⊤

pub answer_is : {A : Type 0} (P : A → Type 0) (o : Outcome A) (a : A) → Answers P o → o ≡ Gives a → P a
answer_is P o a h e = subst (Answers P) e h

pub then_answers : {A B : Type 0} (P : A → Type 0) (Q : B → Type 0) (o : Outcome A) (f : A → Outcome B) → Answers P o → ((a : A) → P a → Answers Q (f a)) → Answers Q (and_then o f)
then_answers P Q (Gives a) f h k = k a h
then_answers P Q (Needs l) f h k = tt

pub any_answers : {A B : Type 0} (Q : B → Type 0) (o : Outcome A) (f : A → Outcome B) → ((a : A) → Answers Q (f a)) → Answers Q (and_then o f)
any_answers Q (Gives a) f k = k a
any_answers Q (Needs l) f k = tt

if_answers : {A : Type 0} (P : A → Type 0) (b : Truth) (x y : Outcome A) → (b ≡ true → Answers P x) → Answers P y → Answers P (if b then x else y)
if_answers P true x y h k = h refl
if_answers P false x y h k = k

branch_answers : {A : Type 0} (P : A → Type 0) (v : Value) (x y z : Outcome A) → Answers P x → Answers P y → Answers P z → Answers P (branch v x y z)
branch_answers P (Bool true) x y z h k l = h
branch_answers P (Bool false) x y z h k l = k
branch_answers P Undef x y z h k l = l
branch_answers P (Int i) x y z h k l = l
branch_answers P (Elem d r) x y z h k l = l

-- ---- values that a location may have

or_true : (a b : Truth) → IsTrue (a || b) → (a ≡ false) → b ≡ true
or_true true b h e = absurd (cc (e))
or_true false b h e = h

module _ (m : Machine) where
  pub codomain_in : (function : Function) (r : Range) (v : Value) → IsDomainRange m.signature function.codomain r → IsTrue (may_have m (Some function) v) → IsIn r v
  codomain_in function r Undef h t = tt
  codomain_in function r (Bool b) h t = tt
  codomain_in function r (Elem d k) h t = tt
  codomain_in function r (Int z) h t = element_in m.signature function.codomain r (Int z) h (or_true (is_undef (Int z)) _ t refl)

  -- the function of the location that stands at a slot
  pub function_at_slot : (f : ℕ) (vs : List Value) (l : ℕ) → slot_at m.signature f vs ≡ Some l → function_at m.signature l ≡ slice_get m.signature.functions f
  function_at_slot f vs l e =
      let p = position-Some (λ location. same_location location (f, vs)) (locations m.signature) l (0, []) e in
      let same = and_first (nat_eq (get_or (locations m.signature) l (0, [])).0 f) _ p.1 in
      ap (function_of m.signature) (slice_get-get_or (locations m.signature) l (0, []) p.0) ∙ ap (λ (k : ℕ). slice_get m.signature.functions k) (eqb-true _ f same)
    where
      and_first : (a b : Truth) → (a && b) ≡ true → a ≡ true
      and_first true b h = refl
      and_first false b h = h

module _ (w : World) (filled : IsFilled w) where
  abbrev signature : Vocabulary
  signature = w.machine.signature

  unwrapped : (r : Range) (o : Option Value) → ((v : Value) → o ≡ Some v → IsIn r v) → IsIn r (unwrap_or o Undef)
  unwrapped r None h = tt
  unwrapped r (Some v) h = h v refl

  located : (function : Function) (r : Range) (f : ℕ) (vs : List Value) (l : ℕ) → slice_get signature.functions f ≡ Some function → IsDomainRange signature function.codomain r → slot_at signature f vs ≡ Some l
      → (v : Value) → IsTrue (may_have w.machine (function_at signature l) v) → IsIn r v
  located function r f vs l is h e v t =
      codomain_in w.machine function r v h (subst (λ (o : Option Function). IsTrue (may_have w.machine o v)) (function_at_slot w.machine f vs l e ∙ is) t)

  state_in : (function : Function) (r : Range) (f : ℕ) (vs : List Value) → slice_get signature.functions f ≡ Some function → IsDomainRange signature function.codomain r
      → (o : Option ℕ) → slot_at signature f vs ≡ o → Answers (IsIn r) (state_value w o)
  state_in function r f vs is h None e = tt
  state_in function r f vs is h (Some l) e = unwrapped r (finite.get w.state l) (λ v g. located function r f vs l is h e v (filled.state l v g))

  given_in : (r : Range) (l : ℕ) (o : Option Value) → ((v : Value) → o ≡ Some v → IsIn r v) → Answers (IsIn r) (given l o)
  given_in r l None h = tt
  given_in r l (Some v) h = h v refl

  input_in : (function : Function) (r : Range) (f : ℕ) (vs : List Value) → slice_get signature.functions f ≡ Some function → IsDomainRange signature function.codomain r
      → (o : Option ℕ) → slot_at signature f vs ≡ o → Answers (IsIn r) (input_value w o)
  input_in function r f vs is h None e = tt
  input_in function r f vs is h (Some l) e = given_in r l (finite.get w.input l) (λ v g. located function r f vs l is h e v (filled.input l v g))

  -- what defined functions give is in the ranges of their codomains
  abbrev pub CallsIn : Calls → Type 0
  CallsIn calls = (f : ℕ) (function : Function) (r : Range) (vs : List Value) → slice_get signature.functions f ≡ Some function → IsDomainRange signature function.codomain r → Answers (IsIn r) (calls f vs)

  -- variables read in their ranges
  abbrev pub ReadsIn : Ranges → Reads → Type 0
  ReadsIn rs reads = (y : ℕ) → Answers (IsIn (rs y)) (reads y)

  pub put_reads : (x : ℕ) (r : Range) (rs : Ranges) (v : Value) (reads : Reads) → IsIn r v → ReadsIn rs reads → ReadsIn (put_range x r rs) (with_value x v reads)
  put_reads x r rs v reads i h y =
      elim (nat_eq x y) as (λ (b : Truth). nat_eq x y ≡ b → Answers (IsIn (if b then r else rs y)) (if b then Gives v else reads y)) [
        | true ↦ λ e. i
        | false ↦ λ e. h y
      ] refl

  module _ (calls : Calls) (calls_in : CallsIn calls) where
    read_in : (f : ℕ) (function : Option Function) (r : Range) (vs : List Value) → slice_get signature.functions f ≡ function → IsCodomainRange signature function r → Answers (IsIn r) (read w calls f function vs)
    read_in f None r vs is h = tt
    read_in f (Some function) r vs is h =
        if_answers (IsIn r) (are_arguments signature.domains function.domains vs) _ _
        (λ a. if_answers (IsIn r) (is_dynamic function.kind) _ _
        (λ d. if_answers (IsIn r) (is_kept function.kind) _ _ (λ k. state_in function r f vs is h (slot_at signature f vs) refl) (input_in function r f vs is h (slot_at signature f vs) refl))
        (calls_in f function r vs is h))
        tt

    either_in : (p q r : Range) (v : Value) → IsRangeOf (numbers_in_either p q) r → IsIn p v → IsIn r v
    either_in p q r v h i = range_in _ r v h (λ z e. inl (subst (IsIn p) e i))

    or_in : (p q r : Range) (v : Value) → IsRangeOf (numbers_in_either p q) r → IsIn q v → IsIn r v
    or_in p q r v h i = range_in _ r v h (λ z e. inr (subst (IsIn q) e i))

    mapped : (P Q : Value → Type 0) (o : Outcome Value) → ((v : Value) → P v → Q v) → Answers P o → Answers Q o
    mapped P Q (Gives v) f h = f v h
    mapped P Q (Needs l) f h = tt

    -- the value of a conditional whose guard is undefined
    undef_in : (r : Range) → Answers (IsIn r) (Gives Undef)
    undef_in r = tt

    quantified_in : (q : Quantifier) (vs : List Value) → IsIn NoNumber (quantified q vs)
    quantified_in q vs =
        elim (list_all is_truth vs) as (λ (b : Truth). list_all is_truth vs ≡ b → IsIn NoNumber (if b then Bool (decided q vs) else Undef)) [ true ↦ λ e. tt | false ↦ λ e. tt ] refl

    mutual
      pub value_in : (t : Tree) (rs : Ranges) (reads : Reads) (r : Range) → ReadsIn rs reads → HasRange signature rs t r → Answers (IsIn r) (value_of w calls reads t)
      value_in (Const v) rs reads r i h = constant v r h.0
        where
          constant : (v : Value) (r : Range) → IsConstantRange v r → IsIn r v
          constant (Int x) r h = range_in _ r (Int x) h (λ z e. (let q : x ≡ z = cc (e) in q))
          constant Undef r h = tt
          constant (Bool b) r h = tt
          constant (Elem d k) r h = tt
      value_in (Var x) rs reads r i h = subst (λ (s : Range). Answers (IsIn s) (reads x)) h (i x)
      value_in (Within d t) rs reads r i h = any_answers (IsIn r) (value_of w calls reads t) _ (λ v. within_in signature d r v h.1)
      value_in (Get f ts) rs reads r i h = any_answers (IsIn r) (values_of w calls reads ts) _ (λ vs. read_in f (slice_get signature.functions f) r vs refl h.1)
      value_in (Oper o ts) rs reads r i h =
          then_answers (AreIn h.0) (IsIn r) (values_of w calls reads ts) _ (values_in ts rs reads h.0 i h.1) (λ vs j. result_in o r h.0 vs j h.2)
      value_in (Cond g t u) rs reads r i h =
          any_answers (IsIn r) (value_of w calls reads g) _ (λ v. branch_answers (IsIn r) v _ _ _
          (mapped (IsIn h.1.0) (IsIn r) (value_of w calls reads t) (λ v j. either_in h.1.0 h.1.1 r v h.1.4 j) (value_in t rs reads h.1.0 i h.1.2))
          (mapped (IsIn h.1.1) (IsIn r) (value_of w calls reads u) (λ v j. or_in h.1.0 h.1.1 r v h.1.4 j) (value_in u rs reads h.1.1 i h.1.3))
          (undef_in r))
      value_in (Let x t u) rs reads r i h =
          then_answers (IsIn h.0) (IsIn r) (value_of w calls reads t) _ (value_in t rs reads h.0 i h.1)
          (λ v j. value_in u (put_range x h.0 rs) (with_value x v reads) r (put_reads x h.0 rs v reads j i) h.2)
      value_in (Quant q bs g) rs reads r i h =
          any_answers (IsIn r) (guard_values (λ vs. value_of w calls (with_tuple bs vs reads) g) (tuples_of signature bs)) _ (λ vs. subst (λ (s : Range). IsIn s (quantified q vs)) (sym h.1) (quantified_in q vs))

      pub values_in : (ts : Trees) (rs : Ranges) (reads : Reads) (ss : List Range) → ReadsIn rs reads → HaveRanges signature rs ts ss → Answers (AreIn ss) (values_of w calls reads ts)
      values_in none rs reads [] i h = tt
      values_in none rs reads (s ∷ ss) i h = absurd h
      values_in (more t ts) rs reads [] i h = absurd h
      values_in (more t ts) rs reads (s ∷ ss) i h =
          then_answers (IsIn s) (AreIn (s ∷ ss)) (value_of w calls reads t) _ (value_in t rs reads s i h.0)
          (λ v j. then_answers (AreIn ss) (AreIn (s ∷ ss)) (values_of w calls reads ts) _ (values_in ts rs reads ss i h.1) (λ vs k. (j, k)))

  -- ---- defined functions

  constant_in : (r : Range) (domains : List DeclaredDomain) (function : Function) → IsIn r (constant_of domains function)
  constant_in r domains function = of_domain (slice_get domains function.codomain)
    where
      of_position : (number : ℕ) (o : Option ℕ) → IsIn r (unwrap_or (option_map (λ rank. Elem number rank) o) Undef)
      of_position number None = tt
      of_position number (Some rank) = tt

      of_universe : (u : Universe) → IsIn r (element_named function.name u)
      of_universe Truths = tt
      of_universe (Numbers xs) = tt
      of_universe (Named number names) = of_position number (position (same_name function.name) names)

      of_domain : (o : Option DeclaredDomain) → IsIn r (unwrap_or (option_map (λ (d : DeclaredDomain). element_named function.name d.domain) o) Undef)
      of_domain None = tt
      of_domain (Some d) = of_universe d.domain

  defined_in : (calls : Calls) (function : Function) (r : Range) (vs : List Value) → IsDomainRange signature function.codomain r → (o : Option Definition) → Answers (IsIn r) (defined_value w calls function o vs)
  defined_in calls function r vs h None = constant_in r signature.domains function
  defined_in calls function r vs h (Some d) = any_answers (IsIn r) (value_of w calls (parameters_have d.parameters vs) d.body) _ (λ v. within_in signature function.codomain r v h)

  last_in : (function : Function) (r : Range) (o : Option Definition) → IsIn r (undefined_value w function o)
  last_in function r None = constant_in r signature.domains function
  last_in function r (Some d) = tt

  pub calls_in : (n : ℕ) → CallsIn (calls_within w n)
  calls_in zero f function r vs is h =
      subst (λ (o : Option Function). IsIn r (value_at_last w f o)) (sym is) (last_in function r (definition_of w.machine.definitions f))
  calls_in (suc n) f function r vs is h =
      subst (λ (o : Option Function). Answers (IsIn r) (value_of_function w (calls_within w n) f o vs)) (sym is) (defined_in (calls_within w n) function r vs h (definition_of w.machine.definitions f))
