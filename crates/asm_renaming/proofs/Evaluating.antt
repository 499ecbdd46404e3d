-- Under two numberings a term has one value, where related variables read alike; the machines may have two others.
use Rattle.std.proofs.Common.{◌≡◌, ℕ, zero, suc, Bool as Truth, true, false, if◌then◌else◌, nat_eq, T, eqb→eq, List, [], ◌∷◌, map, Option, Some, None, slice_get, refl, sym, ap, ◌∙◌, subst, inr, arith}
use Rattle.std.proofs.lemmas.Bool.Decides.{nat_tests}
use Rattle.std.specs.List.{find}
use Rattle.std.specs.Option.{option_map}
use Rattle.asm_domain.specs.declared.value.Value.{Value}
use Rattle.asm_domain.specs.declared.value.Value.TheVariants.{Undef}
use Rattle.asm_sign.specs.declared.function.Function.{Function}
use Rattle.asm_sign.specs.Kind.{is_dynamic, is_kept}
use Rattle.asm_sign.specs.Arguments.{elements_at}
use Rattle.asm_sign.specs.Tuples.{tuples}
use Rattle.asm_sign.specs.Vocabulary.{Vocabulary}
use Rattle.asm_node.specs.Tree as tree
use Rattle.asm_node.specs.Tree.{Tree}
use Rattle.asm_node.specs.Values.{result_of, quantified, within, are_arguments}
use Rattle.asm_node.specs.Machine.{Definition, State, Input, slot_at, tuples_of}
use Rattle.asm_node.specs.Term.{World, Outcome, Gives, and_then, Reads, Calls, unbound, with_value, with_tuple, parameters_have, state_value, input_value, read, branch, guard_values, value_of, values_of, defined_value, value_of_function, undefined_value, value_at_last, calls_within, calls_of, Places, nowhere, put, put_tuple, close, reads_at, val, vals}
use Rattle.asm_node.specs.Taking.{stand_for}
use Rattle.asm_node.proofs.Closed.{IsClosed, closed}
use Rattle.asm_node.proofs.Closing.{value_of-close, closed-value}
use Rattle.asm_tree.specs.declared.term.RawBinder.{RawBinder}
use Rattle.asm_tree.specs.declared.term.RawTerm.{RawTerm}
use Rattle.asm_tree.specs.declared.unit.RawFunction.{RawFunction}
use Rattle.asm_tree.specs.declared.unit.LoadedUnit.{LoadedUnit}
use Rattle.asm_faults.specs.At.{Name}
use Rattle.asm_faults.specs.Files.{Of, definitions}
use Rattle.asm_faults.specs.FunctionFaults.{number_or_whole}
use Rattle.asm_faults.specs.Model.{IsNumbering, binders_of, tree_of, definition_of, machine_in}
use Rattle.asm_renaming.proofs.NamedTerms.{NamedTerm, NamedTerms, Const, Var, Within, Get, Oper, Cond, Let, Quant, none, more, term_in, terms_in}
use Rattle.asm_renaming.proofs.Naming.{term_named}

same_truth : (a b : Truth) → (a ≡ true → b ≡ true) → (b ≡ true → a ≡ true) → a ≡ b
same_truth true b f g = sym (f refl)
same_truth false true f g = g refl
same_truth false false f g = refl

equal-self : (n : ℕ) → nat_eq n n ≡ true
equal-self n = grind (arith, nat_tests)

equal-too : (number other : Name → ℕ) → IsNumbering number → (x y : Name) → nat_eq (number x) (number y) ≡ true → nat_eq (other x) (other y) ≡ true
equal-too number other numbering x y e =
    let same : x ≡ y = numbering.apart x y (eqb→eq (number x) (number y) (subst T (sym e) tt)) in
    subst (λ (z : Name). nat_eq (other x) (other z) ≡ true) same (equal-self (other x))

pub find-map : {A B : Type 0} (f : A → B) (test : B → Truth) (xs : List A) → find test (map f xs) ≡ option_map f (find (λ x. test (f x)) xs)
find-map f test [] = refl
find-map f test (x ∷ xs) =
    elim (test (f x)) as (λ b. (if b then Some (f x) else find test (map f xs)) ≡ option_map f (if b then Some x else find (λ x. test (f x)) xs)) [
      | true ↦ refl
      | false ↦ find-map f test xs
    ]

-- two numberings of variables
pub record Numberings : Type 0 where
  pub first : Name → ℕ
  pub second : Name → ℕ
  pub first_is : IsNumbering first
  pub second_is : IsNumbering second

-- ---- places with closed terms

abbrev pub AreClosed : Places → Type 0
AreClosed e = (y : ℕ) → IsClosed (e y)

put-closed : (x : ℕ) (t : Tree) (e : Places) → IsClosed t → AreClosed e → AreClosed (put x t e)
put-closed x t e own closed y any = elim (nat_eq x y) as (λ b. close any (if b then t else e y) ≡ (if b then t else e y)) [ true ↦ own any | false ↦ closed y any ]

-- a term with closed terms in the places of its variables has the value that it has with those places
closing : (w : World) (e : Places) → AreClosed e → (t : Tree) → value_of w (calls_of w) unbound (close e t) ≡ val w e t
closing w e closed t = value_of-close w (calls_of w) e unbound (reads_at w e) t (λ y. inr (λ r. closed-value w (calls_of w) (e y) (closed y) r unbound))

module _ (v : Vocabulary) where
  module _ (p : Numberings) where
    same_test : (x y : Name) → nat_eq (p.first x) (p.first y) ≡ nat_eq (p.second x) (p.second y)
    same_test x y =
        same_truth (nat_eq (p.first x) (p.first y)) (nat_eq (p.second x) (p.second y)) (equal-too p.first p.second p.first_is x y) (equal-too p.second p.first p.second_is x y)

    pub same_tuples : (bs : List RawBinder) → tuples_of v (binders_of p.first v bs) ≡ tuples_of v (binders_of p.second v bs)
    same_tuples bs = ap (λ (ds : List (List Value)). tuples ds) (same_domains bs)
      where
        same_domains : (bs : List RawBinder) → map (λ b. elements_at v.domains b.domain) (binders_of p.first v bs) ≡ map (λ b. elements_at v.domains b.domain) (binders_of p.second v bs)
        same_domains [] = refl
        same_domains (b ∷ bs) = ap (λ (ds : List (List Value)). elements_at v.domains (number_or_whole v.domains b.domain) ∷ ds) (same_domains bs)

    -- each variable reads as the same under its two numbers
    abbrev pub ReadAlike : Reads → Reads → Type 0
    ReadAlike reads reads' = (x : Name) → reads (p.first x) ≡ reads' (p.second x)

    value-alike : (x : Name) (a : Value) (reads reads' : Reads) → ReadAlike reads reads' → ReadAlike (with_value (p.first x) a reads) (with_value (p.second x) a reads')
    value-alike x a reads reads' same y = λ i. if same_test x y i then Gives a else same y i

    tuple-alike : (bs : List RawBinder) (vs : List Value) (reads reads' : Reads) → ReadAlike reads reads' → ReadAlike (with_tuple (binders_of p.first v bs) vs reads) (with_tuple (binders_of p.second v bs) vs reads')
    tuple-alike [] vs reads reads' same = same
    tuple-alike (b ∷ bs) [] reads reads' same = same
    tuple-alike (b ∷ bs) (a ∷ vs) reads reads' same =
        value-alike b.variable.text a (with_tuple (binders_of p.first v bs) vs reads) (with_tuple (binders_of p.second v bs) vs reads') (tuple-alike bs vs reads reads' same)

    abbrev variables : (Name → ℕ) → List RawBinder → List ℕ
    variables n bs = map (λ (b : RawBinder). n b.variable.text) bs

    parameters-alike : (bs : List RawBinder) (vs : List Value) → ReadAlike (parameters_have (variables p.first bs) vs) (parameters_have (variables p.second bs) vs)
    parameters-alike [] vs = λ x. refl
    parameters-alike (b ∷ bs) [] = λ x. refl
    parameters-alike (b ∷ bs) (a ∷ vs) =
        value-alike b.variable.text a (parameters_have (variables p.first bs) vs) (parameters_have (variables p.second bs) vs) (parameters-alike bs vs)

  -- ---- values in the worlds of the machines under two numberings, of terms under any two

  module _ (units : List LoadedUnit) (m : Numberings) (input : Input) where
    abbrev pub w : State → World
    w s = record { machine = machine_in m.first v units; state = s; input = input }

    abbrev pub w' : State → World
    w' s = record { machine = machine_in m.second v units; state = s; input = input }

    module _ (s : State) where
      module _ (calls calls' : Calls) (same_calls : (f : ℕ) (vs : List Value) → calls f vs ≡ calls' f vs) where
        read-same : (f : ℕ) (function : Option Function) (vs : List Value) → read (w s) calls f function vs ≡ read (w' s) calls' f function vs
        read-same f None vs = refl
        read-same f (Some function) vs = λ i.
            if are_arguments v.domains function.domains vs
            then (if is_dynamic function.kind then (if is_kept function.kind then state_value (w s) (slot_at v f vs) else input_value (w s) (slot_at v f vs)) else same_calls f vs i)
            else Gives Undef

        module _ (p : Numberings) where
          mutual
            value-same : (t : NamedTerm) (reads reads' : Reads) → ReadAlike p reads reads' → value_of (w s) calls reads (term_in p.first v t) ≡ value_of (w' s) calls' reads' (term_in p.second v t)
            value-same (Const a) reads reads' same = refl
            value-same (Var x) reads reads' same = same x
            value-same (Within d t) reads reads' same = ap (λ (o : Outcome Value). and_then o (λ a. Gives (within v.domains d a))) (value-same t reads reads' same)
            value-same (Get f ts) reads reads' same = λ i. and_then (values-same ts reads reads' same i) (λ vs. read-same f (slice_get v.functions f) vs i)
            value-same (Oper o ts) reads reads' same = ap (λ (p : Outcome (List Value)). and_then p (λ vs. Gives (result_of o vs))) (values-same ts reads reads' same)
            value-same (Cond g t u) reads reads' same = λ i.
                and_then (value-same g reads reads' same i) (λ a. branch a (value-same t reads reads' same i) (value-same u reads reads' same i) (Gives Undef))
            value-same (Let x t u) reads reads' same = λ i.
                and_then (value-same t reads reads' same i) (λ a. value-same u (with_value (p.first x) a reads) (with_value (p.second x) a reads') (value-alike p x a reads reads' same) i)
            value-same (Quant q bs g) reads reads' same = λ i.
                and_then
                (guard_values (λ vs. value-same g (with_tuple (binders_of p.first v bs) vs reads) (with_tuple (binders_of p.second v bs) vs reads') (tuple-alike p bs vs reads reads' same) i) (same_tuples p bs i))
                (λ vs. Gives (quantified q vs))

            values-same : (ts : NamedTerms) (reads reads' : Reads) → ReadAlike p reads reads' → values_of (w s) calls reads (terms_in p.first v ts) ≡ values_of (w' s) calls' reads' (terms_in p.second v ts)
            values-same none reads reads' same = refl
            values-same (more t ts) reads reads' same = λ i. and_then (value-same t reads reads' same i) (λ a. and_then (values-same ts reads reads' same i) (λ vs. Gives (a ∷ vs)))

          -- the same of raw terms
          raw-same : (t : RawTerm) (reads reads' : Reads) → ReadAlike p reads reads' → value_of (w s) calls reads (tree_of p.first v t) ≡ value_of (w' s) calls' reads' (tree_of p.second v t)
          raw-same t reads reads' same =
              let names = term_named v t in
              sym (ap (λ (u : Tree). value_of (w s) calls reads u) (names.1 p.first)) ∙ (value-same names.0 reads reads' same ∙ ap (λ (u : Tree). value_of (w' s) calls' reads' u) (names.1 p.second))

        -- the body of a definition under both numberings
        pub body-same : (o : Of RawFunction) (vs : List Value)
            → value_of (w s) calls (parameters_have (definition_of m.first v units o).parameters vs) (definition_of m.first v units o).body
            ≡ value_of (w' s) calls' (parameters_have (definition_of m.second v units o).parameters vs) (definition_of m.second v units o).body
        body-same o vs = raw-same m o.1.term (parameters_have (variables m m.first o.1.parameters) vs) (parameters_have (variables m m.second o.1.parameters) vs) (parameters-alike m o.1.parameters vs)

        defined-same : (function : Function) (o : Option (Of RawFunction)) (vs : List Value)
            → defined_value (w s) calls function (option_map (definition_of m.first v units) o) vs ≡ defined_value (w' s) calls' function (option_map (definition_of m.second v units) o) vs
        defined-same function None vs = refl
        defined-same function (Some o) vs = ap (λ (o : Outcome Value). and_then o (λ a. Gives (within v.domains function.codomain a))) (body-same o vs)

        function-same : (f : ℕ) (function : Option Function) (vs : List Value) → value_of_function (w s) calls f function vs ≡ value_of_function (w' s) calls' f function vs
        function-same f None vs = refl
        function-same f (Some function) vs =
            let found : Option (Of RawFunction) = find (λ o. nat_eq (definition_of m.first v units o).function f) (definitions units) in
            ap (λ (o : Option Definition). defined_value (w s) calls function o vs) (find-map (definition_of m.first v units) (λ d. nat_eq d.function f) (definitions units))
            ∙ (defined-same function found vs
            ∙ sym (ap (λ (o : Option Definition). defined_value (w' s) calls' function o vs) (find-map (definition_of m.second v units) (λ d. nat_eq d.function f) (definitions units))))

      undefined-same : (function : Function) (o : Option (Of RawFunction))
          → undefined_value (w s) function (option_map (definition_of m.first v units) o) ≡ undefined_value (w' s) function (option_map (definition_of m.second v units) o)
      undefined-same function None = refl
      undefined-same function (Some o) = refl

      last-same : (f : ℕ) (function : Option Function) → value_at_last (w s) f function ≡ value_at_last (w' s) f function
      last-same f None = refl
      last-same f (Some function) =
          let found : Option (Of RawFunction) = find (λ o. nat_eq (definition_of m.first v units o).function f) (definitions units) in
          ap (undefined_value (w s) function) (find-map (definition_of m.first v units) (λ d. nat_eq d.function f) (definitions units))
          ∙ (undefined-same function found
          ∙ sym (ap (undefined_value (w' s) function) (find-map (definition_of m.second v units) (λ d. nat_eq d.function f) (definitions units))))

      pub calls-same : (n f : ℕ) (vs : List Value) → calls_within (w s) n f vs ≡ calls_within (w' s) n f vs
      calls-same zero f vs = ap Gives (last-same f (slice_get v.functions f))
      calls-same (suc n) f vs = function-same (calls_within (w s) n) (calls_within (w' s) n) (calls-same n) f (slice_get v.functions f) vs

    -- ---- terms with places

    -- two closed terms have one value in a state
    abbrev SameIn : State → Tree → Tree → Type 0
    SameIn s t t' = value_of (w s) (calls_of (w s)) unbound t ≡ value_of (w' s) (calls_of (w' s)) unbound t'

    abbrev SameClosed : Tree → Tree → Type 0
    SameClosed t t' = (s : State) → SameIn s t t'

    module _ (p : Numberings) where
      -- closed terms stand in the places, and in all states each variable reads as the same under its two numbers
      abbrev pub PlacesAlike : Places → Places → Type 0
      PlacesAlike e e' = AreClosed e × AreClosed e' × ((s : State) → ReadAlike p (reads_at (w s) e) (reads_at (w' s) e'))

      pub nowhere-alike : PlacesAlike nowhere nowhere
      nowhere-alike = (λ y any. refl, λ y any. refl, λ s x. refl)

      put-reads : (x : Name) (t t' : Tree) → SameClosed t t' → (e e' : Places) → PlacesAlike e e' → (s : State) → ReadAlike p (reads_at (w s) (put (p.first x) t e)) (reads_at (w' s) (put (p.second x) t' e'))
      put-reads x t t' own e e' same s y =
          subst (λ (b : Truth). SameIn s (if nat_eq (p.first x) (p.first y) then t else e (p.first y)) (if b then t' else e' (p.second y))) (same_test p x y) (by_test (nat_eq (p.first x) (p.first y)))
        where
          by_test : (b : Truth) → SameIn s (if b then t else e (p.first y)) (if b then t' else e' (p.second y))
          by_test true = own s
          by_test false = same.2 s y

      put-alike : (x : Name) (t t' : Tree) → IsClosed t → IsClosed t' → SameClosed t t' → (e e' : Places) → PlacesAlike e e' → PlacesAlike (put (p.first x) t e) (put (p.second x) t' e')
      put-alike x t t' closed closed' own e e' same = (put-closed (p.first x) t e closed same.0, put-closed (p.second x) t' e' closed' same.1, put-reads x t t' own e e' same)

      pub put_value-alike : (x : Name) (a : Value) (e e' : Places) → PlacesAlike e e' → PlacesAlike (put (p.first x) (tree.Const a) e) (put (p.second x) (tree.Const a) e')
      put_value-alike x a e e' same = put-alike x (tree.Const a) (tree.Const a) (λ any. refl) (λ any. refl) (λ s. refl) e e' same

      pub put_tuple-alike : (bs : List RawBinder) (vs : List Value) (e e' : Places) → PlacesAlike e e' → PlacesAlike (put_tuple (binders_of p.first v bs) vs e) (put_tuple (binders_of p.second v bs) vs e')
      put_tuple-alike [] vs e e' same = same
      put_tuple-alike (b ∷ bs) [] e e' same = same
      put_tuple-alike (b ∷ bs) (a ∷ vs) e e' same =
          put_value-alike b.variable.text a (put_tuple (binders_of p.first v bs) vs e) (put_tuple (binders_of p.second v bs) vs e') (put_tuple-alike bs vs e e' same)

      pub val-same : (e e' : Places) → PlacesAlike e e' → (s : State) (t : NamedTerm) → val (w s) e (term_in p.first v t) ≡ val (w' s) e' (term_in p.second v t)
      val-same e e' same s t = value-same s (calls_of (w s)) (calls_of (w' s)) (calls-same s 32) p t (reads_at (w s) e) (reads_at (w' s) e') (same.2 s)

      pub vals-same : (e e' : Places) → PlacesAlike e e' → (s : State) (ts : NamedTerms) → vals (w s) e (terms_in p.first v ts) ≡ vals (w' s) e' (terms_in p.second v ts)
      vals-same e e' same s ts = values-same s (calls_of (w s)) (calls_of (w' s)) (calls-same s 32) p ts (reads_at (w s) e) (reads_at (w' s) e') (same.2 s)

      pub raw-val-same : (s : State) (t : RawTerm) → val (w s) nowhere (tree_of p.first v t) ≡ val (w' s) nowhere (tree_of p.second v t)
      raw-val-same s t = raw-same s (calls_of (w s)) (calls_of (w' s)) (calls-same s 32) p t (reads_at (w s) nowhere) (reads_at (w' s) nowhere) (nowhere-alike.2 s)

      close-same : (e e' : Places) → PlacesAlike e e' → (t : NamedTerm) → SameClosed (close e (term_in p.first v t)) (close e' (term_in p.second v t))
      close-same e e' same t s = closing (w s) e same.0 (term_in p.first v t) ∙ (val-same e e' same s t ∙ sym (closing (w' s) e' same.1 (term_in p.second v t)))

    -- the parameters have other numberings than the actual terms
    module _ (p q : Numberings) where
      pub stand_for-alike : (bs : List RawBinder) (ts : NamedTerms) (e e' : Places) → PlacesAlike q e e' → PlacesAlike p (stand_for (binders_of p.first v bs) e (terms_in q.first v ts)) (stand_for (binders_of p.second v bs) e' (terms_in q.second v ts))
      stand_for-alike [] ts e e' same = nowhere-alike p
      stand_for-alike (b ∷ bs) none e e' same = nowhere-alike p
      stand_for-alike (b ∷ bs) (more t ts) e e' same =
          let d : ℕ = number_or_whole v.domains b.domain in
          put-alike p b.variable.text (tree.Within d (close e (term_in q.first v t))) (tree.Within d (close e' (term_in q.second v t)))
          (λ any. ap (tree.Within d) (closed e (term_in q.first v t) same.0 any)) (λ any. ap (tree.Within d) (closed e' (term_in q.second v t) same.1 any))
          (λ s. ap (λ (o : Outcome Value). and_then o (λ a. Gives (within v.domains d a))) (close-same q e e' same t s))
          (stand_for (binders_of p.first v bs) e (terms_in q.first v ts)) (stand_for (binders_of p.second v bs) e' (terms_in q.second v ts)) (stand_for-alike bs ts e e' same)
