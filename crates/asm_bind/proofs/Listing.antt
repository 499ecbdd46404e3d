-- Constants and settings one after the other.
use Rattle.std.proofs.Common.{◌≡◌, ◌∙◌, ℕ, suc, zero, ◌+◌, ◌<◌, ◌≤◌, List, [], ◌∷◌, ◌++◌, length, drop, get_or, Option, Some, None, Result, Ok, Err, refl, sym, ap, subst, append_assoc, append-nil, drop-cons, add-one, arith}
use Rattle.std.specs.Option.{option_map}
use Rattle.std.specs.FinMap as finite
use Rattle.asm_domain.specs.declared.value.Value.{Value}
use Rattle.asm_sign.specs.declared.function.DeclaredDomain.{DeclaredDomain}
use Rattle.asm_sign.specs.Vocabulary.{Vocabulary}
use Rattle.asm_node.specs.Machine.{Input}
use Rattle.asm_tree.specs.declared.script.RawConstant.{RawConstant}
use Rattle.asm_tree.specs.declared.script.RawInputStep.{RawInputStep}
use Rattle.asm_tree.specs.declared.script.RawSet.{RawSet}
use Rattle.asm_tree.specs.declared.term.RawName.{RawName}
use Rattle.asm_bind.specs.declared.error.BadSet.{BadSet}
use Rattle.asm_bind.specs.declared.error.BadSet.TheVariants.{At, Memory}
use Rattle.asm_bind.specs.Given.{and_then, element, elements, given, given_or_name, onward, with_sets, step_input, step_inputs, then_all, before_all, Tells, IsToldOf}

same_some : {A : Type 0} (x y : A) → Some x ≡ Some y → x ≡ y
same_some x y e = cc

-- ---- constants

first_and : (o : Option Value) (p : Option (List Value)) → p ≡ None → and_then o (λ v. option_map (λ (vs : List Value). v ∷ vs) p) ≡ None
first_and None p none = refl
first_and (Some v) p none = ap (option_map (λ (vs : List Value). v ∷ vs)) none

-- there is one constant for each domain
pub uneven : (ds : List DeclaredDomain) (ns : List ℕ) (cs : List RawConstant) → (length ns ≡ length cs → ⊥) → elements ds ns cs ≡ None
uneven ds [] [] other = absurd (other refl)
uneven ds [] (c ∷ cs) other = refl
uneven ds (n ∷ ns) [] other = refl
uneven ds (n ∷ ns) (c ∷ cs) other = first_and (element ds n c) (elements ds ns cs) (uneven ds ns cs (λ e. other (omega (arith, e))))

-- the values so far, and those that are left
abbrev pub behind : List Value → Option (List Value) → Option (List Value)
behind vs o = option_map (λ (ws : List Value). vs ++ ws) o

pub behind_nothing : (o : Option (List Value)) → behind [] o ≡ o
behind_nothing None = refl
behind_nothing (Some vs) = refl

behind_one : (vs : List Value) (v : Value) (o : Option (List Value)) → behind vs (option_map (λ (ws : List Value). v ∷ ws) o) ≡ behind (vs ++ v ∷ []) o
behind_one vs v None = refl
behind_one vs v (Some ws) = ap Some (sym (append_assoc vs (v ∷ []) ws))

module _ (ds : List DeclaredDomain) (ns : List ℕ) (cs : List RawConstant) (i n : ℕ) (c : RawConstant) (some : i < length ns) (more : i < length cs) (at_n : n ≡ get_or ns i n) (at_c : c ≡ get_or cs i c) where
  cut : elements ds (drop i ns) (drop i cs) ≡ and_then (element ds n c) (λ v. option_map (λ (vs : List Value). v ∷ vs) (elements ds (drop (i + 1) ns) (drop (i + 1) cs)))
  cut = rw (drop-cons ns i n, drop-cons cs i c, add-one, sym at_n, sym at_c) refl

  pub value_met : (vs : List Value) (v : Value) (whole : Option (List Value)) → element ds n c ≡ Some v → behind vs (elements ds (drop i ns) (drop i cs)) ≡ whole → behind (vs ++ v ∷ []) (elements ds (drop (i + 1) ns) (drop (i + 1) cs)) ≡ whole
  value_met vs v whole is is_whole =
      sym (behind_one vs v (elements ds (drop (i + 1) ns) (drop (i + 1) cs)))
      ∙ sym (ap (behind vs) (cut ∙ ap (λ (o : Option Value). and_then o (λ w. option_map (λ (ws : List Value). w ∷ ws) (elements ds (drop (i + 1) ns) (drop (i + 1) cs)))) is))
      ∙ is_whole

  pub no_value : (vs : List Value) (whole : Option (List Value)) → element ds n c ≡ None → behind vs (elements ds (drop i ns) (drop i cs)) ≡ whole → None ≡ whole
  no_value vs whole is is_whole =
      sym (ap (behind vs) (cut ∙ ap (λ (o : Option Value). and_then o (λ w. option_map (λ (ws : List Value). w ∷ ws) (elements ds (drop (i + 1) ns) (drop (i + 1) cs)))) is))
      ∙ is_whole

nothing_left : {A : Type 0} (xs : List A) (i : ℕ) → length xs ≤ i → drop i xs ≡ []
nothing_left [] i le = drop_none i
  where
    drop_none : {A : Type 0} (i : ℕ) → drop {A = A} i [] ≡ []
    drop_none zero = refl
    drop_none (suc i) = refl
nothing_left (x ∷ xs) zero le = absurd (omega (arith, le))
nothing_left (x ∷ xs) (suc i) le = nothing_left xs i (omega (arith, le))

pub values_end : (ds : List DeclaredDomain) (ns : List ℕ) (cs : List RawConstant) (i : ℕ) (vs : List Value) (whole : Option (List Value)) → length ns ≤ i → length cs ≤ i → behind vs (elements ds (drop i ns) (drop i cs)) ≡ whole → Some vs ≡ whole
values_end ds ns cs i vs whole some more is_whole =
    ap Some (sym (append-nil vs)) ∙ sym (ap (behind vs) (ap (λ (xs : List ℕ). elements ds xs (drop i cs)) (nothing_left ns i some) ∙ ap (λ (xs : List RawConstant). elements ds [] xs) (nothing_left cs i more))) ∙ is_whole

-- ---- what is told

pub told : {A : Type 0} (e : BadSet) (name : RawName) (o : Result A RawName) → o ≡ Err name → IsToldOf e name → Tells e o
told (At at n) name o is t = is ∙ ap Err t
told Memory name o is t = tt

-- a setting is told whatever comes behind it
pub told_onward : {A B : Type 0} (e : BadSet) (name : RawName) (o : Option (ℕ × Value)) (f : ℕ × Value → Result A RawName) (g : ℕ × Value → Result B RawName) → ((p : ℕ × Value) → (x : A) × (f p ≡ Ok x)) → Tells e (onward name o f) → Tells e (onward name o g)
told_onward (At at n) name None f g ok t = ap Err (error_is t)
  where
    error_is : {A : Type 0} {x y : RawName} → ◌≡◌ {A = Result A RawName} (Err x) (Err y) → x ≡ y
    error_is e = cc
told_onward (At at n) name (Some p) f g ok t = absurd (no (ok p).0 (sym (ok p).1 ∙ t))
  where
    no : {A : Type 0} {y : RawName} (x : A) → ◌≡◌ {A = Result A RawName} (Ok x) (Err y) → ⊥
    no x e = cc
told_onward Memory name o f g ok t = tt

-- ---- the settings of a step

given_ok : (name : RawName) (o : Option (ℕ × Value)) (p : ℕ × Value) → ◌≡◌ {A = Result (ℕ × Value) RawName} (onward name o (λ q. Ok q)) (Ok p) → o ≡ Some p
given_ok name None p e = absurd (no e)
  where
    no : {x : RawName} {q : ℕ × Value} → ◌≡◌ {A = Result (ℕ × Value) RawName} (Err x) (Ok q) → ⊥
    no e = cc
given_ok name (Some q) p e = ap Some (same e)
  where
    same : {x y : ℕ × Value} → ◌≡◌ {A = Result (ℕ × Value) RawName} (Ok x) (Ok y) → x ≡ y
    same e = cc

pub pair_given : (v : Vocabulary) (set : RawSet) (p : ℕ × Value) → given_or_name v set ≡ Ok p → given v set ≡ Some p
pair_given v set p e = given_ok set.name (given v set) p e

module _ (v : Vocabulary) (i : Input) (sets : List RawSet) (k : ℕ) (set : RawSet) (within : k < length sets) (at : set ≡ get_or sets k set) (whole : Result Input RawName) (is_whole : with_sets v i (drop k sets) ≡ whole) where
  next_is : with_sets v i (drop k sets) ≡ onward set.name (given v set) (λ p. with_sets v (finite.insert i p.0 p.1) (drop (k + 1) sets))
  next_is = rw (drop-cons sets k set, add-one, sym at) refl

  pub set_met : (p : ℕ × Value) → given_or_name v set ≡ Ok p → with_sets v (finite.insert i p.0 p.1) (drop (k + 1) sets) ≡ whole
  set_met p e = sym (next_is ∙ ap (λ (o : Option (ℕ × Value)). onward set.name o (λ q. with_sets v (finite.insert i q.0 q.1) (drop (k + 1) sets))) (pair_given v set p e)) ∙ is_whole

  pub set_told : (e : BadSet) → Tells e (given_or_name v set) → Tells e whole
  set_told e t = subst (λ (r : Result Input RawName). Tells e r) (sym next_is ∙ is_whole) (told_onward e set.name (given v set) (λ p. Ok p) (λ p. with_sets v (finite.insert i p.0 p.1) (drop (k + 1) sets)) (λ p. (p, refl)) t)

pub sets_end : (v : Vocabulary) (i : Input) (sets : List RawSet) (k : ℕ) (whole : Result Input RawName) → length sets ≤ k → with_sets v i (drop k sets) ≡ whole → whole ≡ Ok i
sets_end v i sets k whole le is_whole = sym is_whole ∙ ap (with_sets v i) (nothing_left sets k le)

-- ---- the inputs of steps

-- the inputs so far, and those that are left
abbrev pub front : List Input → Result (List Input) RawName → Result (List Input) RawName
front is (Ok js) = Ok (is ++ js)
front is (Err name) = Err name

pub front_nothing : (r : Result (List Input) RawName) → front [] r ≡ r
front_nothing (Ok js) = refl
front_nothing (Err name) = refl

front_one : (is : List Input) (i : Input) (r : Result (List Input) RawName) → front is (before_all i r) ≡ front (is ++ i ∷ []) r
front_one is i (Ok js) = ap Ok (sym (append_assoc is (i ∷ []) js))
front_one is i (Err name) = refl

module _ (v : Vocabulary) (is : List Input) (steps : List RawInputStep) (k : ℕ) (step : RawInputStep) (within : k < length steps) (at : step ≡ get_or steps k step) (whole : Result (List Input) RawName) (is_whole : front is (step_inputs v (drop k steps)) ≡ whole) where
  step_is : step_inputs v (drop k steps) ≡ then_all (step_input v step) (step_inputs v (drop (k + 1) steps))
  step_is = rw (drop-cons steps k step, add-one, sym at) refl

  pub input_met : (i : Input) → step_input v step ≡ Ok i → front (is ++ i ∷ []) (step_inputs v (drop (k + 1) steps)) ≡ whole
  input_met i e =
      sym (front_one is i (step_inputs v (drop (k + 1) steps)))
      ∙ sym (ap (front is) (step_is ∙ ap (λ (r : Result Input RawName). then_all r (step_inputs v (drop (k + 1) steps))) e))
      ∙ is_whole

  pub input_told : (e : BadSet) → Tells e (step_input v step) → Tells e whole
  input_told (At place name) t =
      sym is_whole ∙ ap (front is) (step_is ∙ ap (λ (r : Result Input RawName). then_all r (step_inputs v (drop (k + 1) steps))) t)
  input_told Memory t = tt

pub inputs_end : (v : Vocabulary) (is : List Input) (steps : List RawInputStep) (k : ℕ) (whole : Result (List Input) RawName) → length steps ≤ k → front is (step_inputs v (drop k steps)) ≡ whole → whole ≡ Ok is
inputs_end v is steps k whole le is_whole = sym is_whole ∙ ap (λ (xs : List RawInputStep). front is (step_inputs v xs)) (nothing_left steps k le) ∙ ap Ok (append-nil is)
