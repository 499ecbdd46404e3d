-- The first slots of the functions, and whose a slot is.
use Rattle.std.proofs.Common.{◌≡◌, ℕ, ◌+◌, ◌-◌, ◌<◌, ◌≤◌, ◌↔◌, IsNone, List, [], ◌∷◌, ◌++◌, length, map, get_or, slice_get, Option, Some, Bool as Truth, true, false, IsTrue, refl, sym, ap, ◌∙◌, subst, inl, inr, arith}
use Rattle.std.proofs.lemmas.Bool.{cases_lt}
use Rattle.std.proofs.lemmas.List.{length_push, get_or_push, get_or_append_left}
use Rattle.std.proofs.lemmas.Option.{slice_get_within, slice_get-get_or, get_or_from_slice_get}
use Rattle.std.specs.List.{All}
use Rattle.std.specs.Option.{option_map}
use Rattle.asm_domain.specs.Universe.{IsRank}
use Rattle.asm_sign.specs.Arguments.{elements_at}
use Rattle.asm_domain.specs.declared.value.Value.{Value}
use Rattle.asm_sign.specs.declared.function.DeclaredDomain.{DeclaredDomain}
use Rattle.asm_sign.specs.declared.function.Function.{Function}
use Rattle.asm_sign.specs.Kind.{is_dynamic}
use Rattle.asm_sign.specs.Tuples.{tuples, AllDistinct}
use Rattle.asm_sign.specs.Vocabulary.{Vocabulary, argument_lists, locations_of, locations, function_at, function_of, codomain_of, IsDeclared, IsLocation}
use Rattle.asm_sign.specs.Indexed.{first_slot, AreFirsts}
use Rattle.asm_sign.proofs.Slots.{first_more, first_all, length_dynamic, length_static, stands, none_iff_location}

module _ (domains : List DeclaredDomain) (functions : List Function) where
  pub firsts_none : (xs : List ℕ) → xs ≡ 0 ∷ [] → AreFirsts domains functions 0 xs
  firsts_none xs e = record {
    length_is = ap length e ∙ omega arith;
    first_is = λ k le. let z : k ≡ 0 = omega arith in ap (λ ys. get_or ys k 0) e ∙ ap (λ n. get_or (0 ∷ []) n 0) z ∙ ap (first_slot domains functions) (sym z);
    distinct = λ k f lt. absurd (omega arith);
  }

  pub next_more : (i next n : ℕ) (f : Function) → next ≡ first_slot domains functions i → slice_get functions i ≡ Some f → n ≡ length (locations_of domains (0, f)) → next + n ≡ first_slot domains functions (i + 1)
  next_more i next n f next_is at n_is = (λ j. next_is j + n_is j) ∙ sym (first_more domains functions i f at)

  pub firsts_more : (i next n : ℕ) (f : Function) (xs ys : List ℕ) → AreFirsts domains functions i xs → next ≡ first_slot domains functions i → slice_get functions i ≡ Some f → n ≡ length (locations_of domains (0, f))
      → (IsTrue (is_dynamic f.kind) → AllDistinct (argument_lists domains f)) → ys ≡ xs ++ (next + n) ∷ [] → AreFirsts domains functions (i + 1) ys
  firsts_more i next n f xs ys are next_is at n_is distinct e = record {
    length_is = ap length e ∙ length_push xs (next + n) ∙ ap (λ m. m + 1) are.length_is;
    first_is = λ k le. ap (λ zs. get_or zs k 0) e ∙ first k le;
    distinct = λ k g lt at_g. elim (cases_lt k i) [
      | inl l ↦ are.distinct k g l at_g
      | inr l ↦
          let z : k ≡ i = omega arith in
          let at_i = ap (slice_get functions) (sym z) ∙ at_g in
          let same : f ≡ g = cc (at, at_i) in
          subst (λ (h : Function). IsTrue (is_dynamic h.kind) → AllDistinct (argument_lists domains h)) same distinct
    ];
  }
    where
      len : length xs ≡ i + 1
      len = are.length_is

      first : (k : ℕ) → k ≤ i + 1 → get_or (xs ++ (next + n) ∷ []) k 0 ≡ first_slot domains functions k
      first k le =
          elim (cases_lt k (i + 1)) [
            | inl l ↦ get_or_append_left xs ((next + n) ∷ []) 0 k (omega arith) ∙ are.first_is k (omega arith)
            | inr l ↦
                let z : length xs ≡ k = omega arith in
                let w : k ≡ i + 1 = omega arith in
                get_or_push xs (next + n) 0 k z ∙ next_more i next n f next_is at n_is ∙ ap (first_slot domains functions) (sym w)
          ]

  -- the function of a slot is dynamic, and the slot is a place among its tuples
  pub record Owns (firsts : List ℕ) (k slot : ℕ) (f : Function) : Type 0 where
    pub dynamic : IsTrue (is_dynamic f.kind)
    pub count_is : get_or firsts (k + 1) 0 - get_or firsts k 0 ≡ length (tuples (argument_lists domains f))
    pub within : slot - get_or firsts k 0 < get_or firsts (k + 1) 0 - get_or firsts k 0
    pub slot_is : slot ≡ first_slot domains functions k + (slot - get_or firsts k 0)

  pub owns : (firsts : List ℕ) (k slot : ℕ) (f : Function) → AreFirsts domains functions (length functions) firsts → slice_get functions k ≡ Some f → get_or firsts k 0 ≤ slot → slot < get_or firsts (k + 1) 0 → Owns firsts k slot f
  owns firsts k slot f are at from to = by (is_dynamic f.kind) refl
    where
      lt : k < length functions
      lt = slice_get_within functions k f at

      here : get_or firsts k 0 ≡ first_slot domains functions k
      here = are.first_is k (omega (arith, lt))

      next : get_or firsts (k + 1) 0 ≡ first_slot domains functions k + length (locations_of domains (0, f))
      next = are.first_is (k + 1) (omega (arith, lt)) ∙ first_more domains functions k f at

      by : (b : Truth) → is_dynamic f.kind ≡ b → Owns firsts k slot f
      by true e =
          let count = length_dynamic domains 0 f e in
          record { dynamic = e; count_is = omega (arith, here, next, count); within = omega (arith, from, to); slot_is = omega (arith, here, from) }
      by false e = let none = length_static domains 0 f e in absurd (omega (arith, here, next, none, from, to))

  -- what the search for a slot's function needs
  pub record Searchable (firsts : List ℕ) (slot : ℕ) : Type 0 where
    pub some : 2 ≤ length firsts
    pub from : get_or firsts 0 0 ≤ slot
    pub to : slot < get_or firsts (length firsts - 1) 0

  pub searchable : (firsts : List ℕ) (slot : ℕ) → AreFirsts domains functions (length functions) firsts → slot < length (locations record { domains = domains; functions = functions }) → Searchable firsts slot
  searchable firsts slot are lt =
      let len = are.length_is in
      let start = are.first_is 0 (omega arith) in
      let all = are.first_is (length functions) (omega arith) ∙ first_all domains functions in
      let last : length firsts - 1 ≡ length functions = omega arith in
      let end = ap (λ n. get_or firsts n 0) last ∙ all in
      elim (cases_lt 0 (length functions)) [
        | inl l ↦ record { some = omega arith; from = omega (arith, start); to = omega (arith, end, lt) }
        | inr l ↦
            let none : length functions ≡ 0 = omega arith in
            let zero_slots = ap (first_slot domains functions) none in
            let total = first_all domains functions in absurd (omega (arith, zero_slots, total, lt))
      ]

  -- the function at a slot
  pub function_at_is : (firsts : List ℕ) (k slot : ℕ) (f : Function) → Owns firsts k slot f → slice_get functions k ≡ Some f → function_at record { domains = domains; functions = functions } slot ≡ Some f
  function_at_is firsts k slot f o at =
      let ts = tuples (argument_lists domains f) in
      let j = slot - get_or firsts k 0 in
      let count = o.count_is in
      let within = o.within in
      let at_j = slice_get-get_or ts j [] (omega (arith, count, within)) in
      let there = ap (slice_get (locations record { domains = domains; functions = functions })) o.slot_is ∙ stands domains functions k j f (get_or ts j []) at o.dynamic at_j in
      ap (function_of record { domains = domains; functions = functions }) there ∙ at

pub declared_at : (domains : List DeclaredDomain) (functions : List Function) (k : ℕ) (f : Function) → All (IsDeclared domains) functions → slice_get functions k ≡ Some f → IsDeclared domains f
declared_at domains functions k f all at =
    subst (λ (g : Function). IsDeclared domains g) (get_or_from_slice_get functions k f f at) (all k f (slice_get_within functions k f at))

-- the same, told by equal lists
pub declared_same : (ds ds' : List DeclaredDomain) (ns ns' : List ℕ) → ds' ≡ ds → ns' ≡ ns → All (λ n. n < length ds) ns → All (λ n. n < length ds') ns'
declared_same ds ds' ns ns' e f all =
    subst (λ (p : List DeclaredDomain × List ℕ). All (λ n. n < length p.0) p.1) (λ i. (sym e i, sym f i)) all

pub lists_same : (ds ds' : List DeclaredDomain) (ns ns' : List ℕ) → ds' ≡ ds → ns' ≡ ns → map (elements_at ds') ns' ≡ map (elements_at ds) ns
lists_same ds ds' ns ns' e f = λ i. map (elements_at (e i)) (f i)

pub distinct_same : (ds ds' : List DeclaredDomain) (ns ns' : List ℕ) → ds' ≡ ds → ns' ≡ ns → AllDistinct (map (elements_at ds) ns) → AllDistinct (map (elements_at ds') ns')
distinct_same ds ds' ns ns' e f all k xs at = all k xs (ap (λ ls. slice_get ls k) (sym (lists_same ds ds' ns ns' e f)) ∙ at)

pub firsts_same : (ds ds' : List DeclaredDomain) (fs fs' : List Function) (xs : List ℕ) → ds' ≡ ds → fs' ≡ fs → AreFirsts ds' fs' (length fs') xs → AreFirsts ds fs (length fs) xs
firsts_same ds ds' fs fs' xs e f are =
    subst (λ (p : List DeclaredDomain × List Function). AreFirsts p.0 p.1 (length p.1) xs) (λ i. (e i, f i)) are

pub slot_ranked : (v v' : Vocabulary) (k : ℕ) (args : List Value) (r : Option ℕ) → v' ≡ v → IsRank (locations v') (k, args) r → IsRank (locations v) (k, args) r × (IsNone r ↔ ¬ IsLocation v k args)
slot_ranked v v' k args r e is =
    let is' = subst (λ (w : Vocabulary). IsRank (locations w) (k, args) r) e is in (is', none_iff_location v k args r is')

pub codomain_is : (v : Vocabulary) (domains : List DeclaredDomain) (functions : List Function) (slot : ℕ) (f : Function) (d : DeclaredDomain) → function_at record { domains = domains; functions = functions } slot ≡ Some f → slice_get domains f.codomain ≡ Some d → record { domains = domains; functions = functions } ≡ v → codomain_of v (function_at v slot) ≡ Some d.domain
codomain_is v domains functions slot f d is at e =
    let there = ap (codomain_of record { domains = domains; functions = functions }) is ∙ ap (option_map (λ x. x.domain)) at in
    subst (λ (w : Vocabulary). codomain_of w (function_at w slot) ≡ Some d.domain) e there

pub rank_same : (xss yss : List (List Value)) (args : List Value) (r : Option ℕ) → xss ≡ yss → IsRank (tuples xss) args r → IsRank (tuples yss) args r
rank_same xss yss args r e is = subst (λ (zss : List (List Value)). IsRank (tuples zss) args r) e is
