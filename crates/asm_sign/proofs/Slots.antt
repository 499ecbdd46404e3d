-- Locations by their slots.
use Rattle.std.proofs.Common.{◌≡◌, ℕ, zero, suc, ◌+◌, ◌*◌, ◌≤◌, ◌↔◌, List, [], ◌∷◌, ◌++◌, length, map, take, drop, slice_get, Option, Some, None, IsNone, Bool as Truth, true, false, IsTrue, if◌then◌else◌, refl, sym, ap, ◌∙◌, arith, length-append}
use Rattle.std.proofs.lemmas.List.{length-map, take-append-drop, take_all, append-nil}
use Rattle.std.proofs.lemmas.List.Concat.{flat_map-append}
use Rattle.std.proofs.lemmas.List.FromFn.{length-enumerate_from}
use Rattle.std.proofs.lemmas.Option.{slice_get_within, slice_get-get_or}
use Rattle.std.specs.List.{flat_map, enumerate_from, AllZip, Contains}
use Rattle.asm_domain.specs.declared.value.Value.{Value}
use Rattle.asm_domain.specs.Universe.{IsRank}
use Rattle.asm_domain.proofs.Elements.{no_rank}
use Rattle.asm_sign.specs.declared.function.DeclaredDomain.{DeclaredDomain}
use Rattle.asm_sign.specs.declared.function.Function.{Function}
use Rattle.asm_sign.specs.Arguments.{elements_at}
use Rattle.asm_sign.specs.Kind.{is_dynamic}
use Rattle.asm_sign.specs.Tuples.{tuples, AllDistinct}
use Rattle.asm_sign.specs.Vocabulary.{Vocabulary, argument_lists, locations_of, locations, IsLocation}
use Rattle.asm_sign.specs.Indexed.{first_slot}
use Rattle.asm_sign.proofs.TupleLemmas.{in_map, in_flat_map, get-flat_map, get-extended}
use Rattle.asm_sign.proofs.Picks.{get-map_at, in_tuples_picks}

length_zip : {A : Type 0} (xs : List A) (yss : List (List A)) → AllZip (λ x ys. Contains ys x) xs yss → length xs ≡ length yss
length_zip [] [] zip = refl
length_zip [] (ys ∷ yss) zip = absurd zip
length_zip (x ∷ xs) [] zip = absurd zip
length_zip (x ∷ xs) (ys ∷ yss) zip = ap suc (length_zip xs yss zip.1)

-- numbered items
pub get-enumerate : {A : Type 0} (n : ℕ) (xs : List A) (k : ℕ) (x : A) → slice_get xs k ≡ Some x → slice_get (enumerate_from n xs) k ≡ Some (n + k, x)
get-enumerate n [] k x at = absurd (cc at)
get-enumerate n (y ∷ xs) zero x at =
    let e : y ≡ x = cc at in let f : n ≡ n + 0 = omega arith in λ i. Some (f i, e i)
get-enumerate n (y ∷ xs) (suc k) x at =
    let f : (n + 1) + k ≡ n + suc k = omega arith in get-enumerate (n + 1) xs k x at ∙ ap (λ m. Some (m, x)) f

pub in_enumerate : {A : Type 0} (n : ℕ) (xs : List A) (k : ℕ) (p : ℕ × A) → slice_get (enumerate_from n xs) k ≡ Some p → (p.0 ≡ n + k) × (slice_get xs k ≡ Some p.1)
in_enumerate n [] k p at = absurd (cc at)
in_enumerate n (y ∷ xs) zero p at =
    let e : (n, y) ≡ p = cc at in (sym (ap (λ q. q.0) e) ∙ omega arith, ap (λ q. Some q.1) e)
in_enumerate n (y ∷ xs) (suc k) p at =
    let r = in_enumerate (n + 1) xs k p at in let f : (n + 1) + k ≡ n + suc k = omega arith in (r.0 ∙ f, r.1)

-- one item more in front
take-more_at : {A : Type 0} (xs : List A) (k : ℕ) (x : A) → slice_get xs k ≡ Some x → take (suc k) xs ≡ take k xs ++ x ∷ []
take-more_at [] k x at = absurd (cc at)
take-more_at (y ∷ xs) zero x at = let e : y ≡ x = cc at in ap (λ z. z ∷ []) e
take-more_at (y ∷ xs) (suc k) x at = ap (λ zs. y ∷ zs) (take-more_at xs k x at)

-- the locations of a function whose kind is told
abbrev pair : ℕ → List Value → ℕ × List Value
pair n args = (n, args)

abbrev chosen : Truth → ℕ → List (List Value) → List (ℕ × List Value)
chosen b n ts = if b then map (pair n) ts else []

module _ (n : ℕ) (ts : List (List Value)) where
  dynamic_length : (b : Truth) → b ≡ true → length (chosen b n ts) ≡ length ts
  dynamic_length true e = length-map ts (pair n)
  dynamic_length false e = absurd (cc e)

  any_length : (b : Truth) (m : ℕ) → length (chosen b n ts) ≡ length (chosen b m ts)
  any_length true m = length-map ts (pair n) ∙ sym (length-map ts (pair m))
  any_length false m = refl

  dynamic_get : (b : Truth) (j : ℕ) (t : List Value) → b ≡ true → slice_get ts j ≡ Some t → slice_get (chosen b n ts) j ≡ Some (n, t)
  dynamic_get true j t e at = get-map_at (pair n) ts j t at
  dynamic_get false j t e at = absurd (cc e)

  dynamic_in : (b : Truth) (j : ℕ) (p : ℕ × List Value) → slice_get (chosen b n ts) j ≡ Some p → (b ≡ true) × (p.0 ≡ n) × (slice_get ts j ≡ Some p.1)
  dynamic_in true j p at =
      let r = in_map (pair n) ts j p at in
      (refl, sym (ap (λ q. q.0) r.2), r.1 ∙ ap (λ q. Some q.1) r.2)
  dynamic_in false j p at = absurd (cc at)

  static_length : (b : Truth) → b ≡ false → length (chosen b n ts) ≡ 0
  static_length true e = absurd (cc e)
  static_length false e = refl

pub length_dynamic : (domains : List DeclaredDomain) (n : ℕ) (f : Function) → IsTrue (is_dynamic f.kind) → length (locations_of domains (n, f)) ≡ length (tuples (argument_lists domains f))
length_dynamic domains n f dynamic = dynamic_length n (tuples (argument_lists domains f)) (is_dynamic f.kind) dynamic

pub length_static : (domains : List DeclaredDomain) (n : ℕ) (f : Function) → is_dynamic f.kind ≡ false → length (locations_of domains (n, f)) ≡ 0
length_static domains n f static = static_length n (tuples (argument_lists domains f)) (is_dynamic f.kind) static

module _ (domains : List DeclaredDomain) (functions : List Function) where
  -- the first slot of the next function
  pub first_more : (k : ℕ) (f : Function) → slice_get functions k ≡ Some f → first_slot domains functions (k + 1) ≡ first_slot domains functions k + length (locations_of domains (0, f))
  first_more k f at =
      let e : k + 1 ≡ suc k = omega arith in
      let more = take-more_at (enumerate_from 0 functions) k (0 + k, f) (get-enumerate 0 functions k f at) in
      let parts = flat_map-append (locations_of domains) (take k (enumerate_from 0 functions)) ((0 + k, f) ∷ []) in
      let one : flat_map (locations_of domains) ((0 + k, f) ∷ []) ≡ locations_of domains (0 + k, f) = append-nil (locations_of domains (0 + k, f)) in
      let sizes = length-append (flat_map (locations_of domains) (take k (enumerate_from 0 functions))) (flat_map (locations_of domains) ((0 + k, f) ∷ [])) in
      let same = any_length (0 + k) (tuples (argument_lists domains f)) (is_dynamic f.kind) 0 in
      ap (first_slot domains functions) e ∙ ap (λ ps. length (flat_map (locations_of domains) ps)) more ∙ ap length parts ∙ sizes
      ∙ ap (λ ls. first_slot domains functions k + length ls) one ∙ ap (λ m. first_slot domains functions k + m) same

  pub first_le : (k : ℕ) → first_slot domains functions k ≤ length (locations record { domains = domains; functions = functions })
  first_le k =
      let whole = take-append-drop k (enumerate_from 0 functions) in
      let parts = flat_map-append (locations_of domains) (take k (enumerate_from 0 functions)) (drop k (enumerate_from 0 functions)) in
      let sizes = length-append (flat_map (locations_of domains) (take k (enumerate_from 0 functions))) (flat_map (locations_of domains) (drop k (enumerate_from 0 functions))) in
      let e = ap (λ ps. length (flat_map (locations_of domains) ps)) (sym whole) ∙ ap length parts ∙ sizes in omega (arith, e)

  pub first_all : first_slot domains functions (length functions) ≡ length (locations record { domains = domains; functions = functions })
  first_all =
      let e = length-enumerate_from 0 functions in
      ap (λ ps. length (flat_map (locations_of domains) ps)) (take_all (length functions) (enumerate_from 0 functions) (omega arith))

  -- a location stands at its function's first slot plus its place
  pub stands : (k j : ℕ) (f : Function) (args : List Value) → slice_get functions k ≡ Some f → IsTrue (is_dynamic f.kind) → slice_get (tuples (argument_lists domains f)) j ≡ Some args
      → slice_get (locations record { domains = domains; functions = functions }) (first_slot domains functions k + j) ≡ Some (k, args)
  stands k j f args at dynamic at_j =
      let e : 0 + k ≡ k = omega arith in
      get-flat_map (locations_of domains) (enumerate_from 0 functions) k j (0 + k, f) (0 + k, args) (get-enumerate 0 functions k f at) (dynamic_get (0 + k) (tuples (argument_lists domains f)) (is_dynamic f.kind) j args dynamic at_j)
      ∙ ap (λ n. Some (n, args)) e

  -- where a location stands
  pub record Located (slot number : ℕ) (args : List Value) : Type 0 where
    pub function : Function
    pub is_function : slice_get functions number ≡ Some function
    pub dynamic : IsTrue (is_dynamic function.kind)
    pub place : ℕ
    pub at_place : slice_get (tuples (argument_lists domains function)) place ≡ Some args
    pub slot_is : slot ≡ first_slot domains functions number + place

  pub located : (slot number : ℕ) (args : List Value) → slice_get (locations record { domains = domains; functions = functions }) slot ≡ Some (number, args) → Located slot number args
  located slot number args at =
      let p = in_flat_map (locations_of domains) (enumerate_from 0 functions) slot (number, args) at in
      let q = in_enumerate 0 functions p.part p.from p.part_is in
      let r = dynamic_in p.from.0 (tuples (argument_lists domains p.from.1)) (is_dynamic p.from.1.kind) p.place (number, args) p.item_is in
      let same : p.part ≡ number = omega (arith, q.0, r.1) in
      record {
        function = p.from.1;
        is_function = ap (slice_get functions) (sym same) ∙ q.1;
        dynamic = r.0;
        place = p.place;
        at_place = r.2;
        slot_is = p.place_is ∙ ap (λ n. first_slot domains functions n + p.place) same;
      }

  same_function : (k : ℕ) (f g : Function) → slice_get functions k ≡ Some f → slice_get functions k ≡ Some g → f ≡ g
  same_function k f g at at' = cc (at, at')

  -- the slot of a location whose arguments have a place
  pub slot_some : (k j s : ℕ) (f : Function) (args : List Value) → slice_get functions k ≡ Some f → IsTrue (is_dynamic f.kind) → IsRank (tuples (argument_lists domains f)) args (Some j) → s ≡ first_slot domains functions k + j
      → IsRank (locations record { domains = domains; functions = functions }) (k, args) (Some s)
  slot_some k j s f args at dynamic rank is = record {
    found = λ l e. let same : s ≡ l = cc e in ap (slice_get (locations record { domains = domains; functions = functions })) (sym same ∙ is) ∙ stands k j f args at dynamic (rank.found j refl);
    every = λ l at_l. let p = located l k args at_l in
        let same = same_function k p.function f p.is_function at in
        let at_place = ap (λ g. slice_get (tuples (argument_lists domains g)) p.place) (sym same) ∙ p.at_place in
        let places = rank.every p.place at_place in
        let e : j ≡ p.place = cc places in
        let slot = p.slot_is in ap Some (is ∙ ap (λ n. first_slot domains functions k + n) e ∙ sym slot);
  }

  pub slot_none : (k : ℕ) (f : Function) (args : List Value) → slice_get functions k ≡ Some f → IsRank (tuples (argument_lists domains f)) args None → IsRank (locations record { domains = domains; functions = functions }) (k, args) None
  slot_none k f args at none =
      no_rank (locations record { domains = domains; functions = functions }) (k, args) (λ l at_l.
      let p = located l k args at_l in
      let same = same_function k p.function f p.is_function at in
      let at_place = ap (λ g. slice_get (tuples (argument_lists domains g)) p.place) (sym same) ∙ p.at_place in
      cc (none.every p.place at_place))

  pub slot_static : (k : ℕ) (f : Function) (args : List Value) → slice_get functions k ≡ Some f → is_dynamic f.kind ≡ false → IsRank (locations record { domains = domains; functions = functions }) (k, args) None
  slot_static k f args at static =
      no_rank (locations record { domains = domains; functions = functions }) (k, args) (λ l at_l.
      let p = located l k args at_l in
      let same = same_function k p.function f p.is_function at in
      let dynamic = ap (λ g. is_dynamic g.kind) (sym same) ∙ p.dynamic in cc (dynamic, static))

  pub slot_past : (k : ℕ) (args : List Value) → length functions ≤ k → IsRank (locations record { domains = domains; functions = functions }) (k, args) None
  slot_past k args past =
      no_rank (locations record { domains = domains; functions = functions }) (k, args) (λ l at_l.
      let p = located l k args at_l in
      let lt = slice_get_within functions k p.function p.is_function in omega arith)

  pub slot_other : (k : ℕ) (f : Function) (args : List Value) → slice_get functions k ≡ Some f → (length args ≡ length f.domains → ⊥) → IsRank (locations record { domains = domains; functions = functions }) (k, args) None
  slot_other k f args at other =
      no_rank (locations record { domains = domains; functions = functions }) (k, args) (λ l at_l.
      let p = located l k args at_l in
      let same = same_function k p.function f p.is_function at in
      let picks = in_tuples_picks (argument_lists domains p.function) p.place args p.at_place in
      let sizes = length_zip args (argument_lists domains p.function) picks in
      let lists = length-map p.function.domains (elements_at domains) in
      other (sizes ∙ lists ∙ ap (λ g. length g.domains) same))

-- a tuple with an item of each list stands among the tuples
pub picks_stand : {A : Type 0} (args : List A) (xss : List (List A)) → AllZip (λ x xs. Contains xs x) args xss → (j : ℕ) × (slice_get (tuples xss) j ≡ Some args)
picks_stand [] [] picks = (0, refl)
picks_stand [] (xs ∷ xss) picks = absurd picks
picks_stand (x ∷ args) [] picks = absurd picks
picks_stand (x ∷ args) (xs ∷ xss) picks =
    let rest = picks_stand args xss picks.1 in
    let here = picks.0 in
    (here.0 * length (tuples xss) + rest.0, get-extended (tuples xss) xs here.0 rest.0 x args (slice_get-get_or xs here.0 x here.1 ∙ ap Some here.2) rest.1)

-- there is no slot exactly where there is no location
pub none_iff_location : (v : Vocabulary) (k : ℕ) (args : List Value) (r : Option ℕ) → IsRank (locations v) (k, args) r → IsNone r ↔ ¬ IsLocation v k args
none_iff_location v k args None is = (
  λ none l.
      let j = picks_stand args (argument_lists v.domains l.function) l.elements in
      let e = is.every _ (stands v.domains v.functions k j.0 l.function args l.is_function l.dynamic j.1) in cc e,
  λ none. refl,
)
none_iff_location v k args (Some s) is = (
  λ none. absurd (cc none),
  λ none.
      let p = located v.domains v.functions s k args (is.found s refl) in
      absurd (none record { function = p.function; is_function = p.is_function; dynamic = p.dynamic; elements = in_tuples_picks (argument_lists v.domains p.function) p.place args p.at_place }),
)

-- lists told by equal numbers
pub distinct_of : (domains : List DeclaredDomain) (ms ns : List ℕ) → ms ≡ ns → AllDistinct (map (elements_at domains) ms) → AllDistinct (map (elements_at domains) ns)
distinct_of domains ms ns e all k xs at = all k xs (ap (λ ls. slice_get (map (elements_at domains) ls) k) e ∙ at)
