-- Commands that are added once more.
use Rattle.std.proofs.Common.{◌≡◌, ◌∙◌, ℕ, zero, suc, ◌+◌, ◌<◌, ◌≤◌, List, [], ◌∷◌, ◌++◌, length, take, drop, Option, Some, None, slice_get, refl, sym, ap, append_assoc, append-nil, add-one, arith}
use Rattle.std.specs.Option.{option_map, option_to_list}
use Rattle.std.specs.declared.rc.Rc.{Rc}
use Rattle.std.specs.declared.alloc.Global.{Global}
use Rattle.std.proofs.lemmas.List.{map-append, drop-append-le, length-take-le}
use Rattle.std.proofs.lemmas.Option.{slice_get-map}
use Rattle.avalla_command.specs.declared.command.Command.{Command}
use Rattle.avalla_command.specs.Acts.{Act, act_of, acts_of}
use Rattle.avalla_prepare.specs.Parts.{at_place}

module _ (order : List (Rc Command Global)) (place : ℕ) where
  found : at_place (acts_of order) place ≡ option_to_list (option_map (λ (r : Rc Command Global). act_of r.value) (slice_get order place))
  found = ap option_to_list (slice_get-map (λ (r : Rc Command Global). act_of r.value) order place)

  pub again_some : (new : List (Rc Command Global)) (r copy : Rc Command Global) → new ≡ order ++ copy ∷ [] → copy.value ≡ r.value → Some r ≡ slice_get order place → acts_of new ≡ acts_of order ++ at_place (acts_of order) place
  again_some new r copy is same at =
      ap acts_of is ∙ map-append (λ (r : Rc Command Global). act_of r.value) order (copy ∷ [])
      ∙ ap (λ v. acts_of order ++ act_of v ∷ []) same
      ∙ ap (λ (o : Option (Rc Command Global)). acts_of order ++ option_to_list (option_map (λ (r : Rc Command Global). act_of r.value) o)) at
      ∙ sym (ap (λ acts. acts_of order ++ acts) found)

  pub again_none : None ≡ slice_get order place → acts_of order ≡ acts_of order ++ at_place (acts_of order) place
  again_none at =
      sym (append-nil (acts_of order))
      ∙ ap (λ (o : Option (Rc Command Global)). acts_of order ++ option_to_list (option_map (λ (r : Rc Command Global). act_of r.value) o)) at
      ∙ sym (ap (λ acts. acts_of order ++ acts) found)

-- what lies before stays there
at_front : (a more : List Act) (place : ℕ) → place < length a → at_place (a ++ more) place ≡ at_place a place
at_front [] more place lt = absurd (omega (arith, lt))
at_front (x ∷ a) more zero lt = refl
at_front (x ∷ a) more (suc place) lt = at_front a more place (omega (arith, lt))

taken : (a : List Act) (place : ℕ) → place < length a → take (suc place) a ≡ take place a ++ at_place a place
taken [] place lt = absurd (omega (arith, lt))
taken (x ∷ a) zero lt = refl
taken (x ∷ a) (suc place) lt = ap (λ xs. x ∷ xs) (taken a place (omega (arith, lt)))

pub again_next : (a b now : List Act) (from to place : ℕ) → from ≤ place → place < to → (from ≤ to → to ≤ length a → b ≡ a ++ drop from (take place a)) → now ≡ b ++ at_place b place → from ≤ to → to ≤ length a → now ≡ a ++ drop from (take (place + 1) a)
again_next a b now from to place low high before added ordered within =
    let is : b ≡ a ++ drop from (take place a) = before ordered within in
    let lt : place < length a = omega arith in
    let short : from ≤ length (take place a) = omega (arith, length-take-le place a (omega arith)) in
    added
    ∙ ap (λ xs. xs ++ at_place xs place) is
    ∙ ap (λ xs. (a ++ drop from (take place a)) ++ xs) (at_front a (drop from (take place a)) place lt)
    ∙ append_assoc a (drop from (take place a)) (at_place a place)
    ∙ ap (λ xs. a ++ xs) (sym (drop-append-le from (take place a) (at_place a place) short) ∙ ap (drop from) (sym (taken a place lt)) ∙ ap (λ n. drop from (take n a)) (sym (add-one place)))
