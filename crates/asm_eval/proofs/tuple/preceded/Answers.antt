use Rattle.std.proofs.Common.{◌≡◌, ℕ, ◌+◌, List, [], ◌∷◌, ◌++◌, Some, map, take, slice_get, sym, ap, ◌∙◌}
use Rattle.std.specs.List.{flat_map}
use Rattle.std.proofs.lemmas.List.{flat_map_more}
use Rattle.std.proofs.lemmas.Option.{slice_get_within, get_or_from_slice_get}
use Rattle.std.proofs.lemmas.List.{take_more}
use Rattle.asm_domain.specs.Universe.{elements}
use Rattle.asm_eval.proofs.tuple.preceded.Goals as goal

next_element : {A B : Type 0} (f : A → List B) (xs : List A) (k : ℕ) (x : A) → slice_get xs k ≡ Some x → flat_map f (take k xs) ++ f x ≡ flat_map f (take (k + 1) xs)
next_element f xs k x is =
    flat_map_more f [] (take k xs) x
    ∙ ap (flat_map f) (ap (λ y. take k xs ++ y ∷ []) (sym (get_or_from_slice_get xs k x x is)) ∙ sym (take_more xs k x (slice_get_within xs k x is)))

pub loop-rank-preserved : goal.loop-rank-preserved
loop-rank-preserved c =
    c.in_ok-add.ensures ∙ ap (λ all. all ++ map (λ t. c.element.result ∷ t) c.args.tuples.now) c.loop-rank.invariant
    ∙ next_element (λ v. map (λ t. v ∷ t) c.args.tuples.now) (elements c.in-Some.declared.now.domain) c.loop-rank.rank c.element.result c.element.ensures
