-- Under two numberings a rule gives the same, where related variables stand for terms of one value; the machines may have two others.
use Rattle.std.proofs.Common.{◌≡◌, ℕ, zero, suc, ◌++◌, List, [], ◌∷◌, Option, Some, None, slice_get, refl, sym, ap, ◌∙◌}
use Rattle.std.proofs.lemmas.Option.{slice_get-map}
use Rattle.std.specs.Option.{option_map}
use Rattle.std.specs.FinSet as set
use Rattle.asm_domain.specs.declared.value.Value.{Value}
use Rattle.asm_sign.specs.Vocabulary.{Vocabulary}
use Rattle.asm_node.specs.declared.stop.Stop.TheVariants.{UndefGuard}
use Rattle.asm_node.specs.declared.path.Step.TheVariants.{Part, Called, Bound}
use Rattle.asm_node.specs.Tree as tree
use Rattle.asm_node.specs.RuleTree.{Rule}
use Rattle.asm_node.specs.Machine.{Macro, State, Input, tuples_of}
use Rattle.asm_node.specs.Term.{World, branch, Places, nowhere, put, put_tuple, val, vals}
use Rattle.asm_node.specs.UpdateSet.{UpdateSet, fire}
use Rattle.asm_node.specs.Taking.{Faults, Pick, Bodies, Path, stand_for, and_then, evaluated, update, each, guarded, candidates, chosen, after_set, taken, taken_all, body_taken, bodies_within, outcome}
use Rattle.asm_tree.specs.declared.term.RawBinder.{RawBinder}
use Rattle.asm_tree.specs.declared.rule.RawRule.{RawRule}
use Rattle.asm_tree.specs.declared.unit.LoadedUnit.{LoadedUnit}
use Rattle.asm_faults.specs.Files.{DeclaredRule, rules}
use Rattle.asm_faults.specs.Model.{binders_of, rule_of, file_of, macro_of}
use Rattle.asm_renaming.proofs.NamedTerms.{NamedTerm, NamedTerms, term_in, terms_in}
use Rattle.asm_renaming.proofs.NamedRules as named
use Rattle.asm_renaming.proofs.NamedRules.{NamedRule, NamedRules, rule_in, rules_in}
use Rattle.asm_renaming.proofs.Naming.{rule_named}
use Rattle.asm_renaming.proofs.Evaluating.{Numberings, same_tuples, w, w', PlacesAlike, nowhere-alike, put_value-alike, put_tuple-alike, stand_for-alike, val-same, vals-same}

module _ (v : Vocabulary) (units : List LoadedUnit) (m : Numberings) (input : Input) {S : Type 0} (pick : Pick S) where
  abbrev world : State → World
  world = w v units m input

  abbrev world' : State → World
  world' = w' v units m input

  abbrev Alike : Numberings → Places → Places → Type 0
  Alike p e e' = PlacesAlike v units m input p e e'

  -- macros give the same to callers under any two numberings
  abbrev BodiesAlike : Bodies S → Bodies S → Type 0
  BodiesAlike bodies bodies' =
      (p : Numberings) (f : ℕ) (path : Path) (s : State) (ts : NamedTerms) (e e' : Places) → Alike p e e' → (k : S) → bodies f path (world s) e (terms_in p.first v ts) k ≡ bodies' f path (world' s) e' (terms_in p.second v ts) k

  module _ (bodies bodies' : Bodies S) (same_bodies : BodiesAlike bodies bodies') where
    module _ (p : Numberings) where
      value : (s : State) (e e' : Places) → Alike p e e' → (t : NamedTerm) → val (world s) e (term_in p.first v t) ≡ val (world' s) e' (term_in p.second v t)
      value s e e' same t = val-same v units m input p e e' same s t

      values : (s : State) (e e' : Places) → Alike p e e' → (ts : NamedTerms) → vals (world s) e (terms_in p.first v ts) ≡ vals (world' s) e' (terms_in p.second v ts)
      values s e e' same ts = vals-same v units m input p e e' same s ts

      all_tuples : (bs : List RawBinder) → tuples_of v (binders_of p.first v bs) ≡ tuples_of v (binders_of p.second v bs)
      all_tuples bs = same_tuples v p bs

      tuple_places : (bs : List RawBinder) (vs : List Value) (e e' : Places) → Alike p e e' → Alike p (put_tuple (binders_of p.first v bs) vs e) (put_tuple (binders_of p.second v bs) vs e')
      tuple_places = put_tuple-alike v units m input p

      mutual
        taken-same : (r : NamedRule) (path : Path) (s : State) (e e' : Places) → Alike p e e' → (k : S) → taken pick bodies path (world s) e (rule_in p.first v r) k ≡ taken pick bodies' path (world' s) e' (rule_in p.second v r) k
        taken-same (named.Skip place) path s e e' same k = refl
        taken-same (named.Update place f ts t) path s e e' same k = λ i.
            evaluated (values s e e' same ts i) k (λ vs. update (world s) place f (slice_get v.functions f) vs (value s e e' same t i) k)
        taken-same (named.Par place rs) path s e e' same k = taken_all-same rs path 0 s e e' same set.empty k
        taken-same (named.Seq place r r') path s e e' same k = λ i.
            and_then (taken-same r (path ++ Part 0 ∷ []) s e e' same k i) (λ u k. after_set u k (λ k. taken-same r' (path ++ Part 1 ∷ []) (fire s u) e e' same k i))
        taken-same (named.If place g r r') path s e e' same k = λ i.
            evaluated (value s e e' same g i) k (λ a.
            branch a (taken-same r (path ++ Part 0 ∷ []) s e e' same k i) (taken-same r' (path ++ Part 1 ∷ []) s e e' same k i) (Faults (UndefGuard place) k))
        taken-same (named.Let place x t r) path s e e' same k = λ i.
            evaluated (value s e e' same t i) k (λ a.
            taken-same r (path ++ Bound (a ∷ []) ∷ []) s (put (p.first x) (tree.Const a) e) (put (p.second x) (tree.Const a) e') (put_value-alike v units m input p x a e e' same) k i)
        taken-same (named.Forall place bs g r) path s e e' same k = λ i.
            each
            (λ vs k.
            guarded place (value s (put_tuple (binders_of p.first v bs) vs e) (put_tuple (binders_of p.second v bs) vs e') (tuple_places bs vs e e' same) g i)
            (taken-same r (path ++ Bound vs ∷ []) s (put_tuple (binders_of p.first v bs) vs e) (put_tuple (binders_of p.second v bs) vs e') (tuple_places bs vs e e' same) k i) k)
            (all_tuples bs i) set.empty k
        taken-same (named.Choose place bs g r r') path s e e' same k = λ i.
            and_then
            (candidates place
            (λ vs. value s (put_tuple (binders_of p.first v bs) vs e) (put_tuple (binders_of p.second v bs) vs e') (tuple_places bs vs e e' same) g i)
            (all_tuples bs i) [] k)
            (λ found k.
            chosen found
            (and_then (pick path place found k) (λ vs k.
            taken-same r (path ++ Bound vs ∷ []) s (put_tuple (binders_of p.first v bs) vs e) (put_tuple (binders_of p.second v bs) vs e') (tuple_places bs vs e e' same) k i))
            (taken-same r' (path ++ Part 1 ∷ []) s e e' same k i))
        taken-same (named.Call place f ts) path s e e' same k = same_bodies p f (path ++ Called f ∷ []) s ts e e' same k

        taken_all-same : (rs : NamedRules) (path : Path) (n : ℕ) (s : State) (e e' : Places) → Alike p e e' → (u : UpdateSet) (k : S) → taken_all pick bodies path n (world s) e (rules_in p.first v rs) u k ≡ taken_all pick bodies' path n (world' s) e' (rules_in p.second v rs) u k
        taken_all-same named.none path n s e e' same u k = refl
        taken_all-same (named.more r rs) path n s e e' same u k = λ i.
            and_then (taken-same r (path ++ Part n ∷ []) s e e' same k i) (λ added k. taken_all-same rs path (suc n) s e e' same (set.union u added) k i)

      -- the same of raw rules
      raw-same : (file : ℕ) (r : RawRule) (path : Path) (s : State) (e e' : Places) → Alike p e e' → (k : S)
          → taken pick bodies path (world s) e (rule_of p.first v units file r) k ≡ taken pick bodies' path (world' s) e' (rule_of p.second v units file r) k
      raw-same file r path s e e' same k =
          let names = rule_named v units file r in
          sym (ap (λ (q : Rule). taken pick bodies path (world s) e q k) (names.1 p.first))
          ∙ (taken-same names.0 path s e e' same k ∙ ap (λ (q : Rule). taken pick bodies' path (world' s) e' q k) (names.1 p.second))

    macro-same : (o : Option DeclaredRule) (p : Numberings) (path : Path) (s : State) (ts : NamedTerms) (e e' : Places) → Alike p e e' → (k : S)
        → body_taken pick bodies path (world s) e (option_map (macro_of m.first v units) o) (terms_in p.first v ts) k
        ≡ body_taken pick bodies' path (world' s) e' (option_map (macro_of m.second v units) o) (terms_in p.second v ts) k
    macro-same None p path s ts e e' same k = refl
    macro-same (Some r) p path s ts e e' same k =
        raw-same m (file_of m.first v units r.unit) r.body path s
        (stand_for (binders_of m.first v r.parameters) e (terms_in p.first v ts)) (stand_for (binders_of m.second v r.parameters) e' (terms_in p.second v ts))
        (stand_for-alike v units m input m p r.parameters ts e e' same) k

  bodies-same : (n : ℕ) → BodiesAlike (bodies_within pick n) (bodies_within pick n)
  bodies-same zero p f path s ts e e' same k = refl
  bodies-same (suc n) p f path s ts e e' same k =
      ap (λ (o : Option Macro). body_taken pick (bodies_within pick n) path (world s) e o (terms_in p.first v ts) k) (slice_get-map (macro_of m.first v units) (rules units) f)
      ∙ (macro-same (bodies_within pick n) (bodies_within pick n) (bodies-same n) (slice_get (rules units) f) p path s ts e e' same k
      ∙ sym (ap (λ (o : Option Macro). body_taken pick (bodies_within pick n) path (world' s) e' o (terms_in p.second v ts) k) (slice_get-map (macro_of m.second v units) (rules units) f)))

  -- a rule by itself
  pub outcome-same : (p : Numberings) (file : ℕ) (r : RawRule) (s : State) (k : S) → outcome pick (world s) (rule_of p.first v units file r) k ≡ outcome pick (world' s) (rule_of p.second v units file r) k
  outcome-same p file r s k = raw-same (bodies_within pick 32) (bodies_within pick 32) (bodies-same 32) p file r [] s nowhere nowhere (nowhere-alike v units m input p) k
