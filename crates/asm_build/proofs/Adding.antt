-- Parts of a model that are added one after the other.
use Rattle.std.proofs.Common.{◌≡◌, ℕ, zero, suc, List, [], ◌∷◌, ◌++◌, map, All, slice_index_or, sym, ap, ◌∙◌, subst, append_assoc, arith}
use Rattle.std.proofs.lemmas.List.{map-append}
use Rattle.std.proofs.lemmas.List.Elements.{All-append}
use Rattle.std.specs.declared.rc.Rc.{Rc}
use Rattle.std.specs.declared.alloc.Global.{Global}
use Rattle.asm_node.specs.declared.definition.Definition.{Definition}
use Rattle.asm_node.specs.declared.definition.MacroRule.{MacroRule}
use Rattle.asm_node.specs.declared.term.Term.{Term}
use Rattle.asm_node.specs.declared.term.Binder.{Binder}
use Rattle.asm_node.specs.declared.rule.Rule as of_rule
use Rattle.asm_node.specs.Tree.{Tree, plain}
use Rattle.asm_node.specs.RuleTree.{Rule, plain_rule}
use Rattle.asm_node.specs.Machine.{Macro}
use Rattle.asm_node.specs.Machine as machine
use Rattle.asm_node.specs.Parts.{defined_by, macro_by}
use Rattle.asm_sign.specs.Vocabulary.{Vocabulary}
use Rattle.asm_tree.specs.declared.term.RawBinder.{RawBinder}
use Rattle.asm_tree.specs.declared.unit.RawFunction.{RawFunction}
use Rattle.asm_tree.specs.declared.unit.LoadedUnit.{LoadedUnit}
use Rattle.asm_faults.specs.At.{Name}
use Rattle.asm_faults.specs.Files.{DeclaredRule}
use Rattle.asm_faults.specs.Model.{function_number, binders_of, tree_of, rule_of, definition_of, macro_of}
use Rattle.asm_build.specs.declared.maker.Maker.{Maker}
use Rattle.asm_build.specs.Made.{Agrees, HasGrown, Numbered, IsTerm, AreNumbers, AreBinders}
use Rattle.asm_build.specs.MadeRules.{OfFiles, IsRule, rule_names}
use Rattle.asm_build.specs.Added.{Added, HasBody, HasMacro, HasNode, tree_in, AddsDefinitions, AddsMacros, AddsTerms, file_at}
use Rattle.asm_build.proofs.Growing.{append_none, same_maker, grown_on, agrees_back, term_stays}
use Rattle.asm_build.proofs.RuleGrowing.{rule_stays}

-- what is held stays while more is made
abbrev pub Stays : {X : Type 0} → (Maker → X → Type 0) → Type 0
Stays {X} held = (m n : Maker) (x : X) → HasGrown m n → held m x → held n x

pub body_stays : Stays HasBody
body_stays m n d grown has = term_stays d.term.value grown has

pub macro_stays : Stays HasMacro
macro_stays m n r grown has = rule_stays r.body.value grown has

pub node_stays : Stays HasNode
node_stays m n t grown has = term_stays t.value grown has

-- nothing is added, though nodes may be made
pub added_nothing : {X A : Type 0} {held : Maker → X → Type 0} {shown : X → A} {m n : Maker} (wanted : Numbered (List A)) (xs : List X) → HasGrown m n → ((number : Name → ℕ) → wanted number ≡ []) → Added held shown m n wanted xs xs
added_nothing wanted xs grown none = record {
  grown = grown;
  further = [];
  is = append_none xs;
  are_of_pool = λ k d lt. absurd (omega (arith, lt));
  are_wanted = λ number agrees. sym (none number);
}

pub added_none : {X A : Type 0} {held : Maker → X → Type 0} {shown : X → A} (m : Maker) (wanted : Numbered (List A)) (xs : List X) → ((number : Name → ℕ) → wanted number ≡ []) → Added held shown m m wanted xs xs
added_none m wanted xs none = added_nothing wanted xs (same_maker m) none

held_one : {X : Type 0} (held : X → Type 0) (x : X) → held x → All held (x ∷ [])
held_one held x has zero d lt = has
held_one held x has (suc k) d lt = absurd (omega (arith, lt))

pub added_one : {X A : Type 0} {held : Maker → X → Type 0} {shown : X → A} {m n : Maker} {old new : List X} (wanted : Numbered A) (x : X) → HasGrown m n → held n x → ((number : Name → ℕ) → Agrees number n.variables → shown x ≡ wanted number) → new ≡ old ++ x ∷ []
    → Added held shown m n (λ number. wanted number ∷ []) old new
added_one {held = held} {n = n} wanted x grown has is pushed = record {
  grown = grown;
  further = x ∷ [];
  is = pushed;
  are_of_pool = held_one (held n) x has;
  are_wanted = λ number agrees. ap (λ a. a ∷ []) (is number agrees);
}

pub added_on : {X A : Type 0} {held : Maker → X → Type 0} {shown : X → A} {l m n : Maker} {wanted wanted' : Numbered (List A)} {xs ys zs : List X} → Stays held → Added held shown l m wanted xs ys → Added held shown m n wanted' ys zs
    → Added held shown l n (λ number. wanted number ++ wanted' number) xs zs
added_on {X} {A} {held = held} {shown = shown} {l = l} {m = m} {n = n} {wanted = wanted} {wanted' = wanted'} {xs = front} stays one two = record {
  grown = grown_on one.grown two.grown;
  further = one.further ++ two.further;
  is = two.is ∙ ap (λ (us : List X). us ++ two.further) one.is ∙ append_assoc front one.further two.further;
  are_of_pool = All-append (held n) one.further two.further (λ k x lt. stays m n (slice_index_or one.further k x) two.grown (one.are_of_pool k x lt)) two.are_of_pool;
  are_wanted = λ number agrees.
      map-append shown one.further two.further
      ∙ ap (λ (xs : List A). xs ++ map shown two.further) (one.are_wanted number (agrees_back number two.grown agrees)) ∙ ap (λ (xs : List A). wanted number ++ xs) (two.are_wanted number agrees);
}

pub added_same : {X A : Type 0} {held : Maker → X → Type 0} {shown : X → A} {m n : Maker} {old new : List X} (wanted wanted' : Numbered (List A)) → ((number : Name → ℕ) → wanted number ≡ wanted' number) → Added held shown m n wanted old new
    → Added held shown m n wanted' old new
added_same wanted wanted' same one = record {
  grown = one.grown;
  further = one.further;
  is = one.is;
  are_of_pool = one.are_of_pool;
  are_wanted = λ number agrees. one.are_wanted number agrees ∙ same number;
}

-- all of a list that began as the empty one
pub all_held : {X A : Type 0} {held : Maker → X → Type 0} {shown : X → A} {m n o : Maker} {wanted : Numbered (List A)} {old new : List X} → Stays held → Added held shown m n wanted old new → old ≡ [] → HasGrown n o → All (held o) new
all_held {X} {held = held} {n = n} {o = o} stays one none grown =
    subst (All (held o)) (sym (one.is ∙ ap (λ (xs : List X). xs ++ one.further) none)) (λ k x lt. stays n o (slice_index_or one.further k x) grown (one.are_of_pool k x lt))

pub all_wanted : {X A : Type 0} {held : Maker → X → Type 0} {shown : X → A} {m n o : Maker} {wanted : Numbered (List A)} {old new : List X} (number : Name → ℕ) → Added held shown m n wanted old new → old ≡ [] → HasGrown n o → Agrees number o.variables
    → map shown new ≡ wanted number
all_wanted {X} {shown = shown} number one none grown agrees = ap (map shown) (one.is ∙ ap (λ (xs : List X). xs ++ one.further) none) ∙ one.are_wanted number (agrees_back number grown agrees)

-- ---- one part

pub function_added : {k l n : Maker} {old new : List Definition} (v : Vocabulary) (raw : RawFunction) (units : List LoadedUnit) (i f : ℕ) (raws : List RawBinder) (xs : List ℕ) (t : Rc Term Global)
    → ((number : Name → ℕ) → f ≡ function_number number v raw.name.text) → raws ≡ raw.parameters → HasGrown k l → HasGrown l n
    → AreNumbers l (λ number. map (λ (b : RawBinder). number b.variable.text) raws) xs → IsTerm n (λ number. tree_of number v raw.term) t.value → new ≡ old ++ record { function = f; variables = xs; term = t } ∷ []
    → AddsDefinitions k n (λ number. definition_of number v units (i, raw) ∷ []) old new
function_added v raw units i f raws xs t function same one two variables term pushed =
    added_one (λ number. definition_of number v units (i, raw)) (record { function = f; variables = xs; term = t }) (grown_on one two) term.is_of_pool (λ number agrees.
    let make : ℕ → List ℕ → Tree → machine.Definition = λ f xs t. record { function = f; parameters = xs; body = t } in
    ap (λ (g : ℕ). make g xs (plain t.value)) (function number)
    ∙ ap (λ (ys : List ℕ). make (function_number number v raw.name.text) ys (plain t.value)) (variables.are number (agrees_back number two agrees) ∙ ap (map (λ (b : RawBinder). number b.variable.text)) same)
    ∙ ap (make (function_number number v raw.name.text) (map (λ (b : RawBinder). number b.variable.text) raw.parameters)) (term.is_tree number agrees)) pushed

pub macro_added : {k l n : Maker} {names : List Name} {old new : List MacroRule} (v : Vocabulary) (units : List LoadedUnit) (r : DeclaredRule) (file : ℕ) (raws : List RawBinder) (bs : List Binder) (p : Rc of_rule.Rule Global)
    → names ≡ rule_names units → file ≡ file_at units r.unit → raws ≡ r.parameters → HasGrown k l → HasGrown l n
    → AreBinders l (λ number. binders_of number v raws) bs → IsRule n names (λ number units. rule_of number v units file r.body) p.value → new ≡ old ++ record { name = r.name.text; parameters = bs; body = p } ∷ []
    → AddsMacros k n (λ number. macro_of number v units r ∷ []) old new
macro_added v units r file raws bs p known place same one two binders body pushed =
    added_one (λ number. macro_of number v units r) (record { name = r.name.text; parameters = bs; body = p }) (grown_on one two) body.is_of_pool (λ number agrees.
    let make : List Binder → Rule → Macro = λ bs p. record { name = r.name.text; parameters = bs; body = p } in
    ap (λ (cs : List Binder). make cs (plain_rule p.value)) (binders.are number (agrees_back number two agrees) ∙ ap (binders_of number v) same)
    ∙ ap (make (binders_of number v r.parameters)) (body.is_tree number units agrees known ∙ ap (λ (n : ℕ). rule_of number v units n r.body) place)) pushed

pub node_added : {k n : Maker} {old new : List (Rc Term Global)} (tree : Numbered Tree) (t : Rc Term Global) → HasGrown k n → IsTerm n tree t.value → new ≡ old ++ t ∷ [] → AddsTerms k n (λ number. tree number ∷ []) old new
node_added tree t grown term pushed = added_one tree t grown term.is_of_pool term.is_tree pushed

-- ---- one after the other

pub definitions_on : {l m n : Maker} {wanted wanted' : Numbered (List machine.Definition)} {xs ys zs : List Definition} → AddsDefinitions l m wanted xs ys → AddsDefinitions m n wanted' ys zs → AddsDefinitions l n (λ number. wanted number ++ wanted' number) xs zs
definitions_on one two = added_on {held = HasBody} {shown = defined_by} body_stays one two

pub macros_on : {l m n : Maker} {wanted wanted' : Numbered (List Macro)} {xs ys zs : List MacroRule} → AddsMacros l m wanted xs ys → AddsMacros m n wanted' ys zs → AddsMacros l n (λ number. wanted number ++ wanted' number) xs zs
macros_on one two = added_on {held = HasMacro} {shown = macro_by} macro_stays one two

pub terms_on : {l m n : Maker} {wanted wanted' : Numbered (List Tree)} {xs ys zs : List (Rc Term Global)} → AddsTerms l m wanted xs ys → AddsTerms m n wanted' ys zs → AddsTerms l n (λ number. wanted number ++ wanted' number) xs zs
terms_on one two = added_on {held = HasNode} {shown = tree_in} node_stays one two

pub rule_copied : {m : Maker} {names : List Name} {tree : OfFiles Rule} (p q : of_rule.Rule) → q ≡ p → IsRule m names tree p → IsRule m names tree q
rule_copied {m = m} {names = names} {tree = tree} p q e is = subst (λ (r : of_rule.Rule). IsRule m names tree r) (sym e) is
