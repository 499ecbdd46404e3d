-- The documents of paths and of whole files.
use Rattle.std.proofs.Common.{◌≡◌, ℕ, Bool, true, false, not, ◌||◌, ◌&&◌, ◌==◌, List, [], ◌∷◌, ◌++◌, Some, None, Option, refl, ap, sym, ◌∙◌, subst, inl, inr, append_assoc, append-nil, arith}
use Rattle.std.specs.Prelude.{codes, map}
use Rattle.std.specs.Option.{option_map}
use Rattle.std.proofs.lemmas.Bool.Decides.{nat_tests}
use Rattle.asm_lex.specs.Cut.{is_word, is_letter, in_word}
use Rattle.asm_grammar.specs.Grammar.{Grammar, both, either, many, shown, tokens, next_of}
use Rattle.asm_grammar.proofs.Theory.{tokens-append}
use Rattle.asm_tree.specs.Words.{class_of, number}
use Rattle.asm_tree.specs.declared.class.Class.TheVariants as class
use Rattle.asm_tree.specs.declared.term.RawName.{RawName}
use Rattle.asm_tree.specs.declared.rule.RawRule.{RawRule}
use Rattle.asm_tree.specs.declared.unit.RawPart.{RawPart}
use Rattle.asm_tree.specs.declared.unit.RawPart.TheVariants as part_of
use Rattle.asm_tree.specs.declared.unit.RawPath.{RawPath}
use Rattle.asm_tree.specs.declared.unit.RawDeclaration.{RawDeclaration}
use Rattle.asm_tree.specs.declared.unit.RawDefinition.{RawDefinition}
use Rattle.asm_tree.specs.declared.unit.RawFunction.{RawFunction}
use Rattle.asm_tree.specs.declared.unit.RawMain.{RawMain}
use Rattle.asm_tree.specs.declared.unit.RawInit.{RawInit}
use Rattle.asm_tree.specs.declared.unit.RawUnit.{RawUnit}
use Rattle.asm_tree.specs.declared.unit.RawUnitKind.TheVariants as unit_kind
use Rattle.asm_tree.specs.Language.{TokenText, models, after, name, rules, words}
use Rattle.asm_tree.specs.Rules.{rule}
use Rattle.asm_tree.specs.Units.{word_part, ending, part, more_parts, path, imports, export, declaration, declarations, function_body, definition, definitions, main_of, main_rule, main, function_bodies, init_of, init, closing, content, asm_of, module_of, unit}
use Rattle.asm_canonical.specs.Document.{Item, Gap, Line, One, lines, text_in}
use Rattle.asm_canonical.specs.Units as units
use Rattle.asm_canonical.specs.Placeless as plain
use Rattle.asm_canonical.specs.Placeless.{plain_name, plain_rule, placeless}
use Rattle.asm_canonical.proofs.Texts.{text_in-append}
use Rattle.asm_canonical.proofs.Ends.{Stops, breaks, begins_not, word_stops, word_ends, dot_ends, slash_ends, no_dot, no_word, stops, stops_colon, free_to, free_equal}
use Rattle.asm_canonical.proofs.Classes.{kind_word}
use Rattle.asm_canonical.proofs.Cutting.{Cuts, Leads, Joins, cuts_one, cuts_nil, seen, end_of, seen-append, joins_leads, joins_free, leads_nil, leads_gap, leads_line, leads_byte}
use Rattle.asm_canonical.proofs.Made.{Every}
use Rattle.asm_canonical.proofs.Good.{Good, IsKind, good_word, good_nothing, good_left, good_right, good_shown, good_both, good_first, good_after, good_gap, good_line, good_none, good_more, good_alone, good_name}
use Rattle.asm_canonical.proofs.Phrases.{is_kind, Given, any_stops, rule_stops, word_then, free_then, symbol_alone}
use Rattle.asm_canonical.proofs.GoodRules.{GoodRule, child_rule, leads_lines}
use Rattle.asm_canonical.proofs.Known.{M, Perhaps, Named, every, behind, named_of, known_rule}
use Rattle.asm_canonical.proofs.GoodUnits.{good_pair, any_name, declarations_good, definitions_good, functions_good}

-- ---- paths

abbrev PartOk : RawPart → Type 0
PartOk part_of.Here = Unit {0}
PartOk part_of.Above = Unit {0}
PartOk (part_of.Word w) = IsKind w words
PartOk (part_of.Dotted w v) = IsKind w words × IsKind v words

is_any : {w : List ℕ} → IsKind w words → is_word w ≡ true
unfolding number
is_any {w} k = kind_word w words refl k.kind

word_part_ok : (t : TokenText) (o : Option (List ℕ)) → IsKind t.text words → Perhaps (λ v. IsKind v words) o → PartOk (word_part (t, o)).1
word_part_ok t None k g = k
word_part_ok t (Some v) k g = (k, g)

ending_known : (o : Option (List ℕ)) → M ending o → Perhaps (λ v. IsKind v words) o
unfolding ending
ending_known o (inl m) = subst (Perhaps (λ (v : List ℕ). IsKind v words)) (sym m.1) (subst (λ (v : List ℕ). IsKind v words) (sym (m.2.1 ∙ m.2.2.1.1)) (is_kind m.2.2.1.2.1))
ending_known o (inr m) = subst (Perhaps (λ (v : List ℕ). IsKind v words)) (sym m) tt

part_known : (q : TokenText × RawPart) → M part q → PartOk q.1
unfolding part
part_known q (inl m) = subst (λ (q : TokenText × RawPart). PartOk q.1) (sym m.1) tt
part_known q (inr (inl m)) = subst (λ (q : TokenText × RawPart). PartOk q.1) (sym m.1) tt
part_known q (inr (inr m)) = subst (λ (q : TokenText × RawPart). PartOk q.1) (sym m.1) (word_part_ok m.0.0 m.0.1 (is_kind m.2.0.1) (ending_known m.0.1 m.2.1))

front_of : (x y : Bool) → (x && y) ≡ true → x ≡ true
front_of true y h = refl
front_of false y h = absurd (cc)

-- a word begins with a letter
word_front : (f : ℕ → Bool) → ((b : ℕ) → is_letter b ≡ true → f b ≡ false) → (w r : List ℕ) → is_word w ≡ true → begins_not f (w ++ r) ≡ true
word_front f k [] r h = absurd (cc)
word_front f k (b ∷ w) r h = ap not (k b (front_of (is_letter b) _ h))

letter_no_dot : (b : ℕ) → is_letter b ≡ true → (b == 46) ≡ false
letter_no_dot b h = grind (arith, nat_tests)

letter_no_comment : (b : ℕ) → is_letter b ≡ true → ((b == 47) || (b == 42)) ≡ false
letter_no_comment b h =
    let e : (b == 47) ≡ false = grind (arith, nat_tests) in
    let f : (b == 42) ≡ false = grind (arith, nat_tests) in
    rw (e, f) refl

-- no part of a path goes on with this text
abbrev after_part : ℕ → Bool
after_part c = in_word c || (c == 46)

or_left : (x y : Bool) → not (x || y) ≡ true → not x ≡ true
or_left true y h = h
or_left false y h = refl

or_right : (x y : Bool) → not (x || y) ≡ true → not y ≡ true
or_right true y h = absurd (cc)
or_right false y h = h

no_word_then : (r : List ℕ) → begins_not after_part r ≡ true → begins_not in_word r ≡ true
no_word_then [] h = refl
no_word_then (c ∷ r) h = or_left (in_word c) (c == 46) h

no_dot_then : (r : List ℕ) → begins_not after_part r ≡ true → begins_not (λ c. c == 46) r ≡ true
no_dot_then [] h = refl
no_dot_then (c ∷ r) h = or_right (in_word c) (c == 46) h

none_of : (x y : Bool) → x ≡ false → y ≡ false → not (x || y) ≡ true
none_of x y e f = rw (e, f) refl

breaks_part : (r : List ℕ) → breaks r ≡ true → begins_not after_part r ≡ true
breaks_part [] h = refl
breaks_part (c ∷ r) h = none_of (in_word c) (c == 46) (no_word c r h) (no_dot c r h)

record Behind (d : List Item) : Type 0 where
  ends : (r : List ℕ) → breaks r ≡ true → begins_not after_part (text_in d ++ r) ≡ true

dot_stops : Stops (codes ".")
dot_stops = record { ends = λ r h. dot_ends r (no_dot_then r (breaks_part r h)) }

joins_dot : {w : List ℕ} {d : List Item} → IsKind w words → Joins w (One (codes ".") ∷ d)
joins_dot {w} {d} k = record { ends = λ r h. word_ends w (text_in (One (codes ".") ∷ d) ++ r) (is_any k) refl }

joins_ending : {v : List ℕ} {d : List Item} → IsKind v words → Joins (codes ".") (One v ∷ d)
joins_ending {v} {d} k = record { ends = λ r h. dot_ends (text_in (One v ∷ d) ++ r) (ap (begins_not (λ c. c == 46)) (append_assoc v (text_in d) r) ∙ word_front (λ c. c == 46) letter_no_dot v (text_in d ++ r) (is_any k)) }

part_good : (p : RawPart) → PartOk p → Good part (units.part_doc p) (λ q. q.1 ≡ p)
unfolding number class_of part ending
part_good part_of.Here k = good_left (good_shown (symbol_alone dot_stops refl) (λ t e. refl))
part_good part_of.Above k = good_right (good_left (good_shown (symbol_alone (stops free_to) refl) (λ t e. refl)))
part_good (part_of.Word w) k = good_right (good_right (good_alone (good_word {P = λ t. t.text ≡ w} (any_stops k) k (λ t e. e)) (good_right (good_nothing {P = λ o. o ≡ None} refl)) same))
  where
    same : (x : TokenText × Option (List ℕ)) → (x.0.text ≡ w) × (x.1 ≡ None) → (word_part x).1 ≡ part_of.Word w
    same (t, None) h = ap part_of.Word h.0
    same (t, Some v) h = absurd (cc (h.1))
part_good (part_of.Dotted w v) k =
    good_right (good_right (good_shown (good_first k.0 (joins_dot k.0) (good_left (good_shown {Q = Given (λ z. z ≡ v)} (good_after (is_kind refl) (joins_ending k.1) (good_shown (good_word {P = λ t. t.text ≡ v} (any_stops k.1) k.1 (λ t e. e)) (λ t e. e))) (λ z h. h)))) same))
  where
    same : (x : TokenText × Option (List ℕ)) → (x.0.text ≡ w) × Given (λ z. z ≡ v) x.1 → (word_part x).1 ≡ part_of.Dotted w v
    same (t, None) h = absurd h.1
    same (t, Some z) h = ap (λ y. part_of.Dotted y z) h.0 ∙ ap (part_of.Dotted w) h.1

cuts_part : (p : RawPart) {d : List Item} → PartOk p → Behind d → Cuts d → Cuts (units.part_doc p ++ d)
cuts_part part_of.Here {d} k b c = cuts_one (codes ".") d (record { ends = λ r h. dot_ends (text_in d ++ r) (no_dot_then (text_in d ++ r) (b.ends r h)) }) c
cuts_part part_of.Above {d} k b c = cuts_one (codes "..") d (joins_free free_to) c
cuts_part (part_of.Word w) {d} k b c = cuts_one w d (record { ends = λ r h. word_ends w (text_in d ++ r) (is_any k) (no_word_then (text_in d ++ r) (b.ends r h)) }) c
cuts_part (part_of.Dotted w v) {d} k b c =
    cuts_one w (One (codes ".") ∷ One v ∷ d) (joins_dot k.0) (cuts_one (codes ".") (One v ∷ d) (joins_ending k.1) (cuts_one v d (record { ends = λ r h. word_ends v (text_in d ++ r) (is_any k.1) (no_word_then (text_in d ++ r) (b.ends r h)) }) c))

abbrev no_comment : ℕ → Bool
no_comment c = (c == 47) || (c == 42)

part_front : (p : RawPart) → PartOk p → (r : List ℕ) → begins_not no_comment (text_in (units.part_doc p) ++ r) ≡ true
part_front part_of.Here k r = refl
part_front part_of.Above k r = refl
part_front (part_of.Word w) k r = ap (begins_not no_comment) (append_assoc w [] r) ∙ word_front no_comment letter_no_comment w r (is_any k)
part_front (part_of.Dotted w v) k r = ap (begins_not no_comment) (append_assoc w _ r) ∙ word_front no_comment letter_no_comment w _ (is_any k.0)

joins_part : (p : RawPart) → PartOk p → Joins (codes "/") (units.part_doc p)
joins_part p k = record { ends = λ r h. slash_ends (text_in (units.part_doc p) ++ r) (part_front p k r) }

joins_parts : (p : RawPart) (d : List Item) → PartOk p → Joins (codes "/") (units.part_doc p ++ d)
joins_parts p d k = record {
  ends = λ r h. slash_ends (text_in (units.part_doc p ++ d) ++ r) (ap (begins_not no_comment) (ap (λ z. z ++ r) (text_in-append (units.part_doc p) d) ∙ append_assoc (text_in (units.part_doc p)) (text_in d) r) ∙ part_front p k (text_in d ++ r));
}

behind_parts : (ps : List RawPart) → Behind (units.more_parts ps)
behind_parts [] = record { ends = λ r h. breaks_part r h }
behind_parts (p ∷ ps) = record { ends = λ r h. refl }

cuts_parts : (ps : List RawPart) → Every PartOk ps → Cuts (units.more_parts ps)
cuts_parts [] g = cuts_nil
cuts_parts (p ∷ ps) g = cuts_one (codes "/") (units.part_doc p ++ units.more_parts ps) (joins_parts p (units.more_parts ps) g.0) (cuts_part p g.0 (behind_parts ps) (cuts_parts ps g.1))

-- one more in front of a list, whose cut is known
good_cons : {A : Type 0} {g : Grammar models A} {a b : List Item} {x : A} {xs : List A} → Good g a (λ y. y ≡ x) → Good (many g) b (λ ys. ys ≡ xs) → Cuts (a ++ b) → Good (many g) (a ++ b) (λ ys. ys ≡ x ∷ xs)
good_cons {A} {g} {a} {b} {x} {xs} p q c = record {
  prints = λ at depth next.
      (let y = q.prints (end_of at a) depth next in
      let z = p.prints at depth (next_of models y.text next) in record {
        text = z.text ++ y.text;
        value = z.value ∷ y.value;
        same = tokens-append models z.text y.text ∙ ap (λ v. v ++ tokens models y.text) z.same ∙ ap (λ v. seen at a ++ v) y.same ∙ sym (seen-append at a b);
        spelling = (z.text, y.text, refl, z.spelling, y.spelling);
        holds = ap (λ v. v ∷ y.value) z.holds ∙ ap (λ v. x ∷ v) y.holds;
      });
  cuts = c;
}

more_parts_good : (ps : List RawPart) → Every PartOk ps → Good more_parts (units.more_parts ps) (λ qs. qs ≡ ps)
unfolding number class_of more_parts
more_parts_good [] g = record { prints = λ at depth next. record { text = []; value = []; same = refl; spelling = refl; holds = refl }; cuts = cuts_nil }
more_parts_good (p ∷ ps) g = good_cons {a = One (codes "/") ∷ units.part_doc p} (good_after (is_kind refl) (joins_part p g.0) (good_shown (part_good p g.0) (λ q e. e))) (more_parts_good ps g.1) (cuts_parts (p ∷ ps) g)

path_good : (p : RawPath) → M path p → Good path (units.parts_doc p.parts) (λ q. plain.plain_path q ≡ plain.plain_path p)
unfolding path more_parts
path_good p m =
    let first = part_known m.0.0 m.2.0 in
    let rest = every (M (after class.Slash (shown (λ (q : TokenText × RawPart). q.1) part))) PartOk (behind class.Slash (shown (λ (q : TokenText × RawPart). q.1) part) PartOk (λ r n. subst PartOk (sym n.1) (part_known n.0 n.2))) m.0.1 m.2.1 in
    subst (λ (p : RawPath). Good path (units.parts_doc p.parts) (λ q. plain.plain_path q ≡ plain.plain_path p)) (sym m.1)
    (good_shown (good_pair (part_good m.0.0.1 first) (more_parts_good m.0.1 rest) (cuts_part m.0.0.1 first (behind_parts m.0.1) (cuts_parts m.0.1 rest)))
    (λ q h. ap (λ z. record { at = 0; parts = z ∷ q.1 }) h.0 ∙ ap (λ z. record { at = 0; parts = m.0.0.1 ∷ z }) h.1))

imports_good : (ps : List RawPath) → Every (M path) ps → Good imports (lines 0 (map units.import_doc ps)) (λ qs. map plain.plain_path qs ≡ map plain.plain_path ps)
unfolding number class_of imports units.import_doc
imports_good [] g = good_none {f = plain.plain_path}
imports_good (p ∷ ps) g = good_more {f = plain.plain_path} {a = Line 0 ∷ units.import_doc p} {x = p} ps (good_line (word_then (codes "import") refl refl (path_good p g.0))) (leads_lines 0 (map units.import_doc ps)) (imports_good ps g.1)

-- ---- the main rule and the initial values

main_rule_good : (n : RawName) (r : RawRule) → Named rules n → GoodRule r → Good main (units.main_doc (Some (record { name = n; rule = r }))) (λ m. plain.plain_main m ≡ plain.plain_main (record { name = n; rule = r }))
unfolding number class_of main main_rule units.main_doc
main_rule_good n r k g =
    good_line (word_then (codes "main") refl refl (good_right (word_then (codes "rule") refl refl (good_shown (good_both {a = One n.text ∷ []} (good_name n (rule_stops k) k) leads_gap (good_gap (free_then free_equal refl (good_line (child_rule r g 1)))))
    (λ p h. ap (λ z. record { name = z; rule = plain_rule p.1 }) h.0 ∙ ap (λ z. record { name = plain_name n; rule = z }) h.1)))))

abbrev GoodMain : RawMain → Type 0
GoodMain m = Good main (units.main_doc (Some m)) (λ n. plain.plain_main n ≡ plain.plain_main m)

main_good : (m : RawMain) → M main m → GoodMain m
unfolding main main_rule
main_good m k =
    behind class.Main (either (after class.Macro main_rule) main_rule) GoodMain
    (λ n j. elim j [ inl a ↦ behind class.Macro main_rule GoodMain built n a | inr a ↦ built n a ]) m k
  where
    built : (n : RawMain) → M main_rule n → GoodMain n
    built n a = behind class.Rule (shown main_of (both (name rules) (after class.Equal (rule false)))) GoodMain
        (λ o b. subst GoodMain (sym b.1) (main_rule_good b.0.0 b.0.1 (named_of rules b.0.0 b.2.0) (behind class.Equal (rule false) GoodRule known_rule b.0.1 b.2.1))) n a

abbrev LikeInit : Option RawInit → Option RawInit → Type 0
LikeInit i j = option_map plain.plain_init j ≡ option_map plain.plain_init i

init_built : (n : RawName) (fs : List RawFunction) → Named words n → Every (M function_body) fs → Good init (units.init_doc (Some (record { name = n; functions = fs }))) (LikeInit (Some (record { name = n; functions = fs })))
unfolding number class_of init function_bodies units.init_doc
init_built n fs k g =
    good_left (good_shown (good_line (word_then (codes "default") refl refl (word_then (codes "init") refl refl (good_shown {Q = λ i. plain.plain_init i ≡ record { name = plain_name n; functions = map plain.plain_function fs }} (good_both {a = One n.text ∷ []} (any_name n k) (leads_byte refl) (good_after (is_kind refl) (joins_leads stops_colon (leads_lines 1 (map units.function_doc fs))) (functions_good fs g)))
    (λ p h. ap (λ z. record { name = z; functions = map plain.plain_function p.1 }) h.0 ∙ ap (λ z. record { name = plain_name n; functions = z }) h.1))))) (λ i e. ap Some e))

init_good : (o : Option RawInit) → M init o → Good init (units.init_doc o) (LikeInit o)
unfolding init function_bodies units.init_doc
init_good o (inr m) = subst (λ (o : Option RawInit). Good init (units.init_doc o) (LikeInit o)) (sym m) (good_right (good_nothing refl))
init_good o (inl m) =
    subst (λ (o : Option RawInit). Good init (units.init_doc o) (LikeInit o)) (sym m.1)
    (behind class.Default (after class.Init (shown init_of (both (name words) (after class.Colon function_bodies)))) GoodInit
    (behind class.Init (shown init_of (both (name words) (after class.Colon function_bodies))) GoodInit
    (λ i n. subst GoodInit (sym n.1) (init_built n.0.0 n.0.1 (named_of words n.0.0 n.2.0) (behind class.Colon function_bodies (Every (M function_body)) (λ fs k. k) n.0.1 n.2.1)))) m.0 m.2)
  where
    GoodInit : RawInit → Type 0
    GoodInit i = Good init (units.init_doc (Some i)) (LikeInit (Some i))

leads_init : (o : Option RawInit) → Leads (units.init_doc o)
unfolding units.init_doc
leads_init None = leads_nil
leads_init (Some i) = leads_line

abbrev LikeClosing : Option RawMain → Option RawInit → Option RawMain × Option RawInit → Type 0
LikeClosing m i p = (option_map plain.plain_main p.0 ≡ option_map plain.plain_main m) × (option_map plain.plain_init p.1 ≡ option_map plain.plain_init i)

closing_good : (p : Option RawMain × Option RawInit) → M closing p → Good closing (units.main_doc p.0 ++ units.init_doc p.1) (LikeClosing p.0 p.1)
unfolding closing units.main_doc
closing_good p (inl m) =
    subst (λ (p : Option RawMain × Option RawInit). Good closing (units.main_doc p.0 ++ units.init_doc p.1) (LikeClosing p.0 p.1)) (sym m.1)
    (good_left (good_shown (good_both {a = units.main_doc (Some m.0.0)} (main_good m.0.0 m.2.0) (leads_init m.0.1) (init_good m.0.1 m.2.1)) (λ q h. (ap Some h.0, h.1))))
closing_good p (inr m) =
    subst (λ (p : Option RawMain × Option RawInit). Good closing (units.main_doc p.0 ++ units.init_doc p.1) (LikeClosing p.0 p.1)) (sym m.1)
    (good_right (good_shown (init_good m.0 m.2) (λ q h. (refl, h))))

-- ---- whole files

leads_lines_then : (n k : ℕ) (ds : List (List Item)) (d : List Item) → Leads (lines n ds ++ (Line k ∷ d))
leads_lines_then n k [] d = leads_line
leads_lines_then n k (e ∷ ds) d = leads_line

abbrev Content : Type 0
Content = List RawPath × (List RawDeclaration × List RawDefinition)

abbrev content_items : Content → List Item
content_items c = lines 0 (map units.import_doc c.0)
    ++ (Line 0 ∷ One (codes "signature") ∷ One (codes ":") ∷ (lines 1 (map units.declaration_doc c.1.0)
    ++ (Line 0 ∷ One (codes "definitions") ∷ One (codes ":") ∷ lines 1 (map units.definition_doc c.1.1))))

abbrev LikeContent : Content → Content → Type 0
LikeContent c e = (map plain.plain_path e.0 ≡ map plain.plain_path c.0) × ((map plain.plain_declaration e.1.0 ≡ map plain.plain_declaration c.1.0) × (map plain.plain_definition e.1.1 ≡ map plain.plain_definition c.1.1))

abbrev KnownContent : List RawDeclaration × List RawDefinition → Type 0
KnownContent p = Every (M declaration) p.0 × Every (M definition) p.1

-- the declarations and definitions behind an export
content_known : (c : List RawDeclaration × List RawDefinition) → M (shown (λ (p : List RawName × (List RawDeclaration × List RawDefinition)). p.1) (both export (after class.Signature (after class.Colon (both declarations (after class.Definitions (after class.Colon definitions))))))) c → KnownContent c
unfolding declarations definitions
content_known c m =
    subst KnownContent (sym m.1) (behind class.Signature (after class.Colon (both declarations (after class.Definitions (after class.Colon definitions)))) KnownContent
    (behind class.Colon (both declarations (after class.Definitions (after class.Colon definitions))) KnownContent
    (λ p n. (n.0, behind class.Definitions (after class.Colon definitions) (Every (M definition)) (behind class.Colon definitions (Every (M definition)) (λ ds k. k)) p.1 n.1))) m.0.1 m.2.1)

content_built : (c : Content) → Every (M path) c.0 → KnownContent c.1 → Good content (content_items c) (LikeContent c)
unfolding number class_of content export declarations definitions
content_built c paths k =
    good_both {a = lines 0 (map units.import_doc c.0)} (imports_good c.0 paths) leads_line
    (good_shown {Q = λ e. (map plain.plain_declaration e.0 ≡ map plain.plain_declaration c.1.0) × (map plain.plain_definition e.1 ≡ map plain.plain_definition c.1.1)} (good_both {a = []} (good_right (good_nothing {P = λ z. Unit {0}} tt)) leads_line (good_line
    (good_after (is_kind refl) (joins_leads (word_stops (codes "signature") refl) (leads_byte refl)) (good_after (is_kind refl) (joins_leads stops_colon (leads_lines_then 1 0 (map units.declaration_doc c.1.0) _))
    (good_both {a = lines 1 (map units.declaration_doc c.1.0)} (declarations_good c.1.0 k.0) leads_line (good_line
    (good_after (is_kind refl) (joins_leads (word_stops (codes "definitions") refl) (leads_byte refl)) (good_after (is_kind refl) (joins_leads stops_colon (leads_lines 1 (map units.definition_doc c.1.1))) (definitions_good c.1.1 k.1))))))))) (λ p h. h.1))

content_good : (c : Content) → M content c → Good content (content_items c) (LikeContent c)
unfolding content imports
content_good c m = content_built c (every (M (after class.Import path)) (M path) (behind class.Import path (M path) (λ p n. n)) c.0 m.0) (content_known c.1 m.1)

leads_content : (c : Content) (d : List Item) → Leads (content_items c ++ d)
leads_content ([], c) d = leads_line
leads_content (p ∷ ps, c) d = leads_line

leads_closing : (m : Option RawMain) (i : Option RawInit) → Leads (units.main_doc m ++ units.init_doc i)
unfolding units.main_doc
leads_closing None i = leads_init i
leads_closing (Some m) i = leads_line

asm_good : (n : RawName) (c : Content) (p : Option RawMain × Option RawInit) → Named words n → M content c → M closing p → Good unit (units.unit_doc (asm_of (n, (c, p)))) (λ u. placeless u ≡ placeless (asm_of (n, (c, p))))
unfolding number class_of unit units.content_doc
asm_good n c p k m j =
    good_left (word_then (codes "asm") refl refl (good_shown (good_both {a = One n.text ∷ []} (any_name n k) (leads_content c (units.main_doc p.0 ++ units.init_doc p.1)) (good_both {a = content_items c} (content_good c m) (leads_closing p.0 p.1) (closing_good p j)))
    (λ q h. ap (λ z. made z (map plain.plain_path q.1.0.0) (map plain.plain_declaration q.1.0.1.0) (map plain.plain_definition q.1.0.1.1) (option_map plain.plain_main q.1.1.0) (option_map plain.plain_init q.1.1.1)) h.0
    ∙ ap (λ z. made (plain_name n) z (map plain.plain_declaration q.1.0.1.0) (map plain.plain_definition q.1.0.1.1) (option_map plain.plain_main q.1.1.0) (option_map plain.plain_init q.1.1.1)) h.1.0.0
    ∙ ap (λ z. made (plain_name n) (map plain.plain_path c.0) z (map plain.plain_definition q.1.0.1.1) (option_map plain.plain_main q.1.1.0) (option_map plain.plain_init q.1.1.1)) h.1.0.1.0
    ∙ ap (λ z. made (plain_name n) (map plain.plain_path c.0) (map plain.plain_declaration c.1.0) z (option_map plain.plain_main q.1.1.0) (option_map plain.plain_init q.1.1.1)) h.1.0.1.1
    ∙ ap (λ z. made (plain_name n) (map plain.plain_path c.0) (map plain.plain_declaration c.1.0) (map plain.plain_definition c.1.1) z (option_map plain.plain_init q.1.1.1)) h.1.1.0
    ∙ ap (λ z. made (plain_name n) (map plain.plain_path c.0) (map plain.plain_declaration c.1.0) (map plain.plain_definition c.1.1) (option_map plain.plain_main p.0) z) h.1.1.1)))
  where
    made : RawName → List RawPath → List RawDeclaration → List RawDefinition → Option RawMain → Option RawInit → RawUnit
    made n is ds fs m i = record { kind = unit_kind.Asm; name = n; imports = is; declarations = ds; definitions = fs; main = m; init = i }

module_good : (n : RawName) (c : Content) → Named words n → M content c → Good unit (units.unit_doc (module_of (n, c))) (λ u. placeless u ≡ placeless (module_of (n, c)))
unfolding number class_of unit units.content_doc units.main_doc units.init_doc
module_good n c k m =
    subst (λ (d : List Item). Good unit (One (codes "module") ∷ Gap ∷ One n.text ∷ d) (λ u. placeless u ≡ placeless (module_of (n, c)))) (sym (append-nil (content_items c)))
    (good_right (word_then (codes "module") refl refl (good_shown (good_both {a = One n.text ∷ []} (any_name n k) (leads_alone c) (content_good c m))
    (λ q h. ap (λ z. made z (map plain.plain_path q.1.0) (map plain.plain_declaration q.1.1.0) (map plain.plain_definition q.1.1.1)) h.0
    ∙ ap (λ z. made (plain_name n) z (map plain.plain_declaration q.1.1.0) (map plain.plain_definition q.1.1.1)) h.1.0
    ∙ ap (λ z. made (plain_name n) (map plain.plain_path c.0) z (map plain.plain_definition q.1.1.1)) h.1.1.0
    ∙ ap (λ z. made (plain_name n) (map plain.plain_path c.0) (map plain.plain_declaration c.1.0) z) h.1.1.1))))
  where
    made : RawName → List RawPath → List RawDeclaration → List RawDefinition → RawUnit
    made n is ds fs = record { kind = unit_kind.Module; name = n; imports = is; declarations = ds; definitions = fs; main = None; init = None }

    leads_alone : (c : Content) → Leads (content_items c)
    leads_alone ([], c) = leads_line
    leads_alone (p ∷ ps, c) = leads_line

pub unit_good : (u : RawUnit) → M unit u → Good unit (units.unit_doc u) (λ v. placeless v ≡ placeless u)
unfolding unit
unit_good u (inl m) =
    behind class.Asm (shown asm_of (both (name words) (both content closing))) GoodUnit
    (λ v n. subst GoodUnit (sym n.1) (asm_good n.0.0 n.0.1.0 n.0.1.1 (named_of words n.0.0 n.2.0) n.2.1.0 n.2.1.1)) u m
  where
    GoodUnit : RawUnit → Type 0
    GoodUnit u = Good unit (units.unit_doc u) (λ v. placeless v ≡ placeless u)
unit_good u (inr m) =
    behind class.Module (shown module_of (both (name words) content)) GoodUnit
    (λ v n. subst GoodUnit (sym n.1) (module_good n.0.0 n.0.1 (named_of words n.0.0 n.2.0) n.2.1)) u m
  where
    GoodUnit : RawUnit → Type 0
    GoodUnit u = Good unit (units.unit_doc u) (λ v. placeless v ≡ placeless u)
