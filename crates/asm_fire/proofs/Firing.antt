-- How what a rule gives follows from its parts.
use Rattle.std.proofs.Common.{add-one, drop-cons, ◌≡◌, ℕ, zero, suc, ◌+◌, ◌-◌, ◌*◌, ◌≤◌, ◌<◌, Bool as Truth, true, false, true≢false, nat_eq, is_some, List, [], ◌∷◌, ◌++◌, Option, Some, None, length, drop, slice_get, get_or, if◌then◌else◌, refl, sym, ap, ◌∙◌, subst, arith}
use Prim.Native.Nat.{min}
use mathlib.Core.Former.{Count}
use Rattle.std.specs.Prelude.{IsNone, Result, Ok, Err, IfOk}
use Rattle.std.specs.FinSet as set
use Rattle.std.specs.declared.rc.Rc.{Rc}
use Rattle.std.specs.declared.alloc.Global.{Global}
use Rattle.asm_source.specs.declared.sources.Place.{Place}
use Rattle.asm_domain.specs.declared.value.Value.{Value}
use Rattle.asm_domain.specs.declared.value.Value.TheVariants.{Undef, Bool, Int, Elem}
use Rattle.asm_sign.specs.declared.function.Function.{Function}
use Rattle.asm_node.specs.declared.term.Binder.{Binder}
use Rattle.asm_node.specs.declared.term.Term as of_term
use Rattle.asm_node.specs.declared.rule.RuleKind.{RuleKind, Row_of-RuleKind-Par-1-1, end_of-RuleKind-Par-1-1, more_of-RuleKind-Par-1-1, items-the_row-RuleKind-Par-1-1, items_hidden-the_row-RuleKind-Par-1-1-0}
use Rattle.asm_node.specs.declared.rule.RuleKind as node
use Rattle.asm_node.specs.declared.rule.Rule as program
use Rattle.asm_node.specs.declared.stop.Stop.TheVariants.{UndefGuard, Input}
use Rattle.asm_node.specs.declared.path.Step.TheVariants.{Part}
use Rattle.asm_node.specs.Tree.{Trees, plain_all}
use Rattle.asm_node.specs.RuleTree.{Par, more, plain_kind, plain_row, plain_rule, plain_rules}
use Rattle.asm_node.specs.Machine.{Machine, Macro, slot_at}
use Rattle.asm_node.specs.Machine as machine
use Rattle.asm_node.specs.Term.{World, Outcome, Gives, Needs, Places, nowhere, branch}
use Rattle.asm_node.specs.UpdateSet.{UpdateSet, consistent, override}
use Rattle.asm_node.specs.Taking.{Attempt, Yields, Faults, Path, Pick, Bodies, and_then, evaluated, update, updated, each, candidates, chosen, taken, taken_all, after_set, bodies_within, body_taken, stand_for}
use Rattle.asm_eval.specs.declared.error.EvalError.{EvalError}
use Rattle.asm_eval.specs.declared.error.EvalError.TheVariants.{Need, Memory}
use Rattle.asm_eval.specs.Answer.{Ends}
use Rattle.asm_fire.specs.declared.error.FireError.{FireError}
use Rattle.asm_fire.specs.declared.error.FireError.TheVariants as halt
use Rattle.asm_fire.specs.Answer.{Halts}
use Rattle.asm_fire.specs.Chooser.{Ways, Stay}
use Rattle.asm_fire.specs.Fault.{fire_error}
use Rattle.asm_fire.specs.Guard.{truth_of}
use Rattle.asm_fire.specs.Sound.{OfBodies, IsSoundIn, AreSoundIn, sound_within, IsSoundBody}
use Rattle.asm_fire.specs.Work.{parts, parts_all, macro_rooms}

plain_row-items : {n : Count} (row : Row_of-RuleKind-Par-1-1 n) → plain_row row ≡ plain_rules (items-the_row-RuleKind-Par-1-1 n row)
plain_row-items end_of-RuleKind-Par-1-1 = refl
plain_row-items (more_of-RuleKind-Par-1-1 _ _ p row) = ap (more (plain_kind p)) (plain_row-items row)

abbrev row_of : RuleKind → (n : Count) × Row_of-RuleKind-Par-1-1 n
row_of (node.Par' _ _ row) = (_, row)
row_of _ = (_, end_of-RuleKind-Par-1-1)

pub plain_kind-Par : (place : Place) (rs : List (Rc program.Rule Global)) → plain_kind (node.Par place rs) ≡ Par place (plain_rules rs)
plain_kind-Par place rs = ap (Par place) (plain_row-items (row_of (node.Par place rs)).1 ∙ ap plain_rules (items_hidden-the_row-RuleKind-Par-1-1-0 rs))

-- a fact of every answer that is no error
pub ok_any : {A E : Type 0} {P : Type 0} (r : Result A E) → P → IfOk r (λ _. P)
ok_any (Ok x) p = p
ok_any (Err e) p = tt

pub ok_err : {A E : Type 0} (P : A → Type 0) (e : E) (r : Result A E) → r ≡ Err e → IfOk r P
ok_err {A} {E} P e r is = subst (λ (q : Result A E). IfOk q P) (sym is) tt

-- what was stood for before two calls is stood for after them
pub ok_then : {A E : Type 0} (first second third : Ways) (r : Result A E) → Stay first second → IfOk r (λ _. Stay second third) → IfOk r (λ _. Stay first third)
ok_then first second third (Ok x) before after = λ pick path is. after pick path (before pick path is)
ok_then first second third (Err e) before after = tt

-- a fault ends the attempt
pub halts : {A B : Type 0} (e : FireError) (words : List ℕ) (a : Attempt (List ℕ) A) (f : A → List ℕ → Attempt (List ℕ) B) → Halts e words a → Halts e words (and_then a f)
halts (halt.Stop stop) words a f is = ap (λ x. and_then x f) is
halts halt.Memory words a f is = tt

-- a need ends the attempt
pub halts-evaluated : {A B : Type 0} (e : EvalError) (words : List ℕ) (o : Outcome A) (f : A → Attempt (List ℕ) B) → Ends e o → Halts (fire_error e) words (evaluated o words f)
halts-evaluated (Need l) words o f is = ap (λ x. evaluated x words f) is
halts-evaluated Memory words o f is = tt

-- a guard that is no truth value is a fault
pub halts-truth : {A : Type 0} (e : FireError) (place : Place) (v : Value) (words : List ℕ) (a b : Attempt (List ℕ) A) → Halts e words (truth_of place v words) → Halts e words (branch v a b (Faults (UndefGuard place) words))
halts-truth halt.Memory place v words a b is = tt
halts-truth (halt.Stop stop) place (Bool b) words x y is = absurd (cc is)
halts-truth (halt.Stop stop) place Undef words x y is = let e : UndefGuard place ≡ stop = cc is in ap (λ s. Faults s words) e
halts-truth (halt.Stop stop) place (Int z) words x y is = let e : UndefGuard place ≡ stop = cc is in ap (λ s. Faults s words) e
halts-truth (halt.Stop stop) place (Elem d k) words x y is = let e : UndefGuard place ≡ stop = cc is in ap (λ s. Faults s words) e

pub truth-is : (place : Place) (v : Value) (words : List ℕ) (b : Truth) → truth_of place v words ≡ Yields b words → v ≡ Bool b
truth-is place (Bool c) words b is = let e : c ≡ b = cc is in ap Bool e
truth-is place Undef words b is = absurd (cc is)
truth-is place (Int z) words b is = absurd (cc is)
truth-is place (Elem d k) words b is = absurd (cc is)

-- the candidates from a place on
pub candidates-drop : (place : Place) (guard : List Value → Outcome Value) (ts : List (List Value)) (i : ℕ) (t : List Value) (found : List (List Value)) (words : List ℕ) → i < length ts → t ≡ get_or ts i t
    → candidates place guard (drop i ts) found words ≡ evaluated (guard t) words (λ v. branch v (candidates place guard (drop (i + 1) ts) (found ++ t ∷ []) words) (candidates place guard (drop (i + 1) ts) found words) (Faults (UndefGuard place) words))
candidates-drop place guard ts i t found words lt is = rw (drop-cons ts i t, add-one, sym is) refl

append_nil : {A : Type 0} (xs : List A) → xs ++ [] ≡ xs
append_nil [] = refl
append_nil (x ∷ xs) = ap (λ ys. x ∷ ys) (append_nil xs)

chosen_by : (b : Truth) (place : Place) (guard : List Value → Outcome Value) (rest found next : List (List Value)) (t : List Value) (words : List ℕ) → next ≡ found ++ (if b then t ∷ [] else [])
    → branch (Bool b) (candidates place guard rest (found ++ t ∷ []) words) (candidates place guard rest found words) (Faults (UndefGuard place) words) ≡ candidates place guard rest next words
chosen_by true place guard rest found next t words is = ap (λ f. candidates place guard rest f words) (sym is)
chosen_by false place guard rest found next t words is = ap (λ f. candidates place guard rest f words) (sym (is ∙ append_nil found))

pub candidates-step : (place : Place) (guard : List Value → Outcome Value) (ts : List (List Value)) (i : ℕ) (t : List Value) (v : Value) (b : Truth) (found next : List (List Value)) (words : List ℕ) (all : Attempt (List ℕ) (List (List Value)))
    → i < length ts → t ≡ get_or ts i t → guard t ≡ Gives v → v ≡ Bool b → next ≡ found ++ (if b then t ∷ [] else []) → all ≡ candidates place guard (drop i ts) found words → all ≡ candidates place guard (drop (i + 1) ts) next words
candidates-step place guard ts i t v b found next words all lt is gives truth added so_far =
    so_far ∙ candidates-drop place guard ts i t found words lt is
    ∙ ap (λ o. evaluated o words (λ v. branch v (candidates place guard (drop (i + 1) ts) (found ++ t ∷ []) words) (candidates place guard (drop (i + 1) ts) found words) (Faults (UndefGuard place) words))) (gives ∙ ap Gives truth)
    ∙ chosen_by b place guard (drop (i + 1) ts) found next t words added

pub past : {A : Type 0} (vs : List A) (i : ℕ) → length vs ≤ i → drop i vs ≡ []
past [] zero h = refl
past [] (suc i) h = refl
past (v ∷ vs) zero h = absurd (omega arith)
past (v ∷ vs) (suc i) h = past vs i (omega arith)

pub candidates-end : (place : Place) (guard : List Value → Outcome Value) (ts : List (List Value)) (i : ℕ) (found : List (List Value)) (words : List ℕ) → length ts ≤ i → candidates place guard (drop i ts) found words ≡ Yields found words
candidates-end place guard ts i found words h = ap (λ xs. candidates place guard xs found words) (past ts i h)

-- an update of a function at a location
pub update-is : (w : World) (place : Place) (f : ℕ) (function : Function) (vs : List Value) (slot : Option ℕ) (value : Outcome Value) (words : List ℕ) → Some function ≡ slice_get w.machine.signature.functions f → slot_at w.machine.signature f vs ≡ slot
    → update w place f (slice_get w.machine.signature.functions f) vs value words ≡ updated w place function.codomain slot value words
update-is w place f function vs slot value words is at =
    ap (λ o. update w place f o vs value words) (sym is) ∙ ap (λ o. updated w place function.codomain o value words) at

-- a rule of a list has no more parts than the list
pub parts-item : (rs : List (Rc program.Rule Global)) (k : ℕ) (r : Rc program.Rule Global) → k < length rs → r ≡ get_or rs k r → parts (plain_rule r.value) ≤ parts_all (plain_rules rs)
parts-item [] k r h is = absurd (omega arith)
parts-item (x ∷ rs) zero r h is = rw is (omega arith)
parts-item (x ∷ rs) (suc k) r h is = omega (arith, parts-item rs k r (omega arith) is)

pub macro-room : (ms : List Macro) (i : ℕ) (m : Macro) → Some m ≡ slice_get ms i → 4 + 8 * parts m.body ≤ macro_rooms ms
macro-room [] i m is = absurd (cc is)
macro-room (x ∷ ms) zero m is = let e : m ≡ x = cc in rw e (omega arith)
macro-room (x ∷ ms) (suc i) m is = omega (arith, macro-room ms i m is)

-- a macro rule is entered
pub bodies-enter : (pick : Pick (List ℕ)) (n f : ℕ) (path : Path) (m : Macro) (w : World) (e : Places) (ts : Trees) (words : List ℕ) → 0 < n → Some m ≡ slice_get w.machine.rules f
    → bodies_within pick n f path w e ts words ≡ taken pick (bodies_within pick (n - 1)) path w (stand_for m.parameters e ts) m.body words
bodies-enter pick zero f path m w e ts words some is = absurd (omega arith)
bodies-enter pick (suc n) f path m w e ts words some is =
    let down : suc n - 1 ≡ n = omega arith in
    ap (λ o. body_taken pick (bodies_within pick n) path w e o ts words) (sym is)
    ∙ ap (λ k. taken pick (bodies_within pick k) path w (stand_for m.parameters e ts) m.body words) (sym down)

pub bodies-none : (pick : Pick (List ℕ)) (n f : ℕ) (path : Path) (w : World) (e : Places) (ts : Trees) (words : List ℕ) → None ≡ slice_get w.machine.rules f → bodies_within pick n f path w e ts words ≡ Yields set.empty words
bodies-none pick zero f path w e ts words is = refl
bodies-none pick (suc n) f path w e ts words is = ap (λ o. body_taken pick (bodies_within pick n) path w e o ts words) (sym is)

pub sound-enter : (m : Machine) (i : machine.Input) (n f : ℕ) (macro : Macro) (e : Places) (ts : Trees) → 0 < n → Some macro ≡ slice_get m.rules f → sound_within m i n f e ts → IsSoundIn m i (sound_within m i (n - 1)) (stand_for macro.parameters e ts) macro.body
sound-enter m i zero f macro e ts some is sound = absurd (omega arith)
sound-enter m i (suc n) f macro e ts some is sound =
    let down : suc n - 1 ≡ n = omega arith in
    subst (λ k. IsSoundIn m i (sound_within m i k) (stand_for macro.parameters e ts) macro.body) (sym down) (subst (λ o. IsSoundBody m i (sound_within m i n) o e ts) (sym is) sound)

pub sound-item : (m : Machine) (i : machine.Input) (of_bodies : OfBodies) (e : Places) (rs : List (Rc program.Rule Global)) (k : ℕ) (r : Rc program.Rule Global) → k < length rs → r ≡ get_or rs k r → AreSoundIn m i of_bodies e (plain_rules rs) → IsSoundIn m i of_bodies e (plain_rule r.value)
sound-item m i of_bodies e [] k r lt is sound = absurd (omega arith)
sound-item m i of_bodies e (x ∷ rs) zero r lt is sound = subst (λ y. IsSoundIn m i of_bodies e (plain_rule y.value)) (sym is) sound.0
sound-item m i of_bodies e (x ∷ rs) (suc k) r lt is sound = sound-item m i of_bodies e rs k r (omega arith) is sound.1

pub taken_all-drop : (pick : Pick (List ℕ)) (bodies : Bodies (List ℕ)) (path : Path) (k : ℕ) (w : World) (e : Places) (rs : List (Rc program.Rule Global)) (i : ℕ) (r : Rc program.Rule Global) (u : UpdateSet) (words : List ℕ) → i < length rs → r ≡ get_or rs i r
    → taken_all pick bodies path k w e (plain_rules (drop i rs)) u words ≡ and_then (taken pick bodies (path ++ Part k ∷ []) w e (plain_rule r.value) words) (λ v words. taken_all pick bodies path (k + 1) w e (plain_rules (drop (i + 1) rs)) (set.union u v) words)
taken_all-drop pick bodies path k w e rs i r u words h is = rw (drop-cons rs i r, add-one, add-one, sym is) refl

pub each-drop : (instance : List Value → List ℕ → Attempt (List ℕ) UpdateSet) (ts : List (List Value)) (i : ℕ) (t : List Value) (u : UpdateSet) (words : List ℕ) → i < length ts → t ≡ get_or ts i t
    → each instance (drop i ts) u words ≡ and_then (instance t words) (λ v words. each instance (drop (i + 1) ts) (set.union u v) words)
each-drop instance ts i t u words h is = rw (drop-cons ts i t, add-one, sym is) refl

pub chosen-some : (found : List (List Value)) (body otherwise : Attempt (List ℕ) UpdateSet) → 0 < length found → chosen found body otherwise ≡ body
chosen-some [] body otherwise some = absurd (omega arith)
chosen-some (v ∷ vs) body otherwise some = refl

pub chosen-none : (found : List (List Value)) (body otherwise : Attempt (List ℕ) UpdateSet) → length found ≡ 0 → chosen found body otherwise ≡ otherwise
chosen-none [] body otherwise nothing = refl
chosen-none (v ∷ vs) body otherwise nothing = absurd (omega (arith, nothing))

-- one of the lists is at its end
pub stand-end : (ps : List Binder) (e : Places) (ts : List (Rc of_term.Term Global)) (n : ℕ) → n ≡ min (length ps) (length ts) → stand_for (drop n ps) e (plain_all (drop n ts)) ≡ nowhere
stand-end [] e ts zero is = refl
stand-end [] e ts (suc n) is = absurd (omega (arith, is))
stand-end (p ∷ ps) e [] zero is = refl
stand-end (p ∷ ps) e [] (suc n) is = absurd (omega (arith, is))
stand-end (p ∷ ps) e (t ∷ ts) zero is = absurd (omega (arith, is))
stand-end (p ∷ ps) e (t ∷ ts) (suc n) is = stand-end ps e ts n (omega (arith, is))

-- a guard, and what follows it
pub guard-is : (place : Place) (o : Outcome Value) (words t : List ℕ) (b : Truth) → evaluated o words (λ v. truth_of place v words) ≡ Yields b t → o ≡ Gives (Bool b)
guard-is place (Needs l) words t b is = absurd (cc is)
guard-is place (Gives (Bool c)) words t b is = let e : c ≡ b = cc is in ap (λ x. Gives (Bool x)) e
guard-is place (Gives Undef) words t b is = absurd (cc is)
guard-is place (Gives (Int z)) words t b is = absurd (cc is)
guard-is place (Gives (Elem d k)) words t b is = absurd (cc is)

pub halts-guard : {A : Type 0} (e : FireError) (place : Place) (o : Outcome Value) (words : List ℕ) (a b : Attempt (List ℕ) A) → Halts e words (evaluated o words (λ v. truth_of place v words)) → Halts e words (evaluated o words (λ v. branch v a b (Faults (UndefGuard place) words)))
halts-guard halt.Memory place o words a b is = tt
halts-guard (halt.Stop stop) place (Needs l) words a b is = let e : Input l ≡ stop = cc is in ap (λ s. Faults s words) e
halts-guard (halt.Stop stop) place (Gives v) words a b is = halts-truth (halt.Stop stop) place v words a b is

pub positive : (n : ℕ) → nat_eq n 0 ≡ false → 0 < n
positive zero is = absurd (true≢false is)
positive (suc n) is = omega arith

pub index-same : (ts : List (List Value)) (k : ℕ) (d e : List Value) → k < length ts → get_or ts k d ≡ get_or ts k e
index-same [] k d e lt = absurd (omega (arith, lt))
index-same (t ∷ ts) zero d e lt = refl
index-same (t ∷ ts) (suc k) d e lt = index-same ts k d e (omega (arith, lt))

-- a second part after a consistent set, and after another
pub after-consistent : (u : UpdateSet) (s : List ℕ) (later : List ℕ → Attempt (List ℕ) UpdateSet) → consistent u ≡ true → after_set u s later ≡ and_then (later s) (λ v s. Yields (override u v) s)
after-consistent u s later is = ap (λ b. if b then and_then (later s) (λ v s. Yields (override u v) s) else Yields u s) is

pub after-inconsistent : (u : UpdateSet) (s : List ℕ) (later : List ℕ → Attempt (List ℕ) UpdateSet) → consistent u ≡ false → after_set u s later ≡ Yields u s
after-inconsistent u s later is = ap (λ b. if b then and_then (later s) (λ v s. Yields (override u v) s) else Yields u s) is

pub clashing : (b : Truth) (o : Option (ℕ × Value × Value)) → (b ≡ true → IsNone o) → is_some o ≡ true → b ≡ false
clashing true None only some = absurd (true≢false (sym some))
clashing true (Some x) only some = absurd (cc (only refl))
clashing false o only some = refl

pub no_clash : (o : Option (ℕ × Value × Value)) → is_some o ≡ false → IsNone o
no_clash None is = refl
no_clash (Some x) is = absurd (true≢false is)
