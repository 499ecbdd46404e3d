-- A run as it is printed.
use Rattle.std.proofs.Common.{◌≡◌, ℕ, suc, zero, ◌+◌, ◌-◌, ◌<◌, List, [], ◌∷◌, ◌++◌, drop, refl, sym, ap, ◌∙◌, subst, arith, sub-one, append-nil, append_assoc, Option, Some, None, All, slice_get, unwrap_or}
use Rattle.std.specs.Prelude.{Result, Ok, Err}
use Rattle.asm_io.specs.Outside.{Adds}
use Rattle.asm_io.specs.Writes.{Writes, WritesFront}
use Rattle.asm_source.specs.declared.sources.Source.{Source}
use Rattle.asm_io.proofs.Printing.{front_more, front_none, front_part, rose_after}
use Rattle.asm_node.specs.declared.stop.Stop.{Stop}
use Rattle.asm_node.specs.Machine.{Machine, State, Input, no_input}
use Rattle.asm_node.specs.Step.{IsInput, broken, next}
use Rattle.asm_node.proofs.Formed.{all_at}
use Rattle.asm_run.specs.declared.error.OutError.{OutError}
use Rattle.asm_run.specs.declared.error.OutError.TheVariants.{Write}
use Rattle.asm_run.specs.Printed.{Printed, after, ended, first_input, further_inputs, go_on, numbered_state, run_from, stop_of, unless_broken}
use Rattle.asm_run.specs.Stepping.{Goes, step_from, unless_false}
use Rattle.asm_run.proofs.Truths.{no_input-is}
use Rattle.asm_text.specs.Texts.{stop_line}

-- the inputs after the first of those that are left
pub further-drop : (inputs : List Input) (k : ℕ) → further_inputs (drop k inputs) ≡ drop (suc k) inputs
further-drop [] zero = refl
further-drop [] (suc k) = refl
further-drop (i ∷ inputs) zero = refl
further-drop (i ∷ inputs) (suc k) = further-drop inputs k

-- the first of the inputs that are left, and past the last nothing
pub first-drop : (inputs : List Input) (k : ℕ) → first_input (drop k inputs) ≡ unwrap_or (slice_get inputs k) no_input
first-drop [] zero = refl
first-drop [] (suc k) = refl
first-drop (i ∷ inputs) zero = refl
first-drop (i ∷ inputs) (suc k) = first-drop inputs k

pub first-given : (inputs : List Input) (k : ℕ) (o : Option Input) → slice_get inputs k ≡ o → first_input (drop k inputs) ≡ unwrap_or o no_input
first-given inputs k o is = first-drop inputs k ∙ ap (λ o. unwrap_or o no_input) is

-- is an input of the machine
pub first-is_input : (m : Machine) (inputs : List Input) (k : ℕ) → All (IsInput m) inputs → IsInput m (first_input (drop k inputs))
first-is_input m inputs k all = subst (IsInput m) (sym (first-drop inputs k)) (of (slice_get inputs k) refl)
  where
    of : (o : Option Input) → slice_get inputs k ≡ o → IsInput m (unwrap_or o no_input)
    of None is = no_input-is m
    of (Some i) is = all_at (IsInput m) inputs k i all is

-- ---- what is left to print

module _ (m : Machine) (sources : List Source) where
  -- a false invariant is a stop of the step
  false-stops : (b : Option ℕ) (step : Result (State × List ℕ) Stop) (more : State → List ℕ → Printed) → unless_broken m sources b (go_on m sources step more) ≡ go_on m sources (unless_false b step) more
  false-stops (Some n) step more = refl
  false-stops None step more = refl

  -- what is left after a step
  abbrev pub others : Result (State × List ℕ) Stop → (State → List ℕ → Printed) → List ℕ
  others (Ok p) more = (more p.0 p.1).text
  others (Err e) more = []

  goes-on : (step : Result (State × List ℕ) Stop) (more : State → List ℕ → Printed) → (go_on m sources step more).text ≡ stop_of m sources step ++ others step more
  goes-on (Ok p) more = refl
  goes-on (Err e) more = sym (append-nil (stop_line m.signature sources e))

  -- the run after the next step
  abbrev pub later : ℕ → ℕ → List Input → State → List ℕ → Printed
  later number k inputs t rest = run_from m sources (number + 1) t (further_inputs inputs) rest (k - 1)

  run_from-more : (number k : ℕ) (s : State) (inputs : List Input) (words : List ℕ) → 0 < k
      → run_from m sources number s inputs words k ≡ after (numbered_state m number s) (go_on m sources (step_from m s (first_input inputs) words) (later number k inputs))
  run_from-more number zero s inputs words some = absurd (omega arith)
  run_from-more number (suc k) s inputs words some =
      ap (after (numbered_state m number s)) (false-stops (broken m s) (next m s (first_input inputs) words m.main) (λ t rest. run_from m sources (number + 1) t (further_inputs inputs) rest k))
      ∙ ap (λ n. after (numbered_state m number s) (go_on m sources (step_from m s (first_input inputs) words) (λ t rest. run_from m sources (number + 1) t (further_inputs inputs) rest n))) (sym (sub-one (suc k)))

  -- what a step prints comes first
  pub run_from-cut : (number k : ℕ) (s : State) (inputs : List Input) (words : List ℕ) (input : Input) → 0 < k → input ≡ first_input inputs
      → (run_from m sources number s inputs words k).text ≡ (numbered_state m number s ++ stop_of m sources (step_from m s input words)) ++ others (step_from m s input words) (later number k inputs)
  run_from-cut number k s inputs words input some is =
      ap (λ (p : Printed). p.text) (run_from-more number k s inputs words some)
      ∙ ap (λ i. numbered_state m number s ++ (go_on m sources (step_from m s i words) (later number k inputs)).text) (sym is)
      ∙ ap (λ z. numbered_state m number s ++ z) (goes-on (step_from m s input words) (later number k inputs))
      ∙ sym (append_assoc (numbered_state m number s) (stop_of m sources (step_from m s input words)) (others (step_from m s input words) (later number k inputs)))

  pub run_from-next : (number k : ℕ) (s : State) (inputs : List Input) (words : List ℕ) (input : Input) → 0 < k → input ≡ first_input inputs
      → (run_from m sources number s inputs words k).end ≡ (go_on m sources (step_from m s input words) (later number k inputs)).end
  run_from-next number k s inputs words input some is =
      ap (λ (p : Printed). p.end) (run_from-more number k s inputs words some) ∙ ap (λ i. (go_on m sources (step_from m s i words) (later number k inputs)).end) (sym is)

  pub run_from-end : (number k : ℕ) (s : State) (inputs : List Input) (words : List ℕ) → k ≡ 0
      → run_from m sources number s inputs words k ≡ after (numbered_state m number s) (unless_broken m sources (broken m s) ended)
  run_from-end number k s inputs words is = ap (run_from m sources number s inputs words) is

-- the run after a step, by the number of all steps
pub later-is : (m n : Machine) (sources : List Source) (number steps : ℕ) (inputs : List Input) (t : State) (rest : List ℕ) → n ≡ m
    → later m sources number (steps - number) (drop number inputs) t rest ≡ run_from n sources (number + 1) t (drop (number + 1) inputs) rest (steps - (number + 1))
later-is m n sources number steps inputs t rest same =
    let next : suc number ≡ number + 1 = omega arith in
    let less : steps - number - 1 ≡ steps - (number + 1) = omega arith in
    ap (λ is. run_from m sources (number + 1) t is rest (steps - number - 1)) (further-drop inputs number ∙ ap (λ k. drop k inputs) next)
    ∙ ap (λ k. run_from m sources (number + 1) t (drop (number + 1) inputs) rest k) less
    ∙ ap (λ m. run_from m sources (number + 1) t (drop (number + 1) inputs) rest (steps - (number + 1))) (sym same)

pub goes-some : (r : Option Stop) (e : Stop) (t : State) (rest : List ℕ) (step : Result (State × List ℕ) Stop) → r ≡ Some e → Goes r t rest step → step ≡ Err e
goes-some r e t rest step is goes = subst (λ (r : Option Stop). Goes r t rest step) is goes

pub goes-none : (r : Option Stop) (t : State) (rest : List ℕ) (step : Result (State × List ℕ) Stop) → r ≡ None → Goes r t rest step → step ≡ Ok (t, rest)
goes-none r t rest step is goes = subst (λ (r : Option Stop). Goes r t rest step) is goes

-- ---- what stands written

module _ {K : Type 0} (written : K → Option (List ℕ)) (faults : K → ℕ) where
  -- a call that stops within the next piece
  pub stopped : {T U : Type 0} (old mid now : K) (text rest piece others : List ℕ) (e : OutError) → rest ≡ piece ++ others → WritesFront written faults old mid text rest
      → Writes {T = T} written faults mid now piece Write (Err e) → Writes {T = U} written faults old now text Write (Err e)
  stopped old mid now text rest piece others e cut so_far w = record {
    ok = tt;
    err = front_part written faults old mid now text rest piece others cut so_far w.err;
    later = omega (arith, so_far.later, w.later);
    failed = λ is. rose_after _ _ _ so_far.later (w.failed (cc is));
  }

  -- the next piece is written
  pub went_on : {T : Type 0} (old mid now : K) (text rest piece others : List ℕ) (x : T) → rest ≡ piece ++ others → WritesFront written faults old mid text rest
      → Writes written faults mid now piece Write (Ok x) → WritesFront written faults old now text others
  went_on old mid now text rest piece others x cut so_far w = front_more written faults old mid now text rest piece others cut so_far w.ok w.later

  -- all is written
  pub written_all : {U : Type 0} (old now : K) (text rest : List ℕ) (y : U) → rest ≡ [] → WritesFront written faults old now text rest → Writes {E = OutError} written faults old now text Write (Ok y)
  written_all old now text rest y none so_far = record {
    ok = subst (λ (t : List ℕ). Adds (written old) (written now) t) (sym (so_far.text_is ∙ ap (λ z. so_far.front ++ z) none ∙ append-nil so_far.front)) so_far.adds;
    err = tt;
    later = so_far.later;
    failed = λ same. absurd (cc same);
  }

  -- the last piece ends the run's text as its call ended
  pub last : {T : Type 0} (old mid now : K) (text rest piece : List ℕ) (r : Result T OutError) → rest ≡ piece → WritesFront written faults old mid text rest
      → Writes written faults mid now piece Write r → Writes written faults old now text Write r
  last old mid now text rest piece (Ok x) cut so_far w = written_all old now text [] x refl (went_on old mid now text rest piece [] x (cut ∙ sym (append-nil piece)) so_far w)
  last old mid now text rest piece (Err e) cut so_far w = stopped old mid now text rest piece [] e (cut ∙ sym (append-nil piece)) so_far w

  -- a call that stops in its second piece
  pub second-stopped : {T U V : Type 0} (old mid now : K) (xs ys zs : List ℕ) (x : T) (e : OutError) → zs ≡ ys
      → Writes written faults old mid xs Write (Ok x) → Writes {T = U} written faults mid now ys Write (Err e) → Writes {T = V} written faults old now (xs ++ zs) Write (Err e)
  second-stopped old mid now xs ys zs x e same first second =
      stopped old mid now (xs ++ zs) zs ys [] e (same ∙ sym (append-nil ys)) (went_on old old mid (xs ++ zs) (xs ++ zs) xs zs x refl (front_none written faults old (xs ++ zs)) first) second

  -- a call that writes both pieces
  pub both-written : {T U V : Type 0} (old mid now : K) (xs ys zs : List ℕ) (x : T) (u : U) (y : V) → zs ≡ ys
      → Writes written faults old mid xs Write (Ok x) → Writes written faults mid now ys Write (Ok u) → Writes {E = OutError} written faults old now (xs ++ zs) Write (Ok y)
  both-written old mid now xs ys zs x u y same first second =
      written_all old now (xs ++ zs) [] y refl
      (went_on old mid now (xs ++ zs) zs ys [] u (same ∙ sym (append-nil ys)) (went_on old old mid (xs ++ zs) (xs ++ zs) xs zs x refl (front_none written faults old (xs ++ zs)) first) second)

  -- a call that writes one piece
  pub one-written : {T U : Type 0} (old now : K) (xs ys : List ℕ) (x : T) (y : U) → ys ≡ xs → Writes written faults old now xs Write (Ok x) → Writes {E = OutError} written faults old now ys Write (Ok y)
  one-written old now xs ys x y same w = written_all old now ys [] y refl (went_on old old now ys ys xs [] x (same ∙ sym (append-nil xs)) (front_none written faults old ys) w)
