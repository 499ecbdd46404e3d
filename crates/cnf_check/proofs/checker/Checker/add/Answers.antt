use Rattle.std.proofs.Common.{◌≡◌, ◌≤◌, List, refl, sym, ◌∙◌, ap, arith, take, [], ◌∷◌, length, Bool, eqb, ◌||◌}
use Rattle.cnf_base.specs.declared.lit.Lit.{Lit}
use Rattle.cnf_base.specs.declared.line.Line.{Line}
use Rattle.cnf_base.specs.Clauses.{variables, clause_variables}
use Rattle.cnf_base.specs.Derivation.{outcome, accepted}
use Rattle.cnf_check.specs.Checked.{clauses_after}
use Rattle.cnf_check.proofs.Steps.{IsReady-push}
use Rattle.cnf_check.proofs.checker.Checker.add.Goals as goal

take_none : (ls : List Lit) → take 0 ls ≡ []
take_none [] = refl
take_none (l ∷ ls) = refl

pub invariant_of-self-2 : goal.invariant_of-self-2
invariant_of-self-2 c =
    let f : List (List Lit) = c.self.inside.formula in
    let lines : List Line = c.self.inside.lines in
    let x : Line = record { clause = c.in_ok-from_slice.field-0; hints = c.in_ok-from_slice-2.field-0 } in
    let same : x.clause ≡ c.args.clause.now = c.in_ok-from_slice.ensures ∙ c.slice.ensures in
    let named : x.hints ≡ c.args.hints.now = c.in_ok-from_slice-2.ensures in
    let now : outcome (clauses_after f lines) x.clause x.hints ≡ accepted =
    (λ i. outcome (clauses_after f lines) (same i) (named i)) ∙ c.in_ok-tested.ensures.answer in
    let size : c.undo.new.self.size ≡ c.grow.new.self.size = c.undo.ensures.size ∙ c.test_line-tested.ensures.size in
    let room : variables (clauses_after f lines) ≤ c.undo.new.self.size =
    omega (arith, c.self.invariant.room, c.in_ok-grow.ensures.rises, size) in
    let new : clause_variables x.clause ≤ c.undo.new.self.size =
    omega (arith, ap clause_variables same, c.clause_variables.ensures.value, c.in_ok-grow.ensures.size, size) in
    let empty : c.is_empty.result ≡ eqb (length x.clause) 0 = c.is_empty.ensures ∙ ap (λ (z : List Lit). eqb (length z) 0) (sym same) in
    rw c.in_ok-push.ensures.ok
    (IsReady-push f lines x c.undo.new.self.size c.undo.new.self.lits c.self.inside.finished (c.self.inside.finished || c.is_empty.result) c.self.invariant.accepted now room new
    (c.undo.ensures.lits ∙ take_none c.test_line-tested.new.trail.lits) c.self.invariant.ended (ap (λ (b : Bool). c.self.inside.finished || b) empty))
