use Rattle.std.proofs.Common.{◌≡◌, ℕ, ◌<◌, true, List, ap, sym, ◌∙◌, subst}
use Rattle.cnf_base.specs.Clauses.{IsSatisfied}
use Rattle.cnf_gate.specs.Circuit.{Drawn}
use Rattle.cnf_search.specs.Found.{Finds, IsRefutedBy}
use Rattle.two_level.specs.Asking.{below, is_named, AreBelow, IsRefuted, Tells, Gives}
use Rattle.two_level.proofs.Naming.{named_below, below_named}
use Rattle.two_level.proofs.deciding.decide.Goals as goal

pub question-requires : goal.question-requires
question-requires g c =
    let count = g.P.Problem.count (g.P.Problem.made c.args.problem.now) in
    let list : c.slice.result.now ≡ below count = c.slice.ensures ∙ (c.in_ok-all.ensures ∙ ap below c.answers.ensures) in
    subst (AreBelow count) (sym list) (named_below count)

pub returns-in-Refuted-clause-decides : goal.returns-in-Refuted-clause-decides
returns-in-Refuted-clause-decides g c =
    let m = g.P.Problem.made c.args.problem.now in
    let ns : List ℕ = below (g.P.Problem.count m) in
    let list : c.slice.result.now ≡ ns = c.slice.ensures ∙ (c.in_ok-all.ensures ∙ ap below c.answers.ensures) in
    let q : Drawn = c.in_ok-question.question in
    let told : g.P.Problem.asks m c.slice.result.now q = subst (λ w. g.P.Problem.asks w c.slice.result.now q) c.question.ensures.made c.in_ok-question.ensures.asks in
    let asks : g.P.Problem.asks m ns q = subst (λ xs. g.P.Problem.asks m xs q) list told in
    let found : IsRefutedBy q c.args.budget c.in-Refuted.refutation = subst (Finds q c.args.budget) c.in-Refuted.is c.in_ok-refutation.ensures in
    let none : IsRefuted q = λ a is. c.formula-formula.ensures.unsatisfied a (subst (λ f. IsSatisfied f a) (sym found.formula) is) in
    record {
      met = λ k is. g.met.P.Problem.refuted_meets m ns q asks none k is;
      question = q;
      asks_for = asks;
      formula = found.formula;
    }

pub fail-requires-clause-unmet : goal.fail-requires-clause-unmet
fail-requires-clause-unmet g c =
    let m = g.P.Problem.made c.question.new.self in
    let same : g.P.Problem.count m ≡ g.P.Problem.count (g.P.Problem.made c.args.problem.now) = ap g.P.Problem.count c.question.ensures.made in
    let list : c.slice.result.now ≡ below (g.P.Problem.count m) = c.slice.ensures ∙ (c.in_ok-all.ensures ∙ (ap below c.answers.ensures ∙ ap below (sym same))) in
    let solved : IsSatisfied _ c.in-Solved.candidate = subst (Finds c.in_ok-question.question c.args.budget) c.in-Solved.is c.in_ok-refutation.ensures in
    λ n less meets.
    (c.in_ok-question.ensures.cases c.in-Solved.candidate solved).1 n
    (ap (λ (xs : List ℕ). is_named xs n) list ∙ below_named (g.P.Problem.count m) n less) meets
