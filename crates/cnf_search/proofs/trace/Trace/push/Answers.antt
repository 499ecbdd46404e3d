use Rattle.std.proofs.Common.{◌≡◌, ◌++◌, ◌∷◌, [], ap, sym, ◌∙◌, None}
use Rattle.cnf_base.specs.Known.{value_of, Partial}
use Rattle.cnf_search.specs.Trails.{Told, values}
use Rattle.cnf_search.proofs.Traces.{entries_of-push, IsTrace-push}
use Rattle.cnf_search.proofs.trace.Trace.push.Goals as goal

pub invariant_of-self-in_default : goal.invariant_of-self-in_default
invariant_of-self-in_default c =
    let fresh : value_of c.self.inside.trail.lits c.args.lit.var ≡ None =
    ap (λ (p : Partial). p c.args.lit.var) (sym c.self.invariant.agree) ∙ (ap (λ (t : Told). values t.entries c.args.lit.var) c.self.view_is ∙ c.requires.fresh) in
    rw (c.in_default.ensures.ok, c.in_ok-push.ensures.items)
    (IsTrace-push c.self.inside.trail.lits c.self.inside.reasons.items c.set.new.self.size c.args.lit c.args.reason
    (record { paired = c.self.invariant.paired; agree = c.self.invariant.agree; fronts = c.self.invariant.fronts }) fresh)

pub returns-clause-ok : goal.returns-clause-ok
returns-clause-ok c =
    rw (c.in_default.ensures.ok, c.in_ok-push.ensures.items)
    (entries_of-push c.self.inside.trail.lits c.self.inside.reasons.items c.args.lit c.args.reason c.self.invariant.paired
    ∙ ap (λ (t : Told). t.entries ++ (record { lit = c.args.lit; reason = c.args.reason }) ∷ []) c.self.view_is)
