use Rattle.std.proofs.Common.{◌∙◌, ap, not, ◌&&◌, ◌||◌, List, unwrap_or}
use Rattle.std.proofs.lemmas.Result.{IfOk-weaker}
use Rattle.cnf_base.specs.Clauses.{lit_true}
use Rattle.asm_node.specs.Term.{Gives}
use Rattle.enc_group.specs.declared.group.Entry.{Entry}
use Rattle.enc_group.specs.Group.{holds}
use Rattle.enc_update.proofs.Entries.{overwritten, some_written}
use Rattle.enc_update.proofs.slots.next_group.Goals as goal

pub returns-clause-means : goal.returns-clause-means
returns-clause-means c = IfOk-weaker c.merged.result _ _ (λ g m v t written x writes means.
    let t1 = c.merged.ensures.grows.holds v t in
    let t2 = c.extend.ensures.grows.holds v t1 in
    let set : List Entry = c.args.set.now in
    let old : List Entry = c.args.old.now in
    m v t (Gives (unwrap_or written x)) (overwritten v set old c.slice.result.now written x writes means (λ y.
    ap (λ (es : List Entry). holds v es y) c.slice.ensures ∙ c.in_ok-extend.ensures.means v t1 y
    ∙ ap (λ (es : List Entry). holds v es y || (lit_true v c.not.result && holds v old y)) c.in_ok-bag.ensures
    ∙ ap (λ b. holds v set y || (b && holds v old y)) (c.not.ensures.means v ∙ ap not (c.in_ok-touched.ensures.means v t2 ∙ some_written v set written writes))))) c.merged.ensures.means
