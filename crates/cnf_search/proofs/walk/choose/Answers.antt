use Rattle.std.proofs.Common.{◌≡◌, ◌<◌, ◌+◌, [], List, ℕ, Option, Bool, length, take, get_or, arith, refl, ap, sym, ◌∙◌, None, Some, true, slice_get}
use Rattle.std.specs.Prelude.{is_none, is_some}
use Rattle.std.specs.List.{list_all}
use Rattle.cnf_base.specs.declared.lit.Lit.{Lit}
use Rattle.cnf_base.specs.Clauses.{clause_variables}
use Rattle.cnf_base.proofs.VariableBounds.{clause_read, var_read}
use Rattle.cnf_gate.specs.Built.{is_decided}
use Rattle.cnf_search.specs.Levels.{last_depth}
use Rattle.cnf_search.specs.Lines.{known}
use Rattle.cnf_search.specs.Trails.{values}
use Rattle.cnf_search.proofs.Choosing.{last_decided, last_within, groups_room, index_at, value_short}
use Rattle.cnf_search.proofs.Traces.{take_all, read_get}
use Rattle.cnf_search.proofs.walk.choose.Goals as goal

pub next_group-depth-requires-clause-room : goal.next_group-depth-requires-clause-room
next_group-depth-requires-clause-room c = groups_room c.args.groups.now c.args.walk.now c.requires.guided c.requires.sound

pub next_group-depth-requires-clause-earlier : goal.next_group-depth-requires-clause-earlier
next_group-depth-requires-clause-earlier c =
    ap (λ (k : ℕ). is_decided (values c.args.walk.now.trace.entries) (take k c.args.groups.now)) (c.last_depth.ensures ∙ ap (last_depth 0) c.deref.ensures.value)
    ∙ last_decided c.args.groups.now (known c.args.walk.now.checker) c.args.walk.now.trace.entries c.args.walk.now.levels.items c.requires.sound.explained c.requires.placed.levels

pub next_group-depth-requires-clause-within : goal.next_group-depth-requires-clause-within
next_group-depth-requires-clause-within c =
    omega (
      arith,
      c.last_depth.ensures,
      ap (last_depth 0) c.deref.ensures.value,
      last_within c.args.groups.now 0 0 c.args.walk.now.levels.items (omega arith) c.requires.placed.ranked,
    )

pub returns-then-depth-groups : goal.returns-then-depth-groups
returns-then-depth-groups c = (
  ap (is_decided (values c.args.walk.now.trace.entries)) (sym (take_all c.args.groups.now c.next_group-depth.result (omega (arith, c.if-depth-groups.true)))) ∙ c.next_group-depth.ensures.earlier,
  refl,
)

pub bounds-groups-depth : goal.bounds-groups-depth
bounds-groups-depth c = omega (arith, c.if-depth-groups.false, c.next_group-depth.ensures.within)

pub next_value-value-requires : goal.next_value-value-requires
next_value-value-requires c =
    omega (
      arith,
      ap clause_variables c.slice-group.ensures,
      clause_read c.args.groups.now c.next_group-depth.result c.index-groups-depth.result (omega (arith, c.if-depth-groups.false, c.next_group-depth.ensures.within)) c.index-groups-depth.is,
      groups_room c.args.groups.now c.args.walk.now c.requires.guided c.requires.sound,
    )

pub bounds-group-value : goal.bounds-group-value
bounds-group-value c =
    let deep : c.next_group-depth.result < length c.args.groups.now = omega (arith, c.if-depth-groups.false, c.next_group-depth.ensures.within) in
    let short : c.next_value-value.result + 1 < length c.slice-group.result.now =
    value_short c.args.groups.now c.args.walk.now c.next_group-depth.result c.next_value-value.result c.slice-group.result.now c.requires.guided c.requires.quiet deep
    (c.slice-group.ensures ∙ index_at c.args.groups.now c.next_group-depth.result c.index-groups-depth.result deep c.index-groups-depth.is) (c.next_group-depth.ensures.untrue deep)
    c.next_value-value.ensures.valued c.next_value-value.ensures.within in
    omega (arith, short)

pub decide-requires-clause-room : goal.decide-requires-clause-room
decide-requires-clause-room c =
    let deep : c.next_group-depth.result < length c.args.groups.now = omega (arith, c.if-depth-groups.false, c.next_group-depth.ensures.within) in
    let short : c.next_value-value.result + 1 < length c.slice-group.result.now =
    value_short c.args.groups.now c.args.walk.now c.next_group-depth.result c.next_value-value.result c.slice-group.result.now c.requires.guided c.requires.quiet deep
    (c.slice-group.ensures ∙ index_at c.args.groups.now c.next_group-depth.result c.index-groups-depth.result deep c.index-groups-depth.is) (c.next_group-depth.ensures.untrue deep)
    c.next_value-value.ensures.valued c.next_value-value.ensures.within in
    omega (
      arith,
      var_read c.slice-group.result.now c.next_value-value.result c.index-group-value.result (omega (arith, short)) c.index-group-value.is,
      ap clause_variables c.slice-group.ensures,
      clause_read c.args.groups.now c.next_group-depth.result c.index-groups-depth.result deep c.index-groups-depth.is,
      groups_room c.args.groups.now c.args.walk.now c.requires.guided c.requires.sound,
    )

open_by : (x : Option Bool) → is_none x ≡ true → x ≡ None
open_by None h = refl
open_by (Some b) h = cc

pub decide-requires-clause-fresh : goal.decide-requires-clause-fresh
decide-requires-clause-fresh c =
    let deep : c.next_group-depth.result < length c.args.groups.now = omega (arith, c.if-depth-groups.false, c.next_group-depth.ensures.within) in
    let short : c.next_value-value.result + 1 < length c.slice-group.result.now =
    value_short c.args.groups.now c.args.walk.now c.next_group-depth.result c.next_value-value.result c.slice-group.result.now c.requires.guided c.requires.quiet deep
    (c.slice-group.ensures ∙ index_at c.args.groups.now c.next_group-depth.result c.index-groups-depth.result deep c.index-groups-depth.is) (c.next_group-depth.ensures.untrue deep)
    c.next_value-value.ensures.valued c.next_value-value.ensures.within in
    open_by (values c.args.walk.now.trace.entries c.index-group-value.result.var)
    (ap (λ (l : Lit). is_none (values c.args.walk.now.trace.entries l.var)) c.index-group-value.is ∙ c.next_value-value.ensures.open_yet c.index-group-value.result (omega (arith, short)))

pub returns : goal.returns
returns c =
    let deep : c.next_group-depth.result < length c.args.groups.now = omega (arith, c.if-depth-groups.false, c.next_group-depth.ensures.within) in
    let group : c.slice-group.result.now ≡ get_or c.args.groups.now c.next_group-depth.result [] =
    c.slice-group.ensures ∙ index_at c.args.groups.now c.next_group-depth.result c.index-groups-depth.result deep c.index-groups-depth.is in
    let short : c.next_value-value.result + 1 < length c.slice-group.result.now =
    value_short c.args.groups.now c.args.walk.now c.next_group-depth.result c.next_value-value.result c.slice-group.result.now c.requires.guided c.requires.quiet deep group
    (c.next_group-depth.ensures.untrue deep) c.next_value-value.ensures.valued c.next_value-value.ensures.within in
    record {
      depth = c.next_group-depth.result;
      value = c.next_value-value.result;
      lit = c.index-group-value.result;
      is = record {
        later = omega (arith, c.next_group-depth.ensures.later, c.last_depth.ensures, ap (last_depth 0) c.deref.ensures.value);
        within = deep;
        earlier = c.next_group-depth.ensures.earlier;
        untrue = c.next_group-depth.ensures.untrue deep;
        valued = ap (λ (g : List Lit). list_all (λ (l : Lit). is_some (values c.args.walk.now.trace.entries l.var)) (take c.next_value-value.result g)) (sym group) ∙ c.next_value-value.ensures.valued;
        at = ap (λ (g : List Lit). slice_get g c.next_value-value.result) (sym group)
            ∙ read_get c.slice-group.result.now c.next_value-value.result c.index-group-value.result (omega (arith, short)) c.index-group-value.is;
        open_yet = open_by (values c.args.walk.now.trace.entries c.index-group-value.result.var)
            (ap (λ (l : Lit). is_none (values c.args.walk.now.trace.entries l.var)) c.index-group-value.is ∙ c.next_value-value.ensures.open_yet c.index-group-value.result (omega (arith, short)));
      };
      decides = c.in_ok-decide.ensures;
    }
