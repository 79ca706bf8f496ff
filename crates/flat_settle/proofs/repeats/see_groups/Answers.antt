use Rattle.std.proofs.Common.{◌++◌, suc, [], List, take, drop, length, length-append, refl, ap, sym, subst, arith}
use Rattle.std.specs.List.{flat_map}
use Rattle.std.proofs.lemmas.Option.{slice_get_read}
use Rattle.flat_settle.specs.Refusals.{Named, group_names}
use Rattle.flat_settle.specs.Naming.{RepeatsAfter}
use Rattle.flat_settle.proofs.RepeatLemmas.{flat_map_split, group_width, repeats_widen, repeats_shift, at_some}
use Rattle.flat_settle.proofs.repeats.see_groups.Goals as goal

pub see_group-requires-clause-range : goal.see_group-requires-clause-range
see_group-requires-clause-range c =
    let at = slice_get_read c.args.groups.now _ c.loop-group.group-index c.group-item.result refl c.loop-group-test.true c.group-item.is in
    c.requires.ranges c.loop-group.group-index c.group-item.result at

pub see_group-requires-clause-spelled : goal.see_group-requires-clause-spelled
see_group-requires-clause-spelled c =
    let at = slice_get_read c.args.groups.now _ c.loop-group.group-index c.group-item.result refl c.loop-group-test.true c.group-item.is in
    c.requires.spelled c.loop-group.group-index c.group-item.result at

pub see_group-requires-clause-few : goal.see_group-requires-clause-few
see_group-requires-clause-few c =
    let at = slice_get_read c.args.groups.now _ c.loop-group.group-index c.group-item.result refl c.loop-group-test.true c.group-item.is in
    let before = flat_map group_names (take c.loop-group.group-index c.args.groups.now) in
    let own = group_names c.group-item.result in
    let rest = flat_map group_names (drop (suc c.loop-group.group-index) c.args.groups.now) in
    let all = ap length (flat_map_split group_names c.args.groups.now c.loop-group.group-index c.group-item.result at) in
    omega (arith, all, length-append before (own ++ rest), length-append own rest, group_width c.group-item.result (c.requires.ranges c.loop-group.group-index c.group-item.result at), c.loop-group.invariant.few, c.requires.few)

pub returns-in-Some : goal.returns-in-Some
returns-in-Some c =
    let at = slice_get_read c.args.groups.now _ c.loop-group.group-index c.group-item.result refl c.loop-group-test.true c.group-item.is in
    let before = flat_map group_names (take c.loop-group.group-index c.args.groups.now) in
    let own = group_names c.group-item.result in
    let rest = flat_map group_names (drop (suc c.loop-group.group-index) c.args.groups.now) in
    let repeats = at_some c.in_ok-name.field-0 c.in-Some.name _ (λ name. RepeatsAfter before own name) c.in-Some.is (c.in_ok-name.ensures before c.loop-group.invariant) in
    subst (λ (zs : List Named). RepeatsAfter [] zs c.in-Some.name) (sym (flat_map_split group_names c.args.groups.now c.loop-group.group-index c.group-item.result at))
    (repeats_shift [] before (own ++ rest) c.in-Some.name (repeats_widen before own rest c.in-Some.name repeats))
