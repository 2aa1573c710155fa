-- One after another.
use Rattle.std.proofs.Common.{[], ap, sym, ◌∙◌, nat_cmp}
use Rattle.std.specs.BTreeMap.{is_at}
use Rattle.std.specs.Cmp.Lexicographic.{slice_cmp}
use Rattle.std.specs.Map.{lookup}
use Rattle.std.proofs.lemmas.List.Folds.{flat_map-map}
use Rattle.mo_scope.specs.Worlds.{table_in}
use Rattle.mo_mods.specs.declared.left.Left.{Left as LeftAt}
use Rattle.mo_mods.specs.Left.{left_says}
use Rattle.mo_mods.specs.Sights.{left_in, said_held, said_or_none}
use Rattle.mo_scope.proofs.Sayings.{gathered_more, gathered_all}
use Rattle.mo_mods.proofs.groups.grouped.Goals as goal

pub loop-left-init : goal.loop-left-init
loop-left-init c = λ frames name. ap (λ es. said_or_none frames (lookup (is_at (λ k. slice_cmp nat_cmp name k.now)) es)) c.new-groups.ensures.empty

pub loop-left-preserved : goal.loop-left-preserved
loop-left-preserved c = λ frames name.
    gathered_more (λ (left : LeftAt). left_says (table_in c.args.scopes.now) name (left_in frames left))
    [] (said_held frames c.loop-left.groups name) (said_held frames c.put_left.new.groups name)
    c.args.lefts.now c.loop-left.left-index c.left-item.result c.loop-left-test.true c.left-item.is
    (c.loop-left.invariant frames name) (c.in_ok-put_left.ensures frames name)

pub returns : goal.returns
returns c = λ frames name.
    gathered_all (λ (left : LeftAt). left_says (table_in c.args.scopes.now) name (left_in frames left))
    [] (said_held frames c.loop-left.groups name)
    c.args.lefts.now c.loop-left.left-index c.loop-left-test.false (c.loop-left.invariant frames name)
    ∙ sym (flat_map-map (left_says (table_in c.args.scopes.now) name) (left_in frames) c.args.lefts.now)
