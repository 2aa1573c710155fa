-- The class stands behind those under its key.
use Rattle.std.proofs.Common.{map, ap, ◌∙◌}
use Rattle.std.proofs.lemmas.Result.{on_ok_weaker}
use Rattle.mo_scope.specs.Held.{group_held, path_key}
use Rattle.mo_scope.specs.steps.Listed.{class_seen}
use Rattle.mo_scope.specs.Sights.{part_seen, home_seen}
use Rattle.mo_scope.proofs.Keys.{placed_added}
use Rattle.mo_scope.proofs.groups.Groups.add.Goals as goal

pub returns-in_ok-key-in-Under : goal.returns-in_ok-key-in-Under
returns-in_ok-key-in-Under c =
    on_ok_weaker c.put.result (λ put path. put (path_key path)
    ∙ placed_added c.into_vec.result.items (map (λ name. name.now) c.in-Under.path) path (class_seen c.args.class.now) (group_held c.args.self.now (path_key path)) (part_seen c.placed.result)
    (c.into_vec.ensures ∙ c.in_ok-key-in-Under.ensures ∙ ap (λ names. path_key (map (λ name. name.now) names)) c.as_slice.ensures) (ap home_seen c.in-Under.is) c.if-not-class.false c.placed.ensures)
    c.put.ensures
