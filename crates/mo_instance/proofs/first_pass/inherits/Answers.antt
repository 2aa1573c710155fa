-- Elements that are inherited are those of the walk.
use Rattle.std.proofs.Common.{◌≡◌, Bool, true, false, List, ap, map, sym, ◌∙◌}
use Rattle.std.specs.List.{list_any}
use Rattle.std.specs.Prelude.{◌||◌}
use Rattle.mo_scope.specs.Worlds.{frames_of}
use Rattle.mo_names.specs.declared.walk.Inherited.{Inherited as InheritedAt}
use Rattle.mo_names.specs.Sights.{inherited_seen, walk_seen}
use Rattle.mo_instance.specs.Attributes.{is_attribute}
use Rattle.mo_instance.specs.Passes.{is_inherited}
use Rattle.mo_instance.specs.steps.Walks.{inherits_name}
use Rattle.mo_instance.proofs.Named.{inherits_held}
use Rattle.mo_instance.proofs.first_pass.inherits.Goals as goal

pub returns-then-is_inherited : goal.returns-then-is_inherited
returns-then-is_inherited c =
    let F = frames_of c.args.s.now in
    let name = c.args.name.now in
    let all : true ≡ list_any (is_inherited name) (map (inherited_seen F) c.args.walk.now.members)
    = sym c.if-is_inherited.true ∙ c.is_inherited.ensures ∙ ap (λ (xs : List InheritedAt). list_any (inherits_name name) xs) c.as_slice.ensures ∙ inherits_held F name c.args.walk.now.members in
    ap (λ (b : Bool). b || is_attribute (walk_seen F c.args.walk.now).leaf name) all

pub returns : goal.returns
returns c =
    let F = frames_of c.args.s.now in
    let name = c.args.name.now in
    let all : false ≡ list_any (is_inherited name) (map (inherited_seen F) c.args.walk.now.members)
    = sym c.if-is_inherited.false ∙ c.is_inherited.ensures ∙ ap (λ (xs : List InheritedAt). list_any (inherits_name name) xs) c.as_slice.ensures ∙ inherits_held F name c.args.walk.now.members in
    c.is_attribute.ensures ∙ ap (λ (b : Bool). b || is_attribute (walk_seen F c.args.walk.now).leaf name) all
