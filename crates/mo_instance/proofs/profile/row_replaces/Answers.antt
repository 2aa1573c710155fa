-- Elements with `redeclare` replace what the bases have.
use Rattle.std.proofs.Common.{List, flat_map, map, ap, sym, ◌∙◌}
use Rattle.std.specs.List.{list_any}
use Rattle.mo_scope.specs.declared.row.Part.{Part as PartAt}
use Rattle.mo_scope.specs.Rows.{replacing_in}
use Rattle.mo_scope.specs.Sights.{part_seen}
use Rattle.mo_instance.specs.steps.Firsts.{part_is_base}
use Rattle.mo_instance.proofs.Firsts.{first_breaks, none_replaced, some_bases}
use Rattle.mo_instance.proofs.profile.row_replaces.Goals as goal

pub returns-then-has_bases : goal.returns-then-has_bases
returns-then-has_bases c = λ table.
    some_bases table (map part_seen c.args.row.now.parts) (flat_map replacing_in c.args.row.now.replacing.now)
    (sym (ap (λ (xs : List PartAt). list_any part_is_base (map part_seen xs)) c.as_slice.ensures) ∙ sym c.has_bases.ensures ∙ c.if-has_bases.true)

pub returns-in-Some : goal.returns-in-Some
returns-in-Some c = λ table.
    rw c.stop.ensures
    (first_breaks table (map part_seen c.args.row.now.parts) (flat_map replacing_in c.args.row.now.replacing.now) c.in-Some.place
    (sym (ap (λ (xs : List PartAt). list_any part_is_base (map part_seen xs)) c.as_slice.ensures) ∙ sym c.has_bases.ensures ∙ c.if-has_bases.false)
    (c.in-Some.ensures table))

pub returns-in-None : goal.returns-in-None
returns-in-None c = λ table.
    none_replaced table (map part_seen c.args.row.now.parts) (flat_map replacing_in c.args.row.now.replacing.now)
    (sym (ap (λ (xs : List PartAt). list_any part_is_base (map part_seen xs)) c.as_slice.ensures) ∙ sym c.has_bases.ensures ∙ c.if-has_bases.false)
    (c.in-None.ensures table)
