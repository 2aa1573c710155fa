-- A component by its type, a class as it is entered.
use Rattle.std.proofs.Common.{sym}
use Rattle.mo_scope.specs.Worlds.{table_in}
use Rattle.mo_scope.specs.Sights.{member_at}
use Rattle.mo_lookup.proofs.Children.{class_gives, component_gives}
use Rattle.mo_names.specs.Children.{child_at}
use Rattle.mo_lookup.proofs.entering.child_of_member.Goals as goal

pub returns-in-Some-clause-value : goal.returns-in-Some-clause-value
returns-in-Some-clause-value c =
    component_gives (child_at c.component_child.new.s) c.component_child.result (table_in c.args.s.now) (member_at c.args.s.now c.args.member.now) c.args.index.now
    c.in-Some.component.now (sym c.in-Some.ensures) c.component_child.ensures.value

pub returns-in-None-clause-value : goal.returns-in-None-clause-value
returns-in-None-clause-value c =
    class_gives (child_at c.class_child.new.s) c.class_child.result (table_in c.args.s.now) (member_at c.args.s.now c.args.member.now) c.args.index.now
    (sym c.in-None.ensures) c.class_child.ensures.value
