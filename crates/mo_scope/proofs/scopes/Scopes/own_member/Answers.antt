-- The first of the own elements of that name, as a member.
use Rattle.std.proofs.Common.{None, Some, ap, sym, ◌∙◌}
use Rattle.std.specs.Prelude.{option_map}
use Rattle.mo_scope.specs.OwnNames.{first_at}
use Rattle.mo_scope.specs.Rows.{table_of}
use Rattle.mo_scope.specs.Sights.{declares_seen}
use Rattle.mo_scope.specs.Worlds.{frame_at, table_in}
use Rattle.mo_scope.proofs.OwnNaming.{class_exists, first_held, member_found}
use Rattle.mo_scope.proofs.RowsFound.{predefined}
use Rattle.mo_scope.proofs.scopes.Scopes.own_member.Goals as goal

pub first_own-requires : goal.first_own-requires
first_own-requires c = c.self.invariant.classes.owns

pub returns-then-class-lt6-clause-is : goal.returns-then-class-lt6-clause-is
returns-then-class-lt6-clause-is c = member_found (table_in c.args.self.now) (frame_at c.args.self.now c.args.frame.0) c.class_of-class.result.0 c.args.name.now None c.class_of-class.ensures.is
    (ap (first_at c.args.name.now) (sym (predefined c.args.self.now.files c.class_of-class.result.0 c.if-class-lt6.true)))

pub returns-in-Some-clause-is : goal.returns-in-Some-clause-is
returns-in-Some-clause-is c = member_found (table_in c.args.self.now) (frame_at c.args.self.now c.args.frame.0) c.class_of-class.result.0 c.args.name.now (Some (c.in-Some.first.0, declares_seen c.in-Some.first.1))
    c.class_of-class.ensures.is (ap (option_map (λ found. (found.0, declares_seen found.1))) (sym c.in-Some.is) ∙ first_held c.args.self.now.files c.self.inside.classes.rows c.class_of-class.result.0 c.args.name.now _ c.first_own.ensures
    (c.self.invariant.classes.rows ∙ ap (λ w. table_of w.files) c.self.view_is) c.if-class-lt6.false)

pub returns-in-Some-clause-class : goal.returns-in-Some-clause-class
returns-in-Some-clause-class c = class_exists c.args.self.now.files c.class_of-class.result.0 c.args.name.now (c.in-Some.first.0, declares_seen c.in-Some.first.1)
    (ap (option_map (λ found. (found.0, declares_seen found.1))) (sym c.in-Some.is) ∙ first_held c.args.self.now.files c.self.inside.classes.rows c.class_of-class.result.0 c.args.name.now _ c.first_own.ensures
    (c.self.invariant.classes.rows ∙ ap (λ w. table_of w.files) c.self.view_is) c.if-class-lt6.false)

pub returns-in-None-clause-is : goal.returns-in-None-clause-is
returns-in-None-clause-is c = member_found (table_in c.args.self.now) (frame_at c.args.self.now c.args.frame.0) c.class_of-class.result.0 c.args.name.now None
    c.class_of-class.ensures.is (ap (option_map (λ found. (found.0, declares_seen found.1))) (sym c.in-None.is) ∙ first_held c.args.self.now.files c.self.inside.classes.rows c.class_of-class.result.0 c.args.name.now _ c.first_own.ensures
    (c.self.invariant.classes.rows ∙ ap (λ w. table_of w.files) c.self.view_is) c.if-class-lt6.false)
