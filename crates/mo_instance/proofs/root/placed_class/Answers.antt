-- One class after another.
use Rattle.std.proofs.Common.{ap, sym, ◌∙◌, arith}
use Rattle.std.specs.Prelude.{find, option_map}
use Rattle.std.proofs.lemmas.List.{drop_all}
use Rattle.mo_syntax.specs.declared.meaning.ClassId.{ClassId}
use Rattle.mo_scope.specs.Rows.{Row, Table}
use Rattle.mo_scope.specs.Worlds.{table_in}
use Rattle.mo_instance.specs.Instances.{is_placed}
use Rattle.mo_instance.specs.steps.Roots.{names_seen}
use Rattle.mo_instance.proofs.Rooting.{number_found, number_next}
use Rattle.mo_instance.proofs.root.placed_class.Goals as goal

pub returns-in-Some-clause-is : goal.returns-in-Some-clause-is
returns-in-Some-clause-is c =
    number_found (is_placed (names_seen c.args.before.now) c.args.name.now) (table_in c.args.s.now) c.loop-at.at c.in-Some.class.0 _ (ap (option_map (λ (class : ClassId). class.0)) (sym c.in-Some.is) ∙ c.in_ok-found.ensures.is) c.loop-at.invariant

pub loop-at-preserved : goal.loop-at-preserved
loop-at-preserved c =
    number_next (is_placed (names_seen c.args.before.now) c.args.name.now) (table_in c.args.s.now) c.loop-at.at _ (ap (option_map (λ (class : ClassId). class.0)) (sym c.in-None.is) ∙ c.in_ok-found.ensures.is) c.loop-at.invariant

pub returns-clause-is : goal.returns-clause-is
returns-clause-is c =
    ap (λ (xs : Table). option_map (λ (row : Row). row.number) (find (is_placed (names_seen c.args.before.now) c.args.name.now) xs)) (sym (drop_all c.loop-at.at (table_in c.args.s.now) (omega (arith, c.class_count-at-end.ensures))))
    ∙ c.loop-at.invariant
