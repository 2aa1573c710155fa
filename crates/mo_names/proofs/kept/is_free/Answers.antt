-- All classes are left, and none is having its bases found.
use Rattle.std.proofs.Common.{◌≡◌, length, arith}
use Rattle.std.proofs.lemmas.Bool.Decides.{nat_tests}
use Rattle.mo_scope.specs.Rows.{number_of_classes}
use Rattle.mo_scope.specs.Worlds.{table_in}
use Rattle.mo_names.proofs.Tables.{asks_free}
use Rattle.mo_names.proofs.kept.is_free.Goals as goal

pub returns : goal.returns
returns c = λ is.
    let all : c.args.ask.now.left ≡ number_of_classes (table_in c.args.s.now) = omega (arith, c.class_count.ensures) in
    let none : length c.args.ask.now.busy.now ≡ 0 = grind (arith, nat_tests, is, c.is_empty.ensures) in
    asks_free (table_in c.args.s.now) c.args.ask.now.left c.args.ask.now.busy.now all none
