-- One item after another.
use Rattle.std.proofs.Common.{sym, ◌∙◌}
use Rattle.std.specs.Option.{option_copied}
use Rattle.mo_scope.specs.Rows.{replacing_in}
use Rattle.mo_scope.proofs.Lists.{is_some_copied, first_here, first_later}
use Rattle.mo_scope.proofs.written.replaces.Goals as goal

pub returns-then-is_some : goal.returns-then-is_some
returns-then-is_some c =
    sym (first_here replacing_in c.args.items.now c.loop-item.item-index c.item-item.result c.loop-item-test.true c.item-item.is (option_copied c.replacing.result) c.replacing.ensures
    (is_some_copied c.replacing.result ∙ sym c.if-is_some.ensures))
    ∙ c.loop-item.invariant

pub loop-item-preserved : goal.loop-item-preserved
loop-item-preserved c =
    first_later replacing_in c.args.items.now c.loop-item.item-index c.item-item.result c.loop-item-test.true c.item-item.is (option_copied c.replacing.result) c.replacing.ensures
    (is_some_copied c.replacing.result ∙ sym c.if-is_some.ensures)
    ∙ c.loop-item.invariant
