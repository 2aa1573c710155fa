use Rattle.std.proofs.Common.{None, length, get_or, refl, ap, ◌∙◌, arith, length-append}
use Rattle.mo_connect.proofs.TableLemmas.{none_more}
use Rattle.mo_connect.proofs.declared.empty_table.Goals as goal

pub loop-i-init : goal.loop-i-init
loop-i-init c = rw c.new-made.ensures.items (refl, λ r. refl)

pub loop-i-preserved : goal.loop-i-preserved
loop-i-preserved c =
    let items = c.in_ok-push.ensures.items in
    let size = c.loop-i.invariant.0 in
    (ap length items ∙ length-append c.loop-i.made.items _ ∙ omega arith, λ r. ap (λ l. get_or l r None) items ∙ none_more _ c.loop-i.invariant.1 r)
