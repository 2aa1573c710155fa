use Rattle.std.proofs.Common.{◌≡◌, ◌-◌, ◌∙◌, [], get_or, arith}
use Rattle.std.proofs.lemmas.Map.Text.{hash_map_updates_str}
use Rattle.mo_verify.proofs.Numbering.{at_default, one_more}
use Rattle.mo_verify.proofs.numbers.Numbers.of.Goals as goal

pub loop-at-preserved : goal.loop-at-preserved
loop-at-preserved c = λ name.
    let key : c.as_bytes.result.now ≡ get_or c.args.names.now (c.loop-at.at - 1) [] =
    c.as_bytes.ensures.value ∙ (c.as_str.ensures ∙ at_default c.args.names.now (c.loop-at.at - 1) c.index-names-at.result c.index-names-at.is (omega arith)) in
    one_more c.args.names.now (c.loop-at.at - 1) c.loop-at.at name c.as_bytes.result.now _ _ (omega arith) (omega arith) key (c.loop-at.invariant name)
    (hash_map_updates_str c.as_bytes.result.now c.loop-at.numbers c.insert.new.self _ c.in_ok-insert.ensures.updates name)
