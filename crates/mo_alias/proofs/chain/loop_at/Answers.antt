use Rattle.std.proofs.Common.{length, refl}
use Rattle.mo_alias.proofs.Looping.{both_ok, loop_is, loop_open}
use Rattle.mo_alias.proofs.chain.loop_at.Goals as goal

pub put_chain-requires-clause-joined : goal.put_chain-requires-clause-joined
put_chain-requires-clause-joined c =
    loop_open c.args._said.now c.args.trees.now (length c.args._said.now) c.requires.forest c.args.at c.requires.at c.args.alias c.requires.alias c.requires.contradicts c.requires.within

pub returns : goal.returns
returns c =
    both_ok c.listed.result
    (λ made ascending members. loop_is c.args._said.now c.args.trees.now (length c.args._said.now) c.requires.forest c.args.at c.requires.at c.args.alias c.requires.alias c.requires.contradicts
    c.new-equations.result c.insert.new.self c.put_chain.new.equations made c.in_ok-number.field-0 c.new-equations.ensures.empty c.in_ok-number.ensures c.in_ok-insert.ensures.updates c.in_ok-put_chain.ensures
    ascending members refl)
    c.listed.ensures.ascending c.listed.ensures.members
