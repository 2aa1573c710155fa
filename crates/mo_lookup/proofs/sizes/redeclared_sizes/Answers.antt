use Rattle.std.proofs.Common.{refl}
use Rattle.mo_lookup.proofs.sizes.redeclared_sizes.Goals as goal

pub returns-in-None-clause-exact : goal.returns-in-None-clause-exact
returns-in-None-clause-exact c = λ frames. rw (c.in-None.is, c.new-made.ensures) refl

pub returns-in_ok-put_declared-in-Some-clause-there : goal.returns-in_ok-put_declared-in-Some-clause-there
returns-in_ok-put_declared-in-Some-clause-there c = λ world is. c.in_ok-put_declared-in-Some.ensures.there world (rw c.in-Some.is at is) (rw c.new-made.ensures tt)

pub returns-in_ok-put_declared-in-Some-clause-exact : goal.returns-in_ok-put_declared-in-Some-clause-exact
returns-in_ok-put_declared-in-Some-clause-exact c = λ frames. rw c.in-Some.is (rw c.new-made.ensures at (c.in_ok-put_declared-in-Some.ensures.exact frames))
