use Rattle.mo_connect.proofs.OneList.{distinct, members_are_leaves, one_list}
use Rattle.mo_connect.proofs.SetTheorem.{sets_of_connects}
use Rattle.mo_connect.proofs.joined.joined_sets.Goals as goal

pub push_connects-requires : goal.push_connects-requires
push_connects-requires c = rw c.as_slice.ensures c.requires

pub returns-clause-sets : goal.returns-clause-sets
returns-clause-sets c = λ different.
    let gains = c.in_ok-push_connects.ensures (rw c.as_slice.ensures different) in
    sets_of_connects _ _ _ _ _ _ _ c.as_slice.ensures c.as_slice-3.ensures c.new-made.ensures c.as_slice-2.ensures gains c.in_ok-sets.ensures

pub returns-clause-only : goal.returns-clause-only
returns-clause-only c = λ sound others all. one_list c.args.c.now sound _ others (returns-clause-sets c (distinct c.args.c.now sound)) all

pub returns-clause-members : goal.returns-clause-members
returns-clause-members c = λ different. members_are_leaves c.args.c.now _ (returns-clause-sets c different)
