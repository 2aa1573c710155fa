use Rattle.std.proofs.Common.{◌≤◌, length, ap, arith}
use Rattle.mo_connect.proofs.JoinLemmas.{no_element, connected_at, element_at, element_partners, element_distinct}
use Rattle.mo_connect.proofs.joins.push_element.Goals as goal

pub returns-then-k-rights : goal.returns-then-k-rights
returns-then-k-rights c = λ distinct.
    let same = ap length c.as_slice-rights.ensures in
    let past : length c.args.connect.now.right.elements ≤ c.args.k = omega arith in
    no_element _ _ _ past

pub returns : goal.returns
returns c = λ distinct.
    let there = connected_at _ _ _ _ _ c.requires.is c.requires.within c.as_slice-rights.ensures c.index-rights-k.is c.if-k-rights.false in
    let gains = rw c.as_slice.ensures at c.in_ok-push_leaves.ensures in
    element_at _ _ _ _ _ _ there (gains (element_distinct _ _ _ _ there distinct))

pub push_leaves-requires : goal.push_leaves-requires
push_leaves-requires c =
    let there = connected_at _ _ _ _ _ c.requires.is c.requires.within c.as_slice-rights.ensures c.index-rights-k.is c.if-k-rights.false in
    rw c.as_slice.ensures (element_partners _ _ _ _ there c.requires.connectable)
