use Rattle.std.proofs.Common.{◌≡◌, [], Err, Ok, ap, sym, ◌∙◌, rules}
use Rattle.mo_scope.specs.Frames.{Member}
use Rattle.mo_scope.specs.Names.{child_of_member}
use Rattle.mo_scope.specs.Worlds.{frames_of, table_in}
use Rattle.mo_names.specs.Children.{child_seen}
use Rattle.mo_names.specs.Sights.{member_of}
use Rattle.mo_names.proofs.Later.{is_member_later, member_later, table_later}
use Rattle.mo_lookup.specs.Sizing.{sizes_of_child, sizes_seen}
use Rattle.mo_lookup.proofs.Written.{child_halts}
use Rattle.mo_lookup.proofs.sizes.all_sizes.Goals as goal

pub returns-in_err-child-clause-exact : goal.returns-in_err-child-clause-exact
returns-in_err-child-clause-exact c =
    let mid = c.child_of_member.new.s in
    let stop = c.in_err-child.field-0.0 in
    let p : c.from_residual.result ≡ Err stop = search rules in
    rw p (child_halts (child_seen (frames_of mid)) (sizes_seen (frames_of mid)) stop (child_of_member (table_in c.args.s.now) (member_of (frames_of c.args.s.now) c.args.member.now) []) _ c.in_err-child.ensures.value)

pub sizes_of-requires-clause-member : goal.sizes_of-requires-clause-member
sizes_of-requires-clause-member c = is_member_later c.args.s.now c.child_of_member.new.s c.args.member.now c.in_ok-child.ensures.grows c.requires.member

pub returns-clause-exact : goal.returns-clause-exact
returns-clause-exact c =
    let s = c.args.s.now in
    let mid = c.child_of_member.new.s in
    let child = child_seen (frames_of mid) c.in_ok-child.child in
    rw c.in_ok-child.ensures.value
    (ap Ok (sym (c.in_ok-made.ensures.exact
    ∙ (ap (λ (m : Member). sizes_of_child (table_in mid) m child) (member_later s mid c.args.member.now c.in_ok-child.ensures.grows c.requires.member)
    ∙ ap (λ t. sizes_of_child t (member_of (frames_of s) c.args.member.now) child) (table_later s mid c.in_ok-child.ensures.grows)))))
