use Rattle.std.proofs.Common.{option_map, ap, sym, arith}
use Rattle.mo_scope.specs.Worlds.{frames_of, table_in}
use Rattle.mo_names.specs.Sights.{member_of}
use Rattle.mo_eval.specs.steps.Naming.{names_seen}
use Rattle.mo_eval.specs.steps.Selecting.{member_behind, selection_seen}
use Rattle.mo_eval.proofs.Chosen.{first_of}
use Rattle.mo_eval.proofs.Earlier.{seen_as}
use Rattle.mo_names.proofs.Later.{grows_refl}
use Rattle.mo_eval.proofs.selections.member_behind.Goals as goal

pub returns-in-len1-up-clause-exact : goal.returns-in-len1-up-clause-exact
returns-in-len1-up-clause-exact c = λ f.
    let frames = frames_of c.args.s.now in
    let member = option_map (member_of frames) c.args.member.now in
    let opened = first_of c.args.names.now c.next-item.result (omega (arith, c.in-len1-up.len_at_least)) c.next-item.is in
    seen_as (option_map (member_of (frames_of c.next_behind.new.s))) c.next_behind.result _ _
    (ap (λ names. member_behind (table_in c.args.s.now) member (selection_seen c.args.selection.now) (names_seen f frames names)) (sym opened)) (c.next_behind.ensures.exact f)

pub returns-in-empty-clause-grows : goal.returns-in-empty-clause-grows
returns-in-empty-clause-grows c = grows_refl _
