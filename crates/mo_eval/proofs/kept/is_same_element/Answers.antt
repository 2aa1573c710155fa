use Rattle.std.proofs.Common.{◌≡◌, rules}
use Rattle.mo_scope.specs.Worlds.{frames_of, table_in}
use Rattle.mo_names.specs.Sights.{member_of}
use Rattle.mo_eval.proofs.Remembered.{value_same}
use Rattle.mo_eval.proofs.kept.is_same_element.Goals as goal

pub returns : goal.returns
returns c = λ yes world is also left known told.
    let a = c.args.a.now in
    let b = c.args.b.now in
    let same : member_of (frames_of world) a.member ≡ member_of (frames_of world) b.member = c.is_same.ensures (search rules) world is also in
    let indices : a.index ≡ b.index = search rules in
    let kinds : a.kind ≡ b.kind = search rules in
    let constants : a.constant ≡ b.constant = search rules in
    value_same (table_in world) left (member_of (frames_of world) a.member) (member_of (frames_of world) b.member) a.index b.index a.kind b.kind a.constant b.constant a.place b.place known same indices kinds constants told
