use Rattle.std.proofs.Common.{◌≡◌, ◌++◌, ◌∷◌, []}
use Rattle.mo_eval.specs.Keeping.{IsThereKept}
use Rattle.mo_eval.specs.declared.reader.KeptThere.{KeptThere}
use Rattle.mo_eval.proofs.Remembered.{each_pushed}
use Rattle.mo_eval.proofs.kept.keep_there.Goals as goal

pub returns-in_err-push : goal.returns-in_err-push
returns-in_err-push c = λ world kept member told.
    let same : c.push.new.self ≡ c.args.reader.now.conditions = c.in_err-push.ensures.err in
    rw same (record { values = kept.values; conditions = kept.conditions; dims = kept.dims; bindings = kept.bindings })

pub returns : goal.returns
returns c = λ world kept member told.
    let row : KeptThere = record { member = c.args.member.now; left = c.args.left; there = c.args.there } in
    let pushed : c.push.new.self ≡ c.args.reader.now.conditions ++ row ∷ [] = c.in_ok-push.ensures.ok in
    rw pushed (record { values = kept.values; conditions = each_pushed (IsThereKept world) c.args.reader.now.conditions row kept.conditions (record { member = member; is = told }); dims = kept.dims; bindings = kept.bindings })
