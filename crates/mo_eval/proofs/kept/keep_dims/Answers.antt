use Rattle.std.proofs.Common.{◌≡◌, ◌++◌, ◌∷◌, []}
use Rattle.mo_eval.specs.Keeping.{AreDimsKept}
use Rattle.mo_eval.specs.declared.reader.KeptDims.{KeptDims}
use Rattle.mo_eval.proofs.Remembered.{each_pushed}
use Rattle.mo_eval.proofs.kept.keep_dims.Goals as goal

pub returns-in_err-push : goal.returns-in_err-push
returns-in_err-push c = λ world kept member told.
    let same : c.push.new.self ≡ c.args.reader.now.dims = c.in_err-push.ensures.err in
    rw same (record { values = kept.values; conditions = kept.conditions; dims = kept.dims; bindings = kept.bindings })

pub returns : goal.returns
returns c = λ world kept member told.
    let row : KeptDims = record { member = c.args.member.now; left = c.args.left; dims = c.in_ok-dims.dims } in
    let pushed : c.push.new.self ≡ c.args.reader.now.dims ++ row ∷ [] = c.in_ok-push.ensures.ok in
    rw pushed (record { values = kept.values; conditions = kept.conditions; dims = each_pushed (AreDimsKept world) c.args.reader.now.dims row kept.dims (record { member = member; are = (rw c.in_ok-dims.ensures told) }); bindings = kept.bindings })
