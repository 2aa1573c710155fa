use Rattle.std.proofs.Common.{◌≡◌, ◌++◌, ◌∷◌, []}
use Rattle.mo_eval.specs.Keeping.{IsValueKept}
use Rattle.mo_eval.specs.declared.reader.KeptValue.{KeptValue}
use Rattle.mo_eval.proofs.Remembered.{each_pushed}
use Rattle.mo_eval.proofs.kept.keep_value.Goals as goal

pub returns-in_err-push : goal.returns-in_err-push
returns-in_err-push c = λ world kept member told.
    let same : c.push.new.self ≡ c.args.reader.now.values = c.in_err-push.ensures.err in
    rw same (record { values = kept.values; conditions = kept.conditions; dims = kept.dims; bindings = kept.bindings })

pub returns : goal.returns
returns c = λ world kept member told.
    let row : KeptValue = record { element = record { member = c.args.element.now.member; index = c.in_ok-index.index; kind = c.args.element.now.kind; place = c.args.element.now.place; constant = c.args.element.now.constant }; height = c.args.left; known = c.args.known } in
    let pushed : c.push.new.self ≡ c.args.reader.now.values ++ row ∷ [] = c.in_ok-push.ensures.ok in
    rw pushed (record { values = each_pushed (IsValueKept world) c.args.reader.now.values row kept.values (record { member = member; is = (rw (c.in_ok-index.ensures, c.as_slice-2.ensures) told) }); conditions = kept.conditions; dims = kept.dims; bindings = kept.bindings })
