use Rattle.std.proofs.Common.{◌≡◌, ◌*◌, length, ap, arith}
use Rattle.mo_connect.proofs.LabelLemmas.{whole_front}
use Rattle.mo_connect.proofs.labels.labels.Goals as goal

pub label_all-requires : goal.label_all-requires
label_all-requires c =
    let made = c.in_ok-parent.ensures in
    let size = made.0 in
    rw c.deref_mut.ensures.value (record { each = λ i less. made.1 i (omega arith); small = (c.args.bound, c.requires.below, omega arith) })

pub returns : goal.returns
returns c =
    let made = c.in_ok-parent.ensures in
    let first = made.0 in
    let same = ap length c.deref_mut.ensures.value in
    let size : length c.deref_mut.result.now ≡ 2 * c.args.bound = omega arith in
    let labels = rw size at c.label_all.ensures in
    let whole : length c.label_all.new.parent ≡ c.in_ok-parent.parent.len = omega (arith, labels.length_is) in
    rw (whole_front c.in_ok-parent.parent.len c.label_all.new.parent _ whole) labels
