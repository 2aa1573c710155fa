use Rattle.std.proofs.Common.{◌≡◌, length, ap, arith}
use Rattle.mo_connect.proofs.TableLemmas.{whole_table}
use Rattle.mo_connect.proofs.declared.table.Goals as goal

pub tell_all-requires : goal.tell_all-requires
tell_all-requires c =
    let made = c.in_ok-made.ensures in
    rw (c.deref_mut.ensures.value, made.0) (record { none = made.1; joins = c.requires.joins; flows = c.requires.flows })

pub returns : goal.returns
returns c =
    let made = c.in_ok-made.ensures in
    let first = made.0 in
    let same = ap length c.deref_mut.ensures.value in
    let size : length c.deref_mut.result.now ≡ c.args.bound = omega arith in
    let told = rw size at c.tell_all.ensures in
    let whole : length c.tell_all.new.table ≡ c.in_ok-made.made.len = omega (arith, told.length_is) in
    rw (whole_table c.in_ok-made.made.len c.tell_all.new.table _ whole) told
