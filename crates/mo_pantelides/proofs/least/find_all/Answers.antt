use Rattle.std.proofs.Common.{◌∙◌, ap, length, arith}
use Rattle.mo_match.proofs.Written.{written_back}
use Rattle.mo_pantelides.proofs.Starting.{cost_both}
use Rattle.mo_pantelides.proofs.least.find_all.Goals as goal

pub fix_all-requires-clause-sizes : goal.fix_all-requires-clause-sizes
fix_all-requires-clause-sizes g c =
    let c_is = written_back c.args.offsets.now.c.len c.find_offsets.new.c c.args.offsets.now.c.items (c.find_offsets.auto.c ∙ ap length c.deref_mut.ensures.value) (omega arith) in
    let d_is = written_back c.args.offsets.now.d.len c.find_offsets.new.d c.args.offsets.now.d.items (c.find_offsets.auto.d ∙ ap length c.deref_mut-2.ensures.value) (omega arith) in
    rw (c.deref.ensures.value, c.deref-2.ensures.value, c_is, d_is) (
      c.find_offsets.auto.c ∙ ap length c.deref_mut.ensures.value ∙ c.requires.sizes.0.0,
      c.find_offsets.auto.d ∙ ap length c.deref_mut-2.ensures.value ∙ c.requires.sizes.0.1,
      c.requires.sizes.1,
      ap length c.deref_mut-3.ensures.value ∙ c.requires.sizes.0.2,
    )

pub fix_all-requires-clause-open : goal.fix_all-requires-clause-open
fix_all-requires-clause-open g c =
    let c_is = written_back c.args.offsets.now.c.len c.find_offsets.new.c c.args.offsets.now.c.items (c.find_offsets.auto.c ∙ ap length c.deref_mut.ensures.value) (omega arith) in
    rw (c.deref.ensures.value, c_is) c.find_offsets.ensures.open

pub fix_all-requires-clause-matching : goal.fix_all-requires-clause-matching
fix_all-requires-clause-matching g c =
    let c_is = written_back c.args.offsets.now.c.len c.find_offsets.new.c c.args.offsets.now.c.items (c.find_offsets.auto.c ∙ ap length c.deref_mut.ensures.value) (omega arith) in
    let d_is = written_back c.args.offsets.now.d.len c.find_offsets.new.d c.args.offsets.now.d.items (c.find_offsets.auto.d ∙ ap length c.deref_mut-2.ensures.value) (omega arith) in
    rw (c.deref.ensures.value, c.deref-2.ensures.value, c_is, d_is) c.find_offsets.ensures.matching

pub fix_all-requires-clause-tree : goal.fix_all-requires-clause-tree
fix_all-requires-clause-tree g c =
    let c_is = written_back c.args.offsets.now.c.len c.find_offsets.new.c c.args.offsets.now.c.items (c.find_offsets.auto.c ∙ ap length c.deref_mut.ensures.value) (omega arith) in
    let d_is = written_back c.args.offsets.now.d.len c.find_offsets.new.d c.args.offsets.now.d.items (c.find_offsets.auto.d ∙ ap length c.deref_mut-2.ensures.value) (omega arith) in
    rw (c.deref.ensures.value, c.deref-2.ensures.value, c_is, d_is) c.find_offsets.ensures.tree

pub returns-clause-least : goal.returns-clause-least
returns-clause-least g c =
    let c_is = written_back c.args.offsets.now.c.len c.find_offsets.new.c c.args.offsets.now.c.items (c.find_offsets.auto.c ∙ ap length c.deref_mut.ensures.value) (omega arith) in
    let d_is = written_back c.args.offsets.now.d.len c.find_offsets.new.d c.args.offsets.now.d.items (c.find_offsets.auto.d ∙ ap length c.deref_mut-2.ensures.value) (omega arith) in
    rw (c_is, d_is) c.find_offsets.ensures.least

pub returns-clause-tight : goal.returns-clause-tight
returns-clause-tight g c =
    let c_is = written_back c.args.offsets.now.c.len c.find_offsets.new.c c.args.offsets.now.c.items (c.find_offsets.auto.c ∙ ap length c.deref_mut.ensures.value) (omega arith) in
    let d_is = written_back c.args.offsets.now.d.len c.find_offsets.new.d c.args.offsets.now.d.items (c.find_offsets.auto.d ∙ ap length c.deref_mut-2.ensures.value) (omega arith) in
    let p_is = written_back c.args.offsets.now.pairs.len c.fix_all.new.fixed c.args.offsets.now.pairs.items (c.fix_all.auto.fixed ∙ ap length c.deref_mut-3.ensures.value) (omega arith) in
    rw (c_is, d_is, p_is) (rw (c.deref.ensures.value, c.deref-2.ensures.value, c_is, d_is) at c.fix_all.ensures.tight)

pub returns-clause-all : goal.returns-clause-all
returns-clause-all g c =
    let p_is = written_back c.args.offsets.now.pairs.len c.fix_all.new.fixed c.args.offsets.now.pairs.items (c.fix_all.auto.fixed ∙ ap length c.deref_mut-3.ensures.value) (omega arith) in
    rw p_is c.fix_all.ensures.all

pub returns-clause-sequence : goal.returns-clause-sequence
returns-clause-sequence g c =
    let c_is = written_back c.args.offsets.now.c.len c.find_offsets.new.c c.args.offsets.now.c.items (c.find_offsets.auto.c ∙ ap length c.deref_mut.ensures.value) (omega arith) in
    let d_is = written_back c.args.offsets.now.d.len c.find_offsets.new.d c.args.offsets.now.d.items (c.find_offsets.auto.d ∙ ap length c.deref_mut-2.ensures.value) (omega arith) in
    let p_is = written_back c.args.offsets.now.pairs.len c.fix_all.new.fixed c.args.offsets.now.pairs.items (c.fix_all.auto.fixed ∙ ap length c.deref_mut-3.ensures.value) (omega arith) in
    rw (c_is, d_is, p_is) (rw (c.deref.ensures.value, c.deref-2.ensures.value, c_is, d_is) at c.fix_all.ensures.least)

pub returns-clause-pairs : goal.returns-clause-pairs
returns-clause-pairs g c = c.copy_from_slice.ensures.items ∙ c.deref-3.ensures.value

pub returns-clause-sizes : goal.returns-clause-sizes
returns-clause-sizes g c =
    let c_is = written_back c.args.offsets.now.c.len c.find_offsets.new.c c.args.offsets.now.c.items (c.find_offsets.auto.c ∙ ap length c.deref_mut.ensures.value) (omega arith) in
    let d_is = written_back c.args.offsets.now.d.len c.find_offsets.new.d c.args.offsets.now.d.items (c.find_offsets.auto.d ∙ ap length c.deref_mut-2.ensures.value) (omega arith) in
    let p_is = written_back c.args.offsets.now.pairs.len c.fix_all.new.fixed c.args.offsets.now.pairs.items (c.fix_all.auto.fixed ∙ ap length c.deref_mut-3.ensures.value) (omega arith) in
    rw (c_is, d_is, p_is) (
      c.find_offsets.auto.c ∙ ap length c.deref_mut.ensures.value ∙ c.requires.sizes.0.0,
      c.find_offsets.auto.d ∙ ap length c.deref_mut-2.ensures.value ∙ c.requires.sizes.0.1,
      c.fix_all.auto.fixed ∙ ap length c.deref_mut-3.ensures.value ∙ c.requires.sizes.0.2,
    )

pub returns-clause-cost : goal.returns-clause-cost
returns-clause-cost g c = λ h bound. cost_both _ _ _ _ _ _ (c.find_offsets.ensures.cost h bound) c.fix_all.ensures.cost
