use Rattle.std.proofs.Common.{◌≡◌, ◌<◌, length, Option, Some, None, ap, sym, ◌∙◌, rules}
use Rattle.std.specs.Prelude.{slice_get}
use Rattle.mo_eval.specs.Keeping.{IsBindingKept}
use Rattle.mo_eval.specs.declared.reader.KeptBinding.{KeptBinding}
use Rattle.mo_eval.specs.declared.reader.Bound.{Bound}
use Rattle.mo_eval.proofs.Remembered.{each_set, taken}
use Rattle.mo_values.proofs.Splitting.{got}
use Rattle.mo_eval.proofs.kept.take_binding.Goals as goal

pub returns-then-is_same-clause-kept : goal.returns-then-is_same-clause-kept
returns-then-is_same-clause-kept c = λ world kept.
    let items = c.args.reader.now.bindings.items in
    let place = c.in-Some.place.now in
    let old = c.index_mut.result.now in
    let row : KeptBinding = record { member = old.member; left = old.left; bound = c.take.new.self } in
    let small : place < length items = rw c.deref.ensures.value at c.in-Some-get.ensures.lookup.3.0 in
    let one = kept.bindings place old (got items place old small c.index_mut.ensures.value) in
    record {
      values = kept.values;
      conditions = kept.conditions;
      dims = kept.dims;
      bindings = each_set (IsBindingKept world) items place row kept.bindings
          (record { member = one.member; is = λ bound e. absurd (let clash : ◌≡◌ {A = Option Bound} None (Some bound) = sym c.take.ensures.after ∙ e in cc) });
    }

pub returns-then-is_same-clause-is : goal.returns-then-is_same-clause-is
returns-then-is_same-clause-is c = λ world kept member.
    let items = c.args.reader.now.bindings.items in
    let place = c.in-Some.place.now in
    let lookup = c.in-Some-get.ensures.lookup in
    let old = c.index_mut.result.now in
    let row = c.in-Some-get.kept.now in
    let small : place < length items = rw c.deref.ensures.value at lookup.3.0 in
    let at : slice_get items place ≡ Some row = got items place row small (rw c.deref.ensures.value at lookup.1) in
    let one = kept.bindings place row at in
    let both : ◌≡◌ {A = Option KeptBinding} (Some old) (Some row) = sym (got items place old small c.index_mut.ensures.value) ∙ at in
    let same : old ≡ row = cc in
    let left : row.left ≡ c.args.left = search rules in
    taken world c.args.left c.args.member.now row c.take.result one left (c.is_same.ensures (search rules) world one.member member) (c.take.ensures.value ∙ ap (λ (x : KeptBinding). x.bound) same)
