-- What is answered of the calls of dimensions.rt.
use Rattle.mo_eval.proofs.Bindings.{picked_exists}
use Rattle.mo_eval.proofs.Calling.{seen_halts}
use Rattle.mo_eval.proofs.Earlier.{every_at}
use Rattle.mo_eval.proofs.Growing.{gives_as, same_elements}
use Rattle.mo_eval.proofs.Grown.{dims_still, kept_still}
use Rattle.mo_eval.proofs.Measuring.{binding_halts, component_by, dim_earlier, dim_more, dim_stops, dims_as, dims_bound, dims_done, no_binding, sizes_done, sizes_more, sizes_stop}
use Rattle.mo_eval.proofs.Naming.{goes_halt}
use Rattle.mo_eval.specs.Components.{binding_dims, each_dim, place_of}
use Rattle.mo_eval.specs.Contexts.{whole_of}
use Rattle.mo_eval.specs.Seen.{resolved_seen}
use Rattle.mo_eval.specs.steps.Sites.{elements_in}
use Rattle.mo_eval.specs.Values.{component_dims, reading}
use Rattle.mo_eval.specs.declared.dimensions.Measured.{Measured}
use Rattle.mo_eval.specs.steps.Measuring.{bound_in as bound_in_of_measuring, dims_more, dims_of_binding}
use Rattle.mo_lookup.specs.Sizing.{all_sizes, sizes_seen}
use Rattle.mo_names.proofs.Later.{grows_refl, grows_trans, is_member_later, table_later, is_frame_later}
use Rattle.mo_names.specs.Children.{child_seen}
use Rattle.mo_names.specs.Sights.{member_of}
use Rattle.mo_names.specs.declared.found.Child.{Child as ChildAt}
use Rattle.mo_scope.specs.Parts.{Picked, picked_here}
use Rattle.mo_scope.specs.Sights.{picked_in, source_seen}
use Rattle.mo_scope.specs.Sizes.{count_sizes}
use Rattle.mo_scope.specs.Worlds.{frames_of, scope_in, table_in, IsFrame}
use Rattle.std.proofs.Common.{Err, List, None, Ok, Some, [], ap, arith, drop, map, refl, rules, subst, sym, ℕ, ◌++◌, ◌+◌, ◌∙◌, ◌∷◌, ◌≡◌}
use Rattle.mo_lookup.specs.declared.sizes.Sizes.{Sizes as SizesAt}
use Rattle.mo_eval.proofs.+resolving.Goals as goal

pub written_dim-returns-clause-exact : goal.dimensions::written_dim-returns-clause-exact
written_dim-returns-clause-exact t c =
    let mid = c.alone.new.s in
    let left = c.args.left in
    let asked = resolved_seen (frames_of mid) c.in_ok-resolved.resolved in
    let same = same_elements c.args.s.now mid left c.alone.ensures.grows in
    let place = place_of c.args.e.now in
    rw (rw c.for_value.ensures at c.in_ok-resolved.ensures.exact)
    (c.dimension_of.ensures (whole_of (elements_in c.args.s.now left) place asked)
    (gives_as c.whole_of.result (whole_of (elements_in mid left) place asked) (whole_of (elements_in c.args.s.now left) place asked) (ap (λ read. whole_of read place asked) same) c.whole_of.ensures.exact))

pub dims_in-returns-clause-exact : goal.dimensions::dims_in-returns-clause-exact
dims_in-returns-clause-exact t c = rw (rw c.for_value.ensures at c.in_ok-resolved.ensures.exact) c.bound_dims.ensures

pub binding_dims-returns-in_err-child-clause-exact : goal.dimensions::binding_dims-returns-in_err-child-clause-exact
binding_dims-returns-in_err-child-clause-exact t c =
    let stop = c.in_err-child.field-0.0 in
    let table = table_in c.args.s.now in
    let of = c.args.of.now in
    let p : c.from_residual.result ≡ Err stop = search rules in
    rw p (binding_halts table (reading table of.left) (member_of (frames_of c.args.s.now) of.member.now) of.count {T = ChildAt} (child_seen (frames_of c.child_of_member.new.s)) stop c.in_err-child.ensures.value)

pub binding_dims-returns-in_err-child-clause-kept : goal.dimensions::binding_dims-returns-in_err-child-clause-kept
binding_dims-returns-in_err-child-clause-kept t c = kept_still _ _ c.child_of_member.ensures.grows _ c.requires.kept

pub binding_dims-returns-in-None-clause-exact : goal.dimensions::binding_dims-returns-in-None-clause-exact
binding_dims-returns-in-None-clause-exact t c =
    let table = table_in c.args.s.now in
    let of = c.args.of.now in
    let mid = c.child_of_member.new.s in
    let child = child_seen (frames_of mid) c.in_ok-child.child in
    let none : picked_here child.sources ≡ None = sym (rw c.as_slice.ensures at (c.in-None.ensures (frames_of mid))) in
    no_binding table (reading table of.left) (member_of (frames_of c.args.s.now) of.member.now) of.count child c.in_ok-child.ensures.value none ∙ ap Err (sym (search rules))

pub binding_dims-returns-in-None-clause-kept : goal.dimensions::binding_dims-returns-in-None-clause-kept
binding_dims-returns-in-None-clause-kept t c = kept_still _ _ c.child_of_member.ensures.grows _ c.requires.kept

pub binding_dims-dims_in-requires : goal.dimensions::binding_dims-dims_in-requires
binding_dims-dims_in-requires t c =
    let mid = c.child_of_member.new.s in
    (search rules, (picked_exists mid (map source_seen c.in_ok-child.child.sources) c.in-Some.picked c.in_ok-child.ensures.stand.sources (rw c.as_slice.ensures at (c.in-Some.ensures (frames_of mid))), kept_still _ _ c.child_of_member.ensures.grows _ c.requires.kept))

pub binding_dims-returns-clause-exact : goal.dimensions::binding_dims-returns-clause-exact
binding_dims-returns-clause-exact t c =
    let table = table_in c.args.s.now in
    let of = c.args.of.now in
    let mid = c.child_of_member.new.s in
    let child = child_seen (frames_of mid) c.in_ok-child.child in
    let picked : Picked = picked_in (frames_of mid) c.in-Some.picked in
    let some : picked_here child.sources ≡ Some picked = sym (rw c.as_slice.ensures at (c.in-Some.ensures (frames_of mid))) in
    gives_as c.dims_in.result _ _
    (ap (λ t. dims_of_binding t (reading t of.left) of.count picked) (table_later c.args.s.now mid c.child_of_member.ensures.grows)
    ∙ sym (dims_bound table (reading table of.left) (member_of (frames_of c.args.s.now) of.member.now) of.count child picked c.in_ok-child.ensures.value some))
    c.dims_in.ensures.exact

pub put_dims-loop-sub-init : goal.dimensions::put_dims-loop-sub-init
put_dims-loop-sub-init t c = record { grows = grows_refl c.args.s.now; is = λ others. refl; kept = c.requires.kept }

pub put_dims-returns-in_err-n-clause-exact : goal.dimensions::put_dims-returns-in_err-n-clause-exact
put_dims-returns-in_err-n-clause-exact t c = λ others.
    let s = c.args.s.now in
    let of = c.args.of.now in
    let T = table_in s in
    let at = c.args.sizes.now.scope in
    let scope = scope_in (frames_of s) at.frame.0 at.iters in
    let subs = c.args.sizes.now.subscripts.now in
    let i = c.loop-sub.sub-index in
    let sub = c.sub-item.result in
    let stop = c.in_err-n.field-0.0 in
    let same = dim_earlier s c.loop-sub.s c.loop-sub.invariant.grows of c.requires.member at.frame.0 at.iters c.requires.frame c.len.result sub in
    let p : c.from_residual.result ≡ Err stop = search rules in
    rw p (goes_halt stop _ _ (dim_stops T (reading T of.left) (bound_in_of_measuring s of) scope subs c.loop-sub.made i _ c.loop-sub.invariant.is sub stop c.loop-sub-test.true c.sub-item.is (rw c.len.ensures at (gives_as (Err stop) _ _ same c.in_err-n.ensures.exact)) others))

pub put_dims-loop-sub-preserved : goal.dimensions::put_dims-loop-sub-preserved
put_dims-loop-sub-preserved t c =
    let s = c.args.s.now in
    let of = c.args.of.now in
    let T = table_in s in
    let at = c.args.sizes.now.scope in
    let scope = scope_in (frames_of s) at.frame.0 at.iters in
    let subs = c.args.sizes.now.subscripts.now in
    let i = c.loop-sub.sub-index in
    let sub = c.sub-item.result in
    let same = dim_earlier s c.loop-sub.s c.loop-sub.invariant.grows of c.requires.member at.frame.0 at.iters c.requires.frame c.len.result sub in
    let pushed : c.push.new.self ≡ c.loop-sub.made ++ c.in_ok-n.n ∷ [] = search rules in
    record {
      grows = grows_trans s c.loop-sub.s c.dim_at.new.s c.loop-sub.invariant.grows c.in_ok-n.ensures.grows;
      is = rw pushed (dim_more T (reading T of.left) (bound_in_of_measuring s of) scope subs c.loop-sub.made i _ c.loop-sub.invariant.is sub c.in_ok-n.n c.loop-sub-test.true c.sub-item.is (rw c.len.ensures at (sym same ∙ c.in_ok-n.ensures.exact)));
      kept = c.dim_at.ensures.kept;
    }

pub put_dims-returns-clause-exact : goal.dimensions::put_dims-returns-clause-exact
put_dims-returns-clause-exact t c = λ others.
    let s = c.args.s.now in
    let of = c.args.of.now in
    let T = table_in s in
    let at = c.args.sizes.now.scope in
    let scope = scope_in (frames_of s) at.frame.0 at.iters in
    sym (dims_done T (reading T of.left) (bound_in_of_measuring s of) scope c.args.sizes.now.subscripts.now c.loop-sub.made c.loop-sub.sub-index _ c.loop-sub.invariant.is (omega arith) others)

pub all_dims-loop-one-init : goal.dimensions::all_dims-loop-one-init
all_dims-loop-one-init t c = record { grows = grows_refl c.args.s.now; is = rw c.new-made.ensures refl; kept = c.requires.kept }

pub all_dims-returns-in_err-put_dims-clause-exact : goal.dimensions::all_dims-returns-in_err-put_dims-clause-exact
all_dims-returns-in_err-put_dims-clause-exact t c =
    let s = c.args.s.now in
    let now = c.loop-one.s in
    let i = c.loop-one.one-index in
    let sizes = c.args.sizes.now in
    let others = each_dim (sizes_seen (frames_of s) (drop (i + 1) sizes)) in
    let stop = c.in_err-put_dims.field-0.0 in
    let p : c.from_residual.result ≡ Err stop = search rules in
    rw p (sizes_stop s now c.loop-one.invariant.grows c.args.of.now c.requires.member sizes c.requires.there c.loop-one.made i c.one-item.result _ c.loop-one-test.true c.one-item.is c.loop-one.invariant.is stop _ (c.in_err-put_dims.ensures.exact others))

pub all_dims-loop-one-preserved : goal.dimensions::all_dims-loop-one-preserved
all_dims-loop-one-preserved t c =
    let s = c.args.s.now in
    let now = c.loop-one.s in
    let i = c.loop-one.one-index in
    let sizes = c.args.sizes.now in
    let others = each_dim (sizes_seen (frames_of s) (drop (i + 1) sizes)) in
    record {
      grows = grows_trans s now c.put_dims.new.s c.loop-one.invariant.grows c.in_ok-put_dims.ensures.grows;
      is = sizes_more s now c.loop-one.invariant.grows c.args.of.now c.requires.member sizes c.requires.there c.loop-one.made i c.one-item.result _ c.loop-one-test.true c.one-item.is c.loop-one.invariant.is c.put_dims.new.made (c.in_ok-put_dims.ensures.exact others);
      kept = c.put_dims.ensures.kept;
    }

pub all_dims-returns-clause-exact : goal.dimensions::all_dims-returns-clause-exact
all_dims-returns-clause-exact t c =
    let s = c.args.s.now in
    let T = table_in s in
    let of = c.args.of.now in
    sizes_done T (reading T of.left) (bound_in_of_measuring s of) c.loop-one.made c.args.sizes.now (frames_of s) c.loop-one.one-index _ (omega arith) c.loop-one.invariant.is

pub dims-returns-in_err-sizes-clause-exact : goal.dimensions::dims-returns-in_err-sizes-clause-exact
dims-returns-in_err-sizes-clause-exact t c =
    let T = table_in c.args.s.now in
    let ask = reading T c.args.left in
    let member = member_of (frames_of c.args.s.now) c.args.member.now in
    let stop = c.in_err-sizes.field-0.0 in
    let p : c.from_residual-in_err-sizes.result ≡ Err stop = search rules in
    rw p
    (gives_as (Err stop) _ _ (sym (component_by T ask member))
    (seen_halts (sizes_seen (frames_of c.all_sizes.new.s)) stop (all_sizes T member) (λ sizes. dims_more T ask (binding_dims T ask member (count_sizes sizes)) [] (each_dim sizes)) c.in_err-sizes.ensures.exact))

pub dims-returns-in-Some-clause-exact : goal.dimensions::dims-returns-in-Some-clause-exact
dims-returns-in-Some-clause-exact t c = rw c.in-Some.is at (c.in_ok-known.ensures c.args.s.now c.requires.kept c.requires.member)

pub dims-returns-in_err-sizes-clause-kept : goal.dimensions::dims-returns-in_err-sizes-clause-kept
dims-returns-in_err-sizes-clause-kept t c = kept_still _ _ c.all_sizes.ensures.grows _ c.requires.kept

pub dims-returns-in_err-count-clause-kept : goal.dimensions::dims-returns-in_err-count-clause-kept
dims-returns-in_err-count-clause-kept t c = kept_still _ _ c.all_sizes.ensures.grows _ c.requires.kept

pub dims-returns-in_err-dims-clause-exact : goal.dimensions::dims-returns-in_err-dims-clause-exact
dims-returns-in_err-dims-clause-exact t c =
    let stop = c.in_err-dims.field-0.0 in
    let p : c.from_residual-in_err-dims.result ≡ Err stop = search rules in
    let s = c.args.s.now in
    let mid = c.all_sizes.new.s in
    let sizes = c.in_ok-sizes.sizes in
    let of : Measured = record { left = c.args.left; member = c.args.member; count = c.in_ok-count.count } in
    let counted : of.count ≡ count_sizes (sizes_seen (frames_of mid) sizes) = rw c.as_slice.ensures at (c.in_ok-count.ensures (frames_of mid)) in
    rw p (gives_as {A = List ℕ} (Err stop) _ _ (dims_as s mid c.in_ok-sizes.ensures.grows of c.requires.member (sizes_seen (frames_of mid) sizes) c.in_ok-sizes.ensures.exact counted) (rw c.as_slice-2.ensures at c.in_err-dims.ensures.exact))

pub dims-returns-in_err-keep_dims-clause-kept : goal.dimensions::dims-returns-in_err-keep_dims-clause-kept
dims-returns-in_err-keep_dims-clause-kept t c =
    let s = c.args.s.now in
    let mid = c.all_sizes.new.s in
    let sizes = c.in_ok-sizes.sizes in
    let of : Measured = record { left = c.args.left; member = c.args.member; count = c.in_ok-count.count } in
    let counted : of.count ≡ count_sizes (sizes_seen (frames_of mid) sizes) = rw c.as_slice.ensures at (c.in_ok-count.ensures (frames_of mid)) in
    let told : component_dims (table_in s) c.args.left (member_of (frames_of s) c.args.member.now) ≡ Ok c.in_ok-dims.dims =
    gives_as {A = List ℕ} (Ok c.in_ok-dims.dims) _ _ (dims_as s mid c.in_ok-sizes.ensures.grows of c.requires.member (sizes_seen (frames_of mid) sizes) c.in_ok-sizes.ensures.exact counted) (rw c.as_slice-2.ensures at c.in_ok-dims.ensures.exact) in
    let end = c.all_dims.new.s in
    let grown = grows_trans s mid end c.all_sizes.ensures.grows c.all_dims.ensures.grows in
    c.keep_dims.ensures end c.all_dims.ensures.kept (is_member_later s end c.args.member.now grown c.requires.member)
    (rw c.as_slice-3.ensures (dims_still s end grown c.args.left c.args.member.now c.requires.member c.in_ok-dims.dims told))

pub dims-returns-clause-kept : goal.dimensions::dims-returns-clause-kept
dims-returns-clause-kept t c =
    let s = c.args.s.now in
    let mid = c.all_sizes.new.s in
    let sizes = c.in_ok-sizes.sizes in
    let of : Measured = record { left = c.args.left; member = c.args.member; count = c.in_ok-count.count } in
    let counted : of.count ≡ count_sizes (sizes_seen (frames_of mid) sizes) = rw c.as_slice.ensures at (c.in_ok-count.ensures (frames_of mid)) in
    let told : component_dims (table_in s) c.args.left (member_of (frames_of s) c.args.member.now) ≡ Ok c.in_ok-dims.dims =
    gives_as {A = List ℕ} (Ok c.in_ok-dims.dims) _ _ (dims_as s mid c.in_ok-sizes.ensures.grows of c.requires.member (sizes_seen (frames_of mid) sizes) c.in_ok-sizes.ensures.exact counted) (rw c.as_slice-2.ensures at c.in_ok-dims.ensures.exact) in
    let end = c.all_dims.new.s in
    let grown = grows_trans s mid end c.all_sizes.ensures.grows c.all_dims.ensures.grows in
    c.keep_dims.ensures end c.all_dims.ensures.kept (is_member_later s end c.args.member.now grown c.requires.member)
    (rw c.as_slice-3.ensures (dims_still s end grown c.args.left c.args.member.now c.requires.member c.in_ok-dims.dims told))

pub dims-returns-clause-exact : goal.dimensions::dims-returns-clause-exact
dims-returns-clause-exact t c =
    let s = c.args.s.now in
    let mid = c.all_sizes.new.s in
    let sizes = c.in_ok-sizes.sizes in
    let of : Measured = record { left = c.args.left; member = c.args.member; count = c.in_ok-count.count } in
    let counted : of.count ≡ count_sizes (sizes_seen (frames_of mid) sizes) = rw c.as_slice.ensures at (c.in_ok-count.ensures (frames_of mid)) in
    gives_as {A = List ℕ} (Ok c.in_ok-dims.dims) _ _ (dims_as s mid c.in_ok-sizes.ensures.grows of c.requires.member (sizes_seen (frames_of mid) sizes) c.in_ok-sizes.ensures.exact counted) (rw c.as_slice-2.ensures at c.in_ok-dims.ensures.exact)

pub all_dims-put_dims-requires : goal.dimensions::all_dims-put_dims-requires
all_dims-put_dims-requires t c =
    let s = c.args.s.now in
    let now = c.loop-one.s in
    let one = c.one-item.result in
    let i = c.loop-one.one-index in
    let grows = c.loop-one.invariant.grows in
    let frame : IsFrame s one.scope.frame.0 = subst (λ (one : SizesAt). IsFrame s one.scope.frame.0) (sym c.one-item.is) (every_at (λ (one : SizesAt). IsFrame s one.scope.frame.0) c.args.sizes.now i one c.loop-one-test.true c.requires.there) in (
      search rules,
      (is_member_later s now c.args.of.now.member.now grows c.requires.member, (is_frame_later s now one.scope.frame.0 grows frame, c.loop-one.invariant.kept)),
    )

pub dims-all_dims-requires : goal.dimensions::dims-all_dims-requires
dims-all_dims-requires t c =
    let s = c.args.s.now in
    let mid = c.all_sizes.new.s in (
      search rules,
      (is_member_later s mid c.args.member.now c.in_ok-sizes.ensures.grows c.requires.member, (rw c.as_slice-2.ensures c.in_ok-sizes.ensures.there, kept_still s mid c.in_ok-sizes.ensures.grows c.args.reader.now c.requires.kept)),
    )

pub put_dims-dim_at-requires : goal.dimensions::put_dims-dim_at-requires
put_dims-dim_at-requires t c =
    let s = c.args.s.now in
    let now = c.loop-sub.s in
    let grows = c.loop-sub.invariant.grows in (
      search rules,
      (is_member_later s now c.args.of.now.member.now grows c.requires.member, (is_frame_later s now c.args.sizes.now.scope.frame.0 grows c.requires.frame, c.loop-sub.invariant.kept)),
    )

-- ---- what grows

pub written_dim-returns-clause-grows : goal.dimensions::written_dim-returns-clause-grows
written_dim-returns-clause-grows t c = grows_trans _ _ _ c.alone.ensures.grows c.whole_of.ensures.grows

pub binding_dims-returns-clause-grows : goal.dimensions::binding_dims-returns-clause-grows
binding_dims-returns-clause-grows t c = grows_trans _ _ _ c.child_of_member.ensures.grows c.dims_in.ensures.grows

pub put_dims-returns-in_err-n-clause-grows : goal.dimensions::put_dims-returns-in_err-n-clause-grows
put_dims-returns-in_err-n-clause-grows t c = grows_trans _ _ _ c.loop-sub.invariant.grows c.dim_at.ensures.grows

pub put_dims-returns-in_err-push-clause-grows : goal.dimensions::put_dims-returns-in_err-push-clause-grows
put_dims-returns-in_err-push-clause-grows t c = grows_trans _ _ _ c.loop-sub.invariant.grows c.dim_at.ensures.grows

pub all_dims-returns-in_err-put_dims-clause-grows : goal.dimensions::all_dims-returns-in_err-put_dims-clause-grows
all_dims-returns-in_err-put_dims-clause-grows t c = grows_trans _ _ _ c.loop-one.invariant.grows c.put_dims.ensures.grows

pub dims-returns-in_err-known-clause-grows : goal.dimensions::dims-returns-in_err-known-clause-grows
dims-returns-in_err-known-clause-grows t c = grows_refl c.args.s.now

pub dims-returns-in-Some-clause-grows : goal.dimensions::dims-returns-in-Some-clause-grows
dims-returns-in-Some-clause-grows t c = grows_refl c.args.s.now

pub dims-returns-in_err-dims-clause-grows : goal.dimensions::dims-returns-in_err-dims-clause-grows
dims-returns-in_err-dims-clause-grows t c = grows_trans _ _ _ c.all_sizes.ensures.grows c.all_dims.ensures.grows

pub dims-returns-in_err-keep_dims-clause-grows : goal.dimensions::dims-returns-in_err-keep_dims-clause-grows
dims-returns-in_err-keep_dims-clause-grows t c = grows_trans _ _ _ c.all_sizes.ensures.grows c.all_dims.ensures.grows

pub dims-returns-clause-grows : goal.dimensions::dims-returns-clause-grows
dims-returns-clause-grows t c = grows_trans _ _ _ c.all_sizes.ensures.grows c.all_dims.ensures.grows
