use Rattle.std.proofs.Common.{◌≡◌, subst}
use Rattle.std.specs.Prelude.{IfOk}
use Rattle.mo_flat.specs.declared.model.FlatModel.{FlatModel}
use Rattle.mo_alias.specs.steps.Placing.{place_at}
use Rattle.mo_alias.proofs.Keeping.{without_made}
use Rattle.mo_alias.proofs.without.without_aliases.Goals as goal

pub returns : goal.returns
returns c =
    subst (λ (w : FlatModel). IfOk c.made_by.result (λ made. made ≡ w))
    (without_made c.args.m.now c.args.a.now (place_at c.in_ok-places.places.at.items) c.in_ok-places.places.stays.items c.in_ok-out.out.items
    c.as_slice.result.now c.as_slice-2.result.now c.as_slice-3.result.now c.len.result c.as_slice.ensures c.as_slice-2.ensures c.as_slice-3.ensures c.len.ensures
    c.in_ok-places.ensures.at c.in_ok-places.ensures.stays c.in_ok-out.ensures.out)
    (rw (c.deref.ensures.value, c.deref-2.ensures.value, c.deref-3.ensures.value) at c.made_by.ensures)
