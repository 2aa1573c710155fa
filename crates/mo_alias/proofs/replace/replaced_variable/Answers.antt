use Rattle.std.proofs.Common.{map, ap, ◌∙◌}
use Rattle.mo_alias.specs.steps.Placing.{place_at}
use Rattle.mo_alias.specs.Without.{replaced_attribute}
use Rattle.mo_alias.proofs.replace.replaced_variable.Goals as goal

pub returns : goal.returns
returns c =
    let texts = rw c.in_ok-name.ensures.values.0 at c.both-texts.ensures.values in
    let values = rw c.in_ok-name.ensures.values.1 at c.both-values.ensures.values in
    let name = rw texts.0 at c.copy.ensures in
    let kind_text = rw texts.1 at c.copy-2.ensures in
    let attributes = (rw values.0 at c.replaced_attributes-attributes.ensures) ∙ ap (map (replaced_attribute (place_at c.args.places.now))) c.as_slice.ensures in
    let binding = rw values.1 at c.replaced_option.ensures in
    λ i. record {
      name = name i;
      kind = c.args.v.now.kind;
      kind_text = kind_text i;
      role = c.args.v.now.role;
      attributes = attributes i;
      binding = binding i;
      place = c.args.v.now.place;
    }
