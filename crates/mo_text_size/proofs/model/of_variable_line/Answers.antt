use Rattle.std.proofs.Common.{◌≡◌, ◌+◌, ◌++◌, length, refl, arith}
use Rattle.std.specs.Prelude.{codes}
use Rattle.std.proofs.lemmas.List.{length-append}
use Rattle.mo_flat.specs.Text.{attributes_text, binding_text, role_text, variable_line}
use Rattle.mo_text_size.proofs.Lengths.{counted, grown, of_eight, plus}
use Rattle.mo_text_size.proofs.model.of_variable_line.Goals as goal

pub returns : goal.returns
returns c =
    let vars = c.args.vars.now in
    let v = c.args.v.now in
    let role = role_text v.role in
    let attributes = attributes_text vars v.attributes in
    let binding = binding_text vars v.role v.binding in
    let begin : length (codes "  ") ≡ 2 = refl in
    let blank : length (codes " ") ≡ 1 = refl in
    let close : length (codes ";\n") ≡ 2 = refl in
    let e = of_eight (codes "  ") role v.kind_text (codes " ") v.name attributes binding (codes ";\n") in
    let d = length-append role v.kind_text in
    let kind = c.add-kind.ensures role v.kind_text c.of_role.ensures (rw c.as_str.ensures at c.of_str.ensures) in
    let name = grown (length v.name) 5 _ _ (rw c.as_str-2.ensures at c.of_str-2.ensures) c.saturating_add-name.ensures in
    counted (length (role ++ v.kind_text) + (length v.name + 5) + length attributes + length binding) _ (variable_line vars v) (omega (arith, e, d, begin, blank, close))
    (plus _ _ _ _ _ (plus _ _ _ _ _ (plus _ _ _ _ _ kind name c.saturating_add.ensures) (rw c.as_slice.ensures at c.of_attributes-attributes.ensures) c.saturating_add-2.ensures)
    c.of_binding.ensures c.saturating_add-3.ensures)
