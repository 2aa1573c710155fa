use Rattle.std.proofs.Common.{◌++◌, string_bytes}
use Rattle.std.specs.Prelude.{codes, flat_map}
use Rattle.mo_flat.specs.Text.{section_text, variable_line}
use Rattle.mo_flat.proofs.Printing.{in_five}
use Rattle.mo_flat.proofs.model_text.write_model.Goals as goal

pub returns : goal.returns
returns c =
    let m = c.args.m.now in
    in_five c.write_name_line-2.result (string_bytes c.args.out.now)
    (codes "model " ++ m.name ++ codes "\n") (flat_map (variable_line m.vars) m.vars)
    (section_text m.vars (codes "initial equation\n") m.first m.first_asserts) (section_text m.vars (codes "equation\n") m.equations m.asserts)
    (codes "end " ++ m.name ++ codes ";\n")
    (string_bytes c.write_name_line.new.out) (string_bytes c.write_variables.new.out) (string_bytes c.write_section.new.out)
    (string_bytes c.write_section-2.new.out) (string_bytes c.write_name_line-2.new.out)
    (rw c.as_str.ensures at c.in_ok-write_name_line.ensures)
    (rw c.as_slice-vars.ensures at c.in_ok-write_variables.ensures)
    (rw (c.as_slice-vars.ensures, c.as_slice-first.ensures, c.as_slice-first_asserts.ensures) at c.in_ok-write_section.ensures)
    (rw (c.as_slice-vars.ensures, c.as_slice.ensures, c.as_slice-2.ensures) at c.in_ok-write_section-2.ensures)
    (rw c.as_str-2.ensures at c.write_name_line-2.ensures)
