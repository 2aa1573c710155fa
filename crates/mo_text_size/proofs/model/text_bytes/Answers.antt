-- The lines of names, of variables and of both sections, one behind the other.
use Rattle.std.proofs.Common.{◌++◌}
use Rattle.std.specs.Prelude.{codes, flat_map}
use Rattle.mo_flat.specs.Text.{section_text, variable_line}
use Rattle.mo_text_size.proofs.model.text_bytes.Goals as goal

pub returns : goal.returns
returns c =
    let m = c.args.m.now in
    let begin = codes "model " ++ m.name ++ codes "\n" in
    let lines = flat_map (variable_line m.vars) m.vars in
    let first = section_text m.vars (codes "initial equation\n") m.first m.first_asserts in
    let last = section_text m.vars (codes "equation\n") m.equations m.asserts in
    let end = codes "end " ++ m.name ++ codes ";\n" in
    let vars = c.as_slice-vars.ensures in
    c.add-4.ensures (begin ++ lines ++ first ++ last) end
    (c.add-3.ensures (begin ++ lines ++ first) last
    (c.add-2.ensures (begin ++ lines) first
    (c.add.ensures begin lines (rw c.as_str.ensures at c.of_name_line-begin.ensures) (rw vars at c.of_variables.ensures))
    (rw (vars, c.as_slice.ensures, c.as_slice-2.ensures) at c.of_section-first.ensures))
    (rw (vars, c.as_slice-3.ensures, c.as_slice-4.ensures) at c.of_section-last.ensures))
    (rw c.as_str-2.ensures at c.of_name_line-end.ensures)
