use Rattle.mo_text_size.proofs.model.of_name_line.Goals as goal

pub returns : goal.returns
returns c = c.add-2.ensures _ _ (c.add.ensures _ _ c.of_str.ensures c.of_str-2.ensures) c.of_str-3.ensures
