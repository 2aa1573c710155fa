-- The law, by induction over all productions.
use Rattle.mo_grammar.proofs.SoundTrees.{file_sound}
use Rattle.mo_grammar.proofs.laws.files_are_sound.Goals as goal

pub returns : goal.returns
returns c = λ is_name l tokens file s h. file_sound is_name l tokens file s h
