-- The text of aliases: the unknowns that are others, the loops that contradict, and the model without aliases.
use Rattle.std.specs.Prelude.{ℕ, List, ◌++◌, codes, decimal, flat_map, if◌then◌else◌}
use Rattle.mo_flat.specs.declared.model.FlatModel.{FlatModel}
use Rattle.mo_flat.specs.declared.model.FlatVar.{FlatVar}
use Rattle.mo_flat.specs.Text.{model_text, variable_name}
use Rattle.mo_alias.specs.declared.found.Aliases.{Aliases}
use Rattle.mo_alias.specs.declared.found.Gone.{Gone}
use Rattle.mo_alias.specs.Numbers.{variable_of}
use Rattle.mo_alias.specs.Without.{without}

abbrev pub unknown_name : List FlatVar → ℕ → List ℕ
unknown_name vars unknown = variable_name vars (variable_of vars unknown)

abbrev pub gone_line : List FlatVar → Gone → List ℕ
gone_line vars g =
    unknown_name vars g.unknown ++ (if g.minus then codes " = -" else codes " = ") ++ unknown_name vars g.of ++ codes "\n"

abbrev pub number_text : ℕ → List ℕ
number_text i = codes " " ++ decimal i

abbrev pub loop_line : List ℕ → List ℕ
loop_line loop = codes "loop" ++ flat_map number_text loop ++ codes "\n"

abbrev pub aliases_text : FlatModel → Aliases → List ℕ
aliases_text m a =
    (codes "alias " ++ m.name ++ codes "\n") ++ flat_map (gone_line m.vars) a.gone ++ flat_map loop_line a.loops ++ model_text (without m a)
