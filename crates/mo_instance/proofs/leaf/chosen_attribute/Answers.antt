-- What the table below holds, if there is one.
use Rattle.std.proofs.Common.{ℕ, List, [], ◌∷◌, ap, ◌∙◌}
use Rattle.std.proofs.lemmas.Result.{IfOk-weaker}
use Rattle.mo_mods.specs.Merged.{Merged, binding}
use Rattle.mo_mods.specs.Sights.{merged_in}
use Rattle.mo_instance.proofs.leaf.chosen_attribute.Goals as goal

pub returns-in-Some : goal.returns-in-Some
returns-in-Some c =
    IfOk-weaker c.chosen_here.result _ _
    (λ made is frames. is frames ∙ ap (λ (merged : Merged). binding merged []) (c.in-Some.ensures frames)
    ∙ ap (λ (name : List ℕ). binding (merged_in frames c.args.env.now) (name ∷ [])) c.name_of_attribute.ensures)
    c.chosen_here.ensures

pub returns-in-None : goal.returns-in-None
returns-in-None c = λ frames.
    ap (λ (merged : Merged). binding merged []) (c.in-None.ensures frames)
    ∙ ap (λ (name : List ℕ). binding (merged_in frames c.args.env.now) (name ∷ [])) c.name_of_attribute.ensures
