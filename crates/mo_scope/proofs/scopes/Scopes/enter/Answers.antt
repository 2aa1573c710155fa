-- The frame that was entered before, or a new one.
use Rattle.std.proofs.Common.{[], List, ap, map, sym, ◌∙◌}
use Rattle.std.specs.Prelude.{option_map}
use Rattle.mo_scope.specs.Entries.{names_of, number_of}
use Rattle.mo_scope.specs.Frames.{Frame, In, gathered}
use Rattle.mo_scope.specs.Sights.{source_seen}
use Rattle.mo_scope.specs.Worlds.{frame_or_top, frames_of, sources_in}
use Rattle.mo_scope.proofs.AlikePaths.{lent}
use Rattle.mo_scope.proofs.Entering.{or_new}
use Rattle.mo_scope.proofs.Numbered.{grows_refl}
use Rattle.mo_scope.proofs.scopes.Scopes.enter.Goals as goal

pub returns-in-Some-clause-grows : goal.returns-in-Some-clause-grows
returns-in-Some-clause-grows c = grows_refl c.args.self.now

pub returns-in-Some-clause-is : goal.returns-in-Some-clause-is
returns-in-Some-clause-is c =
    c.in-Some.ensures.is
    ∙ ap (λ at. In c.args.class.0 (gathered []) (frame_or_top F (option_map number_of c.args.outer)) at (frame_or_top F (option_map number_of c.args.owner)))
    (lent names_of c.as_ref.result c.args.at c.as_ref.ensures.value)
    ∙ ap (λ sources. In c.args.class.0 (gathered (sources_in F (map source_seen sources))) (frame_or_top F (option_map number_of c.args.outer)) (option_map names_of c.args.at) (frame_or_top F (option_map number_of c.args.owner)))
    (sym c.in-Some.ensures.none)
  where
    F : List Frame
    F = frames_of c.args.self.now

pub returns-in-None-clause-number : goal.returns-in-None-clause-number
returns-in-None-clause-number c = or_new _ _ _ c.enter_anew.result c.enter_anew.ensures.number c.enter_anew.ensures.tables
