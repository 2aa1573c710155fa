-- A frame in the outer one, or that one.
use Rattle.std.proofs.Common.{List, ap, map, sym, ◌∙◌}
use Rattle.std.specs.Prelude.{find, option_map}
use Rattle.mo_syntax.specs.declared.meaning.ClassId.{ClassId}
use Rattle.mo_scope.specs.declared.source.Source.{Source as SourceAt}
use Rattle.mo_scope.specs.Entries.{number_of}
use Rattle.mo_scope.specs.Frames.{looked_up}
use Rattle.mo_scope.specs.Sights.{source_seen}
use Rattle.mo_scope.specs.Worlds.{frame_or_top, frames_of, sources_in, table_in}
use Rattle.mo_instance.specs.Instances.{is_placed}
use Rattle.mo_instance.specs.steps.Roots.{names_seen}
use Rattle.mo_instance.proofs.Rooting.{inside_none, inside_some}
use Rattle.mo_names.proofs.Later.{grows_refl}
use Rattle.mo_instance.proofs.root.inside_frame.Goals as goal

pub returns-in_ok-frame-in-Some-clause-is : goal.returns-in_ok-frame-in-Some-clause-is
returns-in_ok-frame-in-Some-clause-is c =
    c.in_ok-frame-in-Some.ensures.is
    ∙ ap (λ (xs : List SourceAt). looked_up c.in-Some.class.0 (sources_in (frames_of c.args.s.now) (map source_seen xs)) (frame_or_top (frames_of c.args.s.now) (option_map number_of c.args.outer))) c.new.ensures
    ∙ inside_some (frame_or_top (frames_of c.args.s.now) (option_map number_of c.args.outer)) (find (is_placed (names_seen c.args.before.now) c.args.name.now) (table_in c.args.s.now)) c.in-Some.class.0 (ap (option_map (λ (class : ClassId). class.0)) (sym c.in-Some.is) ∙ c.in_ok-found.ensures.is)

pub returns-in-None-clause-is : goal.returns-in-None-clause-is
returns-in-None-clause-is c =
    inside_none (frame_or_top (frames_of c.args.s.now) (option_map number_of c.args.outer)) (find (is_placed (names_seen c.args.before.now) c.args.name.now) (table_in c.args.s.now)) (ap (option_map (λ (class : ClassId). class.0)) (sym c.in-None.is) ∙ c.in_ok-found.ensures.is)

pub returns-in_err-found-clause-grows : goal.returns-in_err-found-clause-grows
returns-in_err-found-clause-grows c = grows_refl _

pub returns-in-None-clause-grows : goal.returns-in-None-clause-grows
returns-in-None-clause-grows c = grows_refl _
