-- The class that a redeclaration declares exists.
use Rattle.std.proofs.Common.{[], ap, sym, ◌∙◌}
use Rattle.std.specs.Prelude.{option_map}
use Rattle.mo_scope.specs.Frames.{sources_of}
use Rattle.mo_scope.specs.Worlds.{frame_at}
use Rattle.mo_scope.specs.Sights.{redeclaration_at}
use Rattle.mo_names.proofs.Redeclaring.{redeclared_exists}
use Rattle.mo_names.proofs.Later.{grows_refl}
use Rattle.mo_names.proofs.class_element.entered_class.Goals as goal

pub entered_redeclared-requires-clause-class : goal.entered_redeclared-requires-clause-class
entered_redeclared-requires-clause-class c =
    redeclared_exists c.args.s.now.files (sources_of (frame_at c.args.s.now c.args.member.now.home.0)) c.args.member.now.name.now [] (redeclaration_at c.args.s.now c.in-Some.redeclaration)
    (sym c.in_ok-redeclaration.ensures.is ∙ ap (option_map (redeclaration_at c.args.s.now)) c.in-Some.is)

pub returns-in_err-redeclaration-clause-grows : goal.returns-in_err-redeclaration-clause-grows
returns-in_err-redeclaration-clause-grows c = grows_refl _
