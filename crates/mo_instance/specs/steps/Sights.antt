-- What the code's values are as data, and when what an instance stands on exists.
use Rattle.std.specs.Prelude.{◌<◌, IfSome}
use Rattle.mo_scope.specs.declared.instance.Instance.{Instance as InstanceAt}
use Rattle.mo_scope.specs.Frames.{class_of}
use Rattle.mo_scope.specs.Rows.{number_of_classes}
use Rattle.mo_scope.specs.Trees.{IsLeaf}
use Rattle.mo_scope.specs.Worlds.{World, IsFrame, frame_in, frames_of, table_in}
use Rattle.mo_eval.specs.FrameBindings.{IsBoundByFrame}
use Rattle.mo_instance.specs.declared.prefixes.Around.{Around as AroundAt}
use Rattle.mo_instance.specs.Elements.{Around}

abbrev pub around_seen : AroundAt → Around
around_seen around = record { asked = around.asked; outermost = around.outermost; vary = around.vary; given = around.given }

-- the frame that it is entered as, which gives its binding, its class, and the frames that its expressions are looked up in
pub record IsEntered (world : World) (instance : InstanceAt) : Type 0 where
  pub frame : IsFrame world instance.frame.0
  pub class : class_of (frame_in (frames_of world) instance.frame.0) < number_of_classes (table_in world)
  pub leaf : IfSome instance.leaf (IsLeaf world)
  pub bound : IsBoundByFrame world instance
