-- What is written in each turn.
use Rattle.std.proofs.Common.{Bool, List, [], ◌++◌}
use Rattle.std.specs.Prelude.{codes, if◌then◌else◌}
use Rattle.mo_pieces.specs.Pieces.{Piece}
use Rattle.mo_pieces.specs.Lines.{word_if}
use Rattle.mo_pieces.specs.ShownModifiers.{pieces_of_path}
use Rattle.mo_pieces.specs.Gathered.{gathered}
use Rattle.mo_pieces.specs.ShownExpressions.{a_comma}
use Rattle.mo_pieces.specs.ShownClasses.{pieces_of_argument}
use Rattle.mo_unparse.proofs.Rows.{row_step, not_first}
use Rattle.mo_pieces.proofs.Written.{after_two}
use Rattle.mo_pieces.proofs.Written.{two_written, three_written, four_written}
use Rattle.mo_unparse.proofs.ClassLayers.{at_Modify, at_Redeclare, at_Replaceable, at_Long, at_Element}
use Rattle.mo_unparse.proofs.class.+class.Goals as goal

abbrev flags : (each last : Bool) → List Piece
flags each last = word_if (codes "each") each ++ word_if (codes "final") last

pub write_arguments-loop-argument-preserved : goal.write_arguments-loop-argument-preserved
write_arguments-loop-argument-preserved t c = (
  row_step (λ first argument. (if first then [] else a_comma) ++ pieces_of_argument argument) c.args.arguments.now c.loop-argument.argument-index c.argument-item.result c.loop-argument.first
      (gathered c.args.out.now) (gathered c.loop-argument.out) (gathered c.write_argument.new.out)
      c.loop-argument-test.true c.argument-item.is c.loop-argument.invariant.1 c.loop-argument.invariant.0
      (after_two (gathered c.loop-argument.out) (gathered c.separate.new.out) (gathered c.write_argument.new.out) (if c.loop-argument.first then [] else a_comma) (pieces_of_argument c.argument-item.result) c.in_ok-separate.ensures c.in_ok-write_argument.ensures),
  not_first _,
)

pub write_body-returns-in_ok-write_name-in-Long : goal.write_body-returns-in_ok-write_name-in-Long
write_body-returns-in_ok-write_name-in-Long t c =
    rw (c.in-Long.is, at_Long c.in-Long.extending c.in-Long.items c.in-Long.external c.args.name.now) (two_written _ _ _ _ _ _ c.in_ok-write_name-in-Long.ensures (rw c.as_slice.ensures at c.write_inside.ensures))

pub write_element-returns-in-Some : goal.write_element-returns-in-Some
write_element-returns-in-Some t c =
    rw (at_Element c.args.element.now, c.in-Some.is) (three_written _ _ _ _ _ _ _ _ c.in_ok-write_flags.ensures c.in_ok-write_what.ensures c.write_limit.ensures)

pub write_limit-returns : goal.write_limit-returns
write_limit-returns t c = three_written _ _ _ _ _ _ _ _ c.in_ok-spaced_word.ensures c.in_ok-write_reference.ensures c.write_mods.ensures

pub write_give-returns-in_ok-write_mods-in-Modify : goal.write_give-returns-in_ok-write_mods-in-Modify
write_give-returns-in_ok-write_mods-in-Modify t c =
    rw (c.in-Modify.is, at_Modify c.in-Modify.mods c.in-Modify.value (flags c.args.each c.args.last) (pieces_of_path c.args.name.now))
    (four_written _ _ _ _ _ _ _ _ _ _ c.in_ok-write_argument_flags-in-Modify.ensures c.in_ok-write_path-in-Modify.ensures c.in_ok-write_mods-in-Modify.ensures c.write_binding.ensures)

pub write_give-returns-in_ok-write_argument_flags-in-Redeclare : goal.write_give-returns-in_ok-write_argument_flags-in-Redeclare
write_give-returns-in_ok-write_argument_flags-in-Redeclare t c =
    rw (c.in-Redeclare.is, at_Redeclare c.in-Redeclare.element (flags c.args.each c.args.last) (pieces_of_path c.args.name.now))
    (four_written _ _ _ _ _ _ _ _ _ _ c.in_ok-word-in-Redeclare.ensures c.in_ok-blank-in-Redeclare.ensures c.in_ok-write_argument_flags-in-Redeclare.ensures c.write_element.ensures)

pub write_give-returns-in_ok-write_argument_flags-in-Replaceable : goal.write_give-returns-in_ok-write_argument_flags-in-Replaceable
write_give-returns-in_ok-write_argument_flags-in-Replaceable t c =
    rw (c.in-Replaceable.is, at_Replaceable c.in-Replaceable.element (flags c.args.each c.args.last) (pieces_of_path c.args.name.now))
    (two_written _ _ _ _ _ _ c.in_ok-write_argument_flags-in-Replaceable.ensures c.write_element-in-Replaceable.ensures)
