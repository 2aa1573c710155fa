-- The text is that of the pieces of the class, which is read again.
use Rattle.std.proofs.Common.{ap, ◌∙◌, ◌++◌}
use Rattle.mo_pieces.specs.Gathered.{gathered}
use Rattle.mo_unparse.specs.ReadAgain.{IsReadAsFile}
use Rattle.mo_pieces.specs.ShownClasses.{pieces_of_class}
use Rattle.mo_unparse.proofs.PrintingLaw.{pieces_spell}
use Rattle.mo_unparse.proofs.ReadingAgain.{text_answered}
use Rattle.mo_unparse.proofs.ReadingClasses.{class_read}
use Rattle.mo_unparse.proofs.class.class_text.Goals as goal

pub returns-clause-read : goal.returns-clause-read
returns-clause-read c =
    let class = c.args.c.now in
    text_answered (λ t. IsReadAsFile t class) c.text_of.result (gathered c.write_class.new.out) (pieces_of_class class)
    (c.in_ok-write_class.ensures ∙ ap (λ ps. ps ++ pieces_of_class class) c.new-pieces.ensures) (class_read class (pieces_spell class)) c.text_of.ensures
