-- All parts are alike.
use Rattle.std.proofs.Common.{sym, ◌∙◌}
use Rattle.std.specs.Prelude.{option_map}
use Rattle.mo_scope.specs.Entries.{names_of, number_of}
use Rattle.mo_scope.proofs.AlikePaths.{at_same, lent}
use Rattle.mo_scope.proofs.Entering.{that_entry}
use Rattle.mo_scope.proofs.frame.FrameData.is_that.Goals as goal

pub returns : goal.returns
returns c = λ yes. that_entry c.args.self.now.sources c.args.self.now.class.0 c.args.class.0
    (option_map number_of c.args.self.now.outer) (option_map number_of c.args.outer)
    (option_map names_of c.args.self.now.at) (option_map (λ path. path.now.0) c.args.at)
    (option_map number_of c.args.self.now.owner) (option_map number_of c.args.owner)
    (c.is_empty-no_sources.ensures.0 c.if-not-no_sources.false) (c.is_one_class-class_same.ensures c.if-not-class_same.false)
    (c.are_one-outer_same.ensures c.if-not-outer_same.false)
    (sym (lent names_of c.as_ref.result c.args.self.now.at c.as_ref.ensures.value) ∙ at_same _ _ (sym c.is_same_path.ensures ∙ yes))
    (c.are_one-owner_same.ensures c.if-not-owner_same.false)
