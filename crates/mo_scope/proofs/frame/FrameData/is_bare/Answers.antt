-- Each test rules out one part.
use Rattle.std.proofs.Common.{ap, sym, ◌∙◌, true}
use Rattle.std.specs.Prelude.{◌&&◌, option_map}
use Rattle.mo_scope.specs.Entries.{number_of, names_of}
use Rattle.mo_scope.proofs.Entering.{bare_is, none_of}
use Rattle.mo_scope.proofs.frame.FrameData.is_bare.Goals as goal

pub returns-then-not-no_sources : goal.returns-then-not-no_sources
returns-then-not-no_sources c =
    ap (λ b. b && c.is_none-no_path.result && c.is_none-no_owner.result) (sym c.if-not-no_sources.true)
    ∙ bare_is names_of number_of c.args.self.now.sources c.args.self.now.at c.args.self.now.owner c.args.self.now.class.0 (option_map number_of c.args.self.now.outer)
    c.is_empty-no_sources.result c.is_none-no_path.result c.is_none-no_owner.result c.is_empty-no_sources.ensures
    (none_of c.args.self.now.at c.is_none-no_path.result c.is_none-no_path.ensures) (none_of c.args.self.now.owner c.is_none-no_owner.result c.is_none-no_owner.ensures)

pub returns-then-not-no_path : goal.returns-then-not-no_path
returns-then-not-no_path c =
    ap (λ b. true && b && c.is_none-no_owner.result) (sym c.if-not-no_path.true)
    ∙ ap (λ b. b && c.is_none-no_path.result && c.is_none-no_owner.result) (sym c.if-not-no_sources.false)
    ∙ bare_is names_of number_of c.args.self.now.sources c.args.self.now.at c.args.self.now.owner c.args.self.now.class.0 (option_map number_of c.args.self.now.outer)
    c.is_empty-no_sources.result c.is_none-no_path.result c.is_none-no_owner.result c.is_empty-no_sources.ensures
    (none_of c.args.self.now.at c.is_none-no_path.result c.is_none-no_path.ensures) (none_of c.args.self.now.owner c.is_none-no_owner.result c.is_none-no_owner.ensures)

pub returns : goal.returns
returns c =
    ap (λ b. true && b && c.is_none-no_owner.result) (sym c.if-not-no_path.false)
    ∙ ap (λ b. b && c.is_none-no_path.result && c.is_none-no_owner.result) (sym c.if-not-no_sources.false)
    ∙ bare_is names_of number_of c.args.self.now.sources c.args.self.now.at c.args.self.now.owner c.args.self.now.class.0 (option_map number_of c.args.self.now.outer)
    c.is_empty-no_sources.result c.is_none-no_path.result c.is_none-no_owner.result c.is_empty-no_sources.ensures
    (none_of c.args.self.now.at c.is_none-no_path.result c.is_none-no_path.ensures) (none_of c.args.self.now.owner c.is_none-no_owner.result c.is_none-no_owner.ensures)
