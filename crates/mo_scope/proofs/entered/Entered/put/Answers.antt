-- What is put is held under its key.
use Rattle.std.proofs.Common.{cond, Some, ap, sym, ◌∙◌}
use Rattle.std.specs.Prelude.{◌&&◌, if◌then◌else◌, option_map}
use Rattle.mo_scope.specs.Bare.{entered_held, is_around}
use Rattle.mo_scope.specs.Entries.{number_of}
use Rattle.mo_scope.proofs.entered.Entered.put.Goals as goal

pub returns-clause-ok : goal.returns-clause-ok
returns-clause-ok c = λ class outer.
    c.in_ok-insert.ensures.updates.0 (record { class = class; outer = outer })
    ∙ ap (λ k. cond (is_around k c.key_of.result.outer class outer) (Some c.args.frame) (entered_held c.note.new.self class outer)) c.key_of.ensures.class
    ∙ ap (λ o. cond (is_around c.args.class.0 o class outer) (Some c.args.frame) (entered_held c.note.new.self class outer)) c.key_of.ensures.outer
    ∙ ap (λ held. cond (is_around c.args.class.0 (option_map number_of c.args.outer) class outer) (Some c.args.frame) held) (c.note.ensures class outer)
    ∙ sym (ap (λ b. if b && is_around c.args.class.0 (option_map number_of c.args.outer) class outer then Some c.args.frame else entered_held c.args.self.now class outer) c.if-not-bare.false)
