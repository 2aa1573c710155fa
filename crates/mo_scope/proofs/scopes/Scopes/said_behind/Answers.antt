-- What an argument says by its form.
use Rattle.std.proofs.Common.{◌<◌, ◌≤◌, ◌∙◌, ap, sym, subst}
use Rattle.mo_syntax.specs.declared.class.Give.{out-Give}
use Rattle.mo_syntax.specs.declared.class.Give.TheVariants.{outs-Modify, outs-Redeclare, outs-Replaceable}
use Rattle.mo_scope.specs.Worlds.{table_in}
use Rattle.mo_scope.proofs.Sayings.{said_left, said_list, said_redeclare, said_replaceable}
use Rattle.mo_scope.specs.Sights.{source_at}
use Rattle.mo_scope.proofs.scopes.Scopes.said_behind.Goals as goal

pub returns-then-passed-len : goal.returns-then-passed-len
returns-then-passed-len c =
    sym (said_left (table_in c.args.self.now) c.args.argument.now c.args.passed (source_at c.args.self.now c.args.source)
    (subst (λ n. c.args.passed < n) c.len.ensures c.if-passed-len.true))

pub returns-in-Modify : goal.returns-in-Modify
returns-in-Modify c =
    sym (said_list (table_in c.args.self.now) c.args.argument.now c.args.passed (source_at c.args.self.now c.args.source) _ _
    (subst (λ n. n ≤ c.args.passed) c.len.ensures c.if-passed-len.false) (ap out-Give c.in-Modify.is ∙ outs-Modify _ _))

pub returns-in-Redeclare : goal.returns-in-Redeclare
returns-in-Redeclare c =
    c.redeclaration_by.ensures
    ∙ sym (said_redeclare (table_in c.args.self.now) c.args.argument.now c.args.passed (source_at c.args.self.now c.args.source) _
    (subst (λ n. n ≤ c.args.passed) c.len.ensures c.if-passed-len.false) (ap out-Give c.in-Redeclare.is ∙ outs-Redeclare _))

pub returns-in-Replaceable : goal.returns-in-Replaceable
returns-in-Replaceable c =
    c.redeclaration_by-in-Replaceable.ensures
    ∙ sym (said_replaceable (table_in c.args.self.now) c.args.argument.now c.args.passed (source_at c.args.self.now c.args.source) _
    (subst (λ n. n ≤ c.args.passed) c.len.ensures c.if-passed-len.false) (ap out-Give c.in-Replaceable.is ∙ outs-Replaceable _))
