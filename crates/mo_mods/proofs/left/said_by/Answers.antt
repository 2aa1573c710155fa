-- What an argument says by its form.
use Rattle.std.proofs.Common.{◌<◌, ◌≤◌, ◌∙◌, ap, sym, subst}
use Rattle.mo_syntax.specs.declared.class.Give.{out-Give}
use Rattle.mo_syntax.specs.declared.class.Give.TheVariants.{outs-Modify, outs-Redeclare, outs-Replaceable}
use Rattle.mo_scope.specs.Worlds.{table_in}
use Rattle.mo_mods.specs.Left.{Anew}
use Rattle.mo_mods.specs.Sights.{left_in}
use Rattle.mo_mods.proofs.Grouping.{by_names, by_list, by_redeclare, by_replaceable}
use Rattle.mo_mods.proofs.left.said_by.Goals as goal

pub returns-then-passed-len : goal.returns-then-passed-len
returns-then-passed-len c = λ frames.
    sym (by_names (table_in c.args.scopes.now) c.args.argument.now c.args.passed (left_in frames c.args.left) (subst (λ n. c.args.passed < n) c.len.ensures c.if-passed-len.true))

pub returns-in-Modify : goal.returns-in-Modify
returns-in-Modify c = λ frames.
    sym (by_list (table_in c.args.scopes.now) c.args.argument.now c.args.passed (left_in frames c.args.left) _ _
    (subst (λ n. n ≤ c.args.passed) c.len.ensures c.if-passed-len.false) (ap out-Give c.in-Modify.is ∙ outs-Modify _ _))

pub returns-in-Redeclare : goal.returns-in-Redeclare
returns-in-Redeclare c = λ frames.
    ap (λ declares. Anew declares (left_in frames c.args.left)) c.declared.ensures.is
    ∙ sym (by_redeclare (table_in c.args.scopes.now) c.args.argument.now c.args.passed (left_in frames c.args.left) _
    (subst (λ n. n ≤ c.args.passed) c.len.ensures c.if-passed-len.false) (ap out-Give c.in-Redeclare.is ∙ outs-Redeclare _))

pub returns-in-Replaceable : goal.returns-in-Replaceable
returns-in-Replaceable c = λ frames.
    ap (λ declares. Anew declares (left_in frames c.args.left)) c.declared-in-Replaceable.ensures.is
    ∙ sym (by_replaceable (table_in c.args.scopes.now) c.args.argument.now c.args.passed (left_in frames c.args.left) _
    (subst (λ n. n ≤ c.args.passed) c.len.ensures c.if-passed-len.false) (ap out-Give c.in-Replaceable.is ∙ outs-Replaceable _))
