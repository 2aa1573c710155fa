-- The command, rule by rule.
use Rattle.std.proofs.Common.{rules, ap, ap₂, ◌≡◌, ◌∙◌, codes, true}
use Rattle.std.proofs.lemmas.Result.{IfOk-weaker}
use Rattle.clap.specs.Simple.{app_of_fields, on_top}
use Rattle.clap.specs.Words.{App, Shape, app_of, new_app, rule_of, with_rule}
use Rattle.clap.specs.declared.builder.command.Command.{Command}
use Rattle.clap.specs.declared.builder.command.Command.TheOpen.{Command-F}
use Rattle.mo_front.specs.Words.{class_option, emit_option, file_words, make_option, verify_option}
use Rattle.mo_front.proofs.words.command.Goals as goal

-- a command with no argument yet
abbrev bare : App
bare = on_top (λ (s : Shape). record s { no_binary_name = true; disable_help_flag = true }) (new_app (codes "mofront"))

pub returns : goal.returns
returns c =
    let class_is : rule_of c.long-class.result ≡ class_option = search (rules, c.new.ensures.rule, c.long-class.ensures) in
    let emit_is : rule_of c.long-emit.result ≡ emit_option = search (rules, c.new-2.ensures.rule, c.long-emit.ensures) in
    let verify_is : rule_of c.long-verify.result ≡ verify_option = search rules in
    let make_is : rule_of c.long-make.result ≡ make_option = search rules in
    let file_is : rule_of c.action-file.result ≡ file_words = search rules in
    let bare_is : app_of c.disable_help_flag.result ≡ bare =
    ap app_of_fields (c.disable_help_flag.ensures
    ∙ ap (λ (f : Command-F Command). record f { disable_help_flag = true }) c.no_binary_name.ensures)
    ∙ ap (on_top (λ (s : Shape). record s { no_binary_name = true; disable_help_flag = true })) c.new-6.ensures.app in
    let with_class : app_of c.in_ok-arg.field-0 ≡ with_rule bare class_option =
    c.in_ok-arg.ensures.shape (search (rules, c.new.ensures.optional, c.long-class.ensures)) ∙ ap₂ with_rule bare_is class_is in
    let with_emit : app_of c.in_ok-arg-2.field-0 ≡ with_rule (with_rule bare class_option) emit_option =
    c.in_ok-arg-2.ensures.shape (search (rules, c.new-2.ensures.optional, c.long-emit.ensures)) ∙ ap₂ with_rule with_class emit_is in
    let with_verify : app_of c.in_ok-arg-3.field-0 ≡ with_rule (with_rule (with_rule bare class_option) emit_option) verify_option =
    c.in_ok-arg-3.ensures.shape (search rules) ∙ ap₂ with_rule with_emit verify_is in
    let with_make : app_of c.in_ok-arg-4.field-0 ≡ with_rule (with_rule (with_rule (with_rule bare class_option) emit_option) verify_option) make_option =
    c.in_ok-arg-4.ensures.shape (search rules) ∙ ap₂ with_rule with_verify make_is in
    IfOk-weaker c.arg-5.result _ _ (λ made h. h.shape (search rules) ∙ ap₂ with_rule with_make file_is) c.arg-5.ensures
