-- What is read is the longest statement, and where reading is stuck there is none.
use Rattle.std.proofs.Common.{ℕ, refl}
use Rattle.mo_grammar.specs.Lexeme.{lexemes}
use Rattle.mo_grammar.specs.Symbols.{StatementItems}
use Rattle.mo_grammar.proofs.Calls.{call_found, call_only, call_nothing, call_refused, call_told, halted}
use Rattle.mo_parse_body.proofs.call.statement.Goals as goal

pub returns-in-Ok-clause-found : goal.returns-in-Ok-clause-found
returns-in-Ok-clause-found c = call_found StatementItems c.args.nest _ c.args.at c.args.tokens.now _ c.in-Ok.value c.in-Ok.behind.now _ c.saturating_sub.ensures c.rest_from-rest.ensures c.in-Ok.ensures.reads refl

pub returns-in-Ok-clause-only : goal.returns-in-Ok-clause-only
returns-in-Ok-clause-only c = call_only StatementItems refl c.args.nest _ c.args.at c.args.tokens.now _ c.in-Ok.value c.in-Ok.behind.now _ c.saturating_sub.ensures c.rest_from-rest.ensures c.in-Ok.ensures.reads refl

pub returns-in-Err-Stuck-clause-only : goal.returns-in-Err-Stuck-clause-only
returns-in-Err-Stuck-clause-only c = λ front rest a longest spells.
    absurd (call_nothing StatementItems refl c.args.nest _ c.args.at c.args.tokens.now _ c.in-Err-Stuck.fault (lexemes c.in-Err-Stuck.behind.now) c.saturating_sub.ensures c.rest_from-rest.ensures (halted c.in-Err-Stuck.field-0 c.in-Err-Stuck.fault c.in-Err-Stuck.behind _ c.in-Err-Stuck.field-0-is c.in-Err-Stuck.ensures.reads) front rest a longest spells)

pub returns-in-Err-Stuck-clause-refused : goal.returns-in-Err-Stuck-clause-refused
returns-in-Err-Stuck-clause-refused c =
    call_told ℕ StatementItems c.args.nest _ c.stop_at.result _ c.stop_at.ensures
    (call_refused StatementItems refl refl c.args.nest _ c.args.at c.args.tokens.now _ c.in-Err-Stuck.fault (lexemes c.in-Err-Stuck.behind.now) c.saturating_sub.ensures c.rest_from-rest.ensures (halted c.in-Err-Stuck.field-0 c.in-Err-Stuck.fault c.in-Err-Stuck.behind _ c.in-Err-Stuck.field-0-is c.in-Err-Stuck.ensures.reads))
