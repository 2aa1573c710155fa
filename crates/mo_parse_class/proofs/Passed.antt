-- A halt that is passed on.
use Rattle.std.proofs.Common.{◌≡◌, List, sym, subst, Result, Ok, Err}
use Rattle.std.specs.Borrow.{Bor}
use Rattle.std.specs.Result.{IsErr, IsErrAnd}
use Rattle.mo_syntax.specs.declared.token.Token.{Token}
use Rattle.mo_grammar.specs.declared.fault.Fault.{Fault}
use Rattle.mo_grammar.specs.declared.reading.Halt.{Halt}
use Rattle.mo_grammar.specs.declared.reading.Halt.TheVariants.{NoMemory, Stuck}
use Rattle.mo_grammar.specs.Lexeme.{lexemes}
use Rattle.mo_grammar.specs.Reading.{Outcome, stuck}
use Rattle.mo_grammar.specs.Answers.{Gives}

pub stuck_passed : {A B : Type 0} (seen : A → Outcome B) (r : Result A Halt) (h : Halt) (o : Outcome B) → IsErr r → IsErrAnd r (λ e. e ≡ h) → ((fault : Fault) (rest : Bor (List Token)) → h ≡ Stuck fault rest → o ≡ stuck fault (lexemes rest.now)) → Gives seen r o
stuck_passed seen (Ok x) h o e d k = cc
stuck_passed seen (Err (Stuck fault rest)) h o e d k = k fault rest (sym d)
stuck_passed seen (Err NoMemory) h o e d k = tt

-- Where the halt is at a token, reading is stuck there.
pub stuck_there : {A B : Type 0} (seen : A → Outcome B) (h : Halt) (o : Outcome B) → Gives seen (Err h) o → (fault : Fault) (rest : Bor (List Token)) → h ≡ Stuck fault rest → o ≡ stuck fault (lexemes rest.now)
stuck_there seen h o g fault rest is = subst (λ k. Gives seen (Err k) o) is g
