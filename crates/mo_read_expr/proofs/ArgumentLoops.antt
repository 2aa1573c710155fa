-- Reading plain arguments one after another, as a loop does it.
use Rattle.std.proofs.Common.{◌≡◌, List, [], ◌∷◌, ◌++◌, true, false, Option, Some, None, refl, sym, ap, ◌∙◌, append_assoc, append-nil}
use Rattle.mo_syntax.specs.declared.expr.Arg.{Arg}
use Rattle.mo_grammar.specs.declared.fault.Fault.{Fault}
use Rattle.mo_grammar.specs.Lexeme.{Lexeme, code_of}
use Rattle.mo_grammar.specs.Codes.{ident, equals, comma}
use Rattle.mo_grammar.specs.Grammar.{Limits, symbol, has}
use Rattle.mo_grammar.specs.Reading.{Outcome, read, stuck, unfinished, ◌>>=◌, next_in, next_two, reads_token}
use Rattle.mo_grammar.specs.Forms.{second_of, behind, optional}
use Rattle.mo_grammar.specs.Symbols.{MoreArguments, OneArgument}
use Rattle.mo_grammar.specs.Expressions.{named_list}
use Rattle.mo_grammar.specs.Trees.{Given, given_more, given_named}
use Rattle.mo_grammar.specs.Language.{reads, reads_form}
use Rattle.mo_grammar.proofs.Codes.{choose_true, choose_false}
use Rattle.mo_grammar.proofs.Readers.{more_arguments_are}

-- plain arguments that were read before, in front of those that are read
abbrev pub with_plain : List Arg → Outcome Given → Outcome Given
with_plain front o = o >>= λ x. read (front ++ x.0.0, x.0.1) x.1

-- what one argument and the outcome behind it make
abbrev with_more : Arg → Outcome (Option Given) → Outcome Given
with_more a o = (o >>= λ y. let both : Outcome (Arg × Option Given) = read (a, y.0) y.1 in both) >>= λ x. read (given_more x.0) x.1

abbrev after_one : Limits → Outcome Arg → Outcome Given
after_one l o = (o >>= λ x. reads_form (optional (behind comma (symbol MoreArguments))) l x.1 >>= λ y. let both : Outcome (Arg × Option Given) = read (x.0, y.0) y.1 in both) >>= λ x. read (given_more x.0) x.1

abbrev after_comma : Limits → Outcome Lexeme → Outcome (Option Given)
after_comma l o = ((o >>= λ x. reads MoreArguments l x.1 >>= λ y. let both : Outcome (Lexeme × Given) = read (x.0, y.0) y.1 in both) >>= λ x. let more : Outcome Given = read (second_of x.0) x.1 in more) >>= λ x. read (Some x.0) x.1

opened : (l : Limits) (w : List Lexeme) → false ≡ next_two ident (equals ∷ []) w → reads MoreArguments l w ≡ after_one l (reads OneArgument l w)
opened l w two = more_arguments_are l w ∙ choose_false (next_two ident (equals ∷ []) w) _ (after_one l (reads OneArgument l w)) (sym two)

more_opened : (l : Limits) (v : List Lexeme) → true ≡ next_in (comma ∷ []) v → reads_form (optional (behind comma (symbol MoreArguments))) l v ≡ after_comma l (reads_token (comma ∷ []) v)
more_opened l v next = choose_true (next_in (comma ∷ []) v) (after_comma l (reads_token (comma ∷ []) v)) _ (sym next)

kept : (l : Limits) (front : List Arg) (a : Arg) (t : Lexeme) (rest : List Lexeme) (o : Outcome Given) → with_plain front (with_more a (((o >>= λ y. let both : Outcome (Lexeme × Given) = read (t, y.0) y.1 in both) >>= λ x. let more : Outcome Given = read (second_of x.0) x.1 in more) >>= λ x. read (Some x.0) x.1)) ≡ with_plain (front ++ a ∷ []) o
kept l front a t rest (read given more) = ap (λ list. read (list, given.1) more) (sym (append_assoc front (a ∷ []) given.0))
kept l front a t rest (stuck fault more) = refl
kept l front a t rest unfinished = refl

-- One more argument, and a comma behind it.
pub plain_turn : (l : Limits) (front now : List Arg) (w : List Lexeme) (a : Arg) (v : List Lexeme) (t : Lexeme) (rest : List Lexeme) (all : Outcome Given) → false ≡ next_two ident (equals ∷ []) w → reads OneArgument l w ≡ read a v → true ≡ next_in (comma ∷ []) v → reads_token (comma ∷ []) v ≡ read t rest → now ≡ front ++ a ∷ [] → with_plain front (reads MoreArguments l w) ≡ all → with_plain now (reads MoreArguments l rest) ≡ all
plain_turn l front now w a v t rest all two one next taken pushed so_far =
    let here : reads MoreArguments l w ≡ with_more a (after_comma l (read t rest)) = opened l w two ∙ ap (after_one l) one ∙ ap (with_more a) (more_opened l v next ∙ ap (after_comma l) taken) in
    ap (λ list. with_plain list (reads MoreArguments l rest)) pushed ∙ sym (ap (with_plain front) here ∙ kept l front a t rest (reads MoreArguments l rest)) ∙ so_far

-- One more argument, and none behind it.
pub plain_done : (l : Limits) (front now : List Arg) (w : List Lexeme) (a : Arg) (v : List Lexeme) (all : Outcome Given) → false ≡ next_two ident (equals ∷ []) w → reads OneArgument l w ≡ read a v → false ≡ next_in (comma ∷ []) v → now ≡ front ++ a ∷ [] → with_plain front (reads MoreArguments l w) ≡ all → all ≡ read (now, []) v
plain_done l front now w a v all two one next pushed so_far =
    sym so_far ∙ ap (with_plain front) (opened l w two ∙ ap (after_one l) one ∙ ap (with_more a) (choose_false (next_in (comma ∷ []) v) (after_comma l (reads_token (comma ∷ []) v)) (read None v) (sym next))) ∙ ap (λ list. read (list, []) v) (sym pushed)

-- An argument that is stuck ends the reading of them all.
pub plain_stuck : (l : Limits) (front : List Arg) (w : List Lexeme) (fault : Fault) (rest : List Lexeme) (all : Outcome Given) → false ≡ next_two ident (equals ∷ []) w → reads OneArgument l w ≡ stuck fault rest → with_plain front (reads MoreArguments l w) ≡ all → all ≡ stuck fault rest
plain_stuck l front w fault rest all two one so_far = sym so_far ∙ ap (with_plain front) (opened l w two ∙ ap (after_one l) one)

named_opened : (l : Limits) (w : List Lexeme) → true ≡ next_two ident (equals ∷ []) w → reads MoreArguments l w ≡ (reads_form named_list l w >>= λ x. read (given_named x.0) x.1)
named_opened l w two = more_arguments_are l w ∙ choose_true (next_two ident (equals ∷ []) w) (reads_form named_list l w >>= λ x. read (given_named x.0) x.1) _ (sym two)

-- The named arguments come last.
pub named_done : (l : Limits) (front : List Arg) (w : List Lexeme) (named : _) (rest : List Lexeme) (all : Outcome Given) → true ≡ next_two ident (equals ∷ []) w → reads_form named_list l w ≡ read named rest → with_plain front (reads MoreArguments l w) ≡ all → all ≡ read (front, named) rest
named_done l front w named rest all two r so_far =
    sym so_far ∙ ap (with_plain front) (named_opened l w two ∙ ap (λ o. o >>= λ x. let given : Outcome Given = read (given_named x.0) x.1 in given) r) ∙ ap (λ list. read (list, named) rest) (append-nil front)

pub named_stuck : (l : Limits) (front : List Arg) (w : List Lexeme) (fault : Fault) (rest : List Lexeme) (all : Outcome Given) → true ≡ next_two ident (equals ∷ []) w → reads_form named_list l w ≡ stuck fault rest → with_plain front (reads MoreArguments l w) ≡ all → all ≡ stuck fault rest
named_stuck l front w fault rest all two r so_far = sym so_far ∙ ap (with_plain front) (named_opened l w two ∙ ap (λ o. o >>= λ x. let given : Outcome Given = read (given_named x.0) x.1 in given) r)

-- A comma that stands there can be taken.
pub comma_taken : (v : List Lexeme) (fault : Fault) (rest : List Lexeme) → true ≡ next_in (comma ∷ []) v → reads_token (comma ∷ []) v ≡ stuck fault rest → ⊥
comma_taken [] fault rest next e = cc
comma_taken (t ∷ v) fault rest next e = let read_it : reads_token (comma ∷ []) (t ∷ v) ≡ read t v = choose_true (has (comma ∷ []) (code_of t)) (read t v) (stuck _ (t ∷ v)) (sym next) in cc
