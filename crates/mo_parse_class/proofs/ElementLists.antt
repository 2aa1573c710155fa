-- Elements one after another, and what follows them.
use Rattle.std.proofs.Common.{◌≡◌, Bool, true, false, List, [], ◌∷◌, ◌++◌, refl, sym, ap, ◌∙◌, append_assoc, Result, Ok, Err}
use Rattle.std.specs.Borrow.{Bor}
use Rattle.mo_syntax.specs.declared.token.Token.{Token}
use Rattle.mo_syntax.specs.declared.class.Item.{Item}
use Rattle.mo_grammar.specs.declared.fault.Fault.{Fault}
use Rattle.mo_grammar.specs.declared.reading.Halt.{Halt}
use Rattle.mo_grammar.specs.declared.reading.Halt.TheVariants.{NoMemory, Stuck}
use Rattle.mo_grammar.specs.Codes.{semicolon}
use Rattle.mo_grammar.specs.Lexeme.{Lexeme, lexemes}
use Rattle.mo_grammar.specs.Grammar.{Limits, symbol, many}
use Rattle.mo_grammar.specs.Forms.{before}
use Rattle.mo_grammar.specs.ClassTrees.{Inside, appended_items, items_before}
use Rattle.mo_grammar.specs.Symbols.{ElementItems, Compositions, Sections}
use Rattle.mo_grammar.specs.Classes.{elements}
use Rattle.mo_grammar.specs.Reading.{Outcome, read, stuck, unfinished, ◌>>=◌, next_in, Tables}
use Rattle.mo_grammar.specs.Tables.{tables}
use Rattle.mo_grammar.specs.Language.{reads, reads_form}
use Rattle.mo_grammar.specs.Answers.{Gives, with_rest}
use Rattle.mo_grammar.proofs.Decided.{decided}
use Rattle.mo_grammar.proofs.Loops.{with_front, many_turn, many_stuck}
use Rattle.mo_grammar.proofs.Readers.{compositions_are}
use Rattle.mo_parse_class.specs.steps.Parts.{element_list, flattened, with_items}

abbrev flat : Outcome (List (List Item)) → Outcome (List Item)
flat o = o >>= λ x. read (flattened x.0) x.1

flat_nothing : (o : Outcome (List (List Item))) → flat (with_front [] o) ≡ flat o
flat_nothing (read lists rest) = refl
flat_nothing (stuck fault rest) = refl
flat_nothing unfinished = refl

flat_one : (items : List Item) (o : Outcome (List (List Item))) → flat (with_front (items ∷ []) o) ≡ with_front items (flat o)
flat_one items (read lists rest) = refl
flat_one items (stuck fault rest) = refl
flat_one items unfinished = refl

front_twice : (front items : List Item) (o : Outcome (List Item)) → with_front front (with_front items o) ≡ with_front (front ++ items) o
front_twice front items (read list rest) = ap (λ v. let all : Outcome (List Item) = read v rest in all) (sym (append_assoc front items list))
front_twice front items (stuck fault rest) = refl
front_twice front items unfinished = refl

-- An element is read, and then those behind it.
pub elements_turn : (hidden : Bool) (l : Limits) (front now : List Item) (w : List Lexeme) (items : List Item) (rest : List Lexeme) (all : Outcome (List Item)) → true ≡ next_in (Tables.starts tables (ElementItems false)) w → reads_form (before (symbol (ElementItems hidden)) semicolon) l w ≡ read items rest → now ≡ front ++ items → with_front front (reads_form (element_list hidden) l w) ≡ all → with_front now (reads_form (element_list hidden) l rest) ≡ all
elements_turn hidden l front now w items rest all n r pushed so_far =
    let g = before (symbol (ElementItems hidden)) semicolon in
    let one : reads_form (element_list hidden) l w ≡ with_front items (reads_form (element_list hidden) l rest) =
    sym (flat_nothing (reads_form (many g) l w)) ∙ ap flat (many_turn g (decided tables g refl) refl l [] w items rest (sym n) r) ∙ flat_one items (reads_form (many g) l rest) in
    ap (λ list. with_front list (reads_form (element_list hidden) l rest)) pushed ∙ sym (front_twice front items (reads_form (element_list hidden) l rest)) ∙ ap (with_front front) (sym one) ∙ so_far

-- An element that is stuck ends the reading of them all.
pub elements_stuck : (hidden : Bool) (l : Limits) (front : List Item) (w : List Lexeme) (fault : Fault) (rest : List Lexeme) (all : Outcome (List Item)) → true ≡ next_in (Tables.starts tables (ElementItems false)) w → reads_form (before (symbol (ElementItems hidden)) semicolon) l w ≡ stuck fault rest → with_front front (reads_form (element_list hidden) l w) ≡ all → all ≡ stuck fault rest
elements_stuck hidden l front w fault rest all n r so_far =
    let g = before (symbol (ElementItems hidden)) semicolon in
    sym so_far ∙ ap (with_front front) (sym (flat_nothing (reads_form (many g) l w)) ∙ ap flat (many_stuck g l [] w fault rest (sym n) r))

appended : (more : List Item) (lists : List (List Item)) → appended_items more lists ≡ flattened lists ++ more
appended more [] = refl
appended more (items ∷ lists) = ap (λ v. items ++ v) (appended more lists) ∙ sym (append_assoc items (flattened lists) more)

pub items_follow : (o : Outcome (List (List Item))) (k : List Lexeme → Outcome Inside) → ((o >>= λ x. k x.1 >>= λ y. let two : Outcome (List (List Item) × Inside) = read (x.0, y.0) y.1 in two) >>= λ x. read (items_before x.0) x.1) ≡ (flat o >>= λ x. with_items x.0 (k x.1))
items_follow (read lists rest) k = go (k rest)
  where
    go : (p : Outcome Inside) → ((p >>= λ y. let two : Outcome (List (List Item) × Inside) = read (lists, y.0) y.1 in two) >>= λ x. read (items_before x.0) x.1) ≡ with_items (flattened lists) p
    go (read x u) = ap (λ v. let all : Outcome Inside = read (v, x.1) u in all) (appended x.0 lists)
    go (stuck fault u) = refl
    go unfinished = refl
items_follow (stuck fault rest) k = refl
items_follow unfinished k = refl

-- The elements of a class, and then its sections.
pub composition_is : (l : Limits) (w : List Lexeme) → reads Compositions l w ≡ (reads_form (element_list false) l w >>= λ x. with_items x.0 (reads Sections l x.1))
composition_is l w = compositions_are l w ∙ items_follow (reads_form (elements false) l w) (reads Sections l)

-- What follows the items that an answer gives.
pub gives_items : (r : Result (List Item × Bor (List Token)) Halt) (o : Outcome (List Item)) (p : Outcome Inside) (l : Limits) → Gives with_rest r o → p ≡ (o >>= λ x. with_items x.0 (reads Sections l x.1)) → Gives (λ x. with_items x.0 (reads Sections l (lexemes x.1.now))) r p
gives_items (Ok x) o p l g e = e ∙ ap (λ q. let all : Outcome Inside = q >>= λ y. with_items y.0 (reads Sections l y.1) in all) g
gives_items (Err (Stuck fault rest)) o p l g e = e ∙ ap (λ q. let all : Outcome Inside = q >>= λ y. with_items y.0 (reads Sections l y.1) in all) g
gives_items (Err NoMemory) o p l g e = tt
