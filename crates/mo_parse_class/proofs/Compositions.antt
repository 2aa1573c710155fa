-- The loops over the elements and the sections of a class.
use Rattle.std.proofs.Common.{◌≡◌, Bool, false, List, [], ◌++◌, refl, sym, ap, ◌∙◌, append_assoc, append-nil}
use Rattle.mo_syntax.specs.declared.class.Item.{Item}
use Rattle.mo_grammar.specs.declared.fault.Fault.{Fault}
use Rattle.mo_grammar.specs.Codes.{semicolon}
use Rattle.mo_grammar.specs.Lexeme.{Lexeme}
use Rattle.mo_grammar.specs.Grammar.{Limits, symbol}
use Rattle.mo_grammar.specs.Forms.{before}
use Rattle.mo_grammar.specs.ClassTrees.{Inside}
use Rattle.mo_grammar.specs.Symbols.{ElementItems, Compositions, Sections}
use Rattle.mo_grammar.specs.Reading.{Outcome, read, stuck, unfinished, ◌>>=◌, next_in, Tables}
use Rattle.mo_grammar.specs.Tables.{tables}
use Rattle.mo_grammar.specs.Language.{reads, reads_form}
use Rattle.mo_grammar.proofs.Loops.{with_front, many_done}
use Rattle.mo_parse_class.specs.steps.Parts.{element_list, flattened, with_items, closing}
use Rattle.mo_class_parts.specs.Starts.{section_codes}
use Rattle.mo_parse_class.proofs.ElementLists.{composition_is}
use Rattle.mo_parse_class.proofs.SectionLists.{closing_is}

-- Where no element begins, there are no more.
pub elements_done : (hidden : Bool) (l : Limits) (front : List Item) (w : List Lexeme) (all : Outcome (List Item)) → false ≡ next_in (Tables.starts tables (ElementItems false)) w → with_front front (reads_form (element_list hidden) l w) ≡ all → all ≡ read front w
elements_done hidden l front w all n so_far =
    sym so_far ∙ ap (λ o. with_front front (o >>= λ x. let list : Outcome (List Item) = read (flattened x.0) x.1 in list)) (many_done (before (symbol (ElementItems hidden)) semicolon) l w (sym n))
    ∙ ap (λ v. let list : Outcome (List Item) = read v w in list) (append-nil front)

pub composition_begins : (l : Limits) (w : List Lexeme) (items : List Item) (rest : List Lexeme) → reads_form (element_list false) l w ≡ read items rest → with_items items (reads Sections l rest) ≡ reads Compositions l w
composition_begins l w items rest e = sym (composition_is l w ∙ ap (λ o. let all : Outcome Inside = o >>= λ x. with_items x.0 (reads Sections l x.1) in all) e)

pub composition_stuck : (l : Limits) (w : List Lexeme) (fault : Fault) (stop : List Lexeme) → reads_form (element_list false) l w ≡ stuck fault stop → reads Compositions l w ≡ stuck fault stop
composition_stuck l w fault stop e = composition_is l w ∙ ap (λ o. let all : Outcome Inside = o >>= λ x. with_items x.0 (reads Sections l x.1) in all) e

items_twice : (front items : List Item) (o : Outcome Inside) → with_items front (with_items items o) ≡ with_items (front ++ items) o
items_twice front items (read x rest) = ap (λ v. let all : Outcome Inside = read (v, x.1) rest in all) (sym (append_assoc front items x.0))
items_twice front items (stuck fault rest) = refl
items_twice front items unfinished = refl

-- A section is read, and then those behind it.
pub sections_turn : (l : Limits) (front now : List Item) (w : List Lexeme) (items : List Item) (rest : List Lexeme) (all : Outcome Inside) → reads Sections l w ≡ with_items items (reads Sections l rest) → now ≡ front ++ items → with_items front (reads Sections l w) ≡ all → with_items now (reads Sections l rest) ≡ all
sections_turn l front now w items rest all r pushed so_far =
    ap (λ list. with_items list (reads Sections l rest)) pushed ∙ sym (items_twice front items (reads Sections l rest)) ∙ sym (ap (with_items front) r) ∙ so_far

pub sections_stuck : (l : Limits) (front : List Item) (w : List Lexeme) (fault : Fault) (stop : List Lexeme) (all : Outcome Inside) → reads Sections l w ≡ stuck fault stop → with_items front (reads Sections l w) ≡ all → all ≡ stuck fault stop
sections_stuck l front w fault stop all r so_far = sym so_far ∙ ap (with_items front) r

-- The class ends.
pub sections_end : (l : Limits) (front : List Item) (w : List Lexeme) (external : Bool) (rest : List Lexeme) (all : Outcome Inside) → false ≡ next_in section_codes w → reads_form closing l w ≡ read ([], external) rest → with_items front (reads Sections l w) ≡ all → all ≡ read (front, external) rest
sections_end l front w external rest all n r so_far =
    sym so_far ∙ ap (with_items front) (closing_is l w (sym n) ∙ r) ∙ ap (λ v. let one : Outcome Inside = read (v, external) rest in one) (append-nil front)

pub end_stuck : (l : Limits) (front : List Item) (w : List Lexeme) (fault : Fault) (stop : List Lexeme) (all : Outcome Inside) → false ≡ next_in section_codes w → reads_form closing l w ≡ stuck fault stop → with_items front (reads Sections l w) ≡ all → all ≡ stuck fault stop
end_stuck l front w fault stop all n r so_far = sym so_far ∙ ap (with_items front) (closing_is l w (sym n) ∙ r)
