-- What the items of a class are in pieces spells its sections. Behind any item the rest is spelled in each section that may be
-- open there, so the items are gone through from the last one.
use Rattle.std.proofs.Common.{◌≡◌, ℕ, Bool, true, false, List, [], ◌∷◌, ◌++◌, ◌⊎◌, inl, inr, map, Option, Some, None, IsTrue, refl, sym, ap, subst, ◌∙◌, append_assoc, codes}
use Rattle.mo_syntax.specs.declared.class.Item.{Item}
use Rattle.mo_syntax.specs.declared.class.Item.TheVariants.{Equations, Algorithm}
use Rattle.mo_grammar.specs.Codes.{string, semicolon, public_word, protected_word, initial_word, equation_word, algorithm_word, external_word, annotation_word}
use Rattle.mo_grammar.specs.Lexeme.{Lexeme, code_of}
use Rattle.mo_grammar.specs.Grammar.{Limits, end_name_in, suits, has, identifiers, token, seq, either, many, made, symbol, SpelledBy, SpelledAs}
use Rattle.mo_grammar.specs.Forms.{second_of, optional, behind, before}
use Rattle.mo_grammar.specs.ClassTrees.{Equation, Statement, Inside, items_before, external_clause}
use Rattle.mo_grammar.specs.Symbols.{Symbol, ValueOf, Form, ClassMods, EquationItems, StatementItems, ElementItems, Compositions, Sections, SectionEquations}
use Rattle.mo_grammar.specs.Classes.{annotation_part, elements, statements, class_end, annotated_end, external_call, external_end, section, initial_section, other_section, sections, section_equations}
use Rattle.mo_grammar.specs.Productions.{rule}
use Rattle.mo_pieces.specs.declared.section.Section.{Section}
use Rattle.mo_pieces.specs.declared.section.Section.TheVariants.{Public, Protected, Behavior}
use Rattle.mo_pieces.specs.Pieces.{Piece, a_name, a_word, a_blank, a_line, deeper, shallower, tokens_of, IsToken}
use Rattle.mo_unparse.specs.Placeless.{placeless_equations, placeless_statement, placeless_statements}
use Rattle.mo_unparse.specs.PlacelessClasses.{placeless_item, placeless_inside}
use Rattle.mo_pieces.specs.Lines.{head_line, lines_of, on_a_line, word_if}
use Rattle.mo_pieces.specs.ShownEquations.{pieces_of_equation, pieces_of_statement}
use Rattle.mo_pieces.specs.ShownElements.{ShownItem, section_of, section_behind, head_between, items_from}
use Rattle.mo_pieces.specs.ShownClasses.{end_with, inside_of, section_with, shown_item}
use Rattle.mo_unparse.proofs.ClassLayers as layers
use Rattle.mo_unparse.proofs.PlacelessClassForms as placeless_forms
use Rattle.mo_unparse.proofs.Holding.{Fact, HoldsBy, HoldsEach, each_follows}
use Rattle.mo_unparse.proofs.Building.{IsPrinted, after_blank, after_deeper, after_line, after_shallower, by_absent, by_before, by_behind, by_end_name, by_left, by_made, by_none, by_pieces, by_right, by_right2, by_rule, by_seq, by_value, tokens_joined}
use Rattle.mo_unparse.proofs.WordPieces.{algorithm_word_is, end_word_is, equation_word_is, external_word_is, initial_word_is, protected_word_is, public_word_is, semicolon_is}
use Rattle.mo_unparse.proofs.Inverting.{behind_holds, before_holds, each_before_holds}
use Rattle.mo_unparse.proofs.PrintingEquations.{EquationPrinted}
use Rattle.mo_unparse.proofs.PrintingForms.{by_lines}
use Rattle.mo_unparse.proofs.PrintingStatements.{StatementPrinted}

-- ---- taking apart what is printed

made_printed : {A B : Type 0} {f : A → B} {g : Form A} {l : Limits} {ps : List Piece} {b : B} → IsPrinted (made f g) l ps b → (a : A) × IsPrinted g l ps a × (f a ≡ b)
made_printed p = let s = p.spelled in (s.0, record { spelled = s.1; tokens = p.tokens }, s.2)

-- one more value before a list and what follows it
more_before : {A B : Type 0} {g : Form A} {h : Form B} {l : Limits} {ps qs : List Piece} {a : A} {x : List A × B} → IsPrinted g l ps a → IsPrinted (seq (many g) h) l qs x → IsPrinted (seq (many g) h) l (ps ++ qs) (a ∷ x.0, x.1)
more_before {ps = ps} {qs = qs} p q =
    let s = q.spelled in record {
      spelled = (tokens_of ps ++ s.0, s.1, tokens_joined ps qs ∙ ap (λ v. tokens_of ps ++ v) s.2 ∙ sym (append_assoc (tokens_of ps) s.0 s.1), (tokens_of ps, s.0, refl, p.spelled, s.3), s.4);
      tokens = (by_seq p q).tokens;
    }

-- ---- what is read where a section is open

abbrev pub elements_then : Bool → Form Inside
elements_then hidden = made items_before (seq (elements hidden) (symbol Sections))

abbrev pub open_in : Section → Form Inside
open_in Public = elements_then false
open_in Protected = elements_then true
open_in Behavior = sections

opened : (current : Section) {l : Limits} {ps : List Piece} {x : Inside} → IsPrinted sections l ps x → IsPrinted (open_in current) l ps x
unfolding rule
opened Public p = by_made refl (by_seq by_none (by_rule Sections p))
opened Protected p = by_made refl (by_seq by_none (by_rule Sections p))
opened Behavior p = p

-- an element before others, and before what follows
item_then : (hidden : Bool) {l : Limits} {ps qs : List Piece} {item : Item} {x : Inside} → IsPrinted (before (symbol (ElementItems hidden)) semicolon) l ps (item ∷ []) → IsPrinted (elements_then hidden) l qs x → IsPrinted (elements_then hidden) l (ps ++ qs) (item ∷ x.0, x.1)
item_then hidden {item = item} p q = let y = made_printed q in by_made (ap (λ z. (item ∷ z.0, z.1)) y.2) (more_before p y.1)

public_then : {l : Limits} {ps : List Piece} {x : Inside} → IsPrinted (elements_then false) l ps x → IsPrinted sections l (head_line (a_word (codes "public") ∷ []) ++ ps) x
public_then p = let y = made_printed p in by_left (by_left (by_made y.2 (after_shallower (after_line (by_behind public_word_is (after_deeper y.1))))))

protected_then : {l : Limits} {ps : List Piece} {x : Inside} → IsPrinted (elements_then true) l ps x → IsPrinted sections l (head_line (a_word (codes "protected") ∷ []) ++ ps) x
protected_then p = let y = made_printed p in by_left (by_right (by_left (by_made y.2 (after_shallower (after_line (by_behind protected_word_is (after_deeper y.1)))))))

-- elements with the head of their section, where another is open
headed : (current : Section) (hidden : Bool) {l : Limits} {ps : List Piece} {x : Inside} → IsPrinted (elements_then hidden) l ps x → IsPrinted (open_in current) l (head_between current (section_of hidden) ++ ps) x
headed Public false p = p
headed Public true p = opened Public (protected_then p)
headed Protected false p = opened Protected (public_then p)
headed Protected true p = p
headed Behavior false p = public_then p
headed Behavior true p = protected_then p

-- equations and statements bring their own head
no_head : (current : Section) {l : Limits} {ps : List Piece} {x : Inside} → IsPrinted sections l ps x → IsPrinted (open_in current) l (head_between current Behavior ++ ps) x
no_head Public p = opened Public p
no_head Protected p = opened Protected p
no_head Behavior p = p

of_elements : (hidden : Bool) {l : Limits} {ps : List Piece} {x : Inside} → IsPrinted (open_in (section_of hidden)) l ps x → IsPrinted (elements_then hidden) l ps x
of_elements false p = p
of_elements true p = p

-- ---- items by themselves

abbrev pub ElementPrinted : Bool → Limits → Item → Type 0
ElementPrinted hidden l item = IsPrinted (before (symbol (ElementItems hidden)) semicolon) l (shown_item item).pieces (placeless_item item ∷ [])

-- an item among elements: one that wants its section there, and one that wants none in each
abbrev pub ItemPrinted : Bool → Limits → Item → Type 0
ItemPrinted hidden l item =
    (((shown_item item).section ≡ Some (section_of hidden)) × ElementPrinted hidden l item) ⊎ (((shown_item item).section ≡ None) × ((other : Bool) → ElementPrinted other l item))

-- ---- items, and the end of the class

abbrev pub end_line : List ℕ → List Piece
end_line name = a_line ∷ a_word (codes "end") ∷ a_blank ∷ a_name name ∷ []

abbrev pub end_pieces : Bool → List ℕ → List Piece
end_pieces external name = shallower ∷ end_with external name

-- the items from one on, where a section is open, with the end of the class
abbrev pub rest_pieces : Section → Inside → List ℕ → List Piece
rest_pieces current x name = items_from current (map shown_item x.0) ++ end_pieces x.1 name

-- an identifier that may stand behind `end`
abbrev pub MayEnd : Limits → Lexeme → Type 0
MayEnd l t = IsToken t × IsTrue (has identifiers (code_of t)) × IsTrue (suits (end_name_in l) t)

-- whichever name ends the class, and whichever section is open
abbrev pub InsidePrinted : Limits → Inside → Type 0
InsidePrinted l x = (t : Lexeme) → MayEnd l t → (current : Section) → IsPrinted (open_in current) l (rest_pieces current x t.text) (placeless_inside x)

regrouped : (current behind : Section) (item : ShownItem) (items : List ShownItem) (end : List Piece) → section_behind current item.section ≡ behind → head_between current behind ++ (item.pieces ++ (items_from behind items ++ end)) ≡ items_from current (item ∷ items) ++ end
regrouped current behind item items end e =
    sym (append_assoc (head_between current behind) (item.pieces ++ items_from behind items) end ∙ ap (λ v. head_between current behind ++ v) (append_assoc item.pieces (items_from behind items) end))
    ∙ ap (λ s. (head_between current s ++ (item.pieces ++ items_from s items)) ++ end) (sym e)

wanted : (current : Section) (o : Option Section) (s : Section) → o ≡ Some s → section_behind current o ≡ s
wanted current (Some s) t e = let same : s ≡ t = cc in same
wanted current None t e = cc

-- whether elements are hidden where an import stands
abbrev stays_hidden : Section → Bool
stays_hidden Public = false
stays_hidden Protected = true
stays_hidden Behavior = false

not_wanted : (current : Section) (o : Option Section) → o ≡ None → section_behind current o ≡ section_of (stays_hidden current)
not_wanted current (Some s) e = cc
not_wanted Public None e = refl
not_wanted Protected None e = refl
not_wanted Behavior None e = refl

item_before : (hidden : Bool) (l : Limits) (item : Item) (x : Inside) → ItemPrinted hidden l item → InsidePrinted l x → InsidePrinted l (item ∷ x.0, x.1)
item_before hidden l item x (inl (e, p)) rest t end current =
    by_pieces (regrouped current (section_of hidden) (shown_item item) (map shown_item x.0) (end_pieces x.1 t.text) (wanted current _ (section_of hidden) e))
    (headed current hidden (item_then hidden p (of_elements hidden (rest t end (section_of hidden)))))
item_before hidden l item x (inr (e, p)) rest t end current =
    let other = stays_hidden current in
    by_pieces (regrouped current (section_of other) (shown_item item) (map shown_item x.0) (end_pieces x.1 t.text) (not_wanted current _ e))
    (headed current other (item_then other (p other) (of_elements other (rest t end (section_of other)))))

items_before_it : (hidden : Bool) (l : Limits) (items : List Item) (x : Inside) → HoldsEach (ItemPrinted hidden l) items → InsidePrinted l x → InsidePrinted l (items ++ x.0, x.1)
items_before_it hidden l [] x h rest = rest
items_before_it hidden l (item ∷ items) x h rest = item_before hidden l item (items ++ x.0, x.1) h.0 (items_before_it hidden l items x h.1 rest)

lists_before_it : (hidden : Bool) (l : Limits) (lists : List (List Item)) (x : Inside) → HoldsEach (HoldsEach (ItemPrinted hidden l)) lists → InsidePrinted l x → InsidePrinted l (items_before (lists, x))
lists_before_it hidden l [] x h rest = rest
lists_before_it hidden l (items ∷ lists) x h rest = items_before_it hidden l items (items_before (lists, x)) h.0 (lists_before_it hidden l lists x h.1 rest)

-- ---- sections of equations and statements

no_more : {l : Limits} {ps : List Piece} {x : Inside} → IsPrinted sections l ps x → IsPrinted section_equations l ps ([], x)
no_more {l = l} {ps = ps} {x = x} p = record { spelled = go p.spelled; tokens = p.tokens }
  where
    go : SpelledBy (SpelledAs rule) sections l (tokens_of ps) x → SpelledBy (SpelledAs rule) section_equations l (tokens_of ps) ([], x)
    go (inl s) = inr (inr (inr (x, s, refl)))
    go (inr (inl s)) = inr (inl (x, s, refl))
    go (inr (inr s)) = inl (x, s, refl)

equations_then : {l : Limits} {ps : List Piece} {x : Inside} (list : List Equation) → HoldsEach (EquationPrinted l) list → IsPrinted sections l ps x → IsPrinted (symbol SectionEquations) l (lines_of pieces_of_equation list ++ ps) (placeless_equations list, x)
unfolding rule
equations_then [] h p = by_rule SectionEquations (no_more p)
equations_then {ps = ps} (a ∷ list) h p =
    by_pieces (sym (append_assoc (on_a_line (pieces_of_equation a)) (lines_of pieces_of_equation list) ps))
    (by_rule SectionEquations (by_right2 (by_right2 (by_left (by_made refl (by_seq (after_line (by_before h.0 semicolon_is)) (equations_then list h.1 p)))))))

started : (initial : Bool) (word : List ℕ) (ps qs : List Piece) {l : Limits} {x : Inside} → IsPrinted (section initial) l (a_word word ∷ deeper ∷ ps ++ qs) x → IsPrinted sections l ((head_line (word_if (codes "initial") initial ++ a_word word ∷ []) ++ ps) ++ qs) x
started false word ps qs p = after_shallower (after_line (by_left (by_right (by_right (by_left p)))))
started true word ps qs p = after_shallower (after_line (by_right (by_left (by_behind initial_word_is (after_blank p)))))

-- a section of these pieces before others
section_before : {l : Limits} (name : List ℕ) (item placeless : Item) (pieces : List Piece) (x : Inside) → (let shown : ShownItem = record { section = Some Behavior; pieces = pieces } in shown_item item ≡ shown) → placeless_item item ≡ placeless →
    IsPrinted sections l (pieces ++ rest_pieces Behavior x name) (placeless ∷ map placeless_item x.0, x.1) → (current : Section) → IsPrinted (open_in current) l (rest_pieces current (item ∷ x.0, x.1) name) (placeless_inside (item ∷ x.0, x.1))
section_before name item placeless pieces x e q p current =
    by_pieces (regrouped current Behavior (shown_item item) (map shown_item x.0) (end_pieces x.1 name) (wanted current _ Behavior (ap (λ s. s.section) e)))
    (by_pieces (ap (λ s. head_between current Behavior ++ (s.pieces ++ rest_pieces Behavior x name)) (sym e)) (by_value (ap (λ i. (i ∷ map placeless_item x.0, x.1)) (sym q)) (no_head current p)))

equations_before : (l : Limits) (initial : Bool) (list : List Equation) (x : Inside) → HoldsEach (EquationPrinted l) list → InsidePrinted l x → InsidePrinted l (Equations initial list ∷ x.0, x.1)
equations_before l initial list x h rest t end current =
    section_before t.text (Equations initial list) (Equations initial (placeless_equations list)) (section_with (codes "equation") pieces_of_equation initial list) x (layers.at_Equations initial list) (placeless_forms.at_Equations initial list)
    (started initial (codes "equation") (lines_of pieces_of_equation list) (rest_pieces Behavior x t.text) (by_left (by_made refl (by_behind equation_word_is (after_deeper (equations_then list h (rest t end Behavior))))))) current

algorithm_before : (l : Limits) (initial : Bool) (list : List Statement) (x : Inside) → HoldsEach (StatementPrinted l) list → InsidePrinted l x → InsidePrinted l (Algorithm initial list ∷ x.0, x.1)
unfolding rule
algorithm_before l initial list x h rest t end current =
    section_before t.text (Algorithm initial list) (Algorithm initial (placeless_statements list)) (section_with (codes "algorithm") pieces_of_statement initial list) x (layers.at_Algorithm initial list) (placeless_forms.at_Algorithm initial list)
    (started initial (codes "algorithm") (lines_of pieces_of_statement list) (rest_pieces Behavior x t.text) (by_right (by_made refl (by_behind algorithm_word_is (after_deeper (by_seq (by_lines pieces_of_statement placeless_statement list h) (by_rule Sections (rest t end Behavior)))))))) current

-- ---- the end of a class

abbrev external_rest : Form Inside
external_rest = made second_of (seq (seq (optional (token (string ∷ []))) (seq (optional external_call) (optional annotation_part))) (behind semicolon (either annotated_end class_end)))

ended : (l : Limits) (t : Lexeme) → MayEnd l t → IsPrinted class_end l (end_line t.text) ([], false)
ended l t h = after_line (by_made refl (by_behind end_word_is (after_blank (by_end_name t h.0 h.1 h.2))))

ended_inside : (l : Limits) (external : Bool) → InsidePrinted l ([], external)
ended_inside l false t end current = opened current (by_right (by_right (after_shallower (ended l t end))))
ended_inside l true t end current =
    opened current (by_left (by_right (by_right (by_right (by_left
    (after_shallower (after_line (by_made refl (by_behind external_word_is (by_made refl (by_seq (by_seq by_absent (by_seq by_absent by_absent)) (by_behind semicolon_is (by_right (ended l t end))))))))))))))

-- ---- what tokens spell

abbrev no_items : Inside
no_items = ([], false)

-- equations, and what follows
abbrev pub SectionEquationsPrinted : Limits → List Equation × Inside → Type 0
SectionEquationsPrinted l x = HoldsEach (EquationPrinted l) x.0 × InsidePrinted l x.1

-- What is known of the parts of sections: what holds of what tokens spell (P) gives that the pieces spell it.
pub record SectionPartsPrinted (P : Fact Symbol ValueOf) : Type 0 where
  pub elements : (hidden : Bool) (l : Limits) (items : List Item) → P (ElementItems hidden) l items → HoldsEach (ItemPrinted hidden l) items
  pub equation : (l : Limits) (a : Equation) → P EquationItems l a → EquationPrinted l a
  pub statement : (l : Limits) (a : Statement) → P StatementItems l a → StatementPrinted l a
  pub inside : (l : Limits) (x : Inside) → P Sections l x → InsidePrinted l x
  pub equations : (l : Limits) (x : List Equation × Inside) → P SectionEquations l x → SectionEquationsPrinted l x

module _ (P : Fact Symbol ValueOf) (parts : SectionPartsPrinted P) where
  lists_printed : (hidden : Bool) (l : Limits) (y : List (List Item) × Inside) → HoldsBy P IsToken (seq (elements hidden) (symbol Sections)) l y → InsidePrinted l (items_before y)
  lists_printed hidden l y h =
      let each = each_follows (P (ElementItems hidden) l) (HoldsEach (ItemPrinted hidden l)) (parts.elements hidden l) y.0 (each_before_holds P IsToken (symbol (ElementItems hidden)) semicolon l y.0 h.0) in
      lists_before_it hidden l y.0 y.1 each (parts.inside l y.1 h.1)

  -- elements, and what follows
  elements_printed : (hidden : Bool) (l : Limits) (x : Inside) → HoldsBy P IsToken (elements_then hidden) l x → InsidePrinted l x
  elements_printed hidden l x (y, h, e) = subst (InsidePrinted l) e (lists_printed hidden l y h)

  under_word : (c : ℕ) (hidden : Bool) (l : Limits) (x : Inside) → HoldsBy P IsToken (made items_before (behind c (seq (elements hidden) (symbol Sections)))) l x → InsidePrinted l x
  under_word c hidden l x (y, h, e) = subst (InsidePrinted l) e (lists_printed hidden l y (behind_holds P IsToken c (seq (elements hidden) (symbol Sections)) l y h))

  section_printed : (initial : Bool) (l : Limits) (x : Inside) → HoldsBy P IsToken (section initial) l x → InsidePrinted l x
  section_printed initial l x (inl (y, h, e)) =
      let p = parts.equations l y (behind_holds P IsToken equation_word (symbol SectionEquations) l y h) in
      subst (InsidePrinted l) e (equations_before l initial y.0 y.1 p.0 p.1)
  section_printed initial l x (inr (y, h, e)) =
      let inner = behind_holds P IsToken algorithm_word (seq statements (symbol Sections)) l y h in
      let each = each_follows (P StatementItems l) (StatementPrinted l) (parts.statement l) y.0 (each_before_holds P IsToken (symbol StatementItems) semicolon l y.0 inner.0) in
      subst (InsidePrinted l) e (algorithm_before l initial y.0 y.1 each (parts.inside l y.1 inner.1))

  class_end_holds : (l : Limits) (x : Inside) → HoldsBy P IsToken class_end l x → no_items ≡ x
  class_end_holds l x (t, h, e) = e

  annotated_end_holds : (l : Limits) (x : Inside) → HoldsBy P IsToken annotated_end l x → no_items ≡ x
  annotated_end_holds l x h =
      let inner = behind_holds P IsToken annotation_word (made second_of (seq (before (symbol ClassMods) semicolon) class_end)) l x h in
      class_end_holds l inner.0.1 inner.1.1 ∙ inner.2

  either_end_holds : (l : Limits) (x : Inside) → HoldsBy P IsToken (either annotated_end class_end) l x → no_items ≡ x
  either_end_holds l x (inl h) = annotated_end_holds l x h
  either_end_holds l x (inr h) = class_end_holds l x h

  end_printed : (l : Limits) (x : Inside) → no_items ≡ x → InsidePrinted l x
  end_printed l x e = subst (InsidePrinted l) e (ended_inside l false)

  external_printed : (l : Limits) (x : Inside) → HoldsBy P IsToken external_end l x → InsidePrinted l x
  external_printed l x (y, h, e) =
      let inner = behind_holds P IsToken external_word external_rest l y h in
      let end = either_end_holds l inner.0.1 (behind_holds P IsToken semicolon (either annotated_end class_end) l inner.0.1 inner.1.1) in
      subst (InsidePrinted l) (ap external_clause (end ∙ inner.2) ∙ e) (ended_inside l true)

  other_printed : (l : Limits) (x : Inside) → HoldsBy P IsToken other_section l x → InsidePrinted l x
  other_printed l x (inl h) = under_word public_word false l x h
  other_printed l x (inr (inl h)) = under_word protected_word true l x h
  other_printed l x (inr (inr (inl h))) = section_printed false l x h
  other_printed l x (inr (inr (inr (inl h)))) = external_printed l x h
  other_printed l x (inr (inr (inr (inr h)))) = end_printed l x (annotated_end_holds l x h)

  initial_printed : (l : Limits) (x : Inside) → HoldsBy P IsToken initial_section l x → InsidePrinted l x
  initial_printed l x h = section_printed true l x (behind_holds P IsToken initial_word (section true) l x h)

  pub sections_step : (l : Limits) (x : Inside) → HoldsBy P IsToken (rule Sections) l x → InsidePrinted l x
  unfolding rule
  sections_step l x (inl h) = other_printed l x h
  sections_step l x (inr (inl h)) = initial_printed l x h
  sections_step l x (inr (inr h)) = end_printed l x (class_end_holds l x h)

  pub section_equations_step : (l : Limits) (x : List Equation × Inside) → HoldsBy P IsToken (rule SectionEquations) l x → SectionEquationsPrinted l x
  unfolding rule
  section_equations_step l x (inl (y, h, e)) = subst (SectionEquationsPrinted l) e (tt, end_printed l y (class_end_holds l y h))
  section_equations_step l x (inr (inl (y, h, e))) = subst (SectionEquationsPrinted l) e (tt, initial_printed l y h)
  section_equations_step l x (inr (inr (inl (y, h, e)))) =
      let first = parts.equation l y.0 (before_holds P IsToken (symbol EquationItems) semicolon l y.0 h.0) in
      let more = parts.equations l y.1 h.1 in
      subst (SectionEquationsPrinted l) e ((first, more.0), more.1)
  section_equations_step l x (inr (inr (inr (y, h, e)))) = subst (SectionEquationsPrinted l) e (tt, other_printed l y h)

  pub composition_step : (l : Limits) (x : Inside) → HoldsBy P IsToken (rule Compositions) l x → InsidePrinted l x
  unfolding rule
  composition_step l x h = elements_printed false l x h

-- the items of a class from the first on
pub composition_printed : (l : Limits) (x : Inside) → InsidePrinted l x → (t : Lexeme) → MayEnd l t → IsPrinted (symbol Compositions) l (inside_of (map shown_item x.0) x.1 t.text) (placeless_inside x)
unfolding rule
composition_printed l x p t end = after_deeper (by_rule Compositions (p t end Public))
