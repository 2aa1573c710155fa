-- Parts of the productions of classes that have a reader of their own.
use Rattle.std.specs.Prelude.{Bool, true, false, List, [], ◌∷◌, ◌++◌, map, Option, None}
use Rattle.mo_syntax.specs.declared.class.Body.{Body}
use Rattle.mo_syntax.specs.declared.class.ClassDefOf.{ClassDefOf}
use Rattle.mo_syntax.specs.declared.expr.Expr.{Expr}
use Rattle.mo_syntax.specs.declared.expr.ReferenceOf.{ReferenceOf}
use Rattle.mo_syntax.specs.declared.class.ElementFlags.{ElementFlags}
use Rattle.mo_syntax.specs.declared.class.Item.{Item}
use Rattle.mo_syntax.specs.declared.class.Item.TheVariants.{Member}
use Rattle.mo_syntax.specs.declared.class.Prefix.{Prefix}
use Rattle.mo_syntax.specs.declared.class.What.{What}
use Rattle.mo_syntax.specs.declared.class.What.TheVariants.{Component}
use Rattle.mo_grammar.specs.Codes.{ident, comma, semicolon, open_paren, close_paren, final_word, replaceable_word, extends_word}
use Rattle.mo_grammar.specs.Lexeme.{Lexeme}
use Rattle.mo_grammar.specs.Grammar.{empty, token, seq, either, made, symbol}
use Rattle.mo_grammar.specs.Forms.{first_of, second_of, optional, flag, behind, before, between, separated}
use Rattle.mo_grammar.specs.Trees.{or_nothing}
use Rattle.mo_grammar.specs.ClassTrees.{Declared, Equation, Inside, Limit, component_of, appended_items, elements_of, replaceable_whats, kept_whats, extends_items}
use Rattle.mo_grammar.specs.Reading.{Outcome, read, ◌>>=◌}
use Rattle.mo_grammar.specs.Symbols.{Form, TypeSpecs, Subscripts, ClassDefinitions, ClassMods}
use Rattle.mo_class_heads.specs.Prefixes.{words}
use Rattle.mo_grammar.specs.Classes.{prefix, declares, constraint, commented, elements, class_end, annotated_end, annotation_part, external_end}

-- ---- components

-- prefix type_spec [subscripts]
abbrev pub Head : Type 0
Head = Prefix × (ReferenceOf Expr × Option (List (Option Expr)))

abbrev pub head : Form Head
head = seq prefix (seq (symbol TypeSpecs) (optional (symbol Subscripts)))

-- a component with the head before it
abbrev pub what_of : Head → Declared × Option Expr → What
what_of h d = Component (component_of h.0 h.1.0 (or_nothing h.1.1) d.0 d.1)

-- [constraint comment], behind what is replaceable
abbrev pub limit : Bool → Form (Option Limit)
limit true = optional (commented constraint)
limit false = empty None

-- what an element declares, with its prefixes
abbrev pub members : Bool → Form (List Item)
members hidden = made (elements_of hidden) (seq words (either (made replaceable_whats (behind replaceable_word (seq declares (optional (commented constraint))))) (made kept_whats declares)))

-- what is declared, with these prefixes
abbrev pub member_of : ElementFlags → Option Limit → What → Item
member_of flags limit what = Member (record { flags = flags; what = what; limit = limit })

abbrev pub members_of : ElementFlags → Option Limit → List What → List Item
members_of flags limit whats = map (member_of flags limit) whats

-- extends type_spec [class_mod] [annotation_part]
abbrev pub extension : Bool → Form (List Item)
extension hidden = made (extends_items hidden) (behind extends_word (made first_of (seq (seq (symbol TypeSpecs) (optional (symbol ClassMods))) (optional annotation_part))))

-- elements, one after another
abbrev pub flattened : List (List Item) → List Item
flattened lists = appended_items [] lists

abbrev pub element_list : Bool → Form (List Item)
element_list hidden = made flattened (elements hidden)

-- ---- sections

-- items before those that follow
abbrev pub with_items : List Item → Outcome Inside → Outcome Inside
with_items front o = o >>= λ x. read (front ++ x.0.0, x.0.1) x.1

-- equations, and what follows them
abbrev pub before_sections : List Equation → Outcome Inside → Outcome (List Equation × Inside)
before_sections equations o = o >>= λ x. read (equations, x.0) x.1

abbrev pub with_equations : List Equation → Outcome (List Equation × Inside) → Outcome (List Equation × Inside)
with_equations front o = o >>= λ x. read (front ++ x.0.0, x.0.1) x.1

-- how a class ends
abbrev pub closing : Form Inside
closing = either external_end (either annotated_end class_end)

-- ---- classes

-- "(" type_spec "," IDENT {"," IDENT} ")"
abbrev pub derived : Form (ReferenceOf Expr × List Lexeme)
derived = between open_paren close_paren (seq (symbol TypeSpecs) (behind comma (separated comma (token (ident ∷ [])))))

-- ---- files

-- [final] class_def ";"
abbrev pub definition : Form (ClassDefOf Body)
definition = made second_of (seq (flag final_word) (before (symbol ClassDefinitions) semicolon))
