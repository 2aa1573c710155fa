-- The productions that hold no class, and so no name behind `end`.
use Rattle.std.specs.Prelude.{◌&&◌, Bool, true, false}
use Rattle.mo_grammar.specs.Grammar.{a_construct, a_class, empty, token, seq, either, either2, many, made, placed, nested, end_name, under, unless, symbol}
use Rattle.mo_grammar.specs.Symbols.{Symbol, Form, ElementItems, Compositions, Sections, SectionEquations, ClassDefinitions, Files}

-- expressions, references, names, modifications, equations, statements and imports
abbrev pub is_classless : Symbol → Bool
is_classless (ElementItems hidden) = false
is_classless Compositions = false
is_classless Sections = false
is_classless SectionEquations = false
is_classless ClassDefinitions = false
is_classless Files = false
is_classless _ = true

-- the parts of the grammar that lead to such productions alone
abbrev pub is_classless_form : {A : Type 0} → Form A → Bool
is_classless_form (empty a) = true
is_classless_form (token codes) = true
is_classless_form (seq g h) = is_classless_form g && is_classless_form h
is_classless_form (either g h) = is_classless_form g && is_classless_form h
is_classless_form (either2 c ds g h) = is_classless_form g && is_classless_form h
is_classless_form (many g) = is_classless_form g
is_classless_form (made f g) = is_classless_form g
is_classless_form (placed g) = is_classless_form g
is_classless_form (nested a_construct g) = is_classless_form g
is_classless_form (nested a_class g) = false
is_classless_form end_name = false
is_classless_form (under called g h) = false
is_classless_form (unless test g h) = is_classless_form g && is_classless_form h
is_classless_form (symbol x) = is_classless x
