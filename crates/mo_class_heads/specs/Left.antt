-- What is left of the limits.
use Rattle.mo_grammar.specs.Grammar.{Limits, at_most, this_name}
use Rattle.mo_class_heads.specs.declared.nesting.Left.{Left}

abbrev pub limits : Left → Limits
limits left = at_most left.constructs left.classes (this_name left.name.now)
