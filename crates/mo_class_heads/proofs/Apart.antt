-- What holds no class is read in a class as outside of all.
use Rattle.std.proofs.Common.{◌≡◌, ℕ, true, List, [], subst, Result}
use Rattle.mo_grammar.specs.declared.reading.Halt.{Halt}
use Rattle.mo_grammar.specs.Lexeme.{Lexeme}
use Rattle.mo_grammar.specs.Grammar.{at_most, EndName, this_name}
use Rattle.mo_grammar.specs.Reading.{Outcome}
use Rattle.mo_grammar.specs.Symbols.{Form}
use Rattle.mo_grammar.specs.Classless.{is_classless_form}
use Rattle.mo_grammar.specs.Language.{limits_inside, reads_form}
use Rattle.mo_grammar.specs.Answers.{Gives}
use Rattle.mo_grammar.proofs.Classless.{alike_form}

pub within : {A B : Type 0} (g : Form B) → is_classless_form g ≡ true → (seen : A → Outcome B) (r : Result A Halt) (n k : ℕ) (a : EndName) (w : List Lexeme) → Gives seen r (reads_form g (limits_inside n) w) → Gives seen r (reads_form g (at_most n k a) w)
within g e seen r n k a w h = subst (Gives seen r) (alike_form g e n 32 k (this_name []) a w) h
