-- What an element declares, with its prefixes.
use Rattle.std.proofs.Common.{◌≡◌, Bool, true, false, List, [], ◌∷◌, Option, None, refl, sym, ap, subst, ◌∙◌}
use Rattle.mo_syntax.specs.declared.class.ElementFlags.{ElementFlags}
use Rattle.mo_syntax.specs.declared.class.Item.{Item}
use Rattle.mo_syntax.specs.declared.class.What.{What}
use Rattle.mo_grammar.specs.Codes.{replaceable_word}
use Rattle.mo_grammar.specs.Lexeme.{Lexeme, code_of}
use Rattle.mo_grammar.specs.Grammar.{Limits, seq, either, made}
use Rattle.mo_grammar.specs.Forms.{behind, optional}
use Rattle.mo_grammar.specs.ClassTrees.{Limit, Placed, elements_of, kept_whats, replaceable_whats}
use Rattle.mo_grammar.specs.Symbols.{Form}
use Rattle.mo_grammar.specs.Classes.{declares, commented, constraint}
use Rattle.mo_grammar.specs.Reading.{Outcome, read, ◌>>=◌, next_in, reads_token}
use Rattle.mo_grammar.specs.Language.{whole_limits, reads_form}
use Rattle.mo_parse_class.specs.steps.Parts.{limit, members, members_of}
use Rattle.mo_class_heads.specs.Prefixes.{words, words_of}
use Rattle.mo_parse_class.proofs.SectionLists.{was_token, kept_behind}

abbrev Words : Type 0
Words = Bool × (Bool × (Bool × Bool))

abbrev tail : Form Placed
tail = either (made replaceable_whats (behind replaceable_word (seq declares (optional (commented constraint))))) (made kept_whats declares)

tail_at : (l : Limits) (u : Lexeme) (rest : List Lexeme) → code_of u ≡ replaceable_word → reads_form tail l (u ∷ rest) ≡ (reads_form (seq declares (limit true)) l rest >>= λ x. let all : Outcome Placed = read (replaceable_whats x.0) x.1 in all)
tail_at l u rest is = rw is (ap (λ o. let all : Outcome Placed = o >>= λ x. read (replaceable_whats x.0) x.1 in all) (kept_behind u (reads_form (seq declares (limit true)) l rest)))

tail_limited : (l : Limits) (w : List Lexeme) (t : Lexeme) (rest : List Lexeme) (whats : List What) (at : List Lexeme) (lim : Option Limit) (after : List Lexeme) → reads_token (replaceable_word ∷ []) w ≡ read t rest → reads_form declares l rest ≡ read whats at → reads_form (limit true) l at ≡ read lim after → reads_form tail l w ≡ read (whats, (true, lim)) after
tail_limited l w t rest whats at lim after e d f =
    let (u, is, code) = was_token replaceable_word w t rest e in
    let next : List What × List Lexeme → Outcome (List What × Option Limit) = λ x. reads_form (limit true) l x.1 >>= λ y. read (x.0, y.0) y.1 in
    ap (reads_form tail l) is ∙ tail_at l u rest code
    ∙ ap (λ o. let all : Outcome Placed = (o >>= next) >>= λ x. read (replaceable_whats x.0) x.1 in all) d
    ∙ ap (λ o. let all : Outcome Placed = (o >>= λ y. let two : Outcome (List What × Option Limit) = read (whats, y.0) y.1 in two) >>= λ x. read (replaceable_whats x.0) x.1 in all) f

tail_kept : (l : Limits) (w : List Lexeme) (whats : List What) (at : List Lexeme) → next_in (replaceable_word ∷ []) w ≡ false → reads_form declares l w ≡ read whats at → reads_form tail l w ≡ read (whats, (false, None)) at
tail_kept l w whats at n d = rw n (ap (λ o. let all : Outcome Placed = o >>= λ x. read (kept_whats x.0) x.1 in all) d)

with_words : (hidden : Bool) (l : Limits) (w : List Lexeme) (said : Words) (rest : List Lexeme) (placed : Placed) (after : List Lexeme) → reads_form words whole_limits w ≡ read said rest → reads_form tail l rest ≡ read placed after → reads_form (members hidden) l w ≡ read (elements_of hidden (said, placed)) after
with_words hidden l w said rest placed after e d =
    let next : Words × List Lexeme → Outcome (Words × Placed) = λ x. reads_form tail l x.1 >>= λ y. read (x.0, y.0) y.1 in
    ap (λ o. let all : Outcome (List Item) = (o >>= next) >>= λ x. read (elements_of hidden x.0) x.1 in all) e
    ∙ ap (λ o. let all : Outcome (List Item) = (o >>= λ y. let two : Outcome (Words × Placed) = read (said, y.0) y.1 in two) >>= λ x. read (elements_of hidden x.0) x.1 in all) d

limited_flags : (hidden : Bool) (flags : ElementFlags) (lim : Option Limit) (whats : List What) → flags.hidden ≡ hidden → elements_of hidden (words_of flags, (whats, (true, lim))) ≡ members_of (record flags { replaceable = true }) lim whats
limited_flags hidden flags lim whats e = subst (λ h. elements_of h (words_of flags, (whats, (true, lim))) ≡ members_of (record flags { replaceable = true }) lim whats) e refl

kept_flags : (hidden : Bool) (flags : ElementFlags) (whats : List What) → flags.hidden ≡ hidden → flags.replaceable ≡ false → elements_of hidden (words_of flags, (whats, (false, None))) ≡ members_of flags None whats
kept_flags hidden flags whats e f =
    subst (λ h. elements_of h (words_of flags, (whats, (false, None))) ≡ members_of flags None whats) e
    (subst (λ r. elements_of flags.hidden (words_of flags, (whats, (r, None))) ≡ members_of flags None whats) f refl)

-- what is replaceable
pub members_limited : (hidden : Bool) (l : Limits) (w : List Lexeme) (flags now : ElementFlags) (rest : List Lexeme) (t : Lexeme) (there : List Lexeme) (whats : List What) (at : List Lexeme) (lim : Option Limit) (after : List Lexeme) (items : List Item) → reads_form words whole_limits w ≡ read (words_of flags) rest → flags.hidden ≡ hidden → now ≡ record flags { replaceable = true } → reads_token (replaceable_word ∷ []) rest ≡ read t there → reads_form declares l there ≡ read whats at → reads_form (limit true) l at ≡ read lim after → items ≡ members_of now lim whats → reads_form (members hidden) l w ≡ read items after
members_limited hidden l w flags now rest t there whats at lim after items e h f r d s i =
    with_words hidden l w (words_of flags) rest (whats, (true, lim)) after e (tail_limited l rest t there whats at lim after r d s)
    ∙ ap (λ v. let all : Outcome (List Item) = read v after in all) (limited_flags hidden flags lim whats h ∙ sym (ap (λ (g : ElementFlags). members_of g lim whats) f) ∙ sym i)

-- what is not
pub members_kept : (hidden : Bool) (l : Limits) (w : List Lexeme) (flags : ElementFlags) (rest : List Lexeme) (whats : List What) (at : List Lexeme) (items : List Item) → reads_form words whole_limits w ≡ read (words_of flags) rest → flags.hidden ≡ hidden → flags.replaceable ≡ false → next_in (replaceable_word ∷ []) rest ≡ false → reads_form declares l rest ≡ read whats at → items ≡ members_of flags None whats → reads_form (members hidden) l w ≡ read items at
members_kept hidden l w flags rest whats at items e h f n d i =
    with_words hidden l w (words_of flags) rest (whats, (false, None)) at e (tail_kept l rest whats at n d)
    ∙ ap (λ v. let all : Outcome (List Item) = read v at in all) (kept_flags hidden flags whats h f ∙ sym i)
