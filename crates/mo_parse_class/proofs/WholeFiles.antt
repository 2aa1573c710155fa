-- What reading says of the tokens of a whole file.
use Rattle.std.proofs.Common.{◌≡◌, ℕ, List, [], ◌∷◌, ◌++◌, refl, sym, ap, subst, ◌∙◌, append_assoc, append-nil, Result, Ok, Err}
use Rattle.std.specs.Prelude.{IfOk, IfErr}
use Rattle.std.specs.Borrow.{Bor}
use Rattle.mo_syntax.specs.declared.token.Token.{Token}
use Rattle.mo_grammar.specs.declared.reading.Halt.{Halt}
use Rattle.mo_grammar.specs.declared.reading.Halt.TheVariants.{NoMemory, Stuck}
use Rattle.std.proofs.lemmas.List.{append_cancel_right}
use Rattle.mo_syntax.specs.declared.class.FileTree.{FileTree}
use Rattle.mo_grammar.specs.declared.fault.Fault.{Fault}
use Rattle.mo_grammar.specs.declared.fault.Fault.TheVariants.{Misplaced}
use Rattle.mo_grammar.specs.Codes.{end_of_file}
use Rattle.mo_grammar.specs.Lexeme.{Lexeme, lexemes, code_of, code_of_kind}
use Rattle.mo_grammar.specs.Grammar.{any_name, this_name, Limits, at_most, end_name_in}
use Rattle.mo_grammar.specs.Reading.{Outcome, read, stuck, unfinished}
use Rattle.mo_grammar.specs.Symbols.{Files}
use Rattle.mo_grammar.specs.Productions.{rule}
use Rattle.mo_grammar.specs.Tables.{tables}
use Rattle.mo_grammar.specs.Language.{whole_limits, Spells, Begins, reads}
use Rattle.mo_grammar.specs.Answers.{Gives, with_rest, broken_at}
use Rattle.mo_grammar.proofs.GrammarLaws.{read_law, whole_law, stuck_law}
use Rattle.mo_grammar.proofs.Checked.{known}
use Rattle.mo_grammar.proofs.Extending.{extends}
use Rattle.mo_grammar.proofs.Tested.{passed, level, productive, fillable}
use Rattle.mo_parse_class.specs.WholeFiles.{EndsAtEnd, IsAtImpossible, IsTree, IsFirstImpossible, answered, answered_tree}
use Rattle.mo_parse_class.proofs.Ended.{file_leaves, Leaves}

-- ---- the laws, of files

spelled_begins : (l : Limits) (w : List Lexeme) (a : FileTree) → Spells Files l w a → Begins Files l w
spelled_begins l w a s = (s.0, (known tables rule passed s.0).spelled_begins Files l w a s.1)

whole_read : (l : Limits) (w : List Lexeme) (a : FileTree) → Spells Files l w a → reads Files l w ≡ read a []
unfolding reads
whole_read (at_most n k name) w a s = whole_law tables rule passed Files refl (at_most n k name) w w [] a (record { parts = sym (append-nil w); begun = (n, k, spelled_begins (at_most n k name) w a s); ends = λ t more e. cc }) s

-- ---- where the end of a file stands

-- what is left of these tokens
abbrev Left : List Lexeme → List Lexeme → Type 0
Left all w = (u : List Lexeme) × (all ≡ u ++ w)

-- these tokens end it
abbrev Has : Lexeme → List Lexeme → List Lexeme → Type 0
Has e v w = (u : List Lexeme) × (w ≡ u ++ e ∷ v)

left_passes : (all : List Lexeme) (t : Lexeme) (w : List Lexeme) → Left all (t ∷ w) → Left all w
left_passes all t w (u, e) = (u ++ t ∷ [], e ∙ sym (append_assoc u (t ∷ []) w))

-- behind a file that is read stands the end of it
end_before : (l : Limits) (w : List Lexeme) (a : FileTree) (rest : List Lexeme) → reads Files l w ≡ read a rest → (u : List Lexeme) × (s : Lexeme) × (w ≡ u ++ s ∷ rest) × (code_of s ≡ end_of_file)
end_before l w a rest e = subst (Leaves (λ v. (u : List Lexeme) × (s : Lexeme) × (w ≡ u ++ s ∷ v) × (code_of s ≡ end_of_file)) (Left w)) e
    (file_leaves (Left w) (λ v. (u : List Lexeme) × (s : Lexeme) × (w ≡ u ++ s ∷ v) × (code_of s ≡ end_of_file)) (λ t v no_end p. left_passes w t v p) (λ t v is p. (p.0, t, p.1, is)) l w ([], refl))

has_passes : (e : Lexeme) (v : List Lexeme) → code_of e ≡ end_of_file → (t : Lexeme) (w : List Lexeme) → (code_of t ≡ end_of_file → ⊥) → Has e v (t ∷ w) → Has e v w
has_passes e v is t w no_end ([], q) = absurd (no_end (ap (code_of_first t) q ∙ is))
  where
    code_of_first : Lexeme → List Lexeme → ℕ
    code_of_first t [] = code_of t
    code_of_first t (u ∷ w) = code_of u
has_passes e v is t w no_end (x ∷ u, q) = (u, ap (tail_of w) q)
  where
    tail_of : List Lexeme → List Lexeme → List Lexeme
    tail_of w [] = w
    tail_of w (u ∷ v) = v

not_nothing : {P : Type 0} (u : List Lexeme) (e : Lexeme) (v : List Lexeme) → [] ≡ u ++ e ∷ v → P
not_nothing [] e v q = cc
not_nothing (x ∷ u) e v q = cc

-- behind the end of a whole file stands nothing
end_last : (l : Limits) (a : FileTree) (u : List Lexeme) (e : Lexeme) (v : List Lexeme) → code_of e ≡ end_of_file → reads Files l (u ++ e ∷ v) ≡ read a [] → v ≡ []
end_last l a u e v is r = subst (Leaves (λ w. w ≡ [] → v ≡ []) (Has e v)) r
    (file_leaves (Has e v) (λ w. w ≡ [] → v ≡ []) (has_passes e v is) last l (u ++ e ∷ v) (u, refl)) refl
  where
    last : (t : Lexeme) (w : List Lexeme) → code_of t ≡ end_of_file → Has e v (t ∷ w) → w ≡ [] → v ≡ []
    last t [] s ([], q) none = cc
    last t [] s (x ∷ y, q) none = not_nothing y e v (let cut : [] ≡ y ++ e ∷ v = cc in cut)
    last t (x ∷ w) s p none = cc

-- where reading a file is stuck, a token is left
pub token_left : (l : Limits) (w rest : List Lexeme) (fault : Fault) → EndsAtEnd w → reads Files l w ≡ stuck fault rest → (t : Lexeme) × (more : List Lexeme) × (rest ≡ t ∷ more)
token_left l w rest fault ended r = go rest (subst (Leaves (λ v. Unit {0}) (Has ended.last [])) r (file_leaves (Has ended.last []) (λ v. Unit {0}) (has_passes ended.last [] (ap code_of_kind ended.is_end)) (λ t v is p. tt) l w (ended.front, ended.parts)))
  where
    go : (rest : List Lexeme) → Has ended.last [] rest → (t : Lexeme) × (more : List Lexeme) × (rest ≡ t ∷ more)
    go [] (u, q) = not_nothing u ended.last [] q
    go (t ∷ more) p = (t, more, refl)

-- ---- the answers

pub file_found : (w : List Lexeme) (a : FileTree) → reads Files whole_limits w ≡ read a [] → Spells Files whole_limits w a
unfolding reads
file_found w a e =
    let found = read_law tables rule passed Files whole_limits w a [] e in
    subst (λ v. Spells Files whole_limits v a) (sym (found.1.parts ∙ append-nil found.0)) found.2

pub file_only : (w : List Lexeme) (a : FileTree) → Spells Files whole_limits w a → reads Files whole_limits w ≡ read a []
file_only w a s = whole_read whole_limits w a s

pub file_stuck : (w rest : List Lexeme) (fault : Fault) → EndsAtEnd w → reads Files whole_limits w ≡ stuck fault rest → IsAtImpossible w (broken_at fault rest)
unfolding reads
file_stuck w rest fault ended e =
    let there = token_left whole_limits w rest fault ended e in
    let law = stuck_law tables rule passed Files whole_limits w rest fault e in
    let why = law.3 there.0 there.1 there.2 in
    record { before = law.0; token = there.0; rest = there.1; fault = fault; parts = law.1 ∙ ap (λ v. law.0 ++ v) there.2; impossible = why.0; why = why.1; is = ap (broken_at fault) there.2 }

-- no token can stand behind the end of a file
nothing_behind : (l : Limits) (u : List Lexeme) (s t : Lexeme) → code_of s ≡ end_of_file → Begins Files l ((u ++ s ∷ []) ++ t ∷ []) → ⊥
nothing_behind l u s t is b =
    let x = extends tables rule passed level 10 productive fillable Files l ((u ++ s ∷ []) ++ t ∷ []) b in
    let all = ((u ++ s ∷ []) ++ t ∷ []) ++ x.0 in
    let same : all ≡ u ++ s ∷ t ∷ x.0 = append_assoc (u ++ s ∷ []) (t ∷ []) x.0 ∙ append_assoc u (s ∷ []) (t ∷ x.0) in
    let none = end_last (at_most x.2 x.3 (end_name_in l)) x.1 u s (t ∷ x.0) is (subst (λ v. reads Files (at_most x.2 x.3 (end_name_in l)) v ≡ read x.1 []) same (whole_read (at_most x.2 x.3 (end_name_in l)) all x.1 x.4)) in
    cc

pub file_longer : (w : List Lexeme) (a : FileTree) (t : Lexeme) (more : List Lexeme) → reads Files whole_limits w ≡ read a (t ∷ more) → IsAtImpossible w (broken_at Misplaced (t ∷ more))
unfolding reads
file_longer w a t more e =
    let found = read_law tables rule passed Files whole_limits w a (t ∷ more) e in
    let ended = end_before whole_limits w a (t ∷ more) e in
    let parts : w ≡ (ended.0 ++ ended.1 ∷ []) ++ t ∷ more = ended.2 ∙ sym (append_assoc ended.0 (ended.1 ∷ []) (t ∷ more)) in
    let same : found.0 ≡ ended.0 ++ ended.1 ∷ [] = append_cancel_right found.0 (ended.0 ++ ended.1 ∷ []) (t ∷ more) (sym found.1.parts ∙ parts) in
    record {
      before = ended.0 ++ ended.1 ∷ [];
      token = t;
      rest = more;
      fault = Misplaced;
      parts = parts;
      impossible = (subst (λ v. Begins Files whole_limits v) same (spelled_begins whole_limits found.0 a found.2), nothing_behind whole_limits ended.0 ended.1 t ended.3);
      why = ((λ b. nothing_behind (at_most b.0 b.1 (this_name [])) ended.0 ended.1 t ended.3 b.2), (λ b. nothing_behind (at_most b.0 b.1 any_name) ended.0 ended.1 t ended.3 b.2));
      is = refl;
    }

-- ---- of the reading that was made

abbrev value_of : Outcome FileTree → FileTree → FileTree
value_of (read a rest) other = a
value_of (stuck fault rest) other = other
value_of unfinished other = other

pub answered_found : (w : List Lexeme) (r : Result (FileTree × Bor (List Token)) Halt) → Gives with_rest r (reads Files whole_limits w) → IfOk (answered r) (λ tree. Spells Files whole_limits w tree)
answered_found w (Ok x) g = go (lexemes x.1.now) g
  where
    go : (rest : List Lexeme) → reads Files whole_limits w ≡ read x.0 rest → IfOk (answered_tree x.0 rest) (λ tree. Spells Files whole_limits w tree)
    go [] e = file_found w x.0 e
    go (t ∷ more) e = tt
answered_found w (Err (Stuck fault rest)) g = tt
answered_found w (Err NoMemory) g = tt

pub answered_only : (w : List Lexeme) (r : Result (FileTree × Bor (List Token)) Halt) → Gives with_rest r (reads Files whole_limits w) → (a : FileTree) → Spells Files whole_limits w a → IsTree a (answered r)
answered_only w (Ok x) g a s = go (lexemes x.1.now) (sym g ∙ file_only w a s)
  where
    go : (rest : List Lexeme) → read x.0 rest ≡ read a [] → IsTree a (answered_tree x.0 rest)
    go [] e = ap (λ o. value_of o a) e
    go (t ∷ more) e = cc
answered_only w (Err (Stuck fault rest)) g a s = let clash = sym g ∙ file_only w a s in cc
answered_only w (Err NoMemory) g a s = tt

pub answered_refused : (w : List Lexeme) (r : Result (FileTree × Bor (List Token)) Halt) → EndsAtEnd w → Gives with_rest r (reads Files whole_limits w) → IfErr (answered r) (IsFirstImpossible w)
answered_refused w (Ok x) ended g = go (lexemes x.1.now) g
  where
    go : (rest : List Lexeme) → reads Files whole_limits w ≡ read x.0 rest → IfErr (answered_tree x.0 rest) (IsFirstImpossible w)
    go [] e = tt
    go (t ∷ more) e = file_longer w x.0 t more e
answered_refused w (Err (Stuck fault rest)) ended g = file_stuck w (lexemes rest.now) fault ended g
answered_refused w (Err NoMemory) ended g = tt
