-- Files give one thing only: reading them, their tokens, their trees and their classes leaves no choice.
use Rattle.std.proofs.Common.{◌≡◌, ℕ, ◌+◌, ◌-◌, ◌≤◌, List, [], ◌∷◌, ◌++◌, length, Some, None, min, refl, sym, ap, subst, ◌∙◌, arith}
use Rattle.std.specs.Prelude.{IsUtf8, Result, Ok, Err}
use Rattle.std.specs.Str.Lossy.{utf8_valid_len}
use Rattle.std.proofs.lemmas.List.{append_cancel_left, append_assoc}
use Rattle.mo_syntax.specs.declared.class.FileTree.{FileTree}
use Rattle.mo_syntax.specs.declared.place.Broken.{Broken}
use Rattle.mo_syntax.specs.Lexeme.{Lexeme}
use Rattle.mo_lexer.specs.Lexing.{Lexes, IsRefused}
use Rattle.mo_lexer.proofs.Unique.{same_tokens}
use Rattle.mo_lexer.proofs.Refusals.{same_refusal, none_where_refused}
use Rattle.mo_grammar.specs.declared.fault.Fault.{Fault}
use Rattle.mo_grammar.specs.declared.fault.Fault.TheVariants.{Misplaced, Misnamed, TooDeep}
use Rattle.mo_grammar.specs.Answers.{broken_at}
use Rattle.mo_grammar.specs.Language.{whole_limits, HasFaultAfter}
use Rattle.mo_grammar.specs.Grammar.{BegunIn}
use Rattle.mo_grammar.specs.Productions.{rule}
use Rattle.mo_grammar.specs.Symbols.{Files}
use Rattle.mo_grammar.specs.Tables.{tables}
use Rattle.mo_grammar.proofs.Checked.{known}
use Rattle.mo_grammar.proofs.Fronts.{front_begins}
use Rattle.mo_grammar.proofs.GrammarLaws.{one_value, one_impossible}
use Rattle.mo_grammar.proofs.Tested.{passed}
use Rattle.mo_ports.specs.Contents.{Contents}
use Rattle.mo_front.specs.Files.{IsText, BreaksFile, too_long, not_utf8, breaks_at, Reads, none, broken, text, later, Each, given, HasTree, HasNoTree, Tokens, Trees}
use Rattle.mo_front.specs.Limits.{file_limit, all_files_limit}
use Rattle.mo_flatten.proofs.Alone.{flattens_alone}
use Rattle.mo_front.specs.Told.{Outcome, flat, broken, TreesGive, no_tree, not_flattened, flattened, TextsGive, no_tokens, no_trees, trees, FilesGive, unread, read}
use Rattle.mo_syntax.specs.declared.rules.TheConstants.{NOT_UTF_8}

is_some : {A : Type 0} (a b : A) → Some a ≡ Some b → a ≡ b
is_some a b e = cc

ok_is_no_stop : {A : Type 0} (a : A) (b : Broken) → ◌≡◌ {A = Result A Broken} (Ok a) (Err b) → ⊥
ok_is_no_stop a b e = cc

is_ok : {A : Type 0} (a b : A) → ◌≡◌ {A = Result A Broken} (Ok a) (Ok b) → a ≡ b
is_ok a b e = cc

err_is : {A : Type 0} (b c : Broken) → ◌≡◌ {A = Result A Broken} (Err b) (Err c) → b ≡ c
err_is b c e = cc

-- ---- reading

module _ (contents : Contents) where
  one_text : (left : ℕ) (name bytes other : List ℕ) → IsText contents left name bytes → IsText contents left name other → bytes ≡ other
  one_text left name bytes other a b = is_some bytes other (sym a.holds ∙ b.holds)

  text_breaks_nothing : (k left : ℕ) (name held : List ℕ) (b : Broken) → IsText contents left name held → BreaksFile contents k left name b → ⊥
  text_breaks_nothing k left name held b t (too_long bytes holds past is) =
      let same : bytes ≡ held = is_some bytes held (sym holds ∙ t.holds) in
      let within : length bytes ≤ min file_limit left = subst (λ x. length x ≤ min file_limit left) (sym same) t.within in
      omega (arith, past, within)
  text_breaks_nothing k left name held b t (not_utf8 bytes holds within wrong is) =
      wrong (subst IsUtf8 (is_some held bytes (sym t.holds ∙ holds)) t.utf8)

  one_break : (k left : ℕ) (name : List ℕ) (b c : Broken) → BreaksFile contents k left name b → BreaksFile contents k left name c → b ≡ c
  one_break k left name b c (too_long bytes holds past is) (too_long others holds' past' is') = is ∙ sym is'
  one_break k left name b c (too_long bytes holds past is) (not_utf8 others holds' within wrong is') =
      let same : others ≡ bytes = is_some others bytes (sym holds' ∙ holds) in
      let short : length bytes ≤ min file_limit left = subst (λ x. length x ≤ min file_limit left) same within in
      absurd (omega (arith, past, short))
  one_break k left name b c (not_utf8 others holds' within wrong is') (too_long bytes holds past is) =
      let same : others ≡ bytes = is_some others bytes (sym holds' ∙ holds) in
      let short : length bytes ≤ min file_limit left = subst (λ x. length x ≤ min file_limit left) same within in
      absurd (omega (arith, past, short))
  one_break k left name b c (not_utf8 bytes holds within wrong is) (not_utf8 others holds' within' wrong' is') =
      is ∙ ap (λ x. breaks_at NOT_UTF_8 k (utf8_valid_len x)) (is_some bytes others (sym holds ∙ holds')) ∙ sym is'

  moved : (k left : ℕ) (names : List (List ℕ)) (r : Result (List (List ℕ)) Broken) (bytes other : List ℕ) → bytes ≡ other → Reads contents (k + 1) (left - length bytes) names r → Reads contents (k + 1) (left - length other) names r
  moved k left names r bytes other same more = subst (λ x. Reads contents (k + 1) (left - length x) names r) same more

  pub one_reading : (k left : ℕ) (names : List (List ℕ)) (r s : Result (List (List ℕ)) Broken) → Reads contents k left names r → Reads contents k left names s → r ≡ s
  one_reading k left [] _ _ none none = refl
  one_reading k left (name ∷ names) _ _ (broken {b = b} x) (broken {b = c} y) = ap Err (one_break k left name b c x y)
  one_reading k left (name ∷ names) _ _ (broken {b = b} x) (text {text = t} y more) = absurd (text_breaks_nothing k left name t b y x)
  one_reading k left (name ∷ names) _ _ (broken {b = b} x) (later t y more) = absurd (text_breaks_nothing k left name t b y x)
  one_reading k left (name ∷ names) _ _ (text {text = t} y more) (broken {b = b} x) = absurd (text_breaks_nothing k left name t b y x)
  one_reading k left (name ∷ names) _ _ (later t y more) (broken {b = b} x) = absurd (text_breaks_nothing k left name t b y x)
  one_reading k left (name ∷ names) _ _ (text {text = t} {texts = ts} x more) (text {text = u} {texts = us} y rest) =
      let same : t ≡ u = one_text left name t u x y in
      let tails : ts ≡ us = is_ok ts us (one_reading (k + 1) (left - length t) names (Ok ts) (Ok us) more (moved k left names (Ok us) u t (sym same) rest)) in
      rw (same, tails) refl
  one_reading k left (name ∷ names) _ _ (text {text = t} {texts = ts} x more) (later {b = b} u y rest) =
      absurd (ok_is_no_stop ts b (one_reading (k + 1) (left - length t) names (Ok ts) (Err b) more (moved k left names (Err b) u t (one_text left name u t y x) rest)))
  one_reading k left (name ∷ names) _ _ (later {b = b} u y rest) (text {text = t} {texts = ts} x more) =
      absurd (ok_is_no_stop ts b (one_reading (k + 1) (left - length t) names (Ok ts) (Err b) more (moved k left names (Err b) u t (one_text left name u t y x) rest)))
  one_reading k left (name ∷ names) _ _ (later {b = b} t x more) (later {b = c} u y rest) =
      one_reading (k + 1) (left - length t) names (Err b) (Err c) more (moved k left names (Err c) u t (one_text left name u t y x) rest)

-- ---- a phase that is asked of one file after another

module _ {A B : Type 0} (gives : ℕ → A → B → Type 0) (breaks : ℕ → A → Broken → Type 0)
    (one : (k : ℕ) (x : A) (y z : B) → gives k x y → gives k x z → y ≡ z)
    (one_break : (k : ℕ) (x : A) (b c : Broken) → breaks k x b → breaks k x c → b ≡ c)
    (not_both : (k : ℕ) (x : A) (y : B) (b : Broken) → gives k x y → breaks k x b → ⊥) where
  pub one_phase : (k : ℕ) (xs : List A) (r s : Result (List B) Broken) → Each gives breaks k xs r → Each gives breaks k xs s → r ≡ s
  one_phase k [] _ _ none none = refl
  one_phase k (x ∷ xs) _ _ (broken {b = b} p) (broken {b = c} q) = ap Err (one_break k x b c p q)
  one_phase k (x ∷ xs) _ _ (broken {b = b} p) (given {y = y} q rest) = absurd (not_both k x y b q p)
  one_phase k (x ∷ xs) _ _ (broken {b = b} p) (later y q rest) = absurd (not_both k x y b q p)
  one_phase k (x ∷ xs) _ _ (given {y = y} q rest) (broken {b = b} p) = absurd (not_both k x y b q p)
  one_phase k (x ∷ xs) _ _ (later y q rest) (broken {b = b} p) = absurd (not_both k x y b q p)
  one_phase k (x ∷ xs) _ _ (given {y = y} {ys = ys} p more) (given {y = z} {ys = zs} q rest) =
      let tails : ys ≡ zs = is_ok ys zs (one_phase (k + 1) xs (Ok ys) (Ok zs) more rest) in
      rw (one k x y z p q, tails) refl
  one_phase k (x ∷ xs) _ _ (given {ys = ys} p more) (later {b = b} z q rest) = absurd (ok_is_no_stop ys b (one_phase (k + 1) xs (Ok ys) (Err b) more rest))
  one_phase k (x ∷ xs) _ _ (later {b = b} z q rest) (given {ys = ys} p more) = absurd (ok_is_no_stop ys b (one_phase (k + 1) xs (Ok ys) (Err b) more rest))
  one_phase k (x ∷ xs) _ _ (later {b = b} y p more) (later {b = c} z q rest) = one_phase (k + 1) xs (Err b) (Err c) more rest

-- ---- trees

one_tree : (k : ℕ) (tokens : List Lexeme) (a b : FileTree) → HasTree k tokens a → HasTree k tokens b → a ≡ b
one_tree k tokens a b s t = one_value tables rule passed Files whole_limits whole_limits tokens a b s t

one_fault : (before : List Lexeme) (t : Lexeme) (f g : Fault) → HasFaultAfter Files whole_limits before t f → HasFaultAfter Files whole_limits before t g → f ≡ g
one_fault before t Misplaced Misplaced p q = refl
one_fault before t Misplaced Misnamed p q = absurd (p.1 q.1)
one_fault before t Misplaced TooDeep p q = absurd (p.0 q)
one_fault before t Misnamed Misplaced p q = absurd (q.1 p.1)
one_fault before t Misnamed Misnamed p q = refl
one_fault before t Misnamed TooDeep p q = absurd (p.0 q)
one_fault before t TooDeep Misplaced p q = absurd (q.0 p)
one_fault before t TooDeep Misnamed p q = absurd (q.0 p)
one_fault before t TooDeep TooDeep p q = refl

first_of : {A : Type 0} (x y : A) (xs ys : List A) → x ∷ xs ≡ y ∷ ys → x ≡ y
first_of x y xs ys e = cc

one_impossible_token : (k : ℕ) (tokens : List Lexeme) (b c : Broken) → HasNoTree k tokens b → HasNoTree k tokens c → b ≡ c
one_impossible_token k tokens b c p q =
    let same : p.before ≡ q.before = one_impossible tables rule passed Files whole_limits tokens p.before p.rest q.before q.rest p.token q.token p.parts q.parts p.impossible q.impossible in
    let parts : q.before ++ p.token ∷ p.rest ≡ q.before ++ q.token ∷ q.rest = ap (λ x. x ++ p.token ∷ p.rest) (sym same) ∙ sym p.parts ∙ q.parts in
    let left : p.token ∷ p.rest ≡ q.token ∷ q.rest = append_cancel_left q.before _ _ parts in
    let token : p.token ≡ q.token = first_of _ _ _ _ left in
    let why : HasFaultAfter Files whole_limits q.before q.token p.fault = subst (λ t. HasFaultAfter Files whole_limits q.before t p.fault) token (subst (λ x. HasFaultAfter Files whole_limits x p.token p.fault) same p.why) in
    p.is ∙ ap (broken_at p.fault) left ∙ ap (λ f. broken_at f (q.token ∷ q.rest)) (one_fault q.before q.token p.fault q.fault why q.why) ∙ sym q.is

tree_has_no_impossible_token : (k : ℕ) (tokens : List Lexeme) (tree : FileTree) (b : Broken) → HasTree k tokens tree → HasNoTree k tokens b → ⊥
tree_has_no_impossible_token k tokens tree b s p =
    let parts : tokens ≡ (p.before ++ p.token ∷ []) ++ p.rest = p.parts ∙ sym (append_assoc p.before (p.token ∷ []) p.rest) in
    let all = (known tables rule passed s.0).spelled_begins Files whole_limits tokens tree s.1 in
    p.impossible.1 (front_begins tables rule passed Files whole_limits (p.before ++ p.token ∷ []) p.rest (s.0, subst (λ w. BegunIn rule s.0 Files whole_limits w) parts all))

-- ---- class trees

no_some : {A : Type 0} (a : A) → None ≡ Some a → ⊥
no_some a e = cc

module _ (path : List (List ℕ)) (files : List FileTree) where
  one_of_trees : (o p : Outcome) → TreesGive path files o → TreesGive path files p → o ≡ p
  one_of_trees o p (no_tree b tree is) (no_tree c tree' is') = is ∙ ap broken (is_some b c (sym tree ∙ tree')) ∙ sym is'
  one_of_trees o p (no_tree b tree is) (not_flattened c tree' tells is') = absurd (no_some b (sym tree' ∙ tree))
  one_of_trees o p (no_tree b tree is) (flattened m tree' tells is') = absurd (no_some b (sym tree' ∙ tree))
  one_of_trees o p (not_flattened b tree tells is) (no_tree c tree' is') = absurd (no_some c (sym tree ∙ tree'))
  one_of_trees o p (not_flattened b tree tells is) (not_flattened c tree' tells' is') = is ∙ ap broken (err_is b c (flattens_alone files path (Err b) (Err c) tells tells')) ∙ sym is'
  one_of_trees o p (not_flattened b tree tells is) (flattened m tree' tells' is') = absurd (ok_is_no_stop m b (flattens_alone files path (Ok m) (Err b) tells' tells))
  one_of_trees o p (flattened m tree tells is) (no_tree c tree' is') = absurd (no_some c (sym tree ∙ tree'))
  one_of_trees o p (flattened m tree tells is) (not_flattened c tree' tells' is') = absurd (ok_is_no_stop m c (flattens_alone files path (Ok m) (Err c) tells tells'))
  one_of_trees o p (flattened m tree tells is) (flattened n tree' tells' is') = is ∙ ap flat (is_ok m n (flattens_alone files path (Ok m) (Ok n) tells tells')) ∙ sym is'

one_lexing : (texts : List (List ℕ)) (r s : Result (List (List Lexeme)) Broken) → Tokens texts r → Tokens texts s → r ≡ s
one_lexing texts r s p q = one_phase Lexes IsRefused (λ k x y z a b. sym (same_tokens k x y z a b)) (λ k x b c p q. sym (same_refusal k x b c p q)) (λ k x y b l refused. none_where_refused k x b y refused l) 1 texts r s p q

one_parsing : (tokens : List (List Lexeme)) (r s : Result (List FileTree) Broken) → Trees tokens r → Trees tokens s → r ≡ s
one_parsing tokens r s p q = one_phase HasTree HasNoTree one_tree one_impossible_token tree_has_no_impossible_token 1 tokens r s p q

module _ (path texts : List (List ℕ)) where
  parsed_too : (tokens others : List (List Lexeme)) (r : Result (List FileTree) Broken) → Tokens texts (Ok tokens) → Tokens texts (Ok others) → Trees others r → Trees tokens r
  parsed_too tokens others r lexed lexed' parsed = subst (λ x. Trees x r) (is_ok others tokens (one_lexing texts (Ok others) (Ok tokens) lexed' lexed)) parsed

  pub one_of_texts : (o p : Outcome) → TextsGive path texts o → TextsGive path texts p → o ≡ p
  one_of_texts o p (no_tokens b lexed is) (no_tokens c lexed' is') = is ∙ ap broken (err_is b c (one_lexing texts (Err b) (Err c) lexed lexed')) ∙ sym is'
  one_of_texts o p (no_tokens b lexed is) (no_trees c tokens lexed' parsed is') = absurd (ok_is_no_stop tokens b (one_lexing texts (Ok tokens) (Err b) lexed' lexed))
  one_of_texts o p (no_tokens b lexed is) (trees tokens files lexed' parsed gives) = absurd (ok_is_no_stop tokens b (one_lexing texts (Ok tokens) (Err b) lexed' lexed))
  one_of_texts o p (no_trees c tokens lexed' parsed is') (no_tokens b lexed is) = absurd (ok_is_no_stop tokens b (one_lexing texts (Ok tokens) (Err b) lexed' lexed))
  one_of_texts o p (trees tokens files lexed' parsed gives) (no_tokens b lexed is) = absurd (ok_is_no_stop tokens b (one_lexing texts (Ok tokens) (Err b) lexed' lexed))
  one_of_texts o p (no_trees b tokens lexed parsed is) (no_trees c others lexed' parsed' is') =
      is ∙ ap broken (err_is b c (one_parsing tokens (Err b) (Err c) parsed (parsed_too tokens others (Err c) lexed lexed' parsed'))) ∙ sym is'
  one_of_texts o p (no_trees b tokens lexed parsed is) (trees others files lexed' parsed' gives) =
      absurd (ok_is_no_stop files b (one_parsing tokens (Ok files) (Err b) (parsed_too tokens others (Ok files) lexed lexed' parsed') parsed))
  one_of_texts o p (trees others files lexed' parsed' gives) (no_trees b tokens lexed parsed is) =
      absurd (ok_is_no_stop files b (one_parsing tokens (Ok files) (Err b) (parsed_too tokens others (Ok files) lexed lexed' parsed') parsed))
  one_of_texts o p (trees tokens files lexed parsed gives) (trees others files' lexed' parsed' gives') =
      let same : files' ≡ files = is_ok files' files (one_parsing tokens (Ok files') (Ok files) (parsed_too tokens others (Ok files') lexed lexed' parsed') parsed) in
      one_of_trees path files o p gives (subst (λ x. TreesGive path x p) same gives')

-- ---- files

pub one_of_files : (path names : List (List ℕ)) (contents : Contents) (o p : Outcome) → FilesGive path names contents o → FilesGive path names contents p → o ≡ p
one_of_files path names contents o p (unread b reading is) (unread c reading' is') =
    is ∙ ap broken (err_is b c (one_reading contents 1 all_files_limit names (Err b) (Err c) reading reading')) ∙ sym is'
one_of_files path names contents o p (unread b reading is) (read texts reading' gives) =
    absurd (ok_is_no_stop texts b (one_reading contents 1 all_files_limit names (Ok texts) (Err b) reading' reading))
one_of_files path names contents o p (read texts reading' gives) (unread b reading is) =
    absurd (ok_is_no_stop texts b (one_reading contents 1 all_files_limit names (Ok texts) (Err b) reading' reading))
one_of_files path names contents o p (read texts reading gives) (read others reading' gives') =
    let same : others ≡ texts = is_ok others texts (one_reading contents 1 all_files_limit names (Ok others) (Ok texts) reading' reading) in
    one_of_texts path texts o p gives (subst (λ x. TextsGive path x p) same gives')
