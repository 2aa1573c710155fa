-- What pieces spell: one step for each form of a grammar, in which layout counts for nothing. A goal is taken apart from its
-- form; the pieces of the parts stand behind one another.
use Rattle.std.proofs.Common.{◌≡◌, ℕ, zero, suc, Bool, true, false, List, [], ◌∷◌, ◌++◌, inl, inr, map, flat_map, Option, Some, None, IsTrue, refl, sym, ap, subst, ◌∙◌, append-nil, eq-eqb, eqb-true, ◌||◌, ◌==◌, arith}
use Rattle.std.proofs.lemmas.Grind.{flat_map-append}
use Rattle.std.proofs.lemmas.List.Elements.{All-append, All-cons, All-nil}
use Rattle.mo_syntax.specs.declared.token.TokenKind.{TokenKind}
use Rattle.mo_syntax.specs.declared.token.TokenKind.TheVariants.{Ident, Keyword, Operator, Whole, Decimal, Str, End}
use Rattle.mo_grammar.specs.Codes.{ident, whole, decimal, string, end_of_file, operator_code, word_code}
use Rattle.mo_grammar.specs.Lexeme.{Lexeme, code_of, code_of_kind}
use Rattle.mo_grammar.specs.Grammar.{Opening, a_construct, EndName, any_name, this_name, Limits, left_inside, end_name_in, suits, renamed, Grammar, empty, token, seq, either, either2, many, made, placed, nested, end_name, under, unless, symbol, has, identifiers, first_passes, Productions, SpelledBy, SpelledEach, SpelledOr, SpelledIn, SpelledAs}
use Rattle.mo_grammar.specs.Reading.{may_be_empty, first_codes}
use Rattle.mo_grammar.specs.Forms.{optional, flag, behind, before, between, separated}
use Rattle.mo_grammar.specs.Symbols.{Symbol, ValueOf, Form}
use Rattle.mo_grammar.specs.Productions.{rule}
use Rattle.mo_grammar.specs.Tables.{tables}
use Rattle.mo_grammar.specs.Language.{Spells, SpelledByForm}
use Rattle.mo_grammar.proofs.Codes.{one_of}
use Rattle.mo_grammar.proofs.Limits.{Below, spelled_rises}
use Rattle.mo_grammar.proofs.Checked.{in_rises}
use Rattle.mo_grammar.proofs.Extending.{two_heights}
use Rattle.mo_grammar.proofs.Complete.{some_first}
use Rattle.mo_grammar.proofs.Tested.{passed}
use Rattle.mo_pieces.specs.Pieces.{Piece, a_name, a_word, a_mark, a_whole, a_decimal, a_string, a_blank, a_line, deeper, shallower, nowhere, token_of, placeless_token, tokens_of_piece, tokens_of, IsToken, AreTokens}
use Rattle.mo_unparse.proofs.Holding.{HoldsEach}

-- The tokens of the pieces are spelled as the text of tokens wants it, and they spell the value by the form.
pub record Printed (A : Type 0) (g : Form A) (l : Limits) (ps : List Piece) (a : A) : Type 0 where
  pub spelled : SpelledBy (SpelledAs rule) g l (tokens_of ps) a
  pub tokens : AreTokens (tokens_of ps)

abbrev pub IsPrinted : {A : Type 0} → Form A → Limits → List Piece → A → Type 0
IsPrinted {A = A} g l ps a = Printed A g l ps a

-- ---- derivations of one height

module _ {S : Type 0} {V : S → Type 0} where
  each_height : {A : Type 0} (rule : Productions S V) (g : Grammar S V A) (l : Limits) → ((w : List Lexeme) (a : A) → SpelledBy (SpelledAs rule) g l w a → (n : ℕ) × SpelledBy (SpelledIn rule n) g l w a) → (w : List Lexeme) (list : List A) → SpelledEach (SpelledBy (SpelledAs rule) g l) w list → (n : ℕ) × SpelledEach (SpelledBy (SpelledIn rule n) g l) w list
  each_height rule g l k w [] s = (zero, s)
  each_height rule g l k w (a ∷ list) (front, rest, cut, here, others) =
      let one = k front a here in
      let two = each_height rule g l k rest list others in
      let t = two_heights rule l l g (many g) front rest a list one.0 two.0 one.1 two.1 in
      (t.0, (front, rest, cut, t.1, t.2))

  or_height : {A B : Type 0} (rule : Productions S V) (g : Grammar S V A) (h : Grammar S V B) (l : Limits) (test : Lexeme → A → Bool) (front : List Lexeme) (a : A) (n : ℕ) → SpelledBy (SpelledIn rule n) g l front a → (rest : List Lexeme) (o : Option B) → ((b : B) → SpelledBy (SpelledAs rule) h l rest b → (m : ℕ) × SpelledBy (SpelledIn rule m) h l rest b) → SpelledOr (SpelledBy (SpelledAs rule) h l) (first_passes test front a) rest o → (m : ℕ) × SpelledBy (SpelledIn rule m) g l front a × SpelledOr (SpelledBy (SpelledIn rule m) h l) (first_passes test front a) rest o
  or_height rule g h l test front a n s rest None k t = (n, s, t)
  or_height rule g h l test front a n s rest (Some b) k t =
      let two = k b t in
      two_heights rule l l g h front rest a b n two.0 s two.1

  pub one_height : {A : Type 0} (rule : Productions S V) (g : Grammar S V A) (l : Limits) (w : List Lexeme) (a : A) → SpelledBy (SpelledAs rule) g l w a → (n : ℕ) × SpelledBy (SpelledIn rule n) g l w a
  one_height rule (empty b) l w a s = (zero, s)
  one_height rule (token codes) l w a s = (zero, s)
  one_height rule (seq g h) l w a (front, rest, cut, sg, sh) =
      let one = one_height rule g l front a.0 sg in
      let two = one_height rule h l rest a.1 sh in
      let t = two_heights rule l l g h front rest a.0 a.1 one.0 two.0 one.1 two.1 in
      (t.0, (front, rest, cut, t.1, t.2))
  one_height rule (either g h) l w a (inl s) = let one = one_height rule g l w a s in (one.0, inl one.1)
  one_height rule (either g h) l w a (inr s) = let one = one_height rule h l w a s in (one.0, inr one.1)
  one_height rule (either2 c ds g h) l w a (inl s) = let one = one_height rule g l w a s in (one.0, inl one.1)
  one_height rule (either2 c ds g h) l w a (inr s) = let one = one_height rule h l w a s in (one.0, inr one.1)
  one_height rule (many g) l w a s = each_height rule g l (λ w a s. one_height rule g l w a s) w a s
  one_height rule (made f g) l w b s = let one = one_height rule g l w s.0 s.1 in (one.0, (s.0, one.1, s.2))
  one_height rule (placed g) l w a s = let one = one_height rule g l w a.1 s.4 in (one.0, (s.0, s.1, s.2, s.3, one.1))
  one_height rule (nested o g) l w a s = let one = one_height rule g s.0 w a s.2 in (one.0, (s.0, s.1, one.1))
  one_height rule end_name l w a s = (zero, s)
  one_height rule (under called g h) l w a (front, rest, cut, sg, sh) =
      let one = one_height rule g l front a.0 sg in
      let two = one_height rule h (renamed (called a.0) l) rest a.1 sh in
      let t = two_heights rule l (renamed (called a.0) l) g h front rest a.0 a.1 one.0 two.0 one.1 two.1 in
      (t.0, (front, rest, cut, t.1, t.2))
  one_height rule (unless test g h) l w a (front, rest, cut, sg, sh) =
      let one = one_height rule g l front a.0 sg in
      let t = or_height rule g h l test front a.0 one.0 one.1 rest a.1 (λ b s. one_height rule h l rest b s) sh in
      (t.0, (front, rest, cut, t.1, t.2))
  one_height rule (symbol x) l w a s = s

-- ---- equal pieces, and layout

pub by_tokens : {A : Type 0} {g : Form A} {l : Limits} {a : A} (ps qs : List Piece) → tokens_of ps ≡ tokens_of qs → IsPrinted g l ps a → IsPrinted g l qs a
by_tokens {g = g} {l = l} {a = a} ps qs e p = record { spelled = subst (λ w. SpelledBy (SpelledAs rule) g l w a) e p.spelled; tokens = subst (λ w. AreTokens w) e p.tokens }

pub by_pieces : {A : Type 0} {g : Form A} {l : Limits} {a : A} {ps qs : List Piece} → ps ≡ qs → IsPrinted g l ps a → IsPrinted g l qs a
by_pieces {ps = ps} {qs = qs} e p = by_tokens ps qs (ap (λ v. tokens_of v) e) p

-- the same value by another name
pub by_value : {A : Type 0} {g : Form A} {l : Limits} {ps : List Piece} {a b : A} → a ≡ b → IsPrinted g l ps a → IsPrinted g l ps b
by_value {g = g} {l = l} {ps = ps} e p = subst (λ v. IsPrinted g l ps v) e p

pub tokens_joined : (ps qs : List Piece) → tokens_of (ps ++ qs) ≡ tokens_of ps ++ tokens_of qs
tokens_joined ps qs = flat_map-append tokens_of_piece ps qs

-- what is layout has no token
pub after_layout : {A : Type 0} {g : Form A} {l : Limits} {ps : List Piece} {a : A} (p : Piece) → tokens_of_piece p ≡ [] → IsPrinted g l ps a → IsPrinted g l (p ∷ ps) a
after_layout {ps = ps} p e q = by_tokens ps (p ∷ ps) (sym (ap (λ v. v ++ tokens_of ps) e)) q

pub before_layout : {A : Type 0} {g : Form A} {l : Limits} {ps : List Piece} {a : A} (p : Piece) → tokens_of_piece p ≡ [] → IsPrinted g l ps a → IsPrinted g l (ps ++ p ∷ []) a
before_layout {ps = ps} p e q = by_tokens ps (ps ++ p ∷ []) (sym (tokens_joined ps (p ∷ []) ∙ ap (λ v. tokens_of ps ++ (v ++ [])) e ∙ append-nil (tokens_of ps))) q

pub after_blank : {A : Type 0} {g : Form A} {l : Limits} {ps : List Piece} {a : A} → IsPrinted g l ps a → IsPrinted g l (a_blank ∷ ps) a
after_blank q = after_layout a_blank refl q

pub after_line : {A : Type 0} {g : Form A} {l : Limits} {ps : List Piece} {a : A} → IsPrinted g l ps a → IsPrinted g l (a_line ∷ ps) a
after_line q = after_layout a_line refl q

pub after_deeper : {A : Type 0} {g : Form A} {l : Limits} {ps : List Piece} {a : A} → IsPrinted g l ps a → IsPrinted g l (deeper ∷ ps) a
after_deeper q = after_layout deeper refl q

pub after_shallower : {A : Type 0} {g : Form A} {l : Limits} {ps : List Piece} {a : A} → IsPrinted g l ps a → IsPrinted g l (shallower ∷ ps) a
after_shallower q = after_layout shallower refl q

pub before_blank : {A : Type 0} {g : Form A} {l : Limits} {ps : List Piece} {a : A} → IsPrinted g l ps a → IsPrinted g l (ps ++ a_blank ∷ []) a
before_blank q = before_layout a_blank refl q

pub before_line : {A : Type 0} {g : Form A} {l : Limits} {ps : List Piece} {a : A} → IsPrinted g l ps a → IsPrinted g l (ps ++ a_line ∷ []) a
before_line q = before_layout a_line refl q

pub before_shallower : {A : Type 0} {g : Form A} {l : Limits} {ps : List Piece} {a : A} → IsPrinted g l ps a → IsPrinted g l (ps ++ shallower ∷ []) a
before_shallower q = before_layout shallower refl q

-- ---- tokens

-- The piece is a token of that code.
pub record IsPieceOf (p : Piece) (code : ℕ) : Type 0 where
  pub token : Lexeme
  pub is : tokens_of_piece p ≡ token ∷ []
  pub is_token : IsToken token
  pub is_code : code_of token ≡ code

pub one_token : (p : Piece) (t : Lexeme) → tokens_of_piece p ≡ t ∷ [] → IsToken t → (tokens_of (p ∷ []) ≡ t ∷ []) × AreTokens (tokens_of (p ∷ []))
one_token p t e h =
    let alone : tokens_of (p ∷ []) ≡ t ∷ [] = append-nil (tokens_of_piece p) ∙ e in
    (alone, subst (λ w. AreTokens w) (sym alone) (All-cons IsToken t [] h (All-nil IsToken)))

pub by_token : {l : Limits} {codes : List ℕ} (p : Piece) (t : Lexeme) → tokens_of_piece p ≡ t ∷ [] → IsToken t → has codes (code_of t) ≡ true → IsPrinted (token codes) l (p ∷ []) t
by_token p t e h c = let one = one_token p t e h in record { spelled = (one.0, c); tokens = one.1 }

-- a piece of one of these codes
pub by_piece : {l : Limits} {codes : List ℕ} {p : Piece} {c : ℕ} (k : IsPieceOf p c) → has codes c ≡ true → IsPrinted (token codes) l (p ∷ []) k.token
by_piece {codes = codes} {p = p} k e = by_token p k.token k.is k.is_token (ap (has codes) k.is_code ∙ e)

pub of_one : (c : ℕ) → has (c ∷ []) c ≡ true
of_one c = let same = eq-eqb c c refl in ap (λ b. b || false) same

pub by_one : {l : Limits} {p : Piece} {c : ℕ} (k : IsPieceOf p c) → IsPrinted (token (c ∷ [])) l (p ∷ []) k.token
by_one {c = c} k = by_piece k (of_one c)

-- ---- tokens that keep their text, by what is known of the token that was read

code_clash : (n m : ℕ) → has (n ∷ []) m ≡ true → n ≡ m
code_clash n m e = elim (one_of (n == m) false e) [ inl h ↦ eqb-true n m h | inr h ↦ cc ]

kind_is_name : (k : TokenKind) → has (ident ∷ []) (code_of_kind k) ≡ true → k ≡ Ident
kind_is_name Ident e = refl
kind_is_name Whole e = let h = code_clash ident whole e in absurd (omega arith)
kind_is_name Decimal e = let h = code_clash ident decimal e in absurd (omega arith)
kind_is_name Str e = let h = code_clash ident string e in absurd (omega arith)
kind_is_name End e = let h = code_clash ident end_of_file e in absurd (omega arith)
kind_is_name (Operator n) e = let h = code_clash ident (operator_code n) e in absurd (omega arith)
kind_is_name (Keyword n) e = let h = code_clash ident (word_code n) e in absurd (omega arith)

kind_is_whole : (k : TokenKind) → has (whole ∷ []) (code_of_kind k) ≡ true → k ≡ Whole
kind_is_whole Whole e = refl
kind_is_whole Ident e = let h = code_clash whole ident e in absurd (omega arith)
kind_is_whole Decimal e = let h = code_clash whole decimal e in absurd (omega arith)
kind_is_whole Str e = let h = code_clash whole string e in absurd (omega arith)
kind_is_whole End e = let h = code_clash whole end_of_file e in absurd (omega arith)
kind_is_whole (Operator n) e = let h = code_clash whole (operator_code n) e in absurd (omega arith)
kind_is_whole (Keyword n) e = let h = code_clash whole (word_code n) e in absurd (omega arith)

kind_is_decimal : (k : TokenKind) → has (decimal ∷ []) (code_of_kind k) ≡ true → k ≡ Decimal
kind_is_decimal Decimal e = refl
kind_is_decimal Ident e = let h = code_clash decimal ident e in absurd (omega arith)
kind_is_decimal Whole e = let h = code_clash decimal whole e in absurd (omega arith)
kind_is_decimal Str e = let h = code_clash decimal string e in absurd (omega arith)
kind_is_decimal End e = let h = code_clash decimal end_of_file e in absurd (omega arith)
kind_is_decimal (Operator n) e = let h = code_clash decimal (operator_code n) e in absurd (omega arith)
kind_is_decimal (Keyword n) e = let h = code_clash decimal (word_code n) e in absurd (omega arith)

kind_is_string : (k : TokenKind) → has (string ∷ []) (code_of_kind k) ≡ true → k ≡ Str
kind_is_string Str e = refl
kind_is_string Ident e = let h = code_clash string ident e in absurd (omega arith)
kind_is_string Whole e = let h = code_clash string whole e in absurd (omega arith)
kind_is_string Decimal e = let h = code_clash string decimal e in absurd (omega arith)
kind_is_string End e = let h = code_clash string end_of_file e in absurd (omega arith)
kind_is_string (Operator n) e = let h = code_clash string (operator_code n) e in absurd (omega arith)
kind_is_string (Keyword n) e = let h = code_clash string (word_code n) e in absurd (omega arith)

pub is_name : (t : Lexeme) → IsTrue (has (ident ∷ []) (code_of t)) → t.kind ≡ Ident
is_name t e = kind_is_name t.kind e

pub is_whole : (t : Lexeme) → IsTrue (has (whole ∷ []) (code_of t)) → t.kind ≡ Whole
is_whole t e = kind_is_whole t.kind e

pub is_decimal : (t : Lexeme) → IsTrue (has (decimal ∷ []) (code_of t)) → t.kind ≡ Decimal
is_decimal t e = kind_is_decimal t.kind e

pub is_string : (t : Lexeme) → IsTrue (has (string ∷ []) (code_of t)) → t.kind ≡ Str
is_string t e = kind_is_string t.kind e

same_kind : (t : Lexeme) (k : TokenKind) → t.kind ≡ k → token_of k t.text ≡ placeless_token t ∷ []
same_kind t k e = ap (λ kind. token_of kind t.text) (sym e)

pub by_name : {l : Limits} (t : Lexeme) → IsToken t → IsTrue (has (ident ∷ []) (code_of t)) → IsPrinted (token (ident ∷ [])) l (a_name t.text ∷ []) (placeless_token t)
by_name t h e = by_token (a_name t.text) (placeless_token t) (same_kind t Ident (is_name t e)) h e

pub by_whole : {l : Limits} (t : Lexeme) → IsToken t → IsTrue (has (whole ∷ []) (code_of t)) → IsPrinted (token (whole ∷ [])) l (a_whole t.text ∷ []) (placeless_token t)
by_whole t h e = by_token (a_whole t.text) (placeless_token t) (same_kind t Whole (is_whole t e)) h e

pub by_decimal : {l : Limits} (t : Lexeme) → IsToken t → IsTrue (has (decimal ∷ []) (code_of t)) → IsPrinted (token (decimal ∷ [])) l (a_decimal t.text ∷ []) (placeless_token t)
by_decimal t h e = by_token (a_decimal t.text) (placeless_token t) (same_kind t Decimal (is_decimal t e)) h e

pub by_string : {l : Limits} (t : Lexeme) → IsToken t → IsTrue (has (string ∷ []) (code_of t)) → IsPrinted (token (string ∷ [])) l (a_string t.text ∷ []) (placeless_token t)
by_string t h e = by_token (a_string t.text) (placeless_token t) (same_kind t Str (is_string t e)) h e

-- ---- the forms

first_same : {t u : Lexeme} {rest more : List Lexeme} → t ∷ rest ≡ u ∷ more → t ≡ u
first_same e = cc

both_tokens : (ps qs : List Piece) → AreTokens (tokens_of ps) → AreTokens (tokens_of qs) → AreTokens (tokens_of (ps ++ qs))
both_tokens ps qs p q = subst (λ w. AreTokens w) (sym (tokens_joined ps qs)) (All-append IsToken (tokens_of ps) (tokens_of qs) p q)

pub by_empty : {A : Type 0} {l : Limits} {a : A} → IsPrinted (empty a) l [] a
by_empty = record { spelled = (refl, refl); tokens = All-nil IsToken }

pub by_seq : {A B : Type 0} {g : Form A} {h : Form B} {l : Limits} {ps qs : List Piece} {a : A} {b : B} → IsPrinted g l ps a → IsPrinted h l qs b → IsPrinted (seq g h) l (ps ++ qs) (a, b)
by_seq {ps = ps} {qs = qs} p q = record { spelled = (tokens_of ps, tokens_of qs, tokens_joined ps qs, p.spelled, q.spelled); tokens = both_tokens ps qs p.tokens q.tokens }

pub by_left : {A : Type 0} {g h : Form A} {l : Limits} {ps : List Piece} {a : A} → IsPrinted g l ps a → IsPrinted (either g h) l ps a
by_left p = record { spelled = inl p.spelled; tokens = p.tokens }

pub by_right : {A : Type 0} {g h : Form A} {l : Limits} {ps : List Piece} {a : A} → IsPrinted h l ps a → IsPrinted (either g h) l ps a
by_right p = record { spelled = inr p.spelled; tokens = p.tokens }

pub by_left2 : {A : Type 0} {c : ℕ} {ds : List ℕ} {g h : Form A} {l : Limits} {ps : List Piece} {a : A} → IsPrinted g l ps a → IsPrinted (either2 c ds g h) l ps a
by_left2 p = record { spelled = inl p.spelled; tokens = p.tokens }

pub by_right2 : {A : Type 0} {c : ℕ} {ds : List ℕ} {g h : Form A} {l : Limits} {ps : List Piece} {a : A} → IsPrinted h l ps a → IsPrinted (either2 c ds g h) l ps a
by_right2 p = record { spelled = inr p.spelled; tokens = p.tokens }

pub by_none : {A : Type 0} {g : Form A} {l : Limits} → IsPrinted (many g) l [] []
by_none = record { spelled = refl; tokens = All-nil IsToken }

pub by_more : {A : Type 0} {g : Form A} {l : Limits} {ps qs : List Piece} {a : A} {list : List A} → IsPrinted g l ps a → IsPrinted (many g) l qs list → IsPrinted (many g) l (ps ++ qs) (a ∷ list)
by_more {ps = ps} {qs = qs} p q = record { spelled = (tokens_of ps, tokens_of qs, tokens_joined ps qs, p.spelled, q.spelled); tokens = both_tokens ps qs p.tokens q.tokens }

-- a list, by the pieces and the value of each element
pub by_each : {A B : Type 0} {g : Form A} {l : Limits} (pieces : B → List Piece) (value : B → A) (list : List B) → HoldsEach (λ b. IsPrinted g l (pieces b) (value b)) list → IsPrinted (many g) l (flat_map pieces list) (map value list)
by_each pieces value [] h = by_none
by_each pieces value (b ∷ list) h = by_more h.0 (by_each pieces value list h.1)

pub by_made : {A B : Type 0} {f : A → B} {g : Form A} {l : Limits} {ps : List Piece} {a : A} {b : B} → f a ≡ b → IsPrinted g l ps a → IsPrinted (made f g) l ps b
by_made {a = a} e p = record { spelled = (a, p.spelled, e); tokens = p.tokens }

stands_nowhere : (ps : List Piece) (t : Lexeme) (more : List Lexeme) → tokens_of ps ≡ t ∷ more → t.place ≡ nowhere
stands_nowhere [] t more e = cc
stands_nowhere (a_name text ∷ ps) t more e = ap (λ u. u.place) (sym (first_same e))
stands_nowhere (a_word text ∷ ps) t more e = ap (λ u. u.place) (sym (first_same e))
stands_nowhere (a_mark text ∷ ps) t more e = ap (λ u. u.place) (sym (first_same e))
stands_nowhere (a_whole text ∷ ps) t more e = ap (λ u. u.place) (sym (first_same e))
stands_nowhere (a_decimal text ∷ ps) t more e = ap (λ u. u.place) (sym (first_same e))
stands_nowhere (a_string text ∷ ps) t more e = ap (λ u. u.place) (sym (first_same e))
stands_nowhere (a_blank ∷ ps) t more e = stands_nowhere ps t more e
stands_nowhere (a_line ∷ ps) t more e = stands_nowhere ps t more e
stands_nowhere (deeper ∷ ps) t more e = stands_nowhere ps t more e
stands_nowhere (shallower ∷ ps) t more e = stands_nowhere ps t more e

-- the first token of what cannot be empty
pub first_printed : {A : Type 0} {g : Form A} {l : Limits} {ps : List Piece} {a : A} → may_be_empty g ≡ false → IsPrinted g l ps a → (t : Lexeme) × (more : List Lexeme) × (tokens_of ps ≡ t ∷ more) × (has (first_codes tables.starts g) (code_of t) ≡ true)
first_printed {g = g} {l = l} {ps = ps} {a = a} e p =
    let s = one_height rule g l (tokens_of ps) a p.spelled in
    some_first tables rule passed s.0 g e l (tokens_of ps) a s.1

pub by_placed : {A : Type 0} {g : Form A} {l : Limits} {ps : List Piece} {a : A} → may_be_empty g ≡ false → IsPrinted g l ps a → IsPrinted (placed g) l ps (nowhere, a)
by_placed {ps = ps} e p =
    let first = first_printed e p in
    record { spelled = (first.0, first.1, first.2, sym (stands_nowhere ps first.0 first.1 first.2), p.spelled); tokens = p.tokens }

pub by_nested : {A : Type 0} {o : Opening} {g : Form A} {l inner : Limits} {ps : List Piece} {a : A} → left_inside o l ≡ Some inner → IsPrinted g inner ps a → IsPrinted (nested o g) l ps a
by_nested {inner = inner} e p = record { spelled = (inner, e, p.spelled); tokens = p.tokens }

suits_placeless : (n : EndName) (t : Lexeme) → IsTrue (suits n t) → IsTrue (suits n (placeless_token t))
suits_placeless any_name t s = refl
suits_placeless (this_name name) t s = s

pub by_end_name : {l : Limits} (t : Lexeme) → IsToken t → IsTrue (has identifiers (code_of t)) → IsTrue (suits (end_name_in l) t) → IsPrinted end_name l (a_name t.text ∷ []) (placeless_token t)
by_end_name {l = l} t h e s =
    let one = one_token (a_name t.text) (placeless_token t) (same_kind t Ident (is_name t e)) h in
    record { spelled = (one.0, e, suits_placeless (end_name_in l) t s); tokens = one.1 }

pub by_under : {A B : Type 0} {called : A → List ℕ} {g : Form A} {h : Form B} {l : Limits} {ps qs : List Piece} {a : A} {b : B} → IsPrinted g l ps a → IsPrinted h (renamed (called a) l) qs b → IsPrinted (under called g h) l (ps ++ qs) (a, b)
by_under {ps = ps} {qs = qs} p q = record { spelled = (tokens_of ps, tokens_of qs, tokens_joined ps qs, p.spelled, q.spelled); tokens = both_tokens ps qs p.tokens q.tokens }

-- what may be left out, and stands there
pub by_kept : {A B : Type 0} {test : Lexeme → A → Bool} {g : Form A} {h : Form B} {l : Limits} {ps qs : List Piece} {a : A} {b : B} → IsPrinted g l ps a → IsPrinted h l qs b → IsPrinted (unless test g h) l (ps ++ qs) (a, Some b)
by_kept {ps = ps} {qs = qs} p q = record { spelled = (tokens_of ps, tokens_of qs, tokens_joined ps qs, p.spelled, q.spelled); tokens = both_tokens ps qs p.tokens q.tokens }

-- and is left out, since the first token passes the test
pub by_left_out : {A B : Type 0} {test : Lexeme → A → Bool} {g : Form A} {h : Form B} {l : Limits} {ps : List Piece} {a : A} (t : Lexeme) (more : List Lexeme) → tokens_of ps ≡ t ∷ more → test t a ≡ true → IsPrinted g l ps a → IsPrinted (unless test g h) l ps (a, None)
by_left_out {test = test} {ps = ps} {a = a} t more e pass p =
    record { spelled = (tokens_of ps, [], sym (append-nil (tokens_of ps)), p.spelled, (refl, ap (λ w. first_passes test w a) e ∙ pass)); tokens = p.tokens }

pub by_rule : {l : Limits} {ps : List Piece} (x : Symbol) {a : ValueOf x} → IsPrinted (rule x) l ps a → IsPrinted (symbol x) l ps a
by_rule {l = l} {ps = ps} x {a = a} p =
    let s = one_height rule (rule x) l (tokens_of ps) a p.spelled in
    record { spelled = (suc s.0, s.1); tokens = p.tokens }

-- a production in another form that spells the same
pub by_form : {l : Limits} {ps : List Piece} {x : Symbol} {a : ValueOf x} {g : Form (ValueOf x)} → (SpelledByForm g l (tokens_of ps) a → Spells x l (tokens_of ps) a) → IsPrinted g l ps a → IsPrinted (symbol x) l ps a
by_form {l = l} {ps = ps} {a = a} {g = g} k p = record { spelled = k (one_height rule g l (tokens_of ps) a p.spelled); tokens = p.tokens }

-- ---- forms of productions

pub by_present : {A : Type 0} {g : Form A} {l : Limits} {ps : List Piece} {a : A} → IsPrinted g l ps a → IsPrinted (optional g) l ps (Some a)
by_present p = by_left (by_made refl p)

pub by_absent : {A : Type 0} {g : Form A} {l : Limits} → IsPrinted (optional g) l [] None
by_absent = by_right by_empty

pub by_flag : {l : Limits} {p : Piece} {c : ℕ} → IsPieceOf p c → IsPrinted (flag c) l (p ∷ []) true
by_flag k = by_left (by_made refl (by_one k))

pub by_no_flag : {l : Limits} {c : ℕ} → IsPrinted (flag c) l [] false
by_no_flag = by_right by_empty

pub by_behind : {A : Type 0} {g : Form A} {l : Limits} {p : Piece} {c : ℕ} {ps : List Piece} {a : A} → IsPieceOf p c → IsPrinted g l ps a → IsPrinted (behind c g) l (p ∷ ps) a
by_behind k p = by_made refl (by_seq (by_one k) p)

pub by_before : {A : Type 0} {g : Form A} {l : Limits} {p : Piece} {c : ℕ} {ps : List Piece} {a : A} → IsPrinted g l ps a → IsPieceOf p c → IsPrinted (before g c) l (ps ++ p ∷ []) a
by_before p k = by_made refl (by_seq p (by_one k))

pub by_between : {A : Type 0} {g : Form A} {l inner : Limits} {p q : Piece} {c d : ℕ} {ps : List Piece} {a : A} → left_inside a_construct l ≡ Some inner → IsPieceOf p c → IsPieceOf q d → IsPrinted g inner ps a → IsPrinted (between c d g) l (p ∷ (ps ++ q ∷ [])) a
by_between e k m p = by_nested e (by_behind k (by_before p m))

pub by_separated : {A : Type 0} {g : Form A} {l : Limits} {c : ℕ} {ps qs : List Piece} {a : A} {list : List A} → IsPrinted g l ps a → IsPrinted (many (behind c g)) l qs list → IsPrinted (separated c g) l (ps ++ qs) (a ∷ list)
by_separated p q = by_made refl (by_seq p q)

-- ---- limits that allow more

pub more_limits : {A : Type 0} {g : Form A} {l : Limits} {ps : List Piece} {a : A} (m : Limits) → Below l m → IsPrinted g l ps a → IsPrinted g m ps a
more_limits {g = g} {l = l} {ps = ps} {a = a} m b p =
    record { spelled = spelled_rises (SpelledAs rule) (SpelledAs rule) (λ x l m w a b s. (s.0, in_rises rule s.0 x l m w a b s.1)) g l m b (tokens_of ps) a p.spelled; tokens = p.tokens }
