-- Parts that may be left out, and lists of parts with a mark between, in pieces.
use Rattle.std.proofs.Common.{◌≡◌, ℕ, true, List, [], ◌∷◌, ◌++◌, inl, inr, map, Option, Some, None, sym, ap, subst, ◌∙◌, append-nil, append_assoc}
use Rattle.mo_grammar.specs.Lexeme.{Lexeme}
use Rattle.mo_grammar.specs.Grammar.{a_construct, Limits, left_inside, has, seq, token}
use Rattle.mo_grammar.specs.Forms.{optional, behind, before, between, separated}
use Rattle.mo_grammar.specs.Symbols.{Symbol, ValueOf, Form}
use Rattle.mo_pieces.specs.Pieces.{Piece, a_mark, a_word, nowhere, tokens_of, tokens_of_piece, IsToken}
use Rattle.mo_pieces.specs.ShownExpressions.{joined_by}
use Rattle.mo_unparse.proofs.Holding.{Fact, HoldsBy, HoldsEach}
use Rattle.mo_unparse.proofs.Building.{IsPrinted, IsPieceOf, by_tokens, by_pieces, by_piece, by_seq, by_each, by_behind, by_separated, tokens_joined, by_present}

-- ---- what is known of the parts

abbrev pub HoldsOption : {A : Type 0} → (A → Type 0) → Option A → Type 0
HoldsOption H None = Unit {0}
HoldsOption H (Some a) = H a

some_same : {A : Type 0} (a b : A) → Some a ≡ Some b → a ≡ b
some_same a b e = cc

pub optional_held : {A : Type 0} (P : Fact Symbol ValueOf) (g : Form A) (l : Limits) (o : Option A) → HoldsBy P IsToken (optional g) l o → HoldsOption (HoldsBy P IsToken g l) o
optional_held P g l None h = tt
optional_held P g l (Some a) (inl (v, here, e)) = subst (λ x. HoldsBy P IsToken g l x) (some_same v a e) here
optional_held P g l (Some a) (inr e) = cc

pub behind_held : {A : Type 0} (P : Fact Symbol ValueOf) (c : ℕ) (g : Form A) (l : Limits) (a : A) → HoldsBy P IsToken (behind c g) l a → HoldsBy P IsToken g l a
behind_held P c g l a (x, here, e) = subst (λ v. HoldsBy P IsToken g l v) e here.1

pub each_held : {A : Type 0} {H K : A → Type 0} → ((a : A) → H a → K a) → (list : List A) → HoldsEach H list → HoldsEach K list
each_held k [] h = tt
each_held k (a ∷ list) h = (k a h.0, each_held k list h.1)

-- ---- marks and words

first_same : {t u : Lexeme} {rest more : List Lexeme} → t ∷ rest ≡ u ∷ more → t ≡ u
first_same e = cc

pub mark_place : {text : List ℕ} {c : ℕ} (k : IsPieceOf (a_mark text) c) → k.token.place ≡ nowhere
mark_place k = sym (ap (λ t. t.place) (first_same k.is))

pub word_place : {text : List ℕ} {c : ℕ} (k : IsPieceOf (a_word text) c) → k.token.place ≡ nowhere
word_place k = sym (ap (λ t. t.place) (first_same k.is))

-- a mark with blanks about it before a part
pub by_mark : {A : Type 0} {g : Form A} {l : Limits} {ps : List Piece} {a : A} {c : ℕ} {m : Piece} (mark : List Piece) (k : IsPieceOf m c) → tokens_of mark ≡ tokens_of (m ∷ []) → IsPrinted g l ps a → IsPrinted (behind c g) l (mark ++ ps) a
by_mark {ps = ps} {m = m} mark k e p =
    by_tokens (m ∷ ps) (mark ++ ps) (sym (tokens_joined mark ps ∙ ap (λ t. t ++ tokens_of ps) (e ∙ append-nil (tokens_of_piece m)))) (by_behind k p)

-- blanks about the first token
pub by_blanks : {A : Type 0} {g : Form A} {l : Limits} {ps : List Piece} {a : A} {m : Piece} (mark : List Piece) → tokens_of mark ≡ tokens_of (m ∷ []) → IsPrinted g l (m ∷ ps) a → IsPrinted g l (mark ++ ps) a
by_blanks {ps = ps} {m = m} mark e p = by_tokens (m ∷ ps) (mark ++ ps) (sym (tokens_joined mark ps ∙ ap (λ t. t ++ tokens_of ps) (e ∙ append-nil (tokens_of_piece m)))) p

-- an operator with blanks about it between two operands
pub infix_printed : {A B : Type 0} {g : Form A} {h : Form B} {cs : List ℕ} {c : ℕ} {l : Limits} {ps qs : List Piece} {a : A} {b : B} {m : Piece} (mark : List Piece) (k : IsPieceOf m c) → has cs c ≡ true → tokens_of mark ≡ tokens_of (m ∷ []) → IsPrinted g l ps a → IsPrinted h l qs b →
    IsPrinted (seq g (optional (seq (token cs) h))) l (ps ++ mark ++ qs) (a, Some (k.token, b))
infix_printed {ps = ps} {qs = qs} mark k e same p q = by_pieces (sym (append_assoc ps mark qs)) (by_seq p (by_present (by_blanks mark same (by_seq (by_piece k e) q))))

-- parts with a mark before each
pub each_marked : {A B : Type 0} (g : Form B) (l : Limits) {c : ℕ} {m : Piece} (mark : List Piece) (k : IsPieceOf m c) → tokens_of mark ≡ tokens_of (m ∷ []) → (pieces : A → List Piece) (value : A → B) (list : List A) → HoldsEach (λ a. IsPrinted g l (pieces a) (value a)) list →
    HoldsEach (λ a. IsPrinted (behind c g) l (mark ++ pieces a) (value a)) list
each_marked g l mark k e pieces value list h = each_held (λ a p. by_mark mark k e p) list h

-- parts with a mark between each two
pub joined_printed : {A B : Type 0} {g : Form B} {l : Limits} {c : ℕ} {m : Piece} (mark : List Piece) (k : IsPieceOf m c) → tokens_of mark ≡ tokens_of (m ∷ []) → (pieces : A → List Piece) (value : A → B) (x : A) (xs : List A) → IsPrinted g l (pieces x) (value x) → HoldsEach (λ a. IsPrinted g l (pieces a) (value a)) xs →
    IsPrinted (separated c g) l (joined_by mark pieces (x ∷ xs)) (map value (x ∷ xs))
joined_printed {g = g} {l = l} mark k e pieces value x xs p h = by_separated p (by_each (λ a. mark ++ pieces a) value xs (each_marked g l mark k e pieces value xs h))

-- the parts of what is spelled with a mark between each two
pub separated_printed : {A B : Type 0} (P : Fact Symbol ValueOf) (g : Form A) {h : Form B} (l : Limits) {c : ℕ} {m : Piece} (mark : List Piece) (k : IsPieceOf m c) → tokens_of mark ≡ tokens_of (m ∷ []) → (pieces : A → List Piece) (value : A → B) → ((a : A) → HoldsBy P IsToken g l a → IsPrinted h l (pieces a) (value a)) →
    (list : List A) → HoldsBy P IsToken (separated c g) l list → IsPrinted (separated c h) l (joined_by mark pieces list) (map value list)
separated_printed P g {h = h} l {c = c} mark k e pieces value one list ((x, xs), (first, others), same) =
    subst (λ v. IsPrinted (separated c h) l (joined_by mark pieces v) (map value v)) same
    (joined_printed mark k e pieces value x xs (one x first) (each_held (λ a held. one a (behind_held P c g l a held)) xs others))

-- ---- what stands between two marks

before_held : {A : Type 0} (P : Fact Symbol ValueOf) (c : ℕ) (g : Form A) (l : Limits) (a : A) → HoldsBy P IsToken (before g c) l a → HoldsBy P IsToken g l a
before_held P c g l a (x, here, e) = subst (λ v. HoldsBy P IsToken g l v) e here.0

pub between_held : {A : Type 0} (P : Fact Symbol ValueOf) (c d : ℕ) (g : Form A) (l : Limits) (a : A) → HoldsBy P IsToken (between c d g) l a → (inner : Limits) × (left_inside a_construct l ≡ Some inner) × HoldsBy P IsToken g inner a
between_held P c d g l a (inner, within, h) = (inner, within, before_held P d g inner a (behind_held P c (before g d) inner a h))

-- a list that is not empty
pub data IsSome {A : Type 0} : List A → Type 0 where
  some : {a : A} {list : List A} → IsSome (a ∷ list)

pub separated_some : {A : Type 0} (P : Fact Symbol ValueOf) (c : ℕ) (g : Form A) (l : Limits) (list : List A) → HoldsBy P IsToken (separated c g) l list → IsSome list
separated_some P c g l list ((x, xs), held, same) = subst (λ v. IsSome v) same some
