-- Lists, lines and what ends them, as pieces that spell them.
use Rattle.std.proofs.Common.{◌≡◌, ℕ, List, [], ◌∷◌, ◌++◌, map, flat_map, refl, sym, ap, ◌∙◌, append-nil, append_assoc, codes}
use Rattle.mo_syntax.specs.declared.expr.Expr.{Expr}
use Rattle.mo_grammar.specs.Codes.{semicolon, end_word}
use Rattle.mo_grammar.specs.Grammar.{Limits, many}
use Rattle.mo_grammar.specs.Forms.{behind, before, separated}
use Rattle.mo_grammar.specs.Symbols.{Form}
use Rattle.mo_grammar.specs.Classes.{comment, commented}
use Rattle.mo_pieces.specs.Pieces.{Piece, a_word, a_blank, a_line, deeper, shallower, tokens_of}
use Rattle.mo_pieces.specs.Lines.{on_a_line, lines_of, block_of}
use Rattle.mo_pieces.specs.ShownExpressions.{joined_by, pieces_of_expr}
use Rattle.mo_pieces.specs.ShownEquations.{branch_of, branches_of}
use Rattle.mo_unparse.proofs.Holding.{HoldsEach, each_follows}
use Rattle.mo_unparse.proofs.Building.{IsPrinted, IsPieceOf, tokens_joined, after_line, after_deeper, before_shallower, by_absent, by_before, by_each, by_empty, by_made, by_pieces, by_right, by_separated, by_seq, by_tokens}
use Rattle.mo_unparse.proofs.WordPieces.{semicolon_is, end_word_is}

-- no comment is printed
pub by_no_comment : {l : Limits} → IsPrinted comment l [] tt
by_no_comment = by_made refl (by_seq (by_right by_empty) by_absent)

pub by_commented : {A : Type 0} {g : Form A} {l : Limits} {ps : List Piece} {a : A} → IsPrinted g l ps a → IsPrinted (commented g) l ps a
by_commented {ps = ps} p = by_pieces (append-nil ps) (by_made refl (by_seq p by_no_comment))

-- parts with a mark between each two, by how the mark is printed
pub by_joined : {A B : Type 0} {g : Form A} {l : Limits} {c : ℕ} (mark : List Piece) (part : B → List Piece) (value : B → A) → ((b : B) → IsPrinted g l (part b) (value b) → IsPrinted (behind c g) l (mark ++ part b) (value b)) → (b : B) (bs : List B) → IsPrinted g l (part b) (value b) → HoldsEach (λ b. IsPrinted g l (part b) (value b)) bs → IsPrinted (separated c g) l (joined_by mark part (b ∷ bs)) (map value (b ∷ bs))
by_joined {g = g} {l = l} {c = c} mark part value behind_mark b bs h more =
    by_separated h (by_each (λ b. mark ++ part b) value bs (each_follows (λ b. IsPrinted g l (part b) (value b)) (λ b. IsPrinted (behind c g) l (mark ++ part b) (value b)) behind_mark bs more))

-- parts on lines
pub by_lines : {A B : Type 0} {g : Form A} {l : Limits} (shown : B → List Piece) (value : B → A) (bs : List B) → HoldsEach (λ b. IsPrinted g l (shown b) (value b)) bs → IsPrinted (many (before g semicolon)) l (lines_of shown bs) (map value bs)
by_lines {g = g} {l = l} shown value bs h =
    by_each (λ b. on_a_line (shown b)) value bs (each_follows (λ b. IsPrinted g l (shown b) (value b)) (λ b. IsPrinted (before g semicolon) l (on_a_line (shown b)) (value b)) (λ b p. after_line (by_before p semicolon_is)) bs h)

-- the same, further in
pub by_block : {A B : Type 0} {g : Form A} {l : Limits} (shown : B → List Piece) (value : B → A) (bs : List B) → HoldsEach (λ b. IsPrinted g l (shown b) (value b)) bs → IsPrinted (many (before g semicolon)) l (block_of shown bs) (map value bs)
by_block shown value bs h = after_deeper (before_shallower (by_lines shown value bs h))

-- conditions with what stands under them, and what follows
pub branches_before : {A : Type 0} (word other : List ℕ) (shown : A → List Piece) (first : Expr × List A) (more : List (Expr × List A)) (rest : List Piece) → branch_of word shown first ++ (flat_map (λ b. a_line ∷ branch_of other shown b) more ++ rest) ≡ branches_of word other shown (first ∷ more) ++ rest
branches_before word other shown first more rest = sym (append_assoc (branch_of word shown first) (flat_map (λ b. a_line ∷ branch_of other shown b) more) rest)

-- a branch in front of what follows it
pub branch_before : {A : Type 0} (word : List ℕ) (shown : A → List Piece) (branch : Expr × List A) (rest : List Piece) → a_word word ∷ a_blank ∷ pieces_of_expr branch.0 ++ (a_blank ∷ a_word (codes "then") ∷ block_of shown branch.1 ++ rest) ≡ branch_of word shown branch ++ rest
branch_before word shown branch rest = sym (ap (λ v. a_word word ∷ a_blank ∷ v) (append_assoc (pieces_of_expr branch.0) (a_blank ∷ a_word (codes "then") ∷ block_of shown branch.1) rest))

further_in : (ps rest : List Piece) → tokens_of (ps ++ rest) ≡ tokens_of ((deeper ∷ ps ++ shallower ∷ []) ++ rest)
further_in ps rest = tokens_joined ps rest ∙ sym (tokens_joined (ps ++ shallower ∷ []) rest ∙ ap (λ v. v ++ tokens_of rest) (tokens_joined ps (shallower ∷ []) ∙ append-nil (tokens_of ps)))

-- lines stand further in
pub by_further_in : {A B : Type 0} {g : Form A} {l : Limits} {a : A} (shown : B → List Piece) (bs : List B) (rest : List Piece) → IsPrinted g l (lines_of shown bs ++ rest) a → IsPrinted g l (block_of shown bs ++ rest) a
by_further_in shown bs rest p = by_tokens (lines_of shown bs ++ rest) (block_of shown bs ++ rest) (further_in (lines_of shown bs) rest) p

ended : (ps : List Piece) (p : Piece) → tokens_of ((ps ++ a_word (codes "end") ∷ []) ++ p ∷ []) ≡ tokens_of (ps ++ (a_line ∷ a_word (codes "end") ∷ a_blank ∷ p ∷ []))
ended ps p =
    let end = a_word (codes "end") in
    let last = p ∷ [] in
    tokens_joined (ps ++ end ∷ []) last ∙ ap (λ v. v ++ tokens_of last) (tokens_joined ps (end ∷ [])) ∙ append_assoc (tokens_of ps) (tokens_of (end ∷ [])) (tokens_of last)
    ∙ sym (tokens_joined ps (a_line ∷ end ∷ a_blank ∷ p ∷ []))

-- with what ends it
pub by_ended : {A : Type 0} {g : Form A} {l : Limits} {ps : List Piece} {p : Piece} {c : ℕ} {a : A} → IsPrinted g l ps a → IsPieceOf p c → IsPrinted (before (before g end_word) c) l (ps ++ (a_line ∷ a_word (codes "end") ∷ a_blank ∷ p ∷ [])) a
by_ended {ps = ps} {p = p} h k = by_tokens ((ps ++ a_word (codes "end") ∷ []) ++ p ∷ []) (ps ++ (a_line ∷ a_word (codes "end") ∷ a_blank ∷ p ∷ [])) (ended ps p) (by_before (by_before h end_word_is) k)
