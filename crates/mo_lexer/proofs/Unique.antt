-- A text is read in one way.
use Rattle.std.proofs.Common.{◌≡◌, ℕ, ◌⊎◌, inl, inr, List, [], ◌∷◌, ◌++◌, refl, sym, ap, subst, ◌∙◌, arith}
use Rattle.mo_syntax.specs.declared.place.Place.{Place}
use Rattle.mo_syntax.specs.declared.token.TokenKind.{TokenKind}
use Rattle.mo_lexer.specs.Spelling.{Spells, IsWithinLimit, IsSeparator}
use Rattle.mo_syntax.specs.Lexeme.{Lexeme}
use Rattle.mo_lexer.specs.Lexing.{IsPiece, Fits, Reads, stops, skips, takes, end_of, Lexes, IsStuck}
use Rattle.mo_lexer.proofs.Fronts.{overlap}
use Rattle.mo_lexer.proofs.Shapes.{some_of_piece}
use Rattle.mo_lexer.proofs.OneKind.{same_kind, separator_is_no_token}

-- one piece alone fits at the front of a text
pub same_piece : (s t a b : List ℕ) → s ++ a ≡ t ++ b → IsPiece s → IsPiece t → Fits s a → Fits t b → (s ≡ t) × (a ≡ b)
same_piece s t a b e p q f g = elim (overlap s t a b e) [
  | inl same ↦ same
  | inr (inl on) ↦ absurd (f.longest on.more b on.after_is on.some (subst IsPiece on.text_is q))
  | inr (inr on) ↦ absurd (g.longest on.more a on.after_is on.some (subst IsPiece on.text_is p))
]

-- nothing is left, or nothing that is left fits
abbrev pub IsOver : List ℕ → Type 0
IsOver left = (left ≡ []) ⊎ IsStuck left

over_separator : (left piece after : List ℕ) → IsOver left → left ≡ piece ++ after → IsSeparator piece → Fits piece after → ⊥
over_separator left [] after over e s f = omega (arith, some_of_piece [] (inl s))
over_separator left (b ∷ piece) after (inl none) e s f = cc
over_separator left (b ∷ piece) after (inr stuck) e s f = stuck.separator (b ∷ piece) after e s f

over_token : (left piece after : List ℕ) (kind : TokenKind) → IsOver left → left ≡ piece ++ after → Spells kind piece → Fits piece after → IsWithinLimit kind piece → ⊥
over_token left [] after kind over e s f l = omega (arith, some_of_piece [] (inr (kind, s)))
over_token left (b ∷ piece) after kind (inl none) e s f l = cc
over_token left (b ∷ piece) after kind (inr stuck) e s f l = stuck.token kind (b ∷ piece) after e s f l

made : TokenKind → List ℕ → Place → Lexeme
made kind text place = record { kind = kind; text = text; place = place }

same_lexeme : (t u : Lexeme) → t.kind ≡ u.kind → t.text ≡ u.text → t.place ≡ u.place → t ≡ u
unfolding made
same_lexeme t u e f g = let same : made t.kind t.text t.place ≡ made u.kind u.text u.place = cc in same

pub same_reading : (file : ℕ) (whole rest left left' : List ℕ) (tokens tokens' : List Lexeme) → Reads file whole rest tokens left → Reads file whole rest tokens' left' → IsOver left → IsOver left' → (tokens ≡ tokens') × (left ≡ left')
same_reading file whole rest left left' _ _ (stops e) (stops e') o o' = (refl, sym e ∙ e')
same_reading file whole rest left left' _ _ (stops e) (skips piece after e' s f more) o o' = absurd (over_separator left piece after o (sym e ∙ e') s f)
same_reading file whole rest left left' _ _ (stops e) (takes {token = t} after e' s f l p more) o o' = absurd (over_token left t.text after t.kind o (sym e ∙ e') s f l)
same_reading file whole rest left left' _ _ (skips piece after e s f more) (stops e') o o' = absurd (over_separator left' piece after o' (sym e' ∙ e) s f)
same_reading file whole rest left left' _ _ (takes {token = t} after e s f l p more) (stops e') o o' = absurd (over_token left' t.text after t.kind o' (sym e' ∙ e) s f l)
same_reading file whole rest left left' tokens tokens' (skips piece after e s f more) (skips piece' after' e' s' f' more') o o' =
    let same = same_piece piece piece' after after' (sym e ∙ e') (inl s) (inl s') f f' in
    same_reading file whole after left left' tokens tokens' more (subst (λ a. Reads file whole a tokens' left') (sym same.1) more') o o'
same_reading file whole rest left left' _ _ (skips piece after e s f more) (takes {token = t} after' e' s' f' l' p' more') o o' =
    let same = same_piece piece t.text after after' (sym e ∙ e') (inl s) (inr (t.kind, s')) f f' in
    absurd (separator_is_no_token t.text t.kind (subst IsSeparator same.0 s) s')
same_reading file whole rest left left' _ _ (takes {token = t} after e s f l p more) (skips piece' after' e' s' f' more') o o' =
    let same = same_piece t.text piece' after after' (sym e ∙ e') (inr (t.kind, s)) (inl s') f f' in
    absurd (separator_is_no_token t.text t.kind (subst IsSeparator (sym same.0) s') s)
same_reading file whole rest left left' _ _ (takes {token = t} {tokens = ts} after e s f l p more) (takes {token = u} {tokens = us} after' e' s' f' l' p' more') o o' =
    let same = same_piece t.text u.text after after' (sym e ∙ e') (inr (t.kind, s)) (inr (u.kind, s')) f f' in
    let kinds = same_kind u.text t.kind u.kind (subst (Spells t.kind) same.0 s) s' in
    let heads : t ≡ u = same_lexeme t u kinds same.0 (p ∙ sym p') in
    let tails = same_reading file whole after left left' ts us more (subst (λ a. Reads file whole a us left') (sym same.1) more') o o' in
    (rw (heads, tails.0) refl, tails.1)

-- a text has one list of tokens at most
pub same_tokens : (file : ℕ) (text : List ℕ) (tokens others : List Lexeme) → Lexes file text tokens → Lexes file text others → others ≡ tokens
same_tokens file text tokens others a b =
    let same = same_reading file text _ [] [] b.before_end a.before_end b.all a.all (inl refl) (inl refl) in
    b.closed ∙ ap (λ ts. ts ++ end_of file text ∷ []) same.0 ∙ sym a.closed
