-- Names with dots between them.
use Rattle.std.proofs.Common.{◌≡◌, ◌<◌, ◌≤◌, ◌-◌, ℕ, List, [], ◌∷◌, ◌++◌, length, drop, take, Option, Some, None, refl, ap, sym, ◌∙◌, append_assoc, arith}
use Rattle.std.proofs.lemmas.List.{length-drop, take_all}
use Rattle.mo_syntax.specs.declared.token.Token.{Token}
use Rattle.mo_syntax.specs.Lexeme.{Lexeme, lexemes}
use Rattle.mo_front.specs.Words.{before, dotted_names, name_alone, name_before_dot, with_dots}

-- names before those that tokens are
abbrev pub behind : List (List ℕ) → Option (List (List ℕ)) → Option (List (List ℕ))
behind names None = None
behind names (Some more) = Some (names ++ more)

begun : (ts : List Token) → 2 < length ts → dotted_names (lexemes ts) ≡ before (name_before_dot (lexemes ts)) (dotted_names (lexemes (drop 2 ts)))
begun [] long = absurd (omega (arith, long))
begun (a ∷ []) long = absurd (omega (arith, long))
begun (a ∷ b ∷ []) long = absurd (omega (arith, long))
begun (a ∷ b ∷ c ∷ ts) long = refl

ended : (ts : List Token) → length ts ≤ 2 → dotted_names (lexemes ts) ≡ before (name_alone (lexemes ts)) (Some [])
ended [] short = refl
ended (a ∷ []) short = refl
ended (a ∷ b ∷ []) short = refl
ended (a ∷ b ∷ c ∷ ts) short = absurd (omega (arith, short))

moved : (names : List (List ℕ)) (name : List ℕ) (o : Option (List (List ℕ))) → behind names (before (Some name) o) ≡ behind (names ++ name ∷ []) o
moved names name None = refl
moved names name (Some x) = ap Some (sym (append_assoc names (name ∷ []) x))

pub dotted_step : (all : List Lexeme) (rest : List Token) (names new : List (List ℕ)) (name : List ℕ) → dotted_names all ≡ behind names (dotted_names (lexemes rest)) → 2 < length rest
    → Some name ≡ name_before_dot (lexemes rest) → new ≡ names ++ name ∷ [] → dotted_names all ≡ behind new (dotted_names (lexemes (take (length rest - 2) (drop 2 rest))))
dotted_step all rest names new name held long is pushed =
    held ∙ ap (behind names) (begun rest long) ∙ ap (λ (x : Option (List ℕ)). behind names (before x (dotted_names (lexemes (drop 2 rest))))) (sym is) ∙ moved names name (dotted_names (lexemes (drop 2 rest)))
    ∙ ap (λ (x : List (List ℕ)). behind x (dotted_names (lexemes (drop 2 rest)))) (sym pushed)
    ∙ ap (λ (x : List Token). behind new (dotted_names (lexemes x))) (sym (take_all (length rest - 2) (drop 2 rest) (omega (arith, length-drop 2 rest, long))))

pub dotted_stop : (all : List Lexeme) (rest : List Token) (names : List (List ℕ)) → dotted_names all ≡ behind names (dotted_names (lexemes rest)) → 2 < length rest
    → None ≡ name_before_dot (lexemes rest) → None ≡ dotted_names all
dotted_stop all rest names held long is =
    sym (held ∙ ap (behind names) (begun rest long) ∙ ap (λ (x : Option (List ℕ)). behind names (before x (dotted_names (lexemes (drop 2 rest))))) (sym is))

pub dotted_end : (all : List Lexeme) (rest : List Token) (names : List (List ℕ)) → dotted_names all ≡ behind names (dotted_names (lexemes rest)) → length rest ≤ 2
    → None ≡ name_alone (lexemes rest) → None ≡ dotted_names all
dotted_end all rest names held short is = sym (held ∙ ap (behind names) (ended rest short) ∙ ap (λ (x : Option (List ℕ)). behind names (before x (Some []))) (sym is))

pub dotted_last : (all : List Lexeme) (rest : List Token) (names new : List (List ℕ)) (name : List ℕ) → dotted_names all ≡ behind names (dotted_names (lexemes rest)) → length rest ≤ 2
    → Some name ≡ name_alone (lexemes rest) → new ≡ names ++ name ∷ [] → Some new ≡ dotted_names all
dotted_last all rest names new name held short is pushed =
    ap Some pushed ∙ sym (held ∙ ap (behind names) (ended rest short) ∙ ap (λ (x : Option (List ℕ)). behind names (before x (Some []))) (sym is))

-- no path is that of other tokens
pub no_path : (mine yours : List Lexeme) (path : List (List ℕ)) → None ≡ dotted_names mine → yours ≡ mine → dotted_names yours ≡ Some path → ⊥
no_path mine yours path none same some = clash (none ∙ ap dotted_names (sym same) ∙ some)
  where
    clash : None ≡ Some path → ⊥
    clash eq = cc

pub other_word : (mine yours : List Lexeme) (names path listed : List (List ℕ)) (word joined : List ℕ) → Some names ≡ dotted_names mine → yours ≡ mine → dotted_names yours ≡ Some path
    → listed ≡ names → joined ≡ with_dots listed → word ≡ with_dots path → (joined ≡ word → ⊥) → ⊥
other_word mine yours names path listed word joined some same is they joined_is word_is differ = differ (joined_is ∙ ap with_dots (they ∙ one) ∙ sym word_is)
  where
    both : Some names ≡ Some path
    both = some ∙ ap dotted_names (sym same) ∙ is

    one : names ≡ path
    one = cc
