-- What is spelled is begun, and what the first two tokens of a beginning can be.
use Rattle.std.proofs.Common.{◌≡◌, ◌||◌, ◌&&◌, ℕ, Bool, true, List, [], ◌∷◌, ◌++◌, inl, inr, Option, Some, None, refl, sym, ap, subst, ◌∙◌}
use Rattle.mo_grammar.specs.Lexeme.{Lexeme, code_of}
use Rattle.mo_grammar.specs.Grammar.{Limits, renamed, Grammar, empty, token, seq, either, either2, many, made, placed, nested, end_name, under, unless, symbol, has, first_passes, Spelling, Beginning, SpelledBy, SpelledEach, SpelledOr, BegunBy, BegunEach}
use Rattle.mo_grammar.specs.Reading.{may_be_empty, may_be_one, when, first_codes, second_codes}
use Rattle.mo_grammar.proofs.Codes.{and_true, or_left, or_right, has_left, has_right, when_has, split_one, split_two, nothing_left}

-- What is known of the productions.
pub record Known (S : Type 0) (V : S → Type 0) (starts : S → List ℕ) (of : Spelling S V) (begun : Beginning S) : Type 0 where
  pub spelled_begins : (x : S) (l : Limits) (w : List Lexeme) (a : V x) → of x l w a → begun x l w
  pub nothing_begins : (x : S) (l : Limits) → begun x l []
  pub some_token : (x : S) (l : Limits) (a : V x) → of x l [] a → ⊥
  pub firsts : (x : S) (l : Limits) (t : Lexeme) (more : List Lexeme) → begun x l (t ∷ more) → has (starts x) (code_of t) ≡ true

each_begun : {A : Type 0} (part : List Lexeme → A → Type 0) (begun : List Lexeme → Type 0) → begun [] → (tokens : List Lexeme) (list : List A) → SpelledEach part tokens list → BegunEach part begun tokens list
each_begun part begun k tokens [] e = subst begun (sym e) k
each_begun part begun k tokens (a ∷ more) (front, rest, e, here, others) = (front, rest, e, here, each_begun part begun k rest more others)

-- what some items, and the beginning of one more, begin with
each_first : {A : Type 0} (part : List Lexeme → A → Type 0) (begun : List Lexeme → Type 0) (codes : List ℕ) → ((t : Lexeme) (w more : List Lexeme) (a : A) → part w a → w ≡ t ∷ more → has codes (code_of t) ≡ true) → ((t : Lexeme) (w more : List Lexeme) → begun w → w ≡ t ∷ more → has codes (code_of t) ≡ true) → (list : List A) (tokens : List Lexeme) → BegunEach part begun tokens list → (t : Lexeme) (more : List Lexeme) → tokens ≡ t ∷ more → has codes (code_of t) ≡ true
each_first part begun codes p b [] tokens s t more e = b t tokens more s e
each_first part begun codes p b (a ∷ list) tokens (front, rest, cut, here, others) t more e =
    elim (split_one front rest t more (sym cut ∙ e)) [
      | inl none ↦ each_first part begun codes p b list rest others t more (ap (λ v. v ++ rest) (sym none) ∙ sym cut ∙ e)
      | inr some ↦ p t front some.0 a here some.1
    ]

or_begun : {A : Type 0} (part : List Lexeme → A → Type 0) (allowed : Bool) (begun : List Lexeme → Type 0) → begun [] → ((w : List Lexeme) (a : A) → part w a → begun w) → (w : List Lexeme) (a : Option A) → SpelledOr part allowed w a → begun w
or_begun part allowed begun none some w (Some a) p = some w a p
or_begun part allowed begun none some w None p = subst begun (sym p.0) none

or_one : {A : Type 0} (part : List Lexeme → A → Type 0) (one allowed : Bool) → ((w : List Lexeme) (a : A) → part w a → (t : Lexeme) → w ≡ t ∷ [] → one ≡ true) → (w : List Lexeme) (a : Option A) → SpelledOr part allowed w a → (t : Lexeme) → w ≡ t ∷ [] → one ≡ true
or_one part one allowed k w (Some a) s t e = k w a s t e
or_one part one allowed k w None s t e = let none = s.0 in cc

module _ {S : Type 0} {V : S → Type 0} where
  pub begins_nothing : {A : Type 0} (of : Spelling S V) (begun : Beginning S) → ((x : S) (l : Limits) → begun x l []) → (g : Grammar S V A) (l : Limits) → BegunBy of begun g l []
  begins_nothing of begun k (empty a) l = refl
  begins_nothing of begun k (token codes) l = inl refl
  begins_nothing of begun k (seq g h) l = inl (begins_nothing of begun k g l)
  begins_nothing of begun k (either g h) l = inl (begins_nothing of begun k g l)
  begins_nothing of begun k (either2 c ds g h) l = inl (begins_nothing of begun k g l)
  begins_nothing of begun k (many g) l = ([], begins_nothing of begun k g l)
  begins_nothing of begun k (made f g) l = begins_nothing of begun k g l
  begins_nothing of begun k (placed g) l = begins_nothing of begun k g l
  begins_nothing of begun k (nested o g) l = inl refl
  begins_nothing of begun k end_name l = inl refl
  begins_nothing of begun k (under called g h) l = inl (begins_nothing of begun k g l)
  begins_nothing of begun k (unless test g h) l = inl (begins_nothing of begun k g l)
  begins_nothing of begun k (symbol x) l = k x l

  pub spelled_begun : {A : Type 0} (starts : S → List ℕ) (of : Spelling S V) (begun : Beginning S) → Known S V starts of begun → (g : Grammar S V A) (l : Limits) (w : List Lexeme) (a : A) → SpelledBy of g l w a → BegunBy of begun g l w
  spelled_begun st of begun k (empty b) l w a s = s.0
  spelled_begun st of begun k (token codes) l w t s = inr (t, s.0, s.1)
  spelled_begun st of begun k (seq g h) l w a s = inr (s.0, s.1, a.0, s.2, s.3, spelled_begun st of begun k h l s.1 a.1 s.4)
  spelled_begun st of begun k (either g h) l w a (inl s) = inl (spelled_begun st of begun k g l w a s)
  spelled_begun st of begun k (either g h) l w a (inr s) = inr (spelled_begun st of begun k h l w a s)
  spelled_begun st of begun k (either2 c ds g h) l w a (inl s) = inl (spelled_begun st of begun k g l w a s)
  spelled_begun st of begun k (either2 c ds g h) l w a (inr s) = inr (spelled_begun st of begun k h l w a s)
  spelled_begun st of begun k (many g) l w a s = (a, each_begun (SpelledBy of g l) (BegunBy of begun g l) (begins_nothing of begun k.nothing_begins g l) w a s)
  spelled_begun st of begun k (made f g) l w a s = spelled_begun st of begun k g l w s.0 s.1
  spelled_begun st of begun k (placed g) l w a s = spelled_begun st of begun k g l w a.1 s.4
  spelled_begun st of begun k (nested o g) l w a s = inr (s.0, s.1, spelled_begun st of begun k g s.0 w a s.2)
  spelled_begun st of begun k end_name l w a s = inr (a, s.0, s.1, s.2)
  spelled_begun st of begun k (under called g h) l w a s = inr (s.0, s.1, a.0, s.2, s.3, spelled_begun st of begun k h (renamed (called a.0) l) s.1 a.1 s.4)
  spelled_begun st of begun k (unless test g h) l w a s =
      inr (s.0, s.1, a.0, s.2, s.3, or_begun (SpelledBy of h l) (first_passes test s.0 a.0) (BegunBy of begun h l) (begins_nothing of begun k.nothing_begins h l) (λ v b p. spelled_begun st of begun k h l v b p) s.1 a.1 s.4)
  spelled_begun st of begun k (symbol x) l w a s = k.spelled_begins x l w a s

  pub nothing_spelled : {A : Type 0} (of : Spelling S V) → ((x : S) (l : Limits) (a : V x) → of x l [] a → ⊥) → (g : Grammar S V A) (l : Limits) (w : List Lexeme) (a : A) → SpelledBy of g l w a → w ≡ [] → may_be_empty g ≡ true
  nothing_spelled of k (empty b) l w a s e = refl
  nothing_spelled of k (token codes) l w t s e = let e' = s.0 in cc
  nothing_spelled of k (seq g h) l w a s e =
      let parts = nothing_left s.0 s.1 (sym e ∙ s.2) in
      and_true (may_be_empty g) (may_be_empty h) (nothing_spelled of k g l s.0 a.0 s.3 parts.0) (nothing_spelled of k h l s.1 a.1 s.4 parts.1)
  nothing_spelled of k (either g h) l w a (inl s) e = or_left (may_be_empty g) (may_be_empty h) (nothing_spelled of k g l w a s e)
  nothing_spelled of k (either g h) l w a (inr s) e = or_right (may_be_empty g) (may_be_empty h) (nothing_spelled of k h l w a s e)
  nothing_spelled of k (either2 c ds g h) l w a (inl s) e = or_left (may_be_empty g) (may_be_empty h) (nothing_spelled of k g l w a s e)
  nothing_spelled of k (either2 c ds g h) l w a (inr s) e = or_right (may_be_empty g) (may_be_empty h) (nothing_spelled of k h l w a s e)
  nothing_spelled of k (many g) l w a s e = refl
  nothing_spelled of k (made f g) l w a s e = nothing_spelled of k g l w s.0 s.1 e
  nothing_spelled of k (placed g) l w a s e = nothing_spelled of k g l w a.1 s.4 e
  nothing_spelled of k (nested o g) l w a s e = nothing_spelled of k g s.0 w a s.2 e
  nothing_spelled of k end_name l w t s e = let e' = s.0 in cc
  nothing_spelled of k (under called g h) l w a s e =
      let parts = nothing_left s.0 s.1 (sym e ∙ s.2) in
      and_true (may_be_empty g) (may_be_empty h) (nothing_spelled of k g l s.0 a.0 s.3 parts.0) (nothing_spelled of k h (renamed (called a.0) l) s.1 a.1 s.4 parts.1)
  nothing_spelled of k (unless test g h) l w a s e = nothing_spelled of k g l s.0 a.0 s.3 (nothing_left s.0 s.1 (sym e ∙ s.2)).0
  nothing_spelled of k (symbol x) l w a s e = absurd (k x l a (subst (λ v. of x l v a) e s))

  pub first_sound : {A : Type 0} (starts : S → List ℕ) (of : Spelling S V) (begun : Beginning S) → Known S V starts of begun → (g : Grammar S V A) (l : Limits) (w : List Lexeme) → BegunBy of begun g l w → (t : Lexeme) (more : List Lexeme) → w ≡ t ∷ more → has (first_codes starts g) (code_of t) ≡ true
  first_sound st of begun k (empty b) l w s t more e = cc
  first_sound st of begun k (token codes) l w (inl s) t more e = cc
  first_sound st of begun k (token codes) l w (inr s) t more e = let same : s.0 ≡ t = let e' = s.1 in cc in rw same at s.2
  first_sound st of begun k (seq g h) l w (inl s) t more e = has_left (first_codes st g) (when (may_be_empty g) (first_codes st h)) (code_of t) (first_sound st of begun k g l w s t more e)
  first_sound st of begun k (seq g h) l w (inr s) t more e =
      elim (split_one s.0 s.1 t more (sym s.3 ∙ e)) [
        | inl none ↦ has_right (first_codes st g) (when (may_be_empty g) (first_codes st h)) (code_of t)
            (when_has (may_be_empty g) (first_codes st h) (code_of t) (nothing_spelled of k.some_token g l s.0 s.2 s.4 none)
            (first_sound st of begun k h l s.1 s.5 t more (ap (λ v. v ++ s.1) (sym none) ∙ sym s.3 ∙ e)))
        | inr some ↦ has_left (first_codes st g) (when (may_be_empty g) (first_codes st h)) (code_of t)
            (first_sound st of begun k g l s.0 (spelled_begun st of begun k g l s.0 s.2 s.4) t some.0 some.1)
      ]
  first_sound st of begun k (either g h) l w (inl s) t more e = has_left (first_codes st g) (first_codes st h) (code_of t) (first_sound st of begun k g l w s t more e)
  first_sound st of begun k (either g h) l w (inr s) t more e = has_right (first_codes st g) (first_codes st h) (code_of t) (first_sound st of begun k h l w s t more e)
  first_sound st of begun k (either2 c ds g h) l w (inl s) t more e = has_left (first_codes st g) (first_codes st h) (code_of t) (first_sound st of begun k g l w s t more e)
  first_sound st of begun k (either2 c ds g h) l w (inr s) t more e = has_right (first_codes st g) (first_codes st h) (code_of t) (first_sound st of begun k h l w s t more e)
  first_sound st of begun k (many g) l w s t more e =
      each_first (SpelledBy of g l) (BegunBy of begun g l) (first_codes st g)
      (λ t w more a p e. first_sound st of begun k g l w (spelled_begun st of begun k g l w a p) t more e)
      (λ t w more b e. first_sound st of begun k g l w b t more e) s.0 w s.1 t more e
  first_sound st of begun k (made f g) l w s t more e = first_sound st of begun k g l w s t more e
  first_sound st of begun k (placed g) l w s t more e = first_sound st of begun k g l w s t more e
  first_sound st of begun k (nested o g) l w (inl s) t more e = cc
  first_sound st of begun k (nested o g) l w (inr s) t more e = first_sound st of begun k g s.0 w s.2 t more e
  first_sound st of begun k end_name l w (inl s) t more e = cc
  first_sound st of begun k end_name l w (inr s) t more e = let same : s.0 ≡ t = let e' = s.1 in cc in rw same at s.2
  first_sound st of begun k (under called g h) l w (inl s) t more e = has_left (first_codes st g) (when (may_be_empty g) (first_codes st h)) (code_of t) (first_sound st of begun k g l w s t more e)
  first_sound st of begun k (under called g h) l w (inr s) t more e =
      elim (split_one s.0 s.1 t more (sym s.3 ∙ e)) [
        | inl none ↦ has_right (first_codes st g) (when (may_be_empty g) (first_codes st h)) (code_of t)
            (when_has (may_be_empty g) (first_codes st h) (code_of t) (nothing_spelled of k.some_token g l s.0 s.2 s.4 none)
            (first_sound st of begun k h (renamed (called s.2) l) s.1 s.5 t more (ap (λ v. v ++ s.1) (sym none) ∙ sym s.3 ∙ e)))
        | inr some ↦ has_left (first_codes st g) (when (may_be_empty g) (first_codes st h)) (code_of t)
            (first_sound st of begun k g l s.0 (spelled_begun st of begun k g l s.0 s.2 s.4) t some.0 some.1)
      ]
  first_sound st of begun k (unless test g h) l w (inl s) t more e = has_left (first_codes st g) (when (may_be_empty g) (first_codes st h)) (code_of t) (first_sound st of begun k g l w s t more e)
  first_sound st of begun k (unless test g h) l w (inr s) t more e =
      elim (split_one s.0 s.1 t more (sym s.3 ∙ e)) [
        | inl none ↦ has_right (first_codes st g) (when (may_be_empty g) (first_codes st h)) (code_of t)
            (when_has (may_be_empty g) (first_codes st h) (code_of t) (nothing_spelled of k.some_token g l s.0 s.2 s.4 none)
            (first_sound st of begun k h l s.1 s.5 t more (ap (λ v. v ++ s.1) (sym none) ∙ sym s.3 ∙ e)))
        | inr some ↦ has_left (first_codes st g) (when (may_be_empty g) (first_codes st h)) (code_of t)
            (first_sound st of begun k g l s.0 (spelled_begun st of begun k g l s.0 s.2 s.4) t some.0 some.1)
      ]
  first_sound st of begun k (symbol x) l w s t more e = k.firsts x l t more (subst (begun x l) e s)

  seq_one : {A B : Type 0} (of : Spelling S V) → ((x : S) (l : Limits) (a : V x) → of x l [] a → ⊥) → (g : Grammar S V A) (h : Grammar S V B) (l l' : Limits) (front rest : List Lexeme) (a : A) (b : B) → SpelledBy of g l front a → SpelledBy of h l' rest b
      → ((t : Lexeme) → front ≡ t ∷ [] → may_be_one g ≡ true) → ((t : Lexeme) → rest ≡ t ∷ [] → may_be_one h ≡ true) → (t : Lexeme) → front ++ rest ≡ t ∷ [] → ((may_be_one g && may_be_empty h) || (may_be_empty g && may_be_one h)) ≡ true
  seq_one of k g h l l' front rest a b sg sh ig ih t e =
      elim (split_one front rest t [] e) [
        | inl none ↦ or_right (may_be_one g && may_be_empty h) (may_be_empty g && may_be_one h)
            (and_true (may_be_empty g) (may_be_one h) (nothing_spelled of k g l front a sg none) (ih t (ap (λ v. v ++ rest) (sym none) ∙ e)))
        | inr some ↦ let left = nothing_left some.0 rest some.2 in
            or_left (may_be_one g && may_be_empty h) (may_be_empty g && may_be_one h)
            (and_true (may_be_one g) (may_be_empty h) (ig t (some.1 ∙ ap (λ v. t ∷ v) left.0)) (nothing_spelled of k h l' rest b sh left.1))
      ]

  each_one : {A : Type 0} (of : Spelling S V) → ((x : S) (l : Limits) (a : V x) → of x l [] a → ⊥) → (g : Grammar S V A) (l : Limits) → ((w : List Lexeme) (a : A) → SpelledBy of g l w a → (t : Lexeme) → w ≡ t ∷ [] → may_be_one g ≡ true) → (list : List A) (w : List Lexeme) → SpelledEach (SpelledBy of g l) w list → (t : Lexeme) → w ≡ t ∷ [] → may_be_one g ≡ true
  each_one of k g l ig [] w s t e = cc
  each_one of k g l ig (a ∷ list) w (front, rest, cut, here, others) t e =
      elim (split_one front rest t [] (sym cut ∙ e)) [
        | inl none ↦ each_one of k g l ig list rest others t (ap (λ v. v ++ rest) (sym none) ∙ sym cut ∙ e)
        | inr some ↦ ig front a here t (some.1 ∙ ap (λ v. t ∷ v) (nothing_left some.0 rest some.2).0)
      ]

  pub one_spelled : {A : Type 0} (of : Spelling S V) → ((x : S) (l : Limits) (a : V x) → of x l [] a → ⊥) → (g : Grammar S V A) (l : Limits) (w : List Lexeme) (a : A) → SpelledBy of g l w a → (t : Lexeme) → w ≡ t ∷ [] → may_be_one g ≡ true
  one_spelled of k (empty b) l w a s t e = let none = s.0 in cc
  one_spelled of k (token codes) l w a s t e = refl
  one_spelled of k (seq g h) l w a s t e = seq_one of k g h l l s.0 s.1 a.0 a.1 s.3 s.4 (λ t e. one_spelled of k g l s.0 a.0 s.3 t e) (λ t e. one_spelled of k h l s.1 a.1 s.4 t e) t (sym s.2 ∙ e)
  one_spelled of k (either g h) l w a (inl s) t e = or_left (may_be_one g) (may_be_one h) (one_spelled of k g l w a s t e)
  one_spelled of k (either g h) l w a (inr s) t e = or_right (may_be_one g) (may_be_one h) (one_spelled of k h l w a s t e)
  one_spelled of k (either2 c ds g h) l w a (inl s) t e = or_left (may_be_one g) (may_be_one h) (one_spelled of k g l w a s t e)
  one_spelled of k (either2 c ds g h) l w a (inr s) t e = or_right (may_be_one g) (may_be_one h) (one_spelled of k h l w a s t e)
  one_spelled of k (many g) l w a s t e = each_one of k g l (λ w a s t e. one_spelled of k g l w a s t e) a w s t e
  one_spelled of k (made f g) l w a s t e = one_spelled of k g l w s.0 s.1 t e
  one_spelled of k (placed g) l w a s t e = one_spelled of k g l w a.1 s.4 t e
  one_spelled of k (nested o g) l w a s t e = one_spelled of k g s.0 w a s.2 t e
  one_spelled of k end_name l w a s t e = refl
  one_spelled of k (under called g h) l w a s t e = seq_one of k g h l (renamed (called a.0) l) s.0 s.1 a.0 a.1 s.3 s.4 (λ t e. one_spelled of k g l s.0 a.0 s.3 t e) (λ t e. one_spelled of k h (renamed (called a.0) l) s.1 a.1 s.4 t e) t (sym s.2 ∙ e)
  one_spelled of k (unless test g h) l w a s t e =
      elim (split_one s.0 s.1 t [] (sym s.2 ∙ e)) [
        | inl none ↦ or_right (may_be_one g) (may_be_empty g && may_be_one h)
            (and_true (may_be_empty g) (may_be_one h) (nothing_spelled of k g l s.0 a.0 s.3 none)
            (or_one (SpelledBy of h l) (may_be_one h) (first_passes test s.0 a.0) (λ w b s t e. one_spelled of k h l w b s t e) s.1 a.1 s.4 t (ap (λ v. v ++ s.1) (sym none) ∙ sym s.2 ∙ e)))
        | inr some ↦ or_left (may_be_one g) (may_be_empty g && may_be_one h) (one_spelled of k g l s.0 a.0 s.3 t (some.1 ∙ ap (λ v. t ∷ v) (nothing_left some.0 s.1 some.2).0))
      ]
  one_spelled of k (symbol x) l w a s t e = refl

  -- what may come second in the one and then the other
  seq_second : {A B : Type 0} (st sec : S → List ℕ) (c : ℕ) (of : Spelling S V) (begun : Beginning S) → Known S V st of begun → (g : Grammar S V A) (h : Grammar S V B) (l l' : Limits)
      → ((w : List Lexeme) → BegunBy of begun g l w → (t u : Lexeme) (more : List Lexeme) → w ≡ t ∷ u ∷ more → code_of t ≡ c → has (second_codes st sec c g) (code_of u) ≡ true)
      → ((w : List Lexeme) → BegunBy of begun h l' w → (t u : Lexeme) (more : List Lexeme) → w ≡ t ∷ u ∷ more → code_of t ≡ c → has (second_codes st sec c h) (code_of u) ≡ true)
      → (front rest : List Lexeme) (a : A) → SpelledBy of g l front a → BegunBy of begun h l' rest → (t u : Lexeme) (more : List Lexeme) → front ++ rest ≡ t ∷ u ∷ more → code_of t ≡ c
      → has (second_codes st sec c g ++ (when (has (first_codes st g) c && may_be_one g) (first_codes st h) ++ when (may_be_empty g) (second_codes st sec c h))) (code_of u) ≡ true
  seq_second st sec c of begun k g h l l' ig ih front rest a sg bh t u more e d =
      let mid = when (has (first_codes st g) c && may_be_one g) (first_codes st h) in
      let last = when (may_be_empty g) (second_codes st sec c h) in
      elim (split_two front rest t u more e) [
        | inl none ↦ has_right (second_codes st sec c g) (mid ++ last) (code_of u) (has_right mid last (code_of u)
            (when_has (may_be_empty g) (second_codes st sec c h) (code_of u) (nothing_spelled of k.some_token g l front a sg none)
            (ih rest bh t u more (ap (λ v. v ++ rest) (sym none) ∙ e) d)))
        | inr (inl one) ↦ has_right (second_codes st sec c g) (mid ++ last) (code_of u) (has_left mid last (code_of u)
            (when_has (has (first_codes st g) c && may_be_one g) (first_codes st h) (code_of u)
            (and_true (has (first_codes st g) c) (may_be_one g) (rw d at (first_sound st of begun k g l front (spelled_begun st of begun k g l front a sg) t [] one.0)) (one_spelled of k.some_token g l front a sg t one.0))
            (first_sound st of begun k h l' rest bh u more one.1)))
        | inr (inr two) ↦ has_left (second_codes st sec c g) (mid ++ last) (code_of u)
            (ig front (spelled_begun st of begun k g l front a sg) t u two.0 two.1 d)
      ]

  each_second : {A : Type 0} (st sec : S → List ℕ) (c : ℕ) (of : Spelling S V) (begun : Beginning S) → Known S V st of begun → (g : Grammar S V A) (l : Limits)
      → ((w : List Lexeme) → BegunBy of begun g l w → (t u : Lexeme) (more : List Lexeme) → w ≡ t ∷ u ∷ more → code_of t ≡ c → has (second_codes st sec c g) (code_of u) ≡ true)
      → (list : List A) (w : List Lexeme) → BegunEach (SpelledBy of g l) (BegunBy of begun g l) w list → (t u : Lexeme) (more : List Lexeme) → w ≡ t ∷ u ∷ more → code_of t ≡ c
      → has (second_codes st sec c g ++ when (has (first_codes st g) c && may_be_one g) (first_codes st g)) (code_of u) ≡ true
  each_second st sec c of begun k g l ig [] w s t u more e d = has_left (second_codes st sec c g) (when (has (first_codes st g) c && may_be_one g) (first_codes st g)) (code_of u) (ig w s t u more e d)
  each_second st sec c of begun k g l ig (a ∷ list) w (front, rest, cut, here, others) t u more e d =
      elim (split_two front rest t u more (sym cut ∙ e)) [
        | inl none ↦ each_second st sec c of begun k g l ig list rest others t u more (ap (λ v. v ++ rest) (sym none) ∙ sym cut ∙ e) d
        | inr (inl one) ↦ has_right (second_codes st sec c g) (when (has (first_codes st g) c && may_be_one g) (first_codes st g)) (code_of u)
            (when_has (has (first_codes st g) c && may_be_one g) (first_codes st g) (code_of u)
            (and_true (has (first_codes st g) c) (may_be_one g) (rw d at (first_sound st of begun k g l front (spelled_begun st of begun k g l front a here) t [] one.0)) (one_spelled of k.some_token g l front a here t one.0))
            (first_sound st of begun k (many g) l rest (list, others) u more one.1))
        | inr (inr two) ↦ has_left (second_codes st sec c g) (when (has (first_codes st g) c && may_be_one g) (first_codes st g)) (code_of u)
            (ig front (spelled_begun st of begun k g l front a here) t u two.0 two.1 d)
      ]

  pub second_sound : {A : Type 0} (st sec : S → List ℕ) (c : ℕ) (of : Spelling S V) (begun : Beginning S) → Known S V st of begun
      → ((x : S) (l : Limits) (t u : Lexeme) (more : List Lexeme) → begun x l (t ∷ u ∷ more) → code_of t ≡ c → has (sec x) (code_of u) ≡ true)
      → (g : Grammar S V A) (l : Limits) (w : List Lexeme) → BegunBy of begun g l w → (t u : Lexeme) (more : List Lexeme) → w ≡ t ∷ u ∷ more → code_of t ≡ c → has (second_codes st sec c g) (code_of u) ≡ true
  second_sound st sec c of begun k m (empty b) l w s t u more e d = cc
  second_sound st sec c of begun k m (token codes) l w (inl s) t u more e d = cc
  second_sound st sec c of begun k m (token codes) l w (inr s) t u more e d = let e' = s.1 in cc
  second_sound st sec c of begun k m (seq g h) l w (inl s) t u more e d = has_left (second_codes st sec c g) _ (code_of u) (second_sound st sec c of begun k m g l w s t u more e d)
  second_sound st sec c of begun k m (seq g h) l w (inr s) t u more e d =
      seq_second st sec c of begun k g h l l (λ w b t u more e d. second_sound st sec c of begun k m g l w b t u more e d) (λ w b t u more e d. second_sound st sec c of begun k m h l w b t u more e d) s.0 s.1 s.2 s.4 s.5 t u more (sym s.3 ∙ e) d
  second_sound st sec c of begun k m (either g h) l w (inl s) t u more e d = has_left (second_codes st sec c g) (second_codes st sec c h) (code_of u) (second_sound st sec c of begun k m g l w s t u more e d)
  second_sound st sec c of begun k m (either g h) l w (inr s) t u more e d = has_right (second_codes st sec c g) (second_codes st sec c h) (code_of u) (second_sound st sec c of begun k m h l w s t u more e d)
  second_sound st sec c of begun k m (either2 c' ds g h) l w (inl s) t u more e d = has_left (second_codes st sec c g) (second_codes st sec c h) (code_of u) (second_sound st sec c of begun k m g l w s t u more e d)
  second_sound st sec c of begun k m (either2 c' ds g h) l w (inr s) t u more e d = has_right (second_codes st sec c g) (second_codes st sec c h) (code_of u) (second_sound st sec c of begun k m h l w s t u more e d)
  second_sound st sec c of begun k m (many g) l w s t u more e d =
      each_second st sec c of begun k g l (λ w b t u more e d. second_sound st sec c of begun k m g l w b t u more e d) s.0 w s.1 t u more e d
  second_sound st sec c of begun k m (made f g) l w s t u more e d = second_sound st sec c of begun k m g l w s t u more e d
  second_sound st sec c of begun k m (placed g) l w s t u more e d = second_sound st sec c of begun k m g l w s t u more e d
  second_sound st sec c of begun k m (nested o g) l w (inl s) t u more e d = cc
  second_sound st sec c of begun k m (nested o g) l w (inr s) t u more e d = second_sound st sec c of begun k m g s.0 w s.2 t u more e d
  second_sound st sec c of begun k m end_name l w (inl s) t u more e d = cc
  second_sound st sec c of begun k m end_name l w (inr s) t u more e d = let e' = s.1 in cc
  second_sound st sec c of begun k m (under called g h) l w (inl s) t u more e d = has_left (second_codes st sec c g) _ (code_of u) (second_sound st sec c of begun k m g l w s t u more e d)
  second_sound st sec c of begun k m (under called g h) l w (inr s) t u more e d =
      seq_second st sec c of begun k g h l (renamed (called s.2) l) (λ w b t u more e d. second_sound st sec c of begun k m g l w b t u more e d) (λ w b t u more e d. second_sound st sec c of begun k m h (renamed (called s.2) l) w b t u more e d) s.0 s.1 s.2 s.4 s.5 t u more (sym s.3 ∙ e) d
  second_sound st sec c of begun k m (unless test g h) l w (inl s) t u more e d = has_left (second_codes st sec c g) _ (code_of u) (second_sound st sec c of begun k m g l w s t u more e d)
  second_sound st sec c of begun k m (unless test g h) l w (inr s) t u more e d =
      seq_second st sec c of begun k g h l l (λ w b t u more e d. second_sound st sec c of begun k m g l w b t u more e d) (λ w b t u more e d. second_sound st sec c of begun k m h l w b t u more e d) s.0 s.1 s.2 s.4 s.5 t u more (sym s.3 ∙ e) d
  second_sound st sec c of begun k m (symbol x) l w s t u more e d = m x l t u more (subst (begun x l) e s) d
