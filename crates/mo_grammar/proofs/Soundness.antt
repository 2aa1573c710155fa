-- What is read is spelled, and what was taken before a fault is begun.
use Rattle.std.proofs.Common.{◌≡◌, ℕ, zero, suc, Bool, true, false, List, [], ◌∷◌, ◌++◌, ◌⊎◌, inl, inr, Option, Some, None, length, refl, sym, ap, subst, ◌∙◌, if◌then◌else◌, append_assoc, append-nil}
use Rattle.mo_grammar.specs.declared.fault.Fault.{Fault}
use Rattle.mo_grammar.specs.declared.fault.Fault.TheVariants.{Misplaced, Misnamed, TooDeep}
use Rattle.mo_syntax.specs.declared.place.Place.{Place}
use Rattle.mo_grammar.specs.Lexeme.{Lexeme, code_of}
use Rattle.mo_grammar.specs.Grammar.{Opening, Limits, left_inside, end_name_in, suits, renamed, Grammar, empty, token, seq, either, either2, many, made, placed, nested, end_name, under, unless, symbol, has, identifiers, first_passes, Spelling, Beginning, SpelledBy, BegunBy}
use Rattle.mo_grammar.specs.Reading.{Outcome, read, stuck, unfinished, ◌>>=◌, Reader, may_be_empty, when, entry_codes, first_codes, next_in, next_two, reads_token, reads_end, each_from, reads_inside, reads_by, place_of_first, Tables, no_codes, lifted}
use Rattle.mo_grammar.proofs.Codes.{both, never, one_of, has_append, has_when, covers_lem}
use Rattle.mo_grammar.proofs.Decided.{Decided}
use Rattle.mo_grammar.proofs.Begun.{Known, spelled_begun, nothing_spelled}
use Rattle.mo_grammar.proofs.Limits.{Below, below_lifted, inside_lifted, inside_one_more, spelled_rises, renamed_lifted, suits_lifted}
use Rattle.mo_grammar.proofs.Outcomes.{unless_rest}

-- the next token is begun too once the limits are lifted that the fault speaks of
abbrev pub Past : (Limits → List Lexeme → Type 0) → Limits → Fault → List Lexeme → List Lexeme → Type 0
Past begun l Misplaced taken rest = Unit {0}
Past begun l Misnamed taken rest = (t : Lexeme) × (more : List Lexeme) × (rest ≡ t ∷ more) × begun (lifted Misnamed l) (taken ++ t ∷ []) × (has identifiers (code_of t) ≡ true)
Past begun l TooDeep taken rest = (t : Lexeme) × (more : List Lexeme) × (rest ≡ t ∷ more) × begun (lifted TooDeep l) (taken ++ t ∷ [])

abbrev pub Sound : {A : Type 0} → (List Lexeme → A → Type 0) → (Limits → List Lexeme → Type 0) → Limits → List Lexeme → Outcome A → Type 0
Sound part begun l tokens (read a rest) = (taken : List Lexeme) × (tokens ≡ taken ++ rest) × part taken a
Sound part begun l tokens (stuck fault rest) = (taken : List Lexeme) × (tokens ≡ taken ++ rest) × begun l taken × Past begun l fault taken rest
Sound part begun l tokens unfinished = Unit {0}

past_map : (b d : Limits → List Lexeme → Type 0) (l l' : Limits) (fault : Fault) (taken taken' rest : List Lexeme) → ((t : Lexeme) → b (lifted fault l) (taken ++ t ∷ []) → d (lifted fault l') (taken' ++ t ∷ [])) → Past b l fault taken rest → Past d l' fault taken' rest
past_map b d l l' Misplaced taken taken' rest f p = tt
past_map b d l l' Misnamed taken taken' rest f p = (p.0, p.1, p.2, f p.0 p.3, p.4)
past_map b d l l' TooDeep taken taken' rest f p = (p.0, p.1, p.2, f p.0 p.3)

-- the same tokens, seen another way
sound_map : {A B : Type 0} (p : List Lexeme → A → Type 0) (q : List Lexeme → B → Type 0) (b d : Limits → List Lexeme → Type 0) (l l' : Limits) (w : List Lexeme) (o : Outcome A) (f : A → B)
    → ((taken : List Lexeme) (a : A) (rest : List Lexeme) → w ≡ taken ++ rest → p taken a → q taken (f a)) → ((taken : List Lexeme) → b l taken → d l' taken) → ((fault : Fault) (taken : List Lexeme) → b (lifted fault l) taken → d (lifted fault l') taken)
    → Sound p b l w o → Sound q d l' w (o >>= λ x. read (f x.0) x.1)
sound_map p q b d l l' w (read a rest) f m n k s = (s.0, s.1, m s.0 a rest s.1 s.2)
sound_map p q b d l l' w (stuck fault rest) f m n k s = (s.0, s.1, n s.0 s.2, past_map b d l l' fault s.0 s.0 rest (λ t. k fault (s.0 ++ t ∷ [])) s.3)
sound_map p q b d l l' w unfinished f m n k s = tt

sound_if : {A : Type 0} (p : List Lexeme → A → Type 0) (b : Limits → List Lexeme → Type 0) (l : Limits) (w : List Lexeme) (test : Bool) (o o' : Outcome A) → Sound p b l w o → Sound p b l w o' → Sound p b l w (if test then o else o')
sound_if p b l w true o o' s s' = s
sound_if p b l w false o o' s s' = s'

-- a choice keeps what it chose between
sound_left : {A : Type 0} (p p' : List Lexeme → A → Type 0) (b b' : Limits → List Lexeme → Type 0) (l : Limits) (w : List Lexeme) (o : Outcome A) → Sound p b l w o → Sound (λ w a. p w a ⊎ p' w a) (λ l w. b l w ⊎ b' l w) l w o
sound_left p p' b b' l w (read a rest) s = (s.0, s.1, inl s.2)
sound_left p p' b b' l w (stuck fault rest) s = (s.0, s.1, inl s.2, past_map b (λ l w. b l w ⊎ b' l w) l l fault s.0 s.0 rest (λ t. inl) s.3)
sound_left p p' b b' l w unfinished s = tt

sound_right : {A : Type 0} (p p' : List Lexeme → A → Type 0) (b b' : Limits → List Lexeme → Type 0) (l : Limits) (w : List Lexeme) (o : Outcome A) → Sound p' b' l w o → Sound (λ w a. p w a ⊎ p' w a) (λ l w. b l w ⊎ b' l w) l w o
sound_right p p' b b' l w (read a rest) s = (s.0, s.1, inr s.2)
sound_right p p' b b' l w (stuck fault rest) s = (s.0, s.1, inr s.2, past_map b' (λ l w. b l w ⊎ b' l w) l l fault s.0 s.0 rest (λ t. inr) s.3)
sound_right p p' b b' l w unfinished s = tt

token_sound : {S : Type 0} {V : S → Type 0} (of : Spelling S V) (begun : Beginning S) (codes : List ℕ) (l : Limits) (w : List Lexeme) → Sound (SpelledBy of (token codes) l) (BegunBy of begun (token codes)) l w (reads_token codes w)
token_sound of begun codes l [] = ([], refl, inl refl, tt)
token_sound {S = S} {V = V} of begun codes l (t ∷ w) = go (has codes (code_of t)) refl
  where
    go : (b : Bool) → has codes (code_of t) ≡ b → Sound (SpelledBy {S = S} {V = V} of (token codes) l) (BegunBy {S = S} {V = V} of begun (token codes)) l (t ∷ w) (if b then read t w else stuck Misplaced (t ∷ w))
    go true e = (t ∷ [], refl, (refl, e))
    go false e = ([], refl, inl refl, tt)

module _ {S : Type 0} {V : S → Type 0} where
  -- the other after the one
  seq_after : {A B : Type 0} (of : Spelling S V) (begun : Beginning S) → ((x : S) (l m : Limits) (w : List Lexeme) (a : V x) → Below l m → of x l w a → of x m w a) → (g : Grammar S V A) (h : Grammar S V B) (l : Limits) (front : List Lexeme) (a : A) → SpelledBy of g l front a → (w : List Lexeme) (o : Outcome B) → Sound (SpelledBy of h l) (BegunBy of begun h) l w o → Sound (SpelledBy of (seq g h) l) (BegunBy of begun (seq g h)) l (front ++ w) (o >>= λ y. read (a, y.0) y.1)
  seq_after of begun rise g h l front a sg w (read b rest) s = (front ++ s.0, ap (λ v. front ++ v) s.1 ∙ sym (append_assoc front s.0 rest), (front, s.0, refl, sg, s.2))
  seq_after of begun rise g h l front a sg w (stuck fault rest) s = (
    front ++ s.0,
    ap (λ v. front ++ v) s.1 ∙ sym (append_assoc front s.0 rest),
    inr (front, s.0, a, refl, sg, s.2),
    past_map (BegunBy of begun h) (BegunBy of begun (seq g h)) l l fault s.0 (front ++ s.0) rest (λ t b. inr (front, s.0 ++ t ∷ [], a, append_assoc front s.0 (t ∷ []), spelled_rises of of rise g l (lifted fault l) (below_lifted fault l) front a sg, b)) s.3,
  )
  seq_after of begun rise g h l front a sg w unfinished s = tt

  seq_sound : {A B : Type 0} (of : Spelling S V) (begun : Beginning S) → ((x : S) (l m : Limits) (w : List Lexeme) (a : V x) → Below l m → of x l w a → of x m w a) → (g : Grammar S V A) (h : Grammar S V B) (l : Limits) (w : List Lexeme) (o : Outcome A) (f : List Lexeme → Outcome B) → Sound (SpelledBy of g l) (BegunBy of begun g) l w o → ((w : List Lexeme) → Sound (SpelledBy of h l) (BegunBy of begun h) l w (f w)) → Sound (SpelledBy of (seq g h) l) (BegunBy of begun (seq g h)) l w (o >>= λ x. f x.1 >>= λ y. read (x.0, y.0) y.1)
  seq_sound {A = A} {B = B} of begun rise g h l w (read a rest) f s k =
      let P : List Lexeme → Type 0 = λ v. Sound (SpelledBy of (seq g h) l) (BegunBy of begun (seq g h)) l v (f rest >>= λ y. read (a, y.0) y.1) in
      subst P (sym s.1) (seq_after of begun rise g h l s.0 a s.2 rest (f rest) (k rest))
  seq_sound of begun rise g h l w (stuck fault rest) f s k = (s.0, s.1, inl s.2, past_map (BegunBy of begun g) (BegunBy of begun (seq g h)) l l fault s.0 s.0 rest (λ t. inl) s.3)
  seq_sound of begun rise g h l w unfinished f s k = tt

  -- the other after the one, inside a class
  under_after : {A B : Type 0} (of : Spelling S V) (begun : Beginning S) → ((x : S) (l m : Limits) (w : List Lexeme) (a : V x) → Below l m → of x l w a → of x m w a) → (called : A → List ℕ) (g : Grammar S V A) (h : Grammar S V B) (l : Limits) (front : List Lexeme) (a : A) → SpelledBy of g l front a → (w : List Lexeme) (o : Outcome B) → Sound (SpelledBy of h (renamed (called a) l)) (BegunBy of begun h) (renamed (called a) l) w o → Sound (SpelledBy of (under called g h) l) (BegunBy of begun (under called g h)) l (front ++ w) (o >>= λ y. read (a, y.0) y.1)
  under_after of begun rise called g h l front a sg w (read b rest) s = (front ++ s.0, ap (λ v. front ++ v) s.1 ∙ sym (append_assoc front s.0 rest), (front, s.0, refl, sg, s.2))
  under_after of begun rise called g h l front a sg w (stuck fault rest) s = (
    front ++ s.0,
    ap (λ v. front ++ v) s.1 ∙ sym (append_assoc front s.0 rest),
    inr (front, s.0, a, refl, sg, s.2),
    past_map (BegunBy of begun h) (BegunBy of begun (under called g h)) (renamed (called a) l) l fault s.0 (front ++ s.0) rest
        (λ t b. inr (front, s.0 ++ t ∷ [], a, append_assoc front s.0 (t ∷ []), spelled_rises of of rise g l (lifted fault l) (below_lifted fault l) front a sg, subst (λ m. BegunBy of begun h m (s.0 ++ t ∷ [])) (sym (renamed_lifted (called a) fault l)) b)) s.3,
  )
  under_after of begun rise called g h l front a sg w unfinished s = tt

  under_sound : {A B : Type 0} (of : Spelling S V) (begun : Beginning S) → ((x : S) (l m : Limits) (w : List Lexeme) (a : V x) → Below l m → of x l w a → of x m w a) → (called : A → List ℕ) (g : Grammar S V A) (h : Grammar S V B) (l : Limits) (w : List Lexeme) (o : Outcome A) (f : A → List Lexeme → Outcome B) → Sound (SpelledBy of g l) (BegunBy of begun g) l w o → ((a : A) (w : List Lexeme) → Sound (SpelledBy of h (renamed (called a) l)) (BegunBy of begun h) (renamed (called a) l) w (f a w)) → Sound (SpelledBy of (under called g h) l) (BegunBy of begun (under called g h)) l w (o >>= λ x. f x.0 x.1 >>= λ y. read (x.0, y.0) y.1)
  under_sound {A = A} {B = B} of begun rise called g h l w (read a rest) f s k =
      let P : List Lexeme → Type 0 = λ v. Sound (SpelledBy of (under called g h) l) (BegunBy of begun (under called g h)) l v (f a rest >>= λ y. read (a, y.0) y.1) in
      subst P (sym s.1) (under_after of begun rise called g h l s.0 a s.2 rest (f a rest) (k a rest))
  under_sound of begun rise called g h l w (stuck fault rest) f s k = (s.0, s.1, inl s.2, past_map (BegunBy of begun g) (BegunBy of begun (under called g h)) l l fault s.0 s.0 rest (λ t. inl) s.3)
  under_sound of begun rise called g h l w unfinished f s k = tt

  many_after : {A : Type 0} (of : Spelling S V) (begun : Beginning S) → ((x : S) (l m : Limits) (w : List Lexeme) (a : V x) → Below l m → of x l w a → of x m w a) → (g : Grammar S V A) (l : Limits) (front : List Lexeme) (a : A) → SpelledBy of g l front a → (w : List Lexeme) (o : Outcome (List A)) → Sound (SpelledBy of (many g) l) (BegunBy of begun (many g)) l w o → Sound (SpelledBy of (many g) l) (BegunBy of begun (many g)) l (front ++ w) (o >>= λ y. read (a ∷ y.0) y.1)
  many_after of begun rise g l front a sg w (read list rest) s = (front ++ s.0, ap (λ v. front ++ v) s.1 ∙ sym (append_assoc front s.0 rest), (front, s.0, refl, sg, s.2))
  many_after of begun rise g l front a sg w (stuck fault rest) s = (
    front ++ s.0,
    ap (λ v. front ++ v) s.1 ∙ sym (append_assoc front s.0 rest),
    (let b = s.2 in (a ∷ b.0, (front, s.0, refl, sg, b.1))),
    past_map (BegunBy of begun (many g)) (BegunBy of begun (many g)) l l fault s.0 (front ++ s.0) rest (λ t b. (a ∷ b.0, (front, s.0 ++ t ∷ [], append_assoc front s.0 (t ∷ []), spelled_rises of of rise g l (lifted fault l) (below_lifted fault l) front a sg, b.1))) s.3,
  )
  many_after of begun rise g l front a sg w unfinished s = tt

  many_step : {A : Type 0} (of : Spelling S V) (begun : Beginning S) → ((x : S) (l m : Limits) (w : List Lexeme) (a : V x) → Below l m → of x l w a → of x m w a) → (g : Grammar S V A) (l : Limits) (w : List Lexeme) (o : Outcome A) (f : List Lexeme → Outcome (List A)) → Sound (SpelledBy of g l) (BegunBy of begun g) l w o → ((w : List Lexeme) → Sound (SpelledBy of (many g) l) (BegunBy of begun (many g)) l w (f w)) → Sound (SpelledBy of (many g) l) (BegunBy of begun (many g)) l w (o >>= λ x. f x.1 >>= λ y. read (x.0 ∷ y.0) y.1)
  many_step {A = A} of begun rise g l w (read a rest) f s k =
      let P : List Lexeme → Type 0 = λ v. Sound (SpelledBy of (many g) l) (BegunBy of begun (many g)) l v (f rest >>= λ y. read (a ∷ y.0) y.1) in
      subst P (sym s.1) (many_after of begun rise g l s.0 a s.2 rest (f rest) (k rest))
  many_step of begun rise g l w (stuck fault rest) f s k = (s.0, s.1, ([], s.2), past_map (BegunBy of begun g) (BegunBy of begun (many g)) l l fault s.0 s.0 rest (λ t b. ([], b)) s.3)
  many_step of begun rise g l w unfinished f s k = tt

  many_sound : {A : Type 0} (of : Spelling S V) (begun : Beginning S) → ((x : S) (l m : Limits) (w : List Lexeme) (a : V x) → Below l m → of x l w a → of x m w a) → (g : Grammar S V A) (l : Limits) (codes : List ℕ) (part : List Lexeme → Outcome A) → ((w : List Lexeme) → Sound (SpelledBy of g l) (BegunBy of begun g) l w (part w)) → (n : ℕ) (w : List Lexeme) → Sound (SpelledBy of (many g) l) (BegunBy of begun (many g)) l w (each_from codes part n w)
  many_sound {A = A} of begun rise g l codes part k zero w = sound_if {A = List A} (SpelledBy of (many g) l) (BegunBy of begun (many g)) l w (next_in codes w) unfinished (read [] w) tt ([], refl, refl)
  many_sound {A = A} of begun rise g l codes part k (suc n) w =
      sound_if {A = List A} (SpelledBy of (many g) l) (BegunBy of begun (many g)) l w (next_in codes w) (part w >>= λ x. each_from codes part n x.1 >>= λ y. read (x.0 ∷ y.0) y.1) (read [] w)
      (many_step of begun rise g l w (part w) (each_from codes part n) (k w) (λ w. many_sound of begun rise g l codes part k n w))
      ([], refl, refl)

  pub spells_nothing : {A : Type 0} (k : Tables S) (of : Spelling S V) (g : Grammar S V A) → Decided k g → may_be_empty g ≡ true → (l : Limits) → (a : A) × SpelledBy of g l [] a
  spells_nothing k of (empty a) d e l = (a, (refl, refl))
  spells_nothing k of (token codes) d e l = cc
  spells_nothing k of (seq g h) d e l =
      let none = both (may_be_empty g) (may_be_empty h) e in
      let a = spells_nothing k of g d.0 none.0 l in
      let b = spells_nothing k of h d.1 none.1 l in
      ((a.0, b.0), ([], [], refl, a.1, b.1))
  spells_nothing k of (either g h) d e l = elim (one_of (may_be_empty g) (may_be_empty h) e) [
    | inl t ↦ let a = spells_nothing k of g d.0 t l in (a.0, inl a.1)
    | inr t ↦ let a = spells_nothing k of h d.1 t l in (a.0, inr a.1)
  ]
  spells_nothing k of (either2 c ds g h) d e l = elim (one_of (may_be_empty g) (may_be_empty h) e) [
    | inl t ↦ let a = spells_nothing k of g d.0 t l in (a.0, inl a.1)
    | inr t ↦ let a = spells_nothing k of h d.1 t l in (a.0, inr a.1)
  ]
  spells_nothing k of (many g) d e l = ([], refl)
  spells_nothing k of (made f g) d e l = let a = spells_nothing k of g d e l in (f a.0, (a.0, a.1, refl))
  spells_nothing k of (placed g) d e l = never (may_be_empty g) e d.1
  spells_nothing k of (nested o g) d e l = never (may_be_empty g) e d.1
  spells_nothing k of end_name d e l = cc
  spells_nothing k of (under called g h) d e l =
      let none = both (may_be_empty g) (may_be_empty h) e in
      let a = spells_nothing k of g d.0 none.0 l in
      let b = spells_nothing k of h d.1 none.1 (renamed (called a.0) l) in
      ((a.0, b.0), ([], [], refl, a.1, b.1))
  spells_nothing k of (unless test g h) d e l = never (may_be_empty g) e d.2
  spells_nothing k of (symbol x) d e l = cc

  -- a token that comes first and opens nothing begins the grammar within any limits
  token_begins : {A : Type 0} (k : Tables S) (of : Spelling S V) (begun : Beginning S) (g : Grammar S V A) → Decided k g → (l : Limits) (t : Lexeme) → has (entry_codes false no_codes g) (code_of t) ≡ true → BegunBy of begun g l (t ∷ [])
  token_begins k of begun (empty a) d l t e = cc
  token_begins k of begun (token codes) d l t e = inr (t, refl, e)
  token_begins k of begun (seq g h) d l t e = elim (has_append (entry_codes false no_codes g) (when (may_be_empty g) (entry_codes false no_codes h)) (code_of t) e) [
    | inl here ↦ inl (token_begins k of begun g d.0 l t here)
    | inr later ↦
        let p = has_when (may_be_empty g) (entry_codes false no_codes h) (code_of t) later in
        let none = spells_nothing k of g d.0 p.0 l in
        inr ([], t ∷ [], none.0, refl, none.1, token_begins k of begun h d.1 l t p.1)
  ]
  token_begins k of begun (either g h) d l t e = elim (has_append (entry_codes false no_codes g) (entry_codes false no_codes h) (code_of t) e) [
    | inl here ↦ inl (token_begins k of begun g d.0 l t here)
    | inr there ↦ inr (token_begins k of begun h d.1 l t there)
  ]
  token_begins k of begun (either2 c ds g h) d l t e = elim (has_append (entry_codes false no_codes g) (entry_codes false no_codes h) (code_of t) e) [
    | inl here ↦ inl (token_begins k of begun g d.0 l t here)
    | inr there ↦ inr (token_begins k of begun h d.1 l t there)
  ]
  token_begins k of begun (many g) d l t e = ([], token_begins k of begun g d.0 l t e)
  token_begins k of begun (made f g) d l t e = token_begins k of begun g d l t e
  token_begins k of begun (placed g) d l t e = token_begins k of begun g d.0 l t e
  token_begins k of begun (nested o g) d l t e = cc
  token_begins k of begun end_name d l t e = cc
  token_begins k of begun (under called g h) d l t e = elim (has_append (entry_codes false no_codes g) (when (may_be_empty g) (entry_codes false no_codes h)) (code_of t) e) [
    | inl here ↦ inl (token_begins k of begun g d.0 l t here)
    | inr later ↦
        let p = has_when (may_be_empty g) (entry_codes false no_codes h) (code_of t) later in
        let none = spells_nothing k of g d.0 p.0 l in
        inr ([], t ∷ [], none.0, refl, none.1, token_begins k of begun h d.1 (renamed (called none.0) l) t p.1)
  ]
  token_begins k of begun (unless test g h) d l t e = elim (has_append (entry_codes false no_codes g) (when (may_be_empty g) (entry_codes false no_codes h)) (code_of t) e) [
    | inl here ↦ inl (token_begins k of begun g d.0 l t here)
    | inr later ↦ never (may_be_empty g) (has_when (may_be_empty g) (entry_codes false no_codes h) (code_of t) later).0 d.2
  ]
  token_begins k of begun (symbol x) d l t e = cc

  -- nothing may be opened here
  shut_sound : {A : Type 0} (k : Tables S) (of : Spelling S V) (begun : Beginning S) (o : Opening) (g : Grammar S V A) → Decided k (nested o g) → (l : Limits) (w : List Lexeme) (opens : Bool) → next_in (first_codes k.starts g) w ≡ opens → Sound {A = A} (SpelledBy of (nested o g) l) (BegunBy of begun (nested o g)) l w (stuck (if opens then TooDeep else Misplaced) w)
  shut_sound k of begun o g d l w false e = ([], refl, inl refl, tt)
  shut_sound k of begun o g d l [] true e = cc
  shut_sound k of begun o g d l (t ∷ w) true e =
      let i = inside_one_more o l in
      ([], refl, inl refl, (t, w, refl, inr (i.0, i.1, token_begins k of begun g d.0 i.0 t (covers_lem (entry_codes false no_codes g) (first_codes k.starts g) (code_of t) d.2 e))))

  inside_sound : {A : Type 0} (k : Tables S) (of : Spelling S V) (begun : Beginning S) (o : Opening) (g : Grammar S V A) → Decided k (nested o g) → (l : Limits) (w : List Lexeme) (part : Limits → Outcome A) → ((i : Limits) → Sound (SpelledBy of g i) (BegunBy of begun g) i w (part i)) → (left : Option Limits) → left_inside o l ≡ left → Sound (SpelledBy of (nested o g) l) (BegunBy of begun (nested o g)) l w (reads_inside (next_in (first_codes k.starts g) w) left part w)
  inside_sound k of begun o g d l w part m None e = shut_sound k of begun o g d l w (next_in (first_codes k.starts g) w) refl
  inside_sound {A = A} k of begun o g d l w part m (Some i) e = go (part i) (m i)
    where
      go : (out : Outcome A) → Sound (SpelledBy of g i) (BegunBy of begun g) i w out → Sound (SpelledBy of (nested o g) l) (BegunBy of begun (nested o g)) l w out
      go (read a rest) s = (s.0, s.1, (i, e, s.2))
      go (stuck fault rest) s = (s.0, s.1, inr (i, e, s.2), past_map (BegunBy of begun g) (BegunBy of begun (nested o g)) i l fault s.0 s.0 rest (λ t b. inr (lifted fault i, inside_lifted fault o l i e, b)) s.3)
      go unfinished s = tt

  placed_sound : {A : Type 0} (of : Spelling S V) (begun : Beginning S) → ((x : S) (l : Limits) (a : V x) → of x l [] a → ⊥) → (g : Grammar S V A) → may_be_empty g ≡ false → (l : Limits) (w : List Lexeme) (o : Outcome A) → Sound (SpelledBy of g l) (BegunBy of begun g) l w o → Sound {A = Place × A} (SpelledBy of (placed g) l) (BegunBy of begun (placed g)) l w (o >>= λ x. read (place_of_first w, x.0) x.1)
  placed_sound {A = A} of begun k g n l w o s = sound_map {B = Place × A} (SpelledBy of g l) (SpelledBy of (placed g) l) (BegunBy of begun g) (BegunBy of begun (placed g)) l l w o (λ a. (place_of_first w, a)) go (λ taken b. b) (λ fault taken b. b) s
    where
      go : (taken : List Lexeme) (a : A) (rest : List Lexeme) → w ≡ taken ++ rest → SpelledBy of g l taken a → SpelledBy of (placed g) l taken (place_of_first w, a)
      go [] a rest e p = never (may_be_empty g) (nothing_spelled of k g l [] a p refl) n
      go (t ∷ taken) a rest e p = (t, taken, refl, ap place_of_first e, p)

  -- the name behind `end`
  end_sound : (of : Spelling S V) (begun : Beginning S) (l : Limits) (w : List Lexeme) → Sound (SpelledBy of end_name l) (BegunBy of begun end_name) l w (reads_end (end_name_in l) w)
  end_sound of begun l [] = ([], refl, inl refl, tt)
  end_sound of begun l (t ∷ w) = go (has identifiers (code_of t)) (suits (end_name_in l) t) refl refl
    where
      go : (b d : Bool) → has identifiers (code_of t) ≡ b → suits (end_name_in l) t ≡ d → Sound (SpelledBy of end_name l) (BegunBy of begun end_name) l (t ∷ w) (if b then (if d then read t w else stuck Misnamed (t ∷ w)) else stuck Misplaced (t ∷ w))
      go true true e f = (t ∷ [], refl, (refl, e, f))
      go true false e f = ([], refl, inl refl, (t, w, refl, inr (t, refl, e, suits_lifted l t), e))
      go false d e f = ([], refl, inl refl, tt)

  -- what may follow the one of an `unless`
  unless_after : {A B : Type 0} (st : S → List ℕ) (of : Spelling S V) (begun : Beginning S) (reader : Reader S V) → Known S V st of begun → ((x : S) (l m : Limits) (w : List Lexeme) (a : V x) → Below l m → of x l w a → of x m w a) → (test : Lexeme → A → Bool) (g : Grammar S V A) → may_be_empty g ≡ false → (h : Grammar S V B) (l : Limits) (front : List Lexeme) (a : A) → SpelledBy of g l front a → (w : List Lexeme) → Sound (SpelledBy of h l) (BegunBy of begun h) l w (reads_by st reader h l w) → Sound (SpelledBy of (unless test g h) l) (BegunBy of begun (unless test g h)) l (front ++ w) (unless_rest st reader test h l (front ++ w) (a, w))
  unless_after {A = A} {B = B} st of begun reader k rise test g n h l front a s w m = go (next_in (first_codes st h) w)
    where
      after : (o : Outcome B) → Sound (SpelledBy of h l) (BegunBy of begun h) l w o → Sound (SpelledBy of (unless test g h) l) (BegunBy of begun (unless test g h)) l (front ++ w) (o >>= λ y. read (a, Some y.0) y.1)
      after (read b rest) p = (front ++ p.0, ap (λ v. front ++ v) p.1 ∙ sym (append_assoc front p.0 rest), (front, p.0, refl, s, p.2))
      after (stuck fault rest) p = (
        front ++ p.0,
        ap (λ v. front ++ v) p.1 ∙ sym (append_assoc front p.0 rest),
        inr (front, p.0, a, refl, s, p.2),
        past_map (BegunBy of begun h) (BegunBy of begun (unless test g h)) l l fault p.0 (front ++ p.0) rest (λ t b. inr (front, p.0 ++ t ∷ [], a, append_assoc front p.0 (t ∷ []), spelled_rises of of rise g l (lifted fault l) (below_lifted fault l) front a s, b)) p.3,
      )
      after unfinished p = tt

      passes : (f : List Lexeme) → SpelledBy of g l f a → first_passes test (f ++ w) a ≡ true → first_passes test f a ≡ true
      passes [] p e = never (may_be_empty g) (nothing_spelled of k.some_token g l [] a p refl) n
      passes (t ∷ f) p e = e

      alone : (b : Bool) → first_passes test (front ++ w) a ≡ b → Sound {A = A × Option B} (SpelledBy of (unless test g h) l) (BegunBy of begun (unless test g h)) l (front ++ w) (if b then read (a, None) w else stuck Misplaced w)
      alone true e = (front, refl, (front, [], sym (append-nil front), s, (refl, passes front s e)))
      alone false e = (front, refl, inl (spelled_begun st of begun k g l front a s), tt)

      go : (b : Bool) → Sound {A = A × Option B} (SpelledBy of (unless test g h) l) (BegunBy of begun (unless test g h)) l (front ++ w) (if b then (reads_by st reader h l w >>= λ y. read (a, Some y.0) y.1) else (if first_passes test (front ++ w) a then read (a, None) w else stuck Misplaced w))
      go true = after (reads_by st reader h l w) m
      go false = alone (first_passes test (front ++ w) a) refl

  unless_sound : {A B : Type 0} (st : S → List ℕ) (of : Spelling S V) (begun : Beginning S) (reader : Reader S V) → Known S V st of begun → ((x : S) (l m : Limits) (w : List Lexeme) (a : V x) → Below l m → of x l w a → of x m w a) → (test : Lexeme → A → Bool) (g : Grammar S V A) → may_be_empty g ≡ false → (h : Grammar S V B) (l : Limits) (w : List Lexeme) (o : Outcome A) → Sound (SpelledBy of g l) (BegunBy of begun g) l w o → ((w : List Lexeme) → Sound (SpelledBy of h l) (BegunBy of begun h) l w (reads_by st reader h l w)) → Sound (SpelledBy of (unless test g h) l) (BegunBy of begun (unless test g h)) l w (o >>= unless_rest st reader test h l w)
  unless_sound {A = A} {B = B} st of begun reader k rise test g n h l w (read a rest) s m =
      let P : List Lexeme → Type 0 = λ v. Sound (SpelledBy of (unless test g h) l) (BegunBy of begun (unless test g h)) l v (unless_rest st reader test h l v (a, rest)) in
      subst P (sym s.1) (unless_after st of begun reader k rise test g n h l s.0 a s.2 rest (m rest))
  unless_sound st of begun reader k rise test g n h l w (stuck fault rest) s m = (s.0, s.1, inl s.2, past_map (BegunBy of begun g) (BegunBy of begun (unless test g h)) l l fault s.0 s.0 rest (λ t. inl) s.3)
  unless_sound st of begun reader k rise test g n h l w unfinished s m = tt

  -- What is read is spelled; what was taken before a fault is begun, and the token at a fault of the limits would be begun
  -- too if they were lifted.
  pub sound : {A : Type 0} (k : Tables S) (of : Spelling S V) (begun : Beginning S) (reader : Reader S V) → Known S V k.starts of begun → ((x : S) (l m : Limits) (w : List Lexeme) (a : V x) → Below l m → of x l w a → of x m w a) → ((x : S) (l : Limits) (w : List Lexeme) → Sound (of x l) (begun x) l w (reader x l w)) → (g : Grammar S V A) → Decided k g → (l : Limits) (w : List Lexeme) → Sound (SpelledBy of g l) (BegunBy of begun g) l w (reads_by k.starts reader g l w)
  sound k of begun r m rise sub (empty a) d l w = ([], refl, (refl, refl))
  sound k of begun r m rise sub (token codes) d l w = token_sound of begun codes l w
  sound k of begun r m rise sub (seq g h) d l w = seq_sound of begun rise g h l w (reads_by k.starts r g l w) (reads_by k.starts r h l) (sound k of begun r m rise sub g d.0 l w) (λ w. sound k of begun r m rise sub h d.1 l w)
  sound k of begun r m rise sub (either g h) d l w =
      sound_if (SpelledBy of (either g h) l) (BegunBy of begun (either g h)) l w (next_in (first_codes k.starts g) w) (reads_by k.starts r g l w) (reads_by k.starts r h l w)
      (sound_left (SpelledBy of g l) (SpelledBy of h l) (BegunBy of begun g) (BegunBy of begun h) l w (reads_by k.starts r g l w) (sound k of begun r m rise sub g d.0 l w))
      (sound_right (SpelledBy of g l) (SpelledBy of h l) (BegunBy of begun g) (BegunBy of begun h) l w (reads_by k.starts r h l w) (sound k of begun r m rise sub h d.1 l w))
  sound k of begun r m rise sub (either2 c ds g h) d l w =
      sound_if (SpelledBy of (either2 c ds g h) l) (BegunBy of begun (either2 c ds g h)) l w (next_two c ds w) (reads_by k.starts r g l w) (reads_by k.starts r h l w)
      (sound_left (SpelledBy of g l) (SpelledBy of h l) (BegunBy of begun g) (BegunBy of begun h) l w (reads_by k.starts r g l w) (sound k of begun r m rise sub g d.0 l w))
      (sound_right (SpelledBy of g l) (SpelledBy of h l) (BegunBy of begun g) (BegunBy of begun h) l w (reads_by k.starts r h l w) (sound k of begun r m rise sub h d.1 l w))
  sound k of begun r m rise sub (many g) d l w = many_sound of begun rise g l (first_codes k.starts g) (reads_by k.starts r g l) (λ w. sound k of begun r m rise sub g d.0 l w) (length w) w
  sound k of begun r m rise sub (made f g) d l w =
      sound_map (SpelledBy of g l) (SpelledBy of (made f g) l) (BegunBy of begun g) (BegunBy of begun (made f g)) l l w (reads_by k.starts r g l w) f (λ taken a rest e p. (a, p, refl)) (λ taken b. b) (λ fault taken b. b) (sound k of begun r m rise sub g d l w)
  sound k of begun r m rise sub (placed g) d l w = placed_sound of begun m.some_token g d.1 l w (reads_by k.starts r g l w) (sound k of begun r m rise sub g d.0 l w)
  sound k of begun r m rise sub (nested o g) d l w = inside_sound k of begun o g d l w (λ inner. reads_by k.starts r g inner w) (λ i. sound k of begun r m rise sub g d.0 i w) (left_inside o l) refl
  sound k of begun r m rise sub end_name d l w = end_sound of begun l w
  sound k of begun r m rise sub (under called g h) d l w = under_sound of begun rise called g h l w (reads_by k.starts r g l w) (λ a w. reads_by k.starts r h (renamed (called a) l) w) (sound k of begun r m rise sub g d.0 l w) (λ a w. sound k of begun r m rise sub h d.1 (renamed (called a) l) w)
  sound k of begun r m rise sub (unless test g h) d l w = unless_sound k.starts of begun r m rise test g d.2 h l w (reads_by k.starts r g l w) (sound k of begun r m rise sub g d.0 l w) (λ w. sound k of begun r m rise sub h d.1 l w)
  sound k of begun r m rise sub (symbol x) d l w = sub x l w
