-- Limits that allow more, and what is spelled and begun within them.
use Rattle.std.proofs.Common.{◌≡◌, ℕ, zero, suc, ◌≤◌, max, Bool, true, false, List, [], ◌∷◌, inl, inr, Option, Some, None, refl, sym, ap, subst, ◌∙◌, le_refl, arith, if◌then◌else◌}
use Rattle.std.specs.Str.{bytes_eq}
use Rattle.std.proofs.lemmas.Slice.Eq.{bytes_eq-Decides}
use Rattle.mo_grammar.specs.declared.fault.Fault.{Fault}
use Rattle.mo_grammar.specs.declared.fault.Fault.TheVariants.{Misplaced, Misnamed, TooDeep}
use Rattle.mo_grammar.specs.Lexeme.{Lexeme}
use Rattle.mo_grammar.specs.Grammar.{Opening, a_construct, a_class, Limits, at_most, left_inside, EndName, any_name, this_name, end_name_in, suits, renamed, Grammar, empty, token, seq, either, either2, many, made, placed, nested, end_name, under, unless, symbol, first_passes, Spelling, Beginning, SpelledBy, SpelledEach, SpelledOr, BegunBy, BegunEach}
use Rattle.mo_grammar.specs.Reading.{lifted}

-- the second allows what the first allows
abbrev pub NameBelow : EndName → EndName → Type 0
NameBelow any_name any_name = Unit {0}
NameBelow (this_name a) any_name = Unit {0}
NameBelow any_name (this_name b) = ⊥
NameBelow (this_name a) (this_name b) = a ≡ b

abbrev pub Below : Limits → Limits → Type 0
Below (at_most n k f) (at_most n' k' f') = (n ≤ n') × (k ≤ k') × NameBelow f f'

pub name_same : (f : EndName) → NameBelow f f
name_same any_name = tt
name_same (this_name a) = refl

name_any : (f : EndName) → NameBelow f any_name
name_any any_name = tt
name_any (this_name a) = tt

pub below_same : (l : Limits) → Below l l
below_same (at_most n k f) = (le_refl n, le_refl k, name_same f)

pub below_lifted : (fault : Fault) (l : Limits) → Below l (lifted fault l)
below_lifted Misplaced (at_most n k f) = (le_refl n, le_refl k, name_same f)
below_lifted Misnamed (at_most n k f) = (le_refl n, le_refl k, name_any f)
below_lifted TooDeep (at_most n k f) = (omega arith, omega arith, name_same f)

suits_below : (f f' : EndName) → NameBelow f f' → (t : Lexeme) → suits f t ≡ true → suits f' t ≡ true
suits_below any_name any_name b t e = refl
suits_below (this_name a) any_name b t e = refl
suits_below any_name (this_name c) b t e = absurd b
suits_below (this_name a) (this_name c) b t e = subst (λ n. bytes_eq n t.text ≡ true) b e

pub suits_more : (l m : Limits) → Below l m → (t : Lexeme) → suits (end_name_in l) t ≡ true → suits (end_name_in m) t ≡ true
suits_more (at_most n k f) (at_most n' k' f') b t e = suits_below f f' b.2 t e

pub renamed_below : (name : List ℕ) (l m : Limits) → Below l m → Below (renamed name l) (renamed name m)
renamed_below name (at_most n k any_name) (at_most n' k' any_name) b = b
renamed_below name (at_most n k (this_name a)) (at_most n' k' any_name) b = b
renamed_below name (at_most n k any_name) (at_most n' k' (this_name c)) b = absurd b.2
renamed_below name (at_most n k (this_name a)) (at_most n' k' (this_name c)) b = (b.0, b.1, refl)

pub renamed_lifted : (name : List ℕ) (fault : Fault) (l : Limits) → renamed name (lifted fault l) ≡ lifted fault (renamed name l)
renamed_lifted name Misplaced l = refl
renamed_lifted name Misnamed (at_most n k any_name) = refl
renamed_lifted name Misnamed (at_most n k (this_name a)) = refl
renamed_lifted name TooDeep (at_most n k any_name) = refl
renamed_lifted name TooDeep (at_most n k (this_name a)) = refl

abbrev pub rename : List ℕ → EndName → EndName
rename name any_name = any_name
rename name (this_name a) = this_name name

pub renamed_name : (name : List ℕ) (l : Limits) → end_name_in (renamed name l) ≡ rename name (end_name_in l)
renamed_name name (at_most n k any_name) = refl
renamed_name name (at_most n k (this_name a)) = refl

pub renamed_stays : (name : List ℕ) (l m : Limits) → end_name_in l ≡ end_name_in m → end_name_in (renamed name l) ≡ end_name_in (renamed name m)
renamed_stays name l m e = renamed_name name l ∙ ap (rename name) e ∙ sym (renamed_name name m)

-- what either of two limits allows
abbrev pub both_name : EndName → EndName → EndName
both_name any_name f = any_name
both_name (this_name a) any_name = any_name
both_name (this_name a) (this_name b) = if bytes_eq a b then this_name a else any_name

abbrev pub both_limits : Limits → Limits → Limits
both_limits (at_most n c f) (at_most n' c' f') = at_most (max n n') (max c c') (both_name f f')

name_left : (f f' : EndName) → NameBelow f (both_name f f')
name_left any_name f' = tt
name_left (this_name a) any_name = tt
name_left (this_name a) (this_name b) = go (bytes_eq a b)
  where
    go : (t : Bool) → NameBelow (this_name a) (if t then this_name a else any_name)
    go true = refl
    go false = tt

name_right : (f f' : EndName) → NameBelow f' (both_name f f')
name_right any_name f' = name_any f'
name_right (this_name a) any_name = tt
name_right (this_name a) (this_name b) = go (bytes_eq a b) (bytes_eq-Decides a b).0
  where
    go : (t : Bool) → (t ≡ true → a ≡ b) → NameBelow (this_name b) (if t then this_name a else any_name)
    go true h = sym (h refl)
    go false h = tt

name_kept : (f f' : EndName) → f ≡ f' → f ≡ both_name f f'
name_kept any_name f' e = refl
name_kept (this_name a) any_name e = cc
name_kept (this_name a) (this_name b) e = go (bytes_eq a b) ((bytes_eq-Decides a b).1 (let same : a ≡ b = cc in same))
  where
    go : (t : Bool) → t ≡ true → this_name a ≡ (if t then this_name a else any_name)
    go true h = refl
    go false h = cc

pub below_left : (l m : Limits) → Below l (both_limits l m)
below_left (at_most n c f) (at_most n' c' f') = (omega arith, omega arith, name_left f f')

pub below_right : (l m : Limits) → Below m (both_limits l m)
below_right (at_most n c f) (at_most n' c' f') = (omega arith, omega arith, name_right f f')

pub both_names : (l m : Limits) → end_name_in l ≡ end_name_in m → end_name_in l ≡ end_name_in (both_limits l m)
both_names (at_most n c f) (at_most n' c' f') e = name_kept f f' e

pub names_raised : (l : Limits) → end_name_in (lifted TooDeep l) ≡ end_name_in l
names_raised (at_most n c f) = refl

pub suits_lifted : (l : Limits) (t : Lexeme) → suits (end_name_in (lifted Misnamed l)) t ≡ true
suits_lifted (at_most n k f) t = refl

pub inside_below : (o : Opening) (l m i : Limits) → Below l m → left_inside o l ≡ Some i → (j : Limits) × (left_inside o m ≡ Some j) × Below i j
inside_below a_construct (at_most zero k f) m i b e = cc
inside_below a_construct (at_most (suc n) k f) (at_most zero k' f') i b e = absurd (let h = b.0 in omega arith)
inside_below a_construct (at_most (suc n) k f) (at_most (suc n') k' f') i b e =
    let same : at_most n k f ≡ i = cc in
    (at_most n' k' f', refl, subst (λ j. Below j (at_most n' k' f')) same (let h = b.0 in omega arith, b.1, b.2))
inside_below a_class (at_most zero k f) m i b e = cc
inside_below a_class (at_most (suc n) zero f) m i b e = cc
inside_below a_class (at_most (suc n) (suc k) f) (at_most zero k' f') i b e = absurd (let h = b.0 in omega arith)
inside_below a_class (at_most (suc n) (suc k) f) (at_most (suc n') zero f') i b e = absurd (let h = b.1 in omega arith)
inside_below a_class (at_most (suc n) (suc k) f) (at_most (suc n') (suc k') f') i b e =
    let same : at_most n k f ≡ i = cc in
    (at_most n' k' f', refl, subst (λ j. Below j (at_most n' k' f')) same (let h = b.0 in omega arith, let h = b.1 in omega arith, b.2))

pub inside_lifted : (fault : Fault) (o : Opening) (l i : Limits) → left_inside o l ≡ Some i → left_inside o (lifted fault l) ≡ Some (lifted fault i)
inside_lifted Misplaced o l i e = e
inside_lifted Misnamed a_construct (at_most zero k f) i e = cc
inside_lifted Misnamed a_construct (at_most (suc n) k f) i e = let same : at_most n k f ≡ i = cc in ap (λ j. Some (lifted Misnamed j)) same
inside_lifted Misnamed a_class (at_most zero k f) i e = cc
inside_lifted Misnamed a_class (at_most (suc n) zero f) i e = cc
inside_lifted Misnamed a_class (at_most (suc n) (suc k) f) i e = let same : at_most n k f ≡ i = cc in ap (λ j. Some (lifted Misnamed j)) same
inside_lifted TooDeep a_construct (at_most zero k f) i e = cc
inside_lifted TooDeep a_construct (at_most (suc n) k f) i e = let same : at_most n k f ≡ i = cc in ap (λ j. Some (lifted TooDeep j)) same
inside_lifted TooDeep a_class (at_most zero k f) i e = cc
inside_lifted TooDeep a_class (at_most (suc n) zero f) i e = cc
inside_lifted TooDeep a_class (at_most (suc n) (suc k) f) i e = let same : at_most n k f ≡ i = cc in ap (λ j. Some (lifted TooDeep j)) same

-- one more of each can always be opened
pub inside_one_more : (o : Opening) (l : Limits) → (i : Limits) × (left_inside o (lifted TooDeep l) ≡ Some i)
inside_one_more a_construct (at_most n k f) = (at_most n (suc k) f, refl)
inside_one_more a_class (at_most n k f) = (at_most n k f, refl)

pub each_rises : {A : Type 0} (p q : List Lexeme → A → Type 0) → ((w : List Lexeme) (a : A) → p w a → q w a) → (w : List Lexeme) (list : List A) → SpelledEach p w list → SpelledEach q w list
each_rises p q f w [] e = e
each_rises p q f w (a ∷ list) (front, rest, e, here, others) = (front, rest, e, f front a here, each_rises p q f rest list others)

pub begun_each_rises : {A : Type 0} (p q : List Lexeme → A → Type 0) (b d : List Lexeme → Type 0) → ((w : List Lexeme) (a : A) → p w a → q w a) → ((w : List Lexeme) → b w → d w) → (w : List Lexeme) (list : List A) → BegunEach p b w list → BegunEach q d w list
begun_each_rises p q b d f g w [] e = g w e
begun_each_rises p q b d f g w (a ∷ list) (front, rest, e, here, others) = (front, rest, e, f front a here, begun_each_rises p q b d f g rest list others)

pub or_rises : {A : Type 0} (p q : List Lexeme → A → Type 0) (allowed : Bool) → ((w : List Lexeme) (a : A) → p w a → q w a) → (w : List Lexeme) (a : Option A) → SpelledOr p allowed w a → SpelledOr q allowed w a
or_rises p q allowed f w (Some a) s = f w a s
or_rises p q allowed f w None s = s

module _ {S : Type 0} {V : S → Type 0} where
  -- what is spelled within limits is spelled within those that allow more
  pub spelled_rises : {A : Type 0} (of of' : Spelling S V) → ((x : S) (l m : Limits) (w : List Lexeme) (a : V x) → Below l m → of x l w a → of' x m w a) → (g : Grammar S V A) (l m : Limits) → Below l m → (w : List Lexeme) (a : A) → SpelledBy of g l w a → SpelledBy of' g m w a
  spelled_rises of of' k (empty b) l m e w a s = s
  spelled_rises of of' k (token codes) l m e w a s = s
  spelled_rises of of' k (seq g h) l m e w a s = (s.0, s.1, s.2, spelled_rises of of' k g l m e s.0 a.0 s.3, spelled_rises of of' k h l m e s.1 a.1 s.4)
  spelled_rises of of' k (either g h) l m e w a (inl s) = inl (spelled_rises of of' k g l m e w a s)
  spelled_rises of of' k (either g h) l m e w a (inr s) = inr (spelled_rises of of' k h l m e w a s)
  spelled_rises of of' k (either2 c ds g h) l m e w a (inl s) = inl (spelled_rises of of' k g l m e w a s)
  spelled_rises of of' k (either2 c ds g h) l m e w a (inr s) = inr (spelled_rises of of' k h l m e w a s)
  spelled_rises of of' k (many g) l m e w a s = each_rises (SpelledBy of g l) (SpelledBy of' g m) (λ w a. spelled_rises of of' k g l m e w a) w a s
  spelled_rises of of' k (made f g) l m e w a s = (s.0, spelled_rises of of' k g l m e w s.0 s.1, s.2)
  spelled_rises of of' k (placed g) l m e w a s = (s.0, s.1, s.2, s.3, spelled_rises of of' k g l m e w a.1 s.4)
  spelled_rises of of' k (nested o g) l m e w a s = let i = inside_below o l m s.0 e s.1 in (i.0, i.1, spelled_rises of of' k g s.0 i.0 i.2 w a s.2)
  spelled_rises of of' k end_name l m e w a s = (s.0, s.1, suits_more l m e a s.2)
  spelled_rises of of' k (under called g h) l m e w a s = (s.0, s.1, s.2, spelled_rises of of' k g l m e s.0 a.0 s.3, spelled_rises of of' k h (renamed (called a.0) l) (renamed (called a.0) m) (renamed_below (called a.0) l m e) s.1 a.1 s.4)
  spelled_rises of of' k (unless test g h) l m e w a s = (s.0, s.1, s.2, spelled_rises of of' k g l m e s.0 a.0 s.3, or_rises (SpelledBy of h l) (SpelledBy of' h m) (first_passes test s.0 a.0) (λ w a. spelled_rises of of' k h l m e w a) s.1 a.1 s.4)
  spelled_rises of of' k (symbol x) l m e w a s = k x l m w a e s

  pub begun_rises : {A : Type 0} (of of' : Spelling S V) (begun begun' : Beginning S) → ((x : S) (l m : Limits) (w : List Lexeme) (a : V x) → Below l m → of x l w a → of' x m w a) → ((x : S) (l m : Limits) (w : List Lexeme) → Below l m → begun x l w → begun' x m w) → (g : Grammar S V A) (l m : Limits) → Below l m → (w : List Lexeme) → BegunBy of begun g l w → BegunBy of' begun' g m w
  begun_rises of of' b b' k n (empty a) l m e w s = s
  begun_rises of of' b b' k n (token codes) l m e w s = s
  begun_rises of of' b b' k n (seq g h) l m e w (inl s) = inl (begun_rises of of' b b' k n g l m e w s)
  begun_rises of of' b b' k n (seq g h) l m e w (inr s) = inr (s.0, s.1, s.2, s.3, spelled_rises of of' k g l m e s.0 s.2 s.4, begun_rises of of' b b' k n h l m e s.1 s.5)
  begun_rises of of' b b' k n (either g h) l m e w (inl s) = inl (begun_rises of of' b b' k n g l m e w s)
  begun_rises of of' b b' k n (either g h) l m e w (inr s) = inr (begun_rises of of' b b' k n h l m e w s)
  begun_rises of of' b b' k n (either2 c ds g h) l m e w (inl s) = inl (begun_rises of of' b b' k n g l m e w s)
  begun_rises of of' b b' k n (either2 c ds g h) l m e w (inr s) = inr (begun_rises of of' b b' k n h l m e w s)
  begun_rises of of' b b' k n (many g) l m e w s = (s.0, begun_each_rises (SpelledBy of g l) (SpelledBy of' g m) (BegunBy of b g l) (BegunBy of' b' g m) (λ w a. spelled_rises of of' k g l m e w a) (λ w. begun_rises of of' b b' k n g l m e w) w s.0 s.1)
  begun_rises of of' b b' k n (made f g) l m e w s = begun_rises of of' b b' k n g l m e w s
  begun_rises of of' b b' k n (placed g) l m e w s = begun_rises of of' b b' k n g l m e w s
  begun_rises of of' b b' k n (nested o g) l m e w (inl s) = inl s
  begun_rises of of' b b' k n (nested o g) l m e w (inr s) = let i = inside_below o l m s.0 e s.1 in inr (i.0, i.1, begun_rises of of' b b' k n g s.0 i.0 i.2 w s.2)
  begun_rises of of' b b' k n end_name l m e w (inl s) = inl s
  begun_rises of of' b b' k n end_name l m e w (inr s) = inr (s.0, s.1, s.2, suits_more l m e s.0 s.3)
  begun_rises of of' b b' k n (under called g h) l m e w (inl s) = inl (begun_rises of of' b b' k n g l m e w s)
  begun_rises of of' b b' k n (under called g h) l m e w (inr s) = inr (s.0, s.1, s.2, s.3, spelled_rises of of' k g l m e s.0 s.2 s.4, begun_rises of of' b b' k n h (renamed (called s.2) l) (renamed (called s.2) m) (renamed_below (called s.2) l m e) s.1 s.5)
  begun_rises of of' b b' k n (unless test g h) l m e w (inl s) = inl (begun_rises of of' b b' k n g l m e w s)
  begun_rises of of' b b' k n (unless test g h) l m e w (inr s) = inr (s.0, s.1, s.2, s.3, spelled_rises of of' k g l m e s.0 s.2 s.4, begun_rises of of' b b' k n h l m e s.1 s.5)
  begun_rises of of' b b' k n (symbol x) l m e w s = n x l m w e s
