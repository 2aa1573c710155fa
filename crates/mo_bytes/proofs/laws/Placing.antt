-- What stands of the values that tokens spell, where the places of the tokens stand: facts on productions by induction on what they are made
-- of, and what follows for a part of the grammar from what stands of its own parts.
use Rattle.std.proofs.Common.{◌≡◌, ℕ, zero, suc, Bool, List, [], ◌∷◌, ◌⊎◌, inl, inr, Option, Some, None, sym, subst}
use Rattle.mo_syntax.specs.declared.place.Place.{Place}
use Rattle.mo_grammar.specs.Lexeme.{Lexeme}
use Rattle.mo_grammar.specs.Grammar.{Opening, Limits, renamed, Grammar, empty, token, seq, either, either2, many, made, placed, nested, end_name, under, unless, symbol, first_passes, Spelling, Productions, SpelledBy, SpelledEach, SpelledOr, SpelledIn, SpelledAs}
use Rattle.mo_grammar.specs.Forms.{optional, behind, before, between, separated}
use Rattle.mo_places.specs.Stands.{Every, IfAny}
use Rattle.mo_places.proofs.laws.Standing.{every_back, every_front}

-- what is said of the values of each production
abbrev pub Said : (S : Type 0) → (S → Type 0) → Type 1
Said S V = (x : S) → V x → Type 0

-- What stands of the value that tokens spell by the grammar, where F is said of what productions spell and Q of the place of each token.
abbrev pub StandsBy : {S : Type 0} {V : S → Type 0} → Said S V → (Place → Type 0) → {A : Type 0} → Grammar S V A → A → Type 0
StandsBy F Q (empty a) b = a ≡ b
StandsBy F Q (token codes) t = Q t.place
StandsBy F Q (seq g h) x = StandsBy F Q g x.0 × StandsBy F Q h x.1
StandsBy F Q (either g h) a = StandsBy F Q g a ⊎ StandsBy F Q h a
StandsBy F Q (either2 c ds g h) a = StandsBy F Q g a ⊎ StandsBy F Q h a
StandsBy F Q (many g) list = Every (StandsBy F Q g) list
StandsBy F Q (made f g) b = (a : _) × StandsBy F Q g a × (f a ≡ b)
StandsBy F Q (placed g) x = Q x.0 × StandsBy F Q g x.1
StandsBy F Q (nested o g) a = StandsBy F Q g a
StandsBy F Q end_name t = Q t.place
StandsBy F Q (under called g h) x = StandsBy F Q g x.0 × StandsBy F Q h x.1
StandsBy F Q (unless test g h) x = StandsBy F Q g x.0 × IfAny (StandsBy F Q h) x.1
StandsBy F Q (symbol x) a = F x a

abbrev pub TokensStand : (Place → Type 0) → List Lexeme → Type 0
TokensStand Q tokens = Every (λ (t : Lexeme). Q t.place) tokens

each_stands : {A : Type 0} (Q : Place → Type 0) (part : List Lexeme → A → Type 0) (H : A → Type 0) → ((w : List Lexeme) (a : A) → part w a → TokensStand Q w → H a) →
    (w : List Lexeme) (list : List A) → SpelledEach part w list → TokensStand Q w → Every H list
each_stands Q part H k w [] s h = tt
each_stands Q part H k w (a ∷ list) (front, rest, cut, here, others) h =
    let whole = subst (TokensStand Q) cut h in
    (k front a here (every_front (λ (t : Lexeme). Q t.place) front rest whole), each_stands Q part H k rest list others (every_back (λ (t : Lexeme). Q t.place) front rest whole))

or_stands : {A : Type 0} (Q : Place → Type 0) (part : List Lexeme → A → Type 0) (H : A → Type 0) → ((w : List Lexeme) (a : A) → part w a → TokensStand Q w → H a) →
    (allowed : Bool) (w : List Lexeme) (o : Option A) → SpelledOr part allowed w o → TokensStand Q w → IfAny H o
or_stands Q part H k allowed w (Some a) s h = k w a s h
or_stands Q part H k allowed w None s h = tt

module _ {S : Type 0} {V : S → Type 0} where
  stands_by : {A : Type 0} (of : Spelling S V) (F : Said S V) (Q : Place → Type 0) → ((x : S) (l : Limits) (w : List Lexeme) (a : V x) → of x l w a → TokensStand Q w → F x a) →
      (g : Grammar S V A) (l : Limits) (w : List Lexeme) (a : A) → SpelledBy of g l w a → TokensStand Q w → StandsBy F Q g a
  stands_by of F Q k (empty b) l w a s h = s.1
  stands_by of F Q k (token codes) l w a s h = (subst (TokensStand Q) s.0 h).0
  stands_by of F Q k (seq g h) l w a (front, rest, cut, one, two) all =
      let whole = subst (TokensStand Q) cut all in
      (stands_by of F Q k g l front a.0 one (every_front (λ (t : Lexeme). Q t.place) front rest whole), stands_by of F Q k h l rest a.1 two (every_back (λ (t : Lexeme). Q t.place) front rest whole))
  stands_by of F Q k (either g h) l w a (inl s) all = inl (stands_by of F Q k g l w a s all)
  stands_by of F Q k (either g h) l w a (inr s) all = inr (stands_by of F Q k h l w a s all)
  stands_by of F Q k (either2 c ds g h) l w a (inl s) all = inl (stands_by of F Q k g l w a s all)
  stands_by of F Q k (either2 c ds g h) l w a (inr s) all = inr (stands_by of F Q k h l w a s all)
  stands_by of F Q k (many g) l w a s all = each_stands Q (SpelledBy of g l) (StandsBy F Q g) (λ w a. stands_by of F Q k g l w a) w a s all
  stands_by of F Q k (made f g) l w b s all = (s.0, stands_by of F Q k g l w s.0 s.1 all, s.2)
  stands_by of F Q k (placed g) l w a (t, more, cut, at, inside) all = (subst Q (sym at) (subst (TokensStand Q) cut all).0, stands_by of F Q k g l w a.1 inside all)
  stands_by of F Q k (nested o g) l w a s all = stands_by of F Q k g s.0 w a s.2 all
  stands_by of F Q k end_name l w a s all = (subst (TokensStand Q) s.0 all).0
  stands_by of F Q k (under called g h) l w a (front, rest, cut, one, two) all =
      let whole = subst (TokensStand Q) cut all in
      (stands_by of F Q k g l front a.0 one (every_front (λ (t : Lexeme). Q t.place) front rest whole), stands_by of F Q k h (renamed (called a.0) l) rest a.1 two (every_back (λ (t : Lexeme). Q t.place) front rest whole))
  stands_by of F Q k (unless test g h) l w a (front, rest, cut, one, two) all =
      let whole = subst (TokensStand Q) cut all in (
        stands_by of F Q k g l front a.0 one (every_front (λ (t : Lexeme). Q t.place) front rest whole),
        or_stands Q (SpelledBy of h l) (StandsBy F Q h) (λ w a. stands_by of F Q k h l w a) (first_passes test front a.0) rest a.1 two (every_back (λ (t : Lexeme). Q t.place) front rest whole),
      )
  stands_by of F Q k (symbol x) l w a s all = k x l w a s all

  in_stands : (rule : Productions S V) (F : Said S V) (Q : Place → Type 0) → ((x : S) (a : V x) → StandsBy F Q (rule x) a → F x a) → (n : ℕ) (x : S) (l : Limits) (w : List Lexeme) (a : V x) →
      SpelledIn rule n x l w a → TokensStand Q w → F x a
  in_stands rule F Q step zero x l w a s all = absurd s
  in_stands rule F Q step (suc n) x l w a s all = step x a (stands_by (SpelledIn rule n) F Q (λ x l w a s all. in_stands rule F Q step n x l w a s all) (rule x) l w a s all)

  -- what follows for each production from what stands of its parts stands of all that tokens with places that stand spell
  pub spelled_stands : (rule : Productions S V) (F : Said S V) (Q : Place → Type 0) → ((x : S) (a : V x) → StandsBy F Q (rule x) a → F x a) → (x : S) (l : Limits) (tokens : List Lexeme) (a : V x) →
      SpelledAs rule x l tokens a → TokensStand Q tokens → F x a
  spelled_stands rule F Q step x l tokens a s all = in_stands rule F Q step s.0 x l tokens a s.1 all

-- at least one, and each of them
abbrev pub SomeOf : {A : Type 0} → (A → Type 0) → List A → Type 0
SomeOf R [] = ⊥
SomeOf R (x ∷ xs) = R x × Every R xs

pub each_of_some : {A : Type 0} (R : A → Type 0) (xs : List A) → SomeOf R xs → Every R xs
each_of_some R [] h = tt
each_of_some R (x ∷ xs) h = h

module _ {S : Type 0} {V : S → Type 0} (F : Said S V) (Q : Place → Type 0) where
  -- What the part makes of tokens has the property R, where the productions in it make what is said.
  pub record Makes {A : Type 0} (g : Grammar S V A) (R : A → Type 0) : Type 0 where
    pub holds : (a : A) → StandsBy F Q g a → R a

module _ {S : Type 0} {V : S → Type 0} {F : Said S V} {Q : Place → Type 0} where
  -- nothing is asked
  pub anything : {A : Type 0} (g : Grammar S V A) → Makes F Q g (λ a. Unit {0})
  anything g = record { holds = λ a h. tt }

  pub by_symbol : (x : S) → Makes F Q (symbol x) (F x)
  by_symbol x = record { holds = λ a h. h }

  pub by_token : {codes : List ℕ} → Makes F Q (token codes) (λ (t : Lexeme). Q t.place)
  by_token = record { holds = λ t h. h }

  pub by_empty : {A : Type 0} {R : A → Type 0} (a : A) → R a → Makes F Q (empty a) R
  by_empty {R = R} a r = record { holds = λ b h. subst R h r }

  pub by_seq : {A B : Type 0} {g : Grammar S V A} {h : Grammar S V B} {R : A → Type 0} {T : B → Type 0} → Makes F Q g R → Makes F Q h T → Makes F Q (seq g h) (λ x. R x.0 × T x.1)
  by_seq p q = record { holds = λ x h. (p.holds x.0 h.0, q.holds x.1 h.1) }

  either_stands : {A : Type 0} {g h : Grammar S V A} {R : A → Type 0} → Makes F Q g R → Makes F Q h R → (a : A) → StandsBy F Q (either g h) a → R a
  either_stands p q a (inl h) = p.holds a h
  either_stands p q a (inr h) = q.holds a h

  pub by_either : {A : Type 0} {g h : Grammar S V A} {R : A → Type 0} → Makes F Q g R → Makes F Q h R → Makes F Q (either g h) R
  by_either p q = record { holds = either_stands p q }

  pub by_either2 : {A : Type 0} {c : ℕ} {ds : List ℕ} {g h : Grammar S V A} {R : A → Type 0} → Makes F Q g R → Makes F Q h R → Makes F Q (either2 c ds g h) R
  by_either2 p q = record { holds = either_stands p q }

  pub by_made : {A B : Type 0} {f : A → B} {g : Grammar S V A} {R : A → Type 0} {T : B → Type 0} → Makes F Q g R → ((a : A) → R a → T (f a)) → Makes F Q (made f g) T
  by_made {T = T} p k = record { holds = λ b h. subst T h.2 (k h.0 (p.holds h.0 h.1)) }

  -- what follows from what stands
  pub by_weaker : {A : Type 0} {g : Grammar S V A} {R T : A → Type 0} → Makes F Q g R → ((a : A) → R a → T a) → Makes F Q g T
  by_weaker p k = record { holds = λ a h. k a (p.holds a h) }

  pub by_placed : {A : Type 0} {g : Grammar S V A} {R : A → Type 0} → Makes F Q g R → Makes F Q (placed g) (λ x. Q x.0 × R x.1)
  by_placed p = record { holds = λ x h. (h.0, p.holds x.1 h.1) }

  pub by_nested : {A : Type 0} {o : Opening} {g : Grammar S V A} {R : A → Type 0} → Makes F Q g R → Makes F Q (nested o g) R
  by_nested p = record { holds = λ a h. p.holds a h }

  pub by_under : {A B : Type 0} {called : A → List ℕ} {g : Grammar S V A} {h : Grammar S V B} {R : A → Type 0} {T : B → Type 0} → Makes F Q g R → Makes F Q h T → Makes F Q (under called g h) (λ x. R x.0 × T x.1)
  by_under p q = record { holds = λ x h. (p.holds x.0 h.0, q.holds x.1 h.1) }

  any_made : {B : Type 0} {h : Grammar S V B} {T : B → Type 0} → Makes F Q h T → (o : Option B) → IfAny (StandsBy F Q h) o → IfAny T o
  any_made q None k = tt
  any_made q (Some b) k = q.holds b k

  pub by_unless : {A B : Type 0} {test : Lexeme → A → Bool} {g : Grammar S V A} {h : Grammar S V B} {R : A → Type 0} {T : B → Type 0} → Makes F Q g R → Makes F Q h T → Makes F Q (unless test g h) (λ x. R x.0 × IfAny T x.1)
  by_unless p q = record { holds = λ x h. (p.holds x.0 h.0, any_made q x.1 h.1) }

  each_made : {A : Type 0} {g : Grammar S V A} {R : A → Type 0} → Makes F Q g R → (list : List A) → Every (StandsBy F Q g) list → Every R list
  each_made p [] h = tt
  each_made p (a ∷ list) h = (p.holds a h.0, each_made p list h.1)

  -- each of the values
  pub by_many : {A : Type 0} {g : Grammar S V A} {R : A → Type 0} → Makes F Q g R → Makes F Q (many g) (Every R)
  by_many p = record { holds = each_made p }

  -- ---- forms

  pub by_optional : {A : Type 0} {g : Grammar S V A} {R : A → Type 0} → Makes F Q g R → Makes F Q (optional g) (IfAny R)
  by_optional {R = R} p = by_either (by_made p (λ a r. r)) (by_empty {R = IfAny R} None tt)

  pub by_behind : {A : Type 0} {c : ℕ} {g : Grammar S V A} {R : A → Type 0} → Makes F Q g R → Makes F Q (behind c g) R
  by_behind {c = c} p = by_made (by_seq (anything (token (c ∷ []))) p) (λ x r. r.1)

  pub by_before : {A : Type 0} {c : ℕ} {g : Grammar S V A} {R : A → Type 0} → Makes F Q g R → Makes F Q (before g c) R
  by_before {c = c} p = by_made (by_seq p (anything (token (c ∷ [])))) (λ x r. r.0)

  pub by_between : {A : Type 0} {c d : ℕ} {g : Grammar S V A} {R : A → Type 0} → Makes F Q g R → Makes F Q (between c d g) R
  by_between p = by_nested (by_behind (by_before p))

  pub by_separated : {A : Type 0} {c : ℕ} {g : Grammar S V A} {R : A → Type 0} → Makes F Q g R → Makes F Q (separated c g) (SomeOf R)
  by_separated p = by_made (by_seq p (by_many (by_behind p))) (λ x r. r)

  -- the same, of any number
  pub by_listed : {A : Type 0} {c : ℕ} {g : Grammar S V A} {R : A → Type 0} → Makes F Q g R → Makes F Q (separated c g) (Every R)
  by_listed {R = R} p = by_weaker (by_separated p) (λ list r. each_of_some R list r)
