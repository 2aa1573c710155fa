-- What begins a production is the front of a list that spells it, with no limit of nesting.
use Rattle.std.proofs.Common.{◌≡◌, ◌||◌, ◌&&◌, ℕ, zero, suc, ◌+◌, ◌*◌, ◌<◌, max, Bool, true, false, List, [], ◌∷◌, ◌++◌, ◌⊎◌, inl, inr, Some, refl, sym, ap, subst, ◌∙◌, append_assoc, append-nil, arith, nat_lt, ltb-true}
use Rattle.std.proofs.lemmas.Slice.Eq.{bytes_eq-Decides}
use Rattle.mo_syntax.specs.declared.place.Place.{Place}
use Rattle.mo_syntax.specs.declared.token.TokenKind.{TokenKind}
use Rattle.mo_syntax.specs.declared.token.TokenKind.TheVariants.{Ident, Keyword, Operator, Whole, Decimal, Str, End}
use Rattle.mo_grammar.specs.Lexeme.{Lexeme, code_of, code_of_kind}
use Rattle.mo_grammar.specs.Grammar.{Opening, a_construct, a_class, EndName, any_name, this_name, Limits, at_most, end_name_in, suits, renamed, Grammar, empty, token, seq, either, either2, many, made, placed, nested, end_name, under, unless, symbol, has, identifiers, Productions, SpelledBy, SpelledIn, SpelledAs, BegunBy, BegunEach, BegunIn, BegunAs}
use Rattle.mo_grammar.specs.Reading.{may_be_empty, Tables}
use Rattle.mo_grammar.proofs.Codes.{both, one_of, never}
use Rattle.mo_grammar.proofs.Decided.{Decided}
use Rattle.mo_grammar.proofs.Begun.{nothing_spelled}
use Rattle.mo_grammar.proofs.Limits.{Below, below_same, name_same, spelled_rises, rename, renamed_name}
use Rattle.mo_grammar.proofs.Checked.{Checked, known, in_rises, in_higher}
use Rattle.mo_grammar.proofs.Growing.{names_inside}

-- ---- a token of each code

parity : (n : ℕ) → ((m : ℕ) × (n ≡ 2 * m)) ⊎ ((m : ℕ) × (n ≡ 2 * m + 1))
parity zero = inl (0, refl)
parity (suc n) = elim (parity n) [ inl e ↦ let h = e.1 in inr (e.0, omega arith) | inr e ↦ let h = e.1 in inl (e.0 + 1, omega arith) ]

some_kind : (c : ℕ) → (kind : TokenKind) × (code_of_kind kind ≡ c)
some_kind zero = (Ident, refl)
some_kind (suc zero) = (Whole, refl)
some_kind (suc (suc zero)) = (Decimal, refl)
some_kind (suc (suc (suc zero))) = (Str, refl)
some_kind (suc (suc (suc (suc zero)))) = (End, refl)
some_kind (suc (suc (suc (suc (suc n))))) = elim (parity n) [
  | inl e ↦ let h = e.1 in (Operator e.0, (let s : 2 * e.0 + 5 ≡ suc (suc (suc (suc (suc n)))) = omega arith in s))
  | inr e ↦ let h = e.1 in (Keyword e.0, (let s : 2 * e.0 + 6 ≡ suc (suc (suc (suc (suc n)))) = omega arith in s))
]

some_token : (c : ℕ) → (t : Lexeme) × (code_of t ≡ c)
some_token c = let k = some_kind c in (record { kind = k.0; text = []; place = record { file = 0; byte = 0 } }, k.1)

some_name : (f : EndName) → (t : Lexeme) × (has identifiers (code_of t) ≡ true) × (suits f t ≡ true)
some_name any_name = (record { kind = Ident; text = []; place = record { file = 0; byte = 0 } }, refl, refl)
some_name (this_name n) = (record { kind = Ident; text = n; place = record { file = 0; byte = 0 } }, refl, (bytes_eq-Decides n n).1 refl)

has_it : (c : ℕ) (cs : List ℕ) → has (c ∷ cs) c ≡ true
has_it c cs = Rattle.mo_grammar.proofs.Codes.or_left (Rattle.std.proofs.Common.◌==◌ c c) (has cs c) (Rattle.std.proofs.Common.eq-eqb c c refl)

-- ---- heights and limits that fit two spellings at once

up : ℕ → ℕ → ℕ
up zero n = n
up (suc k) n = suc (up k n)

up_zero : (k : ℕ) → up k zero ≡ k
unfolding up
up_zero zero = refl
up_zero (suc k) = ap suc (up_zero k)

up_suc : (k n : ℕ) → up k (suc n) ≡ suc (up k n)
unfolding up
up_suc zero n = refl
up_suc (suc k) n = ap suc (up_suc k n)

up_comm : (k n : ℕ) → up k n ≡ up n k
unfolding up
up_comm zero n = sym (up_zero n)
up_comm (suc k) n = ap suc (up_comm k n) ∙ sym (up_suc n k)

below_max_left : (n n' c c' : ℕ) (f : EndName) → Below (at_most n c f) (at_most (max n n') (max c c') f)
below_max_left n n' c c' f = (omega arith, omega arith, name_same f)

below_max_right : (n n' c c' : ℕ) (f : EndName) → Below (at_most n' c' f) (at_most (max n n') (max c c') f)
below_max_right n n' c c' f = (omega arith, omega arith, name_same f)

-- Some choice of each alternative leads to lower productions alone.
abbrev pub is_productive : {S : Type 0} {V : S → Type 0} {A : Type 0} → (S → ℕ) → ℕ → Grammar S V A → Bool
is_productive level r (empty a) = true
is_productive level r (token []) = false
is_productive level r (token (c ∷ codes)) = true
is_productive level r (seq g h) = is_productive level r g && is_productive level r h
is_productive level r (either g h) = is_productive level r g || is_productive level r h
is_productive level r (either2 c ds g h) = is_productive level r g || is_productive level r h
is_productive level r (many g) = true
is_productive level r (made f g) = is_productive level r g
is_productive level r (placed g) = is_productive level r g
is_productive level r (nested o g) = is_productive level r g
is_productive level r end_name = true
is_productive level r (under called g h) = is_productive level r g && is_productive level r h
is_productive level r (unless test g h) = is_productive level r g && is_productive level r h
is_productive level r (symbol x) = nat_lt (level x) r

-- Every part of the grammar can be spelled.
abbrev pub is_fillable : {S : Type 0} {V : S → Type 0} {A : Type 0} → (S → ℕ) → ℕ → Grammar S V A → Bool
is_fillable level r (empty a) = true
is_fillable level r (token []) = false
is_fillable level r (token (c ∷ codes)) = true
is_fillable level r (seq g h) = is_fillable level r g && (is_fillable level r h && is_productive level r h)
is_fillable level r (either g h) = is_fillable level r g && is_fillable level r h
is_fillable level r (either2 c ds g h) = is_fillable level r g && is_fillable level r h
is_fillable level r (many g) = is_fillable level r g
is_fillable level r (made f g) = is_fillable level r g
is_fillable level r (placed g) = is_fillable level r g
is_fillable level r (nested o g) = is_fillable level r g && is_productive level r g
is_fillable level r end_name = true
is_fillable level r (under called g h) = is_fillable level r g && (is_fillable level r h && is_productive level r h)
is_fillable level r (unless test g h) = is_fillable level r g && (is_fillable level r h && is_productive level r h)
is_fillable level r (symbol x) = true

module _ {S : Type 0} {V : S → Type 0} where
  in_up : (rule : Productions S V) (k n : ℕ) (x : S) (l m : Limits) (w : List Lexeme) (a : V x) → Below l m → SpelledIn rule n x l w a → SpelledIn rule (up k n) x m w a
  unfolding up
  in_up rule zero n x l m w a b s = in_rises rule n x l m w a b s
  in_up rule (suc k) n x l m w a b s = in_higher rule (up k n) x m m w a (below_same m) (in_up rule k n x l m w a b s)

  by_up : {A : Type 0} (rule : Productions S V) (k n : ℕ) (g : Grammar S V A) (l m : Limits) (w : List Lexeme) (a : A) → Below l m → SpelledBy (SpelledIn rule n) g l w a → SpelledBy (SpelledIn rule (up k n)) g m w a
  by_up rule k n g l m w a b s = spelled_rises (SpelledIn rule n) (SpelledIn rule (up k n)) (λ x l m w a b s. in_up rule k n x l m w a b s) g l m b w a s

  -- spelled at some depth
  abbrev pub DeepBy : {A : Type 0} → Productions S V → EndName → Grammar S V A → List Lexeme → A → Type 0
  DeepBy rule f g w a = (h : ℕ) × (n : ℕ) × (c : ℕ) × SpelledBy (SpelledIn rule h) g (at_most n c f) w a

  two_deep : {A B : Type 0} (rule : Productions S V) (f f' : EndName) (g : Grammar S V A) (g' : Grammar S V B) (w w' : List Lexeme) (a : A) (b : B) → DeepBy rule f g w a → DeepBy rule f' g' w' b → (h : ℕ) × (n : ℕ) × (c : ℕ) × SpelledBy (SpelledIn rule h) g (at_most n c f) w a × SpelledBy (SpelledIn rule h) g' (at_most n c f') w' b
  two_deep rule f f' g g' w w' a b (h, n, c, s) (h', n', c', s') = (
    up h' h,
    max n n',
    max c c',
    by_up rule h' h g (at_most n c f) (at_most (max n n') (max c c') f) w a (below_max_left n n' c c' f) s,
    subst (λ k. SpelledBy (SpelledIn rule k) g' (at_most (max n n') (max c c') f') w' b) (up_comm h h') (by_up rule h h' g' (at_most n' c' f') (at_most (max n n') (max c c') f') w' b (below_max_right n n' c c' f') s'),
  )

  -- two spellings, seen as equally high
  pub two_heights : {A B : Type 0} (rule : Productions S V) (l l' : Limits) (g : Grammar S V A) (g' : Grammar S V B) (w w' : List Lexeme) (a : A) (b : B) (h h' : ℕ) → SpelledBy (SpelledIn rule h) g l w a → SpelledBy (SpelledIn rule h') g' l' w' b → (m : ℕ) × SpelledBy (SpelledIn rule m) g l w a × SpelledBy (SpelledIn rule m) g' l' w' b
  two_heights rule l l' g g' w w' a b h h' s s' =
      (up h' h, by_up rule h' h g l l w a (below_same l) s, subst (λ k. SpelledBy (SpelledIn rule k) g' l' w' b) (up_comm h h') (by_up rule h h' g' l' l' w' b (below_same l') s'))

  deep_seq : {A B : Type 0} (rule : Productions S V) (f : EndName) (g : Grammar S V A) (h : Grammar S V B) (w w' : List Lexeme) (a : A) (b : B) → DeepBy rule f g w a → DeepBy rule f h w' b → DeepBy rule f (seq g h) (w ++ w') (a, b)
  deep_seq rule f g h w w' a b s s' = let t = two_deep rule f f g h w w' a b s s' in (t.0, t.1, t.2, (w, w', refl, t.3, t.4))

  deep_under : {A B : Type 0} (rule : Productions S V) (f : EndName) (called : A → List ℕ) (g : Grammar S V A) (h : Grammar S V B) (w w' : List Lexeme) (a : A) (b : B) → DeepBy rule f g w a → DeepBy rule (rename (called a) f) h w' b → DeepBy rule f (under called g h) (w ++ w') (a, b)
  deep_under rule f called g h w w' a b s s' =
      let t = two_deep rule f (rename (called a) f) g h w w' a b s s' in
      (t.0, t.1, t.2, (w, w', refl, t.3, subst (λ l. SpelledBy (SpelledIn rule t.0) h l w' b) (inside_name (called a) t.1 t.2 f) t.4))
    where
      inside_name : (name : List ℕ) (n c : ℕ) (f : EndName) → at_most n c (rename name f) ≡ renamed name (at_most n c f)
      inside_name name n c any_name = refl
      inside_name name n c (this_name o) = refl

  deep_more : {A : Type 0} (rule : Productions S V) (f : EndName) (g : Grammar S V A) (w w' : List Lexeme) (a : A) (list : List A) → DeepBy rule f g w a → DeepBy rule f (many g) w' list → DeepBy rule f (many g) (w ++ w') (a ∷ list)
  deep_more rule f g w w' a list s s' = let t = two_deep rule f f g (many g) w w' a list s s' in (t.0, t.1, t.2, (w, w', refl, t.3, t.4))

  deep_unless : {A B : Type 0} (rule : Productions S V) (f : EndName) (test : Lexeme → A → Bool) (g : Grammar S V A) (h : Grammar S V B) (w w' : List Lexeme) (a : A) (b : B) → DeepBy rule f g w a → DeepBy rule f h w' b → DeepBy rule f (unless test g h) (w ++ w') (a, Some b)
  deep_unless rule f test g h w w' a b s s' = let t = two_deep rule f f g h w w' a b s s' in (t.0, t.1, t.2, (w, w', refl, t.3, t.4))

  deep_nested : {A : Type 0} (rule : Productions S V) (f : EndName) (o : Opening) (g : Grammar S V A) (w : List Lexeme) (a : A) → DeepBy rule f g w a → DeepBy rule f (nested o g) w a
  deep_nested rule f a_construct g w a (h, n, c, s) = (h, suc n, c, (at_most n c f, refl, s))
  deep_nested rule f a_class g w a (h, n, c, s) = (h, suc n, suc c, (at_most n c f, refl, s))

  deep_placed : {A : Type 0} (k : Tables S) (rule : Productions S V) → Checked S V k rule → (f : EndName) (g : Grammar S V A) → may_be_empty g ≡ false → (w : List Lexeme) (a : A) → DeepBy rule f g w a → (place : Place) × DeepBy {A = Place × A} rule f (placed g) w (place, a)
  deep_placed k rule ok f g e [] a (h, n, c, s) = never (may_be_empty g) (nothing_spelled (SpelledIn rule h) (λ x l a s. (known k rule ok h).some_token x l a s) g (at_most n c f) [] a s refl) e
  deep_placed k rule ok f g e (t ∷ w) a (h, n, c, s) = (t.place, (h, n, c, (t, w, refl, refl, s)))

  -- ---- a spelling of each production

  abbrev pub DeepIn : (rule : Productions S V) → EndName → (x : S) → List Lexeme → V x → Type 0
  DeepIn rule f x w a = (h : ℕ) × (n : ℕ) × (c : ℕ) × SpelledIn rule h x (at_most n c f) w a

  abbrev pub Sampled : (rule : Productions S V) → S → Type 0
  Sampled rule x = (f : EndName) → (w : List Lexeme) × (a : V x) × DeepIn rule f x w a

  sample : {A : Type 0} (k : Tables S) (rule : Productions S V) → Checked S V k rule → (level : S → ℕ) (r : ℕ) → ((x : S) → level x < r → Sampled rule x) → (g : Grammar S V A) → Decided k g → is_productive level r g ≡ true → (f : EndName) → (w : List Lexeme) × (a : A) × DeepBy rule f g w a
  sample k rule ok v r m (empty a) d e f = ([], a, (0, 0, 0, (refl, refl)))
  sample k rule ok v r m (token []) d e f = cc
  sample k rule ok v r m (token (c ∷ codes)) d e f = let t = some_token c in (t.0 ∷ [], t.0, (0, 0, 0, (refl, rw (t.1) (has_it c codes))))
  sample k rule ok v r m (seq g h) d e f =
      let p = both (is_productive v r g) (is_productive v r h) e in
      let a = sample k rule ok v r m g d.0 p.0 f in
      let b = sample k rule ok v r m h d.1 p.1 f in
      (a.0 ++ b.0, (a.1, b.1), deep_seq rule f g h a.0 b.0 a.1 b.1 a.2 b.2)
  sample k rule ok v r m (either g h) d e f = elim (one_of (is_productive v r g) (is_productive v r h) e) [
    | inl p ↦ let a = sample k rule ok v r m g d.0 p f in (a.0, a.1, (let s = a.2 in (s.0, s.1, s.2, inl s.3)))
    | inr p ↦ let a = sample k rule ok v r m h d.1 p f in (a.0, a.1, (let s = a.2 in (s.0, s.1, s.2, inr s.3)))
  ]
  sample k rule ok v r m (either2 c ds g h) d e f = elim (one_of (is_productive v r g) (is_productive v r h) e) [
    | inl p ↦ let a = sample k rule ok v r m g d.0 p f in (a.0, a.1, (let s = a.2 in (s.0, s.1, s.2, inl s.3)))
    | inr p ↦ let a = sample k rule ok v r m h d.1 p f in (a.0, a.1, (let s = a.2 in (s.0, s.1, s.2, inr s.3)))
  ]
  sample k rule ok v r m (many g) d e f = ([], [], (0, 0, 0, refl))
  sample k rule ok v r m (made u g) d e f = let a = sample k rule ok v r m g d e f in (a.0, u a.1, (let s = a.2 in (s.0, s.1, s.2, (a.1, s.3, refl))))
  sample k rule ok v r m (placed g) d e f = let a = sample k rule ok v r m g d.0 e f in let p = deep_placed k rule ok f g d.1 a.0 a.1 a.2 in (a.0, (p.0, a.1), p.1)
  sample k rule ok v r m (nested o g) d e f = let a = sample k rule ok v r m g d.0 e f in (a.0, a.1, deep_nested rule f o g a.0 a.1 a.2)
  sample k rule ok v r m end_name d e f = let t = some_name f in (t.0 ∷ [], t.0, (0, 0, 0, (refl, t.1, t.2)))
  sample k rule ok v r m (under called g h) d e f =
      let p = both (is_productive v r g) (is_productive v r h) e in
      let a = sample k rule ok v r m g d.0 p.0 f in
      let b = sample k rule ok v r m h d.1 p.1 (rename (called a.1) f) in
      (a.0 ++ b.0, (a.1, b.1), deep_under rule f called g h a.0 b.0 a.1 b.1 a.2 b.2)
  sample k rule ok v r m (unless test g h) d e f =
      let p = both (is_productive v r g) (is_productive v r h) e in
      let a = sample k rule ok v r m g d.0 p.0 f in
      let b = sample k rule ok v r m h d.1 p.1 f in
      (a.0 ++ b.0, (a.1, Some b.1), deep_unless rule f test g h a.0 b.0 a.1 b.1 a.2 b.2)
  sample k rule ok v r m (symbol x) d e f = m x (ltb-true (v x) r e) f

  sampled_below : (k : Tables S) (rule : Productions S V) → Checked S V k rule → (level : S → ℕ) → ((x : S) → is_productive level (level x) (rule x) ≡ true) → (n : ℕ) (x : S) → level x < n → Sampled rule x
  sampled_below k rule ok v p zero x less = absurd (omega arith)
  sampled_below k rule ok v p (suc n) x less = λ f.
      let a = sample k rule ok v (v x) (λ y low. sampled_below k rule ok v p n y (omega arith)) (rule x) (ok.dec x) (p x) f in
      (a.0, a.1, (let s = a.2 in (suc s.0, s.1, s.2, s.3)))

  pub sampled : (k : Tables S) (rule : Productions S V) → Checked S V k rule → (level : S → ℕ) → ((x : S) → is_productive level (level x) (rule x) ≡ true) → (x : S) → Sampled rule x
  sampled k rule ok v p x = sampled_below k rule ok v p (suc (v x)) x (omega arith)

  -- ---- what goes on with a beginning

  abbrev pub Goes : {A : Type 0} → Productions S V → EndName → Grammar S V A → List Lexeme → Type 0
  Goes {A = A} rule f g w = (y : List Lexeme) × (a : A) × DeepBy rule f g (w ++ y) a

  each_goes : {A : Type 0} (rule : Productions S V) (f : EndName) (g : Grammar S V A) (h : ℕ) (l : Limits) → ((w : List Lexeme) (a : A) → SpelledBy (SpelledIn rule h) g l w a → DeepBy rule f g w a) → ((w : List Lexeme) → BegunBy (SpelledIn rule h) (BegunIn rule h) g l w → Goes rule f g w) → (list : List A) (w : List Lexeme) → BegunEach (SpelledBy (SpelledIn rule h) g l) (BegunBy (SpelledIn rule h) (BegunIn rule h) g l) w list → Goes rule f (many g) w
  each_goes rule f g h l p b [] w s =
      let a = b w s in
      (a.0, a.1 ∷ [], subst (λ v. DeepBy rule f (many g) v (a.1 ∷ [])) (append-nil (w ++ a.0)) (deep_more rule f g (w ++ a.0) [] a.1 [] a.2 (0, 0, 0, refl)))
  each_goes rule f g h l p b (a ∷ list) w (front, rest, cut, here, others) =
      let more = each_goes rule f g h l p b list rest others in
      (more.0, a ∷ more.1, subst (λ v. DeepBy rule f (many g) v (a ∷ more.1)) (sym (ap (λ v. v ++ more.0) cut ∙ append_assoc front rest more.0)) (deep_more rule f g front (rest ++ more.0) a more.1 (p front a here) more.2))

  at_its_limits : {A : Type 0} (rule : Productions S V) (h : ℕ) (g : Grammar S V A) (l : Limits) (w : List Lexeme) (a : A) → SpelledBy (SpelledIn rule h) g l w a → DeepBy rule (end_name_in l) g w a
  at_its_limits rule h g (at_most n c f) w a s = (h, n, c, s)

  goes : {A : Type 0} (k : Tables S) (rule : Productions S V) → Checked S V k rule → (level : S → ℕ) (r : ℕ) → ((x : S) → Sampled rule x) → (h : ℕ) → ((x : S) (l : Limits) (w : List Lexeme) → BegunIn rule h x l w → (y : List Lexeme) × (a : V x) × DeepIn rule (end_name_in l) x (w ++ y) a) → (g : Grammar S V A) → Decided k g → is_fillable level r g ≡ true → (l : Limits) (w : List Lexeme) → BegunBy (SpelledIn rule h) (BegunIn rule h) g l w → Goes rule (end_name_in l) g w
  goes k rule ok v r m h sub (empty a) d e l w b = ([], a, (0, 0, 0, (append-nil w ∙ b, refl)))
  goes k rule ok v r m h sub (token []) d e l w b = cc
  goes k rule ok v r m h sub (token (c ∷ codes)) d e l w (inl b) = let t = some_token c in (t.0 ∷ [], t.0, (0, 0, 0, (ap (λ v. v ++ t.0 ∷ []) b, rw (t.1) (has_it c codes))))
  goes k rule ok v r m h sub (token (c ∷ codes)) d e l w (inr b) = ([], b.0, (0, 0, 0, (append-nil w ∙ b.1, b.2)))
  goes k rule ok v r m h sub (seq g g') d e l w (inl b) =
      let p = both (is_fillable v r g) _ e in
      let q = both (is_fillable v r g') (is_productive v r g') p.1 in
      let a = goes k rule ok v r m h sub g d.0 p.0 l w b in
      let s = sample k rule ok v r (λ x less. m x) g' d.1 q.1 (end_name_in l) in
      (a.0 ++ s.0, (a.1, s.1), subst (λ u. DeepBy rule (end_name_in l) (seq g g') u (a.1, s.1)) (append_assoc w a.0 s.0) (deep_seq rule (end_name_in l) g g' (w ++ a.0) s.0 a.1 s.1 a.2 s.2))
  goes k rule ok v r m h sub (seq g g') d e l w (inr b) =
      let p = both (is_fillable v r g) _ e in
      let q = both (is_fillable v r g') (is_productive v r g') p.1 in
      let s = goes k rule ok v r m h sub g' d.1 q.0 l b.1 b.5 in
      (s.0, (b.2, s.1), subst (λ u. DeepBy rule (end_name_in l) (seq g g') u (b.2, s.1)) (sym (ap (λ u. u ++ s.0) b.3 ∙ append_assoc b.0 b.1 s.0)) (deep_seq rule (end_name_in l) g g' b.0 (b.1 ++ s.0) b.2 s.1 (at_its_limits rule h g l b.0 b.2 b.4) s.2))
  goes k rule ok v r m h sub (either g g') d e l w (inl b) = let a = goes k rule ok v r m h sub g d.0 (both (is_fillable v r g) (is_fillable v r g') e).0 l w b in (a.0, a.1, (let s = a.2 in (s.0, s.1, s.2, inl s.3)))
  goes k rule ok v r m h sub (either g g') d e l w (inr b) = let a = goes k rule ok v r m h sub g' d.1 (both (is_fillable v r g) (is_fillable v r g') e).1 l w b in (a.0, a.1, (let s = a.2 in (s.0, s.1, s.2, inr s.3)))
  goes k rule ok v r m h sub (either2 c ds g g') d e l w (inl b) = let a = goes k rule ok v r m h sub g d.0 (both (is_fillable v r g) (is_fillable v r g') e).0 l w b in (a.0, a.1, (let s = a.2 in (s.0, s.1, s.2, inl s.3)))
  goes k rule ok v r m h sub (either2 c ds g g') d e l w (inr b) = let a = goes k rule ok v r m h sub g' d.1 (both (is_fillable v r g) (is_fillable v r g') e).1 l w b in (a.0, a.1, (let s = a.2 in (s.0, s.1, s.2, inr s.3)))
  goes k rule ok v r m h sub (many g) d e l w b = each_goes rule (end_name_in l) g h l (λ w a s. at_its_limits rule h g l w a s) (λ w c. goes k rule ok v r m h sub g d.0 e l w c) b.0 w b.1
  goes k rule ok v r m h sub (made u g) d e l w b = let a = goes k rule ok v r m h sub g d e l w b in (a.0, u a.1, (let s = a.2 in (s.0, s.1, s.2, (a.1, s.3, refl))))
  goes k rule ok v r m h sub (placed g) d e l w b = let a = goes k rule ok v r m h sub g d.0 e l w b in let p = deep_placed k rule ok (end_name_in l) g d.1 (w ++ a.0) a.1 a.2 in (a.0, (p.0, a.1), p.1)
  goes k rule ok v r m h sub (nested o g) d e l w (inl b) =
      let s = sample k rule ok v r (λ x less. m x) g d.0 (both (is_fillable v r g) (is_productive v r g) e).1 (end_name_in l) in
      (s.0, s.1, deep_nested rule (end_name_in l) o g (w ++ s.0) s.1 (subst (λ u. DeepBy rule (end_name_in l) g (u ++ s.0) s.1) (sym b) s.2))
  goes k rule ok v r m h sub (nested o g) d e l w (inr b) =
      let a = goes k rule ok v r m h sub g d.0 (both (is_fillable v r g) (is_productive v r g) e).0 b.0 w b.2 in
      (a.0, a.1, deep_nested rule (end_name_in l) o g (w ++ a.0) a.1 (subst (λ f. DeepBy rule f g (w ++ a.0) a.1) (names_inside o l b.0 b.1) a.2))
  goes k rule ok v r m h sub end_name d e l w (inl b) = let t = some_name (end_name_in l) in (t.0 ∷ [], t.0, (0, 0, 0, (ap (λ v. v ++ t.0 ∷ []) b, t.1, t.2)))
  goes k rule ok v r m h sub end_name d e l w (inr b) = ([], b.0, (0, 0, 0, (append-nil w ∙ b.1, b.2, b.3)))
  goes k rule ok v r m h sub (under called g g') d e l w (inl b) =
      let p = both (is_fillable v r g) _ e in
      let q = both (is_fillable v r g') (is_productive v r g') p.1 in
      let a = goes k rule ok v r m h sub g d.0 p.0 l w b in
      let s = sample k rule ok v r (λ x less. m x) g' d.1 q.1 (rename (called a.1) (end_name_in l)) in
      (a.0 ++ s.0, (a.1, s.1), subst (λ u. DeepBy rule (end_name_in l) (under called g g') u (a.1, s.1)) (append_assoc w a.0 s.0) (deep_under rule (end_name_in l) called g g' (w ++ a.0) s.0 a.1 s.1 a.2 s.2))
  goes k rule ok v r m h sub (under called g g') d e l w (inr b) =
      let p = both (is_fillable v r g) _ e in
      let q = both (is_fillable v r g') (is_productive v r g') p.1 in
      let s = goes k rule ok v r m h sub g' d.1 q.0 (renamed (called b.2) l) b.1 b.5 in (
        s.0,
        (b.2, s.1),
        subst (λ u. DeepBy rule (end_name_in l) (under called g g') u (b.2, s.1)) (sym (ap (λ u. u ++ s.0) b.3 ∙ append_assoc b.0 b.1 s.0))
            (deep_under rule (end_name_in l) called g g' b.0 (b.1 ++ s.0) b.2 s.1 (at_its_limits rule h g l b.0 b.2 b.4) (subst (λ f. DeepBy rule f g' (b.1 ++ s.0) s.1) (renamed_name (called b.2) l) s.2)),
      )
  goes k rule ok v r m h sub (unless test g g') d e l w (inl b) =
      let p = both (is_fillable v r g) _ e in
      let q = both (is_fillable v r g') (is_productive v r g') p.1 in
      let a = goes k rule ok v r m h sub g d.0 p.0 l w b in
      let s = sample k rule ok v r (λ x less. m x) g' d.1 q.1 (end_name_in l) in
      (a.0 ++ s.0, (a.1, Some s.1), subst (λ u. DeepBy rule (end_name_in l) (unless test g g') u (a.1, Some s.1)) (append_assoc w a.0 s.0) (deep_unless rule (end_name_in l) test g g' (w ++ a.0) s.0 a.1 s.1 a.2 s.2))
  goes k rule ok v r m h sub (unless test g g') d e l w (inr b) =
      let p = both (is_fillable v r g) _ e in
      let q = both (is_fillable v r g') (is_productive v r g') p.1 in
      let s = goes k rule ok v r m h sub g' d.1 q.0 l b.1 b.5 in
      (s.0, (b.2, Some s.1), subst (λ u. DeepBy rule (end_name_in l) (unless test g g') u (b.2, Some s.1)) (sym (ap (λ u. u ++ s.0) b.3 ∙ append_assoc b.0 b.1 s.0)) (deep_unless rule (end_name_in l) test g g' b.0 (b.1 ++ s.0) b.2 s.1 (at_its_limits rule h g l b.0 b.2 b.4) s.2))
  goes k rule ok v r m h sub (symbol x) d e l w b = sub x l w b

  in_goes : (k : Tables S) (rule : Productions S V) → Checked S V k rule → (level : S → ℕ) (r : ℕ) → ((x : S) → Sampled rule x) → ((x : S) → is_fillable level r (rule x) ≡ true) → (h : ℕ) (x : S) (l : Limits) (w : List Lexeme) → BegunIn rule h x l w → (y : List Lexeme) × (a : V x) × DeepIn rule (end_name_in l) x (w ++ y) a
  in_goes k rule ok v r m e zero x l w b = let s = m x (end_name_in l) in (s.0, s.1, subst (λ u. DeepIn rule (end_name_in l) x (u ++ s.0) s.1) (sym b) s.2)
  in_goes k rule ok v r m e (suc h) x l w b =
      let a = goes k rule ok v r m h (λ x l w b. in_goes k rule ok v r m e h x l w b) (rule x) (ok.dec x) (e x) l w b in
      (a.0, a.1, (let s = a.2 in (suc s.0, s.1, s.2, s.3)))

  -- Some list that begins with these tokens is spelled, with no limit of nesting.
  pub extends : (k : Tables S) (rule : Productions S V) → Checked S V k rule → (level : S → ℕ) (r : ℕ) → ((x : S) → is_productive level (level x) (rule x) ≡ true) → ((x : S) → is_fillable level r (rule x) ≡ true) → (x : S) (l : Limits) (w : List Lexeme) → BegunAs rule x l w → (more : List Lexeme) × (a : V x) × (n : ℕ) × (c : ℕ) × SpelledAs rule x (at_most n c (end_name_in l)) (w ++ more) a
  extends k rule ok v r p e x l w b =
      let a = in_goes k rule ok v r (λ x. sampled k rule ok v p x) e b.0 x l w b.1 in
      let s = a.2 in
      (a.0, a.1, s.1, s.2, (s.0, s.3))
