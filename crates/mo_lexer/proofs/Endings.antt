-- What stands between quotes ends in one place, and so does a comment.
use Rattle.std.proofs.Common.{◌≡◌, ℕ, ◌+◌, ◌<◌, inl, inr, Bool, true, false, List, [], ◌∷◌, ◌++◌, length, take, get_or, refl, arith, append_assoc}
use Rattle.std.proofs.lemmas.List.{take_more}
use Rattle.mo_lexer.specs.Bytes.{is_escaped, is_quotable, is_string_byte}
use Rattle.mo_lexer.specs.Spelling.{AreContents, nothing, plain, escape, NeverCloses}
use Rattle.mo_lexer.specs.Lexing.{begins_escaped}
use Rattle.mo_lexer.proofs.Fronts.{overlap}

-- neither a plain character nor an escape stands at the front
abbrev pub Stops : (ℕ → Bool) → List ℕ → Type 0
Stops p [] = Unit {0}
Stops p (b ∷ bs) = (p b ≡ false) × (b ≡ 92 → begins_escaped bs ≡ false)

pub stop_at_single : (after : List ℕ) → Stops is_quotable (39 ∷ after)
stop_at_single after = (refl, λ e. cc)

pub stop_at_double : (after : List ℕ) → Stops is_string_byte (34 ∷ after)
stop_at_double after = (refl, λ e. cc)

-- what stands before the first stop is one text
pub same_contents : (p : ℕ → Bool) → p 92 ≡ false → (s t a b : List ℕ) → AreContents p s → AreContents p t → s ++ a ≡ t ++ b → Stops p a → Stops p b → (s ≡ t) × (a ≡ b)
same_contents p q _ _ a b nothing nothing e h k = (refl, e)
same_contents p q _ _ [] b nothing (plain pass more) e h k = cc
same_contents p q _ _ (x ∷ a) b nothing (plain {b = y} pass more) e h k =
    let same : x ≡ y = cc in
    let off : p y ≡ false = rw (← same) h.0 in cc
same_contents p q _ _ [] b nothing (escape slash letter more) e h k = cc
same_contents p q _ _ (x ∷ []) b nothing (escape slash letter more) e h k = cc
same_contents p q _ _ (x ∷ y ∷ a) b nothing (escape {b = z} slash letter more) e h k =
    let same : y ≡ z = cc in
    let off : is_escaped y ≡ false = h.1 (cc) in
    let on : is_escaped y ≡ true = rw same letter in cc
same_contents p q _ _ a [] (plain pass more) nothing e h k = cc
same_contents p q _ _ a (x ∷ b) (plain {b = y} pass more) nothing e h k =
    let same : x ≡ y = cc in
    let off : p y ≡ false = rw (← same) k.0 in cc
same_contents p q _ _ a [] (escape slash letter more) nothing e h k = cc
same_contents p q _ _ a (x ∷ []) (escape slash letter more) nothing e h k = cc
same_contents p q _ _ a (x ∷ y ∷ b) (escape {b = z} slash letter more) nothing e h k =
    let same : y ≡ z = cc in
    let off : is_escaped y ≡ false = k.1 (cc) in
    let on : is_escaped y ≡ true = rw same letter in cc
same_contents p q _ _ a b (plain {b = x} {bs = s} pass more) (plain {b = y} {bs = t} pass' more') e h k =
    let heads : x ≡ y = cc in
    let tails : s ++ a ≡ t ++ b = cc in
    let rest = same_contents p q s t a b more more' tails h k in
    (rw (heads, rest.0) refl, rest.1)
same_contents p q _ _ a b (plain {b = x} pass more) (escape {s = y} slash letter more') e h k =
    let heads : x ≡ 92 = cc in
    let off : p x ≡ false = rw heads q in cc
same_contents p q _ _ a b (escape {s = y} slash letter more) (plain {b = x} pass more') e h k =
    let heads : x ≡ 92 = cc in
    let off : p x ≡ false = rw heads q in cc
same_contents p q _ _ a b (escape {s = s'} {b = x} {bs = s} slash letter more) (escape {s = t'} {b = y} {bs = t} slash' letter' more') e h k =
    let slashes : s' ≡ t' = cc in
    let heads : x ≡ y = cc in
    let tails : s ++ a ≡ t ++ b = cc in
    let rest = same_contents p q s t a b more more' tails h k in
    (rw (slashes, heads, rest.0) refl, rest.1)

-- one more at the end
pub contents_joined : (p : ℕ → Bool) (s t : List ℕ) → AreContents p s → AreContents p t → AreContents p (s ++ t)
contents_joined p _ t nothing k = k
contents_joined p _ t (plain {bs = s} pass more) k = plain pass (contents_joined p s t more k)
contents_joined p _ t (escape {bs = s} slash letter more) k = escape slash letter (contents_joined p s t more k)

-- x and then y stands nowhere in it
abbrev NeverHas : ℕ → ℕ → List ℕ → Type 0
NeverHas x y body = (before after : List ℕ) → body ≡ before ++ x ∷ y ∷ after → ⊥

no_overlap : (x y : ℕ) → (x ≡ y → ⊥) → (s t a b more : List ℕ) → NeverHas x y t → 0 < length more → t ≡ s ++ more → x ∷ y ∷ a ≡ more ++ x ∷ y ∷ b → ⊥
no_overlap x y apart s t a b [] k some e f = omega arith
no_overlap x y apart s t a b (v ∷ []) k some e f = apart (cc)
no_overlap x y apart s t a b (v ∷ w ∷ more) k some e f =
    let first : v ≡ x = cc in
    let second : w ≡ y = cc in
    k s more (rw (e, first, second) refl)

same_front : (x y : ℕ) → (x ≡ y → ⊥) → (s t a b : List ℕ) → NeverHas x y s → NeverHas x y t → s ++ x ∷ y ∷ a ≡ t ++ x ∷ y ∷ b → s ≡ t
same_front x y apart s t a b h k e = elim (overlap s t (x ∷ y ∷ a) (x ∷ y ∷ b) e) [
  | inl same ↦ same.0
  | inr (inl on) ↦ absurd (no_overlap x y apart s t a b on.more k on.some on.text_is on.after_is)
  | inr (inr on) ↦ absurd (no_overlap x y apart t s b a on.more h on.some on.text_is on.after_is)
]

-- a comment's body up to its first `*/` is one text
pub same_body : (s t a b : List ℕ) → NeverCloses s → NeverCloses t → s ++ 42 ∷ 47 ∷ a ≡ t ++ 42 ∷ 47 ∷ b → s ≡ t
same_body s t a b h k e = same_front 42 47 (λ e. omega arith) s t a b h k e

module _ (p : ℕ → Bool) (bytes : List ℕ) (n : ℕ) (so_far : AreContents p (take n bytes)) where
  pub contents_more : n < length bytes → p (get_or bytes n 0) ≡ true → AreContents p (take (n + 1) bytes)
  contents_more below pass = rw (take_more bytes n 0 below) (contents_joined p _ _ so_far (plain pass nothing))

  pub contents_more_escape : n + 1 < length bytes → get_or bytes n 0 ≡ 92 → is_escaped (get_or bytes (n + 1) 0) ≡ true → AreContents p (take (n + 2) bytes)
  contents_more_escape below slash letter =
      let two : n + 2 ≡ n + 1 + 1 = omega arith in
      let here : n < length bytes = omega arith in
      let first = take_more bytes n 0 here in
      let second = take_more bytes (n + 1) 0 below in
      let joined = contents_joined p _ _ so_far (escape {s = get_or bytes n 0} {b = get_or bytes (n + 1) 0} slash letter nothing) in
      rw (two, second, first) (rw (← append_assoc (take n bytes) (get_or bytes n 0 ∷ []) (get_or bytes (n + 1) 0 ∷ [])) at joined)
