-- Functions that set places to nowhere, through the forms of a grammar: where tokens without their places spell a value, the
-- tokens themselves spell one that is it without its places.
use Rattle.std.proofs.Common.{◌≡◌, ℕ, Bool, List, [], ◌∷◌, ◌++◌, inl, inr, map, Option, Some, None, refl, sym, ap, subst, ◌∙◌}
use Rattle.std.specs.Option.{option_map}
use Rattle.mo_syntax.specs.declared.place.Place.{Place}
use Rattle.mo_grammar.specs.Lexeme.{Lexeme, code_of}
use Rattle.mo_grammar.specs.Grammar.{Opening, EndName, any_name, this_name, Limits, end_name_in, suits, renamed, Grammar, empty, token, seq, either, either2, many, made, placed, nested, end_name, under, unless, has, identifiers, first_passes, Spelling, SpelledBy, SpelledEach, SpelledOr}
use Rattle.mo_grammar.specs.Forms.{optional, flag, behind, before, between, separated}
use Rattle.mo_pieces.specs.Pieces.{nowhere, placeless_token}
use Rattle.mo_unparse.proofs.PlacelessForms.{both_same}

abbrev pub placeless_tokens : List Lexeme → List Lexeme
placeless_tokens = map placeless_token

-- The function u sets the places of what the form makes to nowhere.
pub record Places (S : Type 0) (V : S → Type 0) (A : Type 0) (of : Spelling S V) (g : Grammar S V A) (u : A → A) : Type 0 where
  pub at : (l : Limits) (w : List Lexeme) (b : A) → SpelledBy of g l (placeless_tokens w) b → (a : A) × SpelledBy of g l w a × (u a ≡ b)

-- where mapped elements are two lists, so are the elements
pub split_mapped : {A B : Type 0} (f : A → B) (w : List A) (front rest : List B) → map f w ≡ front ++ rest → (v : List A) × (v' : List A) × (w ≡ v ++ v') × (map f v ≡ front) × (map f v' ≡ rest)
split_mapped f w [] rest e = ([], w, refl, refl, e)
split_mapped f [] (b ∷ front) rest e = cc
split_mapped f (a ∷ w) (b ∷ front) rest e =
    let head : f a ≡ b = cc in
    let tail : map f w ≡ front ++ rest = cc in
    let s = split_mapped f w front rest tail in
    (a ∷ s.0, s.1, ap (λ v. a ∷ v) s.2, (let rest_is = s.3 in cc), s.4)

one_mapped : {A B : Type 0} (f : A → B) (w : List A) (b : B) → map f w ≡ b ∷ [] → (a : A) × (w ≡ a ∷ []) × (f a ≡ b)
one_mapped f [] b e = cc
one_mapped f (a ∷ []) b e = (a, refl, (let h : f a ≡ b = cc in h))
one_mapped f (a ∷ c ∷ w) b e = cc

none_mapped : {A B : Type 0} (f : A → B) (w : List A) → map f w ≡ [] → w ≡ []
none_mapped f [] e = refl
none_mapped f (a ∷ w) e = cc

suits_places : (n : EndName) (t : Lexeme) → suits n (placeless_token t) ≡ suits n t
suits_places any_name t = refl
suits_places (this_name name) t = refl

passes_places : {A : Type 0} (test : Lexeme → A → Bool) (v : A → A) → ((t : Lexeme) (a : A) → test (placeless_token t) (v a) ≡ test t a) → (w : List Lexeme) (a : A) → first_passes test (placeless_tokens w) (v a) ≡ first_passes test w a
passes_places test v same [] a = refl
passes_places test v same (t ∷ w) a = same t a

paired : {A B : Type 0} {x : A} {y : B} {b : A × B} → x ≡ b.0 → y ≡ b.1 → (x, y) ≡ b
paired {x = x} {y = y} {b = b} p q = both_same (λ x y. (x, y)) x b.0 y b.1 p q

module _ {S : Type 0} {V : S → Type 0} where
  pub through_empty : {A : Type 0} (of : Spelling S V) {a : A} {u : A → A} → u a ≡ a → Places S V A of (empty a) u
  through_empty of {a = a} e = record { at = λ l w b s. (a, (none_mapped placeless_token w s.0, refl), e ∙ s.1) }

  pub through_token : (of : Spelling S V) (codes : List ℕ) → Places S V Lexeme of (token codes) placeless_token
  through_token of codes = record {
    at = λ l w b s.
        let one = one_mapped placeless_token w b s.0 in
        (one.0, (one.1, ap (λ t. has codes (code_of t)) one.2 ∙ s.1), one.2);
  }

  pub through_seq : {A B : Type 0} {of : Spelling S V} {g : Grammar S V A} {h : Grammar S V B} {u : A → A} {v : B → B} → Places S V A of g u → Places S V B of h v → Places S V (A × B) of (seq g h) (λ x. (u x.0, v x.1))
  through_seq {of = of} {g = g} {h = h} p q = record {
    at = λ l w b s.
        let cut = split_mapped placeless_token w s.0 s.1 s.2 in
        let one = p.at l cut.0 b.0 (subst (λ z. SpelledBy of g l z b.0) (sym cut.3) s.3) in
        let two = q.at l cut.1 b.1 (subst (λ z. SpelledBy of h l z b.1) (sym cut.4) s.4) in
        ((one.0, two.0), (cut.0, cut.1, cut.2, one.1, two.1), paired one.2 two.2);
  }

  either_at : {A : Type 0} {of : Spelling S V} {g h : Grammar S V A} {u : A → A} → Places S V A of g u → Places S V A of h u → (l : Limits) (w : List Lexeme) (b : A) → SpelledBy of (either g h) l (placeless_tokens w) b → (a : A) × SpelledBy of (either g h) l w a × (u a ≡ b)
  either_at p q l w b (inl s) = let one = p.at l w b s in (one.0, inl one.1, one.2)
  either_at p q l w b (inr s) = let one = q.at l w b s in (one.0, inr one.1, one.2)

  pub through_either : {A : Type 0} {of : Spelling S V} {g h : Grammar S V A} {u : A → A} → Places S V A of g u → Places S V A of h u → Places S V A of (either g h) u
  through_either p q = record { at = λ l w b s. either_at p q l w b s }

  pub through_either2 : {A : Type 0} {of : Spelling S V} {c : ℕ} {ds : List ℕ} {g h : Grammar S V A} {u : A → A} → Places S V A of g u → Places S V A of h u → Places S V A of (either2 c ds g h) u
  through_either2 p q = record { at = λ l w b s. either_at p q l w b s }

  each_at : {A : Type 0} {of : Spelling S V} {g : Grammar S V A} {u : A → A} → Places S V A of g u → (l : Limits) (w : List Lexeme) (list : List A) → SpelledEach (SpelledBy of g l) (placeless_tokens w) list → (a : List A) × SpelledEach (SpelledBy of g l) w a × (map u a ≡ list)
  each_at p l w [] s = ([], none_mapped placeless_token w s, refl)
  each_at {of = of} {g = g} p l w (b ∷ list) (front, rest, e, here, others) =
      let cut = split_mapped placeless_token w front rest e in
      let one = p.at l cut.0 b (subst (λ z. SpelledBy of g l z b) (sym cut.3) here) in
      let more = each_at p l cut.1 list (subst (λ z. SpelledEach (SpelledBy of g l) z list) (sym cut.4) others) in
      (one.0 ∷ more.0, (cut.0, cut.1, cut.2, one.1, more.1), (let f = one.2 in let g = more.2 in cc))

  pub through_many : {A : Type 0} {of : Spelling S V} {g : Grammar S V A} {u : A → A} → Places S V A of g u → Places S V (List A) of (many g) (map u)
  through_many p = record { at = λ l w b s. each_at p l w b s }

  -- the function that is made of what the form gives leads from places set before to places set afterwards
  pub through_made : {A B : Type 0} {of : Spelling S V} {f : A → B} {g : Grammar S V A} {u : A → A} {v : B → B} → Places S V A of g u → ((a : A) → f (u a) ≡ v (f a)) → Places S V B of (made f g) v
  through_made {f = f} p natural = record {
    at = λ l w b s.
        let one = p.at l w s.0 s.1 in
        (f one.0, (one.0, one.1, refl), sym (natural one.0) ∙ ap f one.2 ∙ s.2);
  }

  placed_at : {A : Type 0} {of : Spelling S V} {g : Grammar S V A} {u : A → A} → Places S V A of g u → (l : Limits) (w : List Lexeme) (b : Place × A) → SpelledBy of (placed g) l (placeless_tokens w) b → (a : Place × A) × SpelledBy of (placed g) l w a × ((nowhere, u a.1) ≡ b)
  placed_at p l [] b (t, more, e, place, s) = cc
  placed_at p l (r ∷ w) b (t, more, e, place, s) =
      let one = p.at l (r ∷ w) b.1 s in
      let first : placeless_token r ≡ t = cc in
      ((r.place, one.0), (r, w, refl, refl, one.1), paired (ap (λ t. t.place) first ∙ sym place) one.2)

  pub through_placed : {A : Type 0} {of : Spelling S V} {g : Grammar S V A} {u : A → A} → Places S V A of g u → Places S V (Place × A) of (placed g) (λ x. (nowhere, u x.1))
  through_placed p = record { at = λ l w b s. placed_at p l w b s }

  pub through_nested : {A : Type 0} {of : Spelling S V} {o : Opening} {g : Grammar S V A} {u : A → A} → Places S V A of g u → Places S V A of (nested o g) u
  through_nested p = record { at = λ l w b s. let one = p.at s.0 w b s.2 in (one.0, (s.0, s.1, one.1), one.2) }

  pub through_end_name : (of : Spelling S V) → Places S V Lexeme of end_name placeless_token
  through_end_name of = record {
    at = λ l w b s.
        let one = one_mapped placeless_token w b s.0 in
        (one.0, (one.1, ap (λ t. has identifiers (code_of t)) one.2 ∙ s.1, sym (suits_places (end_name_in l) one.0) ∙ ap (suits (end_name_in l)) one.2 ∙ s.2), one.2);
  }

  pub through_under : {A B : Type 0} {of : Spelling S V} {called : A → List ℕ} {g : Grammar S V A} {h : Grammar S V B} {u : A → A} {v : B → B} → Places S V A of g u → Places S V B of h v → ((a : A) → called (u a) ≡ called a) → Places S V (A × B) of (under called g h) (λ x. (u x.0, v x.1))
  through_under {of = of} {called = called} {g = g} {h = h} {u = u} {v = v} p q same = record {
    at = λ l w b s.
        let cut = split_mapped placeless_token w s.0 s.1 s.2 in
        let one = p.at l cut.0 b.0 (subst (λ z. SpelledBy of g l z b.0) (sym cut.3) s.3) in
        let name : called b.0 ≡ called one.0 = ap called (sym one.2) ∙ same one.0 in
        let two = q.at (renamed (called one.0) l) cut.1 b.1 (subst (λ n. SpelledBy of h (renamed n l) (placeless_tokens cut.1) b.1) name (subst (λ z. SpelledBy of h (renamed (called b.0) l) z b.1) (sym cut.4) s.4)) in
        ((one.0, two.0), (cut.0, cut.1, cut.2, one.1, two.1), paired {x = u one.0} {y = v two.0} one.2 two.2);
  }

  or_at : {B : Type 0} {of : Spelling S V} {h : Grammar S V B} {v : B → B} → Places S V B of h v → (allowed : Bool) (l : Limits) (w : List Lexeme) (o : Option B) → SpelledOr (SpelledBy of h l) allowed (placeless_tokens w) o → (a : Option B) × SpelledOr (SpelledBy of h l) allowed w a × (option_map v a ≡ o)
  or_at q allowed l w None s = (None, (none_mapped placeless_token w s.0, s.1), refl)
  or_at q allowed l w (Some b) s = let two = q.at l w b s in (Some two.0, two.1, ap Some two.2)

  pub through_unless : {A B : Type 0} {of : Spelling S V} {test : Lexeme → A → Bool} {g : Grammar S V A} {h : Grammar S V B} {u : A → A} {v : B → B} → Places S V A of g u → Places S V B of h v → ((t : Lexeme) (a : A) → test (placeless_token t) (u a) ≡ test t a) → Places S V (A × Option B) of (unless test g h) (λ x. (u x.0, option_map v x.1))
  through_unless {of = of} {test = test} {g = g} {h = h} {u = u} p q same = record {
    at = λ l w b s.
        let cut = split_mapped placeless_token w s.0 s.1 s.2 in
        let one = p.at l cut.0 b.0 (subst (λ z. SpelledBy of g l z b.0) (sym cut.3) s.3) in
        let passed : first_passes test s.0 b.0 ≡ first_passes test cut.0 one.0 = ap (λ z. first_passes test z b.0) (sym cut.3) ∙ ap (λ z. first_passes test (placeless_tokens cut.0) z) (sym one.2) ∙ passes_places test u same cut.0 one.0 in
        let two = or_at q (first_passes test cut.0 one.0) l cut.1 b.1 (subst (λ z. SpelledOr (SpelledBy of h l) z (placeless_tokens cut.1) b.1) passed (subst (λ z. SpelledOr (SpelledBy of h l) (first_passes test s.0 b.0) z b.1) (sym cut.4) s.4)) in
        ((one.0, two.0), (cut.0, cut.1, cut.2, one.1, two.1), paired one.2 two.2);
  }

  -- ---- forms of productions

  pub through_optional : {A : Type 0} {of : Spelling S V} {g : Grammar S V A} {u : A → A} → Places S V A of g u → Places S V (Option A) of (optional g) (option_map u)
  through_optional {of = of} p = through_either (through_made p (λ a. refl)) (through_empty of refl)

  pub through_flag : (of : Spelling S V) (c : ℕ) → Places S V Bool of (flag c) (λ b. b)
  through_flag of c = through_either (through_made (through_token of (c ∷ [])) (λ a. refl)) (through_empty of refl)

  pub through_behind : {A : Type 0} {of : Spelling S V} {g : Grammar S V A} {u : A → A} (c : ℕ) → Places S V A of g u → Places S V A of (behind c g) u
  through_behind {of = of} c p = through_made (through_seq (through_token of (c ∷ [])) p) (λ a. refl)

  pub through_before : {A : Type 0} {of : Spelling S V} {g : Grammar S V A} {u : A → A} (c : ℕ) → Places S V A of g u → Places S V A of (before g c) u
  through_before {of = of} c p = through_made (through_seq p (through_token of (c ∷ []))) (λ a. refl)

  pub through_between : {A : Type 0} {of : Spelling S V} {g : Grammar S V A} {u : A → A} (c d : ℕ) → Places S V A of g u → Places S V A of (between c d g) u
  through_between c d p = through_nested (through_behind c (through_before d p))

  pub through_separated : {A : Type 0} {of : Spelling S V} {g : Grammar S V A} {u : A → A} (c : ℕ) → Places S V A of g u → Places S V (List A) of (separated c g) (map u)
  through_separated c p = through_made (through_seq p (through_many (through_behind c p))) (λ a. refl)
