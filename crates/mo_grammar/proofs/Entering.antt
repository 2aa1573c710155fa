-- A token that may come first is taken.
use Rattle.std.proofs.Common.{◌≡◌, ◌==◌, ℕ, zero, suc, ◌+◌, ◌<◌, ◌≤◌, Bool, true, false, List, [], ◌∷◌, ◌++◌, inl, inr, Option, Some, None, length, refl, sym, subst, ◌∙◌, if◌then◌else◌, le_refl, arith, eqb-true}
use Rattle.mo_grammar.specs.declared.fault.Fault.TheVariants.{Misplaced, Misnamed}
use Rattle.mo_syntax.specs.declared.place.Place.{Place}
use Rattle.mo_grammar.specs.Lexeme.{Lexeme, code_of}
use Rattle.mo_grammar.specs.Grammar.{Limits, left_inside, end_name_in, suits, renamed, Grammar, empty, token, seq, either, either2, many, made, placed, nested, end_name, under, unless, symbol, has, identifiers}
use Rattle.mo_grammar.specs.Reading.{Outcome, read, stuck, unfinished, ◌>>=◌, Reader, may_be_empty, when, entry_codes, first_codes, later_codes, next_in, next_two, each_from, reads_inside, reads_by, Tables, is_pair, is_only, covers}
use Rattle.mo_grammar.proofs.Codes.{both, never, has_append, has_left, has_right, has_when, has_one, when_has, next_in_neither, next_in_unless, next_in_apart, no_pair, choose_false, choose_true, covers_lem, apart_lem, one_of}
use Rattle.mo_grammar.proofs.Decided.{Decided}
use Rattle.mo_grammar.proofs.Outcomes.{remaining, shrinks, kept, each_shrinks, slack, Into, less_is_into, bind_into, if_into, unless_rest, unless_shrinks}

pub no_item : {A : Type 0} (codes : List ℕ) (part : List Lexeme → Outcome A) (n : ℕ) (w : List Lexeme) → next_in codes w ≡ false → each_from codes part n w ≡ read [] w
no_item {A = A} codes part zero w e = choose_false {A = Outcome (List A)} (next_in codes w) unfinished (read [] w) e
no_item {A = A} codes part (suc n) w e = choose_false {A = Outcome (List A)} (next_in codes w) (part w >>= λ x. each_from codes part n x.1 >>= λ y. read (x.0 ∷ y.0) y.1) (read [] w) e

seq_reads : {A B : Type 0} (o : Outcome A) (f : A × List Lexeme → Outcome B) (a : A) (w : List Lexeme) (b : B) (v : List Lexeme) → o ≡ read a w → f (a, w) ≡ read b v → (o >>= λ x. f x >>= λ y. let both : Outcome (A × B) = read (x.0, y.0) y.1 in both) ≡ read (a, b) v
seq_reads o f a w b v p q = rw p (rw q refl)

append_wider : (xs ys xs' ys' : List ℕ) (c : ℕ) → (has xs c ≡ true → has xs' c ≡ true) → (has ys c ≡ true → has ys' c ≡ true) → has (xs ++ ys) c ≡ true → has (xs' ++ ys') c ≡ true
append_wider xs ys xs' ys' c p q e = elim (has_append xs ys c e) [ inl h ↦ has_left xs' ys' c (p h) | inr h ↦ has_right xs' ys' c (q h) ]

module _ {S : Type 0} {V : S → Type 0} where
  only_solid : {A : Type 0} (c : ℕ) (g : Grammar S V A) → is_only c g ≡ true → may_be_empty g ≡ false
  only_solid c (token codes) e = refl
  only_solid c (made f g) e = only_solid c g e
  only_solid c (placed g) e = only_solid c g e
  only_solid c (empty a) e = cc
  only_solid c (seq g h) e = cc
  only_solid c (either g h) e = cc
  only_solid c (either2 d ds g h) e = cc
  only_solid c (many g) e = cc
  only_solid c (nested o g) e = cc
  only_solid c end_name e = cc
  only_solid c (under called g h) e = cc
  only_solid c (unless test g h) e = cc
  only_solid c (symbol x) e = cc

  pub pair_solid : {A : Type 0} (st : S → List ℕ) (c : ℕ) (ds : List ℕ) (g : Grammar S V A) → is_pair st c ds g ≡ true → may_be_empty g ≡ false
  pair_solid st c ds (seq g h) e = rw (only_solid c g (both (is_only c g) _ e).0) refl
  pair_solid st c ds (made f g) e = pair_solid st c ds g e
  pair_solid st c ds (placed g) e = pair_solid st c ds g e
  pair_solid st c ds (token codes) e = refl
  pair_solid st c ds (empty a) e = cc
  pair_solid st c ds (either g h) e = cc
  pair_solid st c ds (either2 d es g h) e = cc
  pair_solid st c ds (many g) e = cc
  pair_solid st c ds (nested o g) e = cc
  pair_solid st c ds end_name e = cc
  pair_solid st c ds (under called g h) e = cc
  pair_solid st c ds (unless test g h) e = cc
  pair_solid st c ds (symbol x) e = cc

  -- where the next token makes nothing longer, an empty spelling is read
  pub skips : {A : Type 0} (k : Tables S) (of : Reader S V) (g : Grammar S V A) → Decided k g → may_be_empty g ≡ true → (l : Limits) (w : List Lexeme) → next_in (later_codes k.starts k.laters g) w ≡ false → (a : A) × (reads_by k.starts of g l w ≡ read a w)
  skips k of (empty a) d e l w n = (a, refl)
  skips k of (token codes) d e l w n = cc
  skips k of (seq {A = A} {B = B} g h) d e l w n =
      let none = both (may_be_empty g) (may_be_empty h) e in
      let apart' = next_in_neither (later_codes k.starts k.laters h) (when (may_be_empty h) (later_codes k.starts k.laters g)) w n in
      let right = skips k of h d.1 none.1 l w apart'.0 in
      let left = skips k of g d.0 none.0 l w (next_in_unless (may_be_empty h) (later_codes k.starts k.laters g) w none.1 apart'.1) in
      ((left.0, right.0), seq_reads (reads_by k.starts of g l w) (λ x. reads_by k.starts of h l x.1) left.0 w right.0 w left.1 right.1)
  skips k of (either g h) d e l w n =
      let one = next_in_neither (later_codes k.starts k.laters g) (later_codes k.starts k.laters h ++ when (may_be_empty h) (first_codes k.starts g)) w n in
      let two = next_in_neither (later_codes k.starts k.laters h) (when (may_be_empty h) (first_codes k.starts g)) w one.1 in
      let none : may_be_empty h ≡ true = elim (one_of (may_be_empty g) (may_be_empty h) e) [ inl t ↦ never (may_be_empty g) t d.2 | inr t ↦ t ] in
      let right = skips k of h d.1 none l w two.0 in
      (right.0, choose_false (next_in (first_codes k.starts g) w) (reads_by k.starts of g l w) (reads_by k.starts of h l w) (next_in_unless (may_be_empty h) (first_codes k.starts g) w none two.1) ∙ right.1)
  skips k of (either2 c ds g h) d e l w n =
      let one = next_in_neither (later_codes k.starts k.laters g) (later_codes k.starts k.laters h ++ (c ∷ ds)) w n in
      let two = next_in_neither (later_codes k.starts k.laters h) (c ∷ ds) w one.1 in
      let none : may_be_empty h ≡ true = elim (one_of (may_be_empty g) (may_be_empty h) e) [ inl t ↦ never (may_be_empty g) t (pair_solid k.starts c ds g d.2) | inr t ↦ t ] in
      let right = skips k of h d.1 none l w two.0 in
      (right.0, choose_false (next_two c ds w) (reads_by k.starts of g l w) (reads_by k.starts of h l w) (no_pair c ds w two.1) ∙ right.1)
  skips k of (many g) d e l w n = ([], no_item (first_codes k.starts g) (reads_by k.starts of g l) (length w) w (next_in_neither (first_codes k.starts g) (later_codes k.starts k.laters g) w n).0)
  skips k of (made f g) d e l w n = let s = skips k of g d e l w n in (f s.0, rw (s.1) refl)
  skips k of (placed g) d e l w n = never (may_be_empty g) e d.1
  skips k of (nested o g) d e l w n = never (may_be_empty g) e d.1
  skips k of end_name d e l w n = cc
  skips k of (under {A = A} {B = B} called g h) d e l w n =
      let none = both (may_be_empty g) (may_be_empty h) e in
      let apart' = next_in_neither (later_codes k.starts k.laters h) (when (may_be_empty h) (later_codes k.starts k.laters g)) w n in
      let left = skips k of g d.0 none.0 l w (next_in_unless (may_be_empty h) (later_codes k.starts k.laters g) w none.1 apart'.1) in
      let right = skips k of h d.1 none.1 (renamed (called left.0) l) w apart'.0 in
      ((left.0, right.0), seq_reads (reads_by k.starts of g l w) (λ x. reads_by k.starts of h (renamed (called x.0) l) x.1) left.0 w right.0 w left.1 right.1)
  skips k of (unless test g h) d e l w n = never (may_be_empty g) e d.2
  skips k of (symbol x) d e l w n = cc

  -- ---- a set of first codes within another
  pub wider : {A : Type 0} (b b' : Bool) → (b ≡ true → b' ≡ true) → (f f' : S → List ℕ) → ((x : S) (c : ℕ) → has (f x) c ≡ true → has (f' x) c ≡ true) → (g : Grammar S V A) (c : ℕ) → has (entry_codes b f g) c ≡ true → has (entry_codes b' f' g) c ≡ true
  wider b b' up f f' k (empty a) c e = e
  wider b b' up f f' k (token codes) c e = e
  wider b b' up f f' k (seq g h) c e = append_wider (entry_codes b f g) (when (may_be_empty g) (entry_codes b f h)) (entry_codes b' f' g) (when (may_be_empty g) (entry_codes b' f' h)) c (wider b b' up f f' k g c) (λ d. let p = has_when (may_be_empty g) (entry_codes b f h) c d in when_has (may_be_empty g) (entry_codes b' f' h) c p.0 (wider b b' up f f' k h c p.1)) e
  wider b b' up f f' k (either g h) c e = append_wider (entry_codes b f g) (entry_codes b f h) (entry_codes b' f' g) (entry_codes b' f' h) c (wider b b' up f f' k g c) (wider b b' up f f' k h c) e
  wider b b' up f f' k (either2 d ds g h) c e = append_wider (entry_codes b f g) (entry_codes b f h) (entry_codes b' f' g) (entry_codes b' f' h) c (wider b b' up f f' k g c) (wider b b' up f f' k h c) e
  wider b b' up f f' k (many g) c e = wider b b' up f f' k g c e
  wider b b' up f f' k (made m g) c e = wider b b' up f f' k g c e
  wider b b' up f f' k (placed g) c e = wider b b' up f f' k g c e
  wider b b' up f f' k (nested o g) c e = let p = has_when b (entry_codes b f g) c e in when_has b' (entry_codes b' f' g) c (up p.0) (wider b b' up f f' k g c p.1)
  wider b b' up f f' k end_name c e = let p = has_when b identifiers c e in when_has b' identifiers c (up p.0) p.1
  wider b b' up f f' k (under called g h) c e = append_wider (entry_codes b f g) (when (may_be_empty g) (entry_codes b f h)) (entry_codes b' f' g) (when (may_be_empty g) (entry_codes b' f' h)) c (wider b b' up f f' k g c) (λ d. let p = has_when (may_be_empty g) (entry_codes b f h) c d in when_has (may_be_empty g) (entry_codes b' f' h) c p.0 (wider b b' up f f' k h c p.1)) e
  wider b b' up f f' k (unless test g h) c e = append_wider (entry_codes b f g) (when (may_be_empty g) (entry_codes b f h)) (entry_codes b' f' g) (when (may_be_empty g) (entry_codes b' f' h)) c (wider b b' up f f' k g c) (λ d. let p = has_when (may_be_empty g) (entry_codes b f h) c d in when_has (may_be_empty g) (entry_codes b' f' h) c p.0 (wider b b' up f f' k h c p.1)) e
  wider b b' up f f' k (symbol x) c e = k x c e

  -- ---- a pair of tokens that tells a choice
  only_first : {A : Type 0} (st : S → List ℕ) (c d : ℕ) (g : Grammar S V A) → is_only c g ≡ true → has (first_codes st g) d ≡ true → c ≡ d
  only_first st c d (token codes) e h = has_one c d (covers_lem (c ∷ []) codes d (both (has codes c) (covers (c ∷ []) codes) e).1 h)
  only_first st c d (made f g) e h = only_first st c d g e h
  only_first st c d (placed g) e h = only_first st c d g e h
  only_first st c d (empty a) e h = cc
  only_first st c d (seq g g') e h = cc
  only_first st c d (either g g') e h = cc
  only_first st c d (either2 d' ds g g') e h = cc
  only_first st c d (many g) e h = cc
  only_first st c d (nested o g) e h = cc
  only_first st c d end_name e h = cc
  only_first st c d (under called g g') e h = cc
  only_first st c d (unless test g g') e h = cc
  only_first st c d (symbol x) e h = cc

  pub pair_first : {A : Type 0} (st : S → List ℕ) (c : ℕ) (ds : List ℕ) (d : ℕ) (g : Grammar S V A) → is_pair st c ds g ≡ true → has (first_codes st g) d ≡ true → c ≡ d
  pair_first st c ds d (seq g h) e i =
      let only = (both (is_only c g) _ e).0 in
      elim (has_append (first_codes st g) (when (may_be_empty g) (first_codes st h)) d i) [
        | inl here ↦ only_first st c d g only here
        | inr later ↦ never (may_be_empty g) (has_when (may_be_empty g) (first_codes st h) d later).0 (only_solid c g only)
      ]
  pair_first st c ds d (made f g) e i = pair_first st c ds d g e i
  pair_first st c ds d (placed g) e i = pair_first st c ds d g e i
  pair_first st c ds d (token codes) e i = cc
  pair_first st c ds d (empty a) e i = cc
  pair_first st c ds d (either g h) e i = cc
  pair_first st c ds d (either2 d' es g h) e i = cc
  pair_first st c ds d (many g) e i = cc
  pair_first st c ds d (nested o g) e i = cc
  pair_first st c ds d end_name e i = cc
  pair_first st c ds d (under called g h) e i = cc
  pair_first st c ds d (unless test g h) e i = cc
  pair_first st c ds d (symbol x) e i = cc

  pub only_reads : {A : Type 0} (st : S → List ℕ) (of : Reader S V) (c : ℕ) (g : Grammar S V A) → is_only c g ≡ true → (l : Limits) (t : Lexeme) (more : List Lexeme) → c ≡ code_of t → (a : A) × (reads_by st of g l (t ∷ more) ≡ read a more)
  only_reads st of c (token codes) e l t more d = (t, choose_true (has codes (code_of t)) (read t more) (stuck Misplaced (t ∷ more)) (rw d at ((both (has codes c) (covers (c ∷ []) codes) e).0)))
  only_reads st of c (made f g) e l t more d = let r = only_reads st of c g e l t more d in (f r.0, rw (r.1) refl)
  only_reads st of c (placed g) e l t more d = let r = only_reads st of c g e l t more d in ((t.place, r.0), rw (r.1) refl)
  only_reads st of c (empty a) e l t more d = cc
  only_reads st of c (seq g h) e l t more d = cc
  only_reads st of c (either g h) e l t more d = cc
  only_reads st of c (either2 d' es g h) e l t more d = cc
  only_reads st of c (many g) e l t more d = cc
  only_reads st of c (nested o g) e l t more d = cc
  only_reads st of c end_name e l t more d = cc
  only_reads st of c (under called g h) e l t more d = cc
  only_reads st of c (unless test g h) e l t more d = cc
  only_reads st of c (symbol x) e l t more d = cc

  pub rest_shrinks : {A B C : Type 0} (st : S → List ℕ) (of : Reader S V) → ((x : S) (l : Limits) (tokens : List Lexeme) → remaining (of x l tokens) ≤ length tokens) → (h : Grammar S V B) (l : Limits) (f : A → B → C) → (x : A × List Lexeme) → remaining (reads_by st of h l x.1 >>= λ y. read (f x.0 y.0) y.1) ≤ length x.1
  rest_shrinks st of k h l f x = rw (kept (f x.0) (reads_by st of h l x.1)) (shrinks st of k h l x.1)

  pub under_shrinks : {A B C : Type 0} (st : S → List ℕ) (of : Reader S V) → ((x : S) (l : Limits) (tokens : List Lexeme) → remaining (of x l tokens) ≤ length tokens) → (called : A → List ℕ) (h : Grammar S V B) (l : Limits) (f : A → B → C) → (x : A × List Lexeme) → remaining (reads_by st of h (renamed (called x.0) l) x.1 >>= λ y. read (f x.0 y.0) y.1) ≤ length x.1
  under_shrinks st of k called h l f x = rw (kept (f x.0) (reads_by st of h (renamed (called x.0) l) x.1)) (shrinks st of k h (renamed (called x.0) l) x.1)

  pub pair_takes : {A : Type 0} (st : S → List ℕ) (of : Reader S V) → ((x : S) (l : Limits) (tokens : List Lexeme) → remaining (of x l tokens) ≤ length tokens) → (c : ℕ) (ds : List ℕ) (g : Grammar S V A) → is_pair st c ds g ≡ true → (l : Limits) (t : Lexeme) (more : List Lexeme) → c ≡ code_of t → remaining (reads_by st of g l (t ∷ more)) ≤ length more
  pair_takes st of k c ds (seq {A = A} {B = B} g h) e l t more d =
      let r = only_reads st of c g (both (is_only c g) _ e).0 l t more d in
      rw (r.1) (rest_shrinks {C = A × B} st of k h l (λ a b. (a, b)) (r.0, more))
  pair_takes st of k c ds (made f g) e l t more d = rw (kept f (reads_by st of g l (t ∷ more))) (pair_takes st of k c ds g e l t more d)
  pair_takes st of k c ds (placed {A = A} g) e l t more d = rw (kept {B = Place × A} (λ a. (t.place, a)) (reads_by st of g l (t ∷ more))) (pair_takes st of k c ds g e l t more d)
  pair_takes st of k c ds (token codes) e l t more d = cc
  pair_takes st of k c ds (empty a) e l t more d = cc
  pair_takes st of k c ds (either g h) e l t more d = cc
  pair_takes st of k c ds (either2 d' es g h) e l t more d = cc
  pair_takes st of k c ds (many g) e l t more d = cc
  pair_takes st of k c ds (nested o g) e l t more d = cc
  pair_takes st of k c ds end_name e l t more d = cc
  pair_takes st of k c ds (under called g h) e l t more d = cc
  pair_takes st of k c ds (unless test g h) e l t more d = cc
  pair_takes st of k c ds (symbol x) e l t more d = cc

-- ---- a token that may come first

abbrev pub entries : {S : Type 0} → Tables S → Bool → S → List ℕ
entries k true = k.starts
entries k false = k.plains

-- What is known of the readers of the productions.
pub record Enters (S : Type 0) (V : S → Type 0) (k : Tables S) (of : Reader S V) : Type 0 where
  pub plain_starts : (x : S) (c : ℕ) → has (k.plains x) c ≡ true → has (k.starts x) c ≡ true
  pub leaves : (x : S) (l : Limits) (tokens : List Lexeme) → remaining (of x l tokens) ≤ length tokens
  pub takes : (inside : Bool) (x : S) (l : Limits) (t : Lexeme) (more : List Lexeme) → has (entries k inside x) (code_of t) ≡ true → Into inside (of x l (t ∷ more)) (t ∷ more)

pub two_first : (c : ℕ) (ds : List ℕ) (t : Lexeme) (more : List Lexeme) → next_two c ds (t ∷ more) ≡ true → c ≡ code_of t
two_first c ds t [] e = cc
two_first c ds t (u ∷ more) e = eqb-true c (code_of t) (both (c == code_of t) (has ds (code_of u)) e).0

inside_into : {A : Type 0} (inside opens : Bool) (left : Option Limits) (part : Limits → Outcome A) (tokens : List Lexeme) → ((l : Limits) → Into inside (part l) tokens) → inside ≡ true → opens ≡ true → Into inside (reads_inside opens left part tokens) tokens
inside_into inside opens (Some l) part tokens h e d = h l
inside_into true true None part tokens h e d = omega arith
inside_into false opens None part tokens h e d = cc
inside_into true false None part tokens h e d = cc

module _ {S : Type 0} {V : S → Type 0} where
  starts_of : {A : Type 0} (k : Tables S) → ((x : S) (c : ℕ) → has (k.plains x) c ≡ true → has (k.starts x) c ≡ true) → (inside : Bool) (g : Grammar S V A) (c : ℕ) → has (entry_codes inside (entries k inside) g) c ≡ true → has (first_codes k.starts g) c ≡ true
  starts_of k p true g c e = e
  starts_of k p false g c e = wider false true (λ d. refl) k.plains k.starts p g c e

  plains_of : {A : Type 0} (k : Tables S) → ((x : S) (c : ℕ) → has (k.plains x) c ≡ true → has (k.starts x) c ≡ true) → (inside : Bool) (g : Grammar S V A) (c : ℕ) → has (entry_codes false k.plains g) c ≡ true → has (entry_codes inside (entries k inside) g) c ≡ true
  plains_of k p false g c e = e
  plains_of k p true g c e = wider false true (λ d. refl) k.plains k.starts p g c e

  -- A token that may come first is taken, or it opens a construct past the limits; one of those that open none is taken.
  pub enters : {A : Type 0} (k : Tables S) (of : Reader S V) → Enters S V k of → (inside : Bool) (g : Grammar S V A) → Decided k g → (l : Limits) (t : Lexeme) (more : List Lexeme) → has (entry_codes inside (entries k inside) g) (code_of t) ≡ true → Into inside (reads_by k.starts of g l (t ∷ more)) (t ∷ more)
  enters k of m i (empty a) d l t more e = cc
  enters k of m i (token codes) d l t more e = if_into i (has codes (code_of t)) (read t more) (stuck Misplaced (t ∷ more)) (t ∷ more) (λ h. omega arith) (λ h. never (has codes (code_of t)) e h)
  enters k of m i (seq {A = A} {B = B} g h) d l t more e =
      let f : A × List Lexeme → Outcome (A × B) = λ x. reads_by k.starts of h l x.1 >>= λ y. read (x.0, y.0) y.1 in
      elim (has_append (entry_codes i (entries k i) g) (when (may_be_empty g) (entry_codes i (entries k i) h)) (code_of t) e) [
        | inl here ↦ bind_into i (reads_by k.starts of g l (t ∷ more)) f (t ∷ more) (enters k of m i g d.0 l t more here) (rest_shrinks {C = A × B} k.starts of m.leaves h l (λ a b. (a, b)))
        | inr later ↦
            let p = has_when (may_be_empty g) (entry_codes i (entries k i) h) (code_of t) later in
            let s = skips k of g d.0 p.0 l (t ∷ more) (next_in_apart (later_codes k.starts k.laters g) (first_codes k.starts h) (t ∷ more) d.2 (starts_of k m.plain_starts i h (code_of t) p.1)) in
            subst (λ o. Into i (o >>= f) (t ∷ more)) (sym s.1)
            (bind_into i (reads_by k.starts of h l (t ∷ more)) (λ y. read (s.0, y.0) y.1) (t ∷ more) (enters k of m i h d.1 l t more p.1) (λ y. le_refl (length y.1)))
      ]
  enters k of m i (either g h) d l t more e =
      let here = has_append (entry_codes i (entries k i) g) (entry_codes i (entries k i) h) (code_of t) e in
      if_into i (has (first_codes k.starts g) (code_of t)) (reads_by k.starts of g l (t ∷ more)) (reads_by k.starts of h l (t ∷ more)) (t ∷ more)
      (λ n. elim here [
        | inl a ↦ enters k of m i g d.0 l t more a
        | inr b ↦ absurd (apart_lem (first_codes k.starts g) (first_codes k.starts h) (code_of t) d.3 n (starts_of k m.plain_starts i h (code_of t) b))
      ])
      (λ n. elim here [
        | inl a ↦ never (has (first_codes k.starts g) (code_of t)) (starts_of k m.plain_starts i g (code_of t) a) n
        | inr b ↦ enters k of m i h d.1 l t more b
      ])
  enters k of m i (either2 c ds g h) d l t more e =
      if_into i (next_two c ds (t ∷ more)) (reads_by k.starts of g l (t ∷ more)) (reads_by k.starts of h l (t ∷ more)) (t ∷ more)
      (λ n. less_is_into i (reads_by k.starts of g l (t ∷ more)) (t ∷ more)
      (let taken = pair_takes k.starts of m.leaves c ds g d.2 l t more (two_first c ds t more n) in omega arith))
      (λ n. enters k of m i h d.1 l t more
      (elim (has_append (entry_codes i (entries k i) g) (entry_codes i (entries k i) h) (code_of t) e) [
        | inl a ↦ plains_of k m.plain_starts i h (code_of t) (rw (pair_first k.starts c ds (code_of t) g d.2 (starts_of k m.plain_starts i g (code_of t) a)) at d.4)
        | inr b ↦ b
      ]))
  enters k of m i (many {A = A} g) d l t more e =
      let f : A × List Lexeme → Outcome (List A) = λ x. each_from (first_codes k.starts g) (reads_by k.starts of g l) (length more) x.1 >>= λ y. read (x.0 ∷ y.0) y.1 in
      if_into i (has (first_codes k.starts g) (code_of t)) (reads_by k.starts of g l (t ∷ more) >>= f) (read [] (t ∷ more)) (t ∷ more)
      (λ n. bind_into i (reads_by k.starts of g l (t ∷ more)) f (t ∷ more) (enters k of m i g d.0 l t more e)
      (λ x. rw (kept {B = List A} (λ y. x.0 ∷ y) (each_from (first_codes k.starts g) (reads_by k.starts of g l) (length more) x.1)) (each_shrinks (first_codes k.starts g) (reads_by k.starts of g l) (λ w. shrinks k.starts of m.leaves g l w) (length more) x.1)))
      (λ n. never (has (first_codes k.starts g) (code_of t)) (starts_of k m.plain_starts i g (code_of t) e) n)
  enters k of m i (made f g) d l t more e = bind_into i (reads_by k.starts of g l (t ∷ more)) (λ x. read (f x.0) x.1) (t ∷ more) (enters k of m i g d l t more e) (λ y. le_refl (length y.1))
  enters k of m i (placed {A = A} g) d l t more e = bind_into {B = Place × A} i (reads_by k.starts of g l (t ∷ more)) (λ x. read (t.place, x.0) x.1) (t ∷ more) (enters k of m i g d.0 l t more e) (λ y. le_refl (length y.1))
  enters k of m i (nested o g) d l t more e =
      let p = has_when i (entry_codes i (entries k i) g) (code_of t) e in
      inside_into i (has (first_codes k.starts g) (code_of t)) (left_inside o l) (λ inner. reads_by k.starts of g inner (t ∷ more)) (t ∷ more)
      (λ inner. enters k of m i g d.0 inner t more p.1) p.0 (starts_of k m.plain_starts i g (code_of t) p.1)
  enters k of m i end_name d l t more e =
      let p = has_when i identifiers (code_of t) e in
      if_into i (has identifiers (code_of t)) (if suits (end_name_in l) t then read t more else stuck Misnamed (t ∷ more)) (stuck Misplaced (t ∷ more)) (t ∷ more)
      (λ h. if_into i (suits (end_name_in l) t) (read t more) (stuck Misnamed (t ∷ more)) (t ∷ more) (λ s. omega arith) (λ s. met i p.0 (t ∷ more)))
      (λ h. never (has identifiers (code_of t)) p.1 h)
    where
      met : (i : Bool) → i ≡ true → (w : List Lexeme) → length w < length w + slack i Misnamed
      met true e w = omega arith
      met false e w = cc
  enters k of m i (under {A = A} {B = B} called g h) d l t more e =
      let f : A × List Lexeme → Outcome (A × B) = λ x. reads_by k.starts of h (renamed (called x.0) l) x.1 >>= λ y. read (x.0, y.0) y.1 in
      elim (has_append (entry_codes i (entries k i) g) (when (may_be_empty g) (entry_codes i (entries k i) h)) (code_of t) e) [
        | inl here ↦ bind_into i (reads_by k.starts of g l (t ∷ more)) f (t ∷ more) (enters k of m i g d.0 l t more here) (under_shrinks {C = A × B} k.starts of m.leaves called h l (λ a b. (a, b)))
        | inr later ↦
            let p = has_when (may_be_empty g) (entry_codes i (entries k i) h) (code_of t) later in
            let s = skips k of g d.0 p.0 l (t ∷ more) (next_in_apart (later_codes k.starts k.laters g) (first_codes k.starts h) (t ∷ more) d.2 (starts_of k m.plain_starts i h (code_of t) p.1)) in
            subst (λ o. Into i (o >>= f) (t ∷ more)) (sym s.1)
            (bind_into i (reads_by k.starts of h (renamed (called s.0) l) (t ∷ more)) (λ y. read (s.0, y.0) y.1) (t ∷ more) (enters k of m i h d.1 (renamed (called s.0) l) t more p.1) (λ y. le_refl (length y.1)))
      ]
  enters k of m i (unless {A = A} {B = B} test g h) d l t more e =
      elim (has_append (entry_codes i (entries k i) g) (when (may_be_empty g) (entry_codes i (entries k i) h)) (code_of t) e) [
        | inl here ↦ bind_into i (reads_by k.starts of g l (t ∷ more)) (unless_rest k.starts of test h l (t ∷ more)) (t ∷ more) (enters k of m i g d.0 l t more here) (unless_shrinks k.starts of m.leaves test h l (t ∷ more))
        | inr later ↦ never (may_be_empty g) (has_when (may_be_empty g) (entry_codes i (entries k i) h) (code_of t) later).0 d.2
      ]
  enters k of m i (symbol x) d l t more e = m.takes i x l t more e
