-- What is spelled is read, whatever follows it, and what is begun is taken.
use Rattle.std.proofs.Common.{◌≡◌, ◌==◌, not, ℕ, zero, suc, ◌≤◌, Bool, true, false, List, [], ◌∷◌, ◌++◌, ◌⊎◌, inl, inr, Option, Some, None, length, refl, sym, ap, subst, ◌∙◌, if◌then◌else◌, le_refl, arith, append_assoc, eqb-true, eq-eqb, length-append}
use Rattle.mo_grammar.specs.declared.fault.Fault.TheVariants.{Misplaced, Misnamed}
use Rattle.mo_syntax.specs.declared.place.Place.{Place}
use Rattle.mo_grammar.specs.Lexeme.{Lexeme, code_of}
use Rattle.mo_grammar.specs.Grammar.{Limits, EndName, end_name_in, suits, renamed, Grammar, empty, token, seq, either, either2, many, made, placed, nested, end_name, under, unless, symbol, has, identifiers, first_passes, Productions, SpelledBy, SpelledEach, SpelledOr, SpelledIn, BegunIn}
use Rattle.mo_grammar.specs.Reading.{Outcome, read, stuck, ◌>>=◌, Reader, may_be_empty, when, first_codes, later_codes, second_codes, next_in, next_two, reads_token, reads_end, each_from, reads_inside, reads_by, place_of_first, Tables, is_pair, is_only, covers, apart}
use Rattle.mo_grammar.proofs.Codes.{both, never, told, not_true, and_true, has_one, next_in_left, next_in_right, next_in_when, next_in_apart, apart_lem, covers_lem, choose_true, or_left, or_right}
use Rattle.mo_grammar.proofs.Decided.{Decided}
use Rattle.mo_grammar.proofs.Begun.{nothing_spelled, spelled_begun, first_sound, second_sound}
use Rattle.mo_grammar.proofs.Outcomes.{remaining, shrinks, kept, each_shrinks, Into, less_is_into, bind_into, if_into, unless_rest, unless_shrinks}
use Rattle.mo_grammar.proofs.Entering.{Enters, enters, only_reads, pair_takes, no_item, two_first}
use Rattle.mo_grammar.proofs.Checked.{Checked, known, seconds_known}

-- the value is read and the rest is left, or the rest goes on with a token that may make it longer
abbrev pub Reached : {A : Type 0} → List ℕ → A → List Lexeme → Outcome A → Type 0
Reached later a rest o = (o ≡ read a rest) ⊎ ((next_in later rest ≡ true) × Into true o rest)

reached_keep : {A B : Type 0} (later later' : List ℕ) (f : A → B) (a : A) (rest : List Lexeme) (o : Outcome A) → ((w : List Lexeme) → next_in later w ≡ true → next_in later' w ≡ true) → Reached later a rest o → Reached later' (f a) rest (o >>= λ x. read (f x.0) x.1)
reached_keep later later' f a rest o up (inl e) = inl (ap (λ p. p >>= λ x. read (f x.0) x.1) e)
reached_keep later later' f a rest o up (inr e) = inr (up rest e.0, bind_into true o (λ x. read (f x.0) x.1) rest e.1 (λ x. le_refl (length x.1)))

reached_wider : {A : Type 0} (later later' : List ℕ) (a : A) (rest : List Lexeme) (o : Outcome A) → ((w : List Lexeme) → next_in later w ≡ true → next_in later' w ≡ true) → Reached later a rest o → Reached later' a rest o
reached_wider later later' a rest o up (inl e) = inl e
reached_wider later later' a rest o up (inr e) = inr (up rest e.0, e.1)

-- the rest cannot make it longer
pub reached_sure : {A : Type 0} (later : List ℕ) (a : A) (rest : List Lexeme) (o : Outcome A) → next_in later rest ≡ false → Reached later a rest o → o ≡ read a rest
reached_sure later a rest o n (inl e) = e
reached_sure later a rest o n (inr e) = never (next_in later rest) e.0 n

into_next : {A : Type 0} (codes later : List ℕ) (a : A) (o : Outcome A) (rest : List Lexeme) → next_in codes rest ≡ true → ((w : List Lexeme) → next_in codes w ≡ true → next_in later w ≡ true) → ((t : Lexeme) (more : List Lexeme) → rest ≡ t ∷ more → has codes (code_of t) ≡ true → Into true o rest) → Reached later a rest o
into_next codes later a o [] e up k = cc
into_next codes later a o (t ∷ more) e up k = inr (up (t ∷ more) e, k t more refl e)

pub two_next : (c : ℕ) (ds : List ℕ) (t u : Lexeme) (more : List Lexeme) → c ≡ code_of t → has ds (code_of u) ≡ true → next_two c ds (t ∷ u ∷ more) ≡ true
two_next c ds t u more e h = and_true (c == code_of t) (has ds (code_of u)) (eq-eqb c (code_of t) e) h

module _ {S : Type 0} {V : S → Type 0} where
  -- one token of that code
  pub only_spelled : {A : Type 0} (k : Tables S) (rule : Productions S V) (n : ℕ) (c : ℕ) (g : Grammar S V A) → is_only c g ≡ true → (l : Limits) (w : List Lexeme) (a : A) → SpelledBy (SpelledIn rule n) g l w a → (t : Lexeme) × (w ≡ t ∷ []) × (c ≡ code_of t)
  only_spelled k rule n c (token codes) e l w a s = (a, s.0, has_one c (code_of a) (covers_lem (c ∷ []) codes (code_of a) (both (has codes c) (covers (c ∷ []) codes) e).1 s.1))
  only_spelled k rule n c (made f g) e l w a s = only_spelled k rule n c g e l w s.0 s.1
  only_spelled k rule n c (placed g) e l w a s = only_spelled k rule n c g e l w a.1 s.4
  only_spelled k rule n c (empty b) e l w a s = cc
  only_spelled k rule n c (seq g h) e l w a s = cc
  only_spelled k rule n c (either g h) e l w a s = cc
  only_spelled k rule n c (either2 d ds g h) e l w a s = cc
  only_spelled k rule n c (many g) e l w a s = cc
  only_spelled k rule n c (nested o g) e l w a s = cc
  only_spelled k rule n c end_name e l w a s = cc
  only_spelled k rule n c (under called g h) e l w a s = cc
  only_spelled k rule n c (unless test g h) e l w a s = cc
  only_spelled k rule n c (symbol x) e l w a s = cc

  -- what is spelled and cannot be empty begins with one of its first codes
  pub some_first : {A : Type 0} (k : Tables S) (rule : Productions S V) → Checked S V k rule → (n : ℕ) (g : Grammar S V A) → may_be_empty g ≡ false → (l : Limits) (w : List Lexeme) (a : A) → SpelledBy (SpelledIn rule n) g l w a → (t : Lexeme) × (more : List Lexeme) × (w ≡ t ∷ more) × (has (first_codes k.starts g) (code_of t) ≡ true)
  some_first k rule ok n g e l [] a s = never (may_be_empty g) (nothing_spelled (SpelledIn rule n) (λ x l a s. (known k rule ok n).some_token x l a s) g l [] a s refl) e
  some_first k rule ok n g e l (t ∷ more) a s = (t, more, refl, first_sound k.starts (SpelledIn rule n) (BegunIn rule n) (known k rule ok n) g l (t ∷ more) (spelled_begun k.starts (SpelledIn rule n) (BegunIn rule n) (known k rule ok n) g l (t ∷ more) a s) t more refl)

  pair_spelled : {A : Type 0} (k : Tables S) (rule : Productions S V) → Checked S V k rule → (n : ℕ) (c : ℕ) (ds : List ℕ) (g : Grammar S V A) → is_pair k.starts c ds g ≡ true → (l : Limits) (w : List Lexeme) (a : A) → SpelledBy (SpelledIn rule n) g l w a → (t u : Lexeme) × (more : List Lexeme) × (w ≡ t ∷ u ∷ more) × (c ≡ code_of t) × (has ds (code_of u) ≡ true)
  pair_spelled k rule ok n c ds (seq g h) e l w a s =
      let p = both (is_only c g) _ e in
      let q = both (not (may_be_empty h)) _ p.1 in
      let one = only_spelled k rule n c g p.0 l s.0 a.0 s.3 in
      let two = some_first k rule ok n h (not_true (may_be_empty h) q.0) l s.1 a.1 s.4 in
      (one.0, two.0, two.1, s.2 ∙ ap (λ v. v ++ s.1) one.1 ∙ ap (λ v. one.0 ∷ v) two.2, one.2, covers_lem ds (first_codes k.starts h) (code_of two.0) (both (covers ds (first_codes k.starts h)) _ q.1).0 two.3)
  pair_spelled k rule ok n c ds (made f g) e l w a s = pair_spelled k rule ok n c ds g e l w s.0 s.1
  pair_spelled k rule ok n c ds (placed g) e l w a s = pair_spelled k rule ok n c ds g e l w a.1 s.4
  pair_spelled k rule ok n c ds (token codes) e l w a s = cc
  pair_spelled k rule ok n c ds (empty b) e l w a s = cc
  pair_spelled k rule ok n c ds (either g h) e l w a s = cc
  pair_spelled k rule ok n c ds (either2 d es g h) e l w a s = cc
  pair_spelled k rule ok n c ds (many g) e l w a s = cc
  pair_spelled k rule ok n c ds (nested o g) e l w a s = cc
  pair_spelled k rule ok n c ds end_name e l w a s = cc
  pair_spelled k rule ok n c ds (under called g h) e l w a s = cc
  pair_spelled k rule ok n c ds (unless test g h) e l w a s = cc
  pair_spelled k rule ok n c ds (symbol x) e l w a s = cc

  -- the second token of a pair is taken, or it is past the limits
  pub pair_enters : {A : Type 0} (k : Tables S) (of : Reader S V) → Enters S V k of → (c : ℕ) (ds : List ℕ) (g : Grammar S V A) → Decided k g → is_pair k.starts c ds g ≡ true → (l : Limits) (t u : Lexeme) (more : List Lexeme) → c ≡ code_of t → has ds (code_of u) ≡ true → Into true (reads_by k.starts of g l (t ∷ u ∷ more)) (u ∷ more)
  pair_enters k of m c ds (seq {A = A} {B = B} g h) d e l t u more i j =
      let p = both (is_only c g) _ e in
      let q = both (not (may_be_empty h)) _ p.1 in
      let r = only_reads k.starts of c g p.0 l t (u ∷ more) i in
      subst (λ o. Into true (o >>= λ x. reads_by k.starts of h l x.1 >>= λ y. let both : Outcome (A × B) = read (x.0, y.0) y.1 in both) (u ∷ more)) (sym r.1)
      (bind_into {B = A × B} true (reads_by k.starts of h l (u ∷ more)) (λ y. read (r.0, y.0) y.1) (u ∷ more)
      (enters k of m true h d.1 l u more (covers_lem (first_codes k.starts h) ds (code_of u) (both (covers ds (first_codes k.starts h)) _ q.1).1 j)) (λ y. le_refl (length y.1)))
  pair_enters {A = A} k of m c ds (made f g) d e l t u more i j = bind_into {B = A} true (reads_by k.starts of g l (t ∷ u ∷ more)) (λ y. read (f y.0) y.1) (u ∷ more) (pair_enters k of m c ds g d e l t u more i j) (λ y. le_refl (length y.1))
  pair_enters k of m c ds (placed {A = A} g) d e l t u more i j = bind_into {B = Place × A} true (reads_by k.starts of g l (t ∷ u ∷ more)) (λ y. read (t.place, y.0) y.1) (u ∷ more) (pair_enters k of m c ds g d.0 e l t u more i j) (λ y. le_refl (length y.1))
  pair_enters k of m c ds (token codes) d e l t u more i j = cc
  pair_enters k of m c ds (empty a) d e l t u more i j = cc
  pair_enters k of m c ds (either g h) d e l t u more i j = cc
  pair_enters k of m c ds (either2 c' es g h) d e l t u more i j = cc
  pair_enters k of m c ds (many g) d e l t u more i j = cc
  pair_enters k of m c ds (nested o g) d e l t u more i j = cc
  pair_enters k of m c ds end_name d e l t u more i j = cc
  pair_enters k of m c ds (under called g h) d e l t u more i j = cc
  pair_enters k of m c ds (unless test g h) d e l t u more i j = cc
  pair_enters k of m c ds (symbol x) d e l t u more i j = cc

-- ---- one reading after another

-- What is spelled by the one and then by the other is read so: where the other is no token, what follows may make the one
-- longer.
step_reached : {A B C : Type 0} (later_g firsts later_h later : List ℕ) (one : List Lexeme → Outcome A) (other : A → List Lexeme → Outcome B) (join : A → B → C) (front rest' rest : List Lexeme) (a : A) (b : B)
    → ((v : List Lexeme) → Reached later_g a v (one (front ++ v))) → apart later_g firsts ≡ true → ((t : Lexeme) (v : List Lexeme) → rest' ≡ t ∷ v → has firsts (code_of t) ≡ true)
    → Reached later_h b rest (other a (rest' ++ rest)) → ((w : List Lexeme) → next_in later_h w ≡ true → next_in later w ≡ true) → (rest' ≡ [] → (w : List Lexeme) → next_in later_g w ≡ true → next_in later w ≡ true) → ((x : A) (w : List Lexeme) → remaining (other x w) ≤ length w)
    → Reached later (join a b) rest (one (front ++ (rest' ++ rest)) >>= λ x. other x.0 x.1 >>= λ y. read (join x.0 y.0) y.1)
step_reached {A = A} {B = B} {C = C} later_g firsts later_h later one other join front rest' rest a b g sep first h up_h up_g shrink = go rest' refl (g (rest' ++ rest))
  where
    next : A × List Lexeme → Outcome C
    next x = other x.0 x.1 >>= λ y. read (join x.0 y.0) y.1

    after : (o : Outcome A) → o ≡ read a (rest' ++ rest) → Reached later (join a b) rest (o >>= next)
    after o e = subst (λ p. Reached later (join a b) rest (p >>= next)) (sym e) (reached_keep later_h later (join a) b rest (other a (rest' ++ rest)) up_h h)

    go : (v : List Lexeme) → rest' ≡ v → Reached later_g a (rest' ++ rest) (one (front ++ (rest' ++ rest))) → Reached later (join a b) rest (one (front ++ (rest' ++ rest)) >>= next)
    go [] e (inl r) = after (one (front ++ (rest' ++ rest))) r
    go [] e (inr r) =
        let same : rest' ++ rest ≡ rest = ap (λ v. v ++ rest) e in
        let into = bind_into true (one (front ++ (rest' ++ rest))) next (rest' ++ rest) r.1 (λ x. rw (kept (join x.0) (other x.0 x.1)) (shrink x.0 x.1)) in
        inr (up_g e rest (subst (λ v. next_in later_g v ≡ true) same r.0), subst (λ v. Into true (one (front ++ (rest' ++ rest)) >>= next) v) same into)
    go (t ∷ v) e r = after (one (front ++ (rest' ++ rest))) (reached_sure later_g a (rest' ++ rest) (one (front ++ (rest' ++ rest))) (next_in_apart later_g firsts (rest' ++ rest) sep (subst (λ u. next_in firsts (u ++ rest) ≡ true) (sym e) (first t v e))) r)

empty_reached : {A : Type 0} (b a : A) (w rest : List Lexeme) → w ≡ [] → b ≡ a → Reached [] a rest (read b (w ++ rest))
empty_reached b a w rest e d = rw (e, d) (inl refl)

choice_reached : {A : Type 0} (later : List ℕ) (a : A) (rest : List Lexeme) (b : Bool) (o o' : Outcome A) → (b ≡ true → Reached later a rest o) → (b ≡ false → Reached later a rest o') → Reached later a rest (if b then o else o')
choice_reached later a rest true o o' h k = h refl
choice_reached later a rest false o o' h k = k refl

end_reads : (name : EndName) (t : Lexeme) (rest : List Lexeme) → has identifiers (code_of t) ≡ true → suits name t ≡ true → reads_end name (t ∷ rest) ≡ read t rest
end_reads name t rest e d =
    choose_true (has identifiers (code_of t)) (if suits name t then read t rest else stuck Misnamed (t ∷ rest)) (stuck Misplaced (t ∷ rest)) e
    ∙ choose_true (suits name t) (read t rest) (stuck Misnamed (t ∷ rest)) d

module _ {S : Type 0} {V : S → Type 0} where
  -- what the one takes where the other was to be empty
  either_into : {A : Type 0} (k : Tables S) (rule : Productions S V) → Checked S V k rule → (n : ℕ) (of : Reader S V) → Enters S V k of → (g h : Grammar S V A) → Decided k (either g h) → (l : Limits) (w : List Lexeme) (a : A) → SpelledBy (SpelledIn rule n) h l w a → (rest : List Lexeme) → next_in (first_codes k.starts g) (w ++ rest) ≡ true → Reached (later_codes k.starts k.laters g ++ (later_codes k.starts k.laters h ++ when (may_be_empty h) (first_codes k.starts g))) a rest (reads_by k.starts of g l (w ++ rest))
  either_into k rule ok n of m g h d l [] a s rest e =
      let G = later_codes k.starts k.laters g in
      let H = later_codes k.starts k.laters h in
      let W = when (may_be_empty h) (first_codes k.starts g) in
      into_next (first_codes k.starts g) (G ++ (H ++ W)) a (reads_by k.starts of g l rest) rest e
      (λ w i. next_in_right G (H ++ W) w (next_in_right H W w (next_in_when (may_be_empty h) (first_codes k.starts g) w (nothing_spelled (SpelledIn rule n) (λ x l a s. (known k rule ok n).some_token x l a s) h l [] a s refl) i)))
      (λ t more same i. subst (λ v. Into true (reads_by k.starts of g l v) v) (sym same) (enters k of m true g d.0 l t more i))
  either_into k rule ok n of m g h d l (t ∷ v) a s rest e =
      absurd (apart_lem (first_codes k.starts g) (first_codes k.starts h) (code_of t) d.3 e
      (first_sound k.starts (SpelledIn rule n) (BegunIn rule n) (known k rule ok n) h l (t ∷ v) (spelled_begun k.starts (SpelledIn rule n) (BegunIn rule n) (known k rule ok n) h l (t ∷ v) a s) t v refl))

  pair_into : {A : Type 0} (k : Tables S) (rule : Productions S V) → Checked S V k rule → (n : ℕ) (of : Reader S V) → Enters S V k of → (c : ℕ) (ds : List ℕ) (g h : Grammar S V A) → Decided k (either2 c ds g h) → (l : Limits) (w : List Lexeme) (a : A) → SpelledBy (SpelledIn rule n) h l w a → (rest : List Lexeme) → next_two c ds (w ++ rest) ≡ true → Reached (later_codes k.starts k.laters g ++ (later_codes k.starts k.laters h ++ (c ∷ ds))) a rest (reads_by k.starts of g l (w ++ rest))
  pair_into k rule ok n of m c ds g h d l [] a s [] e = cc
  pair_into k rule ok n of m c ds g h d l [] a s (t ∷ rest) e =
      let G = later_codes k.starts k.laters g in
      let H = later_codes k.starts k.laters h in
      let same = two_first c ds t rest e in
      inr (
        next_in_right G (H ++ (c ∷ ds)) (t ∷ rest) (next_in_right H (c ∷ ds) (t ∷ rest) (or_left (c == code_of t) (has ds (code_of t)) (eq-eqb c (code_of t) same))),
        less_is_into true (reads_by k.starts of g l (t ∷ rest)) (t ∷ rest) (let taken = pair_takes k.starts of m.leaves c ds g d.2 l t rest same in omega arith),
      )
  pair_into k rule ok n of m c ds g h d l (t ∷ []) a s [] e = cc
  pair_into k rule ok n of m c ds g h d l (t ∷ []) a s (u ∷ rest) e =
      let G = later_codes k.starts k.laters g in
      let H = later_codes k.starts k.laters h in
      let parts = both (c == code_of t) (has ds (code_of u)) e in
      inr (
        next_in_right G (H ++ (c ∷ ds)) (u ∷ rest) (next_in_right H (c ∷ ds) (u ∷ rest) (or_right (c == code_of u) (has ds (code_of u)) parts.1)),
        pair_enters k of m c ds g d.0 d.2 l t u rest (eqb-true c (code_of t) parts.0) parts.1,
      )
  pair_into k rule ok n of m c ds g h d l (t ∷ u ∷ v) a s rest e =
      let parts = both (c == code_of t) (has ds (code_of u)) e in
      absurd (apart_lem ds (second_codes k.starts (k.seconds c) c h) (code_of u) d.5 parts.1
      (second_sound k.starts (k.seconds c) c (SpelledIn rule n) (BegunIn rule n) (known k rule ok n) (λ x l t u more s i. seconds_known k rule ok c d.3 n x l t u more s i) h l (t ∷ u ∷ v)
      (spelled_begun k.starts (SpelledIn rule n) (BegunIn rule n) (known k rule ok n) h l (t ∷ u ∷ v) a s) t u v refl (sym (eqb-true c (code_of t) parts.0))))

  -- items for as long as one begins
  each_enters : {A : Type 0} (k : Tables S) (of : Reader S V) → Enters S V k of → (g : Grammar S V A) → Decided k g → (l : Limits) (f : ℕ) (t : Lexeme) (more : List Lexeme) → length (t ∷ more) ≤ f → has (first_codes k.starts g) (code_of t) ≡ true → Into true (each_from (first_codes k.starts g) (reads_by k.starts of g l) f (t ∷ more)) (t ∷ more)
  each_enters k of m g d l zero t more e h = absurd (omega arith)
  each_enters {A = A} k of m g d l (suc f) t more e h =
      let next : A × List Lexeme → Outcome (List A) = λ x. each_from (first_codes k.starts g) (reads_by k.starts of g l) f x.1 >>= λ y. read (x.0 ∷ y.0) y.1 in
      if_into true (has (first_codes k.starts g) (code_of t)) (reads_by k.starts of g l (t ∷ more) >>= next) (read [] (t ∷ more)) (t ∷ more)
      (λ n. bind_into true (reads_by k.starts of g l (t ∷ more)) next (t ∷ more) (enters k of m true g d l t more h)
      (λ x. rw (kept {B = List A} (λ y. x.0 ∷ y) (each_from (first_codes k.starts g) (reads_by k.starts of g l) f x.1)) (each_shrinks (first_codes k.starts g) (reads_by k.starts of g l) (λ w. shrinks k.starts of m.leaves g l w) f x.1)))
      (λ n. never (has (first_codes k.starts g) (code_of t)) h n)

  each_reached : {A : Type 0} (k : Tables S) (rule : Productions S V) → Checked S V k rule → (n : ℕ) (of : Reader S V) → Enters S V k of → (g : Grammar S V A) → Decided k (many g) → (l : Limits)
      → ((w : List Lexeme) (a : A) → SpelledBy (SpelledIn rule n) g l w a → (v : List Lexeme) → Reached (later_codes k.starts k.laters g) a v (reads_by k.starts of g l (w ++ v)))
      → (list : List A) (w : List Lexeme) → SpelledEach (SpelledBy (SpelledIn rule n) g l) w list → (rest : List Lexeme) (f : ℕ) → length (w ++ rest) ≤ f → Reached (first_codes k.starts g ++ later_codes k.starts k.laters g) list rest (each_from (first_codes k.starts g) (reads_by k.starts of g l) f (w ++ rest))
  each_reached {A = A} k rule ok n of m g d l gr [] w s rest f len =
      let F = first_codes k.starts g in
      let P : List Lexeme → Type 0 = λ v. length (v ++ rest) ≤ f → Reached {A = List A} (F ++ later_codes k.starts k.laters g) [] rest (each_from F (reads_by k.starts of g l) f (v ++ rest)) in
      subst P (sym s)
      (λ len. elim (told (next_in F rest)) [
        | inl e ↦ into_next {A = List A} F (F ++ later_codes k.starts k.laters g) [] (each_from F (reads_by k.starts of g l) f rest) rest e (λ w. next_in_left F (later_codes k.starts k.laters g) w)
            (λ t more same h. let Q : List Lexeme → Type 0 = λ v. length v ≤ f → Into true (each_from F (reads_by k.starts of g l) f v) v in subst Q (sym same) (λ len. each_enters k of m g d.0 l f t more len h) len)
        | inr e ↦ inl (no_item F (reads_by k.starts of g l) f rest e)
      ]) len
  each_reached k rule ok n of m g d l gr (a ∷ list) w s rest zero len =
      let first = some_first k rule ok n g d.1 l s.0 a s.3 in
      let e : length (w ++ rest) ≡ length ((first.0 ∷ first.1) ++ (s.1 ++ rest)) = ap length (ap (λ v. v ++ rest) (s.2 ∙ ap (λ v. v ++ s.1) first.2) ∙ append_assoc (first.0 ∷ first.1) s.1 rest) in
      absurd (omega arith)
  each_reached {A = A} k rule ok n of m g d l gr (a ∷ list) w s rest (suc f) len =
      let F = first_codes k.starts g in
      let L = later_codes k.starts k.laters g in
      let R = reads_by k.starts of g l in
      let first = some_first k rule ok n g d.1 l s.0 a s.3 in
      let at : w ++ rest ≡ s.0 ++ (s.1 ++ rest) = ap (λ v. v ++ rest) s.2 ∙ append_assoc s.0 s.1 rest in
      let shape : w ++ rest ≡ (first.0 ∷ first.1) ++ (s.1 ++ rest) = at ∙ ap (λ v. v ++ (s.1 ++ rest)) first.2 in
      let shorter : length (s.1 ++ rest) ≤ f = let e : length (w ++ rest) ≡ suc (length (first.1 ++ (s.1 ++ rest))) = ap length shape in omega (arith, length-append first.1 (s.1 ++ rest)) in
      let taken : next_in F (w ++ rest) ≡ true = ap (next_in F) shape ∙ first.3 in
      let next : A × List Lexeme → Outcome (List A) = λ x. each_from F R f x.1 >>= λ y. read (x.0 ∷ y.0) y.1 in
      subst (Reached {A = List A} (F ++ L) (a ∷ list) rest) (sym (choose_true {A = Outcome (List A)} (next_in F (w ++ rest)) (R (w ++ rest) >>= next) (read [] (w ++ rest)) taken))
      (subst (λ v. Reached {A = List A} (F ++ L) (a ∷ list) rest (R v >>= next)) (sym at)
      (step_reached {C = List A} L F (F ++ L) (F ++ L) R (λ x. each_from F R f) (λ x y. x ∷ y) s.0 s.1 rest a list (gr s.0 a s.3) d.2
      (λ t v e. first_sound k.starts (SpelledIn rule n) (BegunIn rule n) (known k rule ok n) (many g) l s.1 (spelled_begun k.starts (SpelledIn rule n) (BegunIn rule n) (known k rule ok n) (many g) l s.1 list s.4) t v e)
      (each_reached k rule ok n of m g d l gr list s.1 s.4 rest f shorter) (λ w e. e) (λ none w e. next_in_right F L w e)
      (λ x w. each_shrinks F R (λ w. shrinks k.starts of m.leaves g l w) f w)))

  unless_reached : {A B : Type 0} (k : Tables S) (rule : Productions S V) → Checked S V k rule → (n : ℕ) (of : Reader S V) → Enters S V k of → (test : Lexeme → A → Bool) (g : Grammar S V A) (h : Grammar S V B) → Decided k (unless test g h) → (l : Limits) (front rest' rest : List Lexeme) (a : A) (b : Option B) → SpelledOr (SpelledBy (SpelledIn rule n) h l) (first_passes test front a) rest' b → (t : Lexeme) (more : List Lexeme) → front ≡ t ∷ more
      → ((v : List Lexeme) → Reached (later_codes k.starts k.laters g) a v (reads_by k.starts of g l (front ++ v))) → ((b : B) → SpelledBy (SpelledIn rule n) h l rest' b → Reached (later_codes k.starts k.laters h) b rest (reads_by k.starts of h l (rest' ++ rest)))
      → Reached {A = A × Option B} (later_codes k.starts k.laters g ++ (later_codes k.starts k.laters h ++ first_codes k.starts h)) (a, b) rest (reads_by k.starts of g l (front ++ (rest' ++ rest)) >>= unless_rest k.starts of test h l (front ++ (rest' ++ rest)))
  unless_reached {A = A} {B = B} k rule ok n of m test g h d l front rest' rest a (Some b) s t more shape gr hr =
      let G = later_codes k.starts k.laters g in
      let H = later_codes k.starts k.laters h in
      let F = first_codes k.starts h in
      let first = some_first k rule ok n h d.3 l rest' b s in
      let next : next_in F (rest' ++ rest) ≡ true = ap (λ v. next_in F (v ++ rest)) first.2 ∙ first.3 in
      let sure : reads_by k.starts of g l (front ++ (rest' ++ rest)) ≡ read a (rest' ++ rest) = reached_sure G a (rest' ++ rest) (reads_by k.starts of g l (front ++ (rest' ++ rest))) (next_in_apart G F (rest' ++ rest) d.4 next) (gr (rest' ++ rest)) in
      let alone : Outcome (A × Option B) = (if first_passes test (front ++ (rest' ++ rest)) a then read (a, None) (rest' ++ rest) else stuck Misplaced (rest' ++ rest)) in
      subst (λ o. Reached {A = A × Option B} (G ++ (H ++ F)) (a, Some b) rest (o >>= unless_rest k.starts of test h l (front ++ (rest' ++ rest)))) (sym sure)
      (subst (Reached {A = A × Option B} (G ++ (H ++ F)) (a, Some b) rest) (sym (choose_true (next_in F (rest' ++ rest)) (reads_by k.starts of h l (rest' ++ rest) >>= λ y. read (a, Some y.0) y.1) alone next))
      (reached_keep {B = A × Option B} H (G ++ (H ++ F)) (λ y. (a, Some y)) b rest (reads_by k.starts of h l (rest' ++ rest)) (λ w e. next_in_right G (H ++ F) w (next_in_left H F w e)) (hr b s)))
  unless_reached {A = A} {B = B} k rule ok n of m test g h d l front rest' rest a None s t more shape gr hr =
      let G = later_codes k.starts k.laters g in
      let H = later_codes k.starts k.laters h in
      let F = first_codes k.starts h in
      let P : List Lexeme → Type 0 = λ v. Reached {A = A × Option B} (G ++ (H ++ F)) (a, None) rest (reads_by k.starts of g l (front ++ v) >>= unless_rest k.starts of test h l (front ++ v)) in
      subst P (sym (ap (λ v. v ++ rest) s.0))
      (elim (gr rest) [
        | inl sure ↦
            subst (λ o. Reached {A = A × Option B} (G ++ (H ++ F)) (a, None) rest (o >>= unless_rest k.starts of test h l (front ++ rest))) (sym sure)
            (let alone : Outcome (A × Option B) = (if first_passes test (front ++ rest) a then read (a, None) rest else stuck Misplaced rest) in
            choice_reached (G ++ (H ++ F)) (a, None) rest (next_in F rest) (reads_by k.starts of h l rest >>= λ y. read (a, Some y.0) y.1) alone
            (λ e. into_next F (G ++ (H ++ F)) (a, None) (reads_by k.starts of h l rest >>= λ y. read (a, Some y.0) y.1) rest e (λ w i. next_in_right G (H ++ F) w (next_in_right H F w i))
            (λ u v same i. bind_into {B = A × Option B} true (reads_by k.starts of h l rest) (λ y. read (a, Some y.0) y.1) rest (subst (λ v. Into true (reads_by k.starts of h l v) v) (sym same) (enters k of m true h d.1 l u v i)) (λ y. le_refl (length y.1))))
            (λ e. inl (choose_true {A = Outcome (A × Option B)} (first_passes test (front ++ rest) a) (read (a, None) rest) (stuck Misplaced rest)
            (ap (λ v. first_passes test (v ++ rest) a) shape ∙ ap (λ v. first_passes test v a) (sym shape) ∙ s.1))))
        | inr later ↦ inr (next_in_left G (H ++ F) rest later.0, bind_into {B = A × Option B} true (reads_by k.starts of g l (front ++ rest)) (unless_rest k.starts of test h l (front ++ rest)) rest later.1 (unless_shrinks k.starts of m.leaves test h l (front ++ rest)))
      ])

  -- What is spelled is read, or the next token goes on with it.
  pub reached : {A : Type 0} (k : Tables S) (rule : Productions S V) → Checked S V k rule → (n : ℕ) (of : Reader S V) → Enters S V k of → ((x : S) (l : Limits) (w : List Lexeme) (a : V x) → SpelledIn rule n x l w a → (rest : List Lexeme) → Reached (k.laters x) a rest (of x l (w ++ rest)))
      → (g : Grammar S V A) → Decided k g → (l : Limits) (w : List Lexeme) (a : A) → SpelledBy (SpelledIn rule n) g l w a → (rest : List Lexeme) → Reached (later_codes k.starts k.laters g) a rest (reads_by k.starts of g l (w ++ rest))
  reached k rule ok n of m sub (empty b) d l w a s rest = empty_reached b a w rest s.0 s.1
  reached k rule ok n of m sub (token codes) d l w a s rest = inl (ap (λ v. reads_token codes (v ++ rest)) s.0 ∙ choose_true (has codes (code_of a)) (read a rest) (stuck Misplaced (a ∷ rest)) s.1)
  reached k rule ok n of m sub (seq {A = A} {B = B} g h) d l w a s rest =
      let L = later_codes k.starts k.laters h in
      let W = when (may_be_empty h) (later_codes k.starts k.laters g) in
      subst (λ v. Reached {A = A × B} (L ++ W) a rest (reads_by k.starts of (seq g h) l v)) (sym (ap (λ v. v ++ rest) s.2 ∙ append_assoc s.0 s.1 rest))
      (step_reached {C = A × B} (later_codes k.starts k.laters g) (first_codes k.starts h) L (L ++ W) (reads_by k.starts of g l) (λ x. reads_by k.starts of h l) (λ x y. (x, y)) s.0 s.1 rest a.0 a.1
      (reached k rule ok n of m sub g d.0 l s.0 a.0 s.3) d.2
      (λ t v e. first_sound k.starts (SpelledIn rule n) (BegunIn rule n) (known k rule ok n) h l s.1 (spelled_begun k.starts (SpelledIn rule n) (BegunIn rule n) (known k rule ok n) h l s.1 a.1 s.4) t v e)
      (reached k rule ok n of m sub h d.1 l s.1 a.1 s.4 rest) (λ w. next_in_left L W w)
      (λ none w e. next_in_right L W w (next_in_when (may_be_empty h) (later_codes k.starts k.laters g) w (nothing_spelled (SpelledIn rule n) (λ x l a s. (known k rule ok n).some_token x l a s) h l s.1 a.1 s.4 none) e))
      (λ x w. shrinks k.starts of m.leaves h l w))
  reached k rule ok n of m sub (either g h) d l w a (inl s) rest =
      let G = later_codes k.starts k.laters g in
      let W = later_codes k.starts k.laters h ++ when (may_be_empty h) (first_codes k.starts g) in
      let first = some_first k rule ok n g d.2 l w a s in
      subst (Reached (G ++ W) a rest) (sym (choose_true (next_in (first_codes k.starts g) (w ++ rest)) (reads_by k.starts of g l (w ++ rest)) (reads_by k.starts of h l (w ++ rest)) (ap (λ v. next_in (first_codes k.starts g) (v ++ rest)) first.2 ∙ first.3)))
      (reached_wider G (G ++ W) a rest (reads_by k.starts of g l (w ++ rest)) (λ w. next_in_left G W w) (reached k rule ok n of m sub g d.0 l w a s rest))
  reached k rule ok n of m sub (either g h) d l w a (inr s) rest =
      let G = later_codes k.starts k.laters g in
      let H = later_codes k.starts k.laters h in
      let W = when (may_be_empty h) (first_codes k.starts g) in
      choice_reached (G ++ (H ++ W)) a rest (next_in (first_codes k.starts g) (w ++ rest)) (reads_by k.starts of g l (w ++ rest)) (reads_by k.starts of h l (w ++ rest))
      (λ e. either_into k rule ok n of m g h d l w a s rest e)
      (λ e. reached_wider H (G ++ (H ++ W)) a rest (reads_by k.starts of h l (w ++ rest)) (λ w i. next_in_right G (H ++ W) w (next_in_left H W w i)) (reached k rule ok n of m sub h d.1 l w a s rest))
  reached k rule ok n of m sub (either2 c ds g h) d l w a (inl s) rest =
      let G = later_codes k.starts k.laters g in
      let W = later_codes k.starts k.laters h ++ (c ∷ ds) in
      let p = pair_spelled k rule ok n c ds g d.2 l w a s in
      subst (Reached (G ++ W) a rest) (sym (choose_true (next_two c ds (w ++ rest)) (reads_by k.starts of g l (w ++ rest)) (reads_by k.starts of h l (w ++ rest)) (ap (λ v. next_two c ds (v ++ rest)) p.3 ∙ two_next c ds p.0 p.1 (p.2 ++ rest) p.4 p.5)))
      (reached_wider G (G ++ W) a rest (reads_by k.starts of g l (w ++ rest)) (λ w. next_in_left G W w) (reached k rule ok n of m sub g d.0 l w a s rest))
  reached k rule ok n of m sub (either2 c ds g h) d l w a (inr s) rest =
      let G = later_codes k.starts k.laters g in
      let H = later_codes k.starts k.laters h in
      choice_reached (G ++ (H ++ (c ∷ ds))) a rest (next_two c ds (w ++ rest)) (reads_by k.starts of g l (w ++ rest)) (reads_by k.starts of h l (w ++ rest))
      (λ e. pair_into k rule ok n of m c ds g h d l w a s rest e)
      (λ e. reached_wider H (G ++ (H ++ (c ∷ ds))) a rest (reads_by k.starts of h l (w ++ rest)) (λ w i. next_in_right G (H ++ (c ∷ ds)) w (next_in_left H (c ∷ ds) w i)) (reached k rule ok n of m sub h d.1 l w a s rest))
  reached k rule ok n of m sub (many g) d l w a s rest = each_reached k rule ok n of m g d l (λ w a s v. reached k rule ok n of m sub g d.0 l w a s v) a w s rest (length (w ++ rest)) (le_refl (length (w ++ rest)))
  reached k rule ok n of m sub (made {A = A} {B = B} f g) d l w b s rest =
      let L = later_codes k.starts k.laters g in
      subst (λ b. Reached {A = B} L b rest (reads_by k.starts of g l (w ++ rest) >>= λ x. read (f x.0) x.1)) s.2 (reached_keep L L f s.0 rest (reads_by k.starts of g l (w ++ rest)) (λ w e. e) (reached k rule ok n of m sub g d l w s.0 s.1 rest))
  reached k rule ok n of m sub (placed {A = A} g) d l w a s rest =
      let L = later_codes k.starts k.laters g in
      let place : place_of_first (w ++ rest) ≡ a.0 = ap (λ v. place_of_first (v ++ rest)) s.2 ∙ sym s.3 in
      subst (λ p. Reached {A = Place × A} L (p, a.1) rest (reads_by k.starts of g l (w ++ rest) >>= λ x. read (place_of_first (w ++ rest), x.0) x.1)) place
      (reached_keep {B = Place × A} L L (λ x. (place_of_first (w ++ rest), x)) a.1 rest (reads_by k.starts of g l (w ++ rest)) (λ w e. e) (reached k rule ok n of m sub g d.0 l w a.1 s.4 rest))
  reached k rule ok n of m sub (nested {A = A} o g) d l w a s rest =
      subst (λ left. Reached (later_codes k.starts k.laters g) a rest (reads_inside (next_in (first_codes k.starts g) (w ++ rest)) left (λ i. reads_by k.starts of g i (w ++ rest)) (w ++ rest))) (sym s.1) (reached k rule ok n of m sub g d.0 s.0 w a s.2 rest)
  reached k rule ok n of m sub end_name d l w a s rest = inl (ap (λ v. reads_end (end_name_in l) (v ++ rest)) s.0 ∙ end_reads (end_name_in l) a rest s.1 s.2)
  reached k rule ok n of m sub (under {A = A} {B = B} called g h) d l w a s rest =
      let L = later_codes k.starts k.laters h in
      let W = when (may_be_empty h) (later_codes k.starts k.laters g) in
      subst (λ v. Reached {A = A × B} (L ++ W) a rest (reads_by k.starts of (under called g h) l v)) (sym (ap (λ v. v ++ rest) s.2 ∙ append_assoc s.0 s.1 rest))
      (step_reached {C = A × B} (later_codes k.starts k.laters g) (first_codes k.starts h) L (L ++ W) (reads_by k.starts of g l) (λ x. reads_by k.starts of h (renamed (called x) l)) (λ x y. (x, y)) s.0 s.1 rest a.0 a.1
      (reached k rule ok n of m sub g d.0 l s.0 a.0 s.3) d.2
      (λ t v e. first_sound k.starts (SpelledIn rule n) (BegunIn rule n) (known k rule ok n) h (renamed (called a.0) l) s.1 (spelled_begun k.starts (SpelledIn rule n) (BegunIn rule n) (known k rule ok n) h (renamed (called a.0) l) s.1 a.1 s.4) t v e)
      (reached k rule ok n of m sub h d.1 (renamed (called a.0) l) s.1 a.1 s.4 rest) (λ w. next_in_left L W w)
      (λ none w e. next_in_right L W w (next_in_when (may_be_empty h) (later_codes k.starts k.laters g) w (nothing_spelled (SpelledIn rule n) (λ x l a s. (known k rule ok n).some_token x l a s) h (renamed (called a.0) l) s.1 a.1 s.4 none) e))
      (λ x w. shrinks k.starts of m.leaves h (renamed (called x) l) w))
  reached k rule ok n of m sub (unless {A = A} {B = B} test g h) d l w a s rest =
      let first = some_first k rule ok n g d.2 l s.0 a.0 s.3 in
      let at : w ++ rest ≡ s.0 ++ (s.1 ++ rest) = ap (λ v. v ++ rest) s.2 ∙ append_assoc s.0 s.1 rest in
      let G = later_codes k.starts k.laters g in
      let H = later_codes k.starts k.laters h in
      subst (λ v. Reached {A = A × Option B} (G ++ (H ++ first_codes k.starts h)) a rest (reads_by k.starts of g l v >>= unless_rest k.starts of test h l v)) (sym at)
      (unless_reached k rule ok n of m test g h d l s.0 s.1 rest a.0 a.1 s.4 first.0 first.1 first.2
      (λ v. reached k rule ok n of m sub g d.0 l s.0 a.0 s.3 v) (λ b sh. reached k rule ok n of m sub h d.1 l s.1 b sh rest))
  reached k rule ok n of m sub (symbol x) d l w a s rest = sub x l w a s rest
