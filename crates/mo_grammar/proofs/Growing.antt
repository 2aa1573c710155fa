-- Limits that allow more change nothing but where a limit was passed.
use Rattle.std.proofs.Common.{◌≡◌, ℕ, zero, suc, ◌≤◌, Bool, true, false, List, [], ◌∷◌, ◌++◌, ◌⊎◌, inl, inr, Option, Some, None, length, refl, sym, ap, subst, ◌∙◌, if◌then◌else◌, le_refl, le_trans, le_of_eq, arith}
use Rattle.mo_grammar.specs.declared.fault.Fault.{Fault}
use Rattle.mo_grammar.specs.declared.fault.Fault.TheVariants.{Misplaced, Misnamed, TooDeep}
use Rattle.mo_syntax.specs.declared.place.Place.{Place}
use Rattle.mo_grammar.specs.Lexeme.{Lexeme, code_of}
use Rattle.mo_grammar.specs.Grammar.{Opening, a_construct, a_class, Limits, at_most, left_inside, end_name_in, suits, renamed, Grammar, empty, token, seq, either, either2, many, made, placed, nested, end_name, under, unless, symbol, has, identifiers, first_passes, Productions, SpelledBy, SpelledIn, BegunBy, BegunIn}
use Rattle.mo_grammar.specs.Reading.{Outcome, read, stuck, unfinished, ◌>>=◌, may_be_empty, first_codes, next_in, next_two, reads_token, reads_end, each_from, reads_inside, reads_by, reads_within, place_of_first, lifted, Tables}
use Rattle.mo_grammar.proofs.Codes.{never}
use Rattle.mo_grammar.proofs.Decided.{Decided}
use Rattle.mo_grammar.proofs.Begun.{nothing_spelled, spelled_begun, first_sound}
use Rattle.mo_grammar.proofs.Limits.{Below, inside_below, suits_more, renamed_below, renamed_stays}
use Rattle.mo_grammar.proofs.Outcomes.{remaining, Finished, shrinks, bind_shrinks, kept, each_shrinks, inside_shrinks, unless_rest, unless_shrinks}
use Rattle.mo_grammar.proofs.Entering.{rest_shrinks, under_shrinks}
use Rattle.mo_grammar.proofs.Soundness.{Past, Sound, sound}
use Rattle.mo_grammar.proofs.Checked.{Checked, known, in_rises, within_sound, within_enters}

-- what a reading becomes when limits are raised; the names behind `end` stay equal or free if `stay` says so
abbrev pub GrownTo : {A : Type 0} → Bool → Outcome A → Outcome A → Type 0
GrownTo stay (read a rest) o = o ≡ read a rest
GrownTo stay (stuck Misplaced rest) o = o ≡ stuck Misplaced rest
GrownTo stay (stuck Misnamed rest) o = (stay ≡ true → o ≡ stuck Misnamed rest) × (remaining o ≤ length rest)
GrownTo stay (stuck TooDeep rest) o = remaining o ≤ length rest
GrownTo stay unfinished o = o ≡ unfinished

abbrev pub Grown : {A : Type 0} → Bool → Outcome A → Outcome A → Type 0
Grown stay o o' = (o' ≡ unfinished) ⊎ GrownTo stay o o'

grown_same : {A : Type 0} (stay : Bool) (o : Outcome A) → Grown stay o o
grown_same stay (read a rest) = inr refl
grown_same stay (stuck Misplaced rest) = inr refl
grown_same stay (stuck Misnamed rest) = inr (λ e. refl, le_refl (length rest))
grown_same stay (stuck TooDeep rest) = inr (le_refl (length rest))
grown_same stay unfinished = inr refl

grown_bind : {A B : Type 0} (stay : Bool) (o o' : Outcome A) (f f' : A × List Lexeme → Outcome B) → Grown stay o o' → ((a : A) (rest : List Lexeme) → Grown stay (f (a, rest)) (f' (a, rest))) → ((x : A × List Lexeme) → remaining (f' x) ≤ length x.1) → Grown stay (o >>= f) (o' >>= f')
grown_bind stay o o' f f' (inl e) k s = inl (ap (λ p. p >>= f') e)
grown_bind {B = B} stay (read a rest) o' f f' (inr e) k s = subst (λ p. Grown {A = B} stay (f (a, rest)) (p >>= f')) (sym e) (k a rest)
grown_bind stay (stuck Misplaced rest) o' f f' (inr e) k s = inr (ap (λ p. p >>= f') e)
grown_bind stay (stuck Misnamed rest) o' f f' (inr e) k s = inr (λ t. ap (λ p. p >>= f') (e.0 t), le_trans (bind_shrinks o' f' s) e.1)
grown_bind stay (stuck TooDeep rest) o' f f' (inr e) k s = inr (le_trans (bind_shrinks o' f' s) e)
grown_bind stay unfinished o' f f' (inr e) k s = inr (ap (λ p. p >>= f') e)

grown_keep : {A B : Type 0} (stay : Bool) (f : A → B) (o o' : Outcome A) → Grown stay o o' → Grown stay (o >>= λ y. read (f y.0) y.1) (o' >>= λ y. read (f y.0) y.1)
grown_keep stay f o o' h = grown_bind stay o o' (λ y. read (f y.0) y.1) (λ y. read (f y.0) y.1) h (λ a rest. inr refl) (λ x. le_refl (length x.1))

grown_if : {A : Type 0} (stay b : Bool) (o o' p p' : Outcome A) → Grown stay o o' → Grown stay p p' → Grown stay (if b then o else p) (if b then o' else p')
grown_if stay true o o' p p' h k = h
grown_if stay false o o' p p' h k = k

grown_each : {A : Type 0} (stay : Bool) (codes : List ℕ) (part part' : List Lexeme → Outcome A) → ((w : List Lexeme) → Grown stay (part w) (part' w)) → ((w : List Lexeme) → remaining (part' w) ≤ length w) → (n : ℕ) (w : List Lexeme) → Grown stay (each_from codes part n w) (each_from codes part' n w)
grown_each {A = A} stay codes part part' k s zero w = grown_same {A = List A} stay (if next_in codes w then unfinished else read [] w)
grown_each {A = A} stay codes part part' k s (suc n) w =
    grown_if stay (next_in codes w) (part w >>= λ x. each_from codes part n x.1 >>= λ y. read (x.0 ∷ y.0) y.1) (part' w >>= λ x. each_from codes part' n x.1 >>= λ y. read (x.0 ∷ y.0) y.1) (read [] w) (read [] w)
    (grown_bind stay (part w) (part' w) (λ x. each_from codes part n x.1 >>= λ y. read (x.0 ∷ y.0) y.1) (λ x. each_from codes part' n x.1 >>= λ y. read (x.0 ∷ y.0) y.1) (k w)
    (λ a rest. grown_keep {B = List A} stay (λ y. a ∷ y) (each_from codes part n rest) (each_from codes part' n rest) (grown_each stay codes part part' k s n rest))
    (λ x. rw (kept {B = List A} (λ y. x.0 ∷ y) (each_from codes part' n x.1)) (each_shrinks codes part' s n x.1)))
    (inr refl)

grown_end : (stay : Bool) (l m : Limits) → Below l m → (stay ≡ true → end_name_in l ≡ end_name_in m) → (w : List Lexeme) → Grown stay (reads_end (end_name_in l) w) (reads_end (end_name_in m) w)
grown_end stay l m b s [] = inr refl
grown_end stay l m b s (t ∷ w) = go (has identifiers (code_of t)) (suits (end_name_in l) t) (suits (end_name_in m) t) (suits_more l m b t) (λ e. ap (λ f. suits f t) (s e))
  where
    go : (c d d' : Bool) → (d ≡ true → d' ≡ true) → (stay ≡ true → d ≡ d') → Grown stay (if c then (if d then read t w else stuck Misnamed (t ∷ w)) else stuck Misplaced (t ∷ w)) (if c then (if d' then read t w else stuck Misnamed (t ∷ w)) else stuck Misplaced (t ∷ w))
    go false d d' u e = inr refl
    go true true true u e = inr refl
    go true true false u e = never false (u refl) refl
    go true false true u e = inr (λ y. never true refl (sym (e y)), omega arith)
    go true false false u e = inr (λ y. refl, le_refl (length (t ∷ w)))

pub names_inside : (o : Opening) (l i : Limits) → left_inside o l ≡ Some i → end_name_in i ≡ end_name_in l
names_inside a_construct (at_most zero k f) i e = cc
names_inside a_construct (at_most (suc n) k f) i e = let same : at_most n k f ≡ i = cc in sym (ap end_name_in same)
names_inside a_class (at_most zero k f) i e = cc
names_inside a_class (at_most (suc n) zero f) i e = cc
names_inside a_class (at_most (suc n) (suc k) f) i e = let same : at_most n k f ≡ i = cc in sym (ap end_name_in same)

-- where the next token cannot come first, nothing is read
refused : {A : Type 0} (codes : List ℕ) (p : List Lexeme → A → Type 0) (b : Limits → List Lexeme → Type 0) (l : Limits) (w : List Lexeme) → next_in codes w ≡ false → ((m : Limits) (t : Lexeme) (more : List Lexeme) → b m (t ∷ more) → has codes (code_of t) ≡ true) → ((a : A) → p [] a → ⊥) → ((v : List Lexeme) (a : A) → p v a → b l v) → (o : Outcome A) → Sound p b l w o → (o ≡ unfinished) ⊎ (o ≡ stuck Misplaced w)
refused {A = A} codes p b l w n first some begins (read a rest) s = go s.0 s.1 s.2
  where
    go : (taken : List Lexeme) → w ≡ taken ++ rest → p taken a → (read a rest ≡ unfinished) ⊎ (read a rest ≡ stuck Misplaced w)
    go [] e q = absurd (some a q)
    go (t ∷ taken) e q = never (has codes (code_of t)) (first l t taken (begins (t ∷ taken) a q)) (ap (next_in codes) (sym e) ∙ n)
refused {A = A} codes p b l w n first some begins (stuck fault rest) s = go s.0 s.1 s.2 fault s.3
  where
    go : (taken : List Lexeme) → w ≡ taken ++ rest → b l taken → (f : Fault) → Past b l f taken rest → (let o : Outcome A = stuck f rest in (o ≡ unfinished) ⊎ (o ≡ stuck Misplaced w))
    go (t ∷ taken) e q f past = never (has codes (code_of t)) (first l t taken q) (ap (next_in codes) (sym e) ∙ n)
    go [] e q Misplaced past = inr (ap (λ v. stuck Misplaced v) (sym e))
    go [] e q Misnamed past = never (has codes (code_of past.0)) (first (lifted Misnamed l) past.0 [] past.3) (ap (next_in codes) (sym past.2) ∙ ap (next_in codes) (sym e) ∙ n)
    go [] e q TooDeep past = never (has codes (code_of past.0)) (first (lifted TooDeep l) past.0 [] past.3) (ap (next_in codes) (sym past.2) ∙ ap (next_in codes) (sym e) ∙ n)
refused codes p b l w n first some begins unfinished s = inl refl

shut_grown : {A : Type 0} (stay : Bool) (opens : Bool) (part : Limits → Outcome A) (w : List Lexeme) → (opens ≡ false → (j : Limits) → (part j ≡ unfinished) ⊎ (part j ≡ stuck Misplaced w)) → ((j : Limits) → remaining (part j) ≤ length w) → (right : Option Limits) → Grown stay (stuck (if opens then TooDeep else Misplaced) w) (reads_inside opens right part w)
shut_grown stay true part w h k right = inr (inside_shrinks true right part w k)
shut_grown stay false part w h k None = inr refl
shut_grown stay false part w h k (Some j) = h refl j

inside_grown : {A : Type 0} (stay : Bool) (opens : Bool) (part : Limits → Outcome A) (w : List Lexeme) → (opens ≡ false → (j : Limits) → (part j ≡ unfinished) ⊎ (part j ≡ stuck Misplaced w)) → ((j : Limits) → remaining (part j) ≤ length w) → (left right : Option Limits) → ((i : Limits) → left ≡ Some i → (j : Limits) × (right ≡ Some j) × Grown stay (part i) (part j)) → Grown stay (reads_inside opens left part w) (reads_inside opens right part w)
inside_grown stay opens part w h k None right r = shut_grown stay opens part w h k right
inside_grown {A = A} stay opens part w h k (Some i) right r =
    let s = r i refl in
    subst (λ m. Grown {A = A} stay (part i) (reads_inside opens m part w)) (sym s.1) s.2

module _ {S : Type 0} {V : S → Type 0} where
  pub refuses : {A : Type 0} (k : Tables S) (rule : Productions S V) → Checked S V k rule → (n : ℕ) (g : Grammar S V A) → Decided k g → may_be_empty g ≡ false → (l : Limits) (w : List Lexeme) → next_in (first_codes k.starts g) w ≡ false → (reads_by k.starts (reads_within k.starts rule n) g l w ≡ unfinished) ⊎ (reads_by k.starts (reads_within k.starts rule n) g l w ≡ stuck Misplaced w)
  refuses {A = A} k rule ok n g d e l w none =
      refused (first_codes k.starts g) (SpelledBy (SpelledIn rule n) g l) (BegunBy (SpelledIn rule n) (BegunIn rule n) g) l w none
      (λ m t more b. first_sound k.starts (SpelledIn rule n) (BegunIn rule n) (known k rule ok n) g m (t ∷ more) b t more refl)
      (λ a s. never (may_be_empty g) (nothing_spelled (SpelledIn rule n) (λ x l a s. (known k rule ok n).some_token x l a s) g l [] a s refl) e)
      (λ v a s. spelled_begun k.starts (SpelledIn rule n) (BegunIn rule n) (known k rule ok n) g l v a s)
      (reads_by k.starts (reads_within k.starts rule n) g l w)
      (sound k (SpelledIn rule n) (BegunIn rule n) (reads_within k.starts rule n) (known k rule ok n) (λ x l m w a b s. in_rises rule n x l m w a b s) (λ x l w. within_sound k rule ok n x l w) g d l w)

  -- Limits that allow more change a reading at faults of the limits alone.
  pub grows : {A : Type 0} (k : Tables S) (rule : Productions S V) → Checked S V k rule → (n : ℕ) (stay : Bool) (g : Grammar S V A) → Decided k g → (l m : Limits) → Below l m → (stay ≡ true → end_name_in l ≡ end_name_in m) → ((x : S) (l m : Limits) → Below l m → (stay ≡ true → end_name_in l ≡ end_name_in m) → (w : List Lexeme) → Grown stay (reads_within k.starts rule n x l w) (reads_within k.starts rule n x m w)) → (w : List Lexeme) → Grown stay (reads_by k.starts (reads_within k.starts rule n) g l w) (reads_by k.starts (reads_within k.starts rule n) g m w)
  grows k rule ok n y (empty a) d l m b f sub w = inr refl
  grows k rule ok n y (token codes) d l m b f sub w = grown_same y (reads_token codes w)
  grows k rule ok n y (seq {A = A} {B = B} g h) d l m b f sub w =
      let of = reads_within k.starts rule n in
      grown_bind y (reads_by k.starts of g l w) (reads_by k.starts of g m w) (λ x. reads_by k.starts of h l x.1 >>= λ z. read (x.0, z.0) z.1) (λ x. reads_by k.starts of h m x.1 >>= λ z. read (x.0, z.0) z.1)
      (grows k rule ok n y g d.0 l m b f sub w)
      (λ a rest. grown_keep {B = A × B} y (λ z. (a, z)) (reads_by k.starts of h l rest) (reads_by k.starts of h m rest) (grows k rule ok n y h d.1 l m b f sub rest))
      (rest_shrinks {C = A × B} k.starts of (within_enters k rule ok n).leaves h m (λ a z. (a, z)))
  grows k rule ok n y (either g h) d l m b f sub w =
      let of = reads_within k.starts rule n in
      grown_if y (next_in (first_codes k.starts g) w) (reads_by k.starts of g l w) (reads_by k.starts of g m w) (reads_by k.starts of h l w) (reads_by k.starts of h m w) (grows k rule ok n y g d.0 l m b f sub w) (grows k rule ok n y h d.1 l m b f sub w)
  grows k rule ok n y (either2 c ds g h) d l m b f sub w =
      let of = reads_within k.starts rule n in
      grown_if y (next_two c ds w) (reads_by k.starts of g l w) (reads_by k.starts of g m w) (reads_by k.starts of h l w) (reads_by k.starts of h m w) (grows k rule ok n y g d.0 l m b f sub w) (grows k rule ok n y h d.1 l m b f sub w)
  grows k rule ok n y (many g) d l m b f sub w =
      let of = reads_within k.starts rule n in
      grown_each y (first_codes k.starts g) (reads_by k.starts of g l) (reads_by k.starts of g m) (λ w. grows k rule ok n y g d.0 l m b f sub w) (λ w. shrinks k.starts of (within_enters k rule ok n).leaves g m w) (length w) w
  grows k rule ok n y (made t g) d l m b f sub w = grown_keep y t (reads_by k.starts (reads_within k.starts rule n) g l w) (reads_by k.starts (reads_within k.starts rule n) g m w) (grows k rule ok n y g d l m b f sub w)
  grows k rule ok n y (placed {A = A} g) d l m b f sub w = grown_keep {B = Place × A} y (λ z. (place_of_first w, z)) (reads_by k.starts (reads_within k.starts rule n) g l w) (reads_by k.starts (reads_within k.starts rule n) g m w) (grows k rule ok n y g d.0 l m b f sub w)
  grows k rule ok n y (nested o g) d l m b f sub w =
      let of = reads_within k.starts rule n in
      inside_grown y (next_in (first_codes k.starts g) w) (λ i. reads_by k.starts of g i w) w
      (λ e j. refuses k rule ok n g d.0 d.1 j w e) (λ j. shrinks k.starts of (within_enters k rule ok n).leaves g j w) (left_inside o l) (left_inside o m)
      (λ i e. let j = inside_below o l m i b e in (j.0, j.1, grows k rule ok n y g d.0 i j.0 j.2 (λ t. names_inside o l i e ∙ f t ∙ sym (names_inside o m j.0 j.1)) sub w))
  grows k rule ok n y end_name d l m b f sub w = grown_end y l m b f w
  grows k rule ok n y (under {A = A} {B = B} called g h) d l m b f sub w =
      let of = reads_within k.starts rule n in
      grown_bind y (reads_by k.starts of g l w) (reads_by k.starts of g m w) (λ x. reads_by k.starts of h (renamed (called x.0) l) x.1 >>= λ z. read (x.0, z.0) z.1) (λ x. reads_by k.starts of h (renamed (called x.0) m) x.1 >>= λ z. read (x.0, z.0) z.1)
      (grows k rule ok n y g d.0 l m b f sub w)
      (λ a rest. grown_keep {B = A × B} y (λ z. (a, z)) (reads_by k.starts of h (renamed (called a) l) rest) (reads_by k.starts of h (renamed (called a) m) rest) (grows k rule ok n y h d.1 (renamed (called a) l) (renamed (called a) m) (renamed_below (called a) l m b) (λ t. renamed_stays (called a) l m (f t)) sub rest))
      (under_shrinks {C = A × B} k.starts of (within_enters k rule ok n).leaves called h m (λ a z. (a, z)))
  grows k rule ok n y (unless {A = A} {B = B} test g h) d l m b f sub w =
      let of = reads_within k.starts rule n in
      grown_bind y (reads_by k.starts of g l w) (reads_by k.starts of g m w) (unless_rest k.starts of test h l w) (unless_rest k.starts of test h m w)
      (grows k rule ok n y g d.0 l m b f sub w)
      (λ a rest. let other : Outcome (A × Option B) = (if first_passes test w a then read (a, None) rest else stuck Misplaced rest) in
      grown_if y (next_in (first_codes k.starts h) rest) (reads_by k.starts of h l rest >>= λ z. read (a, Some z.0) z.1) (reads_by k.starts of h m rest >>= λ z. read (a, Some z.0) z.1) other other
      (grown_keep {B = A × Option B} y (λ z. (a, Some z)) (reads_by k.starts of h l rest) (reads_by k.starts of h m rest) (grows k rule ok n y h d.1 l m b f sub rest))
      (grown_same y other))
      (unless_shrinks k.starts of (within_enters k rule ok n).leaves test h m w)
  grows k rule ok n y (symbol x) d l m b f sub w = sub x l m b f w

  pub within_grows : (k : Tables S) (rule : Productions S V) → Checked S V k rule → (n : ℕ) (stay : Bool) (x : S) (l m : Limits) → Below l m → (stay ≡ true → end_name_in l ≡ end_name_in m) → (w : List Lexeme) → Grown stay (reads_within k.starts rule n x l w) (reads_within k.starts rule n x m w)
  within_grows k rule ok zero y x l m b f w = inl refl
  within_grows k rule ok (suc n) y x l m b f w = grows k rule ok n y (rule x) (ok.dec x) l m b f (λ x l m b f w. within_grows k rule ok n y x l m b f w) w

pub grown_left : {A : Type 0} (y : Bool) (o o' : Outcome A) → Grown y o o' → Finished o' → remaining o' ≤ remaining o
grown_left y o o' (inl e) f = absurd (subst Finished e f)
grown_left y (read a rest) o' (inr e) f = le_of_eq (ap remaining e)
grown_left y (stuck Misplaced rest) o' (inr e) f = le_of_eq (ap remaining e)
grown_left y (stuck Misnamed rest) o' (inr e) f = e.1
grown_left y (stuck TooDeep rest) o' (inr e) f = e
grown_left y unfinished o' (inr e) f = le_of_eq (ap remaining e)

pub grown_read : {A : Type 0} (y : Bool) (a : A) (rest : List Lexeme) (o : Outcome A) → Grown y (read a rest) o → Finished o → o ≡ read a rest
grown_read y a rest o (inl e) f = absurd (subst Finished e f)
grown_read y a rest o (inr e) f = e

pub grown_misplaced : {A : Type 0} (y : Bool) (rest : List Lexeme) (o : Outcome A) → Grown y (stuck Misplaced rest) o → Finished o → o ≡ stuck Misplaced rest
grown_misplaced y rest o (inl e) f = absurd (subst Finished e f)
grown_misplaced y rest o (inr e) f = e

pub grown_misnamed : {A : Type 0} (rest : List Lexeme) (o : Outcome A) → Grown true (stuck Misnamed rest) o → Finished o → o ≡ stuck Misnamed rest
grown_misnamed rest o (inl e) f = absurd (subst Finished e f)
grown_misnamed rest o (inr e) f = e.0 refl
