-- The steps that are granted suffice: reading a production is reading its grammar.
use Rattle.std.proofs.Common.{◌≡◌, ◌||◌, not, ℕ, zero, suc, ◌+◌, ◌*◌, ◌<◌, ◌≤◌, Bool, true, false, List, [], ◌∷◌, ◌++◌, inl, inr, Option, Some, None, length, refl, sym, subst, if◌then◌else◌, le_refl, le_trans, lt_of_lt_of_le, lt_of_le_of_lt, arith, ltb-true, lt-ltb, add-one, suc-mul, mul-le-mul_right, length-append}
use Rattle.mo_grammar.specs.declared.fault.Fault.TheVariants.{Misplaced, Misnamed}
use Rattle.mo_syntax.specs.declared.place.Place.{Place}
use Rattle.mo_grammar.specs.Lexeme.{Lexeme, code_of}
use Rattle.mo_grammar.specs.Grammar.{Limits, left_inside, EndName, end_name_in, suits, renamed, Grammar, empty, token, seq, either, either2, many, made, placed, nested, end_name, under, unless, symbol, has, identifiers, first_passes, Productions, SpelledBy, SpelledIn, BegunBy, BegunIn}
use Rattle.mo_grammar.specs.Reading.{Outcome, read, stuck, unfinished, ◌>>=◌, Reader, may_be_empty, first_codes, next_in, next_two, reads_token, reads_end, each_from, reads_inside, reads_by, reads_within, reads_as, place_of_first, Tables, is_below}
use Rattle.mo_grammar.proofs.Codes.{both, never, told, and_true}
use Rattle.mo_grammar.proofs.Decided.{Decided}
use Rattle.mo_grammar.proofs.Begun.{nothing_spelled}
use Rattle.mo_grammar.proofs.Outcomes.{remaining, Finished, shrinks, unless_rest}
use Rattle.mo_grammar.proofs.Soundness.{Sound, sound}
use Rattle.mo_grammar.proofs.Checked.{Checked, known, in_rises, within_sound, within_enters}

-- both readings come to an end, and to the same one
abbrev pub Agree : {A : Type 0} → Outcome A → Outcome A → Type 0
Agree o o' = (o ≡ o') × Finished o

agree_bind : {A B : Type 0} (o o' : Outcome A) (f f' : A × List Lexeme → Outcome B) → Agree o o' → ((a : A) (rest : List Lexeme) → o ≡ read a rest → Agree (f (a, rest)) (f' (a, rest))) → Agree (o >>= f) (o' >>= f')
agree_bind {B = B} (read a rest) o' f f' h k = subst (λ p. Agree {A = B} (f (a, rest)) (p >>= f')) h.0 (k a rest refl)
agree_bind {B = B} (stuck fault rest) o' f f' h k = subst (λ p. Agree {A = B} (stuck fault rest) (p >>= f')) h.0 (refl, tt)
agree_bind unfinished o' f f' h k = absurd h.1

agree_keep : {A B : Type 0} (f : A → B) (o o' : Outcome A) → Agree o o' → Agree (o >>= λ y. read (f y.0) y.1) (o' >>= λ y. read (f y.0) y.1)
agree_keep f o o' h = agree_bind o o' (λ y. read (f y.0) y.1) (λ y. read (f y.0) y.1) h (λ a rest e. (refl, tt))

agree_if : {A : Type 0} (b : Bool) (o o' p p' : Outcome A) → Agree o o' → Agree p p' → Agree (if b then o else p) (if b then o' else p')
agree_if true o o' p p' h k = h
agree_if false o o' p p' h k = k

agree_same : {A : Type 0} (o : Outcome A) → Finished o → Agree o o
agree_same o h = (refl, h)

agree_inside : {A : Type 0} (opens : Bool) (left : Option Limits) (part part' : Limits → Outcome A) (w : List Lexeme) → ((l : Limits) → Agree (part l) (part' l)) → Agree (reads_inside opens left part w) (reads_inside opens left part' w)
agree_inside opens (Some l) part part' w h = h l
agree_inside opens None part part' w h = (refl, tt)

token_finished : (codes : List ℕ) (w : List Lexeme) → Finished (reads_token codes w)
token_finished codes [] = tt
token_finished codes (t ∷ w) = go (has codes (code_of t))
  where
    go : (b : Bool) → Finished (if b then read t w else stuck Misplaced (t ∷ w))
    go true = tt
    go false = tt

end_finished : (name : EndName) (w : List Lexeme) → Finished (reads_end name w)
end_finished name [] = tt
end_finished name (t ∷ w) = go (has identifiers (code_of t)) (suits name t)
  where
    go : (b d : Bool) → Finished (if b then (if d then read t w else stuck Misnamed (t ∷ w)) else stuck Misplaced (t ∷ w))
    go true true = tt
    go true false = tt
    go false d = tt

agree_each : {A : Type 0} (codes : List ℕ) (part part' : List Lexeme → Outcome A) → ((w : List Lexeme) (a : A) (rest : List Lexeme) → part w ≡ read a rest → length rest < length w) → (n : ℕ) (w : List Lexeme) → length w ≤ n → Agree (part w) (part' w) → ((v : List Lexeme) → length v < length w → Agree (part v) (part' v)) → Agree (each_from codes part n w) (each_from codes part' n w)
agree_each codes part part' less zero [] e here there = (refl, tt)
agree_each codes part part' less zero (t ∷ w) e here there = absurd (omega arith)
agree_each {A = A} codes part part' less (suc n) w e here there =
    agree_if (next_in codes w) (part w >>= λ x. each_from codes part n x.1 >>= λ y. read (x.0 ∷ y.0) y.1) (part' w >>= λ x. each_from codes part' n x.1 >>= λ y. read (x.0 ∷ y.0) y.1) (read [] w) (read [] w)
    (agree_bind (part w) (part' w) (λ x. each_from codes part n x.1 >>= λ y. read (x.0 ∷ y.0) y.1) (λ x. each_from codes part' n x.1 >>= λ y. read (x.0 ∷ y.0) y.1) here
    (λ a rest r. let shorter = less w a rest r in agree_keep {B = List A} (λ y. a ∷ y) (each_from codes part n rest) (each_from codes part' n rest)
    (agree_each codes part part' less n rest (omega arith) (there rest shorter) (λ v h. there v (let s = shorter in omega arith)))))
    (refl, tt)

module _ {S : Type 0} {V : S → Type 0} where
  pub below_top : {A : Type 0} (rank : S → ℕ) (top : ℕ) → ((x : S) → rank x < top) → (g : Grammar S V A) → is_below rank top g ≡ true
  below_top rank top k (empty a) = refl
  below_top rank top k (token codes) = refl
  below_top rank top k (seq g h) = and_true (is_below rank top g) (not (may_be_empty g) || is_below rank top h) (below_top rank top k g) (go (not (may_be_empty g)) (is_below rank top h) (below_top rank top k h))
    where
      go : (b c : Bool) → c ≡ true → (b || c) ≡ true
      go true c e = refl
      go false c e = e
  below_top rank top k (either g h) = and_true (is_below rank top g) (is_below rank top h) (below_top rank top k g) (below_top rank top k h)
  below_top rank top k (either2 c ds g h) = and_true (is_below rank top g) (is_below rank top h) (below_top rank top k g) (below_top rank top k h)
  below_top rank top k (many g) = below_top rank top k g
  below_top rank top k (made f g) = below_top rank top k g
  below_top rank top k (placed g) = below_top rank top k g
  below_top rank top k (nested o g) = below_top rank top k g
  below_top rank top k end_name = refl
  below_top rank top k (under called g h) = and_true (is_below rank top g) (not (may_be_empty g) || is_below rank top h) (below_top rank top k g) (go (not (may_be_empty g)) (is_below rank top h) (below_top rank top k h))
    where
      go : (b c : Bool) → c ≡ true → (b || c) ≡ true
      go true c e = refl
      go false c e = e
  below_top rank top k (unless test g h) = below_top rank top k g
  below_top rank top k (symbol x) = lt-ltb (rank x) top (k x)

  -- what cannot be empty takes a token
  pub takes_some : {A : Type 0} (k : Tables S) (rule : Productions S V) → Checked S V k rule → (n : ℕ) (g : Grammar S V A) → Decided k g → may_be_empty g ≡ false → (l : Limits) (w : List Lexeme) (a : A) (rest : List Lexeme) → reads_by k.starts (reads_within k.starts rule n) g l w ≡ read a rest → length rest < length w
  takes_some {A = A} k rule ok n g d e l w a rest r = go (subst (Sound (SpelledBy (SpelledIn rule n) g l) (BegunBy (SpelledIn rule n) (BegunIn rule n) g) l w) r (sound k (SpelledIn rule n) (BegunIn rule n) (reads_within k.starts rule n) (known k rule ok n) (λ x l m w a b s. in_rises rule n x l m w a b s) (λ x l w. within_sound k rule ok n x l w) g d l w))
    where
      longer : (taken : List Lexeme) → SpelledBy (SpelledIn rule n) g l taken a → length rest < length (taken ++ rest)
      longer [] s = never (may_be_empty g) (nothing_spelled (SpelledIn rule n) (λ x l a s. (known k rule ok n).some_token x l a s) g l [] a s refl) e
      longer (t ∷ taken) s = omega (arith, length-append taken rest)

      go : Sound (SpelledBy (SpelledIn rule n) g l) (BegunBy (SpelledIn rule n) (BegunIn rule n) g) l w (read a rest) → length rest < length w
      go s = subst (λ v. length rest < length v) (sym s.1) (longer s.0 s.2)

  -- Two readers of the productions that agree wherever this grammar may call them give one reading of it.
  pub agrees : {A : Type 0} (k : Tables S) (rule : Productions S V) → Checked S V k rule → (n : ℕ) (of' : Reader S V) (g : Grammar S V A) → Decided k g → (r : ℕ) (l : Limits) (w : List Lexeme)
      → ((y : S) (m : Limits) (v : List Lexeme) → length v < length w → Agree (reads_within k.starts rule n y m v) (of' y m v))
      → ((y : S) (m : Limits) (v : List Lexeme) → length v ≤ length w → k.rank y < r → Agree (reads_within k.starts rule n y m v) (of' y m v))
      → is_below k.rank r g ≡ true → Agree (reads_by k.starts (reads_within k.starts rule n) g l w) (reads_by k.starts of' g l w)
  agrees k rule ok n of' (empty a) d r l w p q e = (refl, tt)
  agrees k rule ok n of' (token codes) d r l w p q e = (refl, token_finished codes w)
  agrees k rule ok n of' (seq {A = A} {B = B} g h) d r l w p q e =
      let of = reads_within k.starts rule n in
      let b = both (is_below k.rank r g) (not (may_be_empty g) || is_below k.rank r h) e in
      agree_bind (reads_by k.starts of g l w) (reads_by k.starts of' g l w) (λ x. reads_by k.starts of h l x.1 >>= λ y. read (x.0, y.0) y.1) (λ x. reads_by k.starts of' h l x.1 >>= λ y. read (x.0, y.0) y.1)
      (agrees k rule ok n of' g d.0 r l w p q b.0)
      (λ a rest here. agree_keep {B = A × B} (λ y. (a, y)) (reads_by k.starts of h l rest) (reads_by k.starts of' h l rest)
      (elim (told (may_be_empty g)) [
        | inl none ↦
            let less : length rest ≤ length w = subst (λ o. remaining o ≤ length w) here (shrinks k.starts of (within_enters k rule ok n).leaves g l w) in
            agrees k rule ok n of' h d.1 r l rest (λ y m v f. p y m v (lt_of_lt_of_le f less)) (λ y m v f. q y m v (le_trans f less)) (rw none at b.1)
        | inr some ↦
            let less : length rest < length w = takes_some k rule ok n g d.0 some l w a rest here in
            agrees k rule ok n of' h d.1 k.ranks l rest (λ y m v f. p y m v (omega arith)) (λ y m v f t. p y m v (lt_of_le_of_lt f less)) (below_top k.rank k.ranks ok.ranked h)
      ]))
  agrees k rule ok n of' (either g h) d r l w p q e =
      let of = reads_within k.starts rule n in
      let b = both (is_below k.rank r g) (is_below k.rank r h) e in
      agree_if (next_in (first_codes k.starts g) w) (reads_by k.starts of g l w) (reads_by k.starts of' g l w) (reads_by k.starts of h l w) (reads_by k.starts of' h l w)
      (agrees k rule ok n of' g d.0 r l w p q b.0) (agrees k rule ok n of' h d.1 r l w p q b.1)
  agrees k rule ok n of' (either2 c ds g h) d r l w p q e =
      let of = reads_within k.starts rule n in
      let b = both (is_below k.rank r g) (is_below k.rank r h) e in
      agree_if (next_two c ds w) (reads_by k.starts of g l w) (reads_by k.starts of' g l w) (reads_by k.starts of h l w) (reads_by k.starts of' h l w)
      (agrees k rule ok n of' g d.0 r l w p q b.0) (agrees k rule ok n of' h d.1 r l w p q b.1)
  agrees k rule ok n of' (many g) d r l w p q e =
      let of = reads_within k.starts rule n in
      agree_each (first_codes k.starts g) (reads_by k.starts of g l) (reads_by k.starts of' g l) (λ w a rest here. takes_some k rule ok n g d.0 d.1 l w a rest here) (length w) w (le_refl (length w))
      (agrees k rule ok n of' g d.0 r l w p q e)
      (λ u less. agrees k rule ok n of' g d.0 k.ranks l u (λ y m v f. p y m v (omega arith)) (λ y m v f t. p y m v (lt_of_le_of_lt f less)) (below_top k.rank k.ranks ok.ranked g))
  agrees k rule ok n of' (made f g) d r l w p q e = agree_keep f (reads_by k.starts (reads_within k.starts rule n) g l w) (reads_by k.starts of' g l w) (agrees k rule ok n of' g d r l w p q e)
  agrees k rule ok n of' (placed {A = A} g) d r l w p q e = agree_keep {B = Place × A} (λ a. (place_of_first w, a)) (reads_by k.starts (reads_within k.starts rule n) g l w) (reads_by k.starts of' g l w) (agrees k rule ok n of' g d.0 r l w p q e)
  agrees k rule ok n of' (nested o g) d r l w p q e =
      agree_inside (next_in (first_codes k.starts g) w) (left_inside o l) (λ i. reads_by k.starts (reads_within k.starts rule n) g i w) (λ i. reads_by k.starts of' g i w) w (λ i. agrees k rule ok n of' g d.0 r i w p q e)
  agrees k rule ok n of' end_name d r l w p q e = (refl, end_finished (end_name_in l) w)
  agrees k rule ok n of' (under {A = A} {B = B} called g h) d r l w p q e =
      let of = reads_within k.starts rule n in
      let b = both (is_below k.rank r g) (not (may_be_empty g) || is_below k.rank r h) e in
      agree_bind (reads_by k.starts of g l w) (reads_by k.starts of' g l w) (λ x. reads_by k.starts of h (renamed (called x.0) l) x.1 >>= λ y. read (x.0, y.0) y.1) (λ x. reads_by k.starts of' h (renamed (called x.0) l) x.1 >>= λ y. read (x.0, y.0) y.1)
      (agrees k rule ok n of' g d.0 r l w p q b.0)
      (λ a rest here. agree_keep {B = A × B} (λ y. (a, y)) (reads_by k.starts of h (renamed (called a) l) rest) (reads_by k.starts of' h (renamed (called a) l) rest)
      (elim (told (may_be_empty g)) [
        | inl none ↦
            let less : length rest ≤ length w = subst (λ o. remaining o ≤ length w) here (shrinks k.starts of (within_enters k rule ok n).leaves g l w) in
            agrees k rule ok n of' h d.1 r (renamed (called a) l) rest (λ y m v f. p y m v (lt_of_lt_of_le f less)) (λ y m v f. q y m v (le_trans f less)) (rw none at b.1)
        | inr some ↦
            let less : length rest < length w = takes_some k rule ok n g d.0 some l w a rest here in
            agrees k rule ok n of' h d.1 k.ranks (renamed (called a) l) rest (λ y m v f. p y m v (omega arith)) (λ y m v f t. p y m v (lt_of_le_of_lt f less)) (below_top k.rank k.ranks ok.ranked h)
      ]))
  agrees k rule ok n of' (unless {A = A} {B = B} test g h) d r l w p q e =
      let of = reads_within k.starts rule n in
      agree_bind (reads_by k.starts of g l w) (reads_by k.starts of' g l w) (unless_rest k.starts of test h l w) (unless_rest k.starts of' test h l w)
      (agrees k rule ok n of' g d.0 r l w p q e)
      (λ a rest here.
      let less : length rest < length w = takes_some k rule ok n g d.0 d.2 l w a rest here in
      let other : Outcome (A × Option B) = (if first_passes test w a then read (a, None) rest else stuck Misplaced rest) in
      agree_if (next_in (first_codes k.starts h) rest) (reads_by k.starts of h l rest >>= λ y. read (a, Some y.0) y.1) (reads_by k.starts of' h l rest >>= λ y. read (a, Some y.0) y.1) other other
      (agree_keep {B = A × Option B} (λ y. (a, Some y)) (reads_by k.starts of h l rest) (reads_by k.starts of' h l rest)
      (agrees k rule ok n of' h d.1 k.ranks l rest (λ y m v f. p y m v (omega arith)) (λ y m v f t. p y m v (lt_of_le_of_lt f less)) (below_top k.rank k.ranks ok.ranked h)))
      (agree_if (first_passes test w a) (read (a, None) rest) (read (a, None) rest) (stuck Misplaced rest) (stuck Misplaced rest) (refl, tt) (refl, tt)))
  agrees k rule ok n of' (symbol x) d r l w p q e = q x l w (le_refl (length w)) (ltb-true (k.rank x) r e)

measure_shorter : (a b t r s : ℕ) → a < b → r < t → a * t + r < b * t + s
measure_shorter a b t r s less low =
    let whole : suc a * t ≤ b * t = mul-le-mul_right t less in
    let one : suc a * t ≡ a * t + t = suc-mul a t in
    omega arith

measure_lower : (a b t r s : ℕ) → a ≤ b → r < s → a * t + r < b * t + s
measure_lower a b t r s less low =
    let whole : a * t ≤ b * t = mul-le-mul_right t less in
    omega arith

module _ {S : Type 0} {V : S → Type 0} where
  -- any two numbers of steps above the measure agree
  pub within_agree : (k : Tables S) (rule : Productions S V) → Checked S V k rule → (n n' : ℕ) (x : S) (l : Limits) (w : List Lexeme) → length w * k.ranks + k.rank x < n → length w * k.ranks + k.rank x < n' → Agree (reads_within k.starts rule n x l w) (reads_within k.starts rule n' x l w)
  within_agree k rule ok zero n' x l w h h' = absurd (omega arith)
  within_agree k rule ok (suc n) zero x l w h h' = absurd (omega arith)
  within_agree k rule ok (suc n) (suc n') x l w h h' =
      agrees k rule ok n (reads_within k.starts rule n') (rule x) (ok.dec x) (k.rank x) l w
      (λ y m v less. let s = measure_shorter (length v) (length w) k.ranks (k.rank y) (k.rank x) less (ok.ranked y) in within_agree k rule ok n n' y m v (omega arith) (omega arith))
      (λ y m v less low. let s = measure_lower (length v) (length w) k.ranks (k.rank y) (k.rank x) less low in within_agree k rule ok n n' y m v (omega arith) (omega arith))
      (ok.below x)

  pub as_agrees : (k : Tables S) (rule : Productions S V) → Checked S V k rule → (n : ℕ) (x : S) (l : Limits) (w : List Lexeme) → length w * k.ranks + k.rank x < n → Agree (reads_within k.starts rule n x l w) (reads_as k rule x l w)
  unfolding reads_as
  as_agrees k rule ok n x l w h = within_agree k rule ok n (length w * k.ranks + k.rank x + 1) x l w h (omega arith)

  -- Reading a production is reading its grammar, and comes to an end.
  pub reads_agree : (k : Tables S) (rule : Productions S V) → Checked S V k rule → (x : S) (l : Limits) (w : List Lexeme) → Agree (reads_as k rule x l w) (reads_by k.starts (reads_as k rule) (rule x) l w)
  unfolding reads_as
  reads_agree k rule ok x l w =
      let m = length w * k.ranks + k.rank x in
      subst (λ n. Agree (reads_within k.starts rule n x l w) (reads_by k.starts (reads_as k rule) (rule x) l w)) (sym (add-one m))
      (agrees k rule ok m (reads_as k rule) (rule x) (ok.dec x) (k.rank x) l w
      (λ y i v less. let s = measure_shorter (length v) (length w) k.ranks (k.rank y) (k.rank x) less (ok.ranked y) in as_agrees k rule ok m y i v s)
      (λ y i v less low. let s = measure_lower (length v) (length w) k.ranks (k.rank y) (k.rank x) less low in as_agrees k rule ok m y i v s)
      (ok.below x))
