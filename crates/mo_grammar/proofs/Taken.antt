-- What is begun is taken.
use Rattle.std.proofs.Common.{◌≡◌, ◌==◌, not, ℕ, zero, suc, ◌≤◌, Bool, true, false, List, [], ◌∷◌, ◌++◌, inl, inr, Option, Some, None, length, refl, sym, ap, subst, ◌∙◌, if◌then◌else◌, le_refl, le_trans, zero-le, arith, append_assoc, eqb-true, length-append}
use Rattle.mo_grammar.specs.declared.fault.Fault.TheVariants.{Misplaced, Misnamed, TooDeep}
use Rattle.mo_syntax.specs.declared.place.Place.{Place}
use Rattle.mo_grammar.specs.Lexeme.{Lexeme, code_of}
use Rattle.mo_grammar.specs.Grammar.{Limits, end_name_in, renamed, Grammar, empty, token, seq, either, either2, many, made, placed, nested, end_name, under, unless, symbol, has, first_passes, Productions, SpelledBy, SpelledIn, BegunBy, BegunEach, BegunIn}
use Rattle.mo_grammar.specs.Reading.{Outcome, read, stuck, unfinished, ◌>>=◌, Reader, may_be_empty, first_codes, later_codes, second_codes, next_in, next_two, reads_token, each_from, reads_inside, reads_by, place_of_first, Tables, is_pair, is_only, covers, apart}
use Rattle.mo_grammar.proofs.Codes.{both, false_from, next_in_apart, apart_lem, covers_lem, choose_true, choose_false}
use Rattle.mo_grammar.proofs.Decided.{Decided}
use Rattle.mo_grammar.proofs.Begun.{spelled_begun, first_sound, second_sound}
use Rattle.mo_grammar.proofs.Outcomes.{remaining, shrinks, bind_shrinks, kept, each_shrinks, end_shrinks, token_shrinks, Into, unless_rest, unless_shrinks}
use Rattle.mo_grammar.proofs.Entering.{Enters, enters, rest_shrinks, under_shrinks, pair_takes, pair_first, two_first}
use Rattle.mo_grammar.proofs.Checked.{Checked, known, seconds_known}
use Rattle.mo_grammar.proofs.Complete.{Reached, reached, reached_sure, two_next, some_first, only_spelled}

pub taken_plain : {A : Type 0} (o : Outcome A) (t : Lexeme) (more : List Lexeme) → Into false o (t ∷ more) → remaining o ≤ length more
taken_plain (read b rest) t more z = omega arith
taken_plain (stuck Misplaced rest) t more z = omega arith
taken_plain (stuck Misnamed rest) t more z = omega arith
taken_plain (stuck TooDeep rest) t more z = omega arith
taken_plain unfinished t more z = zero-le

choice_taken : {A : Type 0} (n : ℕ) (b : Bool) (o o' : Outcome A) → (b ≡ true → remaining o ≤ n) → (b ≡ false → remaining o' ≤ n) → remaining (if b then o else o') ≤ n
choice_taken n true o o' h k = h refl
choice_taken n false o o' h k = k refl

step_taken : {A B C : Type 0} (later_g firsts : List ℕ) (one : List Lexeme → Outcome A) (other : A → List Lexeme → Outcome B) (join : A → B → C) (front rest' rest : List Lexeme) (a : A)
    → ((v : List Lexeme) → Reached later_g a v (one (front ++ v))) → apart later_g firsts ≡ true → ((t : Lexeme) (v : List Lexeme) → rest' ≡ t ∷ v → has firsts (code_of t) ≡ true)
    → remaining (one (front ++ rest)) ≤ length rest → remaining (other a (rest' ++ rest)) ≤ length rest → ((x : A) (w : List Lexeme) → remaining (other x w) ≤ length w)
    → remaining (one (front ++ (rest' ++ rest)) >>= λ x. other x.0 x.1 >>= λ y. read (join x.0 y.0) y.1) ≤ length rest
step_taken {A = A} {B = B} {C = C} later_g firsts one other join front rest' rest a g sep first here there shrink = go rest' refl
  where
    next : A × List Lexeme → Outcome C
    next x = other x.0 x.1 >>= λ y. read (join x.0 y.0) y.1

    go : (v : List Lexeme) → rest' ≡ v → remaining (one (front ++ (rest' ++ rest)) >>= next) ≤ length rest
    go [] e = subst (λ v. remaining (one (front ++ (v ++ rest)) >>= next) ≤ length rest) (sym e) (le_trans (bind_shrinks (one (front ++ rest)) next (λ x. rw (kept (join x.0) (other x.0 x.1)) (shrink x.0 x.1))) here)
    go (t ∷ v) e =
        let sure = reached_sure later_g a (rest' ++ rest) (one (front ++ (rest' ++ rest))) (next_in_apart later_g firsts (rest' ++ rest) sep (subst (λ u. next_in firsts (u ++ rest) ≡ true) (sym e) (first t v e))) (g (rest' ++ rest)) in
        subst (λ o. remaining (o >>= next) ≤ length rest) (sym sure) (rw (kept (join a) (other a (rest' ++ rest))) there)

module _ {S : Type 0} {V : S → Type 0} where
  only_begun : {A : Type 0} (k : Tables S) (rule : Productions S V) (n : ℕ) (c : ℕ) (g : Grammar S V A) → is_only c g ≡ true → (l : Limits) (t u : Lexeme) (more : List Lexeme) → BegunBy (SpelledIn rule n) (BegunIn rule n) g l (t ∷ u ∷ more) → ⊥
  only_begun k rule n c (token codes) e l t u more (inl s) = cc
  only_begun k rule n c (token codes) e l t u more (inr s) = let same = s.1 in cc
  only_begun k rule n c (made f g) e l t u more s = only_begun k rule n c g e l t u more s
  only_begun k rule n c (placed g) e l t u more s = only_begun k rule n c g e l t u more s
  only_begun k rule n c (empty b) e l t u more s = cc
  only_begun k rule n c (seq g h) e l t u more s = cc
  only_begun k rule n c (either g h) e l t u more s = cc
  only_begun k rule n c (either2 d ds g h) e l t u more s = cc
  only_begun k rule n c (many g) e l t u more s = cc
  only_begun k rule n c (nested o g) e l t u more s = cc
  only_begun k rule n c end_name e l t u more s = cc
  only_begun k rule n c (under called g h) e l t u more s = cc
  only_begun k rule n c (unless test g h) e l t u more s = cc
  only_begun k rule n c (symbol x) e l t u more s = cc

  pair_begun : {A : Type 0} (k : Tables S) (rule : Productions S V) → Checked S V k rule → (n : ℕ) (c : ℕ) (ds : List ℕ) (g : Grammar S V A) → is_pair k.starts c ds g ≡ true → (l : Limits) (t u : Lexeme) (more : List Lexeme) → BegunBy (SpelledIn rule n) (BegunIn rule n) g l (t ∷ u ∷ more) → has ds (code_of u) ≡ true
  pair_begun k rule ok n c ds (seq g h) e l t u more (inl s) = absurd (only_begun k rule n c g (both (is_only c g) _ e).0 l t u more s)
  pair_begun k rule ok n c ds (seq g h) e l t u more (inr s) =
      let p = both (is_only c g) _ e in
      let q = both (not (may_be_empty h)) _ p.1 in
      let one = only_spelled k rule n c g p.0 l s.0 s.2 s.4 in
      let same : t ∷ u ∷ more ≡ one.0 ∷ s.1 = s.3 ∙ ap (λ v. v ++ s.1) one.1 in
      let left : s.1 ≡ u ∷ more = cc in
      covers_lem ds (first_codes k.starts h) (code_of u) (both (covers ds (first_codes k.starts h)) _ q.1).0 (first_sound k.starts (SpelledIn rule n) (BegunIn rule n) (known k rule ok n) h l s.1 s.5 u more left)
  pair_begun k rule ok n c ds (made f g) e l t u more s = pair_begun k rule ok n c ds g e l t u more s
  pair_begun k rule ok n c ds (placed g) e l t u more s = pair_begun k rule ok n c ds g e l t u more s
  pair_begun k rule ok n c ds (token codes) e l t u more s = cc
  pair_begun k rule ok n c ds (empty b) e l t u more s = cc
  pair_begun k rule ok n c ds (either g h) e l t u more s = cc
  pair_begun k rule ok n c ds (either2 d es g h) e l t u more s = cc
  pair_begun k rule ok n c ds (many g) e l t u more s = cc
  pair_begun k rule ok n c ds (nested o g) e l t u more s = cc
  pair_begun k rule ok n c ds end_name e l t u more s = cc
  pair_begun k rule ok n c ds (under called g h) e l t u more s = cc
  pair_begun k rule ok n c ds (unless test g h) e l t u more s = cc
  pair_begun k rule ok n c ds (symbol x) e l t u more s = cc

  -- the readers of the productions take what is begun, and read what is spelled
  pub record Takes (k : Tables S) (rule : Productions S V) (n : ℕ) (of : Reader S V) : Type 0 where
    pub enters_all : Enters S V k of
    pub reads_all : (x : S) (l : Limits) (w : List Lexeme) (a : V x) → SpelledIn rule n x l w a → (rest : List Lexeme) → Reached (k.laters x) a rest (of x l (w ++ rest))
    pub takes_all : (x : S) (l : Limits) (w : List Lexeme) → BegunIn rule n x l w → (rest : List Lexeme) → remaining (of x l (w ++ rest)) ≤ length rest

  -- where a token decides, the first of what is begun
  begun_first : {A : Type 0} (k : Tables S) (rule : Productions S V) → Checked S V k rule → (n : ℕ) (g : Grammar S V A) (l : Limits) (t : Lexeme) (more : List Lexeme) → BegunBy (SpelledIn rule n) (BegunIn rule n) g l (t ∷ more) → has (first_codes k.starts g) (code_of t) ≡ true
  begun_first k rule ok n g l t more b = first_sound k.starts (SpelledIn rule n) (BegunIn rule n) (known k rule ok n) g l (t ∷ more) b t more refl

  begun_second : {A : Type 0} (k : Tables S) (rule : Productions S V) → Checked S V k rule → (n : ℕ) (c : ℕ) → has k.specials c ≡ true → (g : Grammar S V A) (l : Limits) (t u : Lexeme) (more : List Lexeme) → BegunBy (SpelledIn rule n) (BegunIn rule n) g l (t ∷ u ∷ more) → code_of t ≡ c → has (second_codes k.starts (k.seconds c) c g) (code_of u) ≡ true
  begun_second k rule ok n c e g l t u more b i = second_sound k.starts (k.seconds c) c (SpelledIn rule n) (BegunIn rule n) (known k rule ok n) (λ x l t u more s i. seconds_known k rule ok c e n x l t u more s i) g l (t ∷ u ∷ more) b t u more refl i

  either_taken : {A : Type 0} (k : Tables S) (rule : Productions S V) → Checked S V k rule → (n : ℕ) (of : Reader S V) → Takes k rule n of → (g h : Grammar S V A) → Decided k (either g h) → (l : Limits) (w : List Lexeme) → BegunBy (SpelledIn rule n) (BegunIn rule n) (either g h) l w → (rest : List Lexeme)
      → (BegunBy (SpelledIn rule n) (BegunIn rule n) g l w → remaining (reads_by k.starts of g l (w ++ rest)) ≤ length rest) → (BegunBy (SpelledIn rule n) (BegunIn rule n) h l w → remaining (reads_by k.starts of h l (w ++ rest)) ≤ length rest) → remaining (reads_by k.starts of (either g h) l (w ++ rest)) ≤ length rest
  either_taken k rule ok n of m g h d l [] b rest ig ih = shrinks k.starts of m.enters_all.leaves (either g h) l rest
  either_taken k rule ok n of m g h d l (t ∷ w) (inl b) rest ig ih = rw (choose_true (has (first_codes k.starts g) (code_of t)) (reads_by k.starts of g l ((t ∷ w) ++ rest)) (reads_by k.starts of h l ((t ∷ w) ++ rest)) (begun_first k rule ok n g l t w b)) (ig b)
  either_taken k rule ok n of m g h d l (t ∷ w) (inr b) rest ig ih =
      let other = false_from (has (first_codes k.starts g) (code_of t)) (λ e. apart_lem (first_codes k.starts g) (first_codes k.starts h) (code_of t) d.3 e (begun_first k rule ok n h l t w b)) in
      rw (choose_false (has (first_codes k.starts g) (code_of t)) (reads_by k.starts of g l ((t ∷ w) ++ rest)) (reads_by k.starts of h l ((t ∷ w) ++ rest)) other) (ih b)

  pair_taken : {A : Type 0} (k : Tables S) (rule : Productions S V) → Checked S V k rule → (n : ℕ) (of : Reader S V) → Takes k rule n of → (c : ℕ) (ds : List ℕ) (g h : Grammar S V A) → Decided k (either2 c ds g h) → (l : Limits) (w : List Lexeme) → BegunBy (SpelledIn rule n) (BegunIn rule n) (either2 c ds g h) l w → (rest : List Lexeme)
      → (BegunBy (SpelledIn rule n) (BegunIn rule n) g l w → remaining (reads_by k.starts of g l (w ++ rest)) ≤ length rest) → (BegunBy (SpelledIn rule n) (BegunIn rule n) h l w → remaining (reads_by k.starts of h l (w ++ rest)) ≤ length rest) → remaining (reads_by k.starts of (either2 c ds g h) l (w ++ rest)) ≤ length rest
  pair_taken k rule ok n of m c ds g h d l [] b rest ig ih = shrinks k.starts of m.enters_all.leaves (either2 c ds g h) l rest
  pair_taken k rule ok n of m c ds g h d l (t ∷ []) (inl b) rest ig ih =
      let same = pair_first k.starts c ds (code_of t) g d.2 (begun_first k rule ok n g l t [] b) in
      choice_taken (length rest) (next_two c ds (t ∷ rest)) (reads_by k.starts of g l (t ∷ rest)) (reads_by k.starts of h l (t ∷ rest)) (λ e. ig b)
      (λ e. taken_plain (reads_by k.starts of h l (t ∷ rest)) t rest (enters k of m.enters_all false h d.1 l t rest (rw same at d.4)))
  pair_taken k rule ok n of m c ds g h d l (t ∷ []) (inr b) rest ig ih =
      choice_taken (length rest) (next_two c ds (t ∷ rest)) (reads_by k.starts of g l (t ∷ rest)) (reads_by k.starts of h l (t ∷ rest))
      (λ e. pair_takes k.starts of m.enters_all.leaves c ds g d.2 l t rest (two_first c ds t rest e)) (λ e. ih b)
  pair_taken k rule ok n of m c ds g h d l (t ∷ u ∷ w) (inl b) rest ig ih =
      let same = pair_first k.starts c ds (code_of t) g d.2 (begun_first k rule ok n g l t (u ∷ w) b) in
      rw (choose_true (next_two c ds ((t ∷ u ∷ w) ++ rest)) (reads_by k.starts of g l ((t ∷ u ∷ w) ++ rest)) (reads_by k.starts of h l ((t ∷ u ∷ w) ++ rest)) (two_next c ds t u (w ++ rest) same (pair_begun k rule ok n c ds g d.2 l t u w b))) (ig b)
  pair_taken k rule ok n of m c ds g h d l (t ∷ u ∷ w) (inr b) rest ig ih =
      choice_taken (length rest) (next_two c ds ((t ∷ u ∷ w) ++ rest)) (reads_by k.starts of g l ((t ∷ u ∷ w) ++ rest)) (reads_by k.starts of h l ((t ∷ u ∷ w) ++ rest))
      (λ e. let parts = both (c == code_of t) (has ds (code_of u)) e in
      absurd (apart_lem ds (second_codes k.starts (k.seconds c) c h) (code_of u) d.5 parts.1 (begun_second k rule ok n c d.3 h l t u w b (sym (eqb-true c (code_of t) parts.0)))))
      (λ e. ih b)

  each_taken : {A : Type 0} (k : Tables S) (rule : Productions S V) → Checked S V k rule → (n : ℕ) (of : Reader S V) → Takes k rule n of → (g : Grammar S V A) → Decided k (many g) → (l : Limits)
      → ((w : List Lexeme) → BegunBy (SpelledIn rule n) (BegunIn rule n) g l w → (v : List Lexeme) → remaining (reads_by k.starts of g l (w ++ v)) ≤ length v)
      → (list : List A) (w : List Lexeme) → BegunEach (SpelledBy (SpelledIn rule n) g l) (BegunBy (SpelledIn rule n) (BegunIn rule n) g l) w list → (rest : List Lexeme) (f : ℕ) → length (w ++ rest) ≤ f → remaining (each_from (first_codes k.starts g) (reads_by k.starts of g l) f (w ++ rest)) ≤ length rest
  each_taken {A = A} k rule ok n of m g d l ig [] [] b rest f len = each_shrinks (first_codes k.starts g) (reads_by k.starts of g l) (λ w. shrinks k.starts of m.enters_all.leaves g l w) f rest
  each_taken k rule ok n of m g d l ig [] (t ∷ w) b rest zero len = absurd (omega arith)
  each_taken {A = A} k rule ok n of m g d l ig [] (t ∷ w) b rest (suc f) len =
      let F = first_codes k.starts g in
      let R = reads_by k.starts of g l in
      let next : A × List Lexeme → Outcome (List A) = λ x. each_from F R f x.1 >>= λ y. read (x.0 ∷ y.0) y.1 in
      rw (choose_true {A = Outcome (List A)} (has F (code_of t)) (R ((t ∷ w) ++ rest) >>= next) (read [] ((t ∷ w) ++ rest)) (begun_first k rule ok n g l t w b))
      (le_trans (bind_shrinks (R ((t ∷ w) ++ rest)) next (λ x. rw (kept {B = List A} (λ y. x.0 ∷ y) (each_from F R f x.1)) (each_shrinks F R (λ w. shrinks k.starts of m.enters_all.leaves g l w) f x.1))) (ig (t ∷ w) b rest))
  each_taken k rule ok n of m g d l ig (a ∷ list) w s rest zero len =
      let first = some_first k rule ok n g d.1 l s.0 a s.3 in
      let e : length (w ++ rest) ≡ length ((first.0 ∷ first.1) ++ (s.1 ++ rest)) = ap length (ap (λ v. v ++ rest) (s.2 ∙ ap (λ v. v ++ s.1) first.2) ∙ append_assoc (first.0 ∷ first.1) s.1 rest) in
      absurd (omega arith)
  each_taken {A = A} k rule ok n of m g d l ig (a ∷ list) w s rest (suc f) len =
      let F = first_codes k.starts g in
      let R = reads_by k.starts of g l in
      let first = some_first k rule ok n g d.1 l s.0 a s.3 in
      let at : w ++ rest ≡ s.0 ++ (s.1 ++ rest) = ap (λ v. v ++ rest) s.2 ∙ append_assoc s.0 s.1 rest in
      let shape : w ++ rest ≡ (first.0 ∷ first.1) ++ (s.1 ++ rest) = at ∙ ap (λ v. v ++ (s.1 ++ rest)) first.2 in
      let shorter : length (s.1 ++ rest) ≤ f = let e : length (w ++ rest) ≡ suc (length (first.1 ++ (s.1 ++ rest))) = ap length shape in omega (arith, length-append first.1 (s.1 ++ rest)) in
      let next : A × List Lexeme → Outcome (List A) = λ x. each_from F R f x.1 >>= λ y. read (x.0 ∷ y.0) y.1 in
      rw (choose_true {A = Outcome (List A)} (next_in F (w ++ rest)) (R (w ++ rest) >>= next) (read [] (w ++ rest)) (ap (next_in F) shape ∙ first.3))
      (subst (λ v. remaining (R v >>= next) ≤ length rest) (sym at)
      (step_taken {C = List A} (later_codes k.starts k.laters g) F R (λ x. each_from F R f) (λ x y. x ∷ y) s.0 s.1 rest a
      (reached k rule ok n of m.enters_all m.reads_all g d.0 l s.0 a s.3) d.2
      (λ t v e. first_sound k.starts (SpelledIn rule n) (BegunIn rule n) (known k rule ok n) (many g) l s.1 (list, s.4) t v e)
      (ig s.0 (spelled_begun k.starts (SpelledIn rule n) (BegunIn rule n) (known k rule ok n) g l s.0 a s.3) rest)
      (each_taken k rule ok n of m g d l ig list s.1 s.4 rest f shorter)
      (λ x w. each_shrinks F R (λ w. shrinks k.starts of m.enters_all.leaves g l w) f w)))

  unless_taken : {A B : Type 0} (k : Tables S) (rule : Productions S V) → Checked S V k rule → (n : ℕ) (of : Reader S V) → Takes k rule n of → (test : Lexeme → A → Bool) (g : Grammar S V A) (h : Grammar S V B) → Decided k (unless test g h) → (l : Limits) (front rest' rest : List Lexeme) (a : A) → SpelledBy (SpelledIn rule n) g l front a → BegunBy (SpelledIn rule n) (BegunIn rule n) h l rest'
      → remaining (reads_by k.starts of g l (front ++ rest)) ≤ length rest → (BegunBy (SpelledIn rule n) (BegunIn rule n) h l rest' → remaining (reads_by k.starts of h l (rest' ++ rest)) ≤ length rest)
      → remaining (reads_by k.starts of g l (front ++ (rest' ++ rest)) >>= unless_rest k.starts of test h l (front ++ (rest' ++ rest))) ≤ length rest
  unless_taken k rule ok n of m test g h d l front [] rest a s b here there = le_trans (bind_shrinks (reads_by k.starts of g l (front ++ rest)) (unless_rest k.starts of test h l (front ++ rest)) (unless_shrinks k.starts of m.enters_all.leaves test h l (front ++ rest))) here
  unless_taken {A = A} {B = B} k rule ok n of m test g h d l front (t ∷ v) rest a s b here there =
      let G = later_codes k.starts k.laters g in
      let F = first_codes k.starts h in
      let w = (t ∷ v) ++ rest in
      let next : next_in F w ≡ true = begun_first k rule ok n h l t v b in
      let sure : reads_by k.starts of g l (front ++ w) ≡ read a w = reached_sure G a w (reads_by k.starts of g l (front ++ w)) (next_in_apart G F w d.4 next) (reached k rule ok n of m.enters_all m.reads_all g d.0 l front a s w) in
      let alone : Outcome (A × Option B) = (if first_passes test (front ++ w) a then read (a, None) w else stuck Misplaced w) in
      subst (λ o. remaining (o >>= unless_rest k.starts of test h l (front ++ w)) ≤ length rest) (sym sure)
      (subst (λ o. remaining {A = A × Option B} o ≤ length rest) (sym (choose_true (next_in F w) (reads_by k.starts of h l w >>= λ y. read (a, Some y.0) y.1) alone next))
      (rw (kept {B = A × Option B} (λ y. (a, Some y)) (reads_by k.starts of h l w)) (there b)))

  -- What is begun is taken.
  pub taken : {A : Type 0} (k : Tables S) (rule : Productions S V) → Checked S V k rule → (n : ℕ) (of : Reader S V) → Takes k rule n of → (g : Grammar S V A) → Decided k g → (l : Limits) (w : List Lexeme) → BegunBy (SpelledIn rule n) (BegunIn rule n) g l w → (rest : List Lexeme) → remaining (reads_by k.starts of g l (w ++ rest)) ≤ length rest
  taken k rule ok n of m (empty a) d l w b rest = rw b (le_refl (length rest))
  taken k rule ok n of m (token codes) d l w (inl b) rest = rw b (token_shrinks codes rest)
  taken k rule ok n of m (token codes) d l w (inr b) rest =
      subst (λ v. remaining (reads_token codes (v ++ rest)) ≤ length rest) (sym b.1) (rw (choose_true (has codes (code_of b.0)) (read b.0 rest) (stuck Misplaced (b.0 ∷ rest)) b.2) (le_refl (length rest)))
  taken k rule ok n of m (seq {A = A} {B = B} g h) d l w (inl b) rest = le_trans (bind_shrinks (reads_by k.starts of g l (w ++ rest)) (λ x. reads_by k.starts of h l x.1 >>= λ y. read (x.0, y.0) y.1) (rest_shrinks {C = A × B} k.starts of m.enters_all.leaves h l (λ a z. (a, z)))) (taken k rule ok n of m g d.0 l w b rest)
  taken k rule ok n of m (seq {A = A} {B = B} g h) d l w (inr b) rest =
      subst (λ v. remaining (reads_by k.starts of (seq g h) l v) ≤ length rest) (sym (ap (λ v. v ++ rest) b.3 ∙ append_assoc b.0 b.1 rest))
      (step_taken {C = A × B} (later_codes k.starts k.laters g) (first_codes k.starts h) (reads_by k.starts of g l) (λ x. reads_by k.starts of h l) (λ x y. (x, y)) b.0 b.1 rest b.2
      (reached k rule ok n of m.enters_all m.reads_all g d.0 l b.0 b.2 b.4) d.2
      (λ t v e. first_sound k.starts (SpelledIn rule n) (BegunIn rule n) (known k rule ok n) h l b.1 b.5 t v e)
      (taken k rule ok n of m g d.0 l b.0 (spelled_begun k.starts (SpelledIn rule n) (BegunIn rule n) (known k rule ok n) g l b.0 b.2 b.4) rest)
      (taken k rule ok n of m h d.1 l b.1 b.5 rest)
      (λ x w. shrinks k.starts of m.enters_all.leaves h l w))
  taken k rule ok n of m (either g h) d l w b rest = either_taken k rule ok n of m g h d l w b rest (λ c. taken k rule ok n of m g d.0 l w c rest) (λ c. taken k rule ok n of m h d.1 l w c rest)
  taken k rule ok n of m (either2 c ds g h) d l w b rest = pair_taken k rule ok n of m c ds g h d l w b rest (λ c. taken k rule ok n of m g d.0 l w c rest) (λ c. taken k rule ok n of m h d.1 l w c rest)
  taken k rule ok n of m (many g) d l w b rest = each_taken k rule ok n of m g d l (λ w c v. taken k rule ok n of m g d.0 l w c v) b.0 w b.1 rest (length (w ++ rest)) (le_refl (length (w ++ rest)))
  taken k rule ok n of m (made f g) d l w b rest = rw (kept f (reads_by k.starts of g l (w ++ rest))) (taken k rule ok n of m g d l w b rest)
  taken k rule ok n of m (placed {A = A} g) d l w b rest = rw (kept {B = Place × A} (λ x. (place_of_first (w ++ rest), x)) (reads_by k.starts of g l (w ++ rest))) (taken k rule ok n of m g d.0 l w b rest)
  taken k rule ok n of m (nested o g) d l w (inl b) rest = subst (λ v. remaining (reads_by k.starts of (nested o g) l (v ++ rest)) ≤ length rest) (sym b) (shrinks k.starts of m.enters_all.leaves (nested o g) l rest)
  taken k rule ok n of m (nested o g) d l w (inr b) rest =
      subst (λ left. remaining (reads_inside (next_in (first_codes k.starts g) (w ++ rest)) left (λ i. reads_by k.starts of g i (w ++ rest)) (w ++ rest)) ≤ length rest) (sym b.1) (taken k rule ok n of m g d.0 b.0 w b.2 rest)
  taken k rule ok n of m end_name d l w (inl b) rest = rw b (end_shrinks (end_name_in l) rest)
  taken k rule ok n of m end_name d l w (inr b) rest =
      let sure = reached_sure [] b.0 rest (reads_by k.starts of end_name l (w ++ rest)) (none rest) (reached k rule ok n of m.enters_all m.reads_all end_name d l w b.0 (b.1, b.2, b.3) rest) in
      subst (λ o. remaining o ≤ length rest) (sym sure) (le_refl (length rest))
    where
      none : (w : List Lexeme) → next_in [] w ≡ false
      none [] = refl
      none (t ∷ w) = refl
  taken k rule ok n of m (under {A = A} {B = B} called g h) d l w (inl b) rest = le_trans (bind_shrinks (reads_by k.starts of g l (w ++ rest)) (λ x. reads_by k.starts of h (renamed (called x.0) l) x.1 >>= λ y. read (x.0, y.0) y.1) (under_shrinks {C = A × B} k.starts of m.enters_all.leaves called h l (λ a z. (a, z)))) (taken k rule ok n of m g d.0 l w b rest)
  taken k rule ok n of m (under {A = A} {B = B} called g h) d l w (inr b) rest =
      subst (λ v. remaining (reads_by k.starts of (under called g h) l v) ≤ length rest) (sym (ap (λ v. v ++ rest) b.3 ∙ append_assoc b.0 b.1 rest))
      (step_taken {C = A × B} (later_codes k.starts k.laters g) (first_codes k.starts h) (reads_by k.starts of g l) (λ x. reads_by k.starts of h (renamed (called x) l)) (λ x y. (x, y)) b.0 b.1 rest b.2
      (reached k rule ok n of m.enters_all m.reads_all g d.0 l b.0 b.2 b.4) d.2
      (λ t v e. first_sound k.starts (SpelledIn rule n) (BegunIn rule n) (known k rule ok n) h (renamed (called b.2) l) b.1 b.5 t v e)
      (taken k rule ok n of m g d.0 l b.0 (spelled_begun k.starts (SpelledIn rule n) (BegunIn rule n) (known k rule ok n) g l b.0 b.2 b.4) rest)
      (taken k rule ok n of m h d.1 (renamed (called b.2) l) b.1 b.5 rest)
      (λ x w. shrinks k.starts of m.enters_all.leaves h (renamed (called x) l) w))
  taken k rule ok n of m (unless test g h) d l w (inl b) rest = le_trans (bind_shrinks (reads_by k.starts of g l (w ++ rest)) (unless_rest k.starts of test h l (w ++ rest)) (unless_shrinks k.starts of m.enters_all.leaves test h l (w ++ rest))) (taken k rule ok n of m g d.0 l w b rest)
  taken k rule ok n of m (unless test g h) d l w (inr b) rest =
      subst (λ v. remaining (reads_by k.starts of g l v >>= unless_rest k.starts of test h l v) ≤ length rest) (sym (ap (λ v. v ++ rest) b.3 ∙ append_assoc b.0 b.1 rest))
      (unless_taken k rule ok n of m test g h d l b.0 b.1 rest b.2 b.4 b.5 (taken k rule ok n of m g d.0 l b.0 (spelled_begun k.starts (SpelledIn rule n) (BegunIn rule n) (known k rule ok n) g l b.0 b.2 b.4) rest) (λ c. taken k rule ok n of m h d.1 l b.1 c rest))
  taken k rule ok n of m (symbol x) d l w b rest = m.takes_all x l w b rest
