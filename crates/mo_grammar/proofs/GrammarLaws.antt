-- The laws of a grammar that passes the test: what reading gives is what is spelled, one way and as far as it goes, and where
-- it is stuck stands the first impossible token, with its reason.
use Rattle.std.proofs.Common.{◌≡◌, ℕ, zero, suc, ◌+◌, ◌*◌, ◌<◌, ◌≤◌, Bool, true, false, List, [], ◌∷◌, ◌++◌, inl, inr, length, refl, sym, ap, subst, ◌∙◌, le_of_eq, arith, append_assoc, append-nil, length-append}
use Rattle.mo_grammar.specs.declared.fault.Fault.{Fault}
use Rattle.mo_grammar.specs.declared.fault.Fault.TheVariants.{Misplaced, Misnamed, TooDeep}
use Rattle.mo_grammar.specs.Codes.{ident}
use Rattle.mo_grammar.specs.Lexeme.{Lexeme, code_of}
use Rattle.mo_grammar.specs.Grammar.{EndName, any_name, Limits, at_most, end_name_in, identifiers, has, Productions, SpelledIn, BegunIn, SpelledAs, BegunAs}
use Rattle.mo_grammar.specs.Reading.{Outcome, read, stuck, unfinished, later_codes, next_in, reads_by, reads_within, reads_as, lifted, Tables}
use Rattle.mo_grammar.specs.Openness.{BegunAtAnyDepth, ImpossibleAfter, FaultAfter, LongestFront}
use Rattle.mo_grammar.proofs.Codes.{never, has_one, shorter_or_same, cuts, next_in_covers}
use Rattle.mo_grammar.proofs.Limits.{Below, both_limits, below_left, below_right, both_names, names_raised}
use Rattle.mo_grammar.proofs.Outcomes.{remaining, Finished}
use Rattle.mo_grammar.proofs.Entering.{Enters}
use Rattle.mo_grammar.proofs.Soundness.{Sound}
use Rattle.mo_grammar.proofs.Checked.{Checked, known, within_sound, within_enters}
use Rattle.mo_grammar.proofs.Steps.{reads_agree}
use Rattle.mo_grammar.proofs.Growing.{Grown, within_grows, grown_left, grown_read, grown_misplaced, grown_misnamed}
use Rattle.mo_grammar.proofs.Complete.{Reached, reached}
use Rattle.mo_grammar.proofs.Taken.{taken}
use Rattle.mo_grammar.proofs.Fronts.{front_begins}

module _ {S : Type 0} {V : S → Type 0} where
  -- ---- the reader of the productions

  pub reads_is : (k : Tables S) (rule : Productions S V) → Checked S V k rule → (x : S) (l : Limits) (w : List Lexeme) → reads_as k rule x l w ≡ reads_by k.starts (reads_as k rule) (rule x) l w
  reads_is k rule ok x l w = (reads_agree k rule ok x l w).0

  pub reads_finished : (k : Tables S) (rule : Productions S V) → Checked S V k rule → (x : S) (l : Limits) (w : List Lexeme) → Finished (reads_as k rule x l w)
  reads_finished k rule ok x l w = (reads_agree k rule ok x l w).1

  reads_enter : (k : Tables S) (rule : Productions S V) → Checked S V k rule → Enters S V k (reads_as k rule)
  unfolding reads_as
  reads_enter k rule ok = record {
    plain_starts = λ x c e. (within_enters k rule ok zero).plain_starts x c e;
    leaves = λ x l w. (within_enters k rule ok (length w * k.ranks + k.rank x + 1)).leaves x l w;
    takes = λ i x l t more e. (within_enters k rule ok (length (t ∷ more) * k.ranks + k.rank x + 1)).takes i x l t more e;
  }

  reads_reach : (k : Tables S) (rule : Productions S V) → Checked S V k rule → (n : ℕ) (x : S) (l : Limits) (w : List Lexeme) (a : V x) → SpelledIn rule n x l w a → (rest : List Lexeme) → Reached (k.laters x) a rest (reads_as k rule x l (w ++ rest))
  reads_reach k rule ok zero x l w a s rest = absurd s
  reads_reach k rule ok (suc n) x l w a s rest =
      subst (Reached (k.laters x) a rest) (sym (reads_is k rule ok x l (w ++ rest)))
      (elim (reached k rule ok n (reads_as k rule) (reads_enter k rule ok) (λ x l w a s rest. reads_reach k rule ok n x l w a s rest) (rule x) (ok.dec x) l w a s rest) [
        | inl e ↦ inl e
        | inr e ↦ inr (next_in_covers (k.laters x) (later_codes k.starts k.laters (rule x)) rest (ok.laters_all x) e.0, e.1)
      ])

  reads_take : (k : Tables S) (rule : Productions S V) → Checked S V k rule → (n : ℕ) (x : S) (l : Limits) (w : List Lexeme) → BegunIn rule n x l w → (rest : List Lexeme) → remaining (reads_as k rule x l (w ++ rest)) ≤ length rest
  reads_take k rule ok zero x l w b rest = subst (λ v. remaining (reads_as k rule x l (v ++ rest)) ≤ length rest) (sym b) ((reads_enter k rule ok).leaves x l rest)
  reads_take k rule ok (suc n) x l w b rest =
      subst (λ o. remaining o ≤ length rest) (sym (reads_is k rule ok x l (w ++ rest)))
      (taken k rule ok n (reads_as k rule) (record { enters_all = reads_enter k rule ok; reads_all = λ x l w a s rest. reads_reach k rule ok n x l w a s rest; takes_all = λ x l w b rest. reads_take k rule ok n x l w b rest }) (rule x) (ok.dec x) l w b rest)

  -- ---- what is read, and what was taken before a fault

  sound_as : (k : Tables S) (rule : Productions S V) (n : ℕ) (x : S) (l : Limits) (w : List Lexeme) (o : Outcome (V x)) → Sound (SpelledIn rule n x l) (BegunIn rule n x) l w o → Sound (SpelledAs rule x l) (BegunAs rule x) l w o
  sound_as k rule n x l w (read a rest) s = (s.0, s.1, (n, s.2))
  sound_as k rule n x l w (stuck Misplaced rest) s = (s.0, s.1, (n, s.2), tt)
  sound_as k rule n x l w (stuck Misnamed rest) s = (s.0, s.1, (n, s.2), (let p = s.3 in (p.0, p.1, p.2, (n, p.3), p.4)))
  sound_as k rule n x l w (stuck TooDeep rest) s = (s.0, s.1, (n, s.2), (let p = s.3 in (p.0, p.1, p.2, (n, p.3))))
  sound_as k rule n x l w unfinished s = tt

  pub reads_sound : (k : Tables S) (rule : Productions S V) → Checked S V k rule → (x : S) (l : Limits) (w : List Lexeme) → Sound (SpelledAs rule x l) (BegunAs rule x) l w (reads_as k rule x l w)
  unfolding reads_as
  reads_sound k rule ok x l w =
      let n = length w * k.ranks + k.rank x + 1 in
      sound_as k rule n x l w (reads_within k.starts rule n x l w) (within_sound k rule ok n x l w)

  -- ---- limits that allow more

  pub grown_as : (k : Tables S) (rule : Productions S V) → Checked S V k rule → (stay : Bool) (x : S) (l m : Limits) → Below l m → (stay ≡ true → end_name_in l ≡ end_name_in m) → (w : List Lexeme) → Grown stay (reads_as k rule x l w) (reads_as k rule x m w)
  unfolding reads_as
  grown_as k rule ok y x l m b f w = within_grows k rule ok (length w * k.ranks + k.rank x + 1) y x l m b f w

  -- ---- what cannot go on

  -- A token that every raised reading leaves where it stands is begun within no limits, of the names that stay.
  no_more : (k : Tables S) (rule : Productions S V) → Checked S V k rule → (y : Bool) (x : S) (l m : Limits) → (y ≡ true → end_name_in l ≡ end_name_in m) → (w before : List Lexeme) (t : Lexeme) (more : List Lexeme) → w ≡ before ++ t ∷ more
      → ((j : Limits) → Below l j → (y ≡ true → end_name_in l ≡ end_name_in j) → length (t ∷ more) ≤ remaining (reads_as k rule x j w)) → BegunAs rule x m (before ++ t ∷ []) → ⊥
  no_more k rule ok y x l m names w before t more parts stays b =
      let j = both_limits l m in
      let whole : (before ++ t ∷ []) ++ more ≡ w = append_assoc before (t ∷ []) more ∙ sym parts in
      let takes : remaining (reads_as k rule x m w) ≤ length more = subst (λ v. remaining (reads_as k rule x m v) ≤ length more) whole (reads_take k rule ok b.0 x m (before ++ t ∷ []) b.1 more) in
      let grown : remaining (reads_as k rule x j w) ≤ remaining (reads_as k rule x m w) = grown_left false (reads_as k rule x m w) (reads_as k rule x j w) (grown_as k rule ok false x m j (below_right l m) (λ e. never true refl (sym e)) w) (reads_finished k rule ok x j w) in
      let left : length (t ∷ more) ≤ remaining (reads_as k rule x j w) = stays j (below_left l m) (λ e. both_names l m (names e)) in
      omega arith

  read_stays : (k : Tables S) (rule : Productions S V) → Checked S V k rule → (x : S) (l : Limits) (w : List Lexeme) (a : V x) (rest : List Lexeme) → reads_as k rule x l w ≡ read a rest → (j : Limits) → Below l j → reads_as k rule x j w ≡ read a rest
  read_stays k rule ok x l w a rest e j b = grown_read false a rest (reads_as k rule x j w) (subst (λ o. Grown false o (reads_as k rule x j w)) e (grown_as k rule ok false x l j b (λ e. never true refl (sym e)) w)) (reads_finished k rule ok x j w)

  misplaced_stays : (k : Tables S) (rule : Productions S V) → Checked S V k rule → (x : S) (l : Limits) (w rest : List Lexeme) → reads_as k rule x l w ≡ stuck Misplaced rest → (j : Limits) → Below l j → reads_as k rule x j w ≡ stuck Misplaced rest
  misplaced_stays k rule ok x l w rest e j b = grown_misplaced false rest (reads_as k rule x j w) (subst (λ o. Grown false o (reads_as k rule x j w)) e (grown_as k rule ok false x l j b (λ e. never true refl (sym e)) w)) (reads_finished k rule ok x j w)

  misnamed_stays : (k : Tables S) (rule : Productions S V) → Checked S V k rule → (x : S) (l : Limits) (w rest : List Lexeme) → reads_as k rule x l w ≡ stuck Misnamed rest → (j : Limits) → Below l j → end_name_in l ≡ end_name_in j → reads_as k rule x j w ≡ stuck Misnamed rest
  misnamed_stays k rule ok x l w rest e j b names = grown_misnamed rest (reads_as k rule x j w) (subst (λ o. Grown true o (reads_as k rule x j w)) e (grown_as k rule ok true x l j b (λ t. names) w)) (reads_finished k rule ok x j w)

  read_ends : (k : Tables S) (rule : Productions S V) → Checked S V k rule → (x : S) (l m : Limits) (w : List Lexeme) (a : V x) (rest : List Lexeme) → reads_as k rule x l w ≡ read a rest → (before : List Lexeme) → w ≡ before ++ rest → (t : Lexeme) (more : List Lexeme) → rest ≡ t ∷ more → BegunAs rule x m (before ++ t ∷ []) → ⊥
  read_ends k rule ok x l m w a rest e before parts t more next =
      no_more k rule ok false x l m (λ e. never true refl (sym e)) w before t more (parts ∙ ap (λ v. before ++ v) next)
      (λ j b n. le_of_eq (sym (ap length next) ∙ sym (ap remaining (read_stays k rule ok x l w a rest e j b))))

  misplaced_ends : (k : Tables S) (rule : Productions S V) → Checked S V k rule → (x : S) (l m : Limits) (w rest : List Lexeme) → reads_as k rule x l w ≡ stuck Misplaced rest → (before : List Lexeme) → w ≡ before ++ rest → (t : Lexeme) (more : List Lexeme) → rest ≡ t ∷ more → BegunAs rule x m (before ++ t ∷ []) → ⊥
  misplaced_ends k rule ok x l m w rest e before parts t more next =
      no_more k rule ok false x l m (λ e. never true refl (sym e)) w before t more (parts ∙ ap (λ v. before ++ v) next)
      (λ j b n. le_of_eq (sym (ap length next) ∙ sym (ap remaining (misplaced_stays k rule ok x l w rest e j b))))

  misnamed_ends : (k : Tables S) (rule : Productions S V) → Checked S V k rule → (x : S) (l m : Limits) → end_name_in l ≡ end_name_in m → (w rest : List Lexeme) → reads_as k rule x l w ≡ stuck Misnamed rest → (before : List Lexeme) → w ≡ before ++ rest → (t : Lexeme) (more : List Lexeme) → rest ≡ t ∷ more → BegunAs rule x m (before ++ t ∷ []) → ⊥
  misnamed_ends k rule ok x l m names w rest e before parts t more next =
      no_more k rule ok true x l m (λ y. names) w before t more (parts ∙ ap (λ v. before ++ v) next)
      (λ j b n. le_of_eq (sym (ap length next) ∙ sym (ap remaining (misnamed_stays k rule ok x l w rest e j b (n refl)))))

  deep_ends : (k : Tables S) (rule : Productions S V) → Checked S V k rule → (x : S) (l : Limits) (w rest : List Lexeme) (fault : Fault) → reads_as k rule x l w ≡ stuck fault rest → (before : List Lexeme) → w ≡ before ++ rest → (t : Lexeme) (more : List Lexeme) → rest ≡ t ∷ more → BegunAs rule x l (before ++ t ∷ []) → ⊥
  deep_ends k rule ok x l w rest fault e before parts t more next b =
      let whole : (before ++ t ∷ []) ++ more ≡ w = append_assoc before (t ∷ []) more ∙ sym (parts ∙ ap (λ v. before ++ v) next) in
      let takes : remaining (reads_as k rule x l w) ≤ length more = subst (λ v. remaining (reads_as k rule x l v) ≤ length more) whole (reads_take k rule ok b.0 x l (before ++ t ∷ []) b.1 more) in
      let left : remaining (reads_as k rule x l w) ≡ length (t ∷ more) = ap remaining e ∙ ap length next in
      omega arith

  at_any_depth : (rule : Productions S V) (x : S) (l : Limits) (w : List Lexeme) → BegunAs rule x l w → BegunAtAnyDepth rule (end_name_in l) x w
  at_any_depth rule x (at_most n c f) w b = (n, c, b)

  spelled_begins_as : (k : Tables S) (rule : Productions S V) → Checked S V k rule → (x : S) (l : Limits) (w : List Lexeme) (a : V x) → SpelledAs rule x l w a → BegunAs rule x l w
  spelled_begins_as k rule ok x l w a s = (s.0, (known k rule ok s.0).spelled_begins x l w a s.1)

  -- ---- the laws

  -- What is read is the longest run of the tokens that begins the production, and it is spelled.
  pub read_law : (k : Tables S) (rule : Productions S V) → Checked S V k rule → (x : S) (l : Limits) (w : List Lexeme) (a : V x) (rest : List Lexeme) → reads_as k rule x l w ≡ read a rest → (front : List Lexeme) × LongestFront S V rule x (end_name_in l) w front rest × SpelledAs rule x l front a
  read_law k rule ok x l w a rest e =
      let s : Sound (SpelledAs rule x l) (BegunAs rule x) l w (read a rest) = subst (Sound (SpelledAs rule x l) (BegunAs rule x) l w) e (reads_sound k rule ok x l w) in (
        s.0,
        record {
          parts = s.1;
          begun = at_any_depth rule x l s.0 (spelled_begins_as k rule ok x l s.0 a s.2);
          ends = λ t more next b. read_ends k rule ok x l (at_most b.0 b.1 (end_name_in l)) w a rest e s.0 s.1 t more next b.2;
        },
        s.2,
      )

  taken_before : (k : Tables S) (rule : Productions S V) → Checked S V k rule → (x : S) (l : Limits) (w rest : List Lexeme) (fault : Fault) → reads_as k rule x l w ≡ stuck fault rest → Sound (SpelledAs rule x l) (BegunAs rule x) l w (stuck fault rest)
  taken_before k rule ok x l w rest fault e = subst (Sound (SpelledAs rule x l) (BegunAs rule x) l w) e (reads_sound k rule ok x l w)

  -- Where reading is stuck, the next token is the first impossible one, with its reason.
  pub stuck_law : (k : Tables S) (rule : Productions S V) → Checked S V k rule → (x : S) (l : Limits) (w rest : List Lexeme) (fault : Fault) → reads_as k rule x l w ≡ stuck fault rest → (before : List Lexeme) × (w ≡ before ++ rest) × BegunAs rule x l before × ((t : Lexeme) (more : List Lexeme) → rest ≡ t ∷ more → ImpossibleAfter rule x l before t × FaultAfter rule x l before t fault)
  stuck_law k rule ok x l w rest Misplaced e =
      let s = taken_before k rule ok x l w rest Misplaced e in (
        s.0,
        s.1,
        s.2,
        λ t more next. (
          (s.2, misplaced_ends k rule ok x l l w rest e s.0 s.1 t more next),
          ((λ b. misplaced_ends k rule ok x l (at_most b.0 b.1 (end_name_in l)) w rest e s.0 s.1 t more next b.2), (λ b. misplaced_ends k rule ok x l (at_most b.0 b.1 any_name) w rest e s.0 s.1 t more next b.2)),
        ),
      )
  stuck_law k rule ok x l w rest Misnamed e =
      let s = taken_before k rule ok x l w rest Misnamed e in (
        s.0,
        s.1,
        s.2,
        λ t more next. (
          (s.2, misnamed_ends k rule ok x l l refl w rest e s.0 s.1 t more next),
          ((λ b. misnamed_ends k rule ok x l (at_most b.0 b.1 (end_name_in l)) refl w rest e s.0 s.1 t more next b.2), freed l s.0 t (let p = s.3 in same_next s.0 t more rest next l Misnamed (p.0, p.1, p.2, p.3))),
        ),
      )
    where
      freed : (l : Limits) (before : List Lexeme) (t : Lexeme) → BegunAs rule x (lifted Misnamed l) (before ++ t ∷ []) → BegunAtAnyDepth rule any_name x (before ++ t ∷ [])
      freed (at_most n c f) before t b = (n, c, b)

      same_next : (before : List Lexeme) (t : Lexeme) (more rest : List Lexeme) → rest ≡ t ∷ more → (l : Limits) (fault : Fault) → ((u : Lexeme) × (v : List Lexeme) × (rest ≡ u ∷ v) × BegunAs rule x (lifted fault l) (before ++ u ∷ [])) → BegunAs rule x (lifted fault l) (before ++ t ∷ [])
      same_next before t more rest next l fault p = let same : p.0 ≡ t = let a = p.2 in cc in subst (λ u. BegunAs rule x (lifted fault l) (before ++ u ∷ [])) same p.3
  stuck_law k rule ok x l w rest TooDeep e =
      let s = taken_before k rule ok x l w rest TooDeep e in
      (s.0, s.1, s.2, λ t more next. ((s.2, deep_ends k rule ok x l w rest TooDeep e s.0 s.1 t more next), raised l s.0 t (same_next s.0 t more rest next l TooDeep s.3)))
    where
      raised : (l : Limits) (before : List Lexeme) (t : Lexeme) → BegunAs rule x (lifted TooDeep l) (before ++ t ∷ []) → BegunAtAnyDepth rule (end_name_in l) x (before ++ t ∷ [])
      raised (at_most n c f) before t b = (suc n, suc c, b)

      same_next : (before : List Lexeme) (t : Lexeme) (more rest : List Lexeme) → rest ≡ t ∷ more → (l : Limits) (fault : Fault) → ((u : Lexeme) × (v : List Lexeme) × (rest ≡ u ∷ v) × BegunAs rule x (lifted fault l) (before ++ u ∷ [])) → BegunAs rule x (lifted fault l) (before ++ t ∷ [])
      same_next before t more rest next l fault p = let same : p.0 ≡ t = let a = p.2 in cc in subst (λ u. BegunAs rule x (lifted fault l) (before ++ u ∷ [])) same p.3

  -- The tokens spell at most one value, whatever the limits are.
  pub one_value : (k : Tables S) (rule : Productions S V) → Checked S V k rule → (x : S) (l m : Limits) (w : List Lexeme) (a b : V x) → SpelledAs rule x l w a → SpelledAs rule x m w b → a ≡ b
  one_value k rule ok x l m w a b s s' =
      let j = both_limits l m in
      let one : reads_as k rule x j w ≡ read a [] = read_stays k rule ok x l w a [] (whole l a s) j (below_left l m) in
      let other : reads_as k rule x j w ≡ read b [] = read_stays k rule ok x m w b [] (whole m b s') j (below_right l m) in
      let same : (let o : Outcome (V x) = read a [] in o ≡ read b []) = sym one ∙ other in
      cc
    where
      whole : (l : Limits) (a : V x) → SpelledAs rule x l w a → reads_as k rule x l w ≡ read a []
      whole l a s = subst (λ v. reads_as k rule x l v ≡ read a []) (append-nil w) (elim (reads_reach k rule ok s.0 x l w a s.1 []) [ inl e ↦ e | inr e ↦ let f = e.0 in cc ])

  -- What follows a longest front is where reading stops: nothing longer was taken.
  not_longer : (k : Tables S) (rule : Productions S V) → Checked S V k rule → (x : S) (y : EndName) (l : Limits) → end_name_in l ≡ y → (w front rest : List Lexeme) → LongestFront S V rule x y w front rest → (taken left : List Lexeme) → w ≡ taken ++ left → BegunAs rule x l taken → length left < length rest → ⊥
  not_longer k rule ok x y l names w front rest f taken left parts b less =
      elim (cuts front rest taken left (sym f.parts ∙ parts)) [
        | inl m ↦ longer m.0 m.1 m.2
        | inr m ↦ let e : length left ≡ length m.0 + length rest = ap length m.2 ∙ length-append m.0 rest in omega arith
      ]
    where
      longer : (m : List Lexeme) → taken ≡ front ++ m → rest ≡ m ++ left → ⊥
      longer [] e d = let same : length rest ≡ length left = ap length d in omega arith
      longer (t ∷ m) e d =
          let begun : BegunAs rule x l ((front ++ t ∷ []) ++ m) = subst (BegunAs rule x l) (e ∙ sym (append_assoc front (t ∷ []) m)) b in
          f.ends t (m ++ left) d (subst (λ y. BegunAtAnyDepth rule y x (front ++ t ∷ [])) names (at_any_depth rule x l (front ++ t ∷ []) (front_begins k rule ok x l (front ++ t ∷ []) m begun)))

  -- The longest front, if it is spelled within the limits, is what is read.
  pub whole_law : (k : Tables S) (rule : Productions S V) → Checked S V k rule → (x : S) → has (k.laters x) ident ≡ false → (l : Limits) (w front rest : List Lexeme) (a : V x) → LongestFront S V rule x (end_name_in l) w front rest → SpelledAs rule x l front a → reads_as k rule x l w ≡ read a rest
  whole_law k rule ok x plain l w front rest a f s =
      subst (λ v. reads_as k rule x l v ≡ read a rest) (sym f.parts) (go (reads_as k rule x l (front ++ rest)) (reads_reach k rule ok s.0 x l front a s.1 rest) (reads_sound k rule ok x l (front ++ rest)) (reads_finished k rule ok x l (front ++ rest)))
    where
      misnamed : (left : List Lexeme) → next_in (k.laters x) rest ≡ true → length left < length rest + 1 → (p : Sound (SpelledAs rule x l) (BegunAs rule x) l (front ++ rest) (stuck Misnamed left)) → has identifiers (code_of (let past = p.3 in past.0)) ≡ true → ⊥
      misnamed left e less p named =
          let past = p.3 in
          elim (shorter_or_same front p.0 rest left p.1 less) [
            | inl h ↦ not_longer k rule ok x (end_name_in l) l refl w front rest f p.0 left (f.parts ∙ p.1) p.2 h
            | inr same ↦ never (has (k.laters x) ident) (subst (λ c. has (k.laters x) c ≡ true) (sym (has_one ident (code_of past.0) named)) (subst (λ v. next_in (k.laters x) v ≡ true) (same ∙ past.2) e)) plain
          ]

      go : (o : Outcome (V x)) → Reached (k.laters x) a rest o → Sound (SpelledAs rule x l) (BegunAs rule x) l (front ++ rest) o → Finished o → o ≡ read a rest
      go o (inl e) p g = e
      go (read b left) (inr e) p g = absurd (not_longer k rule ok x (end_name_in l) l refl w front rest f p.0 left (f.parts ∙ p.1) (spelled_begins_as k rule ok x l p.0 b p.2) e.1)
      go (stuck Misplaced left) (inr e) p g = absurd (not_longer k rule ok x (end_name_in l) l refl w front rest f p.0 left (f.parts ∙ p.1) p.2 (let less = e.1 in omega arith))
      go (stuck Misnamed left) (inr e) p g = absurd (misnamed left e.0 e.1 p (let past = p.3 in past.4))
      go (stuck TooDeep left) (inr e) p g =
          let past = p.3 in
          let shape : front ++ rest ≡ (p.0 ++ past.0 ∷ []) ++ past.1 = p.1 ∙ ap (λ v. p.0 ++ v) past.2 ∙ sym (append_assoc p.0 (past.0 ∷ []) past.1) in
          absurd (not_longer k rule ok x (end_name_in l) (lifted TooDeep l) (names_raised l) w front rest f (p.0 ++ past.0 ∷ []) past.1 (f.parts ∙ shape) past.3 (let less = e.1 in let size : length left ≡ suc (length past.1) = ap length past.2 in omega arith))
      go unfinished (inr e) p g = absurd g

  -- Where a token is misplaced, or misnamed, what stands before it is the longest front, and it is no whole spelling.
  pub misplaced_law : (k : Tables S) (rule : Productions S V) → Checked S V k rule → (x : S) → has (k.laters x) ident ≡ false → (l : Limits) (w rest : List Lexeme) → reads_as k rule x l w ≡ stuck Misplaced rest → (front : List Lexeme) × LongestFront S V rule x (end_name_in l) w front rest × ((m : Limits) (a : V x) → end_name_in m ≡ end_name_in l → SpelledAs rule x m front a → ⊥)
  misplaced_law k rule ok x plain l w rest e =
      let s = taken_before k rule ok x l w rest Misplaced e in
      let f : LongestFront S V rule x (end_name_in l) w s.0 rest = record {
        parts = s.1;
        begun = at_any_depth rule x l s.0 s.2;
        ends = λ t more next b. misplaced_ends k rule ok x l (at_most b.0 b.1 (end_name_in l)) w rest e s.0 s.1 t more next b.2;
      } in (
        s.0,
        f,
        λ m a names p.
            let j = both_limits l m in
            let whole : reads_as k rule x m w ≡ read a rest = whole_law k rule ok x plain m w s.0 rest a (subst (λ y. LongestFront S V rule x y w s.0 rest) (sym names) f) p in
            let one : reads_as k rule x j w ≡ read a rest = read_stays k rule ok x m w a rest whole j (below_right l m) in
            let other : reads_as k rule x j w ≡ stuck Misplaced rest = misplaced_stays k rule ok x l w rest e j (below_left l m) in
            let same : (let o : Outcome (V x) = read a rest in o ≡ stuck Misplaced rest) = sym one ∙ other in
            cc,
      )

  pub misnamed_law : (k : Tables S) (rule : Productions S V) → Checked S V k rule → (x : S) → has (k.laters x) ident ≡ false → (l : Limits) (w rest : List Lexeme) → reads_as k rule x l w ≡ stuck Misnamed rest → (front : List Lexeme) × LongestFront S V rule x (end_name_in l) w front rest × ((m : Limits) (a : V x) → end_name_in m ≡ end_name_in l → SpelledAs rule x m front a → ⊥)
  misnamed_law k rule ok x plain l w rest e =
      let s = taken_before k rule ok x l w rest Misnamed e in
      let f : LongestFront S V rule x (end_name_in l) w s.0 rest = record {
        parts = s.1;
        begun = at_any_depth rule x l s.0 s.2;
        ends = λ t more next b. misnamed_ends k rule ok x l (at_most b.0 b.1 (end_name_in l)) refl w rest e s.0 s.1 t more next b.2;
      } in (
        s.0,
        f,
        λ m a names p.
            let j = both_limits l m in
            let whole : reads_as k rule x m w ≡ read a rest = whole_law k rule ok x plain m w s.0 rest a (subst (λ y. LongestFront S V rule x y w s.0 rest) (sym names) f) p in
            let one : reads_as k rule x j w ≡ read a rest = read_stays k rule ok x m w a rest whole j (below_right l m) in
            let other : reads_as k rule x j w ≡ stuck Misnamed rest = misnamed_stays k rule ok x l w rest e j (below_left l m) (both_names l m (sym names)) in
            let same : (let o : Outcome (V x) = read a rest in o ≡ stuck Misnamed rest) = sym one ∙ other in
            cc,
      )

  -- There is one first impossible token.
  pub one_impossible : (k : Tables S) (rule : Productions S V) → Checked S V k rule → (x : S) (l : Limits) (w before after before' after' : List Lexeme) (t t' : Lexeme) → w ≡ before ++ t ∷ after → w ≡ before' ++ t' ∷ after' → ImpossibleAfter rule x l before t → ImpossibleAfter rule x l before' t' → before ≡ before'
  one_impossible k rule ok x l w before after before' after' t t' e e' i i' =
      elim (cuts before (t ∷ after) before' (t' ∷ after') (sym e ∙ e')) [
        | inl m ↦ equal before before' t (t' ∷ after') after i i'.0 m.0 m.1 m.2
        | inr m ↦ sym (equal before' before t' (t ∷ after) after' i' i.0 m.0 m.1 m.2)
      ]
    where
      equal : (one other : List Lexeme) (t : Lexeme) (tail after : List Lexeme) → ImpossibleAfter rule x l one t → BegunAs rule x l other → (m : List Lexeme) → other ≡ one ++ m → t ∷ after ≡ m ++ tail → one ≡ other
      equal one other t tail after i i' [] p q = sym (p ∙ append-nil one)
      equal one other t tail after i i' (v ∷ m) p q =
          let same : v ≡ t = cc in
          absurd (i.1 (front_begins k rule ok x l (one ++ t ∷ []) m (subst (BegunAs rule x l) (p ∙ sym (append_assoc one (v ∷ []) m) ∙ ap (λ u. (one ++ u ∷ []) ++ m) same) i')))
