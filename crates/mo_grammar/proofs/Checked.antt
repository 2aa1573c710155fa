-- What the test of a whole grammar gives: facts on each production, and on what it spells and begins.
use Rattle.std.proofs.Common.{◌≡◌, not, ℕ, zero, suc, ◌<◌, Bool, true, false, List, [], ◌∷◌, refl, zero-le, nat_lt, ltb-true, ◌&&◌}
use Rattle.mo_grammar.specs.Lexeme.{Lexeme, code_of}
use Rattle.mo_grammar.specs.Grammar.{Limits, has, Productions, SpelledIn, BegunIn}
use Rattle.mo_grammar.specs.Reading.{may_be_empty, entry_codes, first_codes, later_codes, second_codes, Tables, AreRight, is_decided, is_below, covers, each_covers, reads_within}
use Rattle.mo_grammar.proofs.Codes.{both, not_true, never, covers_lem, each_covers_lem}
use Rattle.mo_grammar.proofs.Decided.{Decided, decided}
use Rattle.mo_grammar.proofs.Begun.{Known, begins_nothing, spelled_begun, nothing_spelled, first_sound, second_sound}
use Rattle.mo_grammar.proofs.Limits.{Below, spelled_rises}
use Rattle.mo_grammar.proofs.Outcomes.{shrinks}
use Rattle.mo_grammar.proofs.Entering.{Enters, entries, enters}
use Rattle.mo_grammar.proofs.Soundness.{Sound, sound}

-- What the tables say of one production, in one test that is computed.
abbrev pub is_sound_at : {S : Type 0} {V : S → Type 0} → Tables S → Productions S V → S → Bool
is_sound_at k rule x = is_decided k (rule x) && (not (may_be_empty (rule x)) && (covers (k.starts x) (first_codes k.starts (rule x)) && (covers (first_codes k.starts (rule x)) (k.starts x) && (covers (k.starts x) (k.plains x) && (covers (entry_codes false k.plains (rule x)) (k.plains x) && (covers (k.laters x) (later_codes k.starts k.laters (rule x)) && (each_covers (λ c. covers (k.seconds c x) (second_codes k.starts (k.seconds c) c (rule x))) k.specials && (is_below k.rank (k.rank x) (rule x) && nat_lt (k.rank x) k.ranks))))))))

pub record Checked (S : Type 0) (V : S → Type 0) (k : Tables S) (rule : Productions S V) : Type 0 where
  pub dec : (x : S) → Decided k (rule x)
  pub solid : (x : S) → may_be_empty (rule x) ≡ false
  pub starts_all : (x : S) → covers (k.starts x) (first_codes k.starts (rule x)) ≡ true
  pub starts_only : (x : S) → covers (first_codes k.starts (rule x)) (k.starts x) ≡ true
  pub plain_starts : (x : S) → covers (k.starts x) (k.plains x) ≡ true
  pub plains_only : (x : S) → covers (entry_codes false k.plains (rule x)) (k.plains x) ≡ true
  pub laters_all : (x : S) → covers (k.laters x) (later_codes k.starts k.laters (rule x)) ≡ true
  pub seconds_all : (x : S) → each_covers (λ c. covers (k.seconds c x) (second_codes k.starts (k.seconds c) c (rule x))) k.specials ≡ true
  pub below : (x : S) → is_below k.rank (k.rank x) (rule x) ≡ true
  pub ranked : (x : S) → k.rank x < k.ranks

module _ {S : Type 0} {V : S → Type 0} where
  checked_at : (k : Tables S) (rule : Productions S V) (x : S) → is_sound_at k rule x ≡ true → (is_decided k (rule x) ≡ true) × (may_be_empty (rule x) ≡ false) × (covers (k.starts x) (first_codes k.starts (rule x)) ≡ true) × (covers (first_codes k.starts (rule x)) (k.starts x) ≡ true) × (covers (k.starts x) (k.plains x) ≡ true) × (covers (entry_codes false k.plains (rule x)) (k.plains x) ≡ true) × (covers (k.laters x) (later_codes k.starts k.laters (rule x)) ≡ true) × (each_covers (λ c. covers (k.seconds c x) (second_codes k.starts (k.seconds c) c (rule x))) k.specials ≡ true) × (is_below k.rank (k.rank x) (rule x) ≡ true) × (k.rank x < k.ranks)
  checked_at k rule x h =
      let one = both (is_decided k (rule x)) _ h in
      let two = both (not (may_be_empty (rule x))) _ one.1 in
      let three = both (covers (k.starts x) (first_codes k.starts (rule x))) _ two.1 in
      let four = both (covers (first_codes k.starts (rule x)) (k.starts x)) _ three.1 in
      let five = both (covers (k.starts x) (k.plains x)) _ four.1 in
      let six = both (covers (entry_codes false k.plains (rule x)) (k.plains x)) _ five.1 in
      let seven = both (covers (k.laters x) (later_codes k.starts k.laters (rule x))) _ six.1 in
      let eight = both (each_covers (λ c. covers (k.seconds c x) (second_codes k.starts (k.seconds c) c (rule x))) k.specials) _ seven.1 in
      let nine = both (is_below k.rank (k.rank x) (rule x)) (nat_lt (k.rank x) k.ranks) eight.1 in
      (one.0, not_true (may_be_empty (rule x)) two.0, three.0, four.0, five.0, six.0, seven.0, eight.0, nine.0, ltb-true (k.rank x) k.ranks nine.1)

  pub right : (k : Tables S) (rule : Productions S V) → ((x : S) → is_sound_at k rule x ≡ true) → AreRight k rule
  right k rule h = record {
    decided = λ x. (checked_at k rule x (h x)).0;
    some_token = λ x. (checked_at k rule x (h x)).1;
    starts_all = λ x. (checked_at k rule x (h x)).2;
    starts_only = λ x. (checked_at k rule x (h x)).3;
    plain_starts = λ x. (checked_at k rule x (h x)).4;
    plains_only = λ x. (checked_at k rule x (h x)).5;
    laters_all = λ x. (checked_at k rule x (h x)).6;
    seconds_all = λ x. (checked_at k rule x (h x)).7;
    below = λ x. (checked_at k rule x (h x)).8;
    ranked = λ x. (checked_at k rule x (h x)).9;
  }

  pub checked : (k : Tables S) (rule : Productions S V) → AreRight k rule → Checked S V k rule
  checked k rule h = record {
    dec = λ x. decided k (rule x) (h.decided x);
    solid = h.some_token;
    starts_all = h.starts_all;
    starts_only = h.starts_only;
    plain_starts = h.plain_starts;
    plains_only = h.plains_only;
    laters_all = h.laters_all;
    seconds_all = h.seconds_all;
    below = h.below;
    ranked = h.ranked;
  }

  pub known : (k : Tables S) (rule : Productions S V) → Checked S V k rule → (n : ℕ) → Known S V k.starts (SpelledIn rule n) (BegunIn rule n)
  known k rule ok zero = record {
    spelled_begins = λ x l w a s. absurd s;
    nothing_begins = λ x l. refl;
    some_token = λ x l a s. s;
    firsts = λ x l t more s. cc;
  }
  known k rule ok (suc n) = record {
    spelled_begins = λ x l w a s. spelled_begun k.starts (SpelledIn rule n) (BegunIn rule n) (known k rule ok n) (rule x) l w a s;
    nothing_begins = λ x l. begins_nothing (SpelledIn rule n) (BegunIn rule n) (λ x l. (known k rule ok n).nothing_begins x l) (rule x) l;
    some_token = λ x l a s. never (may_be_empty (rule x)) (nothing_spelled (SpelledIn rule n) (λ x l a s. (known k rule ok n).some_token x l a s) (rule x) l [] a s refl) (ok.solid x);
    firsts = λ x l t more s. covers_lem (k.starts x) (first_codes k.starts (rule x)) (code_of t) (ok.starts_all x) (first_sound k.starts (SpelledIn rule n) (BegunIn rule n) (known k rule ok n) (rule x) l (t ∷ more) s t more refl);
  }

  pub seconds_known : (k : Tables S) (rule : Productions S V) → Checked S V k rule → (c : ℕ) → has k.specials c ≡ true → (n : ℕ) → (x : S) (l : Limits) (t u : Lexeme) (more : List Lexeme) → BegunIn rule n x l (t ∷ u ∷ more) → code_of t ≡ c → has (k.seconds c x) (code_of u) ≡ true
  seconds_known k rule ok c e zero x l t u more s d = cc
  seconds_known k rule ok c e (suc n) x l t u more s d =
      covers_lem (k.seconds c x) (second_codes k.starts (k.seconds c) c (rule x)) (code_of u)
      (each_covers_lem (λ c. covers (k.seconds c x) (second_codes k.starts (k.seconds c) c (rule x))) k.specials c (ok.seconds_all x) e)
      (second_sound k.starts (k.seconds c) c (SpelledIn rule n) (BegunIn rule n) (known k rule ok n) (λ x l t u more s d. seconds_known k rule ok c e n x l t u more s d) (rule x) l (t ∷ u ∷ more) s t u more refl d)

  -- a higher bound on the derivation, and limits that allow more
  pub in_rises : (rule : Productions S V) (n : ℕ) (x : S) (l m : Limits) (w : List Lexeme) (a : V x) → Below l m → SpelledIn rule n x l w a → SpelledIn rule n x m w a
  in_rises rule zero x l m w a b s = s
  in_rises rule (suc n) x l m w a b s = spelled_rises (SpelledIn rule n) (SpelledIn rule n) (λ x l m w a b s. in_rises rule n x l m w a b s) (rule x) l m b w a s

  pub in_higher : (rule : Productions S V) (n : ℕ) (x : S) (l m : Limits) (w : List Lexeme) (a : V x) → Below l m → SpelledIn rule n x l w a → SpelledIn rule (suc n) x m w a
  in_higher rule zero x l m w a b s = absurd s
  in_higher rule (suc n) x l m w a b s = spelled_rises (SpelledIn rule n) (SpelledIn rule (suc n)) (λ x l m w a b s. in_higher rule n x l m w a b s) (rule x) l m b w a s

  pub within_sound : (k : Tables S) (rule : Productions S V) → Checked S V k rule → (n : ℕ) (x : S) (l : Limits) (w : List Lexeme) → Sound (SpelledIn rule n x l) (BegunIn rule n x) l w (reads_within k.starts rule n x l w)
  within_sound k rule ok zero x l w = tt
  within_sound k rule ok (suc n) x l w = sound k (SpelledIn rule n) (BegunIn rule n) (reads_within k.starts rule n) (known k rule ok n) (λ x l m w a b s. in_rises rule n x l m w a b s) (λ x l w. within_sound k rule ok n x l w) (rule x) (ok.dec x) l w

  pub within_enters : (k : Tables S) (rule : Productions S V) → Checked S V k rule → (n : ℕ) → Enters S V k (reads_within k.starts rule n)
  within_enters k rule ok zero = record {
    plain_starts = λ x c e. covers_lem (k.starts x) (k.plains x) c (ok.plain_starts x) e;
    leaves = λ x l w. zero-le;
    takes = λ i x l t more e. tt;
  }
  within_enters k rule ok (suc n) = record {
    plain_starts = λ x c e. covers_lem (k.starts x) (k.plains x) c (ok.plain_starts x) e;
    leaves = λ x l w. shrinks k.starts (reads_within k.starts rule n) (λ x l w. (within_enters k rule ok n).leaves x l w) (rule x) l w;
    takes = λ i x l t more e. enters k (reads_within k.starts rule n) (within_enters k rule ok n) i (rule x) (ok.dec x) l t more (entry i x (code_of t) e);
  }
    where
      entry : (i : Bool) (x : S) (c : ℕ) → has (entries k i x) c ≡ true → has (entry_codes i (entries k i) (rule x)) c ≡ true
      entry true x c e = covers_lem (first_codes k.starts (rule x)) (k.starts x) c (ok.starts_only x) e
      entry false x c e = covers_lem (entry_codes false k.plains (rule x)) (k.plains x) c (ok.plains_only x) e
