-- What holds of a text that a call may give.
use Rattle.std.proofs.Common.{◌≡◌, ℕ, Bool, true, List, Option, None, Some, IfSome, IfNone, Bor, ◌≢◌, ◌++◌, ap, sym, ◌∙◌}
use Rattle.std.specs.Option.{MatchOption}
use Rattle.mo_report_lines.specs.steps.Reading.{BeginsOnly, BeginsNever}
use Rattle.mo_report_lines.proofs.Parts.{stops_within}

pub some_to : {P Q : List ℕ → Type 0} (r : Option (Bor (List ℕ))) → ((x : List ℕ) → P x → Q x) → IfSome r (λ x. P x.now) → IfSome r (λ x. Q x.now)
some_to None f h = tt
some_to (Some x) f h = f x.now h

pub none_to : {A B : Type 0} (r : Option (Bor (List ℕ))) → (A → B) → IfNone r A → IfNone r B
none_to None f h = f h
none_to (Some x) f h = tt

-- more texts stop it
module _ (P : List ℕ → Type 0) (p q : ℕ → Bool) (wider : (b : ℕ) → p b ≡ true → q b ≡ true) (text : List ℕ) where
  pub weaker_only : (rest : List ℕ) → BeginsOnly P p text rest → BeginsOnly P q text rest
  weaker_only rest b = record { begins = b.begins; only = λ other ends a. b.only other (stops_within p q wider other ends) a }

  pub weaker_never : BeginsNever P p text → BeginsNever P q text
  weaker_never none other ends a = none other (stops_within p q wider other ends) a

-- what stripping a word says
pub stripped_some : (s p q : List ℕ) (r : Option (Bor (List ℕ))) → p ≡ q → MatchOption r ((rest : List ℕ) → s ≢ p ++ rest) (λ x. s ≡ p ++ x.now) → IfSome r (λ x. s ≡ q ++ x.now)
stripped_some s p q None e m = tt
stripped_some s p q (Some x) e m = m ∙ ap (λ (l : List ℕ). l ++ x.now) e

pub stripped_none : (s p q : List ℕ) (r : Option (Bor (List ℕ))) → p ≡ q → MatchOption r ((rest : List ℕ) → s ≢ p ++ rest) (λ x. s ≡ p ++ x.now) → IfNone r ((rest : List ℕ) → s ≡ q ++ rest → ⊥)
stripped_none s p q None e m = λ rest f. m rest (f ∙ ap (λ (l : List ℕ). l ++ rest) (sym e))
stripped_none s p q (Some x) e m = tt
