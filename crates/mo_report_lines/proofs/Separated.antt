-- Texts with a byte between neighbours, one after another.
use Rattle.std.proofs.Common.{◌≡◌, ℕ, Bool, true, false, not, List, [], ◌∷◌, ◌++◌, refl, sym, ap, ◌∙◌, append_assoc}
use Rattle.mo_lexer.proofs.Fronts.{tail_is}
use Rattle.mo_report_lines.specs.Grammar.{AreSeparated, one, more}
use Rattle.mo_report_lines.specs.steps.Reading.{stops, Begins, BeginsOnly, BeginsNever}

-- `other` stands there, or behind a separator and more texts
pub data Goes (separator : ℕ) (P : List ℕ → Type 0) (rest other : List ℕ) : Type 0 where
  here : other ≡ rest → Goes separator P rest other
  on : (t : List ℕ) → rest ≡ separator ∷ t → Begins (AreSeparated separator P) t other → Goes separator P rest other

-- what is behind the first text decides what is behind all
pub record GoesOn (separator : ℕ) (P : List ℕ → Type 0) (q : ℕ → Bool) (text rest : List ℕ) : Type 0 where
  pub from : (other : List ℕ) → stops q other ≡ true → Begins (AreSeparated separator P) text other → Goes separator P rest other
  pub back : (other : List ℕ) → Goes separator P rest other → Begins (AreSeparated separator P) text other

module _ (separator : ℕ) (P : List ℕ → Type 0) (p q : ℕ → Bool) (apart : p separator ≡ false) (goes : q separator ≡ true) (wider : (b : ℕ) → p b ≡ true → q b ≡ true) where
  stops_too : (other : List ℕ) → stops q other ≡ true → stops p other ≡ true
  stops_too [] h = refl
  stops_too (b ∷ other) h = go (p b) (q b) refl h (wider b)
    where
      go : (x y : Bool) → p b ≡ x → not y ≡ true → (p b ≡ true → y ≡ true) → not x ≡ true
      go true true e h w = h
      go true false e h w = let no : false ≡ true = w e in cc
      go false y e h w = refl

  stops_here : (t : List ℕ) → stops p (separator ∷ t) ≡ true
  stops_here t = rw apart refl

  pub first_goes : (text rest : List ℕ) → BeginsOnly P p text rest → GoesOn separator P q text rest
  first_goes text rest b = record {
    from = λ other ends a. split other ends a.front a.holds a.is;
    back = λ other g. join other g;
  }
    where
      split : (other : List ℕ) → stops q other ≡ true → (front : List ℕ) → AreSeparated separator P front → text ≡ front ++ other → Goes separator P rest other
      split other ends front (one h) e = here (b.only other (stops_too other ends) (record { front = front; holds = h; is = e }))
      split other ends front (more first last cut h hs) e =
          let whole : text ≡ first ++ separator ∷ (last ++ other) = e ∙ ap (λ (x : List ℕ). x ++ other) cut ∙ append_assoc first (separator ∷ last) other in
          let behind : separator ∷ (last ++ other) ≡ rest = b.only (separator ∷ (last ++ other)) (stops_here (last ++ other)) (record { front = first; holds = h; is = whole }) in
          on (last ++ other) (sym behind) (record { front = last; holds = hs; is = refl })

      join : (other : List ℕ) → Goes separator P rest other → Begins (AreSeparated separator P) text other
      join other (here e) = record { front = b.begins.front; holds = one b.begins.holds; is = rw e b.begins.is }
      join other (on t e a) = record {
        front = b.begins.front ++ separator ∷ a.front;
        holds = more b.begins.front a.front refl b.begins.holds a.holds;
        is = b.begins.is ∙ ap (λ (x : List ℕ). b.begins.front ++ x) (e ∙ ap (λ (x : List ℕ). separator ∷ x) a.is) ∙ sym (append_assoc b.begins.front (separator ∷ a.front) other);
      }

  pub never_first : (text : List ℕ) → BeginsNever P p text → BeginsNever (AreSeparated separator P) q text
  never_first text none other ends a = go a.front a.holds a.is
    where
      go : (front : List ℕ) → AreSeparated separator P front → text ≡ front ++ other → ⊥
      go front (one h) e = none other (stops_too other ends) (record { front = front; holds = h; is = e })
      go front (more first last cut h hs) e =
          none (separator ∷ (last ++ other)) (stops_here (last ++ other))
          (record { front = first; holds = h; is = e ∙ ap (λ (x : List ℕ). x ++ other) cut ∙ append_assoc first (separator ∷ last) other })

  -- a separator stands there, so it goes on behind it
  pub next_goes : (text rest t left : List ℕ) → GoesOn separator P q text rest → rest ≡ separator ∷ t → BeginsOnly P p t left → GoesOn separator P q text left
  next_goes text rest t left g e b = record {
    from = λ other ends a. elim (g.from other ends a) [
      | here same ↦ absurd (no_stop other ends (same ∙ e))
      | on t' e' a' ↦ next.from other ends (rw (tail_is separator separator t' t (sym e' ∙ e)) at a')
    ];
    back = λ other h. g.back other (on t e (next.back other h));
  }
    where
      next : GoesOn separator P q t left
      next = first_goes t left b

      no_stop : (other : List ℕ) → stops q other ≡ true → other ≡ separator ∷ t → ⊥
      no_stop other ends same = let h : not (q separator) ≡ true = rw same at ends in let h' : not true ≡ true = rw goes at h in cc

  pub next_never : (text rest t : List ℕ) → GoesOn separator P q text rest → rest ≡ separator ∷ t → BeginsNever P p t → BeginsNever (AreSeparated separator P) q text
  next_never text rest t g e none other ends a = elim (g.from other ends a) [
    | here same ↦ (let h : not (q separator) ≡ true = rw (same ∙ e) at ends in let h' : not true ≡ true = rw goes at h in cc)
    | on t' e' a' ↦ never_first t none other ends (rw (tail_is separator separator t' t (sym e' ∙ e)) at a')
  ]

  -- no separator stands there, so it is all
  pub all_gone : (text rest : List ℕ) → GoesOn separator P q text rest → ((t : List ℕ) → rest ≡ separator ∷ t → ⊥) → BeginsOnly (AreSeparated separator P) q text rest
  all_gone text rest g none = record {
    begins = g.back rest (here refl);
    only = λ other ends a. elim (g.from other ends a) [ here same ↦ same | on t e a' ↦ absurd (none t e) ];
  }
