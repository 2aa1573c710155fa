-- From the steps to the verdict.
use Rattle.std.proofs.Common.{◌≡◌, ℕ, ◌+◌, ◌<◌, ◌≤◌, Bool, true, false, List, [], ◌∷◌, length, get_or, Option, Some, None, Result, Ok, Err, IfOk, refl, sym, ap, ◌∙◌, arith}
use Rattle.std.proofs.lemmas.List.{length-map}
use Rattle.std.proofs.lemmas.Bool.{false≢true}
use Rattle.std.specs.Prelude.{IfSome, IfNone, option_map, if◌then◌else◌}
use Rattle.std.specs.Str.{bytes_eq}
use Rattle.mo_flat.specs.declared.model.FlatModel.{FlatModel}
use Rattle.mo_flat.specs.declared.model.FlatVar.{FlatVar}
use Rattle.mo_flat.specs.Roles.{is_unknown_role, unknowns_from}
use Rattle.mo_incidence.specs.Signature.{equations, IsSound}
use Rattle.mo_incidence.specs.Assignment.{IsAssignment, CoversAll, CanCoverAll}
use Rattle.mo_incidence.specs.Offsets.{by_place}
use Rattle.mo_incidence.specs.Model.{incidence_of, row_of}
use Rattle.mo_report.specs.declared.report.Report.{Report}
use Rattle.mo_report.specs.Lines.{report_lines}
use Rattle.mo_report.specs.Size.{unknown_names}
use Rattle.mo_report_lines.specs.Lines.{AreReadable}
use Rattle.mo_verify.specs.declared.verdict.Verdict.{Verdict}
use Rattle.mo_verify.specs.declared.verdict.Verdict.TheVariants.{Yes, Admissible, NotLeast}
use Rattle.mo_verify.specs.Printed.{Printed}
use Rattle.mo_verify.specs.Reading.{number_of, ArePrinted}
use Rattle.mo_verify.specs.Faults.{AreChainedTo, HasOffset}
use Rattle.mo_verify.specs.Finding.{HaveSizes, HasNoFault, IsFirstFault, IsNotLeast, order, low, loose, twice}
use Rattle.mo_verify.specs.Steps.{IsDifference, AgreeTo, ComparesWith, differs, same, IsShapeAt}
use Rattle.mo_verify.specs.Verdict as verdict
use Rattle.mo_verify.proofs.Least.{tight, covers, admissible, least}
use Rattle.mo_verify.specs.Verdict.{head_text, IsBegun, IsRead, AreAdmissible, IsDeficitReport, IsUndeterminedReport, IsSquareReport, IsVerdict, IsRightText, IsAdmissibleText}

-- what follows for each value that a call gives
pub ok_through : {T E : Type 0} (r : Result T E) (P Q : T → Type 0) → ((v : T) → P v → Q v) → IfOk r P → IfOk r Q
ok_through (Ok v) P Q f h = f v h
ok_through (Err e) P Q f h = h

pub some_through : {T E : Type 0} (r : Result (Option T) E) (P Q : T → Type 0) → ((v : T) → P v → Q v) → IfOk r (λ o. IfSome o P) → IfOk r (λ o. IfSome o Q)
some_through (Ok (Some v)) P Q f h = f v h
some_through (Ok None) P Q f h = h
some_through (Err e) P Q f h = h

pub none_through : {T E : Type 0} (r : Result (Option T) E) (P Q : Type 0) → (P → Q) → IfOk r (λ o. IfNone o P) → IfOk r (λ o. IfNone o Q)
none_through (Ok (Some v)) P Q f h = h
none_through (Ok None) P Q f h = f h
none_through (Err e) P Q f h = h

-- ---- verdicts of other kinds
abbrev is_yes : Verdict → Bool
is_yes Yes = true
is_yes v = false

abbrev is_admissible : Verdict → Bool
is_admissible Admissible = true
is_admissible v = false

abbrev is_smaller : Verdict → Bool
is_smaller (NotLeast equation printed smaller) = true
is_smaller v = false

not_yes : {v : Verdict} → is_yes v ≡ false → v ≡ Yes → ⊥
not_yes other e = false≢true (sym other ∙ ap is_yes e)

not_admissible : {v : Verdict} → is_admissible v ≡ false → v ≡ Admissible → ⊥
not_admissible other e = false≢true (sym other ∙ ap is_admissible e)

not_smaller : {v : Verdict} {i printed less : ℕ} → is_smaller v ≡ false → v ≡ NotLeast i printed less → ⊥
not_smaller other e = false≢true (sym other ∙ ap is_smaller e)

same_place : (i x n : ℕ) → n ≡ i + 1 → n ≡ x + 1 → i ≡ x
same_place i x n one other = omega arith

-- the number of a name is that of an unknown
known_number : (names : List (List ℕ)) (name : List ℕ) (j : ℕ) → number_of names name ≡ Some j → (0 < j) × (j ≤ length names)
known_number [] name j e = cc
known_number (other ∷ names) name j e = go (bytes_eq other name) (number_of names name) refl (λ k is. known_number names name k is) e
  where
    some_is : (a b : ℕ) → Some a ≡ Some b → a ≡ b
    some_is a b f = cc

    go : (b : Bool) (o : Option ℕ) → number_of names name ≡ o → ((k : ℕ) → number_of names name ≡ Some k → (0 < k) × (k ≤ length names)) → (if b then Some 1 else option_map (λ j. j + 1) o) ≡ Some j → (0 < j) × (j ≤ length (other ∷ names))
    go true o is later f = let one : 1 ≡ j = some_is 1 j f in (omega (arith, one), omega (arith, one))
    go false None is later f = cc
    go false (Some k) is later f =
        let more : k + 1 ≡ j = some_is (k + 1) j f in
        let known = later k is in
        (omega (arith, more), omega (arith, more, known.1))

-- as many unknowns have names as have numbers
as_many : (n : ℕ) (vars : List FlatVar) → length (unknown_names vars) ≡ length (unknowns_from n vars)
as_many n [] = refl
as_many n (v ∷ vars) = go (is_unknown_role (Some v.role)) refl (as_many (n + 1) vars)
  where
    go : (b : Bool) → is_unknown_role (Some v.role) ≡ b → length (unknown_names vars) ≡ length (unknowns_from (n + 1) vars) → length (unknown_names (v ∷ vars)) ≡ length (unknowns_from n (v ∷ vars))
    go true e later = rw e (omega (arith, later))
    go false e later = rw e later

module _ (m : FlatModel) (report : List ℕ) where
  pub equations_of : equations (incidence_of m) ≡ length m.equations
  unfolding incidence_of equations
  equations_of = length-map m.equations (row_of m.vars)

  pub unknowns_of : (incidence_of m).unknowns ≡ length (unknown_names m.vars)
  unfolding incidence_of
  unknowns_of = sym (as_many 1 m.vars)

  pub sizes_of : (p : Printed) → ArePrinted (unknown_names m.vars) (length m.equations) report p → HaveSizes (incidence_of m) p
  sizes_of p a = record {
    c_all = a.c_all ∙ sym equations_of;
    d_all = a.d_all ∙ sym unknowns_of;
    pairs_all = a.pairs_all ∙ sym equations_of;
    orders_all = a.orders_all ∙ sym equations_of;
    known = λ i below.
        let line = a.lines.equation i (rw equations_of at below) (omega (arith, equations_of, below)) in
        let known = known_number (unknown_names m.vars) line.name (get_or p.pairs i 0) line.is_number in
        (known.0, rw unknowns_of known.1);
  }

  -- ---- the head
  pub head_verdict : (v : Verdict) → AreReadable report → IsDifference report (head_text m) 2 v → IsVerdict m report v
  head_verdict v readable d = rw d.is (verdict.head d.line d.other readable d.differ d.within refl refl)

  pub begun : AreReadable report → AgreeTo report (head_text m) 2 → IsBegun m report
  begun readable agree = record { readable = readable; first = agree 0 (omega arith); second = agree 1 (omega arith) }

  -- ---- a deficit
  pub deficit_verdict : (r : Report) (v : Verdict) → IsBegun m report → IsDeficitReport m r → ComparesWith report (report_lines r) Yes v → IsVerdict m report v
  deficit_verdict r v b d (differs n line other differ is) = rw is (verdict.deficit_differs r line other b d differ refl refl)
  deficit_verdict r v b d (same e is) = rw is (verdict.deficit r b d e)

  -- ---- shapes
  pub can_cover : (assignment : List ℕ) → IsAssignment (incidence_of m) (by_place assignment) → CoversAll (incidence_of m) (by_place assignment) → CanCoverAll (incidence_of m)
  can_cover assignment assigned all = (by_place assignment, assigned, all)

  pub shape_verdict : (p : Printed) (k : ℕ) (v : Verdict) → IsBegun m report → CanCoverAll (incidence_of m) → IsShapeAt (unknown_names m.vars) (length m.equations) report p k v → IsVerdict m report v
  shape_verdict p k v b can s = rw s.is (verdict.shape p k b can s.before s.here refl refl refl)

  pub shape_told : (names : List (List ℕ)) (count : ℕ) (v : Verdict) → names ≡ unknown_names m.vars → count ≡ length m.equations → IsBegun m report → CanCoverAll (incidence_of m)
      → (p : Printed) × (k : ℕ) × IsShapeAt names count report p k v → IsVerdict m report v
  shape_told names count v e f b can told = go told.0 told.1 told.2
    where
      go : (p : Printed) (k : ℕ) → IsShapeAt names count report p k v → IsVerdict m report v
      go p k s = shape_verdict p k v b can (rw (e, f) at s)

  -- ---- faults
  module _ (p : Printed) (read : IsRead m report p) where
    pub fault_verdict : (v : Verdict) → IsFirstFault (incidence_of m) p v → IsVerdict m report v
    fault_verdict v (order f) = rw f.is (verdict.order p f.place read f.before (rw equations_of at f.within) refl refl refl f.sigma f.apart)
    fault_verdict v (low have f) = rw f.is (verdict.low p f.place f.entry read (rw equations_of at have) f.before (rw equations_of at f.within.0) f.within.1 f.low refl refl refl refl refl)
    fault_verdict v (loose have fit f) = rw f.is (verdict.loose p f.place read (rw equations_of at have) (rw equations_of at fit) f.before (rw equations_of at f.within) f.loose refl refl refl refl refl)
    fault_verdict v (twice have fit meet f) =
        rw f.is (verdict.twice p f.first f.second read (rw equations_of at have) (rw equations_of at fit) (rw equations_of at meet) f.before f.within.0 (rw equations_of at f.within.1) f.same refl refl refl)

    pub right_so_far : HasNoFault (incidence_of m) p → AreAdmissible m report p
    right_so_far h = record {
      read = read;
      orders = rw equations_of at h.orders;
      fit = rw equations_of at h.fit;
      meet = rw equations_of at h.meet;
      apart = rw equations_of at h.apart;
    }

  -- ---- what is left
  module _ (p : Printed) (right : AreAdmissible m report p) (r : Report) (v : Verdict) where
    pub undetermined_verdict : IsUndeterminedReport m p r → ComparesWith report (report_lines r) Admissible v → IsVerdict m report v
    undetermined_verdict u (differs n line other differ is) = rw is (verdict.undetermined_differs p r line other right u differ refl refl)
    undetermined_verdict u (same e is) = rw is (verdict.undetermined p r right u e)

    pub square_verdict : AreChainedTo (incidence_of m) p (length m.equations) → IsSquareReport m p r → ComparesWith report (report_lines r) Yes v → IsVerdict m report v
    square_verdict chains s (differs n line other differ is) = rw is (verdict.square_differs p r line other right chains s differ refl refl)
    square_verdict chains s (same e is) = rw is (verdict.square p r right chains s e)

  pub not_least_verdict : (p : Printed) (v : Verdict) → AreAdmissible m report p → equations (incidence_of m) ≡ (incidence_of m).unknowns → IsNotLeast (incidence_of m) p v → IsVerdict m report v
  not_least_verdict p v right square n =
      let u = n.unchained in
      rw u.is (verdict.not_least p u.place right square u.before (rw equations_of at u.within) u.none refl refl u.offset n.less)

  -- ---- what a yes says
  pub no_fault : (p : Printed) → AreAdmissible m report p → HasNoFault (incidence_of m) p
  no_fault p right = record {
    orders = rw equations_of right.orders;
    fit = rw equations_of right.fit;
    meet = rw equations_of right.meet;
    apart = rw equations_of right.apart;
  }

  pub yes_is_right : IsSound (incidence_of m) → (v : Verdict) → IsVerdict m report v → v ≡ Yes → IsRightText m report
  yes_is_right sound v (verdict.unreadable f) e = absurd (not_yes refl e)
  yes_is_right sound v (verdict.head line other readable d within a b) e = absurd (not_yes refl e)
  yes_is_right sound v (verdict.deficit_differs r line other b d differ f h) e = absurd (not_yes refl e)
  yes_is_right sound v (verdict.deficit r b d is) e = verdict.singular r d is
  yes_is_right sound v (verdict.shape p k b can before here f h i) e = absurd (not_yes refl e)
  yes_is_right sound v (verdict.order p i read before below a b c sigma apart) e = absurd (not_yes refl e)
  yes_is_right sound v (verdict.low p i k read have fit below within here a b c f h) e = absurd (not_yes refl e)
  yes_is_right sound v (verdict.loose p i read have fit meet below here a b c f h) e = absurd (not_yes refl e)
  yes_is_right sound v (verdict.twice p i k read have fit meet apart before below one a b c) e = absurd (not_yes refl e)
  yes_is_right sound v (verdict.undetermined_differs p r line other right u differ a b) e = absurd (not_yes refl e)
  yes_is_right sound v (verdict.undetermined p r right u is) e = absurd (not_yes refl e)
  yes_is_right sound v (verdict.not_least p i right square chains below none a b c less) e = absurd (not_yes refl e)
  yes_is_right sound v (verdict.square_differs p r line other right chains s differ a b) e = absurd (not_yes refl e)
  yes_is_right sound v (verdict.square p r right chains s is) e =
      verdict.least p r
      (record {
        report = s;
        sizes = sizes_of p right.read.printed;
        orders = right.orders;
        tight = rw equations_of at (tight (incidence_of m) p (sizes_of p right.read.printed) (no_fault p right));
        all = covers (incidence_of m) p (sizes_of p right.read.printed) (no_fault p right);
        least = least (incidence_of m) p (sizes_of p right.read.printed) (no_fault p right) sound s.square (rw equations_of chains);
      })
      is

  -- ---- what an admissible report says, and what a smaller offset
  pub admissible_is_shown : (v : Verdict) → IsVerdict m report v → v ≡ Admissible → IsAdmissibleText m report
  admissible_is_shown v (verdict.unreadable f) e = absurd (not_admissible refl e)
  admissible_is_shown v (verdict.head line other readable d within a b) e = absurd (not_admissible refl e)
  admissible_is_shown v (verdict.deficit_differs r line other b d differ f h) e = absurd (not_admissible refl e)
  admissible_is_shown v (verdict.deficit r b d is) e = absurd (not_admissible refl e)
  admissible_is_shown v (verdict.shape p k b can before here f h i) e = absurd (not_admissible refl e)
  admissible_is_shown v (verdict.order p i read before below a b c sigma apart) e = absurd (not_admissible refl e)
  admissible_is_shown v (verdict.low p i k read have fit below within here a b c f h) e = absurd (not_admissible refl e)
  admissible_is_shown v (verdict.loose p i read have fit meet below here a b c f h) e = absurd (not_admissible refl e)
  admissible_is_shown v (verdict.twice p i k read have fit meet apart before below one a b c) e = absurd (not_admissible refl e)
  admissible_is_shown v (verdict.undetermined_differs p r line other right u differ a b) e = absurd (not_admissible refl e)
  admissible_is_shown v (verdict.undetermined p r right u is) e = record {
    printed = p;
    shown = r;
    is = is;
    says = u;
    orders = right.orders;
    tight = rw equations_of at (tight (incidence_of m) p (sizes_of p right.read.printed) (no_fault p right));
    all = covers (incidence_of m) p (sizes_of p right.read.printed) (no_fault p right);
    admissible = admissible (incidence_of m) p (sizes_of p right.read.printed) (no_fault p right);
  }
  admissible_is_shown v (verdict.not_least p i right square chains below none a b c less) e = absurd (not_admissible refl e)
  admissible_is_shown v (verdict.square_differs p r line other right chains s differ a b) e = absurd (not_admissible refl e)
  admissible_is_shown v (verdict.square p r right chains s is) e = absurd (not_admissible refl e)

  abbrev place_in : Verdict → ℕ
  place_in (NotLeast equation printed smaller) = equation
  place_in v = 0

  abbrev less_in : Verdict → ℕ
  less_in (NotLeast equation printed smaller) = smaller
  less_in v = 0

  same_less : (e p s e' p' s' : ℕ) → NotLeast e p s ≡ NotLeast e' p' s' → (e ≡ e') × (s ≡ s')
  same_less e p s e' p' s' h = (ap place_in h, ap less_in h)

  has_less : (i x n y : ℕ) → i ≡ x → n ≡ y → HasOffset (incidence_of m) i n → HasOffset (incidence_of m) x y
  has_less i x n y one two less = rw (sym one, sym two) less

  pub less_is_shown : (v : Verdict) → IsVerdict m report v → (x printed less : ℕ) → v ≡ NotLeast (x + 1) printed less → HasOffset (incidence_of m) x less
  less_is_shown v (verdict.unreadable f) x printed less e = absurd (not_smaller refl e)
  less_is_shown v (verdict.head line other readable d within a b) x printed less e = absurd (not_smaller refl e)
  less_is_shown v (verdict.deficit_differs r line other b d differ f h) x printed less e = absurd (not_smaller refl e)
  less_is_shown v (verdict.deficit r b d is) x printed less e = absurd (not_smaller refl e)
  less_is_shown v (verdict.shape p k b can before here f h i) x printed less e = absurd (not_smaller refl e)
  less_is_shown v (verdict.order p i read before below a b c sigma apart) x printed less e = absurd (not_smaller refl e)
  less_is_shown v (verdict.low p i k read have fit below within here a b c f h) x printed less e = absurd (not_smaller refl e)
  less_is_shown v (verdict.loose p i read have fit meet below here a b c f h) x printed less e = absurd (not_smaller refl e)
  less_is_shown v (verdict.twice p i k read have fit meet apart before below one a b c) x printed less e = absurd (not_smaller refl e)
  less_is_shown v (verdict.undetermined_differs p r line other right u differ a b) x printed less e = absurd (not_smaller refl e)
  less_is_shown v (verdict.undetermined p r right u is) x printed less e = absurd (not_smaller refl e)
  less_is_shown v (verdict.not_least p i right square chains below none a b c has) x printed less e =
      let both = same_less _ _ _ _ _ _ e in
      has_less i x _ less (same_place i x _ a both.0) both.1 has
  less_is_shown v (verdict.square_differs p r line other right chains s differ a b) x printed less e = absurd (not_smaller refl e)
  less_is_shown v (verdict.square p r right chains s is) x printed less e = absurd (not_smaller refl e)
