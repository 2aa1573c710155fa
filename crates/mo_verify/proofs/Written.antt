-- The text of a right report of a square model, line by line.
use Rattle.std.proofs.Common.{◌≡◌, ℕ, zero, suc, ◌+◌, ◌<◌, ◌≤◌, false, nat_lt, List, [], ◌∷◌, ◌++◌, map, length, get_or, codes, decimal, refl, sym, ap, ◌∙◌, arith, append_assoc}
use Rattle.std.proofs.lemmas.Bool.Decides.{nat_tests}
use Rattle.std.proofs.lemmas.List.{append-nil}
use Rattle.std.specs.Prelude.{Vec, flat_map}
use Rattle.std.specs.Global.{Global}
use Rattle.mo_flat.specs.declared.model.FlatModel.{FlatModel}
use Rattle.mo_incidence.specs.declared.findings.Offsets.{Offsets}
use Rattle.mo_incidence.specs.Signature.{equations}
use Rattle.mo_incidence.specs.Blocks.{numbers_in}
use Rattle.mo_incidence.specs.Model.{incidence_of}
use Rattle.mo_report.specs.declared.report.Report.{Report}
use Rattle.mo_report.specs.Lines.{numbered, named, unknown_name, lines_below, head_lines, equation_line, unknown_line, offset_lines, reason_line, block_line, dummy_line, state_line, number_lines, square_lines, rest_lines, report_lines}
use Rattle.mo_report.specs.Size.{unknown_names}
use Rattle.mo_report_lines.specs.Grammar.{IsName}
use Rattle.mo_verify.specs.Printed.{Printed}
use Rattle.mo_verify.specs.Verdict.{head_text, HasPrinted, IsSquareReport, HasNames}
use Rattle.mo_verify.proofs.Feeds.{middle, head_is}
use Rattle.mo_verify.proofs.Judging.{equations_of, unknowns_of}
use Rattle.mo_verify.proofs.Lining.{together, together_both, listed, below_together, mapped_together}

-- ---- names
pub name_is : (names : List (List ℕ)) (j : ℕ) → unknown_name names (suc j) ≡ get_or names j []
name_is [] j = refl
name_is (x ∷ names) zero = refl
name_is (x ∷ names) (suc j) = name_is names j

pub known_name : (m : FlatModel) → HasNames m → (j : ℕ) → 0 < j → j ≤ length (unknown_names m.vars) → IsName (unknown_name (unknown_names m.vars) j)
known_name m has zero some within = absurd (omega arith)
known_name m has (suc j) some within = rw (name_is (unknown_names m.vars) j) (has.unknowns j (omega arith))

-- ---- lines
unfoldable pub head_two : FlatModel → List (List ℕ)
head_two m =
    (named (codes "report ") m.name ++ codes "\n") ∷
    ((codes "equations " ++ (decimal (length m.equations) ++ (codes " unknowns " ++ decimal (length (unknown_names m.vars))))) ++ 10 ∷ []) ∷
    []

pub head_together : (m : FlatModel) → head_text m ≡ together (head_two m)
unfolding numbered middle head_two
head_together m =
    let a = named (codes "report ") m.name in
    let b = codes "equations " in
    let c = decimal (length m.equations) in
    let d = codes " unknowns " ++ decimal (length (unknown_names m.vars)) in
    let e : (b ++ c) ++ d ≡ b ++ (c ++ d) = append_assoc b c d in
    head_is m ∙ (ap (λ (t : List ℕ). a ++ 10 ∷ (t ++ 10 ∷ [])) e ∙ sym (append_assoc a (10 ∷ []) (((b ++ (c ++ d)) ++ 10 ∷ []) ++ []) ∙ ap (λ (t : List ℕ). a ++ 10 ∷ t) (append-nil ((b ++ (c ++ d)) ++ 10 ∷ []))))

-- the text of the line of an equation, and of an unknown
abbrev pub equation_text : List (List ℕ) → Printed → ℕ → List ℕ
equation_text names p i =
    codes "equation " ++ (decimal (i + 1) ++ (codes " c " ++ (decimal (get_or p.c i 0) ++ (codes " pairs " ++ (unknown_name names (get_or p.pairs i 0) ++ (codes " order " ++ decimal (get_or p.orders i 0)))))))

abbrev pub unknown_text : List (List ℕ) → Printed → ℕ → List ℕ
unknown_text names p j = codes "unknown " ++ (unknown_name names (j + 1) ++ (codes " d " ++ decimal (get_or p.d j 0)))

equation_is : (names : List (List ℕ)) (p : Printed) (offsets : Offsets) → offsets.c.items ≡ p.c → offsets.pairs.items ≡ p.pairs → (i : ℕ) → equation_line names p.orders offsets i ≡ equation_text names p i ++ 10 ∷ []
unfolding numbered named
equation_is names p offsets c_is pairs_are i =
    let w = codes "equation " in
    let d = decimal (i + 1) in
    let v = codes " c " in
    let n = decimal (get_or p.c i 0) in
    let u = codes " pairs " in
    let l = unknown_name names (get_or p.pairs i 0) in
    let rest = codes " order " ++ decimal (get_or p.orders i 0) in
    let e : (((w ++ d) ++ (v ++ n)) ++ (u ++ l)) ++ rest ≡ w ++ (d ++ (v ++ (n ++ (u ++ (l ++ rest))))) =
    append_assoc ((w ++ d) ++ (v ++ n)) (u ++ l) rest ∙
    (append_assoc (w ++ d) (v ++ n) ((u ++ l) ++ rest) ∙
    (append_assoc w d ((v ++ n) ++ ((u ++ l) ++ rest)) ∙
    ap (λ (t : List ℕ). w ++ (d ++ t)) (append_assoc v n ((u ++ l) ++ rest) ∙ ap (λ (t : List ℕ). v ++ (n ++ t)) (append_assoc u l rest)))) in
    rw (c_is, pairs_are) (ap (λ (t : List ℕ). t ++ 10 ∷ []) e)

unknown_is : (names : List (List ℕ)) (p : Printed) (offsets : Offsets) → offsets.d.items ≡ p.d → (j : ℕ) → unknown_line names offsets j ≡ unknown_text names p j ++ 10 ∷ []
unfolding numbered named
unknown_is names p offsets d_is j =
    let w = codes "unknown " in
    let l = unknown_name names (j + 1) in
    let rest = codes " d " ++ decimal (get_or p.d j 0) in
    let e : (w ++ l) ++ rest ≡ w ++ (l ++ rest) = append_assoc w l rest in
    rw d_is (ap (λ (t : List ℕ). t ++ 10 ∷ []) e)

below_same : (f g : ℕ → List ℕ) (n : ℕ) → ((i : ℕ) → f i ≡ g i) → lines_below f n ≡ lines_below g n
below_same f g zero each = refl
below_same f g (suc n) each = rw (below_same f g n each, each n) refl

blocks_are : (blocks : List (Vec ℕ Global)) → flat_map (λ block. block_line block.items) blocks ≡ together (map block_line (numbers_in blocks))
blocks_are [] = refl
blocks_are (block ∷ blocks) = ap (λ (t : List ℕ). block_line block.items ++ t) (blocks_are blocks)

-- the lines behind those of the unknowns
unfoldable pub square_list : Report → List (List ℕ)
square_list r =
    map reason_line r.reasons.items ++
    (map block_line (numbers_in r.blocks.0.items) ++
    (map (dummy_line r.unknowns) r.dummies.chosen.items ++
    (map (state_line r.unknowns) r.dummies.states.items ++
    (((codes "index " ++ decimal r.index) ++ 10 ∷ []) ∷ ((codes "freedom " ++ decimal r.freedom) ++ 10 ∷ []) ∷ []))))

numbers_are : (r : Report) → number_lines r ≡ together (((codes "index " ++ decimal r.index) ++ 10 ∷ []) ∷ ((codes "freedom " ++ decimal r.freedom) ++ 10 ∷ []) ∷ [])
unfolding numbered
numbers_are r =
    let a = codes "index " ++ decimal r.index in
    let b = codes "freedom " ++ decimal r.freedom in
    append_assoc a (10 ∷ b) (10 ∷ []) ∙ sym (append_assoc a (10 ∷ []) ((b ++ 10 ∷ []) ++ []) ∙ ap (λ (t : List ℕ). a ++ 10 ∷ t) (append-nil (b ++ 10 ∷ [])))

square_together : (r : Report) → square_lines r ≡ together (square_list r)
unfolding square_list
square_together r =
    let a = map reason_line r.reasons.items in
    let b = map block_line (numbers_in r.blocks.0.items) in
    let c = map (dummy_line r.unknowns) r.dummies.chosen.items in
    let d = map (state_line r.unknowns) r.dummies.states.items in
    let e = ((codes "index " ++ decimal r.index) ++ 10 ∷ []) ∷ ((codes "freedom " ++ decimal r.freedom) ++ 10 ∷ []) ∷ [] in
    let parts : square_lines r ≡ (((together a ++ together b) ++ together c) ++ together d) ++ together e =
    rw (mapped_together reason_line r.reasons.items, blocks_are r.blocks.0.items, mapped_together (dummy_line r.unknowns) r.dummies.chosen.items, mapped_together (state_line r.unknowns) r.dummies.states.items, numbers_are r) refl in
    let whole : together (a ++ (b ++ (c ++ (d ++ e)))) ≡ together a ++ (together b ++ (together c ++ (together d ++ together e))) =
    together_both a (b ++ (c ++ (d ++ e))) ∙ ap (λ (t : List ℕ). together a ++ t)
    (together_both b (c ++ (d ++ e)) ∙ ap (λ (t : List ℕ). together b ++ t)
    (together_both c (d ++ e) ∙ ap (λ (t : List ℕ). together c ++ t) (together_both d e))) in
    let regrouped : (((together a ++ together b) ++ together c) ++ together d) ++ together e ≡ together a ++ (together b ++ (together c ++ (together d ++ together e))) =
    append_assoc ((together a ++ together b) ++ together c) (together d) (together e) ∙
    (append_assoc (together a ++ together b) (together c) (together d ++ together e) ∙
    append_assoc (together a) (together b) (together c ++ (together d ++ together e))) in
    parts ∙ (regrouped ∙ sym whole)

-- the lines of equations and unknowns, and those behind them
abbrev pub body : FlatModel → Printed → List (List ℕ) → List (List ℕ)
body m p rest =
    listed (λ i. equation_text (unknown_names m.vars) p i ++ 10 ∷ []) (length m.equations) ++
    (listed (λ j. unknown_text (unknown_names m.vars) p j ++ 10 ∷ []) (length (unknown_names m.vars)) ++ rest)

module _ (m : FlatModel) (p : Printed) (offsets : Offsets) (r : Report) (has : HasPrinted m p offsets r) where
  offsets_together : offset_lines r offsets ≡
      together (listed (λ i. equation_text (unknown_names m.vars) p i ++ 10 ∷ []) (length m.equations)) ++ together (listed (λ j. unknown_text (unknown_names m.vars) p j ++ 10 ∷ []) (length (unknown_names m.vars)))
  offsets_together =
      let us = unknown_names m.vars in
      let f : lines_below (equation_line us p.orders offsets) (length m.equations) ≡ together (listed (λ i. equation_text us p i ++ 10 ∷ []) (length m.equations)) =
      below_same (equation_line us p.orders offsets) (λ i. equation_text us p i ++ 10 ∷ []) (length m.equations) (equation_is us p offsets has.c has.pairs) ∙ below_together (λ i. equation_text us p i ++ 10 ∷ []) (length m.equations) in
      let g : lines_below (unknown_line us offsets) (length us) ≡ together (listed (λ j. unknown_text us p j ++ 10 ∷ []) (length us)) =
      below_same (unknown_line us offsets) (λ j. unknown_text us p j ++ 10 ∷ []) (length us) (unknown_is us p offsets has.d) ∙ below_together (λ j. unknown_text us p j ++ 10 ∷ []) (length us) in
      rw (has.unknowns, has.orders, has.equations, f, g) refl

  head_same : head_lines r ≡ head_text m
  head_same = rw (has.name, has.unknowns, has.equations) refl

  body_together : (rest : List (List ℕ)) → offset_lines r offsets ++ together rest ≡ together (body m p rest)
  body_together rest =
      let us = unknown_names m.vars in
      let a = listed (λ i. equation_text us p i ++ 10 ∷ []) (length m.equations) in
      let b = listed (λ j. unknown_text us p j ++ 10 ∷ []) (length us) in
      ap (λ (t : List ℕ). t ++ together rest) offsets_together ∙
      (append_assoc (together a) (together b) (together rest) ∙ sym (together_both a (b ++ rest) ∙ ap (λ (t : List ℕ). together a ++ t) (together_both b rest)))

  square_rest : equations (incidence_of m) ≡ (incidence_of m).unknowns → rest_lines r ≡ square_lines r
  square_rest square =
      let count : length m.equations ≡ length (unknown_names m.vars) = sym (equations_of m []) ∙ (square ∙ unknowns_of m []) in
      let none : nat_lt (length m.equations) (length (unknown_names m.vars)) ≡ false = grind (arith, nat_tests, count) in
      let test : nat_lt r.equations (length r.unknowns) ≡ false = rw (has.equations, has.unknowns) none in
      rw test refl

-- the text of a report with what is printed, by what stands behind the lines of unknowns
pub below_text : (m : FlatModel) (p : Printed) (offsets : Offsets) (r : Report) → HasPrinted m p offsets r → report_lines r ≡
    head_text m ++
    ((together (listed (λ i. equation_text (unknown_names m.vars) p i ++ 10 ∷ []) (length m.equations)) ++ together (listed (λ j. unknown_text (unknown_names m.vars) p j ++ 10 ∷ []) (length (unknown_names m.vars)))) ++
    rest_lines r)
below_text m p offsets r has =
    let parts : report_lines r ≡ head_lines r ++ (offset_lines r offsets ++ rest_lines r) = rw (has.no_deficit, has.given) refl in
    parts ∙ (ap (λ (t : List ℕ). t ++ (offset_lines r offsets ++ rest_lines r)) (head_same m p offsets r has) ∙ ap (λ (t : List ℕ). head_text m ++ (t ++ rest_lines r)) (offsets_together m p offsets r has))

pub same_rest : (m : FlatModel) (p : Printed) (a b : List ℕ) → a ≡ b →
    head_text m ++
    ((together (listed (λ i. equation_text (unknown_names m.vars) p i ++ 10 ∷ []) (length m.equations)) ++ together (listed (λ j. unknown_text (unknown_names m.vars) p j ++ 10 ∷ []) (length (unknown_names m.vars)))) ++ a) ≡
    head_text m ++
    ((together (listed (λ i. equation_text (unknown_names m.vars) p i ++ 10 ∷ []) (length m.equations)) ++ together (listed (λ j. unknown_text (unknown_names m.vars) p j ++ 10 ∷ []) (length (unknown_names m.vars)))) ++ b)
same_rest m p a b e = rw e refl

-- all lines of a report on a square model
pub square_text : (m : FlatModel) (p : Printed) (r : Report) → IsSquareReport m p r → report_lines r ≡ together (head_two m ++ body m p (square_list r))
square_text m p r s =
    let parts : report_lines r ≡ head_lines r ++ (offset_lines r s.offsets ++ rest_lines r) = rw (s.has.no_deficit, s.has.given) refl in
    let rest : rest_lines r ≡ together (square_list r) = square_rest m p s.offsets r s.has s.square ∙ square_together r in
    let all : offset_lines r s.offsets ++ rest_lines r ≡ together (body m p (square_list r)) = ap (λ (t : List ℕ). offset_lines r s.offsets ++ t) rest ∙ body_together m p s.offsets r s.has (square_list r) in
    parts ∙ (ap (λ (t : List ℕ). head_lines r ++ t) all ∙ (ap (λ (t : List ℕ). t ++ together (body m p (square_list r))) (head_same m p s.offsets r s.has ∙ head_together m) ∙ sym (together_both (head_two m) (body m p (square_list r)))))
