-- Reports that say the same have the same lines.
use Rattle.std.proofs.Common.{◌≡◌, ℕ, zero, suc, List, [], ◌∷◌, ◌++◌, Bool, true, false, if◌then◌else◌, nat_lt, Option, Some, None, length, refl, sym, ap, ◌∙◌}
use Rattle.std.specs.Prelude.{Vec, flat_map, codes}
use Rattle.std.specs.Global.{Global}
use Rattle.mo_incidence.specs.declared.findings.Offsets.{Offsets}
use Rattle.mo_incidence.specs.declared.findings.Deficit.{Deficit}
use Rattle.mo_incidence.specs.Blocks.{numbers_in}
use Rattle.mo_report.specs.declared.report.Report.{Report}
use Rattle.mo_report.specs.Lines.{head_lines, deficit_lines, offset_lines, rest_lines, square_lines, number_lines, found_lines, part_lines, report_lines, block_line, reason_line, name_line, lines_below, equation_line, unknown_line}
use Rattle.mo_report.specs.Same.{SaySame}
use Rattle.mo_report.specs.Same as same

blocks_lines : (blocks : List (Vec ℕ Global)) → flat_map (λ block. block_line block.items) blocks ≡ flat_map block_line (numbers_in blocks)
blocks_lines [] = refl
blocks_lines (block ∷ blocks) = ap (λ (more : List ℕ). block_line block.items ++ more) (blocks_lines blocks)

together : (a b c d : List ℕ) → a ≡ b → c ≡ d → a ++ c ≡ b ++ d
together a b c d e f = rw (e, f) refl

pub both_none : (x : Deficit) → same.deficit_lists (Some x) ≡ None → ⊥
both_none x e = cc

pub none_both : (x : Deficit) → same.deficit_lists None ≡ same.deficit_lists (Some x) → ⊥
none_both x e = cc

pub offsets_none : (x : Offsets) → same.offset_lists (Some x) ≡ None → ⊥
offsets_none x e = cc

pub none_offsets : (x : Offsets) → same.offset_lists None ≡ same.offset_lists (Some x) → ⊥
none_offsets x e = cc

some_is : {A : Type 0} (a b : A) → Some a ≡ Some b → a ≡ b
some_is a b e = cc

pub deficit_is : (x y : Deficit) → same.deficit_lists (Some x) ≡ same.deficit_lists (Some y) → (x.equations.items ≡ y.equations.items) × (x.unknowns.items ≡ y.unknowns.items)
deficit_is x y e = let is = some_is (x.equations.items, x.unknowns.items) (y.equations.items, y.unknowns.items) e in (ap (λ (l : List ℕ × List ℕ). l.0) is, ap (λ (l : List ℕ × List ℕ). l.1) is)

pub offsets_are : (x y : Offsets) → same.offset_lists (Some x) ≡ same.offset_lists (Some y) → (x.c.items ≡ y.c.items) × (x.d.items ≡ y.d.items) × (x.pairs.items ≡ y.pairs.items)
offsets_are x y e =
    let is = some_is (x.c.items, x.d.items, x.pairs.items) (y.c.items, y.d.items, y.pairs.items) e in
    (ap (λ (l : List ℕ × List ℕ × List ℕ). l.0) is, ap (λ (l : List ℕ × List ℕ × List ℕ). l.1) is, ap (λ (l : List ℕ × List ℕ × List ℕ). l.2) is)

module _ (r s : Report) (say : SaySame r s) where
  same_head : head_lines r ≡ head_lines s
  same_head = rw (say.name, say.unknowns, say.equations) refl

  same_deficit : (x y : Deficit) → same.deficit_lists (Some x) ≡ same.deficit_lists (Some y) → deficit_lines r.unknowns x ≡ deficit_lines s.unknowns y
  same_deficit x y e = let are = deficit_is x y e in rw (say.unknowns, are.0, are.1) refl

  equation_as : (x y : Offsets) → same.offset_lists (Some x) ≡ same.offset_lists (Some y) → (i : ℕ) → equation_line r.unknowns r.orders.items x i ≡ equation_line s.unknowns s.orders.items y i
  equation_as x y e i = let are = offsets_are x y e in rw (say.unknowns, say.orders, are.0, are.2) refl

  unknown_as : (x y : Offsets) → same.offset_lists (Some x) ≡ same.offset_lists (Some y) → (j : ℕ) → unknown_line r.unknowns x j ≡ unknown_line s.unknowns y j
  unknown_as x y e j = let are = offsets_are x y e in rw (say.unknowns, are.1) refl

  below_as : (f f' : ℕ → List ℕ) → ((i : ℕ) → f i ≡ f' i) → (n : ℕ) → lines_below f n ≡ lines_below f' n
  below_as f f' each zero = refl
  below_as f f' each (suc n) = together (lines_below f n) (lines_below f' n) (f n) (f' n) (below_as f f' each n) (each n)

  same_offsets : (x y : Offsets) → same.offset_lists (Some x) ≡ same.offset_lists (Some y) → offset_lines r x ≡ offset_lines s y
  same_offsets x y e =
      together _ _ _ _
      (below_as _ _ (equation_as x y e) r.equations ∙ ap (lines_below (equation_line s.unknowns s.orders.items y)) say.equations)
      (below_as _ _ (unknown_as x y e) (length r.unknowns) ∙ ap (λ (names : List (List ℕ)). lines_below (unknown_line s.unknowns y) (length names)) say.unknowns)

  same_numbers : number_lines r ≡ number_lines s
  same_numbers = rw (say.index, say.freedom) refl

  same_blocks : flat_map (λ block. block_line block.items) r.blocks.0.items ≡ flat_map (λ block. block_line block.items) s.blocks.0.items
  same_blocks = blocks_lines r.blocks.0.items ∙ (ap (flat_map block_line) say.blocks ∙ sym (blocks_lines s.blocks.0.items))

  same_square : square_lines r ≡ square_lines s
  same_square =
      together _ _ _ _ (together _ _ _ _ (together _ _ _ _ (together _ _ _ _
      (ap (flat_map reason_line) say.reasons)
      same_blocks)
      (rw (say.unknowns, say.dummies) refl))
      (rw (say.unknowns, say.states) refl))
      same_numbers

  same_loose : flat_map (name_line (codes "undetermined ") r.unknowns) r.loose.items ≡ flat_map (name_line (codes "undetermined ") s.unknowns) s.loose.items
  same_loose = rw (say.unknowns, say.loose) refl

  either : (b : Bool) (x x' y y' : List ℕ) → x ≡ x' → y ≡ y' → (if b then x else y) ≡ (if b then x' else y')
  either true x x' y y' e f = e
  either false x x' y y' e f = f

  same_test : nat_lt r.equations (length r.unknowns) ≡ nat_lt s.equations (length s.unknowns)
  same_test = rw (say.equations, say.unknowns) refl

  same_rest : rest_lines r ≡ rest_lines s
  same_rest =
      either (nat_lt r.equations (length r.unknowns)) _ _ _ _ same_loose same_square
      ∙ ap (λ (b : Bool). if b then flat_map (name_line (codes "undetermined ") s.unknowns) s.loose.items else square_lines s) same_test

  same_found : (x y : Option Offsets) → same.offset_lists x ≡ same.offset_lists y → found_lines r x ≡ found_lines s y
  same_found None None e = refl
  same_found None (Some y) e = absurd (none_offsets y e)
  same_found (Some x) None e = absurd (offsets_none x e)
  same_found (Some x) (Some y) e = together _ _ _ _ (same_offsets x y e) same_rest

  same_parts : (x y : Option Deficit) → same.deficit_lists x ≡ same.deficit_lists y → part_lines r x ≡ part_lines s y
  same_parts None None e = same_found r.offsets s.offsets say.offsets
  same_parts None (Some y) e = absurd (none_both y e)
  same_parts (Some x) None e = absurd (both_none x e)
  same_parts (Some x) (Some y) e = same_deficit x y e

  pub same_lines : report_lines r ≡ report_lines s
  same_lines = together _ _ _ _ same_head (same_parts r.deficit s.deficit say.deficit)
