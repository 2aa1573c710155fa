-- Comparing a report with the lines that are wanted.
use Rattle.std.proofs.Common.{◌≡◌, ℕ, suc, ◌+◌, ◌<◌, Bool, true, false, ◌==◌, List, [], ◌∷◌, take, get_or, refl, ap, arith}
use Rattle.std.specs.List.{prefix_len}
use Rattle.mo_lexer.specs.Bytes.{is_line_byte}
use Rattle.mo_report_lines.specs.Lines.{lines_of, without_feed, DifferFirst}
use Rattle.mo_verify.specs.Steps.{AgreeTo}

pub cut_feed : (line : List ℕ) → take (prefix_len is_line_byte line) line ≡ without_feed line
cut_feed [] = refl
cut_feed (b ∷ bs) = go (b == 10) refl (cut_feed bs)
  where
    go : (feed : Bool) → (b == 10) ≡ feed → take (prefix_len is_line_byte bs) bs ≡ without_feed bs → take (prefix_len is_line_byte (b ∷ bs)) (b ∷ bs) ≡ without_feed (b ∷ bs)
    go true e later = rw e refl
    go false e later =
        let step : 1 + prefix_len is_line_byte bs ≡ suc (prefix_len is_line_byte bs) = omega arith in
        rw (e, step) (ap (λ (x : List ℕ). b ∷ x) later)

pub cut_at : (line : List ℕ) (len : ℕ) → len ≡ prefix_len is_line_byte line → take len line ≡ without_feed line
cut_at line len e = rw e (cut_feed line)

pub agree_same : (report wanted : List ℕ) (last : ℕ) → report ≡ wanted → AgreeTo report wanted last
agree_same report wanted last e n below = ap (λ (t : List ℕ). get_or (lines_of t) n []) e

pub agree_before : (report wanted : List ℕ) (last n : ℕ) (line other : List ℕ) → DifferFirst report wanted n line other → last < n → AgreeTo report wanted last
agree_before report wanted last n line other d past k below = d.before k (omega arith)
