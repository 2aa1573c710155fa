-- Steps of writing a text piece by piece.
use Rattle.std.proofs.Common.{◌≡◌, ℕ, ◌+◌, ◌-◌, ◌≤◌, List, ◌++◌, length, take, drop, refl, sym, ◌∙◌, ap, Option, Some, None}
use Rattle.std.proofs.Math.Seq.{take-add}
use Rattle.std.proofs.lemmas.List.{append_assoc, take_rest}
use Rattle.mo_ports.specs.Written.{appended}

-- what was written after `done` bytes of the text, where a sink told `first` before
pub record IsPutUpTo (first : Option (List ℕ)) (text : List ℕ) (done : ℕ) (now : Option (List ℕ)) (faults_first faults_now : ℕ) : Type 0 where
  pub within : done ≤ length text
  pub written : now ≡ appended first (take done text)
  pub later : faults_first ≤ faults_now

-- a piece of the rest after the first bytes makes longer first bytes
take_more : (text : List ℕ) (done count : ℕ) → take done text ++ take count (take (length text - done) (drop done text)) ≡ take (done + count) text
take_more text done count =
    ap (λ (rest : List ℕ). take done text ++ take count rest) (take_rest text done) ∙ sym (take-add done count text)

appended_more : (first : Option (List ℕ)) (text : List ℕ) (done count : ℕ)
    → appended (appended first (take done text)) (take count (take (length text - done) (drop done text))) ≡ appended first (take (done + count) text)
appended_more None text done count = refl
appended_more (Some bytes) text done count = ap Some (append_assoc bytes _ _ ∙ ap (λ (more : List ℕ). bytes ++ more) (take_more text done count))

pub put_more : (first now after : Option (List ℕ)) (text : List ℕ) (done count : ℕ)
    → now ≡ appended first (take done text)
    → after ≡ appended now (take count (take (length text - done) (drop done text)))
    → after ≡ appended first (take (done + count) text)
put_more first now after text done count is step =
    step ∙ ap (λ (o : Option (List ℕ)). appended o (take count (take (length text - done) (drop done text)))) is ∙ appended_more first text done count
