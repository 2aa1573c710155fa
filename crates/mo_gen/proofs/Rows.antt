-- Texts that are put one behind another.
use Rattle.std.proofs.Common.{◌≡◌, ℕ, List, ◌++◌, ap, ◌∙◌, append_assoc}

-- a and then b
pub then : (start a b one two : List ℕ) → one ≡ start ++ a → two ≡ one ++ b → two ≡ start ++ (a ++ b)
then start a b one two first second = second ∙ ap (λ (w : List ℕ). w ++ b) first ∙ append_assoc start a b
