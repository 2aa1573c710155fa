-- The copies so far.
use Rattle.std.proofs.Common.{◌≡◌, map, take}
use Rattle.mo_front.proofs.words.copied.Given as goal

abbrev pub invariant-loop-text : goal.invariant-loop-text
invariant-loop-text l = l.copies ≡ map (λ t. t.now) (take l.text-index l.texts)
