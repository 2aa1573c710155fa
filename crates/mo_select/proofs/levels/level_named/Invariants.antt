use Rattle.std.proofs.Common.{◌≡◌, drop, map}
use Rattle.std.specs.List.{position_from}
use Rattle.std.specs.Str.{bytes_eq}
use Rattle.mo_select.proofs.levels.level_named.Given as goal

abbrev pub invariant-loop-word : goal.invariant-loop-word
invariant-loop-word l = record {
  counted : l.place ≡ l.word-index;
  left : position_from (λ word. bytes_eq word l.text) l.place (map (λ word. word.now) (drop l.word-index l.words)) ≡ position_from (λ word. bytes_eq word l.text) 0 (map (λ word. word.now) l.words);
}
