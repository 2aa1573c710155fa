use Rattle.std.proofs.Common.{◌≡◌, map, take}
use Rattle.mo_alias.specs.Numbers.{numbers_among}
use Rattle.mo_alias.specs.Recognized.{alias_of}
use Rattle.mo_alias.proofs.alias.aliases_in.Given as goal

abbrev pub invariant-loop-q : goal.invariant-loop-q
invariant-loop-q l = l.said.items ≡ map (alias_of (numbers_among l.m.vars)) (take l.q-index l.m.equations)
