-- What is said of those that are left is said of all.
use Rattle.std.proofs.Common.{◌≡◌, drop, map}
use Rattle.std.specs.List.{list_any}
use Rattle.mo_instance.specs.steps.Outer.{speaks_for}
use Rattle.mo_instance.specs.steps.Speeches.{speech_seen}
use Rattle.mo_instance.proofs.outer.is_given_for.Given as goal

abbrev pub invariant-loop-one : goal.invariant-loop-one
invariant-loop-one l = list_any (speaks_for l.name) (map speech_seen (drop l.one-index l.spoken)) ≡ list_any (speaks_for l.name) (map speech_seen l.spoken)
