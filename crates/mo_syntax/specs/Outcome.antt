-- Outcomes of a definition: a value, or the first rule that is broken, with its place. The numbers of rules have names
-- (`src/rules.rt`).
use Rattle.std.specs.Prelude.{ℕ, Result, Ok, Err}
use Rattle.mo_syntax.specs.declared.place.Place.{Place}
use Rattle.mo_syntax.specs.declared.place.Broken.{Broken}
use Rattle.mo_syntax.specs.declared.place.Stop.{Stop}
use Rattle.mo_syntax.specs.declared.place.Stop.TheVariants.{Broken as broken_by, NoMemory as no_memory}

-- a value, or a broken rule
abbrev pub Outcome : Type 0 → Type 0
Outcome A = Result A Broken

-- what comes of the value; a broken rule stays
abbrev pub and_then : {A B : Type 0} → Outcome A → (A → Outcome B) → Outcome B
and_then (Ok value) f = f value
and_then (Err broken) f = Err broken

-- the rule of that number, broken at a place
abbrev pub breach : ℕ → Place → Broken
breach rule place = record { rule = rule; place = place }

-- a rule is broken at a place
abbrev pub breaks : {A : Type 0} → ℕ → Place → Outcome A
breaks rule place = Err (breach rule place)

-- what holds of an answer where a rule is broken
abbrev pub IfBroken : {T : Type 0} → Result T Stop → (Broken → Type 0) → Type 0
IfBroken (Ok value) P = Unit {0}
IfBroken (Err (broken_by broken)) P = P broken
IfBroken (Err no_memory) P = Unit {0}
