-- Where expressions are resolved, and what resolving them tells, where frames have these numbers.
use Rattle.std.specs.Prelude.{◌≡◌, ℕ, List, map, Option, Result, Ok, Err}
use Rattle.mo_syntax.specs.Outcome.{Outcome}
use Rattle.mo_syntax.specs.declared.expr.Arg.{Arg}
use Rattle.mo_syntax.specs.declared.expr.Expr.{Expr}
use Rattle.mo_syntax.specs.declared.place.Stop.{Stop}
use Rattle.mo_syntax.specs.declared.place.Stop.TheVariants.{Broken as broken_by, NoMemory as no_memory}
use Rattle.mo_scope.specs.Frames.{Frame, Scope}
use Rattle.mo_scope.specs.Worlds.{World, frames_of, table_in, scope_in}
use Rattle.mo_eval.specs.declared.resolve.Site.{Site}
use Rattle.mo_eval.specs.declared.virtuals.Virtual.{Virtual as VirtualAt}
use Rattle.mo_values.specs.Scalars.{Known}
use Rattle.mo_eval.specs.Virtuals.{Element, Virtual, Ask, numbered, known_of_virtuals}
use Rattle.mo_eval.specs.Contexts.{Part}
use Rattle.mo_eval.specs.Components.{reader}
use Rattle.mo_eval.specs.Resolving.{made, all_arguments}
use Rattle.mo_eval.specs.Values.{reading}
use Rattle.mo_eval.specs.Seen.{virtuals_seen}
use Rattle.mo_eval.specs.steps.Parts.{made_argument}

abbrev pub scope_of : World → Site → Scope
scope_of world site = scope_in (frames_of world) site.at.now.frame.0 site.at.now.iters

abbrev pub ask_of : World → Site → Ask
ask_of world site = reading (table_in world) site.left

-- an expression there
abbrev pub part_in : World → Site → Expr → Part
part_in world site e = (e, made (table_in world) (ask_of world site) (scope_of world site) e)

-- what elements have, and the variables of a resolved expression, where so many references may still be read
abbrev pub elements_in : World → ℕ → Element → Outcome Known
elements_in world left = reader (reading (table_in world) left)

abbrev pub variables_in : World → ℕ → List VirtualAt → ℕ → Outcome Known
variables_in world left virtuals = numbered (known_of_virtuals (elements_in world left) (virtuals_seen (frames_of world) virtuals))

-- the arguments of a call there, where each is an expression
abbrev pub plain_in : World → Site → List Arg → Option (List Part)
plain_in world site args =
    all_arguments (map (λ a. (a, made_argument (table_in world) (ask_of world site) (scope_of world site) a)) args)

abbrev pub IsMadeAs : {A : Type 0} → List Frame → Result A Stop → List VirtualAt → Outcome (A × List Virtual) → Type 0
IsMadeAs frames (Ok made) virtuals told = told ≡ Ok (made, virtuals_seen frames virtuals)
IsMadeAs frames (Err (broken_by broken)) virtuals told = told ≡ Err broken
IsMadeAs frames (Err no_memory) virtuals told = Unit {0}

-- What is made, with the virtual variables behind it, is this outcome; want of memory says nothing.
pub record IsMade {A : Type 0} (world : World) (answer : Result A Stop) (virtuals : List VirtualAt) (told : Outcome (A × List Virtual)) : Type 0 where
  pub is : IsMadeAs (frames_of world) answer virtuals told
