-- All three tests.
use Rattle.std.proofs.Common.{◌≡◌, ◌∙◌, Option, Some, None, is_some, refl, ap}
use Rattle.std.specs.Prelude.{option_map}
use Rattle.mo_sound.specs.declared.summary.ValueKind.{ValueKind}
use Rattle.mo_sound.specs.SoundKinds.{kind_seen}
use Rattle.mo_sound.proofs.Deciding.{sound_is}
use Rattle.mo_sound.proofs.sound.is_sound.Goals as goal

seen_some : (k : Option ValueKind) → is_some k ≡ is_some (option_map kind_seen k)
seen_some (Some k) = refl
seen_some None = refl

pub returns : goal.returns
returns c = sound_is c.args.vars.now c.args.e.now c.all_hold.result c.is_shaped-shaped.result c.orders_fit-low.result c.is_some.result c.all_hold.ensures c.is_shaped-shaped.ensures c.orders_fit-low.ensures (c.is_some.ensures ∙ (seen_some c.kind_of-kind.result ∙ ap is_some c.kind_of-kind.ensures))
