-- What is found, and its text.
use Rattle.mo_front.proofs.emit.aliases_written.Goals as goal

pub returns : goal.returns
returns c = (
  c.in_ok-found.found,
  record { gone = c.in_ok-found.ensures.gone; dropped = c.in_ok-found.ensures.dropped; loops = c.in_ok-found.ensures.loops },
  c.in_ok-text.ensures,
)
