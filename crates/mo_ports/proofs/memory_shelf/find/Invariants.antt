-- Looking on from this file finds what looking from the first finds.
use Rattle.std.proofs.Common.{◌≡◌, drop}
use Rattle.mo_ports.specs.Contents.{bytes_of}
use Rattle.mo_ports.proofs.memory_shelf.find.Given as goal

abbrev pub invariant-loop-file : goal.invariant-loop-file
invariant-loop-file l = bytes_of (drop l.file-index l.files) l.fn.name ≡ bytes_of l.files l.fn.name
