-- What is broken on the way to what is asked for of named files is broken at a byte of them.
use Rattle.std.proofs.Common.{ℕ, List, inl, ap, arith}
use Rattle.mo_syntax.specs.declared.place.Broken.{Broken}
use Rattle.mo_ports.specs.Contents.{Contents}
use Rattle.mo_front.specs.declared.words.Emit.TheVariants as emit
use Rattle.mo_front.specs.Ladder.{ladder_path, ladder_texts}
use Rattle.mo_front.specs.Told.{FilesGive, Outcome, broken, bytes_of_all, flat, no_model, no_text, read, unread}
use Rattle.mo_front.specs.Verified.{FilesGiveWith, read as read_with, unread as unread_with}
use Rattle.mo_bytes.specs.Bytes.{IsByteOfSome}
use Rattle.mo_bytes.specs.Held.{HoldsAll}
use Rattle.mo_bytes.specs.Laws.{LadderRefusalsStand, LongReportsStand, ToldRefusalsStand, VerdictRefusalsStand}
use Rattle.mo_bytes.proofs.laws.Emitted.{refuses_stands}
use Rattle.mo_bytes.proofs.laws.Holding.{holds_at}
use Rattle.mo_bytes.proofs.laws.Told.{models_law, refusals_law, texts_model, texts_refuse}

pub told_refusals_law : ToldRefusalsStand
told_refusals_law path names emit contents b (no_model gives) = refusals_law path names contents b gives
told_refusals_law path names emit contents b (no_text m gives refuses) =
    inl (holds_at (IsByteOfSome 1 (bytes_of_all contents names)) b.place
    (refuses_stands (HoldsAll (IsByteOfSome 1 (bytes_of_all contents names))) m (models_law path names contents m gives) emit b refuses))

pub ladder_refusals_law : LadderRefusalsStand
ladder_refusals_law n b (no_model gives) = texts_refuse (ladder_texts n) ladder_path b gives
ladder_refusals_law n b (no_text m gives refuses) =
    inl (holds_at (IsByteOfSome 1 (ladder_texts n)) b.place
    (refuses_stands (HoldsAll (IsByteOfSome 1 (ladder_texts n))) m (texts_model (ladder_texts n) ladder_path m gives) emit.Report b refuses))

-- ---- a printed report behind the files

as_files : (path names : List (List ℕ)) (report : List ℕ) (contents : Contents) (o : Outcome) → FilesGiveWith path names report contents o → FilesGive path names contents o
as_files path names report contents o (unread_with b reads is) = unread b reads is
as_files path names report contents o (read_with texts bytes reads held gives) = read texts reads gives

pub verdict_refusals_law : VerdictRefusalsStand
verdict_refusals_law path names report contents b (no_model gives) = told_refusals_law path names emit.Report contents b (no_model (as_files path names report contents (broken b) gives))
verdict_refusals_law path names report contents b (no_text m gives refuses) = told_refusals_law path names emit.Report contents b (no_text m (as_files path names report contents (flat m) gives) refuses)

pub long_reports_law : LongReportsStand
long_reports_law names report contents b long = record { file = ap (λ (x : Broken). x.place.file) long.is; byte = rw (ap (λ (x : Broken). x.place.byte) long.is) (omega arith) }
