-- The rows of the files.
use Rattle.std.proofs.Common.{◌≡◌, ◌+◌, ◌∷◌, drop, ◌∙◌, sym, ap, arith}
use Rattle.std.specs.Option.{option_map}
use Rattle.mo_syntax.specs.Classes.{Apart}
use Rattle.mo_syntax.specs.ClassTable.{in_file}
use Rattle.mo_syntax.specs.steps.Parts.{classes_in_file}
use Rattle.mo_syntax.specs.Rows.{row_of}
use Rattle.mo_syntax.proofs.ClassCounts.{files}
use Rattle.mo_syntax.proofs.Found.{goes_on, stops, counted, counts_on, counts_few, front_of}
use Rattle.mo_syntax.proofs.finding.find_class.Goals as goal

pub in_file-requires : goal.in_file-requires
in_file-requires c = record { few = counts_few classes_in_file _ _ c.file-item.result c.loop-file.next _ (front_of c.args.files.now c.loop-file.file-index c.file-item.result c.loop-file-test.true c.file-item.is) c.loop-file.invariant.count (omega (arith, files c.args.files.now)) }

pub returns-in-Some : goal.returns-in-Some
returns-in-Some c = stops in_file c.args.path.now Apart (drop c.loop-file.file-index c.args.files.now) (drop (c.loop-file.file-index + 1) c.args.files.now)
    c.file-item.result c.loop-file.next (row_of c.in-Some.found) (front_of c.args.files.now c.loop-file.file-index c.file-item.result c.loop-file-test.true c.file-item.is)
    (ap (option_map row_of) (sym c.in-Some.is) ∙ c.in_file.ensures) ∙ c.loop-file.invariant.left

pub overflow_add-next : goal.overflow_add-next
overflow_add-next c = omega (
  arith,
  c.of_file-next.ensures,
  counts_few classes_in_file _ _ c.file-item.result c.loop-file.next _ (front_of c.args.files.now c.loop-file.file-index c.file-item.result c.loop-file-test.true c.file-item.is)
      c.loop-file.invariant.count (omega (arith, files c.args.files.now)),
)

pub loop-file-preserved : goal.loop-file-preserved
loop-file-preserved c =
    let front : drop c.loop-file.file-index c.args.files.now ≡ c.file-item.result ∷ drop (c.loop-file.file-index + 1) c.args.files.now
    = front_of c.args.files.now c.loop-file.file-index c.file-item.result c.loop-file-test.true c.file-item.is in
    let exact : c.of_file-next.result ≡ classes_in_file c.file-item.result
    = counted classes_in_file _ _ c.file-item.result c.loop-file.next c.of_file-next.result _ front c.loop-file.invariant.count (omega (arith, files c.args.files.now)) c.of_file-next.ensures in
    record {
      left = goes_on in_file c.args.path.now Apart _ _ c.file-item.result c.loop-file.next (c.loop-file.next + c.of_file-next.result) front (ap (λ m. c.loop-file.next + m) exact)
          (ap (option_map row_of) (sym c.in-None.is) ∙ c.in_file.ensures) ∙ c.loop-file.invariant.left;
      count = counts_on classes_in_file _ _ c.file-item.result c.loop-file.next c.of_file-next.result _ front c.loop-file.invariant.count exact;
    }
