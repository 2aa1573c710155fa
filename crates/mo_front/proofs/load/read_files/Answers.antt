-- Files, one after another.
use Rattle.std.proofs.Common.{rules, ◌+◌, drop, refl, ap, ◌∙◌, le_refl, le_trans, length, ◌≤◌}
use Rattle.std.proofs.lemmas.List.{drop_all}
use Rattle.mo_front.specs.Limits.{file_limit}
use Rattle.mo_front.proofs.Loaded.{files_start, files_step, files_ended, files_refused, rose_later, words_front, named_fault, one_up, one_longer, within_limit, few_enough}
use Rattle.mo_front.proofs.OneByOne.{all_more}
use Rattle.mo_front.proofs.load.read_files.Goals as goal

pub loop-name-init : goal.loop-name-init
loop-name-init g c = (refl, ap length c.new-texts.ensures, search (rules, c.new-texts.ensures), refl, le_refl _, rw c.new-texts.ensures (files_start (g.S.Shelf.told c.args.shelf.now) c.args.names.now))

pub returns-in-Err-clause-refused : goal.returns-in-Err-clause-refused
returns-in-Err-clause-refused g c =
    files_refused (g.S.Shelf.told c.args.shelf.now) _ c.args.names.now c.loop-name.texts (drop c.loop-name.name-index c.args.names.now) (drop (c.loop-name.name-index + 1) c.args.names.now)
    c.as_str.result.now c.loop-name.number c.loop-name.name-index c.loop-name.left c.in-Err.unread c.loop-name.invariant.3 c.loop-name.invariant.5 (words_front c.args.names.now c.loop-name.name-index c.name-item.result c.as_str.result.now (search rules) (c.as_str.ensures ∙ c.name-item.is))
    c.loop-name.invariant.0 refl c.in-Err.ensures.refused

pub returns-in-Err-clause-fault : goal.returns-in-Err-clause-fault
returns-in-Err-clause-fault g c = λ u. rose_later _ _ _ c.loop-name.invariant.4 (c.in-Err.ensures.fault u)

pub returns-in-Err-clause-fault_name : goal.returns-in-Err-clause-fault_name
returns-in-Err-clause-fault_name g c = λ u. named_fault _ c.args.names.now c.loop-name.name-index c.as_str.result.now (drop (c.loop-name.name-index + 1) c.args.names.now) (c.in-Err.ensures.fault_name u) (words_front c.args.names.now c.loop-name.name-index c.name-item.result c.as_str.result.now (search rules) (c.as_str.ensures ∙ c.name-item.is))

pub overflow_add-number : goal.overflow_add-number
overflow_add-number g c = search (rules, few_enough c.loop-name.number c.loop-name.name-index _ c.loop-name.invariant.0 c.loop-name-test.true c.requires.few)

pub loop-name-preserved : goal.loop-name-preserved
loop-name-preserved g c = (
  ap (λ n. n + 1) c.loop-name.invariant.0 ∙ one_up c.loop-name.name-index,
  one_longer c.loop-name.texts _ c.in-Ok.text c.loop-name.name-index c.in_ok-push.ensures.ok c.loop-name.invariant.1,
  all_more (λ text. length text ≤ file_limit) c.loop-name.texts _ c.in-Ok.text c.in_ok-push.ensures.ok c.loop-name.invariant.2 (within_limit c.loop-name.left _ c.in-Ok.ensures.within),
  c.read_file.ensures.same ∙ c.loop-name.invariant.3,
  le_trans c.loop-name.invariant.4 c.read_file.ensures.faults_later,
  files_step (g.S.Shelf.told c.args.shelf.now) _ c.args.names.now c.loop-name.texts c.push.new.self (drop c.loop-name.name-index c.args.names.now) (drop (c.loop-name.name-index + 1) c.args.names.now)
      c.as_str.result.now _ c.loop-name.number (c.loop-name.number + 1) c.loop-name.left _ c.loop-name.invariant.3 c.loop-name.invariant.5 (words_front c.args.names.now c.loop-name.name-index c.name-item.result c.as_str.result.now (search rules) (c.as_str.ensures ∙ c.name-item.is)) c.in-Ok.ensures.text c.in_ok-push.ensures.ok refl (search rules),
)

pub returns-clause-texts : goal.returns-clause-texts
returns-clause-texts g c =
    files_ended (g.S.Shelf.told c.args.shelf.now) c.args.names.now c.loop-name.texts (drop c.loop-name.name-index c.args.names.now) c.loop-name.number c.loop-name.left c.loop-name.invariant.5
    (drop_all c.loop-name.name-index c.args.names.now (search rules))
