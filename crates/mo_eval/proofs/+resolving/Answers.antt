-- The answers of the circle, each with the file that has it.
use Rattle.mo_eval.proofs.+resolving.Answers.Alone as alone
use Rattle.mo_eval.proofs.+resolving.Answers.Below as below
use Rattle.mo_eval.proofs.+resolving.Answers.Calls as calls
use Rattle.mo_eval.proofs.+resolving.Answers.Choice as choice
use Rattle.mo_eval.proofs.+resolving.Answers.Components as components
use Rattle.mo_eval.proofs.+resolving.Answers.Dimensions as dimensions
use Rattle.mo_eval.proofs.+resolving.Answers.Division as division
use Rattle.mo_eval.proofs.+resolving.Answers.References as references
use Rattle.mo_eval.proofs.+resolving.Answers.Resolve as resolve
use Rattle.mo_eval.proofs.+resolving.Answers.Selections as selections
use Rattle.mo_eval.proofs.+resolving.Answers.SizeCalls as size_calls
use Rattle.mo_eval.proofs.+resolving.Answers.Subscripts as subscripts
use Rattle.mo_eval.proofs.+resolving.Answers.Variables as variables
use Rattle.mo_eval.proofs.+resolving.Goals as goal
mod Alone
mod Below
mod Calls
mod Choice
mod Components
mod Dimensions
mod Division
mod References
mod Resolve
mod Selections
mod SizeCalls
mod Subscripts
mod Variables

pub components::resolved_binding-alone-requires : goal.components::resolved_binding-alone-requires
components::resolved_binding-alone-requires = components.resolved_binding-alone-requires

pub components::resolved_binding-returns-in-Some-clause-binding : goal.components::resolved_binding-returns-in-Some-clause-binding
components::resolved_binding-returns-in-Some-clause-binding = components.resolved_binding-returns-in-Some-clause-binding

pub components::resolved_binding-returns-in-Some-clause-exact : goal.components::resolved_binding-returns-in-Some-clause-exact
components::resolved_binding-returns-in-Some-clause-exact = components.resolved_binding-returns-in-Some-clause-exact

pub components::resolved_binding-returns-clause-binding : goal.components::resolved_binding-returns-clause-binding
components::resolved_binding-returns-clause-binding = components.resolved_binding-returns-clause-binding

pub components::resolved_binding-returns-clause-exact : goal.components::resolved_binding-returns-clause-exact
components::resolved_binding-returns-clause-exact = components.resolved_binding-returns-clause-exact

pub components::value_in-with_layers-requires : goal.components::value_in-with_layers-requires
components::value_in-with_layers-requires = components.value_in-with_layers-requires

pub components::value_in-bound_value-requires : goal.components::value_in-bound_value-requires
components::value_in-bound_value-requires = components.value_in-bound_value-requires

pub components::bound_value-returns-clause-exact : goal.components::bound_value-returns-clause-exact
components::bound_value-returns-clause-exact = components.bound_value-returns-clause-exact

pub components::value_in-returns-in_err-known-clause-exact : goal.components::value_in-returns-in_err-known-clause-exact
components::value_in-returns-in_err-known-clause-exact = components.value_in-returns-in_err-known-clause-exact

pub components::value_in-returns-in_err-keep_binding-clause-kept : goal.components::value_in-returns-in_err-keep_binding-clause-kept
components::value_in-returns-in_err-keep_binding-clause-kept = components.value_in-returns-in_err-keep_binding-clause-kept

pub components::value_in-returns-clause-kept : goal.components::value_in-returns-clause-kept
components::value_in-returns-clause-kept = components.value_in-returns-clause-kept

pub components::value_in-returns-clause-exact : goal.components::value_in-returns-clause-exact
components::value_in-returns-clause-exact = components.value_in-returns-clause-exact

pub components::element_value-returns-in_err-child-clause-exact : goal.components::element_value-returns-in_err-child-clause-exact
components::element_value-returns-in_err-child-clause-exact = components.element_value-returns-in_err-child-clause-exact

pub components::element_value-returns-in_err-child-clause-kept : goal.components::element_value-returns-in_err-child-clause-kept
components::element_value-returns-in_err-child-clause-kept = components.element_value-returns-in_err-child-clause-kept

pub components::element_value-unbound-requires : goal.components::element_value-unbound-requires
components::element_value-unbound-requires = components.element_value-unbound-requires

pub components::element_value-returns-in-None-clause-exact : goal.components::element_value-returns-in-None-clause-exact
components::element_value-returns-in-None-clause-exact = components.element_value-returns-in-None-clause-exact

pub components::element_value-returns-in-None-clause-kept : goal.components::element_value-returns-in-None-clause-kept
components::element_value-returns-in-None-clause-kept = components.element_value-returns-in-None-clause-kept

pub components::element_value-value_in-requires : goal.components::element_value-value_in-requires
components::element_value-value_in-requires = components.element_value-value_in-requires

pub components::element_value-returns-clause-exact : goal.components::element_value-returns-clause-exact
components::element_value-returns-clause-exact = components.element_value-returns-clause-exact

pub variables::element_known-returns-then-not-is_read-clause-exact : goal.variables::element_known-returns-then-not-is_read-clause-exact
variables::element_known-returns-then-not-is_read-clause-exact = variables.element_known-returns-then-not-is_read-clause-exact

pub variables::element_known-returns-then-left-eq0-clause-exact : goal.variables::element_known-returns-then-left-eq0-clause-exact
variables::element_known-returns-then-left-eq0-clause-exact = variables.element_known-returns-then-left-eq0-clause-exact

pub variables::element_known-returns-in-Some-clause-exact : goal.variables::element_known-returns-in-Some-clause-exact
variables::element_known-returns-in-Some-clause-exact = variables.element_known-returns-in-Some-clause-exact

pub variables::element_known-returns-in_err-known-clause-exact : goal.variables::element_known-returns-in_err-known-clause-exact
variables::element_known-returns-in_err-known-clause-exact = variables.element_known-returns-in_err-known-clause-exact

pub variables::element_known-returns-in_err-keep_value-clause-kept : goal.variables::element_known-returns-in_err-keep_value-clause-kept
variables::element_known-returns-in_err-keep_value-clause-kept = variables.element_known-returns-in_err-keep_value-clause-kept

pub variables::element_known-returns-clause-kept : goal.variables::element_known-returns-clause-kept
variables::element_known-returns-clause-kept = variables.element_known-returns-clause-kept

pub variables::element_known-returns-clause-exact : goal.variables::element_known-returns-clause-exact
variables::element_known-returns-clause-exact = variables.element_known-returns-clause-exact

pub variables::variable_known-element_known-requires : goal.variables::variable_known-element_known-requires
variables::variable_known-element_known-requires = variables.variable_known-element_known-requires

pub variables::variable_known-returns-in-Some-Component-clause-exact : goal.variables::variable_known-returns-in-Some-Component-clause-exact
variables::variable_known-returns-in-Some-Component-clause-exact = variables.variable_known-returns-in-Some-Component-clause-exact

pub variables::known_with-returns-in_err-known-clause-exact : goal.variables::known_with-returns-in_err-known-clause-exact
variables::known_with-returns-in_err-known-clause-exact = variables.known_with-returns-in_err-known-clause-exact

pub variables::known_with-returns-in-Known-clause-exact : goal.variables::known_with-returns-in-Known-clause-exact
variables::known_with-returns-in-Known-clause-exact = variables.known_with-returns-in-Known-clause-exact

pub variables::known_with-variable_known-requires : goal.variables::known_with-variable_known-requires
variables::known_with-variable_known-requires = variables.known_with-variable_known-requires

pub variables::known_with-mark-requires : goal.variables::known_with-mark-requires
variables::known_with-mark-requires = variables.known_with-mark-requires

pub variables::known_with-reading-smaller-in-Read : goal.variables::known_with-reading-smaller-in-Read
variables::known_with-reading-smaller-in-Read = variables.known_with-reading-smaller-in-Read

pub variables::known_with-reading-preserved-in-Read : goal.variables::known_with-reading-preserved-in-Read
variables::known_with-reading-preserved-in-Read = variables.known_with-reading-preserved-in-Read

pub variables::known_with-mark-requires-in-Divided : goal.variables::known_with-mark-requires-in-Divided
variables::known_with-mark-requires-in-Divided = variables.known_with-mark-requires-in-Divided

pub variables::known_with-reading-smaller : goal.variables::known_with-reading-smaller
variables::known_with-reading-smaller = variables.known_with-reading-smaller

pub variables::known_with-reading-preserved : goal.variables::known_with-reading-preserved
variables::known_with-reading-preserved = variables.known_with-reading-preserved

pub variables::known_in-known_with-requires : goal.variables::known_in-known_with-requires
variables::known_in-known_with-requires = variables.known_in-known_with-requires

pub division::value_of-returns-in_default-clause-exact : goal.division::value_of-returns-in_default-clause-exact
division::value_of-returns-in_default-clause-exact = division.value_of-returns-in_default-clause-exact

pub division::value_of-returns-in_err-m-clause-exact : goal.division::value_of-returns-in_err-m-clause-exact
division::value_of-returns-in_err-m-clause-exact = division.value_of-returns-in_err-m-clause-exact

pub division::value_of-returns-in_err-n-clause-exact : goal.division::value_of-returns-in_err-n-clause-exact
division::value_of-returns-in_err-n-clause-exact = division.value_of-returns-in_err-n-clause-exact

pub division::value_of-returns-clause-exact : goal.division::value_of-returns-clause-exact
division::value_of-returns-clause-exact = division.value_of-returns-clause-exact

pub division::value_of-known_in-requires-2 : goal.division::value_of-known_in-requires-2
division::value_of-known_in-requires-2 = division.value_of-known_in-requires-2

pub alone::read_end-returns-clause-exact : goal.alone::read_end-returns-clause-exact
alone::read_end-returns-clause-exact = alone.read_end-returns-clause-exact

pub alone::read_size-returns-clause-exact : goal.alone::read_size-returns-clause-exact
alone::read_size-returns-clause-exact = alone.read_size-returns-clause-exact

pub alone::read_condition-returns-clause-exact : goal.alone::read_condition-returns-clause-exact
alone::read_condition-returns-clause-exact = alone.read_condition-returns-clause-exact

pub choice::range-returns-in_err-b-clause-exact : goal.choice::range-returns-in_err-b-clause-exact
choice::range-returns-in_err-b-clause-exact = choice.range-returns-in_err-b-clause-exact

pub choice::range-returns-in_err-c-clause-exact : goal.choice::range-returns-in_err-c-clause-exact
choice::range-returns-in_err-c-clause-exact = choice.range-returns-in_err-c-clause-exact

pub choice::range-returns-clause-exact : goal.choice::range-returns-clause-exact
choice::range-returns-clause-exact = choice.range-returns-clause-exact

pub choice::made_branch-returns-in_err-known-clause-there : goal.choice::made_branch-returns-in_err-known-clause-there
choice::made_branch-returns-in_err-known-clause-there = choice.made_branch-returns-in_err-known-clause-there

pub choice::made_branch-operand-requires : goal.choice::made_branch-operand-requires
choice::made_branch-operand-requires = choice.made_branch-operand-requires

pub choice::made_branch-two-requires : goal.choice::made_branch-two-requires
choice::made_branch-two-requires = choice.made_branch-two-requires

pub choice::made_branch-returns-in-Some-true-clause-exact : goal.choice::made_branch-returns-in-Some-true-clause-exact
choice::made_branch-returns-in-Some-true-clause-exact = choice.made_branch-returns-in-Some-true-clause-exact

pub choice::made_branch-returns-in-Some-false-clause-there : goal.choice::made_branch-returns-in-Some-false-clause-there
choice::made_branch-returns-in-Some-false-clause-there = choice.made_branch-returns-in-Some-false-clause-there

pub choice::made_branch-returns-in-Some-false-clause-exact : goal.choice::made_branch-returns-in-Some-false-clause-exact
choice::made_branch-returns-in-Some-false-clause-exact = choice.made_branch-returns-in-Some-false-clause-exact

pub choice::made_branch-returns-in-None-clause-exact : goal.choice::made_branch-returns-in-None-clause-exact
choice::made_branch-returns-in-None-clause-exact = choice.made_branch-returns-in-None-clause-exact

pub choice::choice-returns-in_err-step-clause-exact : goal.choice::choice-returns-in_err-step-clause-exact
choice::choice-returns-in_err-step-clause-exact = choice.choice-returns-in_err-step-clause-exact

pub choice::choice-returns-in-Some-clause-exact : goal.choice::choice-returns-in-Some-clause-exact
choice::choice-returns-in-Some-clause-exact = choice.choice-returns-in-Some-clause-exact

pub choice::choice-loop-one-preserved : goal.choice::choice-loop-one-preserved
choice::choice-loop-one-preserved = choice.choice-loop-one-preserved

pub choice::choice-returns-in_err-rest-clause-exact : goal.choice::choice-returns-in_err-rest-clause-exact
choice::choice-returns-in_err-rest-clause-exact = choice.choice-returns-in_err-rest-clause-exact

pub choice::choice-returns-clause-exact : goal.choice::choice-returns-clause-exact
choice::choice-returns-clause-exact = choice.choice-returns-clause-exact

pub calls::arguments-returns-in_err-one-clause-exact : goal.calls::arguments-returns-in_err-one-clause-exact
calls::arguments-returns-in_err-one-clause-exact = calls.arguments-returns-in_err-one-clause-exact

pub calls::arguments-loop-arg-preserved : goal.calls::arguments-loop-arg-preserved
calls::arguments-loop-arg-preserved = calls.arguments-loop-arg-preserved

pub calls::arguments-returns-clause-exact : goal.calls::arguments-returns-clause-exact
calls::arguments-returns-clause-exact = calls.arguments-returns-clause-exact

pub calls::sizes-returns-in_err-one-clause-exact : goal.calls::sizes-returns-in_err-one-clause-exact
calls::sizes-returns-in_err-one-clause-exact = size_calls.sizes-returns-in_err-one-clause-exact

pub calls::sizes-loop-arg-preserved : goal.calls::sizes-loop-arg-preserved
calls::sizes-loop-arg-preserved = size_calls.sizes-loop-arg-preserved

pub calls::sizes-returns-clause-exact : goal.calls::sizes-returns-clause-exact
calls::sizes-returns-clause-exact = size_calls.sizes-returns-clause-exact

pub calls::number-returns-in_default-clause-exact : goal.calls::number-returns-in_default-clause-exact
calls::number-returns-in_default-clause-exact = size_calls.number-returns-in_default-clause-exact

pub calls::number-returns-in_err-n-clause-there : goal.calls::number-returns-in_err-n-clause-there
calls::number-returns-in_err-n-clause-there = size_calls.number-returns-in_err-n-clause-there

pub calls::number-returns-in_err-n-clause-exact : goal.calls::number-returns-in_err-n-clause-exact
calls::number-returns-in_err-n-clause-exact = size_calls.number-returns-in_err-n-clause-exact

pub calls::number-returns-in-None-clause-there : goal.calls::number-returns-in-None-clause-there
calls::number-returns-in-None-clause-there = size_calls.number-returns-in-None-clause-there

pub calls::number-returns-in-None-clause-exact : goal.calls::number-returns-in-None-clause-exact
calls::number-returns-in-None-clause-exact = size_calls.number-returns-in-None-clause-exact

pub calls::number-arguments-requires : goal.calls::number-arguments-requires
calls::number-arguments-requires = size_calls.number-arguments-requires

pub calls::number-returns-in_err-arguments-in-Some-split-clause-exact : goal.calls::number-returns-in_err-arguments-in-Some-split-clause-exact
calls::number-returns-in_err-arguments-in-Some-split-clause-exact = size_calls.number-returns-in_err-arguments-in-Some-split-clause-exact

pub calls::number-returns-in_ok-arguments-in-Some-split-clause-exact : goal.calls::number-returns-in_ok-arguments-in-Some-split-clause-exact
calls::number-returns-in_ok-arguments-in-Some-split-clause-exact = size_calls.number-returns-in_ok-arguments-in-Some-split-clause-exact

pub calls::size-returns-in_default-clause-exact : goal.calls::size-returns-in_default-clause-exact
calls::size-returns-in_default-clause-exact = size_calls.size-returns-in_default-clause-exact

pub calls::size-returns-in_err-inner-clause-exact : goal.calls::size-returns-in_err-inner-clause-exact
calls::size-returns-in_err-inner-clause-exact = size_calls.size-returns-in_err-inner-clause-exact

pub calls::size-returns-in_err-at-clause-exact : goal.calls::size-returns-in_err-at-clause-exact
calls::size-returns-in_err-at-clause-exact = size_calls.size-returns-in_err-at-clause-exact

pub calls::size-returns-clause-exact : goal.calls::size-returns-clause-exact
calls::size-returns-clause-exact = size_calls.size-returns-clause-exact

pub calls::ndims-returns-clause-exact : goal.calls::ndims-returns-clause-exact
calls::ndims-returns-clause-exact = size_calls.ndims-returns-clause-exact

pub calls::ndims-returns-in_err-arguments-clause-exact : goal.calls::ndims-returns-in_err-arguments-clause-exact
calls::ndims-returns-in_err-arguments-clause-exact = size_calls.ndims-returns-in_err-arguments-clause-exact

pub calls::ndims-returns-in_default-clause-exact : goal.calls::ndims-returns-in_default-clause-exact
calls::ndims-returns-in_default-clause-exact = size_calls.ndims-returns-in_default-clause-exact

pub calls::fill-returns-in_default-clause-exact : goal.calls::fill-returns-in_default-clause-exact
calls::fill-returns-in_default-clause-exact = size_calls.fill-returns-in_default-clause-exact

pub calls::fill-returns-in_err-filling-clause-exact : goal.calls::fill-returns-in_err-filling-clause-exact
calls::fill-returns-in_err-filling-clause-exact = size_calls.fill-returns-in_err-filling-clause-exact

pub calls::fill-returns-in_err-numbers-clause-there : goal.calls::fill-returns-in_err-numbers-clause-there
calls::fill-returns-in_err-numbers-clause-there = size_calls.fill-returns-in_err-numbers-clause-there

pub calls::fill-returns-in_err-numbers-clause-exact : goal.calls::fill-returns-in_err-numbers-clause-exact
calls::fill-returns-in_err-numbers-clause-exact = size_calls.fill-returns-in_err-numbers-clause-exact

pub calls::fill-returns-clause-there : goal.calls::fill-returns-clause-there
calls::fill-returns-clause-there = size_calls.fill-returns-clause-there

pub calls::fill-returns-clause-exact : goal.calls::fill-returns-clause-exact
calls::fill-returns-clause-exact = size_calls.fill-returns-clause-exact

pub calls::sized-returns-in_err-numbers-clause-there : goal.calls::sized-returns-in_err-numbers-clause-there
calls::sized-returns-in_err-numbers-clause-there = size_calls.sized-returns-in_err-numbers-clause-there

pub calls::sized-returns-in_err-numbers-clause-exact : goal.calls::sized-returns-in_err-numbers-clause-exact
calls::sized-returns-in_err-numbers-clause-exact = size_calls.sized-returns-in_err-numbers-clause-exact

pub calls::sized-returns-then-not-takes-clause-there : goal.calls::sized-returns-then-not-takes-clause-there
calls::sized-returns-then-not-takes-clause-there = size_calls.sized-returns-then-not-takes-clause-there

pub calls::sized-returns-then-not-takes-clause-exact : goal.calls::sized-returns-then-not-takes-clause-exact
calls::sized-returns-then-not-takes-clause-exact = size_calls.sized-returns-then-not-takes-clause-exact

pub calls::sized-returns-clause-there : goal.calls::sized-returns-clause-there
calls::sized-returns-clause-there = size_calls.sized-returns-clause-there

pub calls::sized-returns-clause-exact : goal.calls::sized-returns-clause-exact
calls::sized-returns-clause-exact = size_calls.sized-returns-clause-exact

pub calls::derivative-returns-in_err-operands-clause-exact : goal.calls::derivative-returns-in_err-operands-clause-exact
calls::derivative-returns-in_err-operands-clause-exact = calls.derivative-returns-in_err-operands-clause-exact

pub calls::derivative-returns-clause-exact : goal.calls::derivative-returns-clause-exact
calls::derivative-returns-clause-exact = calls.derivative-returns-clause-exact

pub calls::call-returns-in_err-function_code-in-Named-clause-there : goal.calls::call-returns-in_err-function_code-in-Named-clause-there
calls::call-returns-in_err-function_code-in-Named-clause-there = calls.call-returns-in_err-function_code-in-Named-clause-there

pub calls::call-returns-in_err-function_code-in-Named-clause-exact : goal.calls::call-returns-in_err-function_code-in-Named-clause-exact
calls::call-returns-in_err-function_code-in-Named-clause-exact = calls.call-returns-in_err-function_code-in-Named-clause-exact

pub calls::call-returns-in_err-function_code-in-Named-clause-kept : goal.calls::call-returns-in_err-function_code-in-Named-clause-kept
calls::call-returns-in_err-function_code-in-Named-clause-kept = calls.call-returns-in_err-function_code-in-Named-clause-kept

pub calls::call-returns-then-not-are_plain-clause-there : goal.calls::call-returns-then-not-are_plain-clause-there
calls::call-returns-then-not-are_plain-clause-there = calls.call-returns-then-not-are_plain-clause-there

pub calls::call-returns-then-not-are_plain-clause-exact : goal.calls::call-returns-then-not-are_plain-clause-exact
calls::call-returns-then-not-are_plain-clause-exact = calls.call-returns-then-not-are_plain-clause-exact

pub calls::call-returns-then-not-are_plain-clause-kept : goal.calls::call-returns-then-not-are_plain-clause-kept
calls::call-returns-then-not-are_plain-clause-kept = calls.call-returns-then-not-are_plain-clause-kept

pub calls::call-function-requires : goal.calls::call-function-requires
calls::call-function-requires = calls.call-function-requires

pub calls::call-returns-else-not-are_plain-clause-exact : goal.calls::call-returns-else-not-are_plain-clause-exact
calls::call-returns-else-not-are_plain-clause-exact = calls.call-returns-else-not-are_plain-clause-exact

pub calls::call-returns-then-not-are_plain-2-clause-exact : goal.calls::call-returns-then-not-are_plain-2-clause-exact
calls::call-returns-then-not-are_plain-2-clause-exact = calls.call-returns-then-not-are_plain-2-clause-exact

pub calls::call-returns-else-not-are_plain-2-clause-exact : goal.calls::call-returns-else-not-are_plain-2-clause-exact
calls::call-returns-else-not-are_plain-2-clause-exact = calls.call-returns-else-not-are_plain-2-clause-exact

pub division::in_flat-returns-in_err-operands-clause-exact : goal.division::in_flat-returns-in_err-operands-clause-exact
division::in_flat-returns-in_err-operands-clause-exact = division.in_flat-returns-in_err-operands-clause-exact

pub division::in_flat-returns-in_err-checked_operands-clause-exact : goal.division::in_flat-returns-in_err-checked_operands-clause-exact
division::in_flat-returns-in_err-checked_operands-clause-exact = division.in_flat-returns-in_err-checked_operands-clause-exact

pub division::in_flat-returns-in_err-known-clause-exact : goal.division::in_flat-returns-in_err-known-clause-exact
division::in_flat-returns-in_err-known-clause-exact = division.in_flat-returns-in_err-known-clause-exact

pub division::in_flat-returns-clause-exact : goal.division::in_flat-returns-clause-exact
division::in_flat-returns-clause-exact = division.in_flat-returns-clause-exact

pub division::division-returns-then-site-clause-there : goal.division::division-returns-then-site-clause-there
division::division-returns-then-site-clause-there = division.division-returns-then-site-clause-there

pub division::division-returns-then-site-clause-exact : goal.division::division-returns-then-site-clause-exact
division::division-returns-then-site-clause-exact = division.division-returns-then-site-clause-exact

pub division::division-returns-in_err-operands-clause-exact : goal.division::division-returns-in_err-operands-clause-exact
division::division-returns-in_err-operands-clause-exact = division.division-returns-in_err-operands-clause-exact

pub division::division-returns-in_err-checked_operands-clause-exact : goal.division::division-returns-in_err-checked_operands-clause-exact
division::division-returns-in_err-checked_operands-clause-exact = division.division-returns-in_err-checked_operands-clause-exact

pub division::division-returns-clause-there : goal.division::division-returns-clause-there
division::division-returns-clause-there = division.division-returns-clause-there

pub division::division-returns-clause-exact : goal.division::division-returns-clause-exact
division::division-returns-clause-exact = division.division-returns-clause-exact

pub resolve::resolve-returns-clause-exact : goal.resolve::resolve-returns-clause-exact
resolve::resolve-returns-clause-exact = resolve.resolve-returns-clause-exact

pub resolve::two-returns-in_err-second-clause-exact : goal.resolve::two-returns-in_err-second-clause-exact
resolve::two-returns-in_err-second-clause-exact = resolve.two-returns-in_err-second-clause-exact

pub resolve::two-returns-clause-exact : goal.resolve::two-returns-clause-exact
resolve::two-returns-clause-exact = resolve.two-returns-clause-exact

pub resolve::operands-returns-in_err-one-clause-exact : goal.resolve::operands-returns-in_err-one-clause-exact
resolve::operands-returns-in_err-one-clause-exact = resolve.operands-returns-in_err-one-clause-exact

pub resolve::operands-loop-part-preserved : goal.resolve::operands-loop-part-preserved
resolve::operands-loop-part-preserved = resolve.operands-loop-part-preserved

pub resolve::resolve_node-returns-in-Whole-clause-exact : goal.resolve::resolve_node-returns-in-Whole-clause-exact
resolve::resolve_node-returns-in-Whole-clause-exact = resolve.resolve_node-returns-in-Whole-clause-exact

pub resolve::resolve_node-returns-in-Decimal-clause-exact : goal.resolve::resolve_node-returns-in-Decimal-clause-exact
resolve::resolve_node-returns-in-Decimal-clause-exact = resolve.resolve_node-returns-in-Decimal-clause-exact

pub resolve::resolve_node-returns-in-Str-clause-exact : goal.resolve::resolve_node-returns-in-Str-clause-exact
resolve::resolve_node-returns-in-Str-clause-exact = resolve.resolve_node-returns-in-Str-clause-exact

pub resolve::resolve_node-returns-in-Truth-clause-exact : goal.resolve::resolve_node-returns-in-Truth-clause-exact
resolve::resolve_node-returns-in-Truth-clause-exact = resolve.resolve_node-returns-in-Truth-clause-exact

pub resolve::resolve_node-returns-in-Power-clause-exact : goal.resolve::resolve_node-returns-in-Power-clause-exact
resolve::resolve_node-returns-in-Power-clause-exact = resolve.resolve_node-returns-in-Power-clause-exact

pub resolve::resolve_node-returns-in-Relation-clause-exact : goal.resolve::resolve_node-returns-in-Relation-clause-exact
resolve::resolve_node-returns-in-Relation-clause-exact = resolve.resolve_node-returns-in-Relation-clause-exact

pub resolve::resolve_node-returns-in-Not-clause-exact : goal.resolve::resolve_node-returns-in-Not-clause-exact
resolve::resolve_node-returns-in-Not-clause-exact = resolve.resolve_node-returns-in-Not-clause-exact

pub resolve::resolve_node-returns-in-All-clause-exact : goal.resolve::resolve_node-returns-in-All-clause-exact
resolve::resolve_node-returns-in-All-clause-exact = resolve.resolve_node-returns-in-All-clause-exact

pub resolve::resolve_node-returns-in-Any-clause-exact : goal.resolve::resolve_node-returns-in-Any-clause-exact
resolve::resolve_node-returns-in-Any-clause-exact = resolve.resolve_node-returns-in-Any-clause-exact

pub resolve::resolve_node-returns-in-Array-clause-exact : goal.resolve::resolve_node-returns-in-Array-clause-exact
resolve::resolve_node-returns-in-Array-clause-exact = resolve.resolve_node-returns-in-Array-clause-exact

pub resolve::resolve_node-returns-in-EndMark-clause-exact : goal.resolve::resolve_node-returns-in-EndMark-clause-exact
resolve::resolve_node-returns-in-EndMark-clause-exact = resolve.resolve_node-returns-in-EndMark-clause-exact

pub resolve::resolve_node-returns-in-Tuple-clause-exact : goal.resolve::resolve_node-returns-in-Tuple-clause-exact
resolve::resolve_node-returns-in-Tuple-clause-exact = resolve.resolve_node-returns-in-Tuple-clause-exact

pub resolve::resolve_node-returns-in-ArrayFor-clause-exact : goal.resolve::resolve_node-returns-in-ArrayFor-clause-exact
resolve::resolve_node-returns-in-ArrayFor-clause-exact = resolve.resolve_node-returns-in-ArrayFor-clause-exact

pub resolve::resolve_node-returns-in-Matrix-clause-exact : goal.resolve::resolve_node-returns-in-Matrix-clause-exact
resolve::resolve_node-returns-in-Matrix-clause-exact = resolve.resolve_node-returns-in-Matrix-clause-exact

pub resolve::terms-returns-in_err-one-clause-exact : goal.resolve::terms-returns-in_err-one-clause-exact
resolve::terms-returns-in_err-one-clause-exact = resolve.terms-returns-in_err-one-clause-exact

pub resolve::terms-loop-term-preserved : goal.resolve::terms-loop-term-preserved
resolve::terms-loop-term-preserved = resolve.terms-loop-term-preserved

pub resolve::factors-returns-in_err-one-clause-exact : goal.resolve::factors-returns-in_err-one-clause-exact
resolve::factors-returns-in_err-one-clause-exact = resolve.factors-returns-in_err-one-clause-exact

pub resolve::factors-loop-factor-preserved : goal.resolve::factors-loop-factor-preserved
resolve::factors-loop-factor-preserved = resolve.factors-loop-factor-preserved

pub resolve::resolve_node-returns-in-Sum-clause-exact : goal.resolve::resolve_node-returns-in-Sum-clause-exact
resolve::resolve_node-returns-in-Sum-clause-exact = resolve.resolve_node-returns-in-Sum-clause-exact

pub resolve::resolve_node-returns-in-Product-clause-exact : goal.resolve::resolve_node-returns-in-Product-clause-exact
resolve::resolve_node-returns-in-Product-clause-exact = resolve.resolve_node-returns-in-Product-clause-exact

pub resolve::resolve_node-returns-in-Ref-clause-exact : goal.resolve::resolve_node-returns-in-Ref-clause-exact
resolve::resolve_node-returns-in-Ref-clause-exact = resolve.resolve_node-returns-in-Ref-clause-exact

pub resolve::resolve_node-returns-in-Range-clause-there : goal.resolve::resolve_node-returns-in-Range-clause-there
resolve::resolve_node-returns-in-Range-clause-there = resolve.resolve_node-returns-in-Range-clause-there

pub resolve::resolve_node-returns-in-Range-clause-exact : goal.resolve::resolve_node-returns-in-Range-clause-exact
resolve::resolve_node-returns-in-Range-clause-exact = resolve.resolve_node-returns-in-Range-clause-exact

pub resolve::resolve_node-returns-in-If-clause-exact : goal.resolve::resolve_node-returns-in-If-clause-exact
resolve::resolve_node-returns-in-If-clause-exact = resolve.resolve_node-returns-in-If-clause-exact

pub resolve::resolve_node-returns-in-Call-clause-exact : goal.resolve::resolve_node-returns-in-Call-clause-exact
resolve::resolve_node-returns-in-Call-clause-exact = resolve.resolve_node-returns-in-Call-clause-exact

pub components::condition_in-returns-in_err-known-clause-exact : goal.components::condition_in-returns-in_err-known-clause-exact
components::condition_in-returns-in_err-known-clause-exact = components.condition_in-returns-in_err-known-clause-exact

pub components::condition_in-returns-clause-exact : goal.components::condition_in-returns-clause-exact
components::condition_in-returns-clause-exact = components.condition_in-returns-clause-exact

pub components::is_there-returns-in-Class-clause-exact : goal.components::is_there-returns-in-Class-clause-exact
components::is_there-returns-in-Class-clause-exact = components.is_there-returns-in-Class-clause-exact

pub components::is_there-returns-in-None-clause-exact : goal.components::is_there-returns-in-None-clause-exact
components::is_there-returns-in-None-clause-exact = components.is_there-returns-in-None-clause-exact

pub components::is_there-returns-in-Some-there_kept-clause-exact : goal.components::is_there-returns-in-Some-there_kept-clause-exact
components::is_there-returns-in-Some-there_kept-clause-exact = components.is_there-returns-in-Some-there_kept-clause-exact

pub components::is_there-returns-in_err-there-in-Some-clause-exact : goal.components::is_there-returns-in_err-there-in-Some-clause-exact
components::is_there-returns-in_err-there-in-Some-clause-exact = components.is_there-returns-in_err-there-in-Some-clause-exact

pub components::is_there-returns-in_err-keep_there-in-Some-clause-kept : goal.components::is_there-returns-in_err-keep_there-in-Some-clause-kept
components::is_there-returns-in_err-keep_there-in-Some-clause-kept = components.is_there-returns-in_err-keep_there-in-Some-clause-kept

pub components::is_there-returns-in_ok-keep_there-in-Some-clause-kept : goal.components::is_there-returns-in_ok-keep_there-in-Some-clause-kept
components::is_there-returns-in_ok-keep_there-in-Some-clause-kept = components.is_there-returns-in_ok-keep_there-in-Some-clause-kept

pub components::is_there-returns-in_ok-keep_there-in-Some-clause-exact : goal.components::is_there-returns-in_ok-keep_there-in-Some-clause-exact
components::is_there-returns-in_ok-keep_there-in-Some-clause-exact = components.is_there-returns-in_ok-keep_there-in-Some-clause-exact

pub subscripts::numbers_of-loop-k-init : goal.subscripts::numbers_of-loop-k-init
subscripts::numbers_of-loop-k-init = subscripts.numbers_of-loop-k-init

pub subscripts::numbers_of-known_with-requires : goal.subscripts::numbers_of-known_with-requires
subscripts::numbers_of-known_with-requires = subscripts.numbers_of-known_with-requires

pub subscripts::numbers_of-returns-in_err-known-clause-exact : goal.subscripts::numbers_of-returns-in_err-known-clause-exact
subscripts::numbers_of-returns-in_err-known-clause-exact = subscripts.numbers_of-returns-in_err-known-clause-exact

pub subscripts::numbers_of-returns-in_err-n-clause-exact : goal.subscripts::numbers_of-returns-in_err-n-clause-exact
subscripts::numbers_of-returns-in_err-n-clause-exact = subscripts.numbers_of-returns-in_err-n-clause-exact

pub subscripts::numbers_of-loop-k-preserved : goal.subscripts::numbers_of-loop-k-preserved
subscripts::numbers_of-loop-k-preserved = subscripts.numbers_of-loop-k-preserved

pub subscripts::numbers_of-returns-clause-exact : goal.subscripts::numbers_of-returns-clause-exact
subscripts::numbers_of-returns-clause-exact = subscripts.numbers_of-returns-clause-exact

pub subscripts::subscript_in-returns-in_err-dims-clause-exact : goal.subscripts::subscript_in-returns-in_err-dims-clause-exact
subscripts::subscript_in-returns-in_err-dims-clause-exact = subscripts.subscript_in-returns-in_err-dims-clause-exact

pub subscripts::subscript_in-returns-in_err-known-clause-exact : goal.subscripts::subscript_in-returns-in_err-known-clause-exact
subscripts::subscript_in-returns-in_err-known-clause-exact = subscripts.subscript_in-returns-in_err-known-clause-exact

pub subscripts::subscript_in-returns-in_default-clause-exact : goal.subscripts::subscript_in-returns-in_default-clause-exact
subscripts::subscript_in-returns-in_default-clause-exact = subscripts.subscript_in-returns-in_default-clause-exact

pub subscripts::subscript_in-returns-in_err-numbers-clause-exact : goal.subscripts::subscript_in-returns-in_err-numbers-clause-exact
subscripts::subscript_in-returns-in_err-numbers-clause-exact = subscripts.subscript_in-returns-in_err-numbers-clause-exact

pub subscripts::subscript_in-returns-clause-exact : goal.subscripts::subscript_in-returns-clause-exact
subscripts::subscript_in-returns-clause-exact = subscripts.subscript_in-returns-clause-exact

pub subscripts::read_subscript-returns-in_default-clause-exact : goal.subscripts::read_subscript-returns-in_default-clause-exact
subscripts::read_subscript-returns-in_default-clause-exact = subscripts.read_subscript-returns-in_default-clause-exact

pub subscripts::read_subscript-returns-in_err-resolved-clause-exact : goal.subscripts::read_subscript-returns-in_err-resolved-clause-exact
subscripts::read_subscript-returns-in_err-resolved-clause-exact = subscripts.read_subscript-returns-in_err-resolved-clause-exact

pub subscripts::read_subscript-returns-clause-exact : goal.subscripts::read_subscript-returns-clause-exact
subscripts::read_subscript-returns-clause-exact = subscripts.read_subscript-returns-clause-exact

pub subscripts::subscript_at-returns-in-None-clause-exact : goal.subscripts::subscript_at-returns-in-None-clause-exact
subscripts::subscript_at-returns-in-None-clause-exact = subscripts.subscript_at-returns-in-None-clause-exact

pub subscripts::subscript_at-returns-in-Some-clause-exact : goal.subscripts::subscript_at-returns-in-Some-clause-exact
subscripts::subscript_at-returns-in-Some-clause-exact = subscripts.subscript_at-returns-in-Some-clause-exact

pub subscripts::read_subscripts-loop-k-init : goal.subscripts::read_subscripts-loop-k-init
subscripts::read_subscripts-loop-k-init = subscripts.read_subscripts-loop-k-init

pub subscripts::read_subscripts-returns-in_err-sub-clause-exact : goal.subscripts::read_subscripts-returns-in_err-sub-clause-exact
subscripts::read_subscripts-returns-in_err-sub-clause-exact = subscripts.read_subscripts-returns-in_err-sub-clause-exact

pub subscripts::read_subscripts-loop-k-preserved : goal.subscripts::read_subscripts-loop-k-preserved
subscripts::read_subscripts-loop-k-preserved = subscripts.read_subscripts-loop-k-preserved

pub subscripts::read_subscripts-returns-clause-exact : goal.subscripts::read_subscripts-returns-clause-exact
subscripts::read_subscripts-returns-clause-exact = subscripts.read_subscripts-returns-clause-exact

pub dimensions::written_dim-returns-clause-exact : goal.dimensions::written_dim-returns-clause-exact
dimensions::written_dim-returns-clause-exact = dimensions.written_dim-returns-clause-exact

pub dimensions::dims_in-returns-clause-exact : goal.dimensions::dims_in-returns-clause-exact
dimensions::dims_in-returns-clause-exact = dimensions.dims_in-returns-clause-exact

pub dimensions::binding_dims-returns-in_err-child-clause-exact : goal.dimensions::binding_dims-returns-in_err-child-clause-exact
dimensions::binding_dims-returns-in_err-child-clause-exact = dimensions.binding_dims-returns-in_err-child-clause-exact

pub dimensions::binding_dims-returns-in_err-child-clause-kept : goal.dimensions::binding_dims-returns-in_err-child-clause-kept
dimensions::binding_dims-returns-in_err-child-clause-kept = dimensions.binding_dims-returns-in_err-child-clause-kept

pub dimensions::binding_dims-returns-in-None-clause-exact : goal.dimensions::binding_dims-returns-in-None-clause-exact
dimensions::binding_dims-returns-in-None-clause-exact = dimensions.binding_dims-returns-in-None-clause-exact

pub dimensions::binding_dims-returns-in-None-clause-kept : goal.dimensions::binding_dims-returns-in-None-clause-kept
dimensions::binding_dims-returns-in-None-clause-kept = dimensions.binding_dims-returns-in-None-clause-kept

pub dimensions::binding_dims-dims_in-requires : goal.dimensions::binding_dims-dims_in-requires
dimensions::binding_dims-dims_in-requires = dimensions.binding_dims-dims_in-requires

pub dimensions::binding_dims-returns-clause-exact : goal.dimensions::binding_dims-returns-clause-exact
dimensions::binding_dims-returns-clause-exact = dimensions.binding_dims-returns-clause-exact

pub dimensions::put_dims-loop-sub-init : goal.dimensions::put_dims-loop-sub-init
dimensions::put_dims-loop-sub-init = dimensions.put_dims-loop-sub-init

pub dimensions::put_dims-returns-in_err-n-clause-exact : goal.dimensions::put_dims-returns-in_err-n-clause-exact
dimensions::put_dims-returns-in_err-n-clause-exact = dimensions.put_dims-returns-in_err-n-clause-exact

pub dimensions::put_dims-loop-sub-preserved : goal.dimensions::put_dims-loop-sub-preserved
dimensions::put_dims-loop-sub-preserved = dimensions.put_dims-loop-sub-preserved

pub dimensions::put_dims-returns-clause-exact : goal.dimensions::put_dims-returns-clause-exact
dimensions::put_dims-returns-clause-exact = dimensions.put_dims-returns-clause-exact

pub dimensions::all_dims-loop-one-init : goal.dimensions::all_dims-loop-one-init
dimensions::all_dims-loop-one-init = dimensions.all_dims-loop-one-init

pub dimensions::all_dims-returns-in_err-put_dims-clause-exact : goal.dimensions::all_dims-returns-in_err-put_dims-clause-exact
dimensions::all_dims-returns-in_err-put_dims-clause-exact = dimensions.all_dims-returns-in_err-put_dims-clause-exact

pub dimensions::all_dims-loop-one-preserved : goal.dimensions::all_dims-loop-one-preserved
dimensions::all_dims-loop-one-preserved = dimensions.all_dims-loop-one-preserved

pub dimensions::all_dims-returns-clause-exact : goal.dimensions::all_dims-returns-clause-exact
dimensions::all_dims-returns-clause-exact = dimensions.all_dims-returns-clause-exact

pub dimensions::dims-returns-in_err-sizes-clause-exact : goal.dimensions::dims-returns-in_err-sizes-clause-exact
dimensions::dims-returns-in_err-sizes-clause-exact = dimensions.dims-returns-in_err-sizes-clause-exact

pub dimensions::dims-returns-in-Some-clause-exact : goal.dimensions::dims-returns-in-Some-clause-exact
dimensions::dims-returns-in-Some-clause-exact = dimensions.dims-returns-in-Some-clause-exact

pub dimensions::dims-returns-in_err-sizes-clause-kept : goal.dimensions::dims-returns-in_err-sizes-clause-kept
dimensions::dims-returns-in_err-sizes-clause-kept = dimensions.dims-returns-in_err-sizes-clause-kept

pub dimensions::dims-returns-in_err-count-clause-kept : goal.dimensions::dims-returns-in_err-count-clause-kept
dimensions::dims-returns-in_err-count-clause-kept = dimensions.dims-returns-in_err-count-clause-kept

pub dimensions::dims-returns-in_err-dims-clause-exact : goal.dimensions::dims-returns-in_err-dims-clause-exact
dimensions::dims-returns-in_err-dims-clause-exact = dimensions.dims-returns-in_err-dims-clause-exact

pub dimensions::dims-returns-in_err-keep_dims-clause-kept : goal.dimensions::dims-returns-in_err-keep_dims-clause-kept
dimensions::dims-returns-in_err-keep_dims-clause-kept = dimensions.dims-returns-in_err-keep_dims-clause-kept

pub dimensions::dims-returns-clause-kept : goal.dimensions::dims-returns-clause-kept
dimensions::dims-returns-clause-kept = dimensions.dims-returns-clause-kept

pub dimensions::dims-returns-clause-exact : goal.dimensions::dims-returns-clause-exact
dimensions::dims-returns-clause-exact = dimensions.dims-returns-clause-exact

pub selections::there-returns-in_err-there-clause-exact : goal.selections::there-returns-in_err-there-clause-exact
selections::there-returns-in_err-there-clause-exact = selections.there-returns-in_err-there-clause-exact

pub selections::there-returns-then-not-there-clause-exact : goal.selections::there-returns-then-not-there-clause-exact
selections::there-returns-then-not-there-clause-exact = selections.there-returns-then-not-there-clause-exact

pub selections::there-returns-clause-exact : goal.selections::there-returns-clause-exact
selections::there-returns-clause-exact = selections.there-returns-clause-exact

pub selections::dims_there-returns-in_err-there-clause-exact : goal.selections::dims_there-returns-in_err-there-clause-exact
selections::dims_there-returns-in_err-there-clause-exact = selections.dims_there-returns-in_err-there-clause-exact

pub selections::dims_there-returns-in_err-dims-clause-exact : goal.selections::dims_there-returns-in_err-dims-clause-exact
selections::dims_there-returns-in_err-dims-clause-exact = selections.dims_there-returns-in_err-dims-clause-exact

pub selections::dims_there-returns-clause-exact : goal.selections::dims_there-returns-clause-exact
selections::dims_there-returns-clause-exact = selections.dims_there-returns-clause-exact

pub selections::dims_at-returns-in-Some-clause-exact : goal.selections::dims_at-returns-in-Some-clause-exact
selections::dims_at-returns-in-Some-clause-exact = selections.dims_at-returns-in-Some-clause-exact

pub selections::dims_at-returns-in_err-n-in-None-clause-kept : goal.selections::dims_at-returns-in_err-n-in-None-clause-kept
selections::dims_at-returns-in_err-n-in-None-clause-kept = selections.dims_at-returns-in_err-n-in-None-clause-kept

pub selections::dims_at-returns-in_err-nothings-in-None-clause-kept : goal.selections::dims_at-returns-in_err-nothings-in-None-clause-kept
selections::dims_at-returns-in_err-nothings-in-None-clause-kept = selections.dims_at-returns-in_err-nothings-in-None-clause-kept

pub selections::dims_at-returns-in_ok-nothings-in-None-clause-kept : goal.selections::dims_at-returns-in_ok-nothings-in-None-clause-kept
selections::dims_at-returns-in_ok-nothings-in-None-clause-kept = selections.dims_at-returns-in_ok-nothings-in-None-clause-kept

pub below::agrees-returns-in_err-dims-clause-exact : goal.below::agrees-returns-in_err-dims-clause-exact
below::agrees-returns-in_err-dims-clause-exact = below.agrees-returns-in_err-dims-clause-exact

pub below::agrees-returns-then-are_equal-clause-exact : goal.below::agrees-returns-then-are_equal-clause-exact
below::agrees-returns-then-are_equal-clause-exact = below.agrees-returns-then-are_equal-clause-exact

pub below::agrees-returns-clause-exact : goal.below::agrees-returns-clause-exact
below::agrees-returns-clause-exact = below.agrees-returns-clause-exact

pub selections::selection_at-returns-in_err-dims-clause-exact : goal.selections::selection_at-returns-in_err-dims-clause-exact
selections::selection_at-returns-in_err-dims-clause-exact = selections.selection_at-returns-in_err-dims-clause-exact

pub selections::selection_at-returns-in_err-subs-clause-exact : goal.selections::selection_at-returns-in_err-subs-clause-exact
selections::selection_at-returns-in_err-subs-clause-exact = selections.selection_at-returns-in_err-subs-clause-exact

pub selections::selection_at-returns-clause-exact : goal.selections::selection_at-returns-clause-exact
selections::selection_at-returns-clause-exact = selections.selection_at-returns-clause-exact

pub selections::selections-loop-i-init : goal.selections::selections-loop-i-init
selections::selections-loop-i-init = selections.selections-loop-i-init

pub selections::selections-returns-in_err-selection-clause-exact : goal.selections::selections-returns-in_err-selection-clause-exact
selections::selections-returns-in_err-selection-clause-exact = selections.selections-returns-in_err-selection-clause-exact

pub selections::selections-returns-in_err-member-clause-exact : goal.selections::selections-returns-in_err-member-clause-exact
selections::selections-returns-in_err-member-clause-exact = selections.selections-returns-in_err-member-clause-exact

pub selections::selections-returns-in_err-member-clause-kept : goal.selections::selections-returns-in_err-member-clause-kept
selections::selections-returns-in_err-member-clause-kept = selections.selections-returns-in_err-member-clause-kept

pub selections::selections-returns-in_err-push-clause-kept : goal.selections::selections-returns-in_err-push-clause-kept
selections::selections-returns-in_err-push-clause-kept = selections.selections-returns-in_err-push-clause-kept

pub selections::selections-loop-i-preserved : goal.selections::selections-loop-i-preserved
selections::selections-loop-i-preserved = selections.selections-loop-i-preserved

pub selections::selections-returns-clause-exact : goal.selections::selections-returns-clause-exact
selections::selections-returns-clause-exact = selections.selections-returns-clause-exact

pub references::components-returns-then-site-eq0-clause-exact : goal.references::components-returns-then-site-eq0-clause-exact
references::components-returns-then-site-eq0-clause-exact = references.components-returns-then-site-eq0-clause-exact

pub references::components-returns-in_err-chosen-clause-there : goal.references::components-returns-in_err-chosen-clause-there
references::components-returns-in_err-chosen-clause-there = references.components-returns-in_err-chosen-clause-there

pub references::components-returns-in_err-chosen-clause-exact : goal.references::components-returns-in_err-chosen-clause-exact
references::components-returns-in_err-chosen-clause-exact = references.components-returns-in_err-chosen-clause-exact

pub references::components-returns-in_err-elements-clause-there : goal.references::components-returns-in_err-elements-clause-there
references::components-returns-in_err-elements-clause-there = references.components-returns-in_err-elements-clause-there

pub references::components-returns-in_err-elements-clause-exact : goal.references::components-returns-in_err-elements-clause-exact
references::components-returns-in_err-elements-clause-exact = references.components-returns-in_err-elements-clause-exact

pub references::components-returns-in_err-kind-clause-grows : goal.references::components-returns-in_err-kind-clause-grows
references::components-returns-in_err-kind-clause-grows = references.components-returns-in_err-kind-clause-grows

pub references::components-returns-in_err-kind-clause-kept : goal.references::components-returns-in_err-kind-clause-kept
references::components-returns-in_err-kind-clause-kept = references.components-returns-in_err-kind-clause-kept

pub references::components-returns-in_err-kind-clause-there : goal.references::components-returns-in_err-kind-clause-there
references::components-returns-in_err-kind-clause-there = references.components-returns-in_err-kind-clause-there

pub references::components-returns-in_err-kind-clause-exact : goal.references::components-returns-in_err-kind-clause-exact
references::components-returns-in_err-kind-clause-exact = references.components-returns-in_err-kind-clause-exact

pub references::components-returns-in_err-dims-clause-grows : goal.references::components-returns-in_err-dims-clause-grows
references::components-returns-in_err-dims-clause-grows = references.components-returns-in_err-dims-clause-grows

pub references::components-returns-in_err-dims-clause-there : goal.references::components-returns-in_err-dims-clause-there
references::components-returns-in_err-dims-clause-there = references.components-returns-in_err-dims-clause-there

pub references::components-returns-in_err-dims-clause-kept : goal.references::components-returns-in_err-dims-clause-kept
references::components-returns-in_err-dims-clause-kept = references.components-returns-in_err-dims-clause-kept

pub references::components-returns-in_err-vars-clause-grows : goal.references::components-returns-in_err-vars-clause-grows
references::components-returns-in_err-vars-clause-grows = references.components-returns-in_err-vars-clause-grows

pub references::components-returns-in_err-vars-clause-there : goal.references::components-returns-in_err-vars-clause-there
references::components-returns-in_err-vars-clause-there = references.components-returns-in_err-vars-clause-there

pub references::components-returns-in_err-vars-clause-kept : goal.references::components-returns-in_err-vars-clause-kept
references::components-returns-in_err-vars-clause-kept = references.components-returns-in_err-vars-clause-kept

pub references::components-returns-clause-grows : goal.references::components-returns-clause-grows
references::components-returns-clause-grows = references.components-returns-clause-grows

pub references::components-returns-clause-there : goal.references::components-returns-clause-there
references::components-returns-clause-there = references.components-returns-clause-there

pub references::components-returns-clause-kept : goal.references::components-returns-clause-kept
references::components-returns-clause-kept = references.components-returns-clause-kept

pub references::components-returns-clause-exact : goal.references::components-returns-clause-exact
references::components-returns-clause-exact = references.components-returns-clause-exact

pub references::name-returns-in_err-names-clause-there : goal.references::name-returns-in_err-names-clause-there
references::name-returns-in_err-names-clause-there = references.name-returns-in_err-names-clause-there

pub references::name-returns-in_err-names-clause-kept : goal.references::name-returns-in_err-names-clause-kept
references::name-returns-in_err-names-clause-kept = references.name-returns-in_err-names-clause-kept

pub references::name-components-requires : goal.references::name-components-requires
references::name-components-requires = references.name-components-requires

pub references::name-returns-in-Components-clause-exact : goal.references::name-returns-in-Components-clause-exact
references::name-returns-in-Components-clause-exact = references.name-returns-in-Components-clause-exact

pub references::name-returns-in-Other-clause-there : goal.references::name-returns-in-Other-clause-there
references::name-returns-in-Other-clause-there = references.name-returns-in-Other-clause-there

pub references::name-returns-in-Other-clause-kept : goal.references::name-returns-in-Other-clause-kept
references::name-returns-in-Other-clause-kept = references.name-returns-in-Other-clause-kept

pub references::name-returns-in-Other-clause-exact : goal.references::name-returns-in-Other-clause-exact
references::name-returns-in-Other-clause-exact = references.name-returns-in-Other-clause-exact

pub below::below-returns-in_default-clause-exact : goal.below::below-returns-in_default-clause-exact
below::below-returns-in_default-clause-exact = below.below-returns-in_default-clause-exact

pub below::below-returns-in_err-agrees-clause-exact : goal.below::below-returns-in_err-agrees-clause-exact
below::below-returns-in_err-agrees-clause-exact = below.below-returns-in_err-agrees-clause-exact

pub below::below-returns-in_err-indices-clause-exact : goal.below::below-returns-in_err-indices-clause-exact
below::below-returns-in_err-indices-clause-exact = below.below-returns-in_err-indices-clause-exact

pub below::below-below_each-requires : goal.below::below-below_each-requires
below::below-below_each-requires = below.below-below_each-requires

pub below::below-returns-clause-exact : goal.below::below-returns-clause-exact
below::below-returns-clause-exact = below.below-returns-clause-exact

pub below::below_each-returns-in_default-clause-there : goal.below::below_each-returns-in_default-clause-there
below::below_each-returns-in_default-clause-there = below.below_each-returns-in_default-clause-there

pub below::below_each-returns-in_default-clause-exact : goal.below::below_each-returns-in_default-clause-exact
below::below_each-returns-in_default-clause-exact = below.below_each-returns-in_default-clause-exact

pub below::below_each-loop-index-init : goal.below::below_each-loop-index-init
below::below_each-loop-index-init = below.below_each-loop-index-init

pub below::below_each-returns-in_err-part-clause-exact : goal.below::below_each-returns-in_err-part-clause-exact
below::below_each-returns-in_err-part-clause-exact = below.below_each-returns-in_err-part-clause-exact

pub below::below_each-returns-in_err-part-clause-kept : goal.below::below_each-returns-in_err-part-clause-kept
below::below_each-returns-in_err-part-clause-kept = below.below_each-returns-in_err-part-clause-kept

pub below::below_each-below-requires : goal.below::below_each-below-requires
below::below_each-below-requires = below.below_each-below-requires

pub below::below_each-returns-in_err-below-clause-exact : goal.below::below_each-returns-in_err-below-clause-exact
below::below_each-returns-in_err-below-clause-exact = below.below_each-returns-in_err-below-clause-exact

pub below::below_each-loop-index-preserved : goal.below::below_each-loop-index-preserved
below::below_each-loop-index-preserved = below.below_each-loop-index-preserved

pub below::below_each-returns-clause-exact : goal.below::below_each-returns-clause-exact
below::below_each-returns-clause-exact = below.below_each-returns-clause-exact

pub dimensions::all_dims-put_dims-requires : goal.dimensions::all_dims-put_dims-requires
dimensions::all_dims-put_dims-requires = dimensions.all_dims-put_dims-requires

pub dimensions::dims-all_dims-requires : goal.dimensions::dims-all_dims-requires
dimensions::dims-all_dims-requires = dimensions.dims-all_dims-requires

pub dimensions::put_dims-dim_at-requires : goal.dimensions::put_dims-dim_at-requires
dimensions::put_dims-dim_at-requires = dimensions.put_dims-dim_at-requires

pub references::components-elements_selected-requires : goal.references::components-elements_selected-requires
references::components-elements_selected-requires = references.components-elements_selected-requires

pub references::components-kind_of_elements-requires-clause-member : goal.references::components-kind_of_elements-requires-clause-member
references::components-kind_of_elements-requires-clause-member = references.components-kind_of_elements-requires-clause-member

pub references::elements_selected-returns-clause-there : goal.references::elements_selected-returns-clause-there
references::elements_selected-returns-clause-there = references.elements_selected-returns-clause-there

pub references::elements_selected-returns-clause-exact : goal.references::elements_selected-returns-clause-exact
references::elements_selected-returns-clause-exact = references.elements_selected-returns-clause-exact

pub selections::selections-selection_at-requires : goal.selections::selections-selection_at-requires
selections::selections-selection_at-requires = selections.selections-selection_at-requires

pub alone::end_of-returns-in_err-whole_scalar-clause-grows : goal.alone::end_of-returns-in_err-whole_scalar-clause-grows
alone::end_of-returns-in_err-whole_scalar-clause-grows = alone.end_of-returns-in_err-whole_scalar-clause-grows

pub alone::truth_of-returns-in_err-truth_scalar-clause-grows : goal.alone::truth_of-returns-in_err-truth_scalar-clause-grows
alone::truth_of-returns-in_err-truth_scalar-clause-grows = alone.truth_of-returns-in_err-truth_scalar-clause-grows

pub alone::read_end-returns-clause-grows : goal.alone::read_end-returns-clause-grows
alone::read_end-returns-clause-grows = alone.read_end-returns-clause-grows

pub alone::read_size-returns-clause-grows : goal.alone::read_size-returns-clause-grows
alone::read_size-returns-clause-grows = alone.read_size-returns-clause-grows

pub alone::read_condition-returns-clause-grows : goal.alone::read_condition-returns-clause-grows
alone::read_condition-returns-clause-grows = alone.read_condition-returns-clause-grows

pub below::below-returns-in_default-clause-grows : goal.below::below-returns-in_default-clause-grows
below::below-returns-in_default-clause-grows = below.below-returns-in_default-clause-grows

pub below::below-returns-clause-grows : goal.below::below-returns-clause-grows
below::below-returns-clause-grows = below.below-returns-clause-grows

pub below::below_each-returns-in_err-part-clause-grows : goal.below::below_each-returns-in_err-part-clause-grows
below::below_each-returns-in_err-part-clause-grows = below.below_each-returns-in_err-part-clause-grows

pub below::below_each-returns-in_err-below-clause-grows : goal.below::below_each-returns-in_err-below-clause-grows
below::below_each-returns-in_err-below-clause-grows = below.below_each-returns-in_err-below-clause-grows

pub calls::arguments-returns-in_err-one-clause-grows : goal.calls::arguments-returns-in_err-one-clause-grows
calls::arguments-returns-in_err-one-clause-grows = calls.arguments-returns-in_err-one-clause-grows

pub calls::arguments-returns-in_err-push-clause-grows : goal.calls::arguments-returns-in_err-push-clause-grows
calls::arguments-returns-in_err-push-clause-grows = calls.arguments-returns-in_err-push-clause-grows

pub calls::sizes-returns-in_err-one-clause-grows : goal.calls::sizes-returns-in_err-one-clause-grows
calls::sizes-returns-in_err-one-clause-grows = size_calls.sizes-returns-in_err-one-clause-grows

pub calls::sizes-returns-in_err-push-clause-grows : goal.calls::sizes-returns-in_err-push-clause-grows
calls::sizes-returns-in_err-push-clause-grows = size_calls.sizes-returns-in_err-push-clause-grows

pub calls::number-returns-in_default-clause-grows : goal.calls::number-returns-in_default-clause-grows
calls::number-returns-in_default-clause-grows = size_calls.number-returns-in_default-clause-grows

pub calls::number-returns-in_err-arguments-in-Some-split-clause-grows : goal.calls::number-returns-in_err-arguments-in-Some-split-clause-grows
calls::number-returns-in_err-arguments-in-Some-split-clause-grows = size_calls.number-returns-in_err-arguments-in-Some-split-clause-grows

pub calls::number-returns-in_ok-arguments-in-Some-split-clause-grows : goal.calls::number-returns-in_ok-arguments-in-Some-split-clause-grows
calls::number-returns-in_ok-arguments-in-Some-split-clause-grows = size_calls.number-returns-in_ok-arguments-in-Some-split-clause-grows

pub calls::size-returns-in_default-clause-grows : goal.calls::size-returns-in_default-clause-grows
calls::size-returns-in_default-clause-grows = size_calls.size-returns-in_default-clause-grows

pub calls::size-returns-in_err-at-clause-grows : goal.calls::size-returns-in_err-at-clause-grows
calls::size-returns-in_err-at-clause-grows = size_calls.size-returns-in_err-at-clause-grows

pub calls::size-returns-clause-grows : goal.calls::size-returns-clause-grows
calls::size-returns-clause-grows = size_calls.size-returns-clause-grows

pub calls::fill-returns-in_default-clause-grows : goal.calls::fill-returns-in_default-clause-grows
calls::fill-returns-in_default-clause-grows = size_calls.fill-returns-in_default-clause-grows

pub calls::fill-returns-in_err-numbers-clause-grows : goal.calls::fill-returns-in_err-numbers-clause-grows
calls::fill-returns-in_err-numbers-clause-grows = size_calls.fill-returns-in_err-numbers-clause-grows

pub calls::fill-returns-clause-grows : goal.calls::fill-returns-clause-grows
calls::fill-returns-clause-grows = size_calls.fill-returns-clause-grows

pub calls::call-returns-else-not-are_plain-clause-grows : goal.calls::call-returns-else-not-are_plain-clause-grows
calls::call-returns-else-not-are_plain-clause-grows = calls.call-returns-else-not-are_plain-clause-grows

pub calls::call-returns-then-not-are_plain-2-clause-grows : goal.calls::call-returns-then-not-are_plain-2-clause-grows
calls::call-returns-then-not-are_plain-2-clause-grows = calls.call-returns-then-not-are_plain-2-clause-grows

pub calls::call-returns-in-Initial-clause-grows : goal.calls::call-returns-in-Initial-clause-grows
calls::call-returns-in-Initial-clause-grows = calls.call-returns-in-Initial-clause-grows

pub calls::call-returns-in-Pure-clause-grows : goal.calls::call-returns-in-Pure-clause-grows
calls::call-returns-in-Pure-clause-grows = calls.call-returns-in-Pure-clause-grows

pub choice::read_step-returns-in-None-clause-grows : goal.choice::read_step-returns-in-None-clause-grows
choice::read_step-returns-in-None-clause-grows = choice.read_step-returns-in-None-clause-grows

pub choice::range-returns-in_err-b-clause-grows : goal.choice::range-returns-in_err-b-clause-grows
choice::range-returns-in_err-b-clause-grows = choice.range-returns-in_err-b-clause-grows

pub choice::range-returns-in_err-c-clause-grows : goal.choice::range-returns-in_err-c-clause-grows
choice::range-returns-in_err-c-clause-grows = choice.range-returns-in_err-c-clause-grows

pub choice::range-returns-clause-grows : goal.choice::range-returns-clause-grows
choice::range-returns-clause-grows = choice.range-returns-clause-grows

pub choice::made_branch-returns-in-Some-true-clause-grows : goal.choice::made_branch-returns-in-Some-true-clause-grows
choice::made_branch-returns-in-Some-true-clause-grows = choice.made_branch-returns-in-Some-true-clause-grows

pub choice::made_branch-returns-in-None-clause-grows : goal.choice::made_branch-returns-in-None-clause-grows
choice::made_branch-returns-in-None-clause-grows = choice.made_branch-returns-in-None-clause-grows

pub choice::choice-returns-in_err-step-clause-grows : goal.choice::choice-returns-in_err-step-clause-grows
choice::choice-returns-in_err-step-clause-grows = choice.choice-returns-in_err-step-clause-grows

pub choice::choice-returns-in_err-value-clause-grows : goal.choice::choice-returns-in_err-value-clause-grows
choice::choice-returns-in_err-value-clause-grows = choice.choice-returns-in_err-value-clause-grows

pub choice::choice-returns-in-Some-clause-grows : goal.choice::choice-returns-in-Some-clause-grows
choice::choice-returns-in-Some-clause-grows = choice.choice-returns-in-Some-clause-grows

pub choice::choice-returns-in_err-rest-clause-grows : goal.choice::choice-returns-in_err-rest-clause-grows
choice::choice-returns-in_err-rest-clause-grows = choice.choice-returns-in_err-rest-clause-grows

pub choice::choice-returns-clause-grows : goal.choice::choice-returns-clause-grows
choice::choice-returns-clause-grows = choice.choice-returns-clause-grows

pub components::condition_in-returns-in_err-known-clause-grows : goal.components::condition_in-returns-in_err-known-clause-grows
components::condition_in-returns-in_err-known-clause-grows = components.condition_in-returns-in_err-known-clause-grows

pub components::condition_in-returns-clause-grows : goal.components::condition_in-returns-clause-grows
components::condition_in-returns-clause-grows = components.condition_in-returns-clause-grows

pub components::is_there-returns-in-Class-clause-grows : goal.components::is_there-returns-in-Class-clause-grows
components::is_there-returns-in-Class-clause-grows = components.is_there-returns-in-Class-clause-grows

pub components::is_there-returns-in-None-clause-grows : goal.components::is_there-returns-in-None-clause-grows
components::is_there-returns-in-None-clause-grows = components.is_there-returns-in-None-clause-grows

pub components::is_there-returns-in-Some-there_kept-clause-grows : goal.components::is_there-returns-in-Some-there_kept-clause-grows
components::is_there-returns-in-Some-there_kept-clause-grows = components.is_there-returns-in-Some-there_kept-clause-grows

pub components::bound_value-returns-in_err-fits-clause-grows : goal.components::bound_value-returns-in_err-fits-clause-grows
components::bound_value-returns-in_err-fits-clause-grows = components.bound_value-returns-in_err-fits-clause-grows

pub components::resolved_binding-returns-in-Some-clause-grows : goal.components::resolved_binding-returns-in-Some-clause-grows
components::resolved_binding-returns-in-Some-clause-grows = components.resolved_binding-returns-in-Some-clause-grows

pub components::value_in-returns-in_err-known-clause-grows : goal.components::value_in-returns-in_err-known-clause-grows
components::value_in-returns-in_err-known-clause-grows = components.value_in-returns-in_err-known-clause-grows

pub components::value_in-returns-in_err-keep_binding-clause-grows : goal.components::value_in-returns-in_err-keep_binding-clause-grows
components::value_in-returns-in_err-keep_binding-clause-grows = components.value_in-returns-in_err-keep_binding-clause-grows

pub components::value_in-returns-clause-grows : goal.components::value_in-returns-clause-grows
components::value_in-returns-clause-grows = components.value_in-returns-clause-grows

pub components::element_value-returns-clause-grows : goal.components::element_value-returns-clause-grows
components::element_value-returns-clause-grows = components.element_value-returns-clause-grows

pub dimensions::written_dim-returns-clause-grows : goal.dimensions::written_dim-returns-clause-grows
dimensions::written_dim-returns-clause-grows = dimensions.written_dim-returns-clause-grows

pub dimensions::binding_dims-returns-clause-grows : goal.dimensions::binding_dims-returns-clause-grows
dimensions::binding_dims-returns-clause-grows = dimensions.binding_dims-returns-clause-grows

pub dimensions::put_dims-returns-in_err-n-clause-grows : goal.dimensions::put_dims-returns-in_err-n-clause-grows
dimensions::put_dims-returns-in_err-n-clause-grows = dimensions.put_dims-returns-in_err-n-clause-grows

pub dimensions::put_dims-returns-in_err-push-clause-grows : goal.dimensions::put_dims-returns-in_err-push-clause-grows
dimensions::put_dims-returns-in_err-push-clause-grows = dimensions.put_dims-returns-in_err-push-clause-grows

pub dimensions::all_dims-returns-in_err-put_dims-clause-grows : goal.dimensions::all_dims-returns-in_err-put_dims-clause-grows
dimensions::all_dims-returns-in_err-put_dims-clause-grows = dimensions.all_dims-returns-in_err-put_dims-clause-grows

pub dimensions::dims-returns-in_err-known-clause-grows : goal.dimensions::dims-returns-in_err-known-clause-grows
dimensions::dims-returns-in_err-known-clause-grows = dimensions.dims-returns-in_err-known-clause-grows

pub dimensions::dims-returns-in-Some-clause-grows : goal.dimensions::dims-returns-in-Some-clause-grows
dimensions::dims-returns-in-Some-clause-grows = dimensions.dims-returns-in-Some-clause-grows

pub dimensions::dims-returns-in_err-dims-clause-grows : goal.dimensions::dims-returns-in_err-dims-clause-grows
dimensions::dims-returns-in_err-dims-clause-grows = dimensions.dims-returns-in_err-dims-clause-grows

pub dimensions::dims-returns-in_err-keep_dims-clause-grows : goal.dimensions::dims-returns-in_err-keep_dims-clause-grows
dimensions::dims-returns-in_err-keep_dims-clause-grows = dimensions.dims-returns-in_err-keep_dims-clause-grows

pub dimensions::dims-returns-clause-grows : goal.dimensions::dims-returns-clause-grows
dimensions::dims-returns-clause-grows = dimensions.dims-returns-clause-grows

pub division::value_of-returns-in_default-clause-grows : goal.division::value_of-returns-in_default-clause-grows
division::value_of-returns-in_default-clause-grows = division.value_of-returns-in_default-clause-grows

pub division::value_of-returns-in_err-n-clause-grows : goal.division::value_of-returns-in_err-n-clause-grows
division::value_of-returns-in_err-n-clause-grows = division.value_of-returns-in_err-n-clause-grows

pub division::value_of-returns-clause-grows : goal.division::value_of-returns-clause-grows
division::value_of-returns-clause-grows = division.value_of-returns-clause-grows

pub division::in_flat-returns-in_err-known-clause-grows : goal.division::in_flat-returns-in_err-known-clause-grows
division::in_flat-returns-in_err-known-clause-grows = division.in_flat-returns-in_err-known-clause-grows

pub division::in_flat-returns-clause-grows : goal.division::in_flat-returns-clause-grows
division::in_flat-returns-clause-grows = division.in_flat-returns-clause-grows

pub references::components-returns-then-site-eq0-clause-grows : goal.references::components-returns-then-site-eq0-clause-grows
references::components-returns-then-site-eq0-clause-grows = references.components-returns-then-site-eq0-clause-grows

pub references::components-returns-in_err-elements-clause-grows : goal.references::components-returns-in_err-elements-clause-grows
references::components-returns-in_err-elements-clause-grows = references.components-returns-in_err-elements-clause-grows

pub references::name-returns-in-Components-clause-grows : goal.references::name-returns-in-Components-clause-grows
references::name-returns-in-Components-clause-grows = references.name-returns-in-Components-clause-grows

pub resolve::two-returns-in_err-second-clause-grows : goal.resolve::two-returns-in_err-second-clause-grows
resolve::two-returns-in_err-second-clause-grows = resolve.two-returns-in_err-second-clause-grows

pub resolve::two-returns-clause-grows : goal.resolve::two-returns-clause-grows
resolve::two-returns-clause-grows = resolve.two-returns-clause-grows

pub resolve::operands-returns-in_err-one-clause-grows : goal.resolve::operands-returns-in_err-one-clause-grows
resolve::operands-returns-in_err-one-clause-grows = resolve.operands-returns-in_err-one-clause-grows

pub resolve::operands-returns-in_err-push-clause-grows : goal.resolve::operands-returns-in_err-push-clause-grows
resolve::operands-returns-in_err-push-clause-grows = resolve.operands-returns-in_err-push-clause-grows

pub resolve::terms-returns-in_err-one-clause-grows : goal.resolve::terms-returns-in_err-one-clause-grows
resolve::terms-returns-in_err-one-clause-grows = resolve.terms-returns-in_err-one-clause-grows

pub resolve::terms-returns-in_err-push-clause-grows : goal.resolve::terms-returns-in_err-push-clause-grows
resolve::terms-returns-in_err-push-clause-grows = resolve.terms-returns-in_err-push-clause-grows

pub resolve::factors-returns-in_err-one-clause-grows : goal.resolve::factors-returns-in_err-one-clause-grows
resolve::factors-returns-in_err-one-clause-grows = resolve.factors-returns-in_err-one-clause-grows

pub resolve::factors-returns-in_err-push-clause-grows : goal.resolve::factors-returns-in_err-push-clause-grows
resolve::factors-returns-in_err-push-clause-grows = resolve.factors-returns-in_err-push-clause-grows

pub resolve::resolve_node-returns-in-Whole-clause-grows : goal.resolve::resolve_node-returns-in-Whole-clause-grows
resolve::resolve_node-returns-in-Whole-clause-grows = resolve.resolve_node-returns-in-Whole-clause-grows

pub resolve::resolve_node-returns-in-Decimal-clause-grows : goal.resolve::resolve_node-returns-in-Decimal-clause-grows
resolve::resolve_node-returns-in-Decimal-clause-grows = resolve.resolve_node-returns-in-Decimal-clause-grows

pub resolve::resolve_node-returns-in-Str-clause-grows : goal.resolve::resolve_node-returns-in-Str-clause-grows
resolve::resolve_node-returns-in-Str-clause-grows = resolve.resolve_node-returns-in-Str-clause-grows

pub resolve::resolve_node-returns-in-Truth-clause-grows : goal.resolve::resolve_node-returns-in-Truth-clause-grows
resolve::resolve_node-returns-in-Truth-clause-grows = resolve.resolve_node-returns-in-Truth-clause-grows

pub resolve::resolve_node-returns-in-EndMark-clause-grows : goal.resolve::resolve_node-returns-in-EndMark-clause-grows
resolve::resolve_node-returns-in-EndMark-clause-grows = resolve.resolve_node-returns-in-EndMark-clause-grows

pub resolve::resolve_node-returns-in-Tuple-clause-grows : goal.resolve::resolve_node-returns-in-Tuple-clause-grows
resolve::resolve_node-returns-in-Tuple-clause-grows = resolve.resolve_node-returns-in-Tuple-clause-grows

pub resolve::resolve_node-returns-in-ArrayFor-clause-grows : goal.resolve::resolve_node-returns-in-ArrayFor-clause-grows
resolve::resolve_node-returns-in-ArrayFor-clause-grows = resolve.resolve_node-returns-in-ArrayFor-clause-grows

pub resolve::resolve_node-returns-in-Matrix-clause-grows : goal.resolve::resolve_node-returns-in-Matrix-clause-grows
resolve::resolve_node-returns-in-Matrix-clause-grows = resolve.resolve_node-returns-in-Matrix-clause-grows

pub selections::selection_at-returns-in_err-subs-clause-grows : goal.selections::selection_at-returns-in_err-subs-clause-grows
selections::selection_at-returns-in_err-subs-clause-grows = selections.selection_at-returns-in_err-subs-clause-grows

pub selections::selection_at-returns-clause-grows : goal.selections::selection_at-returns-clause-grows
selections::selection_at-returns-clause-grows = selections.selection_at-returns-clause-grows

pub selections::selections-returns-in_err-selection-clause-grows : goal.selections::selections-returns-in_err-selection-clause-grows
selections::selections-returns-in_err-selection-clause-grows = selections.selections-returns-in_err-selection-clause-grows

pub selections::selections-returns-in_err-member-clause-grows : goal.selections::selections-returns-in_err-member-clause-grows
selections::selections-returns-in_err-member-clause-grows = selections.selections-returns-in_err-member-clause-grows

pub selections::selections-returns-in_err-push-clause-grows : goal.selections::selections-returns-in_err-push-clause-grows
selections::selections-returns-in_err-push-clause-grows = selections.selections-returns-in_err-push-clause-grows

pub subscripts::numbers_of-returns-in_err-reads-clause-grows : goal.subscripts::numbers_of-returns-in_err-reads-clause-grows
subscripts::numbers_of-returns-in_err-reads-clause-grows = subscripts.numbers_of-returns-in_err-reads-clause-grows

pub subscripts::numbers_of-returns-in_err-known-clause-grows : goal.subscripts::numbers_of-returns-in_err-known-clause-grows
subscripts::numbers_of-returns-in_err-known-clause-grows = subscripts.numbers_of-returns-in_err-known-clause-grows

pub subscripts::numbers_of-returns-in_err-n-clause-grows : goal.subscripts::numbers_of-returns-in_err-n-clause-grows
subscripts::numbers_of-returns-in_err-n-clause-grows = subscripts.numbers_of-returns-in_err-n-clause-grows

pub subscripts::numbers_of-returns-in_err-push-clause-grows : goal.subscripts::numbers_of-returns-in_err-push-clause-grows
subscripts::numbers_of-returns-in_err-push-clause-grows = subscripts.numbers_of-returns-in_err-push-clause-grows

pub subscripts::subscript_in-returns-in_err-dims-clause-grows : goal.subscripts::subscript_in-returns-in_err-dims-clause-grows
subscripts::subscript_in-returns-in_err-dims-clause-grows = subscripts.subscript_in-returns-in_err-dims-clause-grows

pub subscripts::read_subscript-returns-in_default-clause-grows : goal.subscripts::read_subscript-returns-in_default-clause-grows
subscripts::read_subscript-returns-in_default-clause-grows = subscripts.read_subscript-returns-in_default-clause-grows

pub subscripts::read_subscript-returns-clause-grows : goal.subscripts::read_subscript-returns-clause-grows
subscripts::read_subscript-returns-clause-grows = subscripts.read_subscript-returns-clause-grows

pub subscripts::subscript_at-returns-in-None-clause-grows : goal.subscripts::subscript_at-returns-in-None-clause-grows
subscripts::subscript_at-returns-in-None-clause-grows = subscripts.subscript_at-returns-in-None-clause-grows

pub subscripts::read_subscripts-returns-in_err-sub-clause-grows : goal.subscripts::read_subscripts-returns-in_err-sub-clause-grows
subscripts::read_subscripts-returns-in_err-sub-clause-grows = subscripts.read_subscripts-returns-in_err-sub-clause-grows

pub subscripts::read_subscripts-returns-in_err-push-clause-grows : goal.subscripts::read_subscripts-returns-in_err-push-clause-grows
subscripts::read_subscripts-returns-in_err-push-clause-grows = subscripts.read_subscripts-returns-in_err-push-clause-grows

pub variables::element_known-returns-then-not-is_read-clause-grows : goal.variables::element_known-returns-then-not-is_read-clause-grows
variables::element_known-returns-then-not-is_read-clause-grows = variables.element_known-returns-then-not-is_read-clause-grows

pub variables::element_known-returns-then-left-eq0-clause-grows : goal.variables::element_known-returns-then-left-eq0-clause-grows
variables::element_known-returns-then-left-eq0-clause-grows = variables.element_known-returns-then-left-eq0-clause-grows

pub variables::element_known-returns-in-Some-clause-grows : goal.variables::element_known-returns-in-Some-clause-grows
variables::element_known-returns-in-Some-clause-grows = variables.element_known-returns-in-Some-clause-grows

pub variables::variable_known-returns-in-Some-Division-clause-grows : goal.variables::variable_known-returns-in-Some-Division-clause-grows
variables::variable_known-returns-in-Some-Division-clause-grows = variables.variable_known-returns-in-Some-Division-clause-grows

pub variables::variable_known-returns-in-None-clause-grows : goal.variables::variable_known-returns-in-None-clause-grows
variables::variable_known-returns-in-None-clause-grows = variables.variable_known-returns-in-None-clause-grows

pub variables::known_in-returns-in_err-reads-clause-grows : goal.variables::known_in-returns-in_err-reads-clause-grows
variables::known_in-returns-in_err-reads-clause-grows = variables.known_in-returns-in_err-reads-clause-grows
