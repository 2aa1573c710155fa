-- One front after another.
use Rattle.std.proofs.Common.{◌+◌, [], map, take, ap, ◌∙◌}
use Rattle.std.specs.Prelude.{not}
use Rattle.std.specs.List.{list_any}
use Rattle.std.proofs.lemmas.List.{take_all}
use Rattle.mo_scope.specs.Frames.{Listing, listing_eq}
use Rattle.mo_scope.specs.Sights.{listing_seen}
use Rattle.mo_scope.proofs.Keys.{path_key_more}
use Rattle.mo_mods.specs.Passes.{all_finals, is_path_of}
use Rattle.mo_mods.specs.PathSights.{claim_seen, lists_held}
use Rattle.mo_mods.proofs.Passing.{fronts, below_fronts, front_tested, or_false}
use Rattle.mo_mods.proofs.passes.is_below.Goals as goal

pub loop-name-init : goal.loop-name-init
loop-name-init c = (
  c.new-key.ensures,
  λ after has.
      let is_other = λ (other : Listing). not (listing_eq other (listing_seen c.args.listing.now)) in
      c.has_other-is.ensures ∙ ap (λ key. list_any is_other (lists_held c.args.finals.now key)) (c.as_slice.ensures ∙ c.new-key.ensures)
      ∙ has [] is_other ∙ or_false (is_path_of is_other [] (all_finals after)),
)

pub loop-name-preserved : goal.loop-name-preserved
loop-name-preserved c =
    let key_is = c.in_ok-write_name.ensures
    ∙ path_key_more (λ name. name.now) c.as_slice-name-items.result.now c.loop-name.name-index c.name-item.result c.loop-name.key c.loop-name-test.true c.name-item.is c.loop-name.invariant.0 in (
      key_is,
      λ after has.
          let is_other = λ (other : Listing). not (listing_eq other (listing_seen c.args.listing.now)) in
          c.either-is.ensures
          ∙ front_tested (λ name. name.now) c.as_slice-name-items.result.now c.loop-name.name-index c.name-item.result c.loop-name-test.true c.name-item.is
          (λ front. is_path_of is_other front (all_finals after)) c.loop-name.is c.has_other.result (c.loop-name.invariant.1 after has)
          (c.has_other.ensures ∙ ap (λ key. list_any is_other (lists_held c.args.finals.now key)) (c.as_slice-in-loop-name.ensures ∙ key_is)
          ∙ has (map (λ name. name.now) (take (c.loop-name.name-index + 1) c.as_slice-name-items.result.now)) is_other),
    )

pub returns : goal.returns
returns c = λ after has.
    c.loop-name.invariant.1 after has
    ∙ ap (λ names. list_any (λ front. is_path_of (λ other. not (listing_eq other (listing_seen c.args.listing.now))) front (all_finals after)) (fronts (map (λ name. name.now) names)))
    (take_all c.loop-name.name-index c.as_slice-name-items.result.now c.loop-name-test.false ∙ c.as_slice-name-items.ensures)
    ∙ below_fronts after (listing_seen c.args.listing.now) (claim_seen c.args.claim.now)
