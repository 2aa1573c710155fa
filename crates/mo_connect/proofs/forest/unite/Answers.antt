use Rattle.std.proofs.Common.{arith}
use Rattle.mo_connect.proofs.ForestLemmas.{shortens_twice, climbs_through, root_stays, unites_at, unites_swap}
use Rattle.mo_connect.proofs.forest.unite.Goals as goal

pub returns-then-low-high : goal.returns-then-low-high
returns-then-low-high c =
    let first = c.root-low.ensures in
    let second = c.root-high.ensures in
    unites_at _ _ _ _ _ _ (shortens_twice _ _ _ first.shortens second.shortens) first.climbs (climbs_through _ _ first.shortens.size first.shortens.climbs second.climbs)
    (λ f constant. first.same f (second.shortens.constant f constant)) second.same second.root (omega arith) (omega (arith, first.shortens.size, second.shortens.size))

pub returns-else-low-high : goal.returns-else-low-high
returns-else-low-high c =
    let first = c.root-low.ensures in
    let second = c.root-high.ensures in
    unites_swap _ _ _ _
    (unites_at _ _ _ _ _ _ (shortens_twice _ _ _ first.shortens second.shortens) (climbs_through _ _ first.shortens.size first.shortens.climbs second.climbs) first.climbs second.same
    (λ f constant. first.same f (second.shortens.constant f constant))
    (root_stays _ _ _ (omega (arith, first.shortens.size)) second.shortens first.root) (omega arith) (omega (arith, first.shortens.size, second.shortens.size)))
