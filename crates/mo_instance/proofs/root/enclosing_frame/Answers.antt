-- One name after another.
use Rattle.std.proofs.Common.{◌≡◌, ◌+◌, ◌++◌, ◌∷◌, [], ℕ, List, Bor, take, drop, ap, sym, ◌∙◌, arith}
use Rattle.std.specs.Prelude.{find, option_map}
use Rattle.std.proofs.lemmas.List.{drop_all, map-append, take_more}
use Rattle.mo_scope.specs.Entries.{number_of}
use Rattle.mo_scope.specs.Rows.{Table}
use Rattle.mo_scope.specs.Worlds.{frame_or_top, frames_of, table_in}
use Rattle.mo_names.proofs.Later.{grows_trans, table_later}
use Rattle.mo_names.proofs.Reading.{at_element}
use Rattle.mo_instance.specs.Instances.{enclosing, inside, is_placed}
use Rattle.mo_instance.specs.steps.Roots.{names_seen}
use Rattle.mo_instance.proofs.Rooting.{enclosed_by}
use Rattle.mo_instance.proofs.root.enclosing_frame.Goals as goal

pub loop-at-preserved : goal.loop-at-preserved
loop-at-preserved c =
    let u = c.args.s.now in
    let v = c.loop-at.s in
    let w = c.inside_frame.new.s in
    let T = table_in u in
    let xs = c.args.path.now in
    let name = c.index-path-at.result in
    let outer = frame_or_top (frames_of v) (option_map number_of c.loop-at.outer) in
    let next = frame_or_top (frames_of w) (option_map number_of c.in_ok-outer.outer) in
    let behind : names_seen (drop c.loop-at.at xs) ≡ name.now ∷ names_seen (drop (c.loop-at.at + 1) xs) = ap names_seen (at_element xs c.loop-at.at name (omega arith) c.index-path-at.is) in
    let before : names_seen (take (c.loop-at.at + 1) xs) ≡ names_seen (take c.loop-at.at xs) ++ name.now ∷ []
    = ap names_seen (take_more xs c.loop-at.at name (omega arith) ∙ ap (λ (n : Bor (List ℕ)). take c.loop-at.at xs ++ n ∷ []) (sym c.index-path-at.is)) ∙ map-append (λ (n : Bor (List ℕ)). n.now) (take c.loop-at.at xs) (name ∷ []) in
    record {
      grows = grows_trans u v w c.loop-at.invariant.grows c.in_ok-outer.ensures.grows;
      stand = c.in_ok-outer.ensures.exists;
      left = ap (λ ns. enclosing T next ns (names_seen (drop (c.loop-at.at + 1) xs))) before
          ∙ enclosed_by T outer next (names_seen (take c.loop-at.at xs)) name.now (names_seen (drop (c.loop-at.at + 1) xs)) _
          (c.in_ok-outer.ensures.is ∙ ap (λ (t : Table). inside outer (find (is_placed (names_seen (take c.loop-at.at xs)) name.now) t)) (table_later u v c.loop-at.invariant.grows))
          (ap (enclosing T outer (names_seen (take c.loop-at.at xs))) (sym behind) ∙ c.loop-at.invariant.left);
    }

pub returns-clause-is : goal.returns-clause-is
returns-clause-is c =
    let outer = frame_or_top (frames_of c.loop-at.s) (option_map number_of c.loop-at.outer) in
    ap (λ (xs : List (Bor (List ℕ))). enclosing (table_in c.args.s.now) outer (names_seen (take c.loop-at.at c.args.path.now)) (names_seen xs)) (sym (drop_all c.loop-at.at c.args.path.now (omega arith)))
    ∙ c.loop-at.invariant.left
