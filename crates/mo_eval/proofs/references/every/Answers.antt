use Rattle.std.proofs.Common.{◌≡◌, ◌++◌, ◌∷◌, [], rules}
use Rattle.mo_flat.specs.declared.array.Subscript.TheVariants.{All}
use Rattle.mo_eval.proofs.Handing.{every_more}
use Rattle.mo_eval.proofs.references.every.Goals as goal

pub loop-size-preserved : goal.loop-size-preserved
loop-size-preserved c =
    let pushed : c.push.new.self ≡ c.loop-size.made ++ All ∷ [] = search rules in
    rw pushed (every_more c.args.dims.now c.loop-size._size-index 0 c.loop-size.made c.loop-size-test.true c.loop-size.invariant)
