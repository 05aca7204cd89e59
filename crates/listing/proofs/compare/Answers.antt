use Rattle.std.proofs.Common.{◌∙◌, arith}
use Rattle.listing.proofs.Laws.{dot_passed, place_same, place_differs, all_passed}
use Rattle.listing.proofs.compare.Goals as goal
use Rattle.listing.proofs.compare.Goals.{then-stored-i-ne46+else-stored-i, else-stored-i-ne46}

pub returns-then-stored-i : goal.returns-then-stored-i
returns-then-stored-i c =
    let l = c.loop-i in
    place_differs c.args.stored.now c.args.made.now l.i l.n (omega arith) c.if-stored-i-ne46.true c.if-stored-i.true ∙ l.invariant.1

pub loop-i-preserved : goal.loop-i-preserved
loop-i-preserved c =
    let s = c.args.stored.now in
    let m = c.args.made.now in
    let l = c.loop-i in
    elim c.if-stored-i-ne46.branch [
      | then-stored-i-ne46+else-stored-i w ↦
          (omega arith, rw w.n-is (place_same s m l.i l.n (omega arith) w.if-stored-i-ne46.true w.if-stored-i.false ∙ l.invariant.1))
      | else-stored-i-ne46 w ↦ (omega arith, rw w.n-is (dot_passed s m l.i l.n (omega arith) w.if-stored-i-ne46.false ∙ l.invariant.1))
    ]

pub returns : goal.returns
returns c = all_passed _ _ c.loop-i.i _ (omega arith) ∙ c.loop-i.invariant.1
