-- `lines::put_refused` meets its contract. Assumes nothing.
use mathlib.Core.Path.{refl, sym}
use mathlib.Core.List.{[], ◌++◌, append-nil}
use Prim.Native.Nat.{◌≤◌}
use native.Mathlib.Omega.{arith}
use borrow.Rule.Slice.PartMut.{post_of}
use lib.ListN.{length}
use Rattle.lines.specs.Text.{codes}
use Rattle.lines.specs.Lines.{number_text, refused_text}
use Rattle.lines.proofs.Laws.{Put, first_put, part_fits, part_put, all_put, refused_fits}
use Rattle.lines.proofs.put_refused.Goals as goal
use Rattle.lines.proofs.put_refused.Goals.{After-copy_from_slice}

-- the name is put, and the number is left
name_put : (c : After-copy_from_slice) → Put c.args.out.now (c.copy_from_slice.new.self ++ post_of 0 8 c.args.out.now) 8 (refused_text c.args.number) (number_text c.args.number 10)
unfolding refused_text
name_put c = first_put (codes "refused,") _ refl (rw c.copy_from_slice.ensures.after)

room : (c : After-copy_from_slice) → length (refused_text c.args.number) ≤ length c.args.out.now
room c = omega (arith, refused_fits c.args.number)

pub put_number-requires : goal.put_number-requires
put_number-requires c =
    let d = (goal.at.put_number-requires c).After-copy_from_slice in
    part_fits (number_text c.args.number 10) [] (name_put d) (sym (append-nil _)) (room d) 91447 (omega arith)

pub returns : goal.returns
returns c =
    let d = (goal.at.returns c).After-copy_from_slice in
    let put = c.put_number.ensures in
    let all = all_put (part_put (number_text c.args.number 10) [] (name_put d) (sym (append-nil _)) (room d) 91447 (omega arith) put.length put.text) in
    record { length = all.0; text = all.1 }
