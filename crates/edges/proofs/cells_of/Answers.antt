use Rattle.std.proofs.Common.{◌∙◌, ℕ, List, ◌++◌, drop, replicate, arith}
use mathlib.Core.Path.{ap₂}
use borrow.Rule.Slice.PartMut.{put_mid}
use Rattle.edges.proofs.Lists.{placed}
use Rattle.edges.proofs.cells_of.Goals as goal

pub returns : goal.returns
returns c =
    ap₂ (λ (a b : List ℕ). put_mid 64 256 (a ++ drop 64 (replicate {A = ℕ} 320 0)) b) c.copy_from_slice.ensures.after c.copy_from_slice-2.ensures.after
    ∙ placed c.args.cursor.regs c.args.cursor.ram (replicate 320 0) 64 256 (omega arith) (omega arith) (omega arith)
