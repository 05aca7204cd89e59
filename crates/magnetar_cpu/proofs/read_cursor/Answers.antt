-- `magnetar_cpu::read_cursor` meets its contract: the cursor at the image's checkpoint, with the image's count of cycles. Assumes nothing.
use mathlib.Core.Path.{ap}
use native.Mathlib.Omega.{arith}
use lib.ListN.{length, get_or, drop, length-take, length-drop}
use Rattle.interp.specs.declared.Cursor.{Cursor}
use Rattle.interp.specs.Laws.{uncounted}
use Rattle.checkpoint.specs.Checkpoint.{cursor_at}
use Rattle.magnetar_cpu.specs.Image.{cursor_of}
use Rattle.magnetar_cpu.proofs.read_cursor.Goals as goal

pub copy_from_slice-requires : goal.copy_from_slice-requires
unfolding cursor_of cursor_at uncounted
copy_from_slice-requires c =
    let regs = ap (λ (u : Cursor). length u.regs) c.read_checkpoint-counted.ensures in
    omega (arith, regs, length-take 64 c.args.image.now)

pub copy_from_slice-requires-2 : goal.copy_from_slice-requires-2
unfolding cursor_of cursor_at uncounted
copy_from_slice-requires-2 c =
    let ram = ap (λ (u : Cursor). length u.ram) c.read_checkpoint-counted.ensures in
    omega (arith, ram, length-take 256 (drop 64 c.args.image.now), length-drop 64 c.args.image.now)

pub returns : goal.returns
unfolding cursor_of cursor_at uncounted
returns c =
    rw (c.copy_from_slice.ensures.after, c.copy_from_slice-2.ensures.after)
    (ap
    (λ (u : Cursor). record {
      regs = u.regs;
      ram = u.ram;
      micro_pc = u.micro_pc;
      cycles = get_or c.args.image.now 321 0;
      halted = u.halted;
      output = u.output;
      next_fetch = u.next_fetch;
    })
    c.read_checkpoint-counted.ensures)
