-- `interp::store_arm` meets its contract. Assumes nothing.
use Rattle.interp.specs.Cycle.{store_arm}
use Rattle.interp.proofs.arms.store_arm.Goals as goal

pub returns : goal.returns
unfolding store_arm
returns c = simp (c.plain.ensures, c.keeps_cell.ensures, c.showing-shown.ensures, c.store_width.ensures, c.store_value-new.ensures, c.byte_offset_of-off.ensures, c.ram_addr_of-addr.ensures, c.address_of-address.ensures)
